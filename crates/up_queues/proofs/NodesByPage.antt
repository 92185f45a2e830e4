-- Nodes by their pages: found, put in, taken out.
use Rattle.std.proofs.Common.{◌≡◌, ℕ, ◌+◌, ◌==◌, cond, Bool, true, false, Option, Some, None, List, [], ◌∷◌, ◌++◌, length, refl, sym, ◌∙◌, ap, subst, arith, inl, inr}
use Rattle.std.specs.Prelude.{IsTrue, is_some, ◌⊎◌}
use Rattle.std.specs.Option.{option_map}
use Rattle.std.proofs.lemmas.Bool.Decides.{nat_tests}
use Rattle.std.proofs.lemmas.List.{length-append, map-append}
use Rattle.up_queues.specs.declared.queued.Queued.{Queued}
use Rattle.up_queues.specs.Queue.{find_page, goes_first, colder, precedes, Each, InOrder}
use Rattle.up_queues.specs.Lists.{Node, items_of, EachNode, find_node}
use Rattle.up_queues.proofs.OrderedItems.{put_between, taken_between, no_other}

pub find_items : (ns : List Node) (p : ℕ) → find_page (items_of ns) p ≡ option_map (λ (n : Node). n.item) (find_node ns p)
find_items [] p = refl
find_items (n ∷ ns) p =
    elim (n.item.page.0 == p) as (λ b. cond b (Some n.item) (find_page (items_of ns) p) ≡ option_map (λ (n : Node). n.item) (cond b (Some n) (find_node ns p))) [
      | true ↦ refl
      | false ↦ find_items ns p
    ]

unmapped_none : (r : Option Node) → option_map (λ (n : Node). n.item) r ≡ None → r ≡ None
unmapped_none None e = refl
unmapped_none (Some n) e = absurd (let wrong : ◌≡◌ {A = Option Queued} (Some n.item) None = e in cc)

pub node_none : (ns : List Node) (p : ℕ) → find_page (items_of ns) p ≡ None → find_node ns p ≡ None
node_none ns p e = unmapped_none (find_node ns p) (sym (find_items ns p) ∙ e)

pub no_node : (ns : List Node) (p : ℕ) → find_node ns p ≡ None → EachNode (λ n. (n.item.page.0 == p) ≡ false) ns
no_node [] p f = tt
no_node (x ∷ xs) p f =
    elim (x.item.page.0 == p) as (λ b. cond b (Some x) (find_node xs p) ≡ None → (b ≡ false) × EachNode (λ n. (n.item.page.0 == p) ≡ false) xs) [
      | true ↦ λ same. absurd (let wrong : ◌≡◌ {A = Option Node} (Some x) None = same in cc)
      | false ↦ λ same. (refl, no_node xs p same)
    ] f

pub none_in : (ns : List Node) (p : ℕ) → EachNode (λ n. (n.item.page.0 == p) ≡ false) ns → find_node ns p ≡ None
none_in [] p e = refl
none_in (x ∷ xs) p e = rw e.0 (none_in xs p e.1)

pub node_found : (P : Node → Type 0) (ns : List Node) (p : ℕ) (n : Node) → EachNode P ns → find_node ns p ≡ Some n → P n
node_found P [] p n e f = absurd (let wrong : ◌≡◌ {A = Option Node} None (Some n) = f in cc)
node_found P (x ∷ xs) p n e f =
    elim (x.item.page.0 == p) as (λ b. cond b (Some x) (find_node xs p) ≡ Some n → P n) [
      | true ↦ λ same. let is : x ≡ n = (let both : ◌≡◌ {A = Option Node} (Some x) (Some n) = same in cc) in subst P is e.0
      | false ↦ λ same. node_found P xs p n e.1 same
    ] f

pub node_page : (ns : List Node) (p : ℕ) (n : Node) → find_node ns p ≡ Some n → n.item.page.0 ≡ p
node_page [] p n f = absurd (let wrong : ◌≡◌ {A = Option Node} None (Some n) = f in cc)
node_page (x ∷ xs) p n f =
    elim (x.item.page.0 == p) as (λ b. (x.item.page.0 == p) ≡ b → cond b (Some x) (find_node xs p) ≡ Some n → n.item.page.0 ≡ p) [
      | true ↦ λ e same.
          let is : x ≡ n = (let both : ◌≡◌ {A = Option Node} (Some x) (Some n) = same in cc) in
          let own : x.item.page.0 ≡ p = grind (arith, nat_tests) in
          ap (λ (m : Node). m.item.page.0) (sym is) ∙ own
      | false ↦ λ e same. node_page xs p n same
    ] refl f

pub in_either : (a b : List Node) (p : ℕ) (n : Node) → find_node (a ++ b) p ≡ Some n → (find_node a p ≡ Some n) ⊎ (find_node b p ≡ Some n)
in_either [] b p n f = inr f
in_either (x ∷ a) b p n f =
    elim (x.item.page.0 == p) as (λ t. cond t (Some x) (find_node (a ++ b) p) ≡ Some n → (cond t (Some x) (find_node a p) ≡ Some n) ⊎ (find_node b p ≡ Some n)) [
      | true ↦ λ same. inl same
      | false ↦ λ same. in_either a b p n same
    ] f

-- a node, and those on both sides of it
pub record Among (ns : List Node) (n : Node) : Type 0 where
  pub left : List Node
  pub right : List Node
  pub is : ns ≡ left ++ n ∷ right

pub among : (ns : List Node) (p : ℕ) (n : Node) → find_node ns p ≡ Some n → Among ns n
among [] p n f = absurd (let wrong : ◌≡◌ {A = Option Node} None (Some n) = f in cc)
among (x ∷ xs) p n f =
    elim (x.item.page.0 == p) as (λ b. cond b (Some x) (find_node xs p) ≡ Some n → Among (x ∷ xs) n) [
      | true ↦ λ same.
          let is : x ≡ n = (let both : ◌≡◌ {A = Option Node} (Some x) (Some n) = same in cc) in
          record { left = []; right = xs; is = ap (λ z. z ∷ xs) is }
      | false ↦ λ same.
          let rest : Among xs n = among xs p n same in
          record { left = x ∷ rest.left; right = rest.right; is = ap (λ l. x ∷ l) rest.is }
    ] f

past : (s t : Bool) (u v r rest : Option Node) → (s ≡ true → t ≡ true → ⊥) → rest ≡ cond t v r → cond s u rest ≡ cond t v (cond s u r)
past true true u v r rest apart e = absurd (apart refl refl)
past true false u v r rest apart e = refl
past false t u v r rest apart e = e

without : (t : Bool) (x : Node) (r rest : Option Node) → rest ≡ cond t (Some x) r → (t ≡ true → r ≡ None) → r ≡ cond t None rest
without true x r rest e h = h refl
without false x r rest e h = sym e

two_pages : (m k p : ℕ) → (m == k) ≡ false → (m == p) ≡ true → (k == p) ≡ true → ⊥
two_pages m k p f s t = grind (arith, nat_tests)

node_put : (a : List Node) (n : Node) (b : List Node) → EachNode (λ m. (m.item.page.0 == n.item.page.0) ≡ false) (a ++ b) → (p : ℕ)
    → find_node (a ++ n ∷ b) p ≡ cond (n.item.page.0 == p) (Some n) (find_node (a ++ b) p)
node_put [] n b e p = refl
node_put (m ∷ a) n b e p =
    past (m.item.page.0 == p) (n.item.page.0 == p) (Some m) (Some n) (find_node (a ++ b) p) (find_node (a ++ n ∷ b) p)
    (two_pages m.item.page.0 n.item.page.0 p e.0) (node_put a n b e.1 p)

items_append : (a b : List Node) → items_of (a ++ b) ≡ items_of a ++ items_of b
items_append a b = map-append (λ (n : Node). n.item) a b

alone : (a : List Node) (n : Node) (b : List Node) → InOrder (items_of (a ++ n ∷ b)) → find_node (a ++ b) n.item.page.0 ≡ None
alone a n b o =
    node_none (a ++ b) n.item.page.0 (ap (λ l. find_page l n.item.page.0) (items_append a b) ∙ no_other (items_of a) n.item (items_of b) (subst InOrder (items_append a (n ∷ b)) o))

-- nodes after one was put in, and after one was taken out
pub record NodesPut (old new : List Node) (n : Node) : Type 0 where
  pub ordered : InOrder (items_of new)
  pub pages : (p : ℕ) → find_node new p ≡ cond (n.item.page.0 == p) (Some n) (find_node old p)
  pub count : length new ≡ length old + 1

pub record NodesTaken (old new : List Node) (n : Node) : Type 0 where
  pub ordered : InOrder (items_of new)
  pub pages : (p : ℕ) → find_node new p ≡ cond (n.item.page.0 == p) None (find_node old p)
  pub count : length new + 1 ≡ length old

put_here : (a : List Node) (n : Node) (b : List Node) → InOrder (items_of (a ++ b)) → find_node (a ++ b) n.item.page.0 ≡ None
    → Each (λ other. IsTrue (precedes other n.item)) (items_of a) → Each (λ other. IsTrue (precedes n.item other)) (items_of b) → NodesPut (a ++ b) (a ++ n ∷ b) n
put_here a n b o f low high = record {
  ordered = subst InOrder (sym (items_append a (n ∷ b))) (put_between (items_of a) n.item (items_of b) (subst InOrder (items_append a b) o) low high);
  pages = node_put a n b (no_node (a ++ b) n.item.page.0 f);
  count = length-append a (n ∷ b) ∙ omega (arith, length-append a b);
}

pub nodes_put : (old new a : List Node) (n : Node) (b : List Node) → old ≡ a ++ b → new ≡ a ++ n ∷ b → InOrder (items_of old) → find_node old n.item.page.0 ≡ None
    → Each (λ other. IsTrue (precedes other n.item)) (items_of a) → Each (λ other. IsTrue (precedes n.item other)) (items_of b) → NodesPut old new n
nodes_put old new a n b is made o f low high =
    let here : NodesPut (a ++ b) (a ++ n ∷ b) n = put_here a n b (subst (λ l. InOrder (items_of l)) is o) (subst (λ l. find_node l n.item.page.0 ≡ None) is f) low high in
    subst (λ l. NodesPut l new n) (sym is) (subst (λ l. NodesPut (a ++ b) l n) (sym made) here)

taken_here : (a : List Node) (n : Node) (b : List Node) → InOrder (items_of (a ++ n ∷ b)) → NodesTaken (a ++ n ∷ b) (a ++ b) n
taken_here a n b o =
    let none : find_node (a ++ b) n.item.page.0 ≡ None = alone a n b o in
    record {
      ordered = subst InOrder (sym (items_append a b)) (taken_between (items_of a) n.item (items_of b) (subst InOrder (items_append a (n ∷ b)) o));
      pages = λ p. without (n.item.page.0 == p) n (find_node (a ++ b) p) (find_node (a ++ n ∷ b) p) (node_put a n b (no_node (a ++ b) n.item.page.0 none) p)
          (λ t. let same : n.item.page.0 ≡ p = grind (arith, nat_tests) in subst (λ q. find_node (a ++ b) q ≡ None) same none);
      count = let long : length (a ++ n ∷ b) ≡ length a + length (n ∷ b) = length-append a (n ∷ b) in omega (arith, long, length-append a b);
    }

pub nodes_taken : (old new a : List Node) (n : Node) (b : List Node) → old ≡ a ++ n ∷ b → new ≡ a ++ b → InOrder (items_of old) → NodesTaken old new n
nodes_taken old new a n b is left o =
    let here : NodesTaken (a ++ n ∷ b) (a ++ b) n = taken_here a n b (subst (λ l. InOrder (items_of l)) is o) in
    subst (λ l. NodesTaken l new n) (sym is) (subst (λ l. NodesTaken (a ++ n ∷ b) l n) (sym left) here)

-- a cold item goes before one that isn't

colder_is : (c d : Option ℕ) (next : Bool) → is_some c ≡ true → is_some d ≡ false → colder c d next ≡ true
colder_is None d next p q = absurd (let wrong : false ≡ true = p in cc)
colder_is (Some m) None next p q = refl
colder_is (Some m) (Some n) next p q = absurd (let wrong : true ≡ false = q in cc)

pub cold_precedes : (x y : Queued) → is_some x.cold ≡ true → is_some y.cold ≡ false → (x.page.0 == y.page.0) ≡ false → precedes x y ≡ true
cold_precedes x y p q d =
    let first : goes_first x y ≡ true = colder_is x.cold y.cold _ p q in
    rw (first, d) refl
