-- The queues after each call.
use Rattle.std.proofs.Common.{◌≡◌, ℕ, suc, ◌+◌, ◌==◌, ◌<◌, ◌≤◌, cond, Bool, true, false, Option, Some, None, List, [], ◌∷◌, length, refl, sym, ◌∙◌, ap, subst, arith}
use Rattle.std.specs.Prelude.{IsSome, is_some, count_by, OnErr, Result, Ok, Err}
use Rattle.std.specs.Option.{option_map}
use Rattle.std.proofs.lemmas.Bool.Decides.{nat_tests}
use Rattle.slab.specs.Slab.{Slab, get, slab_len, ContainsKey}
use Rattle.up_queues.specs.declared.queued.Queued.{Queued}
use Rattle.up_queues.specs.declared.lists.QueueEntry.{QueueEntry}
use Rattle.up_queues.specs.declared.lists.Lists.{Lists}
use Rattle.up_queues.specs.declared.seats.Seat.{Seat}
use Rattle.up_queues.specs.Queue.{find_page, InOrder}
use Rattle.up_queues.specs.Lists.{Node, items_of, find_node, items_in, AreLists, nodes_in, Put, Taken}
use Rattle.up_queues.specs.Seats.{Rising, seat_key, AreQueues}
use Rattle.up_queues.proofs.NodesByPage.{find_items, node_found, node_page}
use Rattle.up_queues.proofs.ListWalks.{items_are}
use Rattle.up_queues.proofs.BothLists.{all_holding}

-- what the queues show

pub shown : (lists : Lists) (are : AreLists lists) (p : ℕ) → find_page (items_in lists) p ≡ option_map (λ (n : Node). n.item) (find_node (nodes_in are) p)
shown lists are p = ap (λ l. find_page l p) (items_are lists are) ∙ find_items (nodes_in are) p

pub in_order : (lists : Lists) (are : AreLists lists) → InOrder (items_in lists)
in_order lists are = subst InOrder (sym (items_are lists are)) are.ordered

length_items : (ns : List Node) → length (items_of ns) ≡ length ns
length_items [] = refl
length_items (n ∷ ns) = ap suc (length_items ns)

pub many_items : (lists : Lists) (are : AreLists lists) → length (items_in lists) ≡ slab_len lists.entries
many_items lists are = ap length (items_are lists are) ∙ (length_items (nodes_in are) ∙ sym are.count)

-- a page by its seat

pub record Found (lists : Lists) (are : AreLists lists) (p key : ℕ) : Type 0 where
  pub node : Node
  pub found : find_node (nodes_in are) p ≡ Some node
  pub own : node.key ≡ key
  pub page : node.item.page.0 ≡ p
  pub itself : find_node (nodes_in are) node.item.page.0 ≡ Some node
  pub item : option_map (λ (e : QueueEntry). e.item) (get lists.entries key) ≡ Some node.item

pub found_at : (lists : Lists) (seats : List Seat) (capacity room : ℕ) (q : AreQueues lists seats capacity room) (p key : ℕ) → Some key ≡ seat_key seats p → Found lists q.are p key
found_at lists seats capacity room q p key s =
    elim (find_node (nodes_in q.are) p) as (λ r. find_node (nodes_in q.are) p ≡ r → Some key ≡ option_map (λ (n : Node). n.key) r → Found lists q.are p key) [
      | None ↦ λ e k. absurd (let wrong : ◌≡◌ {A = Option ℕ} (Some key) None = k in cc)
      | Some node ↦ λ e k.
          let own : node.key ≡ key = (let both : ◌≡◌ {A = Option ℕ} (Some key) (Some node.key) = k in cc) in
          let held : option_map (λ (x : QueueEntry). x.item) (get lists.entries node.key) ≡ Some node.item =
          node_found (λ n. option_map (λ (x : QueueEntry). x.item) (get lists.entries n.key) ≡ Some n.item) (nodes_in q.are) p node (all_holding lists q.are) e in
          record {
            node = node;
            found = e;
            own = own;
            page = node_page (nodes_in q.are) p node e;
            itself = subst (λ n. find_node (nodes_in q.are) n ≡ Some node) (sym (node_page (nodes_in q.are) p node e)) e;
            item = subst (λ k. option_map (λ (x : QueueEntry). x.item) (get lists.entries k) ≡ Some node.item) own held;
          }
    ] refl (s ∙ q.seated p)

is_there : (r : Option QueueEntry) (item : Queued) → option_map (λ (x : QueueEntry). x.item) r ≡ Some item → IsSome r
is_there None item e = absurd (let wrong : ◌≡◌ {A = Option Queued} None (Some item) = e in cc)
is_there (Some x) item e = refl

pub contains : (lists : Lists) (are : AreLists lists) (p key : ℕ) → Found lists are p key → ContainsKey lists.entries key
contains lists are p key f = is_there (get lists.entries key) f.node.item f.item

pub shows : (lists : Lists) (are : AreLists lists) (p key : ℕ) (f : Found lists are p key) → find_page (items_in lists) p ≡ Some f.node.item
shows lists are p key f = shown lists are p ∙ ap (option_map (λ (n : Node). n.item)) f.found

pub unseated : (lists : Lists) (seats : List Seat) (capacity room : ℕ) (q : AreQueues lists seats capacity room) (p : ℕ) → None ≡ seat_key seats p → find_node (nodes_in q.are) p ≡ None
unseated lists seats capacity room q p s = unkeyed (find_node (nodes_in q.are) p) (s ∙ q.seated p)
  where
    unkeyed : (r : Option Node) → None ≡ option_map (λ (n : Node). n.key) r → r ≡ None
    unkeyed None e = refl
    unkeyed (Some n) e = absurd (let wrong : ◌≡◌ {A = Option ℕ} None (Some n.key) = e in cc)

pub shows_none : (lists : Lists) (seats : List Seat) (capacity room : ℕ) (q : AreQueues lists seats capacity room) (p : ℕ) → None ≡ seat_key seats p → find_page (items_in lists) p ≡ None
shows_none lists seats capacity room q p s = shown lists q.are p ∙ ap (option_map (λ (n : Node). n.item)) (unseated lists seats capacity room q p s)

-- a page that isn't there is left alone
pub unchanged : (f : Queued → Queued) (page : ℕ) (old : ℕ → Option Queued) → old page ≡ None → (p : ℕ) → old p ≡ cond (page == p) (option_map f (old p)) (old p)
unchanged f page old none p =
    elim (page == p) as (λ b. (page == p) ≡ b → old p ≡ cond b (option_map f (old p)) (old p)) [
      | true ↦ λ e. let same : page ≡ p = grind (arith, nat_tests) in (let here : old p ≡ None = subst (λ q. old q ≡ None) same none in rw here refl)
      | false ↦ λ e. refl
    ] refl

pub still_none : (page : ℕ) (old : ℕ → Option Queued) → old page ≡ None → (p : ℕ) → old p ≡ cond (page == p) None (old p)
still_none page old none p =
    elim (page == p) as (λ b. (page == p) ≡ b → old p ≡ cond b None (old p)) [
      | true ↦ λ e. let same : page ≡ p = grind (arith, nat_tests) in subst (λ q. old q ≡ None) same none
      | false ↦ λ e. refl
    ] refl

-- the queues that stand, and what they show
pub record QueuesAre (lists : Lists) (seats : List Seat) (capacity room : ℕ) (now : ℕ → Option Queued) : Type 0 where
  pub queues : AreQueues lists seats capacity room
  pub pages : (p : ℕ) → find_page (items_in lists) p ≡ now p
  pub ordered : InOrder (items_in lists)

key_kept : (t : Bool) (old mid new : Option Node) (n m : Node) → (t ≡ true → old ≡ Some n) → mid ≡ cond t None old → new ≡ cond t (Some m) mid → n.key ≡ m.key
    → option_map (λ (x : Node). x.key) old ≡ option_map (λ (x : Node). x.key) new
key_kept true old mid new n m here out into same = ap (option_map (λ (x : Node). x.key)) (here refl) ∙ (ap (λ k. Some k) same ∙ sym (ap (option_map (λ (x : Node). x.key)) into))
key_kept false old mid new n m here out into same = ap (option_map (λ (x : Node). x.key)) (sym (into ∙ out))

item_put : (t : Bool) (old mid new : Option Node) (m : Node) → mid ≡ cond t None old → new ≡ cond t (Some m) mid
    → option_map (λ (x : Node). x.item) new ≡ cond t (Some m.item) (option_map (λ (x : Node). x.item) old)
item_put true old mid new m out into = ap (option_map (λ (x : Node). x.item)) into
item_put false old mid new m out into = ap (option_map (λ (x : Node). x.item)) (into ∙ out)

over_page : (a b p : ℕ) (x y : Option Node) → a ≡ b → cond (a == p) x y ≡ cond (b == p) x y
over_page a b p x y e = ap (λ n. cond (n == p) x y) e

-- a page that is there gets another item
pub moved : (old mid new : Lists) (seats : List Seat) (capacity room : ℕ) (q : AreQueues old seats capacity room) (page key next : ℕ) (item : Queued) (f : Found old q.are page key)
    → Taken q.are mid f.node → ((are : AreLists mid) → find_node (nodes_in are) item.page.0 ≡ None → Put are new (record { key = next; item = item }))
    → item.page.0 ≡ page → next ≡ key → slab_len mid.entries + 1 ≡ slab_len old.entries → slab_len new.entries ≡ slab_len mid.entries + 1
    → mid.entries.capacity ≡ old.entries.capacity → new.entries.capacity ≡ mid.entries.capacity
    → QueuesAre new seats capacity room (λ p. cond (page == p) (Some item) (find_page (items_in old) p))
moved old mid new seats capacity room q page key next item f t put own same less more cap cap' =
    let out : (p : ℕ) → find_node (nodes_in t.now) p ≡ cond (page == p) None (find_node (nodes_in q.are) p) =
    λ p. t.pages p ∙ over_page f.node.item.page.0 page p None (find_node (nodes_in q.are) p) f.page in
    let itself : (page == page) ≡ true = grind (arith, nat_tests) in
    let gone : find_node (nodes_in t.now) page ≡ None = out page ∙ ap (λ b. cond b None (find_node (nodes_in q.are) page)) itself in
    let w : Put t.now new (record { key = next; item = item }) = put t.now (subst (λ n. find_node (nodes_in t.now) n ≡ None) (sym own) gone) in
    let into : (p : ℕ) → find_node (nodes_in w.now) p ≡ cond (page == p) (Some (record { key = next; item = item })) (find_node (nodes_in t.now) p) =
    λ p. w.pages p ∙ over_page item.page.0 page p (Some (record { key = next; item = item })) (find_node (nodes_in t.now) p) own in
    record {
      queues = record {
        are = w.now;
        rising = q.rising;
        seated = λ p. q.seated p ∙ key_kept (page == p) (find_node (nodes_in q.are) p) (find_node (nodes_in t.now) p) (find_node (nodes_in w.now) p) f.node (record { key = next; item = item })
            (λ e. let here : page ≡ p = grind (arith, nat_tests) in subst (λ n. find_node (nodes_in q.are) n ≡ Some f.node) here f.found) (out p) (into p) (f.own ∙ sym same);
        many = q.many ∙ (sym less ∙ sym more);
        entry_room = let held : room ≤ old.entries.capacity = q.entry_room in omega (arith, held, cap, cap');
        seat_room = q.seat_room;
      };
      pages = λ p. shown new w.now p ∙ (item_put (page == p) (find_node (nodes_in q.are) p) (find_node (nodes_in t.now) p) (find_node (nodes_in w.now) p) (record { key = next; item = item }) (out p) (into p)
          ∙ ap (λ r. cond (page == p) (Some item) r) (sym (shown old q.are p)));
      ordered = in_order new w.now;
    }

key_added : (t : Bool) (old new : Option Node) (m : Node) → new ≡ cond t (Some m) old → cond t (Some m.key) (option_map (λ (x : Node). x.key) old) ≡ option_map (λ (x : Node). x.key) new
key_added true old new m into = sym (ap (option_map (λ (x : Node). x.key)) into)
key_added false old new m into = sym (ap (option_map (λ (x : Node). x.key)) into)

item_added : (t : Bool) (old new : Option Node) (m : Node) → new ≡ cond t (Some m) old → option_map (λ (x : Node). x.item) new ≡ cond t (Some m.item) (option_map (λ (x : Node). x.item) old)
item_added true old new m into = ap (option_map (λ (x : Node). x.item)) into
item_added false old new m into = ap (option_map (λ (x : Node). x.item)) into

-- a page comes in
pub added : (old new : Lists) (seats more : List Seat) (capacity wide room : ℕ) (q : AreQueues old seats capacity room) (page key : ℕ) (item : Queued)
    → None ≡ seat_key seats page → ((are : AreLists old) → find_node (nodes_in are) item.page.0 ≡ None → Put are new (record { key = key; item = item })) → item.page.0 ≡ page
    → ((p : ℕ) → seat_key more p ≡ cond (page == p) (Some key) (seat_key seats p)) → Rising more → length more ≡ length seats + 1 → wide ≡ capacity
    → slab_len new.entries ≡ slab_len old.entries + 1 → new.entries.capacity ≡ old.entries.capacity
    → QueuesAre new more wide room (λ p. cond (page == p) (Some item) (find_page (items_in old) p))
added old new seats more capacity wide room q page key item absent put own keys rising longer cap len cap' =
    let w : Put q.are new (record { key = key; item = item }) = put q.are (subst (λ n. find_node (nodes_in q.are) n ≡ None) (sym own) (unseated old seats capacity room q page absent)) in
    let into : (p : ℕ) → find_node (nodes_in w.now) p ≡ cond (page == p) (Some (record { key = key; item = item })) (find_node (nodes_in q.are) p) =
    λ p. w.pages p ∙ over_page item.page.0 page p (Some (record { key = key; item = item })) (find_node (nodes_in q.are) p) own in
    record {
      queues = record {
        are = w.now;
        rising = rising;
        seated = λ p. keys p ∙ (ap (λ r. cond (page == p) (Some key) r) (q.seated p)
            ∙ key_added (page == p) (find_node (nodes_in q.are) p) (find_node (nodes_in w.now) p) (record { key = key; item = item }) (into p));
        many = let same : length seats ≡ slab_len old.entries = q.many in longer ∙ (ap (λ n. n + 1) same ∙ sym len);
        entry_room = subst (λ n. room ≤ n) (sym cap') q.entry_room;
        seat_room = subst (λ n. room ≤ n) (sym cap) q.seat_room;
      };
      pages = λ p. shown new w.now p ∙ (item_added (page == p) (find_node (nodes_in q.are) p) (find_node (nodes_in w.now) p) (record { key = key; item = item }) (into p)
          ∙ ap (λ r. cond (page == p) (Some item) r) (sym (shown old q.are p)));
      ordered = in_order new w.now;
    }

key_dropped : (t : Bool) (old new : Option Node) → new ≡ cond t None old → cond t None (option_map (λ (x : Node). x.key) old) ≡ option_map (λ (x : Node). x.key) new
key_dropped true old new out = sym (ap (option_map (λ (x : Node). x.key)) out)
key_dropped false old new out = sym (ap (option_map (λ (x : Node). x.key)) out)

item_dropped : (t : Bool) (old new : Option Node) → new ≡ cond t None old → option_map (λ (x : Node). x.item) new ≡ cond t None (option_map (λ (x : Node). x.item) old)
item_dropped true old new out = ap (option_map (λ (x : Node). x.item)) out
item_dropped false old new out = ap (option_map (λ (x : Node). x.item)) out

-- a page goes
pub dropped : (old new : Lists) (seats fewer : List Seat) (capacity wide room : ℕ) (q : AreQueues old seats capacity room) (page key : ℕ) (f : Found old q.are page key) → Taken q.are new f.node
    → ((p : ℕ) → seat_key fewer p ≡ cond (page == p) None (seat_key seats p)) → Rising fewer → length fewer + 1 ≡ length seats → wide ≡ capacity
    → slab_len new.entries + 1 ≡ slab_len old.entries → new.entries.capacity ≡ old.entries.capacity
    → QueuesAre new fewer wide room (λ p. cond (page == p) None (find_page (items_in old) p))
dropped old new seats fewer capacity wide room q page key f t keys rising shorter cap len cap' =
    let out : (p : ℕ) → find_node (nodes_in t.now) p ≡ cond (page == p) None (find_node (nodes_in q.are) p) =
    λ p. t.pages p ∙ over_page f.node.item.page.0 page p None (find_node (nodes_in q.are) p) f.page in
    record {
      queues = record {
        are = t.now;
        rising = rising;
        seated = λ p. keys p ∙ (ap (λ r. cond (page == p) None r) (q.seated p) ∙ key_dropped (page == p) (find_node (nodes_in q.are) p) (find_node (nodes_in t.now) p) (out p));
        many = let same : length seats ≡ slab_len old.entries = q.many in omega (arith, same, shorter, len);
        entry_room = subst (λ n. room ≤ n) (sym cap') q.entry_room;
        seat_room = subst (λ n. room ≤ n) (sym cap) q.seat_room;
      };
      pages = λ p. shown new t.now p ∙ (item_dropped (page == p) (find_node (nodes_in q.are) p) (find_node (nodes_in t.now) p) (out p)
          ∙ ap (λ r. cond (page == p) None r) (sym (shown old q.are p)));
      ordered = in_order new t.now;
    }

-- the page's own item, called cold
pub chilled_now : (f : Queued → Queued) (page : ℕ) (item : Queued) (old : ℕ → Option Queued) → old page ≡ Some item
    → (p : ℕ) → cond (page == p) (Some (f item)) (old p) ≡ cond (page == p) (option_map f (old p)) (old p)
chilled_now f page item old here p =
    elim (page == p) as (λ b. (page == p) ≡ b → cond b (Some (f item)) (old p) ≡ cond b (option_map f (old p)) (old p)) [
      | true ↦ λ e. let same : page ≡ p = grind (arith, nat_tests) in sym (ap (option_map f) (subst (λ q. old q ≡ Some item) same here))
      | false ↦ λ e. refl
    ] refl

-- a page whose item stays the same is left alone
pub left_alone : (lists : Lists) (seats : List Seat) (capacity room : ℕ) (q : AreQueues lists seats capacity room) (page key : ℕ) (item : Queued)
    → Some key ≡ seat_key seats page → option_map (λ (e : QueueEntry). e.item) (get lists.entries key) ≡ Some item
    → (p : ℕ) → find_page (items_in lists) p ≡ cond (page == p) (Some item) (find_page (items_in lists) p)
left_alone lists seats capacity room q page key item s held p =
    let f : Found lists q.are page key = found_at lists seats capacity room q page key s in
    let here : find_page (items_in lists) page ≡ Some item = shows lists q.are page key f ∙ (sym f.item ∙ held) in
    elim (page == p) as (λ b. (page == p) ≡ b → find_page (items_in lists) p ≡ cond b (Some item) (find_page (items_in lists) p)) [
      | true ↦ λ e. let same : page ≡ p = grind (arith, nat_tests) in subst (λ q. find_page (items_in lists) q ≡ Some item) same here
      | false ↦ λ e. refl
    ] refl

-- queues without a page
pub empty : (lists : Lists) (seats : List Seat) (capacity : ℕ) → lists.entries.slots ≡ [] → (lists.cold.first ≡ None) × (lists.cold.last ≡ None) → (lists.others.first ≡ None) × (lists.others.last ≡ None)
    → seats ≡ [] → AreQueues lists seats capacity 0
empty lists seats capacity slots cold others none =
    subst (λ xs. AreQueues lists xs capacity 0) (sym none) (record {
      are = record {
        colds = [];
        others = [];
        cold_list = record { linked = tt; first = cold.0; last = cold.1 };
        other_list = record { linked = tt; first = others.0; last = others.1 };
        count = ap (count_by is_some) slots;
        ordered = tt;
        all_cold = tt;
        none_cold = tt;
      };
      rising = tt;
      seated = λ p. refl;
      many = sym (ap (count_by is_some) slots);
      entry_room = omega arith;
      seat_room = omega arith;
    })

-- room for a page that isn't there
pub has_room : (lists : Lists) (seats : List Seat) (capacity room : ℕ) (q : AreQueues lists seats capacity room) (p : ℕ) → None ≡ seat_key seats p
    → (find_page (items_in lists) p ≡ None → length (items_in lists) < room) → (slab_len lists.entries + 1 ≤ lists.entries.capacity) × (length seats < capacity)
has_room lists seats capacity room q p s asked =
    let less : length (items_in lists) < room = asked (shows_none lists seats capacity room q p s) in
    let many : length (items_in lists) ≡ slab_len lists.entries = many_items lists q.are in
    let held : room ≤ lists.entries.capacity = q.entry_room in
    let held' : room ≤ capacity = q.seat_room in
    let as_many : length seats ≡ slab_len lists.entries = q.many in
    (omega (arith, less, many, held), omega (arith, less, many, as_many, held'))

-- more room, and nothing else
pub roomier : (lists : Lists) (seats : List Seat) (capacity room : ℕ) → AreQueues lists seats capacity room → (entries : Slab QueueEntry) → entries ≡ record lists.entries { capacity = entries.capacity }
    → (wide wider : ℕ) → wider ≤ entries.capacity → wider ≤ wide → AreQueues (record { entries = entries; cold = lists.cold; others = lists.others }) seats wide wider
roomier lists seats capacity room q entries is wide wider fits fits' =
    let more : ℕ = entries.capacity in
    subst (λ (e : Slab QueueEntry). AreQueues (record { entries = e; cold = lists.cold; others = lists.others }) seats wide wider) (sym is) (record {
      are = record {
        colds = q.are.colds;
        others = q.are.others;
        cold_list = record { linked = q.are.cold_list.linked; first = q.are.cold_list.first; last = q.are.cold_list.last };
        other_list = record { linked = q.are.other_list.linked; first = q.are.other_list.first; last = q.are.other_list.last };
        count = q.are.count;
        ordered = q.are.ordered;
        all_cold = q.are.all_cold;
        none_cold = q.are.none_cold;
      };
      rising = q.rising;
      seated = q.seated;
      many = q.many;
      entry_room = fits;
      seat_room = fits';
    })

pub same_items : (lists : Lists) (entries : Slab QueueEntry) → entries ≡ record lists.entries { capacity = entries.capacity }
    → items_in (record { entries = entries; cold = lists.cold; others = lists.others }) ≡ items_in lists
same_items lists entries is = ap (λ (e : Slab QueueEntry). items_in (record { entries = e; cold = lists.cold; others = lists.others })) is

pub on_err : {T E : Type 0} (P : Type 0) (r : Result T E) → P → OnErr r P
on_err P (Ok x) p = tt
on_err P (Err e) p = p

-- a page is moved, as the clauses of both steps say it
pub moved_at : (old mid new : Lists) (seats : List Seat) (capacity room : ℕ) (q : AreQueues old seats capacity room) (page key next : ℕ) (item : Queued) → Some key ≡ seat_key seats page
    → ((are : AreLists old) (node : Node) → find_node (nodes_in are) node.item.page.0 ≡ Some node → node.key ≡ key → Taken are mid node)
    → ((are : AreLists mid) → find_node (nodes_in are) item.page.0 ≡ None → Put are new (record { key = next; item = item }))
    → item.page.0 ≡ page → next ≡ key → slab_len mid.entries + 1 ≡ slab_len old.entries → slab_len new.entries ≡ slab_len mid.entries + 1
    → mid.entries.capacity ≡ old.entries.capacity → new.entries.capacity ≡ mid.entries.capacity
    → QueuesAre new seats capacity room (λ p. cond (page == p) (Some item) (find_page (items_in old) p))
moved_at old mid new seats capacity room q page key next item s out put own same less more cap cap' =
    let f : Found old q.are page key = found_at old seats capacity room q page key s in
    moved old mid new seats capacity room q page key next item f (out q.are f.node f.itself f.own) put own same less more cap cap'

key_renewed : (t : Bool) (old new : Option Node) (n m : Node) → (t ≡ true → old ≡ Some n) → new ≡ cond t (Some m) old → n.key ≡ m.key
    → option_map (λ (x : Node). x.key) old ≡ option_map (λ (x : Node). x.key) new
key_renewed true old new n m here into same = ap (option_map (λ (x : Node). x.key)) (here refl) ∙ (ap (λ k. Some k) same ∙ sym (ap (option_map (λ (x : Node). x.key)) into))
key_renewed false old new n m here into same = sym (ap (option_map (λ (x : Node). x.key)) into)

-- a page gets another item where it stands
pub renewed_at : (old new : Lists) (seats : List Seat) (capacity room : ℕ) (q : AreQueues old seats capacity room) (page key : ℕ) (item : Queued) → Some key ≡ seat_key seats page
    → ((are : AreLists old) (node : Node) → find_node (nodes_in are) item.page.0 ≡ Some node → node.key ≡ key → Put are new (record { key = key; item = item }))
    → item.page.0 ≡ page → slab_len new.entries ≡ slab_len old.entries → new.entries.capacity ≡ old.entries.capacity
    → QueuesAre new seats capacity room (λ p. cond (page == p) (Some item) (find_page (items_in old) p))
renewed_at old new seats capacity room q page key item s put own len cap =
    let f : Found old q.are page key = found_at old seats capacity room q page key s in
    let w : Put q.are new (record { key = key; item = item }) = put q.are f.node (subst (λ n. find_node (nodes_in q.are) n ≡ Some f.node) (sym own) f.found) f.own in
    let into : (p : ℕ) → find_node (nodes_in w.now) p ≡ cond (page == p) (Some (record { key = key; item = item })) (find_node (nodes_in q.are) p) =
    λ p. w.pages p ∙ over_page item.page.0 page p (Some (record { key = key; item = item })) (find_node (nodes_in q.are) p) own in
    record {
      queues = record {
        are = w.now;
        rising = q.rising;
        seated = λ p. q.seated p ∙ key_renewed (page == p) (find_node (nodes_in q.are) p) (find_node (nodes_in w.now) p) f.node (record { key = key; item = item })
            (λ e. let here : page ≡ p = grind (arith, nat_tests) in subst (λ n. find_node (nodes_in q.are) n ≡ Some f.node) here f.found) (into p) f.own;
        many = q.many ∙ sym len;
        entry_room = subst (λ n. room ≤ n) (sym cap) q.entry_room;
        seat_room = q.seat_room;
      };
      pages = λ p. shown new w.now p ∙ (item_added (page == p) (find_node (nodes_in q.are) p) (find_node (nodes_in w.now) p) (record { key = key; item = item }) (into p)
          ∙ ap (λ r. cond (page == p) (Some item) r) (sym (shown old q.are p)));
      ordered = in_order new w.now;
    }
