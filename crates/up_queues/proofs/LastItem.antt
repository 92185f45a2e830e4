-- The last of the others gets another item, and stays the last.
use Rattle.std.proofs.Common.{◌≡◌, ℕ, ◌==◌, ◌≤◌, cond, Bool, true, false, Option, Some, None, List, [], ◌∷◌, ◌++◌, refl, sym, ◌∙◌, ap, subst, arith, append_assoc}
use Rattle.std.specs.Prelude.{IsTrue, is_some}
use Rattle.std.specs.Option.{option_map}
use Rattle.std.proofs.lemmas.Bool.Decides.{nat_tests}
use Rattle.slab.specs.Slab.{Slab, get, slab_len}
use Rattle.up_queues.specs.declared.queued.Queued.{Queued}
use Rattle.up_queues.specs.declared.lists.QueueEntry.{QueueEntry}
use Rattle.up_queues.specs.declared.lists.Lists.{Lists}
use Rattle.up_queues.specs.Queue.{goes_first, precedes, Each, InOrder}
use Rattle.up_queues.specs.Lists.{Node, items_of, EachNode, find_node, first_key, last_key, Linked, ListOf, AreLists, nodes_in, Put, with_item}
use Rattle.up_queues.proofs.Orders.{first_later}
use Rattle.up_queues.proofs.OrderedItems.{other_page, first_of}
use Rattle.up_queues.proofs.LinkedLists.{all_front, all_back, all_join, all_one, on_items, Apart, Distinct, distinct_back, distinct_apart, apart_flip, turned, made, linked_cut, linked_join, linked_kept, list_kept, first_append, last_append}
use Rattle.up_queues.proofs.NodesByPage.{node_page, node_found, NodesPut, NodesTaken, nodes_put, nodes_taken}
use Rattle.up_queues.proofs.ListWalks.{Ended, ended, precede_node}
use Rattle.up_queues.proofs.BothLists.{all_distinct, all_holding, entry_item}

renewed_page : (t : Bool) (old mid new : Option Node) (n : Node) → mid ≡ cond t None old → new ≡ cond t (Some n) mid → new ≡ cond t (Some n) old
renewed_page true old mid new n out into = into
renewed_page false old mid new n out into = into ∙ out

precedes_later : (x y z : Queued) → is_some y.cold ≡ false → is_some z.cold ≡ false → y.place ≤ z.place → y.page.0 ≡ z.page.0 → precedes x y ≡ true → precedes x z ≡ true
precedes_later x y z n m up own p =
    let first : goes_first x z ≡ true = first_later x y z n m up own (first_of x y p) in
    let differ : (y.page.0 == x.page.0) ≡ false = other_page x y p in
    let other : (x.page.0 == z.page.0) ≡ false = turned z.page.0 x.page.0 (subst (λ q. (q == x.page.0) ≡ false) own differ) in
    rw (first, other) refl

-- the last of the others, as its entry has it
record Last (old : Lists) (are : AreLists old) (key : ℕ) (entry : QueueEntry) : Type 0 where
  front : List Node
  node : Node
  is : are.others ≡ front ++ node ∷ []
  own : node.key ≡ key
  item_is : entry.item ≡ node.item
  held : get old.entries key ≡ made node.item (last_key None front) None
  linked : Linked (get old.entries) None front (Some key)

last_node : (old : Lists) (are : AreLists old) (key : ℕ) (entry : QueueEntry) → old.others.last ≡ Some key → get old.entries key ≡ Some entry → Last old are key entry
last_node old are key entry last here =
    let d : Ended are.others key = ended are.others key (sym are.other_list.last ∙ last) in
    let cut = linked_cut (get old.entries) None d.front (d.node ∷ []) None (subst (λ ns. Linked (get old.entries) None ns None) d.is are.other_list.linked) in
    let held : get old.entries key ≡ made d.node.item (last_key None d.front) None = ap (get old.entries) (sym d.own) ∙ cut.1.0 in
    let both : Some entry ≡ made d.node.item (last_key None d.front) None = sym here ∙ held in
    let same : entry ≡ record { item = d.node.item; before = last_key None d.front; after = None } = cc in
    record {
      front = d.front;
      node = d.node;
      is = d.is;
      own = d.own;
      item_is = ap (λ (e : QueueEntry). e.item) same;
      held = held;
      linked = subst (λ k. Linked (get old.entries) None d.front (Some k)) d.own cut.0;
    }

renewed_list : (old : Lists) (are : AreLists old) (entries : Slab QueueEntry) (key : ℕ) (entry : QueueEntry) (item : Queued) (w : Last old are key entry) → old.others.last ≡ Some key
    → ((k : ℕ) → get entries k ≡ cond (key == k) (option_map (with_item item) (get old.entries k)) (get old.entries k)) → EachNode (λ n. get entries n.key ≡ get old.entries n.key) w.front
    → ListOf (get entries) old.others (w.front ++ record { key = key; item = item } ∷ [])
renewed_list old are entries key entry item w last edit kept =
    let n : Node = record { key = key; item = item } in
    let itself : (key == key) ≡ true = grind (arith, nat_tests) in
    let own : get entries key ≡ made item (last_key None w.front) None =
    edit key ∙ (ap (λ b. cond b (option_map (with_item item) (get old.entries key)) (get old.entries key)) itself ∙ ap (option_map (with_item item)) w.held) in
    record {
      linked = linked_join (get entries) None w.front (n ∷ []) None (linked_kept (get old.entries) (get entries) None w.front (Some key) w.linked kept) (own, tt);
      first = are.other_list.first ∙ (ap (λ ns. first_key ns None) w.is ∙ (first_append w.front (w.node ∷ []) None ∙ (ap (λ k. first_key w.front (Some k)) w.own ∙ sym (first_append w.front (n ∷ []) None))));
      last = last ∙ sym (last_append None w.front (n ∷ []));
    }

pub last_renewed : (old : Lists) (are : AreLists old) (entries : Slab QueueEntry) (key : ℕ) (entry : QueueEntry) (item : Queued) (node : Node) → old.others.last ≡ Some key → get old.entries key ≡ Some entry
    → entry.item.place ≤ item.place → is_some item.cold ≡ false → find_node (nodes_in are) item.page.0 ≡ Some node → node.key ≡ key
    → ((k : ℕ) → get entries k ≡ cond (key == k) (option_map (with_item item) (get old.entries k)) (get old.entries k)) → slab_len entries ≡ slab_len old.entries
    → Put are (record { entries = entries; cold = old.cold; others = old.others }) (record { key = key; item = item })
last_renewed old are entries key entry item node last here up warm found its edit len =
    let w : Last old are key entry = last_node old are key entry last here in
    let n : Node = record { key = key; item = item } in
    let node_is : entry.item ≡ node.item = entry_item old are item.page.0 node entry found (ap (get old.entries) its ∙ here) in
    let page : w.node.item.page.0 ≡ item.page.0 = ap (λ (x : Queued). x.page.0) (sym w.item_is ∙ node_is) ∙ node_page (nodes_in are) item.page.0 node found in
    let up' : w.node.item.place ≤ item.place = subst (λ (x : Queued). x.place ≤ item.place) w.item_is up in
    let none : EachNode (λ m. is_some m.item.cold ≡ false) (w.front ++ w.node ∷ []) = subst (EachNode (λ m. is_some m.item.cold ≡ false)) w.is are.none_cold in
    let warm' : is_some w.node.item.cold ≡ false = (all_back _ w.front (w.node ∷ []) none).0 in
    let d : Distinct (are.colds ++ (w.front ++ w.node ∷ [])) = subst (λ ns. Distinct (are.colds ++ ns)) w.is (all_distinct old are) in
    let away : Apart w.node.key w.front = (apart_flip w.front (w.node ∷ []) (distinct_apart w.front (w.node ∷ []) (distinct_back are.colds (w.front ++ w.node ∷ []) d))).0 in
    let cold_away : Apart w.node.key are.colds =
    (all_back _ w.front (w.node ∷ []) (apart_flip are.colds (w.front ++ w.node ∷ []) (distinct_apart are.colds (w.front ++ w.node ∷ []) d))).0 in
    let kept : (m : Node) → (m.key == w.node.key) ≡ false → get entries m.key ≡ get old.entries m.key =
    λ m f. edit m.key ∙ ap (λ b. cond b (option_map (with_item item) (get old.entries m.key)) (get old.entries m.key)) (subst (λ k. (k == m.key) ≡ false) w.own (turned m.key w.node.key f)) in
    let parts : are.colds ++ are.others ≡ (are.colds ++ w.front) ++ w.node ∷ [] = ap (λ ns. are.colds ++ ns) w.is ∙ sym (append_assoc are.colds w.front (w.node ∷ [])) in
    let order : InOrder (items_of ((are.colds ++ w.front) ++ w.node ∷ [])) = subst (λ ns. InOrder (items_of ns)) parts are.ordered in
    let out : NodesTaken (are.colds ++ are.others) ((are.colds ++ w.front) ++ []) w.node =
    nodes_taken (are.colds ++ are.others) ((are.colds ++ w.front) ++ []) (are.colds ++ w.front) w.node [] parts refl are.ordered in
    let out_pages : (p : ℕ) → find_node ((are.colds ++ w.front) ++ []) p ≡ cond (item.page.0 == p) None (find_node (nodes_in are) p) =
    λ p. out.pages p ∙ ap (λ k. cond (k == p) None (find_node (nodes_in are) p)) page in
    let itself : (item.page.0 == item.page.0) ≡ true = grind (arith, nat_tests) in
    let fresh : find_node ((are.colds ++ w.front) ++ []) item.page.0 ≡ None = out_pages item.page.0 ∙ ap (λ b. cond b None (find_node (nodes_in are) item.page.0)) itself in
    let low : Each (λ other. IsTrue (precedes other item)) (items_of (are.colds ++ w.front)) =
    on_items (λ other. IsTrue (precedes other item)) (are.colds ++ w.front)
    (all_one (λ m. IsTrue (precedes m.item w.node.item)) (λ m. IsTrue (precedes m.item item)) (λ m p. precedes_later m.item w.node.item item warm' warm up' page p) (are.colds ++ w.front)
    (precede_node (are.colds ++ w.front) w.node [] order)) in
    let nodes : NodesPut ((are.colds ++ w.front) ++ []) (are.colds ++ (w.front ++ n ∷ [])) n =
    nodes_put ((are.colds ++ w.front) ++ []) (are.colds ++ (w.front ++ n ∷ [])) (are.colds ++ w.front) n [] refl (sym (append_assoc are.colds w.front (n ∷ []))) out.ordered fresh low tt in
    record {
      now = record {
        colds = are.colds;
        others = w.front ++ n ∷ [];
        cold_list = list_kept (get old.entries) (get entries) old.cold are.colds are.cold_list
            (all_one (λ m. (m.key == w.node.key) ≡ false) (λ m. get entries m.key ≡ get old.entries m.key) kept are.colds cold_away);
        other_list = renewed_list old are entries key entry item w last edit
            (all_one (λ m. (m.key == w.node.key) ≡ false) (λ m. get entries m.key ≡ get old.entries m.key) kept w.front away);
        count = len ∙ (are.count ∙ (sym out.count ∙ sym nodes.count));
        ordered = nodes.ordered;
        all_cold = are.all_cold;
        none_cold = all_join _ w.front (n ∷ []) (all_front _ w.front (w.node ∷ []) none) (warm, tt);
      };
      pages = λ p. renewed_page (item.page.0 == p) (find_node (nodes_in are) p) (find_node ((are.colds ++ w.front) ++ []) p) (find_node (are.colds ++ (w.front ++ n ∷ [])) p) n (out_pages p) (nodes.pages p);
    }

entry_of : (r : Option QueueEntry) (item : Queued) → option_map (λ (e : QueueEntry). e.item) r ≡ Some item → (e : QueueEntry) × (r ≡ Some e)
entry_of None item e = absurd (let wrong : ◌≡◌ {A = Option Queued} None (Some item) = e in cc)
entry_of (Some x) item e = (x, refl)

-- the same, as the clauses of the code say it
pub renewed_put : (old : Lists) (entries : Slab QueueEntry) (key : ℕ) (item : Queued) → old.others.last ≡ Some key
    → ((entry : QueueEntry) → get old.entries key ≡ Some entry → entry.item.place ≤ item.place) → is_some item.cold ≡ false
    → ((k : ℕ) → get entries k ≡ cond (key == k) (option_map (with_item item) (get old.entries k)) (get old.entries k)) → slab_len entries ≡ slab_len old.entries
    → (are : AreLists old) (node : Node) → find_node (nodes_in are) item.page.0 ≡ Some node → node.key ≡ key
    → Put are (record { entries = entries; cold = old.cold; others = old.others }) (record { key = key; item = item })
renewed_put old entries key item last place warm edit len are node found own =
    let held : option_map (λ (e : QueueEntry). e.item) (get old.entries node.key) ≡ Some node.item =
    node_found (λ n. option_map (λ (e : QueueEntry). e.item) (get old.entries n.key) ≡ Some n.item) (nodes_in are) item.page.0 node (all_holding old are) found in
    let here = entry_of (get old.entries key) node.item (ap (λ k. option_map (λ (e : QueueEntry). e.item) (get old.entries k)) (sym own) ∙ held) in
    last_renewed old are entries key here.0 item node last here.1 (place here.0 here.1) warm found own edit len
