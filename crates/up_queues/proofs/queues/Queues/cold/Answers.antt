use Rattle.std.proofs.Common.{◌≡◌, ℕ, ◌==◌, Option, None, Some, cond, sym, ◌∙◌, ap, subst}
use Rattle.std.specs.Prelude.{vec_capacity}
use Rattle.std.specs.Option.{option_map}
use Rattle.up_queues.specs.declared.queued.Queued.{Queued}
use Rattle.up_queues.specs.Queue.{Queue, find_page, InOrder, chilled}
use Rattle.up_queues.specs.Lists.{items_in}
use Rattle.up_queues.proofs.QueuesAfterCalls.{QueuesAre, Found, in_order, found_at, contains, shows, shows_none, unchanged, moved, chilled_now}
use Rattle.up_queues.proofs.queues.Queues.cold.Goals as goal
use Rattle.up_queues.proofs.queues.Queues.cold.Goals.{After-put}

pub returns-in_default-clause-pages : goal.returns-in_default-clause-pages
returns-in_default-clause-pages c =
    let none : find_page (items_in c.self.inside.lists) c.args.page.0 ≡ None =
    shows_none c.self.inside.lists c.self.inside.seats.items (vec_capacity c.self.inside.seats) c.self.inside.room c.self.invariant c.args.page.0 (sym c.in_default.is ∙ c.key_of.ensures) in
    unchanged (chilled c.args.place) c.args.page.0 (find_page c.args.self.now.items) (subst (λ (v : Queue). find_page v.items c.args.page.0 ≡ None) c.self.view_is none)

pub returns-in_default-clause-ordered : goal.returns-in_default-clause-ordered
returns-in_default-clause-ordered c = subst (λ (v : Queue). InOrder v.items) c.self.view_is (in_order c.self.inside.lists c.self.invariant.are)

pub take-item-requires : goal.take-item-requires
take-item-requires c =
    contains c.self.inside.lists c.self.invariant.are c.args.page.0 c.in-Some.key
    (found_at c.self.inside.lists c.self.inside.seats.items (vec_capacity c.self.inside.seats) c.self.inside.room c.self.invariant c.args.page.0 c.in-Some.key (sym c.in-Some.is ∙ c.key_of.ensures))

found : (c : After-put) → Found c.self.inside.lists c.self.invariant.are c.args.page.0 c.in-Some.key
found c = found_at c.self.inside.lists c.self.inside.seats.items (vec_capacity c.self.inside.seats) c.self.inside.room c.self.invariant c.args.page.0 c.in-Some.key (sym c.in-Some.is ∙ c.key_of.ensures)

same_item : (c : After-put) → (found c).node.item ≡ c.take-item.result
same_item c = let both : ◌≡◌ {A = Option Queued} (Some (found c).node.item) (Some c.take-item.result) = sym (found c).item ∙ c.take-item.ensures.item in cc

holds : (c : After-put) → QueuesAre c.put.new.lists c.self.inside.seats.items (vec_capacity c.self.inside.seats) c.self.inside.room
    (λ p. cond (c.args.page.0 == p) (Some (chilled c.args.place c.take-item.result)) (find_page (items_in c.self.inside.lists) p))
holds c =
    let f : Found c.self.inside.lists c.self.invariant.are c.args.page.0 c.in-Some.key = found c in
    moved c.self.inside.lists c.take-item.new.lists c.put.new.lists c.self.inside.seats.items (vec_capacity c.self.inside.seats) c.self.inside.room c.self.invariant c.args.page.0 c.in-Some.key c.put.result
    (chilled c.args.place c.take-item.result) f (c.take-item.ensures.taken c.self.invariant.are f.node f.itself f.own) c.put.ensures.put
    (ap (λ (item : Queued). item.page.0) (sym (same_item c)) ∙ f.page) (c.put.ensures.key ∙ c.take-item.ensures.next) c.take-item.ensures.len c.put.ensures.len c.take-item.ensures.capacity c.put.ensures.capacity

pub invariant_of-self : goal.invariant_of-self
invariant_of-self c = (holds c).queues

pub returns-clause-pages : goal.returns-clause-pages
returns-clause-pages c =
    let here : find_page (items_in c.self.inside.lists) c.args.page.0 ≡ Some c.take-item.result =
    shows c.self.inside.lists c.self.invariant.are c.args.page.0 c.in-Some.key (found c) ∙ ap (λ item. Some item) (same_item c) in
    subst (λ (v : Queue). (p : ℕ) → find_page (items_in c.put.new.lists) p ≡ cond (c.args.page.0 == p) (option_map (chilled c.args.place) (find_page v.items p)) (find_page v.items p)) c.self.view_is
    (λ p. (holds c).pages p ∙ chilled_now (chilled c.args.place) c.args.page.0 c.take-item.result (find_page (items_in c.self.inside.lists)) here p)

pub returns-clause-ordered : goal.returns-clause-ordered
returns-clause-ordered c = (holds c).ordered
