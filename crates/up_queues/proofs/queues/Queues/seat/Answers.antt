use Rattle.std.proofs.Common.{◌≡◌, ℕ, ◌==◌, ◌<◌, length, Option, None, Some, cond, refl, sym, ◌∙◌, subst}
use Rattle.std.specs.Prelude.{vec_capacity}
use Rattle.up_queues.specs.declared.queued.Queued.{Queued}
use Rattle.up_queues.specs.Queue.{Queue, find_page, InOrder}
use Rattle.up_queues.specs.Lists.{items_in}
use Rattle.up_queues.proofs.QueuesAfterCalls.{QueuesAre, in_order, found_at, contains, has_room, left_alone, moved_at, renewed_at, added}
use Rattle.up_queues.proofs.LastItem.{renewed_put}
use Rattle.up_queues.proofs.queues.Queues.seat.Goals as goal
use Rattle.up_queues.proofs.queues.Queues.seat.Goals.{After-seat_in, After-set_item}

-- the page's item after the call
abbrev item_of : ℕ → ℕ → ℕ → Option ℕ → Queued
item_of page generation place cold = record { page = record { 0 = page }; generation = generation; place = place; cold = cold }

renewed : (c : After-set_item) → QueuesAre (record { entries = c.set_item.new.entries; cold = c.self.inside.lists.cold; others = c.self.inside.lists.others }) c.self.inside.seats.items
    (vec_capacity c.self.inside.seats) c.self.inside.room (λ p. cond (c.args.page.0 == p) (Some (item_of c.args.page.0 c.args.generation c.args.place c.args.cold)) (find_page (items_in c.self.inside.lists) p))
renewed c =
    renewed_at c.self.inside.lists (record { entries = c.set_item.new.entries; cold = c.self.inside.lists.cold; others = c.self.inside.lists.others }) c.self.inside.seats.items (vec_capacity c.self.inside.seats)
    c.self.inside.room c.self.invariant c.args.page.0 c.in-Some.key (item_of c.args.page.0 c.args.generation c.args.place c.args.cold) (sym c.in-Some.is ∙ c.key_of.ensures)
    (renewed_put c.self.inside.lists c.set_item.new.entries c.in-Some.key (item_of c.args.page.0 c.args.generation c.args.place c.args.cold) (c.stays_last.ensures.last c.if-stays_last.true)
    (c.stays_last.ensures.place c.if-stays_last.true) (c.stays_last.ensures.warm c.if-stays_last.true) c.set_item.ensures.entries c.set_item.ensures.len)
    refl c.set_item.ensures.len c.set_item.ensures.capacity

pub returns-then-has_item-clause-pages : goal.returns-then-has_item-clause-pages
returns-then-has_item-clause-pages c =
    subst (λ (v : Queue). (p : ℕ) → find_page v.items p
    ≡ cond (c.args.page.0 == p) (Some (item_of c.args.page.0 c.args.generation c.args.place c.args.cold)) (find_page v.items p)) c.self.view_is
    (left_alone c.self.inside.lists c.self.inside.seats.items (vec_capacity c.self.inside.seats) c.self.inside.room c.self.invariant c.args.page.0 c.in-Some.key
    (item_of c.args.page.0 c.args.generation c.args.place c.args.cold) (sym c.in-Some.is ∙ c.key_of.ensures) (c.has_item.ensures c.if-has_item.true))

pub returns-then-has_item-clause-ordered : goal.returns-then-has_item-clause-ordered
returns-then-has_item-clause-ordered c = subst (λ (v : Queue). InOrder v.items) c.self.view_is (in_order c.self.inside.lists c.self.invariant.are)

pub invariant_of-self : goal.invariant_of-self
invariant_of-self c = (renewed c).queues

pub returns-then-stays_last-clause-pages : goal.returns-then-stays_last-clause-pages
returns-then-stays_last-clause-pages c =
    subst (λ (v : Queue). (p : ℕ) → find_page (items_in (record { entries = c.set_item.new.entries; cold = c.self.inside.lists.cold; others = c.self.inside.lists.others })) p
    ≡ cond (c.args.page.0 == p) (Some (item_of c.args.page.0 c.args.generation c.args.place c.args.cold)) (find_page v.items p)) c.self.view_is (renewed c).pages

pub returns-then-stays_last-clause-ordered : goal.returns-then-stays_last-clause-ordered
returns-then-stays_last-clause-ordered c = (renewed c).ordered

pub take-requires : goal.take-requires
take-requires c =
    contains c.self.inside.lists c.self.invariant.are c.args.page.0 c.in-Some.key
    (found_at c.self.inside.lists c.self.inside.seats.items (vec_capacity c.self.inside.seats) c.self.inside.room c.self.invariant c.args.page.0 c.in-Some.key (sym c.in-Some.is ∙ c.key_of.ensures))

pub invariant_of-self-in-Some : goal.invariant_of-self-in-Some
invariant_of-self-in-Some c = (moved_at c.self.inside.lists c.take.new.lists c.put.new.lists c.self.inside.seats.items (vec_capacity c.self.inside.seats) c.self.inside.room c.self.invariant c.args.page.0 c.in-Some.key c.put.result
    (item_of c.args.page.0 c.args.generation c.args.place c.args.cold) (sym c.in-Some.is ∙ c.key_of.ensures) c.take.ensures.taken c.put.ensures.put refl (c.put.ensures.key ∙ c.take.ensures.next)
    c.take.ensures.len c.put.ensures.len c.take.ensures.capacity c.put.ensures.capacity).queues

pub returns-in-Some-clause-pages : goal.returns-in-Some-clause-pages
returns-in-Some-clause-pages c =
    subst (λ (v : Queue). (p : ℕ) → find_page (items_in c.put.new.lists) p ≡ cond (c.args.page.0 == p) (Some (item_of c.args.page.0 c.args.generation c.args.place c.args.cold)) (find_page v.items p)) c.self.view_is
    (moved_at c.self.inside.lists c.take.new.lists c.put.new.lists c.self.inside.seats.items (vec_capacity c.self.inside.seats) c.self.inside.room c.self.invariant c.args.page.0 c.in-Some.key c.put.result
    (item_of c.args.page.0 c.args.generation c.args.place c.args.cold) (sym c.in-Some.is ∙ c.key_of.ensures) c.take.ensures.taken c.put.ensures.put refl (c.put.ensures.key ∙ c.take.ensures.next)
    c.take.ensures.len c.put.ensures.len c.take.ensures.capacity c.put.ensures.capacity).pages

pub returns-in-Some-clause-ordered : goal.returns-in-Some-clause-ordered
returns-in-Some-clause-ordered c = (moved_at c.self.inside.lists c.take.new.lists c.put.new.lists c.self.inside.seats.items (vec_capacity c.self.inside.seats) c.self.inside.room c.self.invariant c.args.page.0
    c.in-Some.key c.put.result (item_of c.args.page.0 c.args.generation c.args.place c.args.cold) (sym c.in-Some.is ∙ c.key_of.ensures) c.take.ensures.taken c.put.ensures.put refl (c.put.ensures.key ∙ c.take.ensures.next)
    c.take.ensures.len c.put.ensures.len c.take.ensures.capacity c.put.ensures.capacity).ordered

pub put-key-requires : goal.put-key-requires
put-key-requires c =
    let asked = subst (λ (v : Queue). find_page v.items c.args.page.0 ≡ None → length v.items < v.room) (sym c.self.view_is) c.requires in
    (has_room c.self.inside.lists c.self.inside.seats.items (vec_capacity c.self.inside.seats) c.self.inside.room c.self.invariant c.args.page.0 (sym c.in_default.is ∙ c.key_of.ensures) asked).0

pub seat_in-requires-clause-room : goal.seat_in-requires-clause-room
seat_in-requires-clause-room c =
    let asked = subst (λ (v : Queue). find_page v.items c.args.page.0 ≡ None → length v.items < v.room) (sym c.self.view_is) c.requires in
    (has_room c.self.inside.lists c.self.inside.seats.items (vec_capacity c.self.inside.seats) c.self.inside.room c.self.invariant c.args.page.0 (sym c.in_default.is ∙ c.key_of.ensures) asked).1

holds : (c : After-seat_in) → QueuesAre c.put-key.new.lists c.seat_in.new.seats.items (vec_capacity c.seat_in.new.seats) c.self.inside.room
    (λ p. cond (c.args.page.0 == p) (Some (item_of c.args.page.0 c.args.generation c.args.place c.args.cold)) (find_page (items_in c.self.inside.lists) p))
holds c =
    added c.self.inside.lists c.put-key.new.lists c.self.inside.seats.items c.seat_in.new.seats.items (vec_capacity c.self.inside.seats) (vec_capacity c.seat_in.new.seats) c.self.inside.room c.self.invariant
    c.args.page.0 c.put-key.result (item_of c.args.page.0 c.args.generation c.args.place c.args.cold) (sym c.in_default.is ∙ c.key_of.ensures) c.put-key.ensures.put refl c.seat_in.ensures.keys c.seat_in.ensures.rising
    c.seat_in.ensures.len c.seat_in.ensures.room c.put-key.ensures.len c.put-key.ensures.capacity

pub invariant_of-self-2 : goal.invariant_of-self-2
invariant_of-self-2 c = (holds c).queues

pub returns-clause-pages : goal.returns-clause-pages
returns-clause-pages c =
    subst (λ (v : Queue). (p : ℕ) → find_page (items_in c.put-key.new.lists) p ≡ cond (c.args.page.0 == p) (Some (item_of c.args.page.0 c.args.generation c.args.place c.args.cold)) (find_page v.items p)) c.self.view_is
    (holds c).pages

pub returns-clause-ordered : goal.returns-clause-ordered
returns-clause-ordered c = (holds c).ordered
