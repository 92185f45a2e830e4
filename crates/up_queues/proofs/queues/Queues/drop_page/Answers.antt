use Rattle.std.proofs.Common.{◌≡◌, ℕ, ◌==◌, None, cond, sym, ◌∙◌, subst}
use Rattle.std.specs.Prelude.{vec_capacity}
use Rattle.up_queues.specs.Queue.{Queue, find_page, InOrder}
use Rattle.up_queues.specs.Lists.{items_in}
use Rattle.up_queues.proofs.QueuesAfterCalls.{QueuesAre, Found, in_order, found_at, contains, shows_none, still_none, dropped}
use Rattle.up_queues.proofs.queues.Queues.drop_page.Goals as goal
use Rattle.up_queues.proofs.queues.Queues.drop_page.Goals.{After-seat_out}

pub returns-in_default-clause-pages : goal.returns-in_default-clause-pages
returns-in_default-clause-pages c =
    let none : find_page (items_in c.self.inside.lists) c.args.page.0 ≡ None =
    shows_none c.self.inside.lists c.self.inside.seats.items (vec_capacity c.self.inside.seats) c.self.inside.room c.self.invariant c.args.page.0 (sym c.in_default.is ∙ c.key_of.ensures) in
    still_none c.args.page.0 (find_page c.args.self.now.items) (subst (λ (v : Queue). find_page v.items c.args.page.0 ≡ None) c.self.view_is none)

pub returns-in_default-clause-ordered : goal.returns-in_default-clause-ordered
returns-in_default-clause-ordered c = subst (λ (v : Queue). InOrder v.items) c.self.view_is (in_order c.self.inside.lists c.self.invariant.are)

pub take-requires : goal.take-requires
take-requires c =
    contains c.self.inside.lists c.self.invariant.are c.args.page.0 c.in-Some.key
    (found_at c.self.inside.lists c.self.inside.seats.items (vec_capacity c.self.inside.seats) c.self.inside.room c.self.invariant c.args.page.0 c.in-Some.key (sym c.in-Some.is ∙ c.key_of.ensures))

holds : (c : After-seat_out) → QueuesAre c.take.new.lists c.seat_out.new.seats.items (vec_capacity c.seat_out.new.seats) c.self.inside.room
    (λ p. cond (c.args.page.0 == p) None (find_page (items_in c.self.inside.lists) p))
holds c =
    let f : Found c.self.inside.lists c.self.invariant.are c.args.page.0 c.in-Some.key =
    found_at c.self.inside.lists c.self.inside.seats.items (vec_capacity c.self.inside.seats) c.self.inside.room c.self.invariant c.args.page.0 c.in-Some.key (sym c.in-Some.is ∙ c.key_of.ensures) in
    dropped c.self.inside.lists c.take.new.lists c.self.inside.seats.items c.seat_out.new.seats.items (vec_capacity c.self.inside.seats) (vec_capacity c.seat_out.new.seats) c.self.inside.room c.self.invariant
    c.args.page.0 c.in-Some.key f (c.take.ensures.taken c.self.invariant.are f.node f.itself f.own) c.seat_out.ensures.keys c.seat_out.ensures.rising c.seat_out.ensures.len c.seat_out.ensures.room
    c.take.ensures.len c.take.ensures.capacity

pub invariant_of-self : goal.invariant_of-self
invariant_of-self c = (holds c).queues

pub returns-clause-pages : goal.returns-clause-pages
returns-clause-pages c = subst (λ (v : Queue). (p : ℕ) → find_page (items_in c.take.new.lists) p ≡ cond (c.args.page.0 == p) None (find_page v.items p)) c.self.view_is (holds c).pages

pub returns-clause-ordered : goal.returns-clause-ordered
returns-clause-ordered c = (holds c).ordered
