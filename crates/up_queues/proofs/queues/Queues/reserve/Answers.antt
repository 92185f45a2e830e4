use Rattle.std.proofs.Common.{◌≡◌, ◌+◌, ◌≤◌, length, sym, ◌∙◌, ap, subst, arith}
use Rattle.std.specs.Prelude.{vec_capacity}
use Rattle.slab.specs.Slab.{slab_len}
use Rattle.up_queues.specs.Queue.{Queue}
use Rattle.up_queues.specs.Lists.{items_in}
use Rattle.up_queues.specs.Seats.{AreQueues}
use Rattle.up_queues.proofs.QueuesAfterCalls.{many_items, roomier, same_items, on_err}
use Rattle.up_queues.proofs.queues.Queues.reserve.Goals as goal

pub returns-then-room-self-clause-enough : goal.returns-then-room-self-clause-enough
returns-then-room-self-clause-enough c =
    let seats : c.len.result ≡ length c.self.inside.seats.items = omega arith in
    let many : length (items_in c.self.inside.lists) ≡ slab_len c.self.inside.lists.entries = many_items c.self.inside.lists c.self.invariant.are in
    let as_many : length c.self.inside.seats.items ≡ slab_len c.self.inside.lists.entries = c.self.invariant.many in
    let sum : c.in-Some.room ≡ c.len.result + c.args.pages = omega arith in
    let fits : c.in-Some.room ≤ c.self.inside.room = c.if-room-self.true in
    subst (λ (v : Queue). length v.items + c.args.pages ≤ v.room) c.self.view_is (omega (arith, seats, many, as_many, sum, fits))

pub invariant_of-self : goal.invariant_of-self
invariant_of-self c =
    let held : c.self.inside.room ≤ c.self.inside.lists.entries.capacity = c.self.invariant.entry_room in
    let more : c.self.inside.lists.entries.capacity ≤ c.reserve.new.self.capacity = c.reserve.ensures.capacity in
    roomier c.self.inside.lists c.self.inside.seats.items (vec_capacity c.self.inside.seats) c.self.inside.room c.self.invariant c.reserve.new.self c.reserve.ensures.rest_kept
    (vec_capacity c.self.inside.seats) c.self.inside.room (omega (arith, held, more)) c.self.invariant.seat_room

pub returns-in_err-reserve-clause-items : goal.returns-in_err-reserve-clause-items
returns-in_err-reserve-clause-items c =
    subst (λ (v : Queue). items_in (record { entries = c.reserve.new.self; cold = c.self.inside.lists.cold; others = c.self.inside.lists.others }) ≡ v.items) c.self.view_is
    (same_items c.self.inside.lists c.reserve.new.self c.reserve.ensures.rest_kept)

pub returns-in_err-reserve-clause-same : goal.returns-in_err-reserve-clause-same
returns-in_err-reserve-clause-same c =
    let shown : _ → Queue = λ items. record { items = items; room = c.self.inside.room } in
    on_err _ c.from_residual.result (ap shown (same_items c.self.inside.lists c.reserve.new.self c.reserve.ensures.rest_kept) ∙ c.self.view_is)

pub invariant_of-self-in_err-reserve-2 : goal.invariant_of-self-in_err-reserve-2
invariant_of-self-in_err-reserve-2 c =
    let held : c.self.inside.room ≤ c.self.inside.lists.entries.capacity = c.self.invariant.entry_room in
    let more : c.self.inside.lists.entries.capacity ≤ c.reserve.new.self.capacity = c.reserve.ensures.capacity in
    let held' : c.self.inside.room ≤ vec_capacity c.self.inside.seats = c.self.invariant.seat_room in
    let more' : vec_capacity c.self.inside.seats ≤ vec_capacity c.reserve-2.new.self = c.reserve-2.ensures.capacity in
    subst (λ xs. AreQueues (record { entries = c.reserve.new.self; cold = c.self.inside.lists.cold; others = c.self.inside.lists.others }) xs (vec_capacity c.reserve-2.new.self) c.self.inside.room)
    (sym c.reserve-2.ensures.items)
    (roomier c.self.inside.lists c.self.inside.seats.items (vec_capacity c.self.inside.seats) c.self.inside.room c.self.invariant c.reserve.new.self c.reserve.ensures.rest_kept
    (vec_capacity c.reserve-2.new.self) c.self.inside.room (omega (arith, held, more)) (omega (arith, held', more')))

pub returns-in_err-reserve-2-clause-items : goal.returns-in_err-reserve-2-clause-items
returns-in_err-reserve-2-clause-items c =
    subst (λ (v : Queue). items_in (record { entries = c.reserve.new.self; cold = c.self.inside.lists.cold; others = c.self.inside.lists.others }) ≡ v.items) c.self.view_is
    (same_items c.self.inside.lists c.reserve.new.self c.reserve.ensures.rest_kept)

pub returns-in_err-reserve-2-clause-same : goal.returns-in_err-reserve-2-clause-same
returns-in_err-reserve-2-clause-same c =
    let shown : _ → Queue = λ items. record { items = items; room = c.self.inside.room } in
    on_err _ c.from_residual-in_err-reserve-2.result (ap shown (same_items c.self.inside.lists c.reserve.new.self c.reserve.ensures.rest_kept) ∙ c.self.view_is)

pub invariant_of-self-2 : goal.invariant_of-self-2
invariant_of-self-2 c =
    let seats : c.len.result ≡ length c.self.inside.seats.items = omega arith in
    let as_many : length c.self.inside.seats.items ≡ slab_len c.self.inside.lists.entries = c.self.invariant.many in
    let sum : c.in-Some.room ≡ c.len.result + c.args.pages = omega arith in
    let len : slab_len c.reserve.new.self ≡ slab_len c.self.inside.lists.entries = ap slab_len c.reserve.ensures.rest_kept in
    let entry_room : slab_len c.reserve.new.self + c.args.pages ≤ c.reserve.new.self.capacity = c.in_ok-reserve.ensures.room in
    let seat_room : length c.self.inside.seats.items + c.args.pages ≤ vec_capacity c.reserve-2.new.self = omega (arith, c.in_ok-reserve-2.ensures.ok) in
    subst (λ xs. AreQueues (record { entries = c.reserve.new.self; cold = c.self.inside.lists.cold; others = c.self.inside.lists.others }) xs (vec_capacity c.reserve-2.new.self) c.in-Some.room)
    (sym c.reserve-2.ensures.items)
    (roomier c.self.inside.lists c.self.inside.seats.items (vec_capacity c.self.inside.seats) c.self.inside.room c.self.invariant c.reserve.new.self c.reserve.ensures.rest_kept
    (vec_capacity c.reserve-2.new.self) c.in-Some.room (omega (arith, seats, as_many, sum, len, entry_room)) (omega (arith, seats, sum, seat_room)))

pub returns-clause-enough : goal.returns-clause-enough
returns-clause-enough c =
    let seats : c.len.result ≡ length c.self.inside.seats.items = omega arith in
    let many : length (items_in c.self.inside.lists) ≡ slab_len c.self.inside.lists.entries = many_items c.self.inside.lists c.self.invariant.are in
    let as_many : length c.self.inside.seats.items ≡ slab_len c.self.inside.lists.entries = c.self.invariant.many in
    let sum : c.in-Some.room ≡ c.len.result + c.args.pages = omega arith in
    let same : length (items_in (record { entries = c.reserve.new.self; cold = c.self.inside.lists.cold; others = c.self.inside.lists.others })) ≡ length (items_in c.self.inside.lists) =
    ap length (same_items c.self.inside.lists c.reserve.new.self c.reserve.ensures.rest_kept) in
    omega (arith, seats, many, as_many, sum, same)

pub returns-clause-items : goal.returns-clause-items
returns-clause-items c =
    subst (λ (v : Queue). items_in (record { entries = c.reserve.new.self; cold = c.self.inside.lists.cold; others = c.self.inside.lists.others }) ≡ v.items) c.self.view_is
    (same_items c.self.inside.lists c.reserve.new.self c.reserve.ensures.rest_kept)
