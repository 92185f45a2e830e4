use Rattle.std.proofs.Common.{◌≡◌, ℕ, ◌≤◌, ◌∙◌, subst, arith, length}
use Rattle.up_span.specs.Pages.{count_pages}
use Rattle.up_pages.specs.Pages.{size_of}
use Rattle.up_model.specs.Size.{size}
use Rattle.up_model.specs.Order.{loose}
use Rattle.up_object.specs.Whole.{Whole}
use Rattle.up_object.proofs.Seats.{few_items, seat_beyond}
use Rattle.up_object.proofs.Reclaims.{queue_long}
use Rattle.up_object.proofs.object.Object.loose_pages.Goals as goal

pub prove-unreachable-requires : goal.prove-unreachable-requires
prove-unreachable-requires c =
    let s = c.self.invariant in
    let few : length c.self.inside.queues.items ≤ size_of c.self.inside.pages = few_items (size_of c.self.inside.pages) c.self.inside.queues.items c.len-loose.ensures.ordered
    (λ p past. s.queued p ∙ seat_beyond c.self.inside.birth c.self.inside.log.entries s.legal p (subst (λ (n : ℕ). n ≤ p) s.sized past)) in
    let size = c.size-size.ensures in
    let long = c.len-loose.ensures.value in
    let over = c.if-prove.true in
    omega arith

pub returns : goal.returns
returns c =
    let s = c.self.invariant in
    c.len-loose.ensures.value
    ∙ subst (λ (v : Whole). length c.self.inside.queues.items ≡ count_pages (loose v.birth v.journal) 0 (size v.birth v.journal)) c.self.view_is
    (queue_long c.self.inside.birth c.self.inside.log.entries s.legal c.self.inside.queues.items (record { ordered = c.len-loose.ensures.ordered; pages = s.queued }))
