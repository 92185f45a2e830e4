use Rattle.std.proofs.Common.{◌≡◌, ℕ, ◌-◌, ◌<◌, ◌≤◌, ◌∷◌, sym, subst, ◌∙◌}
use Rattle.up_model.specs.Size.{size}
use Rattle.up_object.specs.Whole.{Whole}
use Rattle.up_object.proofs.CallEnds.{frames_none}
use Rattle.up_object.proofs.Grown.{grows, still_stands, seen_grown}
use Rattle.up_object.proofs.sizing.open_growing.Goals as goal

pub widen-requires-clause-more : goal.widen-requires-clause-more
widen-requires-clause-more c = let s = c.object.invariant in
    subst (λ (n : ℕ). n ≤ c.args.limit) (sym s.sized) (subst (λ (v : Whole). size v.birth v.journal ≤ c.args.limit) (sym c.object.view_is) c.requires.more)

pub invariant_of-result : goal.invariant_of-result
invariant_of-result c = let s = c.object.invariant in
    grows _ c.object.inside.pages c.widen.new.pages c.object.inside.marks c.widen.new.marks c.object.inside.queues c.widen.new.queues _ _ c.object.inside.numbers c.widen.new.numbers _ _ _ _ _ c.object.inside.log.entries _ _ _ _ _ _ _ s c.widen.ensures.entries c.widen.ensures.begins c.size-first.ensures
    (subst (λ (v : Whole). size v.birth (c.args.entry ∷ v.journal) ≡ c.args.limit) (sym c.object.view_is) c.requires.size)
    (subst (λ (v : Whole). size v.birth v.journal ≤ c.args.limit) (sym c.object.view_is) c.requires.more)
    c.widen.ensures.pages c.in-Ok.ensures.size c.in-Ok.ensures.ready c.widen.ensures.marks c.in-Ok.ensures.places c.widen.ensures.queued c.in-Ok.ensures.seats c.new-given.ensures.empty (c.widen.ensures.none ∙ c.new-back.ensures.empty) c.in-Ok.ensures.room
    (subst (λ (n : ℕ). n < c.widen.new.log.spare) c.leaves_left-reserved.ensures c.in-Ok.ensures.enough) c.in-Ok.ensures.place

pub invariant_of-object : goal.invariant_of-object
invariant_of-object c = let s = c.object.invariant in
    still_stands _ c.object.inside.pages c.widen.new.pages c.object.inside.marks c.widen.new.marks c.object.inside.queues c.widen.new.queues _ _ c.object.inside.numbers c.widen.new.numbers _ _ _ _ _ c.object.inside.log.entries _ s c.widen.ensures.entries c.widen.ensures.begins c.widen.ensures.pages c.in-Err.ensures.still
    c.widen.ensures.marks c.widen.ensures.marked c.widen.ensures.queued c.widen.ensures.wide c.widen.ensures.spare

pub returns-in-Ok-clause-ok : goal.returns-in-Ok-clause-ok
returns-in-Ok-clause-ok c = let s = c.object.invariant in
    seen_grown _ _ _ _ _ _ _ _ _ _ _ _ c.object.view_is c.widen.ensures.entries c.new-given.ensures.empty (c.size-first.ensures ∙ s.sized) c.in-Ok.ensures.size

pub returns-in-Ok-clause-frames : goal.returns-in-Ok-clause-frames
returns-in-Ok-clause-frames c = λ kind. let s = c.object.invariant in
    frames_none kind _ c.object.inside.pages c.widen.new.pages c.object.inside.marks _ _ _ _ _ c.object.view_is c.new-given.ensures.empty (c.widen.ensures.none ∙ c.new-back.ensures.empty) s.each s.sized (c.widen.ensures.kinds kind)
