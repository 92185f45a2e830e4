use Rattle.std.proofs.Common.{◌+◌, ◌≤◌, subst, refl, arith}
use Rattle.up_object.specs.Whole.{Whole}
use Rattle.up_object.specs.Stands.{leave_calls}
use Rattle.up_object.proofs.CallEnds.{begins, frames_none}
use Rattle.up_object.proofs.BeginLists.{leave_unbegun}
use Rattle.up_object.proofs.Tallies.{leave_fits, leaves_over, empty_are, no_room, same_asks}
use Rattle.up_object.proofs.leaving.open_leaving.Goals as goal

pub invariant_of-result : goal.invariant_of-result
invariant_of-result c = let s = c.object.invariant in
    begins _ c.object.inside.pages c.object.inside.pages _ _ c.object.inside.asks c.object.inside.asks _ c.object.inside.numbers c.object.inside.numbers _ _ c.object.inside.log.spare _ _ c.object.inside.log.entries _ _ _ _ _ _ _ s c.room_to_leave.ensures.entries (λ p. refl) refl (same_asks c.object.inside.asks) refl
    (omega arith) (omega arith) (empty_are _ _ c.new-given.ensures.empty) c.new-back.ensures.empty (no_room _ _ _ c.new-back.ensures.empty c.new-given.ensures.empty) (omega arith)
    (leave_fits c.args.entry.call c.object.inside.leaves c.object.inside.log.spare _ c.requires.leaves s.room c.room_to_leave.ensures.spare c.in-Ok.ensures.enough)
    (leave_unbegun c.args.entry.call c.args.entry.reply c.object.inside.numbers.spare c.requires.leaves)

pub returns-in-Ok-clause-frames : goal.returns-in-Ok-clause-frames
returns-in-Ok-clause-frames c = λ kind. let s = c.object.invariant in
    frames_none kind _ c.object.inside.pages c.object.inside.pages c.object.inside.marks _ _ _ _ _ c.object.view_is c.new-given.ensures.empty c.new-back.ensures.empty s.each s.sized refl

pub returns-in-Err-clause-late : goal.returns-in-Err-clause-late
returns-in-Err-clause-late c = let s = c.object.invariant in
    subst (λ (v : Whole). v.birth.users + v.birth.pagers ≤ leave_calls v.journal) c.object.view_is
    (leaves_over _ _ _ s.leaving c.in-Err.ensures.late)
