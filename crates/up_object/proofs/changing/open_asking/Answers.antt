use Rattle.std.proofs.Common.{◌≡◌, ℕ, ◌+◌, ◌-◌, ◌≤◌, ◌<◌, sym, subst, ◌∙◌, length}
use Rattle.up_pages.specs.Frames.{count_kind}
use Rattle.up_model.specs.Size.{size}
use Rattle.up_object.specs.Change.{AllAre, of_kind, counts_of}
use Rattle.up_object.specs.Parts.{bank_of}
use Rattle.up_object.specs.Whole.{Whole, held}
use Rattle.up_object.proofs.Waits.{both_room}
use Rattle.up_object.proofs.CallEnds.{begins, unopened, frames_begin}
use Rattle.up_object.proofs.changing.open_asking.Goals as goal

pub invariant_of-result : goal.invariant_of-result
invariant_of-result c = begins _ c.object.inside.pages c.take_all_room.new.pages _ _ c.object.inside.asks c.take_all_room.new.asks _ c.object.inside.numbers c.take_all_room.new.numbers _ _ c.object.inside.log.spare _ _ c.object.inside.log.entries _ _ _ _ _ _ _ c.object.invariant c.take_all_room.ensures.entries c.take_all_room.ensures.pages c.take_all_room.ensures.size
    c.take_all_room.ensures.asks c.take_all_room.ensures.begins c.requires.order (subst (λ (v : Whole). c.args.limit ≤ size v.birth v.journal) (sym c.object.view_is) c.requires.fits)
    (subst (λ (v : Whole). AllAre (bank_of v.banks c.args.brings) c.args.given.items) (sym c.object.view_is) c.requires.own)
    (c.take_all_room.ensures.items ∙ c.new-back.ensures.empty)
    (subst (λ (n : ℕ). length c.take_all_room.new.back.items + (n + (c.args.limit - c.args.first)) ≤ c.take_all_room.new.back.room) c.len-count.ensures.value c.in-Ok.ensures.room)
    c.in-Ok.ensures.ready
    (subst (λ (n : ℕ). n < c.take_all_room.new.log.spare) c.leaves_left-reserved.ensures c.in-Ok.ensures.enough) c.in-Ok.ensures.place

pub invariant_of-object : goal.invariant_of-object
invariant_of-object c = unopened _ c.object.inside.pages c.take_all_room.new.pages _ _ c.object.inside.asks c.take_all_room.new.asks _ c.object.inside.numbers c.take_all_room.new.numbers _ _ c.object.inside.log.spare _ _ c.object.inside.log.entries _ c.object.invariant c.take_all_room.ensures.entries c.take_all_room.ensures.pages c.take_all_room.ensures.size
    c.take_all_room.ensures.asks c.take_all_room.ensures.begins c.take_all_room.ensures.spare

pub returns-in-Ok-clause-frames : goal.returns-in-Ok-clause-frames
returns-in-Ok-clause-frames c = λ kind. let s = c.object.invariant in
    subst (λ (v : Whole). of_kind kind (counts_of c.args.given.items c.take_all_room.new.back.items c.take_all_room.new.pages) ≡ count_kind kind c.args.given.items + held v.birth v.journal kind) c.object.view_is
    (frames_begin kind c.object.inside.banks c.object.inside.pages c.take_all_room.new.pages c.object.inside.marks c.args.given.items c.take_all_room.new.back.items c.object.inside.birth c.object.inside.log.entries
    (c.take_all_room.ensures.items ∙ c.new-back.ensures.empty) s.each s.sized c.take_all_room.ensures.pages c.take_all_room.ensures.size)

pub returns-in-Ok-clause-room : goal.returns-in-Ok-clause-room
returns-in-Ok-clause-room c = (c.in-Ok.ensures.ticket, (c.in-Ok.ensures.packets, both_room c.take_all_room.new.asks c.args.changes c.in-Ok.ensures.changes))
