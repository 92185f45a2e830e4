use Rattle.std.proofs.Common.{ap, sym, ◌∙◌, ◌+◌, ◌*◌, ◌&&◌, not, nat_le}
use Rattle.up_model.specs.Attempts.{page_of}
use Rattle.up_model.specs.Size.{size}
use Rattle.up_model.specs.Value.{there}
use Rattle.up_model.specs.States.{dirty}
use Rattle.up_model.specs.Reply.{needs_own_frame}
use Rattle.up_core.specs.Enough.{needed}
use Rattle.up_core.specs.Needs.{write_needs}
use Rattle.up_core.proofs.FramesNeeded.{write_told}
use Rattle.up_core.proofs.needing.needs.Goals as goal

pub returns-in-Write : goal.returns-in-Write
returns-in-Write c =
    let birth = c.args.object.now.birth in
    let h = c.args.object.now.journal in
    let off = c.in-Write.off in
    write_told birth h off c.in-Write.bytes c.in-Write.last c.in-Write.brought c.needs_to_write.result
    (c.needs_to_write.ensures
    ∙ ap (λ len. write_needs (nat_le (off + len) (4096 * size birth h)) (there birth h (page_of off)) (birth.trap && not (dirty birth h (page_of off))) (needs_own_frame birth h (page_of off))) c.len.ensures)
    ∙ ap (needed birth h) (sym c.in-Write.is)
