use Rattle.std.proofs.Common.{refl, []}
use Rattle.up_model.specs.Attempts.{page_of}
use Rattle.up_model.specs.declared.entry.Entry.{Entry}
use Rattle.up_model.specs.declared.entry.Reply.TheVariants.{Bytes}
use Rattle.up_model.proofs.PagesTouched.{read_uses}
use Rattle.up_fault.specs.Accesses.{access_in}
use Rattle.up_fault.specs.Calls.{read_call, read_attempt}
use Rattle.up_fault.proofs.OnePageEnds.{reads_own}
use Rattle.up_fault.proofs.reading.read_bytes.Goals as goal

pub use_page-requires-clause-uses : goal.use_page-requires-clause-uses
use_page-requires-clause-uses c =
    let e : Entry = record { who = c.args.reading.by.who; epoch = c.args.reading.by.epoch; call = read_call c.args.reading; reply = Bytes c.in-Ok-bytes.noted } in
    rw (c.in-Ok-open.ensures.ok, c.entry-entry.ensures, c.call.ensures, c.page_in-page.ensures.value)
    (read_uses c.args.object.birth e c.args.object.journal (page_of c.args.reading.piece.off) (reads_own c.args.object.journal e (access_in (read_attempt c.args.reading) []) refl refl refl))
