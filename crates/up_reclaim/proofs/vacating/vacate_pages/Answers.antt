use Rattle.up_model.specs.declared.entry.Call.TheVariants.{Vacate}
use Rattle.up_model.specs.declared.entry.Entry.{Entry}
use Rattle.std.proofs.Common.{refl}
use Rattle.up_reclaim.proofs.Vacates.{undone_beyond}
use Rattle.up_reclaim.proofs.vacating.vacate_pages.Goals as goal

pub close-object-requires-clause-pages : goal.close-object-requires-clause-pages
close-object-requires-clause-pages c =
    let e : Entry = record { who = c.args.vacating.by.who; epoch = c.args.vacating.by.epoch; call = Vacate c.args.vacating.brought; reply = c.args.answer.noted } in
    rw (c.vacate_each.ensures, c.in-Ok.ensures.ok, c.entry-entry.ensures, c.call.ensures, c.as_slice.ensures.value, c.requires.sized)
    (λ p undone. undone_beyond c.args.object.birth e c.args.object.journal c.args.vacating.brought p refl c.requires.noted undone)
