use Rattle.std.proofs.Common.{sym, ◌∙◌}
use Rattle.up_model.specs.declared.entry.Reply.TheVariants.{Took}
use Rattle.up_supply.proofs.Refused.{supply_passes, supply_full, supply_taken}
use Rattle.up_supply.proofs.supplying.fill_range.Goals as goal

pub fill_and_wake-requires-clause-full : goal.fill_and_wake-requires-clause-full
fill_and_wake-requires-clause-full c =
    supply_full c.args.object.birth c.args.object.journal c.args.supplying.by.who c.args.supplying c.args.bytes c.args.frames.items c.requires.proper c.requires.accepted c.requires.frames

pub fill_and_wake-requires-clause-fits : goal.fill_and_wake-requires-clause-fits
fill_and_wake-requires-clause-fits c = (supply_passes c.args.object.birth c.args.object.journal c.args.supplying c.requires.accepted).ends

pub fill_and_wake-requires-clause-due : goal.fill_and_wake-requires-clause-due
fill_and_wake-requires-clause-due c =
    supply_taken c.args.object.birth c.args.object.journal c.args.supplying.by.who c.args.supplying.by.epoch c.args.supplying c.args.bytes c.requires.accepted
    ∙ (λ i. Took (sym c.count_absent-pages.ensures i) (sym (c.in-Ok.ensures c.args.bytes) i))

pub fill_and_wake-requires-clause-noted : goal.fill_and_wake-requires-clause-noted
fill_and_wake-requires-clause-noted c = c.in-Ok-woken.ensures c.args.bytes ∙ sym (c.in-Ok.ensures c.args.bytes)
