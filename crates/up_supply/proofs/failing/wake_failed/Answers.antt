use Rattle.std.proofs.Common.{ℕ, List, ap, sym, ◌∙◌}
use Rattle.up_model.specs.declared.entry.Reply.TheVariants.{Woke}
use Rattle.up_supply.proofs.Refused.{fail_passes, fail_woken}
use Rattle.up_supply.proofs.failing.wake_failed.Goals as goal

pub fail_and_wake-requires-clause-fits : goal.fail_and_wake-requires-clause-fits
fail_and_wake-requires-clause-fits c = (fail_passes c.args.object.birth c.args.object.journal c.args.failing.range c.requires.accepted).ends

pub fail_and_wake-requires-clause-due : goal.fail_and_wake-requires-clause-due
fail_and_wake-requires-clause-due c =
    fail_woken c.args.object.birth c.args.object.journal c.args.failing.by.who c.args.failing.by.epoch c.args.failing.range c.args.failing.code c.requires.accepted
    ∙ ap (λ (xs : List ℕ). Woke xs) (sym c.in-Ok.ensures)
