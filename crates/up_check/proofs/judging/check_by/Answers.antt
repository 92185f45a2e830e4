use Rattle.std.proofs.Common.{rules, sym}
use mathlib.Core.Bool.{true≢false}
use Rattle.up_check.proofs.Illegal.{no_first, all_legal}
use Rattle.up_check.proofs.judging.check_by.Goals as goal

pub returns-in-Some-clause-exact : goal.returns-in-Some-clause-exact
returns-in-Some-clause-exact c = (λ told. absurd (true≢false (sym told)), λ legal. absurd (no_first c.args.journals.now.list c.loop-number.number c.in-Some.field-0.entry c.in-Some.field-0.expected (search rules) legal))

pub returns-clause-told : goal.returns-clause-told
returns-clause-told c = all_legal _ (search rules)

pub returns-clause-exact : goal.returns-clause-exact
returns-clause-exact c = (λ told. all_legal _ (search rules), search rules)
