use Rattle.std.proofs.Common.{rules, arith, refl, ap, ◌∙◌}
use Rattle.up_bank.specs.Find.{bits_set}
use Rattle.up_bank.proofs.Counts.{no_count, count_more}
use Rattle.up_bank.proofs.bank.Bank.free_at.Goals as goal

pub loop-word-init : goal.loop-word-init
loop-word-init c = (refl, no_count _ _ c.requires.idle, omega arith)

pub loop-word-preserved : goal.loop-word-preserved
loop-word-preserved c = let i = c.loop-word.invariant in
    (c.look-was.ensures.same ∙ i.0, count_more _ _ _ _ _ _ _ _ i.1 c.look-was.ensures.found c.look-was.ensures.known c.loop-word-test.true (c.count_bits-free.ensures.set ∙ ap (bits_set c.look-was.result) (search rules)), omega arith)
