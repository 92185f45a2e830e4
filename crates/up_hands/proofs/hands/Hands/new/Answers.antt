use Rattle.std.proofs.Common.{ℕ, List, sum, ap, ◌∙◌, arith}
use Rattle.up_bank.specs.declared.kind.FrameKind.TheVariants.{Ordinary, Loaned}
use Rattle.up_steps.specs.Handed.{held_in}
use Rattle.up_hands.proofs.EntriesAdded.{held_new}
use Rattle.up_hands.proofs.KeptFrames.{no_counts}
use Rattle.up_hands.proofs.hands.Hands.new.Goals as goal

pub invariant_of-result : goal.invariant_of-result
invariant_of-result c =
    let in_pages = ap (held_in Ordinary) c.in_ok-machine.ensures.lives ∙ held_new Ordinary c.args.births.now in
    let lent = ap (held_in Loaned) c.in_ok-machine.ensures.lives ∙ held_new Loaned c.args.births.now in
    let home = c.in_ok-machine.ensures.home.0 in
    let loans = c.in_ok-machine.ensures.home.1 in
    let none = ap (λ (counts : List ℕ). sum counts) c.in-Ok.ensures.counts ∙ no_counts c.args.actors in
    record {
      frames = omega arith;
      loan = omega arith;
      hand = tt;
      kept = c.in-Ok.ensures.none _;
    }
