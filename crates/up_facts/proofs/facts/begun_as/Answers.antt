use Rattle.up_facts.proofs.Begins.{found_all}
use Rattle.up_facts.proofs.facts.begun_as.Goals as goal

pub returns : goal.returns
returns c =
    found_all _ _ _ _ _ _ c.loop-place.place _ c.loop-place-test.false c.loop-place.invariant c.requires.dirtied_before c.requires.zeros_until
