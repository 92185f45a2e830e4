use Rattle.std.proofs.Common.{◌≡◌, [], rules, ap}
use Rattle.up_turn.proofs.FirstAndLast.{two_entries}
use Rattle.up_turn.proofs.plain_journal.take_turns.Goals as goal

pub returns-clause-count : goal.returns-clause-count
returns-clause-count g c = let none : c.split-second.new.pass.own ≡ [] = search rules in let nothing : c.split-second.result.own ≡ [] = search rules in
    two_entries _ _ _ _ _ _ _ _ c.close.ensures.each_once (ap (λ p. p.own) c.join.ensures.pass) c.in_ok-add.ensures.ok.own c.in_ok-add-2.ensures.ok.own none nothing
