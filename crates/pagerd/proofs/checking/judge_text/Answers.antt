use Rattle.std.proofs.Common.{rules}
use Rattle.pagerd.proofs.VerdictsTold.{names_its_journal}
use Rattle.pagerd.proofs.checking.judge_text.Goals as goal

pub returns : goal.returns
returns c =
    names_its_journal c.args.bytes.now c.in_ok-text-in-First.text.items c.in-Ok.journals c.in-First.journal c.in-First.entry c.in-First.expected c.at.result.now
    (search rules) (search rules) (search rules) (search rules)
