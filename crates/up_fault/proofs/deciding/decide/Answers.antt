use Rattle.std.proofs.Common.{subst, sym}
use Rattle.up_fault.specs.Accesses.{access_in, Decided}
use Rattle.up_fault.proofs.AccessReplies.{attempt_decided}
use Rattle.up_fault.proofs.deciding.decide.Goals as goal

pub returns : goal.returns
returns c = λ bytes. subst (λ v. Decided c.args.object.now.birth c.args.object.now.journal (access_in c.args.attempt.now bytes) c.args.brought v) (sym c.judge.ensures)
    (attempt_decided c.args.object.now.birth c.args.object.now.journal c.is_legal.ensures c.args.attempt.now bytes c.args.brought c.requires.some)
