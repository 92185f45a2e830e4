use Rattle.std.proofs.Common.{◌≡◌, ℕ, length, subst, ap, ◌∙◌}
use Rattle.up_num.specs.declared.answers.AskKind.{AskKind}
use Rattle.up_num.specs.declared.answers.Outcome.TheVariants.{Detached}
use Rattle.up_asks.specs.Asking.{all_detached}
use Rattle.up_model.specs.declared.entry.Call.{Call}
use Rattle.up_model.specs.Asks.{resolves}
use Rattle.up_model.specs.Tickets.{woken}
use Rattle.up_object.specs.Whole.{Whole}
use Rattle.up_object.proofs.Waiters.{woken_is}
use Rattle.up_object.proofs.object.Object.count_waiting.Goals as goal

pub returns : goal.returns
returns c = subst (λ (v : Whole). (call : Call) → ((kind : AskKind) (page : ℕ) → resolves v.birth v.journal call kind page ≡ Detached) → c.count_waiting.result ≡ length (woken v.birth v.journal call)) c.self.view_is
    (λ call same. c.count_waiting.ensures ∙ ap length (woken_is c.self.inside.birth c.self.inside.log.entries call all_detached c.self.inside.asks.tickets c.self.invariant.asks.tickets same))
