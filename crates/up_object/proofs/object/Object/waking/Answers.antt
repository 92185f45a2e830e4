use Rattle.std.proofs.Common.{◌≡◌, ℕ, IfOk, subst, ◌∙◌}
use Rattle.std.proofs.lemmas.Result.{IfOk-weaker}
use Rattle.up_num.specs.declared.answers.AskKind.{AskKind}
use Rattle.up_asks.specs.Asking.{events_of, fixed_among}
use Rattle.up_model.specs.declared.entry.Call.{Call}
use Rattle.up_model.specs.Asks.{resolves}
use Rattle.up_model.specs.Tickets.{woken}
use Rattle.up_object.specs.Whole.{Whole}
use Rattle.up_object.proofs.Waiters.{woken_is}
use Rattle.up_object.proofs.object.Object.waking.Goals as goal

pub returns : goal.returns
returns c =
    let events = events_of c.args.events.now in
    let tickets = c.self.inside.asks.tickets in
    subst (λ (v : Whole). IfOk c.waking.result (λ woke. (call : Call) → ((kind : AskKind) (page : ℕ) → resolves v.birth v.journal call kind page ≡ events kind page) → woke ≡ woken v.birth v.journal call)) c.self.view_is
    (IfOk-weaker _ (λ woke. woke ≡ fixed_among events tickets 0)
    (λ woke. (call : Call) → ((kind : AskKind) (page : ℕ) → resolves c.self.inside.birth c.self.inside.log.entries call kind page ≡ events kind page) → woke ≡ woken c.self.inside.birth c.self.inside.log.entries call)
    (λ _ is call same. is ∙ woken_is c.self.inside.birth c.self.inside.log.entries call events tickets c.self.invariant.asks.tickets same) c.waking.ensures)
