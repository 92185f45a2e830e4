use Rattle.std.proofs.Common.{◌≡◌, sym, subst, ap, ◌∙◌, true, false, is_some}
use Rattle.up_model.specs.Tickets.{owner, spent, outcome}
use Rattle.up_object.specs.Whole.{Whole}
use Rattle.up_object.proofs.Waiters.{held_is, outcome_is}
use Rattle.up_object.proofs.object.Object.outcome.Goals as goal

pub outcome-requires : goal.outcome-requires
outcome-requires c = record {
  held = held_is _ _ _ c.args.ticket c.self.invariant.legal c.self.invariant.asks
      (subst (λ (v : Whole). (is_some (owner v.journal c.args.ticket) ≡ true) × (spent v.journal c.args.ticket ≡ false)) (sym c.self.view_is) c.requires.held);
}

pub returns : goal.returns
returns c =
    let held = held_is _ _ _ c.args.ticket c.self.invariant.legal c.self.invariant.asks
    (subst (λ (v : Whole). (is_some (owner v.journal c.args.ticket) ≡ true) × (spent v.journal c.args.ticket ≡ false)) (sym c.self.view_is) c.requires.held) in
    outcome_is _ _ _ c.args.ticket c.outcome.result c.self.invariant.asks held c.outcome.ensures ∙ ap (λ (v : Whole). outcome v.birth v.journal c.args.ticket) c.self.view_is
