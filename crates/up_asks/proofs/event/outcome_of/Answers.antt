use Rattle.std.proofs.Common.{◌∙◌, take, ap, sym}
use Rattle.up_num.specs.Asks.{then_outcome}
use Rattle.up_asks.specs.Asking.{events_of}
use Rattle.up_asks.proofs.Events.{events_more}
use Rattle.up_asks.proofs.event.outcome_of.Goals as goal

pub loop-place-preserved : goal.loop-place-preserved
loop-place-preserved c = c.first_of-outcome.ensures
    ∙ ap (λ o. then_outcome o c.outcome_at.result) c.loop-place.invariant
    ∙ ap (λ o. then_outcome (events_of (take c.loop-place.place c.args.events.now) c.args.kind c.args.page) o) c.outcome_at.ensures
    ∙ sym (events_more c.args.events.now c.loop-place.place c.event_at.result.now c.args.kind c.args.page c.event_at.ensures)
