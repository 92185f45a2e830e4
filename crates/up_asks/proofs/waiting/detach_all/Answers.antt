use Rattle.std.proofs.Common.{◌≤◌, ◌∙◌, length, ap, sym, arith}
use Rattle.std.proofs.lemmas.List.{drop_all}
use Rattle.up_asks.specs.Asking.{all_detached}
use Rattle.up_asks.specs.Keeps.{tickets_after, waiting_among}
use Rattle.up_asks.proofs.Events.{settled_all, none_waiting}
use Rattle.up_asks.proofs.waiting.detach_all.Goals as goal

pub returns-clause-tickets : goal.returns-clause-tickets
returns-clause-tickets c =
    let past : length c.args.waiting.now.items ≤ c.loop-place.place = omega arith in
    sym (ap (λ ws. tickets_after all_detached c.loop-place.tickets.items ws) (drop_all c.loop-place.place c.args.waiting.now.items past))
    ∙ c.loop-place.invariant.list
    ∙ settled_all all_detached c.args.tickets.now.items c.args.waiting.now.items c.requires

pub returns-clause-waiting : goal.returns-clause-waiting
returns-clause-waiting c = c.truncate.ensures.items
    ∙ sym (ap (λ ts. waiting_among ts 0) (returns-clause-tickets c) ∙ none_waiting c.args.tickets.now.items 0)
