use Rattle.std.proofs.Common.{◌≡◌, ◌∙◌, length, ap, sym, rules}
use Rattle.std.specs.Prelude.{vec_len}
use Rattle.up_asks.specs.Asking.{Asking, all_detached, fixed_among}
use Rattle.up_asks.proofs.Events.{detached_all}
use Rattle.up_asks.proofs.asks.Asks.count_waiting.Goals as goal

pub returns : goal.returns
returns c =
    let all : length (fixed_among all_detached c.args.self.now.tickets 0) ≡ length c.self.inside.waiting.items
    = ap (λ (a : Asking). length (fixed_among all_detached a.tickets 0)) (sym c.self.view_is)
    ∙ ap length (detached_all c.self.inside.tickets.items 0 ∙ sym c.self.invariant.listed) in
    let len : vec_len c.self.inside.waiting ≡ length c.self.inside.waiting.items = search rules in
    c.len.ensures ∙ len ∙ sym all
