use Rattle.std.proofs.Common.{List, reverse, sym, ◌∙◌, ap, subst}
use Rattle.up_core.specs.declared.requests.Request.{Request}
use Rattle.up_core.specs.Running.{Ended}
use Rattle.up_core.proofs.Leftover.{turned, gave_up}
use Rattle.up_core.proofs.listing.give_up.Goals as goal

pub returns : goal.returns
returns c = λ whole keeps.
    subst (λ (rest : List Request). Ended whole whole c.args.list rest c.into_frames.result.items) (sym (c.from_vec.ensures ∙ c.reverse-2.ensures.items))
    (gave_up whole c.args.list (reverse c.pop.new.self.items) c.in-Some.met c.into_frames.result.items keeps
    (turned c.args.list c.pop.new.self.items c.in-Some.met (ap reverse (sym c.into_vec-left.ensures) ∙ sym c.reverse.ensures.items ∙ c.in-Some.ensures.items))
    c.into_frames.ensures.items)
