use Rattle.std.proofs.Common.{ap, sym, ◌∙◌, nat_lt}
use Rattle.up_model.specs.Numbers.{has_begun}
use Rattle.up_model.proofs.NumberLaws.{begun_below}
use Rattle.up_object.specs.Whole.{Whole}
use Rattle.up_object.proofs.object.Object.has_begun.Goals as goal

pub returns : goal.returns
returns c = let s = c.self.invariant in
    ap (nat_lt c.args.number) (c.count.ensures ∙ s.numbered.count) ∙ sym (begun_below c.self.inside.birth c.self.inside.log.entries s.legal c.args.number)
    ∙ ap (λ (v : Whole). has_begun v.journal c.args.number) c.self.view_is
