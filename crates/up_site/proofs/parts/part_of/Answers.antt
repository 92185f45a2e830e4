use Rattle.std.proofs.Common.{◌≡◌, ◌∙◌, ap, List, ℕ, ◌*◌, ◌+◌, ◌-◌, take, drop, rules}
use Rattle.up_site.proofs.Reached.{slice_part}
use Rattle.up_site.proofs.parts.part_of.Goals as goal

pub returns-clause-value : goal.returns-clause-value
returns-clause-value c =
    let same : c.as_slice.result.now ≡ c.args.bytes.now = search rules in
    ap (λ (b : List ℕ). take (c.args.done * 4096 + 4096 - c.args.done * 4096) (drop (c.args.done * 4096)
    b)) same ∙ slice_part c.args.bytes.now c.args.done
