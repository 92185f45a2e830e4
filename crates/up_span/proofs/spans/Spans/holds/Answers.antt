use Rattle.std.proofs.Common.{◌≡◌, ◌∙◌, ◌≤◌, length, ltb, false, sym, ap, arith}
use Rattle.std.proofs.lemmas.Bool.Decides.{nat_tests}
use Rattle.up_span.specs.Sets.{holds, PageSet}
use Rattle.up_span.proofs.Places.{held_at, held_none}
use Rattle.up_span.proofs.spans.Spans.holds.Goals as goal

pub returns-then-place-len : goal.returns-then-place-len
returns-then-place-len c = sym (held_at c.self.inside.runs.items c.ended_by-place.result c.args.page c.run_at.result c.self.invariant.0
    c.ended_by-place.ensures.before c.run_at.ensures (c.ended_by-place.ensures.after c.run_at.result c.run_at.ensures))
    ∙ ap (λ (set : PageSet). holds set.runs c.args.page) c.self.view_is

pub returns-else-place-len : goal.returns-else-place-len
returns-else-place-len c =
    let past : length c.self.inside.runs.items ≤ c.ended_by-place.result = omega arith in
    let none : holds c.self.inside.runs.items c.args.page ≡ false = held_none c.self.inside.runs.items c.ended_by-place.result c.args.page c.self.invariant.0
    c.ended_by-place.ensures.before past in
    let test : ltb c.ended_by-place.result c.len.result ≡ false = grind (arith, nat_tests) in
    test ∙ sym none ∙ ap (λ (set : PageSet). holds set.runs c.args.page) c.self.view_is
