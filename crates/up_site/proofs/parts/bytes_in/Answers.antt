use Rattle.std.proofs.Common.{◌≡◌, ◌+◌, ◌*◌, ℕ, length, ap, ◌∙◌, arith}
use Rattle.up_num.specs.Span.{Span}
use Rattle.up_site.proofs.Reached.{copy_more, bytes_long}
use Rattle.up_site.proofs.parts.bytes_in.Goals as goal

pub loop-done-preserved : goal.loop-done-preserved
loop-done-preserved c =
    let at : c.range.inside.first + c.loop-done.done ≡ c.args.range.first + c.loop-done.done = ap (λ (s :
    Span). s.first + c.loop-done.done) c.range.view_is in
    let many : c.range.inside.count ≡ c.args.range.count = ap (λ (s : Span). s.count) c.range.view_is in (
      omega arith,
      copy_more c.args.object.now.birth c.args.object.now.journal c.args.range.first c.loop-done.done
          (c.range.inside.first + c.loop-done.done)
          c.loop-done.bytes.items c.add_page.new.bytes.items at c.loop-done.invariant.1
          c.in_ok-add_page.ensures,
    )

pub returns-clause-whole : goal.returns-clause-whole
returns-clause-whole c =
    let many : c.range.inside.count ≡ c.args.range.count = ap (λ (s : Span). s.count) c.range.view_is in
    let full : c.loop-done.done ≡ c.args.range.count = omega (arith, c.loop-done.invariant.0) in
    ap length (c.from_vec.ensures ∙ c.loop-done.invariant.1)
    ∙ bytes_long c.args.object.now.birth c.args.object.now.journal (4096 * c.args.range.first) (4096 *
    c.loop-done.done)
    ∙ ap (λ (n : ℕ). 4096 * n) full
