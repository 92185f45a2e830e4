use Rattle.std.proofs.Common.{◌≡◌, ◌+◌, ◌<◌, ◌≤◌, ◌^◌, ◌∙◌, List, sym, subst, arith}
use Rattle.std.proofs.lemmas.Option.{same_Some, slice_get_within}
use Rattle.up_span.specs.declared.run.Run.{Run}
use Rattle.up_span.proofs.Outside.{GapsTo, gaps_none, gaps_more, gaps_all}
use Rattle.up_span.proofs.Places.{run_fits}
use Rattle.up_span.proofs.gaps.gaps_of.Goals.{then-loop-place-test+else-run_at-end, else-loop-place-test}
use Rattle.up_span.proofs.gaps.gaps_of.Goals as goal

pub loop-place-init : goal.loop-place-init
loop-place-init c = subst (λ (out : List Run). GapsTo c.args.runs.now.items c.args.first (c.args.first + c.args.count) c.ended_by-place.result c.args.first out) (sym c.new-outside.ensures)
    (gaps_none c.args.runs.now.items c.args.first (c.args.first + c.args.count) c.ended_by-place.result
    c.ended_by-place.ensures.within c.ended_by-place.ensures.before c.ended_by-place.ensures.after)

pub overflow_add-next : goal.overflow_add-next
overflow_add-next c =
    let fits : c.run_at-run.result.first + c.run_at-run.result.count < 2 ^ 32 = run_fits c.args.runs.now.items c.loop-place.place c.run_at-run.result c.requires.spans c.run_at-run.ensures in
    omega arith

pub loop-place-preserved : goal.loop-place-preserved
loop-place-preserved c =
    let same : c.run_at.result ≡ c.run_at-run.result = same_Some c.run_at.result c.run_at-run.result (sym c.run_at.ensures ∙ c.run_at-run.ensures) in
    gaps_more c.args.runs.now.items c.args.first (c.args.first + c.args.count) c.loop-place.place c.loop-place.next c.loop-place.outside c.push_stretch.new.runs c.run_at-run.result
    c.requires.spans.0 (omega arith) c.loop-place.invariant (omega arith) c.run_at-run.ensures
    (subst (λ (run : Run). run.first < c.args.first + c.args.count) same c.if-run_at-end.true) c.in_ok-push_stretch.ensures

pub returns : goal.returns
returns c = gaps_all c.args.runs.now.items c.args.first c.args.count c.loop-place.place c.loop-place.next c.loop-place.outside c.push_stretch-2.new.runs
    c.requires.spans.0 c.loop-place.invariant
    (λ run is. elim c.loop-place-test.branch [
      | then-loop-place-test+else-run_at-end w ↦ subst (λ (other : Run). c.args.first + c.args.count ≤ other.first)
          (same_Some w.run_at.result run (sym w.run_at.ensures ∙ is)) w.if-run_at-end.false
      | else-loop-place-test w ↦ let here = slice_get_within c.args.runs.now.items c.loop-place.place run is in absurd (omega arith)
    ]) c.in_ok-push_stretch-2.ensures
