use Rattle.std.proofs.Common.{◌+◌, ◌≤◌, ◌||◌, take, ap, ◌∙◌, arith}
use Rattle.up_span.specs.Pages.{within}
use Rattle.up_span.specs.Sets.{holds, end_of, PageSet}
use Rattle.up_span.proofs.Places.{in_order}
use Rattle.up_span.proofs.Changes.{add_list}
use Rattle.up_span.proofs.spans.Spans.add_reserved.Goals as goal

pub put_between-requires-clause-order : goal.put_between-requires-clause-order
put_between-requires-clause-order c =
    let before : end_of 0 (take c.apart_from-low.result c.self.inside.runs.items) ≤ c.args.first + 1 = let b = c.apart_from-low.ensures.before in omega arith in
    in_order c.self.inside.runs.items _ _ c.args.first (c.args.first + c.args.count) c.self.invariant.0 c.apart_from-low.ensures.within before c.begun_by-high.ensures.after (omega arith)

pub invariant_of-self : goal.invariant_of-self
invariant_of-self c = (add_list c.self.inside.runs.items c.put_between.new.runs.items c.apart_from-low.result c.begun_by-high.result c.args.first c.args.count
    c.start_at-start.result c.stop_before-stop.result c.self.invariant (omega arith) c.requires.below c.apart_from-low.ensures.within c.apart_from-low.ensures.before c.apart_from-low.ensures.after
    c.begun_by-high.ensures.within c.begun_by-high.ensures.before c.begun_by-high.ensures.after c.start_at-start.ensures c.stop_before-stop.ensures
    c.put_between.ensures.items).0

pub returns-clause-pages : goal.returns-clause-pages
returns-clause-pages c = λ page. (add_list c.self.inside.runs.items c.put_between.new.runs.items c.apart_from-low.result c.begun_by-high.result c.args.first c.args.count
    c.start_at-start.result c.stop_before-stop.result c.self.invariant (omega arith) c.requires.below c.apart_from-low.ensures.within c.apart_from-low.ensures.before c.apart_from-low.ensures.after
    c.begun_by-high.ensures.within c.begun_by-high.ensures.before c.begun_by-high.ensures.after c.start_at-start.ensures c.stop_before-stop.ensures
    c.put_between.ensures.items).1 page ∙ ap (λ (set : PageSet). holds set.runs page || within c.args.first c.args.count page) c.self.view_is
