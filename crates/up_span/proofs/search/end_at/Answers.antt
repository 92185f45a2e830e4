use Rattle.std.proofs.Common.{◌+◌, ◌<◌, ◌^◌, arith}
use Rattle.up_span.proofs.Places.{run_fits}
use Rattle.up_span.proofs.search.end_at.Goals as goal

pub overflow_add-result : goal.overflow_add-result
overflow_add-result c =
    let fits : c.run_at-run.result.first + c.run_at-run.result.count < 2 ^ 32 = run_fits c.args.runs.now.items c.args.place c.run_at-run.result c.requires.spans c.run_at-run.ensures in
    omega arith
