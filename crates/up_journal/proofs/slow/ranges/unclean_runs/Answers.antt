use Rattle.up_model.specs.Reply as replies
use Rattle.std.proofs.Common.{reverse}
use Rattle.up_journal.proofs.Runs.{kinds_next, run_within, run_some, run_few}
use Rattle.up_journal.proofs.slow.ranges.unclean_runs.Goals as goal

pub loop-place-preserved : goal.loop-place-preserved
loop-place-preserved c = record {
  found = kinds_next (replies.unclean_kind c.args.birth.now (reverse c.args.before.now)) c.loop-place.list _ _ _ _ _ c.loop-place.run _ c.unclean_kind-kind.result
      c.loop-place-test.true c.unclean_kind-kind.ensures c.in_ok-run.ensures.next c.in_ok-run.ensures.closed c.loop-place.invariant.found;
  within = run_within c.unclean_kind-kind.result c.loop-place.run c.in_ok-run.run' _ c.in_ok-run.ensures.next c.loop-place.invariant.within;
  some = run_some c.unclean_kind-kind.result c.loop-place.run c.in_ok-run.run' c.in_ok-run.ensures.next;
  few = run_few c.unclean_kind-kind.result c.loop-place.list _ _ _ c.loop-place.run c.in_ok-run.run' c.in_ok-run.ensures.next c.in_ok-run.ensures.closed
      c.loop-place.invariant.some c.loop-place.invariant.few;
}
