use Rattle.std.proofs.Common.{◌≡◌, ◌*◌, ◌-◌, ◌≤◌}
use Rattle.up_model.specs.Value.{bytes_from}
use Rattle.up_site.proofs.parts.bytes_in.Given as goal

abbrev pub invariant-loop-done : goal.invariant-loop-done
invariant-loop-done l =
    (l.done ≤ l.fn.range.count) × (l.bytes.items ≡ bytes_from l.fn.object.birth l.fn.object.journal (4096 *
    l.fn.range.first) (4096 * l.done))

abbrev pub decreases-loop-done : goal.decreases-loop-done
decreases-loop-done l = l.fn.range.count - l.done
