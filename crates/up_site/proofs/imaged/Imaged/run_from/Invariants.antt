use Rattle.std.proofs.Common.{◌≡◌, ◌+◌, ◌-◌, ◌^◌, ◌<◌, ◌≤◌}
use Rattle.up_span.specs.Runs.{run_of}
use Rattle.up_claims.specs.Sited.{goes_with}
use Rattle.up_site.specs.Sought.{among_of}
use Rattle.up_site.proofs.imaged.Imaged.run_from.Given as goal

-- so many pages go with the run, and the rest of it is still to come
abbrev pub invariant-loop-count : goal.invariant-loop-count
invariant-loop-count g l = (0 < l.count) × (l.count ≤ 8) × (l.first + l.count < 2 ^ 32)
    × (l.count + run_of (goes_with l.self.whole.birth l.self.whole.journal (among_of l.among) l.first)
    (l.first + l.count) (8 - l.count)
    ≡ run_of (goes_with l.self.whole.birth l.self.whole.journal (among_of l.among) l.first) l.first 8)

abbrev pub decreases-loop-count : goal.decreases-loop-count
decreases-loop-count g l = 8 - l.count
