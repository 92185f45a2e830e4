use Rattle.std.proofs.Common.{◌≡◌, ℕ, ◌<◌, length, vec_capacity}
use Rattle.std.specs.Prelude.{slice_index_or}
use Rattle.up_reclaim.specs.Loans.{fate_at}
use Rattle.up_reclaim.specs.declared.loans.Fate.TheVariants.{Stays}
use Rattle.up_reclaim.proofs.loans.fates_of.Given as goal

abbrev pub invariant-loop-page : goal.invariant-loop-page
invariant-loop-page l = record {
  size : length l.fates.items ≡ l.page;
  room : vec_capacity l.fates ≡ vec_capacity l.initial.fates;
  each : (p : ℕ) → p < l.page → slice_index_or l.fates.items p Stays ≡ fate_at l.object.birth l.object.journal p;
}
