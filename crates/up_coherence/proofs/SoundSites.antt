-- All that is promised of a site goes on.
use Rattle.std.proofs.Common.{ℕ, ◌≤◌, Bool, true, false, cond, List, [], ◌∷◌, suc, arith}
use Rattle.up_model.specs.declared.entry.Birth.{Birth}
use Rattle.up_model.specs.declared.entry.Entry.{Entry}
use Rattle.up_coherence.specs.Coherent.{Coherent, is_bad, bad_facts, Sound}
use Rattle.up_coherence.proofs.NewestReads.{reads_newest}
use Rattle.up_coherence.proofs.Runs.{coherent_first}

pub sound_first : (image : ℕ → ℕ) (birth : Birth) (hands : ℕ → ℕ → ℕ) (rose : ℕ) → Sound image birth [] image hands rose
sound_first image birth hands rose = record { coherent = coherent_first image birth hands; reads = tt; faults = omega arith }

rose_by : (bad : Bool) (told rose more : ℕ) → told ≤ rose → cond bad (suc rose) rose ≤ more → cond bad (suc told) told ≤ more
rose_by true told rose more less more_faults = omega arith
rose_by false told rose more less more_faults = omega arith

pub sound_more : (image : ℕ → ℕ) (birth : Birth) (e : Entry) (h : List Entry) (disk after' : ℕ → ℕ) (hands hold : ℕ → ℕ → ℕ) (rose more : ℕ) →
    Sound image birth h disk hands rose → Coherent image birth (e ∷ h) after' hold → cond (is_bad e.call) (suc rose) rose ≤ more → Sound image birth (e ∷ h) after' hold more
sound_more image birth e h disk after' hands hold rose more was now faults = record {
  coherent = now;
  reads = (was.reads, reads_newest image birth e h disk hands now.firm.legal was.coherent);
  faults = rose_by (is_bad e.call) (bad_facts h) rose more was.faults faults;
}
