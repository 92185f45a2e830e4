-- What an access asks for, by the run of pages that lack the same.
use Rattle.std.proofs.Common.{◌≡◌, ℕ, ◌+◌, ◌-◌, ◌<◌, ◌≤◌, Bool, true, List, sym, ◌∙◌, arith, min, suc}
use Rattle.up_num.specs.declared.answers.AskKind.{AskKind}
use Rattle.up_span.specs.Runs.{run_of}
use Rattle.up_model.specs.Attempts.{Access, page_of}
use Rattle.up_model.specs.Size.{size}
use Rattle.up_model.specs.Asks.{lacks, kind_of, want}
use Rattle.up_model.specs.declared.entry.Birth.{Birth}
use Rattle.up_model.specs.declared.entry.Entry.{Entry}
use Rattle.up_model.proofs.Blocked.{run_within}
use Rattle.up_fault.proofs.RangeLoops.{run_goes_on}

pub want_is : (birth : Birth) (h : List Entry) (a : Access) (kind : AskKind) (room count : ℕ) → kind_of birth h a ≡ kind → room ≡ min (a.last + 1) (size birth h) - page_of a.off →
    count ≡ run_of (lacks birth h kind) (page_of a.off) room → want birth h a ≡ record { kind = kind; first = page_of a.off; count = count }
want_is birth h a kind room count k r c =
    (λ i. record { kind = k i; first = page_of a.off; count = run_of (lacks birth h (k i)) (page_of a.off) (sym r i) })
    ∙ (λ i. record { kind = kind; first = page_of a.off; count = sym c i })

-- some pages, and no more than there is room for
pub run_some : (test : ℕ → Bool) (p n count : ℕ) → 0 < n → test p ≡ true → count ≡ run_of test p n → 0 < count
run_some test p n count some is same = let more : run_of test p n ≡ suc (run_of test (p + 1) (n - 1)) = run_goes_on test p n some is in omega arith

pub run_fits : (test : ℕ → Bool) (p n count : ℕ) → count ≡ run_of test p n → count ≤ n
run_fits test p n count same = let few = run_within test p n in omega arith
