use Rattle.std.proofs.Common.{◌≡◌, ℕ, ◌&&◌, nat_lt}
use Rattle.up_span.specs.Sets.{holds}
use Rattle.up_model.specs.States.{unclean}
use Rattle.up_site.proofs.imaged.Imaged.unclean_set.Given as goal

-- the unclean pages so far
abbrev pub invariant-loop-page : goal.invariant-loop-page
invariant-loop-page g l = (q : ℕ) → holds l.pages.runs q ≡ (nat_lt q l.page && unclean l.self.whole.birth
    l.self.whole.journal q)
