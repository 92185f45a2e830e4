-- The state of a page that is there, and which begins and ends count for it.
use Rattle.std.specs.Prelude.{ℕ, ◌&&◌, ◌||◌, not, Bool, Option, List}
use Rattle.up_num.specs.Span.{Span}
use Rattle.up_model.specs.Deeds.{Named, is_named, named, begins, ends, for_zero}
use Rattle.up_model.specs.Value.{there, marked, begun_by, begun, settled}
use Rattle.up_model.specs.declared.entry.Birth.{Birth}
use Rattle.up_model.specs.declared.entry.Entry.{Entry}
use Rattle.up_model.specs.declared.entry.Call.TheVariants.{End}

-- p is there, and still zeros as a growth or a zero call left it: neither written, supplied nor pinned since
abbrev pub plain : Birth → List Entry → ℕ → Bool
plain birth h p = there birth h p && marked birth h p

-- p is there and settled
abbrev pub clean : Birth → List Entry → ℕ → Bool
clean birth h p = there birth h p && settled birth h p

-- p is there and not settled: what it has isn't written back
abbrev pub unclean : Birth → List Entry → ℕ → Bool
unclean birth h p = there birth h p && not (settled birth h p)

-- p is unclean, and a writeback that counts for it has begun since it was dirtied last
abbrev pub awaiting : Birth → List Entry → ℕ → Bool
awaiting birth h p = unclean birth h p && begun birth h p

-- p is unclean, and no such writeback has begun
abbrev pub dirty : Birth → List Entry → ℕ → Bool
dirty birth h p = unclean birth h p && not (begun birth h p)

-- the begin counts for p: one for zero pages does only where p is plain
abbrev pub counts : Birth → List Entry → Entry → ℕ → Bool
counts birth before e p = begins e p && (not (for_zero e.call) || plain birth before p)

-- and it is one of these
abbrev pub counts_as : Birth → List Entry → Named → Entry → ℕ → Bool
counts_as birth before which e p = is_named which e.reply && counts birth before e p

-- a begin that the end is for counts for p, and stands after what dirtied p last
abbrev pub closes : Birth → List Entry → Entry → ℕ → Bool
closes birth before e p = begun_by birth before (named birth e.call) p

-- so for an end of this range and number
abbrev pub closing : Birth → List Entry → Span → Option ℕ → ℕ → Bool
closing birth h range of p = begun_by birth h (named birth (End range of)) p

-- p is an unclean zero page, and one of these begins counts for it: an end that is for them will empty it
abbrev pub empty_at_end : Birth → List Entry → Named → ℕ → Bool
empty_at_end birth h which p = plain birth h p && (unclean birth h p && begun_by birth h which p)

-- the end empties p
abbrev pub empties : Birth → List Entry → Entry → ℕ → Bool
empties birth before e p = ends e p && empty_at_end birth before (named birth e.call) p
