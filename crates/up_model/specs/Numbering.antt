-- Laws on numbered writebacks: what an end does by number, what stays where the birth isn't numbered, and which numbers are given.
use Rattle.std.specs.Prelude.{◌≡◌, ℕ, ◌&&◌, ◌||◌, Bool, true, false, cond, Some, List, ◌∷◌, nat_lt}
use Rattle.up_num.specs.Span.{Span}
use Rattle.up_num.specs.declared.answers.Refusal.TheVariants.{NotBegun}
use Rattle.up_model.specs.Attempts.{accepts}
use Rattle.up_model.specs.Size.{range_fits}
use Rattle.up_model.specs.Deeds.{ThisBegin, began_as, ends, dirties}
use Rattle.up_model.specs.Value.{begun_by, begun, settled}
use Rattle.up_model.specs.States.{plain, unclean, awaiting, closes, empties}
use Rattle.up_model.specs.Numbers.{is_began, next_number, has_begun, begin_named, counts_since}
use Rattle.up_model.specs.Legal.{Legal}
use Rattle.up_model.specs.Positions.{first_of, passes_at, how_many}
use Rattle.up_model.specs.declared.entry.Birth.{Birth}
use Rattle.up_model.specs.declared.entry.Entry.{Entry}
use Rattle.up_model.specs.declared.entry.Call.TheVariants.{Begin, End}
use Rattle.up_model.specs.declared.entry.Reply.TheVariants.{Refused}

-- where a begin that an end is for counts, a writeback that counts has begun
abbrev pub EndsWhatWasBegun : Type 0
EndsWhatWasBegun = (birth : Birth) (e : Entry) (before : List Entry) (p : ℕ) → closes birth before e p ≡ true → begun birth before p ≡ true

-- an entry empties p where it is an accepted end over p, p was plain and unclean before it, and p is settled after it
abbrev pub EmptiesWhatItSettles : Type 0
EmptiesWhatItSettles =
    (birth : Birth) (e : Entry) (before : List Entry) (p : ℕ) →
    empties birth before e p ≡ (ends e p && (plain birth before p && (unclean birth before p && settled birth (e ∷ before) p)))

-- where the birth isn't numbered, an end closes what has begun, by whichever begin
abbrev pub RangedCloses : Type 0
RangedCloses =
    (birth : Birth) (e : Entry) (before : List Entry) (p : ℕ) → birth.numbered ≡ false → ends e p ≡ true → closes birth before e p ≡ begun birth before p

-- so it settles a page that has begun
abbrev pub RangedSettles : Type 0
RangedSettles =
    (birth : Birth) (e : Entry) (before : List Entry) (p : ℕ) → birth.numbered ≡ false →
    settled birth (e ∷ before) p
    ≡ cond (dirties birth before e p) false (cond (ends e p) (begun birth before p || settled birth before p) (settled birth before p))

-- and empties a zero page that awaits it
abbrev pub RangedEmpties : Type 0
RangedEmpties =
    (birth : Birth) (e : Entry) (before : List Entry) (p : ℕ) → birth.numbered ≡ false →
    empties birth before e p ≡ (ends e p && (plain birth before p && awaiting birth before p))

-- in a legal journal of such a birth no begin has a number
abbrev pub RangedHasNoNumber : Type 0
RangedHasNoNumber = (birth : Birth) (h : List Entry) → Legal birth h → birth.numbered ≡ false → next_number h ≡ 0

-- an accepted begin has one exactly where the birth is numbered
abbrev pub EachBeginHasANumber : Type 0
EachBeginHasANumber =
    (birth : Birth) (e : Entry) (before : List Entry) → Legal birth (e ∷ before) → (range : Span) (only_zero : Bool) → e.call ≡ Begin range only_zero →
    accepts e.reply ≡ true → is_began e.reply ≡ birth.numbered

-- in a legal journal a begin gets the number of those that have one before it
abbrev pub NumbersAreCounted : Type 0
NumbersAreCounted =
    (birth : Birth) (h : List Entry) → Legal birth h → (n k : ℕ) → passes_at (λ before e. began_as e.reply n) h k ≡ true →
    n ≡ how_many (λ e. is_began e.reply) (first_of h k)

-- so those below the next number have begun, and no others
abbrev pub BegunIsBelow : Type 0
BegunIsBelow = (birth : Birth) (h : List Entry) → Legal birth h → (n : ℕ) → has_begun h n ≡ nat_lt n (next_number h)

-- in a legal journal an end that names a begin that there isn't is refused, where its range fits
abbrev pub UnbegunIsRefused : Type 0
UnbegunIsRefused =
    (birth : Birth) (e : Entry) (before : List Entry) → Legal birth (e ∷ before) → (range : Span) (n : ℕ) → e.call ≡ End range (Some n) →
    range_fits birth before range ≡ true → has_begun before n ≡ false → e.reply ≡ Refused (NotBegun n)

-- in a legal journal the begin of number n counts for p, and stands after what dirtied p last, exactly where its range covers p,
-- there weren't more begins than n when p was dirtied last, and it was for all pages or p was a zero page at it
abbrev pub CountsByNumber : Type 0
CountsByNumber =
    (birth : Birth) (h : List Entry) → Legal birth h → (n p : ℕ) →
    begun_by birth h (ThisBegin n) p ≡ counts_since birth h (begin_named h n) n p
