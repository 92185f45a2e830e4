-- The numbers of begins: which are given, and where a begin's number stands to what became of a page.
use Rattle.std.specs.Prelude.{ℕ, ◌&&◌, ◌||◌, not, Bool, true, false, cond, Option, Some, None, List, [], ◌∷◌, suc, nat_le, nat_lt}
use Rattle.up_num.specs.Span.{Span, covers}
use Rattle.up_model.specs.Deeds.{began_as, dirties}
use Rattle.up_model.specs.States.{plain}
use Rattle.up_model.specs.declared.entry.Birth.{Birth}
use Rattle.up_model.specs.declared.entry.Entry.{Entry}
use Rattle.up_model.specs.declared.entry.Call.{Call}
use Rattle.up_model.specs.declared.entry.Call.TheVariants.{Begin}
use Rattle.up_model.specs.declared.entry.Reply.{Reply}
use Rattle.up_model.specs.declared.entry.Reply.TheVariants.{Began}

abbrev pub is_began : Reply → Bool
is_began (Began n) = true
is_began _ = false

-- the number of replies Began, which is the next begin's
abbrev pub next_number : List Entry → ℕ
next_number [] = 0
next_number (e ∷ before) = cond (is_began e.reply) (suc (next_number before)) (next_number before)

-- a begin has this number
abbrev pub has_begun : List Entry → ℕ → Bool
has_begun [] n = false
has_begun (e ∷ before) n = began_as e.reply n || has_begun before n

-- what a begin is for: its range, and whether it is for zero pages alone
pub record BeginOf : Type 0 where
  pub range : Span
  pub only_zero : Bool

abbrev pub begin_of : Call → Option BeginOf
begin_of (Begin range only_zero) = Some (record { range = range; only_zero = only_zero })
begin_of _ = None

-- what the begin with this number is for
abbrev pub begin_named : List Entry → ℕ → Option BeginOf
begin_named [] n = None
begin_named (e ∷ before) n = cond (began_as e.reply n) (begin_of e.call) (begin_named before n)

-- how many begins had a number when p was dirtied last
abbrev pub dirtied_at : Birth → List Entry → ℕ → ℕ
dirtied_at birth [] p = 0
dirtied_at birth (e ∷ before) p = cond (dirties birth before e p) (next_number before) (dirtied_at birth before p)

-- and how many when p was a zero page last
abbrev pub zero_until : Birth → List Entry → ℕ → ℕ
zero_until birth [] p = 0
zero_until birth (e ∷ before) p = cond (plain birth before p) (next_number before) (zero_until birth before p)

-- the begin of number n covers p, isn't older than what dirtied p last, and was for all pages or saw a zero page
abbrev pub counts_since : Birth → List Entry → Option BeginOf → ℕ → ℕ → Bool
counts_since birth h None n p = false
counts_since birth h (Some b) n p =
    covers b.range p && (nat_le (dirtied_at birth h p) n && (not b.only_zero || (plain birth h p || nat_lt n (zero_until birth h p))))
