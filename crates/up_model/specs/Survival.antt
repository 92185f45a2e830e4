-- Survival: the bytes of a write stay readable until a writeback could have read them.
use Rattle.std.specs.Prelude.{◌≡◌, ℕ, ◌+◌, ◌<◌, ◌≤◌, ◌⊎◌, Bool, true, false, cond, Option, Some, None, is_some, List, ◌∷◌, slice_get}
use Rattle.up_model.specs.Attempts.{Access, page_of, attempt}
use Rattle.up_model.specs.Size.{size}
use Rattle.up_model.specs.Deeds.{writes, blanks, written}
use Rattle.up_model.specs.Value.{value, there}
use Rattle.up_model.specs.Positions.{first_of, said_at, passes_at, beginning, beginning_as, named_at, ending, dirtying}
use Rattle.up_model.specs.Lasts.{last_said}
use Rattle.up_model.specs.Legal.{Legal}
use Rattle.up_model.specs.declared.entry.Birth.{Birth}
use Rattle.up_model.specs.declared.entry.Entry.{Entry}
use Rattle.up_model.specs.declared.entry.Reply.TheVariants.{Bytes}

-- the entry is a write in p
abbrev pub writing : ℕ → List Entry → Entry → Bool
writing p before e = writes before e p

-- the byte that a write puts at offset x
abbrev pub writes_byte : ℕ → List Entry → Entry → Option ℕ
writes_byte x before e = cond (writes before e (page_of x)) (written (attempt before e) x) None

-- the byte that a write puts there, or the 0 of a growth of its page or a zero call over it
abbrev pub gives_byte : Birth → ℕ → List Entry → Entry → Option ℕ
gives_byte birth x before e =
    cond (writes before e (page_of x)) (written (attempt before e) x) (cond (blanks birth before e (page_of x)) (Some 0) None)

-- the byte at offset x of its last write, growth or zero call
abbrev pub byte_given : Birth → List Entry → ℕ → Option ℕ
byte_given birth h x = last_said (gives_byte birth x) h

-- page p lies within the size after each entry from position i on
abbrev pub WithinFrom : Birth → List Entry → ℕ → ℕ → Type 0
WithinFrom birth h p i = (k : ℕ) → i < k → p < size birth (first_of h k)

-- `now` are first entries of h: after them each byte that the entry at position i of h wrote in page p has the byte of its
-- last write, growth or zero call. As it was written at i, this last one stands at i or later.
abbrev pub Kept : Birth → List Entry → ℕ → ℕ → List Entry → Type 0
Kept birth h p i now = (x : ℕ) → page_of x ≡ p → is_some (said_at None (writes_byte x) h i) ≡ true → value birth now x ≡ byte_given birth now x

-- p is there, with these bytes
pub record Stays (birth : Birth) (h : List Entry) (p i : ℕ) : Type 0 where
  pub here : there birth h p ≡ true
  pub bytes : Kept birth h p i h

-- a writeback could have read them: after i a begin stands that counts for p, and after it an accepted end over p that is for
-- this begin; nothing dirtied p between the two, and from the begin to just before the end p had these bytes
pub record WroteBack (birth : Birth) (h : List Entry) (p i : ℕ) : Type 0 where
  pub start : ℕ
  pub stop : ℕ
  pub after : i < start
  pub order : start < stop
  pub begin : passes_at (beginning_as birth (named_at birth h stop) p) h start ≡ true
  pub end : passes_at (ending p) h stop ≡ true
  pub still : (k : ℕ) → start < k → k < stop → passes_at (dirtying birth p) h k ≡ false
  pub bytes : (k : ℕ) → start ≤ k → k ≤ stop → Kept birth h p i (first_of h k)

-- let a write in page p stand at position i of a legal journal, and let p be within the size from i to the end. Then p is
-- there with the bytes written, as far as they weren't replaced, or a writeback could have read them.
abbrev pub Survival : Type 0
Survival =
    (birth : Birth) (h : List Entry) → Legal birth h → (p i : ℕ) → passes_at (writing p) h i ≡ true → WithinFrom birth h p i →
    Stays birth h p i ⊎ WroteBack birth h p i

-- no begin that counts for p stands after position i
abbrev pub NoneBegins : Birth → List Entry → ℕ → ℕ → Type 0
NoneBegins birth h p i = (k : ℕ) → i < k → passes_at (beginning birth p) h k ≡ false

-- while no begin that counts for p follows, p is there with the bytes written, as far as they weren't replaced
abbrev pub StaysUnbegun : Type 0
StaysUnbegun =
    (birth : Birth) (h : List Entry) → Legal birth h → (p i : ℕ) → passes_at (writing p) h i ≡ true → WithinFrom birth h p i →
    NoneBegins birth h p i → Stays birth h p i

-- then a read gives each byte that was written and not replaced
abbrev pub ReadBack : Type 0
ReadBack =
    (birth : Birth) (e : Entry) (h : List Entry) → Legal birth (e ∷ h) → (x i byte : ℕ) → said_at None (writes_byte x) h i ≡ Some byte →
    WithinFrom birth h (page_of x) i → NoneBegins birth h (page_of x) i →
    ((k : ℕ) → i < k → said_at None (gives_byte birth x) h k ≡ None) →
    (a : Access) (bytes : List ℕ) (n : ℕ) → attempt h e ≡ Some a → e.reply ≡ Bytes bytes → n < a.len → a.off + n ≡ x → slice_get bytes n ≡ Some byte
