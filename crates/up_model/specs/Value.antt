-- What each byte of the object is, which pages are there, and what has become of the writeback of a page.
use Rattle.std.specs.Prelude.{ℕ, ◌+◌, ◌*◌, ◌&&◌, ◌||◌, not, Bool, true, false, cond, Option, Some, None, is_some, List, [], ◌∷◌, zero, suc}
use Rattle.up_model.specs.Attempts.{page_of, attempt}
use Rattle.up_model.specs.Deeds.{Named, AnyBegin, is_named, named, writes, supplies, begins, ends, pins_one, for_zero, blanks, dirties, drops, written, supplied}
use Rattle.up_model.specs.declared.entry.Birth.{Birth}
use Rattle.up_model.specs.declared.entry.Entry.{Entry}

-- the first of two bytes, where there is one
abbrev pub or_else : Option ℕ → Option ℕ → Option ℕ
or_else None later = later
or_else (Some byte) later = Some byte

-- the byte at x after an entry, where it was `old` before. A write gives its byte; a supply gives one where there was
-- none; a growth and a zero call give 0; where the page is evicted, cut off or emptied there is none.
abbrev pub value_after : Birth → List Entry → Entry → ℕ → Bool → Option ℕ → Option ℕ
value_after birth before e x emptied old =
    cond (writes before e (page_of x)) (or_else (written (attempt before e) x) old)
    (cond (supplies e (page_of x)) (or_else old (supplied e.call x))
    (cond (blanks birth before e (page_of x)) (Some 0)
    (cond (drops birth before e (page_of x) || emptied) None old)))

-- Four definitions that look at one another. Below each stands again in plain words (`States`), and here as one
-- equation over the last entry.
unfoldable mutual
  -- the byte at offset x, where there is one: the last entry decides. An end empties a page that was there, a zero page and
  -- not settled, where a begin that the end is for has begun its writeback.
  pub value : Birth → List Entry → ℕ → Option ℕ
  value birth [] x = None
  value birth (e ∷ before) x =
      value_after birth before e x (elim (ends e (page_of x)) [
        | true ↦ (is_some (value birth before (4096 * page_of x)) && marked birth before (page_of x)) && ((is_some (value birth before (4096 * page_of x)) && not (settled birth before (page_of x))) && begun_by birth before (named birth e.call) (page_of x))
        | false ↦ false
      ]) (value birth before x)

  -- of the writes in p, taken supplies of p, pins over p, growths of p and zero calls over p the last is one of the last two
  pub marked : Birth → List Entry → ℕ → Bool
  marked birth [] p = false
  marked birth (e ∷ before) p =
      cond (blanks birth before e p) true (cond (writes before e p || pins_one e p) false (elim (supplies e p) [
        | true ↦ is_some (value birth before (4096 * p)) && marked birth before p
        | false ↦ marked birth before p
      ]))

  -- of these begins one that counts for p stands after what dirtied p last. One for zero pages counts where p was a zero page.
  pub begun_by : Birth → List Entry → Named → ℕ → Bool
  begun_by birth [] which p = false
  begun_by birth (e ∷ before) which p =
      cond (dirties birth before e p) false (elim (is_named which e.reply && begins e p) [
        | true ↦ (not (for_zero e.call) || (is_some (value birth before (4096 * p)) && marked birth before p)) || begun_by birth before which p
        | false ↦ begun_by birth before which p
      ])

  -- p was never dirtied, or such a begin stands after what dirtied p last, and after it an accepted end over p that is for it
  pub settled : Birth → List Entry → ℕ → Bool
  settled birth [] p = true
  settled birth (e ∷ before) p =
      cond (dirties birth before e p) false (elim (ends e p) [
        | true ↦ begun_by birth before (named birth e.call) p || settled birth before p
        | false ↦ settled birth before p
      ])

-- a begin that counts for p stands after what dirtied p last
abbrev pub begun : Birth → List Entry → ℕ → Bool
begun birth h p = begun_by birth h AnyBegin p

-- the page is there: its first byte has a value
abbrev pub there : Birth → List Entry → ℕ → Bool
there birth h p = is_some (value birth h (4096 * p))

-- the entry is a taken supply of p: p wasn't there before it
abbrev pub takes : Birth → List Entry → Entry → ℕ → Bool
takes birth before e p = supplies e p && not (there birth before p)

abbrev pub byte_or_zero : Option ℕ → ℕ
byte_or_zero None = 0
byte_or_zero (Some byte) = byte

-- the n bytes from offset x on, a byte without a value as 0
abbrev pub bytes_from : Birth → List Entry → ℕ → ℕ → List ℕ
bytes_from birth h x zero = []
bytes_from birth h x (suc n) = byte_or_zero (value birth h x) ∷ bytes_from birth h (x + 1) n
