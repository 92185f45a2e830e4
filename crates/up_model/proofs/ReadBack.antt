-- What was written is read back while no begin counts for its page.
use Rattle.std.proofs.Common.{◌≡◌, ℕ, ◌+◌, ◌<◌, Bool, true, false, cond, Option, Some, None, is_some, List, ◌∷◌, slice_get, refl, ap, ◌∙◌}
use Rattle.up_model.specs.Attempts.{Access, page_of, attempt}
use Rattle.up_model.specs.Deeds.{writes, blanks, written}
use Rattle.up_model.specs.Value.{value}
use Rattle.up_model.specs.Positions.{first_of, entry_at, of_entry, said_at}
use Rattle.up_model.specs.Survival.{writing, writes_byte, gives_byte, byte_given, WithinFrom, NoneBegins}
use Rattle.up_model.specs.Legal.{Legal}
use Rattle.up_model.specs.declared.entry.Birth.{Birth}
use Rattle.up_model.specs.declared.entry.Entry.{Entry}
use Rattle.up_model.specs.declared.entry.Reply.TheVariants.{Bytes}
use Rattle.up_model.proofs.LastSaid.{last_said_is_last}
use Rattle.up_model.proofs.ReadBytes.{reads_values}
use Rattle.up_model.proofs.WritesSurvive.{stays_unbegun}

-- what puts a byte is a write, and gives that byte
puts : (write : Bool) (new other : Option ℕ) (byte : ℕ) → cond write new None ≡ Some byte → (write ≡ true) × (cond write new other ≡ Some byte)
puts true new other byte is = (refl, is)
puts false new other byte is = absurd cc

entry_puts : (birth : Birth) (h : List Entry) (x byte : ℕ) (o : Option Entry) → of_entry None (writes_byte x h) o ≡ Some byte →
    (of_entry false (writing (page_of x) h) o ≡ true) × (of_entry None (gives_byte birth x h) o ≡ Some byte)
entry_puts birth h x byte None is = absurd cc
entry_puts birth h x byte (Some e) is = puts (writes h e (page_of x)) (written (attempt h e) x) (cond (blanks birth h e (page_of x)) (Some 0) None) byte is

pub read_back : (birth : Birth) (e : Entry) (h : List Entry) → Legal birth (e ∷ h) → (x i byte : ℕ) → said_at None (writes_byte x) h i ≡ Some byte →
    WithinFrom birth h (page_of x) i → NoneBegins birth h (page_of x) i →
    ((k : ℕ) → i < k → said_at None (gives_byte birth x) h k ≡ None) →
    (a : Access) (bytes : List ℕ) (n : ℕ) → attempt h e ≡ Some a → e.reply ≡ Bytes bytes → n < a.len → a.off + n ≡ x → slice_get bytes n ≡ Some byte
read_back birth e h legal x i byte put within unbegun alone a bytes n tried is small at =
    let found = entry_puts birth (first_of h i) x byte (entry_at h i) put in
    let stays = stays_unbegun birth h legal.0 (page_of x) i found.0 within unbegun in
    let last : byte_given birth h x ≡ Some byte = ((last_said_is_last (gives_byte birth x) h).0 byte).1 (i, record { here = found.1; later = alone }) in
    let known : value birth h x ≡ byte_given birth h x = stays.bytes x refl (ap (λ (o : Option ℕ). is_some o) put) in
    reads_values birth e h legal a bytes tried is n small ∙ ap (λ (y : ℕ). value birth h y) at ∙ known ∙ last
