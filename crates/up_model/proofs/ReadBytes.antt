-- What a reply Bytes holds.
use Rattle.std.proofs.Common.{◌≡◌, ℕ, ◌+◌, ◌<◌, ◌≤◌, ◌%◌, ◌&&◌, not, Bool, true, false, cond, Option, Some, None, is_some, List, ◌∷◌, length, zero, suc, slice_get, refl, ap, sym, ◌∙◌, subst, arith}
use Rattle.std.proofs.lemmas.Bool.Decides.{nat_tests}
use Rattle.up_num.specs.declared.answers.Outcome.{Outcome}
use Rattle.up_num.specs.declared.answers.Outcome.TheVariants.{Freed}
use Rattle.up_num.specs.declared.answers.Refusal.{Refusal}
use Rattle.up_model.specs.Attempts.{Access, page_of, is_bytes, attempt, attempt_of, parked}
use Rattle.up_model.specs.Value.{value, there, byte_or_zero, bytes_from}
use Rattle.up_model.specs.States.{dirty}
use Rattle.up_model.specs.Roles.{detached}
use Rattle.up_model.specs.Tickets.{outcome}
use Rattle.up_model.specs.Reply.{within_page, refuse_where, must_wait, touch_reply, access_reply, retry_reply, reply}
use Rattle.up_model.specs.Legal.{Legal}
use Rattle.up_model.specs.declared.entry.Birth.{Birth}
use Rattle.up_model.specs.declared.entry.Brought.{Brought}
use Rattle.up_model.specs.declared.entry.Entry.{Entry}
use Rattle.up_model.specs.declared.entry.Call.{Call}
use Rattle.up_model.specs.declared.entry.Call.TheVariants.{Read, Write, Retry}
use Rattle.up_model.specs.declared.entry.Reply.{Reply}
use Rattle.up_model.specs.declared.entry.Reply.TheVariants.{Bytes, Done}
use Rattle.up_model.proofs.Passed.{Past, past_frames}
use Rattle.up_model.proofs.WaitLaws.{attempt_within, parked_within}
use Rattle.up_model.proofs.WritesSurvive.{has_byte}

-- the bytes from an offset on
byte_from : (birth : Birth) (h : List Entry) (x n m : ℕ) → m < n → slice_get (bytes_from birth h x n) m ≡ Some (byte_or_zero (value birth h (x + m)))
byte_from birth h x zero m small = absurd (omega arith)
byte_from birth h x (suc n) zero small = let same : x ≡ x + 0 = omega arith in ap (λ (y : ℕ). Some (byte_or_zero (value birth h y))) same
byte_from birth h x (suc n) (suc m) small =
    let same : x + 1 + m ≡ x + suc m = omega arith in
    byte_from birth h (x + 1) n m (omega arith) ∙ ap (λ (y : ℕ). Some (byte_or_zero (value birth h y))) same

bytes_many : (birth : Birth) (h : List Entry) (x n : ℕ) → length (bytes_from birth h x n) ≡ n
bytes_many birth h x zero = refl
bytes_many birth h x (suc n) = ap suc (bytes_many birth h (x + 1) n)

-- a reply Bytes behind a refusal, or of a page that is there
past_bytes : Past is_bytes
past_bytes = record { refused = λ why. refl; needs = λ count. refl }

behind_refusal : (b : Bool) (why : Refusal) (next : Reply) (bytes : List ℕ) → refuse_where b why next ≡ Bytes bytes → next ≡ Bytes bytes
behind_refusal true why next bytes is = absurd cc
behind_refusal false why next bytes is = is

waits_bytes : (birth : Birth) (h : List Entry) (bytes : List ℕ) → must_wait birth h ≡ Bytes bytes → ⊥
waits_bytes birth h bytes is = let never = behind_refusal (detached birth h) _ _ bytes is in absurd cc

first_bytes : (b : Bool) (x y : Reply) (bytes : List ℕ) → (y ≡ Bytes bytes → ⊥) → cond b x y ≡ Bytes bytes → (b ≡ true) × (x ≡ Bytes bytes)
first_bytes true x y bytes never is = (refl, is)
first_bytes false x y bytes never is = absurd (never is)

either_bytes : (b : Bool) (x y : Reply) (bytes : List ℕ) → (x ≡ Bytes bytes → ⊥) → (y ≡ Bytes bytes → ⊥) → cond b x y ≡ Bytes bytes → ⊥
either_bytes true x y bytes never other is = never is
either_bytes false x y bytes never other is = other is

touch_bytes : (birth : Birth) (h : List Entry) (a : Access) (brought : Brought) (put : Option (List ℕ)) (bytes : List ℕ) →
    touch_reply birth h a brought put ≡ Bytes bytes → bytes_from birth h a.off a.len ≡ bytes
touch_bytes birth h a brought None bytes is = cc
touch_bytes birth h a brought (Some these) bytes is =
    absurd (either_bytes (birth.trap && not (dirty birth h (page_of a.off))) _ _ bytes (waits_bytes birth h bytes)
    (λ framed. let never : false ≡ true = past_frames is_bytes past_bytes _ brought Done (ap is_bytes framed) in absurd cc) is)

record ReadFrom (birth : Birth) (h : List Entry) (a : Access) (bytes : List ℕ) : Type 0 where
  here : there birth h (page_of a.off) ≡ true
  gives : bytes_from birth h a.off a.len ≡ bytes

access_bytes : (birth : Birth) (h : List Entry) (a : Access) (brought : Brought) (bytes : List ℕ) → access_reply birth h a brought ≡ Bytes bytes → ReadFrom birth h a bytes
access_bytes birth h a brought bytes is =
    let found = first_bytes (there birth h (page_of a.off)) (touch_reply birth h a brought a.bytes) (must_wait birth h) bytes (waits_bytes birth h bytes) (behind_refusal _ _ _ bytes is) in
    record { here = found.0; gives = touch_bytes birth h a brought a.bytes bytes found.1 }

retry_bytes : (birth : Birth) (h : List Entry) (brought : Brought) (o : Outcome) (a : Access) (bytes : List ℕ) → retry_reply birth h brought o (Some a) ≡ Bytes bytes → ReadFrom birth h a bytes
retry_bytes birth h brought Freed a bytes is = access_bytes birth h a brought bytes is
retry_bytes birth h brought _ a bytes is = absurd cc

call_bytes : (birth : Birth) (h : List Entry) (who epoch : ℕ) (call : Call) (a : Access) (bytes : List ℕ) → attempt_of (parked h) call ≡ Some a →
    reply birth h who epoch call ≡ Bytes bytes → ReadFrom birth h a bytes
call_bytes birth h who epoch (Read piece last brought) a bytes tried is =
    let same : record { off = piece.off; len = piece.len; last = last.0; bytes = None } ≡ a = cc in
    subst (λ (b : Access). ReadFrom birth h b bytes) same (access_bytes birth h (record { off = piece.off; len = piece.len; last = last.0; bytes = None }) brought bytes is)
call_bytes birth h who epoch (Write off put last brought) a bytes tried is =
    let same : record { off = off; len = length put; last = last.0; bytes = Some put } ≡ a = cc in
    subst (λ (b : Access). ReadFrom birth h b bytes) same (access_bytes birth h (record { off = off; len = length put; last = last.0; bytes = Some put }) brought bytes is)
call_bytes birth h who epoch (Retry ticket brought) a bytes tried is =
    retry_bytes birth h brought (outcome birth h ticket) a bytes (subst (λ (o : Option Access). retry_reply birth h brought (outcome birth h ticket) o ≡ Bytes bytes) tried is)
call_bytes birth h who epoch _ a bytes tried is = absurd cc

entry_bytes : (birth : Birth) (e : Entry) (before : List Entry) → Legal birth (e ∷ before) → (a : Access) (bytes : List ℕ) → attempt before e ≡ Some a → e.reply ≡ Bytes bytes →
    ReadFrom birth before a bytes
entry_bytes birth e before legal a bytes tried is = call_bytes birth before e.who e.epoch e.call a bytes tried (sym legal.2 ∙ is)

pub reads_whole : (birth : Birth) (e : Entry) (before : List Entry) → Legal birth (e ∷ before) → (a : Access) (bytes : List ℕ) → attempt before e ≡ Some a → e.reply ≡ Bytes bytes →
    length bytes ≡ a.len
reads_whole birth e before legal a bytes tried is =
    sym (ap (λ (l : List ℕ). length l) (entry_bytes birth e before legal a bytes tried is).gives) ∙ bytes_many birth before a.off a.len

-- an offset of an access within a page lies in that page
same_page : (off len n : ℕ) → within_page off len ≡ true → n < len → page_of (off + n) ≡ page_of off
same_page off len n within small =
    let fits : off % 4096 + len ≤ 4096 = grind (arith, nat_tests) in
    omega arith

some_byte : (o : Option ℕ) → is_some o ≡ true → Some (byte_or_zero o) ≡ o
some_byte None some = absurd cc
some_byte (Some byte) some = refl

pub reads_values : (birth : Birth) (e : Entry) (before : List Entry) → Legal birth (e ∷ before) → (a : Access) (bytes : List ℕ) → attempt before e ≡ Some a → e.reply ≡ Bytes bytes →
    (n : ℕ) → n < a.len → slice_get bytes n ≡ value birth before (a.off + n)
reads_values birth e before legal a bytes tried is n small =
    let found = entry_bytes birth e before legal a bytes tried is in
    let inside = attempt_within birth before e.who e.call a (parked_within birth before legal.0) legal.1 tried in
    ap (λ (l : List ℕ). slice_get l n) (sym found.gives) ∙ byte_from birth before a.off a.len n small ∙
    some_byte (value birth before (a.off + n)) (has_byte birth before legal.0 (page_of a.off) (a.off + n) (same_page a.off a.len n inside small) found.here)
