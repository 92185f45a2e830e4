-- What the definitions answer to an access, by the tests that the code makes.
use Rattle.std.proofs.Common.{◌≡◌, ℕ, ◌+◌, ◌*◌, ◌<◌, ◌≤◌, ◌&&◌, ◌||◌, not, Bool, true, false, cond, Option, Some, None, is_some, List, refl, ◌∙◌, subst, arith, nat_le, nat_lt}
use Rattle.std.proofs.lemmas.Bool.Decides.{nat_tests}
use Rattle.up_model.specs.Attempts.{Access, page_of}
use Rattle.up_model.specs.Size.{size, access_fits}
use Rattle.up_model.specs.Value.{there}
use Rattle.up_model.specs.States.{plain, dirty}
use Rattle.up_model.specs.Pins.{loaned}
use Rattle.up_model.specs.Roles.{detached}
use Rattle.up_model.specs.Looks.{look_of, is_present, lacks_own_frame}
use Rattle.up_model.specs.Legal.{Legal}
use Rattle.up_model.specs.declared.entry.Birth.{Birth}
use Rattle.up_model.specs.declared.entry.Brought.{Brought}
use Rattle.up_model.specs.declared.entry.Brought.TheVariants.{Nothing, Frames, Scanned}
use Rattle.up_model.specs.declared.entry.Entry.{Entry}
use Rattle.up_model.proofs.Bools.{and_right}
use Rattle.up_fault.specs.declared.access.Attempt.{Attempt}
use Rattle.up_fault.specs.declared.access.Decision.{Decision}
use Rattle.up_fault.specs.declared.access.Decision.TheVariants.{Decline, Done}
use Rattle.up_object.specs.declared.step.Declined.TheVariants.{Needs}
use Rattle.up_fault.specs.Accesses.{access_in, decision, frame_verdict, Decided}
use Rattle.up_fault.proofs.PageLooks.{present_is, lacking_is}

abbrev at : ℕ → ℕ → ℕ → Option (List ℕ) → Access
at off len last bytes = record { off = off; len = len; last = last; bytes = bytes }

-- the page of an access that lies within the object
pub low_page : (off len n : ℕ) → 0 < len → nat_le (off + len) (4096 * n) ≡ true → page_of off < n
low_page off len n some fits = let ends : off + len ≤ 4096 * n = grind (arith, nat_tests) in omega arith

some_frames : (n : ℕ) → nat_lt n 1 ≡ false → 0 < n
some_frames n q = grind (arith, nat_tests)

-- what is found of an access
record Found (birth : Birth) (h : List Entry) (off len last : ℕ) (bytes : Option (List ℕ)) (here leave lacking gone : Bool) : Type 0 where
  fits : access_fits birth h (at off len last bytes) ≡ true
  is_here : there birth h (page_of off) ≡ here
  leaves : (birth.trap && not (dirty birth h (page_of off))) ≡ leave
  lacks_frame : (plain birth h (page_of off) || loaned birth h (page_of off)) ≡ lacking
  owns : lacks_own_frame (look_of birth h (page_of off)) ≡ lacking
  is_gone : detached birth h ≡ gone
  low : page_of off < size birth h

present_so : (birth : Birth) (h : List Entry) (p : ℕ) → there birth h p ≡ true → is_present (look_of birth h p) ≡ true
present_so birth h p here = present_is birth h p ∙ here

both_true : (a b : Bool) → a ≡ true → b ≡ true → (a && b) ≡ true
both_true a b is both = rw is both

never_lacks : {P : Type 0} (b : Bool) → b ≡ false → b ≡ true → P
never_lacks true q is = absurd cc
never_lacks false q is = absurd cc

framed_decided : (birth : Birth) (h : List Entry) (off len last : ℕ) (bytes : List ℕ) (gone : Bool) (brought : Brought) → Found birth h off len last (Some bytes) true false true gone →
    Decided birth h (at off len last (Some bytes)) brought (frame_verdict brought)
framed_decided birth h off len last bytes gone Nothing f = rw (f.fits, f.leaves, f.lacks_frame, f.is_here) refl
framed_decided birth h off len last bytes gone Scanned f = rw (f.fits, f.leaves, f.lacks_frame, f.is_here) refl
framed_decided birth h off len last bytes gone (Frames n) f = elim (nat_lt n 1) as (λ b. nat_lt n 1 ≡ b → Decided birth h (at off len last (Some bytes)) (Frames n) (cond b (Decline (Needs 1)) Done)) [
  | true ↦ λ q. rw (f.fits, f.leaves, f.lacks_frame, f.is_here, q) refl
  | false ↦ λ q. record {
    answers = rw (f.fits, f.leaves, f.lacks_frame, f.is_here, q) refl;
    here = f.is_here;
    present = present_so birth h (page_of off) f.is_here;
    low = f.low;
    framed = λ _ _. some_frames n q;
  }
] refl

found_decided : (birth : Birth) (h : List Entry) (off len last : ℕ) (bytes : Option (List ℕ)) (here leave lacking gone : Bool) (brought : Brought) → Found birth h off len last bytes here leave lacking gone →
    Decided birth h (at off len last bytes) brought (decision true here (is_some bytes) leave lacking gone brought)
found_decided birth h off len last bytes false leave lacking true brought f = rw (f.fits, f.is_here, f.is_gone) refl
found_decided birth h off len last bytes false leave lacking false brought f = record {
  answers = rw (f.fits, f.is_here, f.is_gone) refl;
  asks = rw f.is_here refl;
  lacking = rw f.is_here refl;
  attached = f.is_gone;
  low = f.low;
}
found_decided birth h off len last None true leave lacking gone brought f = record {
  answers = rw (f.fits, f.is_here) refl;
  here = f.is_here;
  present = present_so birth h (page_of off) f.is_here;
  low = f.low;
  framed = λ is. absurd cc;
}
found_decided birth h off len last (Some bytes) true true lacking true brought f = rw (f.fits, f.leaves, f.is_here, f.is_gone) refl
found_decided birth h off len last (Some bytes) true true lacking false brought f = record {
  answers = rw (f.fits, f.leaves, f.is_here, f.is_gone) refl;
  asks = rw f.is_here refl;
  lacking = both_true (there birth h (page_of off)) (not (dirty birth h (page_of off))) f.is_here (and_right birth.trap (not (dirty birth h (page_of off))) f.leaves);
  attached = f.is_gone;
  low = f.low;
}
found_decided birth h off len last (Some bytes) true false true gone brought f = framed_decided birth h off len last bytes gone brought f
found_decided birth h off len last (Some bytes) true false false gone brought f = record {
  answers = rw (f.fits, f.leaves, f.lacks_frame, f.is_here) refl;
  here = f.is_here;
  present = present_so birth h (page_of off) f.is_here;
  low = f.low;
  framed = λ _ is. never_lacks _ f.owns is;
}

-- by all tests
pub decided : (birth : Birth) (h : List Entry) → Legal birth h → (off len last : ℕ) (bytes : Option (List ℕ)) (brought : Brought) → 0 < len →
    Decided birth h (at off len last bytes) brought (decision (nat_le (off + len) (4096 * size birth h)) (there birth h (page_of off)) (is_some bytes)
    (birth.trap && not (dirty birth h (page_of off))) (plain birth h (page_of off) || loaned birth h (page_of off)) (detached birth h) brought)
decided birth h legal off len last bytes brought some =
    let p = page_of off in
    elim (nat_le (off + len) (4096 * size birth h)) as (λ b. nat_le (off + len) (4096 * size birth h) ≡ b →
    Decided birth h (at off len last bytes) brought (decision b (there birth h p) (is_some bytes)
    (birth.trap && not (dirty birth h p)) (plain birth h p || loaned birth h p) (detached birth h) brought)) [
      | false ↦ λ q. rw q refl
      | true ↦ λ q. found_decided birth h off len last bytes _ _ _ _ brought (record {
        fits = q;
        is_here = refl;
        leaves = refl;
        lacks_frame = refl;
        owns = lacking_is birth h legal p;
        is_gone = refl;
        low = low_page off len (size birth h) some q;
      })
    ] refl

-- whatever bytes a write brings
pub attempt_decided : (birth : Birth) (h : List Entry) → Legal birth h → (attempt : Attempt) (bytes : List ℕ) (brought : Brought) → 0 < attempt.len →
    Decided birth h (access_in attempt bytes) brought (decision (nat_le (attempt.off + attempt.len) (4096 * size birth h)) (there birth h (page_of attempt.off)) attempt.write
    (birth.trap && not (dirty birth h (page_of attempt.off))) (plain birth h (page_of attempt.off) || loaned birth h (page_of attempt.off)) (detached birth h) brought)
attempt_decided birth h legal attempt bytes brought some =
    elim (attempt.write) as (λ w. Decided birth h (at attempt.off attempt.len attempt.last.0 (cond w (Some bytes) None)) brought (decision (nat_le (attempt.off + attempt.len) (4096 * size birth h)) (there birth h (page_of attempt.off)) w
    (birth.trap && not (dirty birth h (page_of attempt.off))) (plain birth h (page_of attempt.off) || loaned birth h (page_of attempt.off)) (detached birth h) brought)) [
      | true ↦ decided birth h legal attempt.off attempt.len attempt.last.0 (Some bytes) brought some
      | false ↦ decided birth h legal attempt.off attempt.len attempt.last.0 None brought some
    ]

-- of an attempt and a decision that are known
pub decided_as : (birth : Birth) (h : List Entry) (brought : Brought) (bytes : List ℕ) (some known : Attempt) (found decision : Decision) →
    ((bytes : List ℕ) → Decided birth h (access_in some bytes) brought found) → some ≡ known → found ≡ decision → Decided birth h (access_in known bytes) brought decision
decided_as birth h brought bytes some known found decision each same is =
    subst (λ (t : Attempt). Decided birth h (access_in t bytes) brought decision) same (subst (λ v. Decided birth h (access_in some bytes) brought v) is (each bytes))
