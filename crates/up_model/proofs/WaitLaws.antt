-- Laws on accesses that wait.
use Rattle.std.proofs.Common.{◌≡◌, ℕ, true, false, cond, Some, None, List, [], ◌∷◌, length, subst}
use Rattle.up_model.specs.Attempts.{Access, attempt_of, parked, blocks}
use Rattle.up_model.specs.Reply.{within_page, proper}
use Rattle.up_model.specs.Legal.{Legal}
use Rattle.up_model.proofs.Bools.{and_left}
use Rattle.up_model.specs.declared.entry.Birth.{Birth}
use Rattle.up_model.specs.declared.entry.Entry.{Entry}
use Rattle.up_model.specs.declared.entry.Call.{Call}
use Rattle.up_model.specs.declared.entry.Call.TheVariants.{Read, Write, Retry}

-- what a proper call attempts lies within a page, where that holds of what waits already
pub attempt_within : (birth : Birth) (before : List Entry) (who : ℕ) (call : Call) (a : Access) → ((t : ℕ) (x : Access) → parked before t ≡ Some x → within_page x.off x.len ≡ true) →
    proper birth before who call ≡ true → attempt_of (parked before) call ≡ Some a → within_page a.off a.len ≡ true
attempt_within birth before who (Read piece last brought) a held p is =
    let same : record { off = piece.off; len = piece.len; last = last.0; bytes = None } ≡ a = cc in
    subst (λ (x : Access). within_page x.off x.len ≡ true) same (and_left _ _ (and_left _ _ p))
attempt_within birth before who (Write off bytes last brought) a held p is =
    let same : record { off = off; len = length bytes; last = last.0; bytes = Some bytes } ≡ a = cc in
    subst (λ (x : Access). within_page x.off x.len ≡ true) same (and_left _ _ (and_left _ _ p))
attempt_within birth before who (Retry ticket brought) a held p is = held ticket a is
attempt_within birth before who _ a held p is = absurd cc

-- each access that waits, or waited, lies within a page and has at least one byte
pub parked_within : (birth : Birth) (h : List Entry) → Legal birth h → (t : ℕ) (a : Access) → parked h t ≡ Some a → within_page a.off a.len ≡ true
parked_within birth [] legal t a is = absurd cc
parked_within birth (e ∷ before) legal t a is =
    elim (blocks e.reply t) as (λ b. cond b (attempt_of (parked before) e.call) (parked before t) ≡ Some a → within_page a.off a.len ≡ true) [
      | true ↦ λ here. attempt_within birth before e.who e.call a (parked_within birth before legal.0) legal.1 here
      | false ↦ λ earlier. parked_within birth before legal.0 t a earlier
    ] is
