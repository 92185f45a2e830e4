-- What a pass has seen, and entries of others since.
use Rattle.std.proofs.Common.{◌≡◌, ℕ, ◌+◌, ◌<◌, ◌==◌, ◌&&◌, ◌||◌, not, Bool, true, false, cond, Option, Some, List}
use Rattle.std.proofs.Common.{[], ◌∷◌, ◌++◌, length, refl, sym, ap, ◌∙◌, subst, arith}
use Rattle.std.specs.Prelude.{reverse, IsTrue}
use Rattle.std.proofs.lemmas.List.{reverse-append}
use Rattle.up_model.specs.Attempts.{blocks}
use Rattle.up_model.specs.Tickets.{next_ticket, owner, spent, retries, keeps_ticket}
use Rattle.up_model.specs.Reply.{proper, is_by, counts_frames}
use Rattle.up_model.specs.Legal.{Legal}
use Rattle.up_model.specs.declared.entry.Birth.{Birth}
use Rattle.up_model.specs.declared.entry.Entry.{Entry}
use Rattle.up_model.specs.declared.entry.Call.{Call}
use Rattle.up_model.specs.declared.entry.Call.TheVariants.{Retry}
use Rattle.up_model.specs.declared.entry.Reply.{Reply}
use Rattle.up_model.specs.declared.entry.Reply.TheVariants.{Blocked}
use Rattle.up_model.proofs.NewTickets.{blocked_entry}
use Rattle.up_model.proofs.Bools.{and_left, and_right, not_true, nat_eq_true, differ}
use Rattle.up_model.proofs.HeldTickets.{owner_below, is_by_some}
use Rattle.up_claims.specs.Claimed.{claim_of, next_claim}
use Rattle.up_turn.specs.Placing.{Placed, placed, by, has, Begins, Tally}
use Rattle.up_turn.proofs.Placings.{append_none, by_more}
use Rattle.up_live.specs.Others.{ByOthers, OthersSince}

-- none of an actor's entries in a list: all are by others
none_by : (who from : ℕ) (es : List Entry) → by who (placed from es) ≡ [] → ByOthers who es
none_by who from [] none = tt
none_by who from (e ∷ es) none =
    elim (e.who == who) as (λ b. (e.who == who) ≡ b → cond b (record { at = from; entry = e } ∷ by who (placed
    (from + 1) es)) (by who (placed (from + 1) es)) ≡ [] → ByOthers who (e ∷ es)) [
      | true ↦ λ q is. absurd cc
      | false ↦ λ q is. (q, none_by who (from + 1) es is)
    ] refl none

others_append : (who : ℕ) (xs ys : List Entry) → ByOthers who xs → ByOthers who ys → ByOthers who (xs ++ ys)
others_append who [] ys a b = b
others_append who (x ∷ xs) ys a b = (a.0, others_append who xs ys a.1 b)

others_reverse : (who : ℕ) (xs : List Entry) → ByOthers who xs → ByOthers who (reverse xs)
others_reverse who [] a = tt
others_reverse who (x ∷ xs) a =
    subst (ByOthers who) (sym (reverse-append (x ∷ []) xs)) (others_append who (reverse xs) (x ∷ [])
    (others_reverse who xs a.1) (a.0, tt))

-- Since a pass saw a list, only others added entries, of every actor whose number it holds: so it is where it tallies with both
-- lists.
pub others_since : (numbers : List ℕ) (own : List Placed) (before now : List Entry) (who : ℕ) → has numbers
    who ≡ true → Tally numbers own before → Tally numbers own now → Begins before now → OthersSince who
    (reverse before) (reverse now)
others_since numbers own before now who holds was is b =
    let none : by who (placed (length before) b.more) ≡ [] = append_none (by who (placed 0 before)) (by who
    (placed (length before) b.more))
    (sym (was.mine who holds) ∙ (is.mine who holds ∙ (ap (λ (l : List Entry). by who (placed 0 l)) b.is ∙
    by_more who before b.more))) in record {
      since = reverse b.more;
      is = ap reverse b.is ∙ reverse-append before b.more;
      theirs = others_reverse who b.more (none_by who (length before) b.more none);
    }

pub none_since : (who : ℕ) (h : List Entry) → OthersSince who h h
none_since who h = record { since = []; is = refl; theirs = tt }

claim_under : (who : ℕ) (since h : List Entry) → ByOthers who since → claim_of (since ++ h) who ≡ claim_of h who
claim_under who [] h a = refl
claim_under who (e ∷ es) h a =
    ap (λ (b : Bool). cond b (next_claim e.call e.reply (claim_of (es ++ h) who)) (claim_of (es ++ h) who)) a.0
    ∙ claim_under who es h a.1

-- an actor's claim is as it was
pub claim_on : (who : ℕ) (before now : List Entry) → OthersSince who before now → claim_of now who ≡ claim_of
    before who
claim_on who before now o = ap (λ (l : List Entry). claim_of l who) o.is ∙ claim_under who o.since before
    o.theirs

-- a reply that gives a ticket which is given already isn't there
given_next : (r : Reply) (t next : ℕ) → ((n : ℕ) → r ≡ Blocked n → n ≡ next) → blocks r t ≡ true → t ≡ next
given_next (Blocked n) t next is p = sym (nat_eq_true n t p) ∙ is n refl
given_next _ t next is p = absurd cc

owner_stays : (birth : Birth) (e : Entry) (h : List Entry) → Legal birth (e ∷ h) → (t who : ℕ) → owner h t ≡
    Some who → owner (e ∷ h) t ≡ Some who
owner_stays birth e h legal t who held =
    elim (blocks e.reply t) as (λ b. blocks e.reply t ≡ b → cond b (Some e.who) (owner h t) ≡ Some who) [
      | true ↦ λ q. let next : t ≡ next_ticket h = given_next e.reply t (next_ticket h) (blocked_entry birth e
          h legal) q in
          let below : t < next_ticket h = owner_below birth h legal.0 t who held in absurd (omega arith)
      | false ↦ λ q. held
    ] refl

-- a proper retry is of a ticket that its actor holds
retries_own : (birth : Birth) (h : List Entry) (who : ℕ) (call : Call) (t : ℕ) → proper birth h who call ≡
    true → retries call t ≡ true → owner h t ≡ Some who
retries_own birth h who (Retry ticket brought) t p r =
    ap (owner h) (sym (nat_eq_true ticket t r)) ∙ is_by_some (owner h ticket) who (and_left _ _ p)
retries_own birth h who _ t p r = absurd cc

spent_stays : (birth : Birth) (e : Entry) (h : List Entry) → Legal birth (e ∷ h) → (t who : ℕ) → (e.who == who)
    ≡ false → owner h t ≡ Some who → spent h t ≡ false → spent (e ∷ h) t ≡ false
spent_stays birth e h legal t who other held unspent =
    elim (retries e.call t) as (λ b. retries e.call t ≡ b → ((b && not (keeps_ticket e.reply)) || spent h t) ≡
    false) [
      | true ↦ λ q. let both : Some e.who ≡ Some who = sym (retries_own birth h e.who e.call t legal.1 q) ∙
          held in
          let same : e.who ≡ who = cc in absurd (differ e.who who other same)
      | false ↦ λ q. unspent
    ] refl

retry_stays : (birth : Birth) (e : Entry) (h : List Entry) → Legal birth (e ∷ h) → (who t : ℕ) (fine : Bool) →
    (e.who == who) ≡ false → (is_by (owner h t) who && (not (spent h t) && fine)) ≡ true → (is_by (owner (e ∷
    h) t) who && (not (spent (e ∷ h) t) && fine)) ≡ true
retry_stays birth e h legal who t fine other p =
    let held : owner h t ≡ Some who = is_by_some (owner h t) who (and_left _ _ p) in
    let unspent : spent h t ≡ false = not_true (spent h t) (and_left _ _ (and_right (is_by (owner h t) who) _ p)) in
    let mine : owner (e ∷ h) t ≡ owner h t = owner_stays birth e h legal t who held ∙ sym held in
    let still : spent (e ∷ h) t ≡ spent h t = spent_stays birth e h legal t who other held unspent ∙ sym unspent in
    ap (λ (o : Option ℕ). is_by o who && (not (spent (e ∷ h) t) && fine)) mine
    ∙ (ap (λ (b : Bool). is_by (owner h t) who && (not b && fine)) still ∙ p)

-- a proper call stays one under an entry of another
pub proper_stays : (birth : Birth) (e : Entry) (h : List Entry) → Legal birth (e ∷ h) → (who : ℕ) (call : Call)
    → (e.who == who) ≡ false → proper birth h who call ≡ true → proper birth (e ∷ h) who call ≡ true
proper_stays birth e h legal who (Retry ticket brought) other p = retry_stays birth e h legal who ticket
    (counts_frames brought) other p
proper_stays birth e h legal who _ other p = p

legal_below : (birth : Birth) (since h : List Entry) → Legal birth (since ++ h) → Legal birth h
legal_below birth [] h legal = legal
legal_below birth (e ∷ es) h legal = legal_below birth es h legal.0

proper_under : (birth : Birth) (since h : List Entry) (who : ℕ) (call : Call) → ByOthers who since → Legal birth
    (since ++ h) → proper birth h who call ≡ true → proper birth (since ++ h) who call ≡ true
proper_under birth [] h who call a legal p = p
proper_under birth (e ∷ es) h who call a legal p =
    proper_stays birth e (es ++ h) legal who call a.0 (proper_under birth es h who call a.1 legal.0 p)

pub proper_since : (birth : Birth) (before now : List Entry) (who : ℕ) (call : Call) → OthersSince who before now
    → Legal birth now → IsTrue (proper birth before who call) → IsTrue (proper birth now who call)
proper_since birth before now who call o legal p =
    subst (λ (l : List Entry). proper birth l who call ≡ true) (sym o.is)
    (proper_under birth o.since before who call o.theirs (subst (Legal birth) o.is legal) p)
