-- What the tests of an entry say that it keeps: what is asked for and who waits, spent tickets, size, roles, and whether the object was changed.
use Rattle.std.proofs.Common.{◌≡◌, ℕ, ◌&&◌, ◌||◌, not, Bool, true, false, Option, List, ◌∷◌, refl, inl, inr}
use Rattle.std.proofs.lemmas.Bool.{or_cases, and_parts}
use Rattle.up_num.specs.declared.answers.AskKind.{AskKind}
use Rattle.up_num.specs.declared.answers.Outcome.TheVariants.{Waiting}
use Rattle.up_model.specs.Attempts.{Access, accepts, is_blocked, is_done, attempt, attempt_of, parked}
use Rattle.up_model.specs.Size.{size}
use Rattle.up_model.specs.Roles.{users, pagers, was_detached, detached, is_detach}
use Rattle.up_model.specs.Asks.{asked, resolved}
use Rattle.up_model.specs.Packets.{requested, taken, is_packet}
use Rattle.up_model.specs.Tickets.{next_ticket, owner, waits, spent, outcome, retries}
use Rattle.up_model.specs.Modified.{modified, is_write, asks_other_size, is_zero_call, is_reset}
use Rattle.up_model.specs.Concerns.{can_resolve, keeps_asks, is_retry, keeps_spent, sets_size, sets_roles, keeps_size, keeps_roles, is_touch, keeps_modified}
use Rattle.up_model.specs.declared.entry.Birth.{Birth}
use Rattle.up_model.specs.declared.entry.Entry.{Entry}
use Rattle.up_model.specs.declared.entry.Call.{Call}
use Rattle.up_model.specs.declared.entry.Call.TheVariants as calls
use Rattle.up_model.specs.declared.entry.Reply.{Reply}
use Rattle.up_model.proofs.Bools.{not_true, and_false}
use Rattle.up_model.proofs.OneEntryMore.{is_resize, size_kept, size_refused, changes_roles, users_kept, pagers_kept, detached_kept, users_refused, pagers_refused, detached_refused, next_ticket_kept, parked_kept, owner_kept, waits_kept, requested_kept, taken_kept, may_resolve, resolved_none, resolved_refused, asked_kept, outcome_kept, spent_kept}

-- what is asked for, and who waits, as after the journal before
pub record SameAsks (birth : Birth) (e : Entry) (h : List Entry) : Type 0 where
  pub pages : (k : AskKind) (p : ℕ) → asked birth (e ∷ h) k p ≡ asked birth h k p
  pub requests : requested birth (e ∷ h) ≡ requested birth h
  pub taking : taken (e ∷ h) ≡ taken h
  pub count : next_ticket (e ∷ h) ≡ next_ticket h
  pub accesses : (t : ℕ) → parked (e ∷ h) t ≡ parked h t
  pub wants : (t : ℕ) → waits birth (e ∷ h) t ≡ waits birth h t
  pub owners : (t : ℕ) → owner (e ∷ h) t ≡ owner h t
  pub outcomes : (t : ℕ) → outcome birth (e ∷ h) t ≡ outcome birth h t

may_not : (call : Call) → can_resolve call ≡ false → may_resolve call ≡ false
may_not (calls.Supply range bytes brought) k = absurd cc
may_not (calls.Fail range code) k = absurd cc
may_not (calls.Dirty range brought) k = absurd cc
may_not (calls.End range of) k = absurd cc
may_not (calls.Resize pages) k = absurd cc
may_not (calls.Zero range) k = absurd cc
may_not calls.Detach k = absurd cc
may_not (calls.Leave role) k = absurd cc
may_not _ k = refl

pub unresolved : (birth : Birth) (e : Entry) (h : List Entry) → (not (accepts e.reply) || not (can_resolve e.call)) ≡ true → (k : AskKind) (p : ℕ) → resolved birth h e k p ≡ Waiting
unresolved birth e h is k p = elim (or_cases (not (accepts e.reply)) _ is) [
  | inl refused ↦ resolved_refused birth e h k p (not_true _ refused)
  | inr harmless ↦ resolved_none birth e h k p (may_not e.call (not_true _ harmless))
]

pub kept_asks : (birth : Birth) (e : Entry) (h : List Entry) → keeps_asks e ≡ true → SameAsks birth e h
kept_asks birth e h is =
    let one = and_parts (not (is_blocked e.reply)) _ is in
    let two = and_parts (not (is_packet e.reply)) _ one.1 in
    let parks_none : is_blocked e.reply ≡ false = not_true _ one.0 in
    let none = unresolved birth e h two.1 in record {
      pages = λ k p. asked_kept birth e h k p parks_none (none k p);
      requests = requested_kept birth e h parks_none;
      taking = taken_kept e h (not_true _ two.0);
      count = next_ticket_kept e h parks_none;
      accesses = λ t. parked_kept e h t parks_none;
      wants = λ t. waits_kept birth e h t parks_none;
      owners = λ t. owner_kept e h t parks_none;
      outcomes = λ t. outcome_kept birth e h t none;
    }

no_retry : (call : Call) (t : ℕ) → not (is_retry call) ≡ true → retries call t ≡ false
no_retry (calls.Retry ticket brought) t k = absurd cc
no_retry _ t k = refl

pub kept_spent : (e : Entry) (h : List Entry) → keeps_spent e ≡ true → (t : ℕ) → spent (e ∷ h) t ≡ spent h t
kept_spent e h is t = elim (or_cases (not (is_retry e.call)) _ is) [
  | inl other ↦ spent_kept e h t (rw (no_retry e.call t other) refl)
  | inr keeps ↦ spent_kept e h t (rw keeps (and_false (retries e.call t)))
]

fixed : (call : Call) → not (sets_size call) ≡ true → is_resize call ≡ false
fixed (calls.Resize pages) k = absurd cc
fixed _ k = refl

pub kept_size : (birth : Birth) (e : Entry) (h : List Entry) → keeps_size e ≡ true → size birth (e ∷ h) ≡ size birth h
kept_size birth e h is = elim (or_cases (not (accepts e.reply)) _ is) [
  | inl refused ↦ size_refused birth e h (not_true _ refused)
  | inr other ↦ size_kept birth e h (fixed e.call other)
]

-- who acts on the object, as after the journal before
pub record SameRoles (birth : Birth) (e : Entry) (h : List Entry) : Type 0 where
  pub acting : users birth (e ∷ h) ≡ users birth h
  pub paging : pagers birth (e ∷ h) ≡ pagers birth h
  pub cut_off : was_detached (e ∷ h) ≡ was_detached h
  pub attached : detached birth (e ∷ h) ≡ detached birth h

staying : (call : Call) → not (sets_roles call) ≡ true → changes_roles call ≡ false
staying calls.Detach k = absurd cc
staying (calls.Leave role) k = absurd cc
staying _ k = refl

cut_by : (call : Call) (r : Reply) (was : Bool) → changes_roles call ≡ false → ((is_detach call && accepts r) || was) ≡ was
cut_by calls.Detach r was k = absurd cc
cut_by _ r was k = refl

cut_kept : (e : Entry) (h : List Entry) → changes_roles e.call ≡ false → was_detached (e ∷ h) ≡ was_detached h
cut_kept e h k = cut_by e.call e.reply (was_detached h) k

pub kept_roles : (birth : Birth) (e : Entry) (h : List Entry) → keeps_roles e ≡ true → SameRoles birth e h
kept_roles birth e h is = elim (or_cases (not (accepts e.reply)) _ is) [
  | inl refused ↦ let no = not_true _ refused in record {
    acting = users_refused birth e h no;
    paging = pagers_refused birth e h no;
    cut_off = rw (no, and_false (is_detach e.call)) refl;
    attached = detached_refused birth e h no;
  }
  | inr other ↦ let stay = staying e.call other in record {
    acting = users_kept birth e h stay;
    paging = pagers_kept birth e h stay;
    cut_off = cut_kept e h stay;
    attached = detached_kept birth e h stay;
  }
]

-- Whether the object was changed.

untouching : (call : Call) (held : ℕ → Option Access) → is_touch call ≡ false → is_write (attempt_of held call) ≡ false
untouching (calls.Read piece last brought) held k = absurd cc
untouching (calls.Write off bytes last brought) held k = absurd cc
untouching (calls.Retry ticket brought) held k = absurd cc
untouching _ held k = refl

no_write_done : (touch writing done : Bool) → (touch ≡ false → writing ≡ false) → not (touch && done) ≡ true → (writing && done) ≡ false
no_write_done true w true f is = absurd cc
no_write_done true w false f is = and_false w
no_write_done false w d f is = rw (f refl) refl

same_size : (call : Call) (n : ℕ) → (sets_size call || is_zero_call call) ≡ false → (asks_other_size call n || is_zero_call call) ≡ false
same_size (calls.Resize pages) n k = absurd cc
same_size (calls.Zero range) n k = absurd cc
same_size _ n k = refl

no_change : (a b accepted : Bool) → (b ≡ false → a ≡ false) → (not accepted || not b) ≡ true → (a && accepted) ≡ false
no_change a b false f is = and_false a
no_change a true true f is = absurd cc
no_change a false true f is = rw (f refl) refl

modified_by : (reset written changed was : Bool) → reset ≡ false → written ≡ false → changed ≡ false → (not reset && ((written || changed) || was)) ≡ was
modified_by r w c was no_reset no_write no_size = rw (no_reset, no_write, no_size) refl

pub kept_modified : (birth : Birth) (e : Entry) (h : List Entry) → keeps_modified e ≡ true → modified birth (e ∷ h) ≡ modified birth h
kept_modified birth e h is =
    let one = and_parts (not (is_reset e.call)) _ is in
    let two = and_parts (not (is_touch e.call && is_done e.reply)) _ one.1 in
    let unwritten : (is_write (attempt h e) && is_done e.reply) ≡ false = no_write_done (is_touch e.call) (is_write (attempt h e)) (is_done e.reply) (untouching e.call (parked h)) two.0 in
    let unchanged : ((asks_other_size e.call (size birth h) || is_zero_call e.call) && accepts e.reply) ≡ false =
    no_change (asks_other_size e.call (size birth h) || is_zero_call e.call) (sets_size e.call || is_zero_call e.call) (accepts e.reply) (same_size e.call (size birth h)) two.1 in
    modified_by (is_reset e.call) _ _ (modified birth h) (not_true _ one.0) unwritten unchanged
