-- Hints, loans, changes and roles in positions.
use Rattle.std.proofs.Common.{◌≡◌, ℕ, ◌-◌, ◌&&◌, ◌||◌, ◌↔◌, not, Bool, true, false, cond, List, [], ◌∷◌, suc, refl, arith}
use Rattle.up_model.specs.Size.{cuts}
use Rattle.up_model.specs.Deeds.{hints_always, hints_cold, borrows}
use Rattle.up_model.specs.Roles.{users, pagers, leaves_user, leaves_pager, is_left}
use Rattle.up_model.specs.Pins.{always, loaned, ends_loan}
use Rattle.up_model.specs.Modified.{modifies, modified, is_reset}
use Rattle.up_model.specs.Positions.{LastIs, PassesAfter, protecting, unprotecting, lending, ending_loan, modifying, resetting, how_many}
use Rattle.up_model.proofs.Placing.{last_decides, stands_after}
use Rattle.up_model.specs.declared.entry.Birth.{Birth}
use Rattle.up_model.specs.declared.entry.Entry.{Entry}

set_or_kept : (sets takes_away old : Bool) → (sets || (not takes_away && old)) ≡ cond sets true (cond takes_away false old)
set_or_kept true takes_away old = refl
set_or_kept false true old = refl
set_or_kept false false old = refl

unless : (away new : Bool) → (not away && new) ≡ cond away false new
unless true new = refl
unless false new = refl

pub always_placed : (birth : Birth) (h : List Entry) (p : ℕ) → (always birth h p ≡ true) ↔ LastIs (protecting p) (unprotecting birth p) h
always_placed birth h p = last_decides (λ l. always birth l p) (protecting p) (unprotecting birth p) refl
    (λ e before. set_or_kept (hints_always e p) (hints_cold e p || cuts birth before e p) (always birth before p)) h

pub loaned_placed : (birth : Birth) (h : List Entry) (p : ℕ) → (loaned birth h p ≡ true) ↔ LastIs (lending p) (ending_loan birth p) h
loaned_placed birth h p = last_decides (λ l. loaned birth l p) (lending p) (ending_loan birth p) refl
    (λ e before. set_or_kept (borrows e p) (ends_loan birth before e p) (loaned birth before p)) h

pub modified_placed : (birth : Birth) (h : List Entry) → (modified birth h ≡ true) ↔ ((k : ℕ) × PassesAfter (modifying birth) resetting h k)
modified_placed birth h = stands_after (λ l. modified birth l) (modifying birth) resetting refl
    (λ e before. unless (is_reset e.call) (modifies birth before e || modified birth before)) h

one_more : (c : Bool) (m n k : ℕ) → k ≡ m - n → cond c (k - 1) k ≡ m - cond c (suc n) n
one_more true m n k is = omega arith
one_more false m n k is = is

users_counted : (birth : Birth) (h : List Entry) → users birth h ≡ birth.users - how_many (λ e. leaves_user e.call && is_left e.reply) h
users_counted birth [] = omega arith
users_counted birth (e ∷ before) =
    one_more (leaves_user e.call && is_left e.reply) birth.users
    (how_many (λ x. leaves_user x.call && is_left x.reply) before) (users birth before) (users_counted birth before)

pagers_counted : (birth : Birth) (h : List Entry) → pagers birth h ≡ birth.pagers - how_many (λ e. leaves_pager e.call && is_left e.reply) h
pagers_counted birth [] = omega arith
pagers_counted birth (e ∷ before) =
    one_more (leaves_pager e.call && is_left e.reply) birth.pagers
    (how_many (λ x. leaves_pager x.call && is_left x.reply) before) (pagers birth before) (pagers_counted birth before)

pub roles_counted : (birth : Birth) (h : List Entry) →
    (users birth h ≡ birth.users - how_many (λ e. leaves_user e.call && is_left e.reply) h)
    × (pagers birth h ≡ birth.pagers - how_many (λ e. leaves_pager e.call && is_left e.reply) h)
roles_counted birth h = (users_counted birth h, pagers_counted birth h)
