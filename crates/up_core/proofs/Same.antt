-- What an entry does doesn't depend on the frames that it or earlier ones brought: its deeds, one by one, and what looks back at no page.
use Rattle.std.proofs.Common.{◌≡◌, ℕ, ◌-◌, ◌==◌, ◌&&◌, ◌||◌, not, cond, Option, Some, List, [], ◌∷◌, suc, max, refl, ◌∙◌}
use Rattle.up_model.specs.Attempts.{Access, accepts, is_blocked, blocks, is_done, is_bytes, attempt_of, parked, attempt}
use Rattle.up_model.specs.Size.{resized, size, asks_to_grow, asks_to_cut, grows, cuts}
use Rattle.up_model.specs.Deeds.{writes_in, reads_in, writes, reads, over_supply, over_dirty, over_begin, over_end, over_pin, over_unpin, over_zero, over_always, over_cold, for_zero, named, began_as, supplies, lets_dirty, begins, ends, pins_one, unpins_one, zeroes, hints_always, hints_cold, says_evicted, says_moved, reclaims, evicts, moves, of_borrow, says_borrowed, borrows, blanks, dirties, drops, supplied}
use Rattle.up_model.specs.Roles.{leaves_user, leaves_pager, is_left, is_detach, users, pagers, in_role, was_detached, detached}
use Rattle.up_model.specs.Pins.{pins, always, ends_loan, loaned}
use Rattle.up_model.specs.Numbers.{is_began, next_number, has_begun}
use Rattle.up_model.specs.Packets.{is_packet, taken}
use Rattle.up_model.specs.Tickets.{next_ticket, owner, retries, keeps_ticket, spent}
use Rattle.up_model.specs.Use.{newest_epoch}
use Rattle.up_model.specs.Modified.{is_write, asks_other_size, is_zero_call, is_reset, modifies, modified}
use Rattle.up_model.specs.declared.entry.Birth.{Birth}
use Rattle.up_model.specs.declared.entry.Brought.TheVariants.{Nothing}
use Rattle.up_model.specs.declared.entry.Call.{Call}
use Rattle.up_model.specs.declared.entry.Call.TheVariants as calls
use Rattle.up_model.specs.declared.entry.Entry.{Entry}
use Rattle.up_model.specs.declared.entry.Reply.{Reply}
use Rattle.up_model.specs.declared.entry.Role.{Role}
use Rattle.up_model.specs.declared.entry.Role.TheVariants.{User, Pager}
use Rattle.up_model.specs.Bringing.{bringing}
use Rattle.up_core.specs.Enough.{bare, all_bare}

-- the tests of a call
attempt_bare : (held : ℕ → Option Access) (c : Call) → attempt_of held (bringing Nothing c) ≡ attempt_of held c
attempt_bare held (calls.Read piece last brought) = refl
attempt_bare held _ = refl

resized_bare : (c : Call) (r : Reply) (n : ℕ) → resized (bringing Nothing c) r n ≡ resized c r n
resized_bare (calls.Resize pages) r n = refl
resized_bare _ r n = refl

grow_bare : (c : Call) (n p : ℕ) → asks_to_grow (bringing Nothing c) n p ≡ asks_to_grow c n p
grow_bare (calls.Resize pages) n p = refl
grow_bare _ n p = refl

cut_bare : (c : Call) (n p : ℕ) → asks_to_cut (bringing Nothing c) n p ≡ asks_to_cut c n p
cut_bare (calls.Resize pages) n p = refl
cut_bare _ n p = refl

supply_bare : (c : Call) (p : ℕ) → over_supply (bringing Nothing c) p ≡ over_supply c p
supply_bare (calls.Supply range bytes brought) p = refl
supply_bare _ p = refl

dirty_bare : (c : Call) (p : ℕ) → over_dirty (bringing Nothing c) p ≡ over_dirty c p
dirty_bare (calls.Dirty range brought) p = refl
dirty_bare _ p = refl

begin_bare : (c : Call) (p : ℕ) → over_begin (bringing Nothing c) p ≡ over_begin c p
begin_bare (calls.Begin range zero) p = refl
begin_bare _ p = refl

end_bare : (c : Call) (p : ℕ) → over_end (bringing Nothing c) p ≡ over_end c p
end_bare (calls.End range of) p = refl
end_bare _ p = refl

pin_bare : (c : Call) (p : ℕ) → over_pin (bringing Nothing c) p ≡ over_pin c p
pin_bare (calls.Pin range brought) p = refl
pin_bare _ p = refl

unpin_bare : (c : Call) (p : ℕ) → over_unpin (bringing Nothing c) p ≡ over_unpin c p
unpin_bare (calls.Unpin range) p = refl
unpin_bare _ p = refl

zero_bare : (c : Call) (p : ℕ) → over_zero (bringing Nothing c) p ≡ over_zero c p
zero_bare (calls.Zero range) p = refl
zero_bare _ p = refl

always_bare : (c : Call) (p : ℕ) → over_always (bringing Nothing c) p ≡ over_always c p
always_bare (calls.Hint range kind) p = refl
always_bare _ p = refl

cold_bare : (c : Call) (p : ℕ) → over_cold (bringing Nothing c) p ≡ over_cold c p
cold_bare (calls.Hint range kind) p = refl
cold_bare _ p = refl

pub for_zero_bare : (c : Call) → for_zero (bringing Nothing c) ≡ for_zero c
for_zero_bare (calls.Begin range zero) = refl
for_zero_bare _ = refl

reclaims_bare : (c : Call) → reclaims (bringing Nothing c) ≡ reclaims c
reclaims_bare (calls.Vacate brought) = refl
reclaims_bare _ = refl

borrow_bare : (c : Call) (p : ℕ) → of_borrow (bringing Nothing c) p ≡ of_borrow c p
borrow_bare (calls.Borrow page brought) p = refl
borrow_bare _ p = refl

pub named_bare : (birth : Birth) (c : Call) → named birth (bringing Nothing c) ≡ named birth c
named_bare birth (calls.End range of) = refl
named_bare birth _ = refl

pub supplied_bare : (c : Call) (x : ℕ) → supplied (bringing Nothing c) x ≡ supplied c x
supplied_bare (calls.Supply range bytes brought) x = refl
supplied_bare _ x = refl

user_bare : (c : Call) → leaves_user (bringing Nothing c) ≡ leaves_user c
user_bare (calls.Leave role) = refl
user_bare _ = refl

pager_bare : (c : Call) → leaves_pager (bringing Nothing c) ≡ leaves_pager c
pager_bare (calls.Leave role) = refl
pager_bare _ = refl

detach_bare : (c : Call) → is_detach (bringing Nothing c) ≡ is_detach c
detach_bare calls.Detach = refl
detach_bare _ = refl

retries_bare : (c : Call) (t : ℕ) → retries (bringing Nothing c) t ≡ retries c t
retries_bare (calls.Retry ticket brought) t = refl
retries_bare _ t = refl

other_size_bare : (c : Call) (n : ℕ) → asks_other_size (bringing Nothing c) n ≡ asks_other_size c n
other_size_bare (calls.Resize pages) n = refl
other_size_bare _ n = refl

is_zero_bare : (c : Call) → is_zero_call (bringing Nothing c) ≡ is_zero_call c
is_zero_bare (calls.Zero range) = refl
is_zero_bare _ = refl

reset_bare : (c : Call) → is_reset (bringing Nothing c) ≡ is_reset c
reset_bare (calls.Stats reset) = refl
reset_bare _ = refl

-- what waits under tickets, and the size
pub parked_same : (h : List Entry) (t : ℕ) → parked (all_bare h) t ≡ parked h t
parked_same [] t = refl
parked_same (e ∷ before) t =
    λ i. cond (blocks e.reply t) ((attempt_bare (parked (all_bare before)) e.call ∙ (λ j. attempt_of (λ u. parked_same before u j) e.call)) i) (parked_same before t i)

pub attempt_same : (before : List Entry) (e : Entry) → attempt (all_bare before) (bare e) ≡ attempt before e
attempt_same before e = attempt_bare (parked (all_bare before)) e.call ∙ (λ i. attempt_of (λ t. parked_same before t i) e.call)

pub size_same : (birth : Birth) (h : List Entry) → size birth (all_bare h) ≡ size birth h
size_same birth [] = refl
size_same birth (e ∷ before) = resized_bare e.call e.reply (size birth (all_bare before)) ∙ (λ i. resized e.call e.reply (size_same birth before i))

grows_same : (birth : Birth) (before : List Entry) (e : Entry) (p : ℕ) → grows birth (all_bare before) (bare e) p ≡ grows birth before e p
grows_same birth before e p =
    λ i. (grow_bare e.call (size birth (all_bare before)) p ∙ (λ j. asks_to_grow e.call (size_same birth before j) p)) i && accepts e.reply

pub cuts_same : (birth : Birth) (before : List Entry) (e : Entry) (p : ℕ) → cuts birth (all_bare before) (bare e) p ≡ cuts birth before e p
cuts_same birth before e p =
    λ i. (cut_bare e.call (size birth (all_bare before)) p ∙ (λ j. asks_to_cut e.call (size_same birth before j) p)) i && accepts e.reply

-- deeds
pub writes_same : (before : List Entry) (e : Entry) (p : ℕ) → writes (all_bare before) (bare e) p ≡ writes before e p
writes_same before e p = λ i. writes_in (attempt_same before e i) p && is_done e.reply

pub reads_same : (before : List Entry) (e : Entry) (p : ℕ) → reads (all_bare before) (bare e) p ≡ reads before e p
reads_same before e p = λ i. reads_in (attempt_same before e i) p && is_bytes e.reply

pub supplies_same : (e : Entry) (p : ℕ) → supplies (bare e) p ≡ supplies e p
supplies_same e p = λ i. supply_bare e.call p i && accepts e.reply

pub lets_dirty_same : (e : Entry) (p : ℕ) → lets_dirty (bare e) p ≡ lets_dirty e p
lets_dirty_same e p = λ i. dirty_bare e.call p i && accepts e.reply

pub begins_same : (e : Entry) (p : ℕ) → begins (bare e) p ≡ begins e p
begins_same e p = λ i. begin_bare e.call p i && accepts e.reply

pub ends_same : (e : Entry) (p : ℕ) → ends (bare e) p ≡ ends e p
ends_same e p = λ i. end_bare e.call p i && accepts e.reply

pub pins_one_same : (e : Entry) (p : ℕ) → pins_one (bare e) p ≡ pins_one e p
pins_one_same e p = λ i. pin_bare e.call p i && accepts e.reply

unpins_one_same : (e : Entry) (p : ℕ) → unpins_one (bare e) p ≡ unpins_one e p
unpins_one_same e p = λ i. unpin_bare e.call p i && accepts e.reply

zeroes_same : (e : Entry) (p : ℕ) → zeroes (bare e) p ≡ zeroes e p
zeroes_same e p = λ i. zero_bare e.call p i && accepts e.reply

hints_always_same : (e : Entry) (p : ℕ) → hints_always (bare e) p ≡ hints_always e p
hints_always_same e p = λ i. always_bare e.call p i && accepts e.reply

pub hints_cold_same : (e : Entry) (p : ℕ) → hints_cold (bare e) p ≡ hints_cold e p
hints_cold_same e p = λ i. cold_bare e.call p i && accepts e.reply

evicts_same : (e : Entry) (p : ℕ) → evicts (bare e) p ≡ evicts e p
evicts_same e p = λ i. reclaims_bare e.call i && says_evicted e.reply p

moves_same : (e : Entry) (p : ℕ) → moves (bare e) p ≡ moves e p
moves_same e p = λ i. reclaims_bare e.call i && says_moved e.reply p

borrows_same : (e : Entry) (p : ℕ) → borrows (bare e) p ≡ borrows e p
borrows_same e p = λ i. borrow_bare e.call p i && says_borrowed e.reply

pub blanks_same : (birth : Birth) (before : List Entry) (e : Entry) (p : ℕ) → blanks birth (all_bare before) (bare e) p ≡ blanks birth before e p
blanks_same birth before e p = λ i. zeroes_same e p i || grows_same birth before e p i

pub dirties_same : (birth : Birth) (before : List Entry) (e : Entry) (p : ℕ) → dirties birth (all_bare before) (bare e) p ≡ dirties birth before e p
dirties_same birth before e p = λ i. writes_same before e p i || (lets_dirty_same e p i || blanks_same birth before e p i)

pub drops_same : (birth : Birth) (before : List Entry) (e : Entry) (p : ℕ) → drops birth (all_bare before) (bare e) p ≡ drops birth before e p
drops_same birth before e p = λ i. evicts_same e p i || cuts_same birth before e p i

-- pins, hints and loans
pub pins_same : (h : List Entry) (p : ℕ) → pins (all_bare h) p ≡ pins h p
pins_same [] p = refl
pins_same (e ∷ before) p = λ i. cond (pins_one_same e p i) (suc (pins_same before p i)) (cond (unpins_one_same e p i) (pins_same before p i - 1) (pins_same before p i))

pub always_same : (birth : Birth) (h : List Entry) (p : ℕ) → always birth (all_bare h) p ≡ always birth h p
always_same birth [] p = refl
always_same birth (e ∷ before) p =
    λ i. hints_always_same e p i || (not (hints_cold_same e p i || cuts_same birth before e p i) && always_same birth before p i)

ends_loan_same : (birth : Birth) (before : List Entry) (e : Entry) (p : ℕ) → ends_loan birth (all_bare before) (bare e) p ≡ ends_loan birth before e p
ends_loan_same birth before e p =
    λ i. writes_same before e p i || (lets_dirty_same e p i || (pins_one_same e p i || (zeroes_same e p i || (moves_same e p i || drops_same birth before e p i))))

pub loaned_same : (birth : Birth) (h : List Entry) (p : ℕ) → loaned birth (all_bare h) p ≡ loaned birth h p
loaned_same birth [] p = refl
loaned_same birth (e ∷ before) p = λ i. borrows_same e p i || (not (ends_loan_same birth before e p i) && loaned_same birth before p i)

-- who acts
users_same : (birth : Birth) (h : List Entry) → users birth (all_bare h) ≡ users birth h
users_same birth [] = refl
users_same birth (e ∷ before) = λ i. cond (user_bare e.call i && is_left e.reply) (users_same birth before i - 1) (users_same birth before i)

pagers_same : (birth : Birth) (h : List Entry) → pagers birth (all_bare h) ≡ pagers birth h
pagers_same birth [] = refl
pagers_same birth (e ∷ before) = λ i. cond (pager_bare e.call i && is_left e.reply) (pagers_same birth before i - 1) (pagers_same birth before i)

pub in_role_same : (birth : Birth) (h : List Entry) (role : Role) → in_role birth (all_bare h) role ≡ in_role birth h role
in_role_same birth h User = users_same birth h
in_role_same birth h Pager = pagers_same birth h

was_detached_same : (h : List Entry) → was_detached (all_bare h) ≡ was_detached h
was_detached_same [] = refl
was_detached_same (e ∷ before) = λ i. (detach_bare e.call i && accepts e.reply) || was_detached_same before i

pub detached_same : (birth : Birth) (h : List Entry) → detached birth (all_bare h) ≡ detached birth h
detached_same birth h = λ i. was_detached_same h i || (users_same birth h i == 0 || pagers_same birth h i == 0)

-- tickets, packets, epochs
pub next_ticket_same : (h : List Entry) → next_ticket (all_bare h) ≡ next_ticket h
next_ticket_same [] = refl
next_ticket_same (e ∷ before) = λ i. cond (is_blocked e.reply) (suc (next_ticket_same before i)) (next_ticket_same before i)

pub owner_same : (h : List Entry) (t : ℕ) → owner (all_bare h) t ≡ owner h t
owner_same [] t = refl
owner_same (e ∷ before) t = λ i. cond (blocks e.reply t) (Some e.who) (owner_same before t i)

pub spent_same : (h : List Entry) (t : ℕ) → spent (all_bare h) t ≡ spent h t
spent_same [] t = refl
spent_same (e ∷ before) t = λ i. (retries_bare e.call t i && not (keeps_ticket e.reply)) || spent_same before t i

-- numbers of begins
pub next_number_same : (h : List Entry) → next_number (all_bare h) ≡ next_number h
next_number_same [] = refl
next_number_same (e ∷ before) = λ i. cond (is_began e.reply) (suc (next_number_same before i)) (next_number_same before i)

pub has_begun_same : (h : List Entry) (n : ℕ) → has_begun (all_bare h) n ≡ has_begun h n
has_begun_same [] n = refl
has_begun_same (e ∷ before) n = λ i. began_as e.reply n || has_begun_same before n i

pub taken_same : (h : List Entry) → taken (all_bare h) ≡ taken h
taken_same [] = refl
taken_same (e ∷ before) = λ i. cond (is_packet e.reply) (suc (taken_same before i)) (taken_same before i)

pub newest_same : (h : List Entry) → newest_epoch (all_bare h) ≡ newest_epoch h
newest_same [] = refl
newest_same (e ∷ before) = λ i. max e.epoch (newest_same before i)

-- whether the object was changed
modifies_same : (birth : Birth) (before : List Entry) (e : Entry) → modifies birth (all_bare before) (bare e) ≡ modifies birth before e
modifies_same birth before e =
    λ i. (is_write (attempt_same before e i) && is_done e.reply)
    || (((other_size_bare e.call (size birth (all_bare before)) ∙ (λ j. asks_other_size e.call (size_same birth before j))) i || is_zero_bare e.call i) && accepts e.reply)

pub modified_same : (birth : Birth) (h : List Entry) → modified birth (all_bare h) ≡ modified birth h
modified_same birth [] = refl
modified_same birth (e ∷ before) = λ i. not (reset_bare e.call i) && (modifies_same birth before e i || modified_same birth before i)
