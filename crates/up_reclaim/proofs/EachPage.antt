-- What hints, pins and unpins make of each page of their range.
use Rattle.std.proofs.Common.{◌≡◌, ℕ, ◌+◌, ◌<◌, ◌==◌, not, Bool, true, false, None, List, refl, sym, ◌∙◌, arith, nat_le}
use Rattle.std.proofs.lemmas.Bool.Decides.{nat_tests}
use Rattle.up_num.specs.Span.{Span}
use Rattle.up_model.specs.Attempts.{accepts}
use Rattle.up_model.specs.Deeds.{is_always, has_page}
use Rattle.up_model.specs.Value.{there}
use Rattle.up_model.specs.Pins.{pins}
use Rattle.up_model.specs.States.{plain}
use Rattle.up_model.specs.Legal.{Legal}
use Rattle.up_model.specs.Reply.{first_in, absent, is_unpinned, is_full_of_pins, reply}
use Rattle.up_model.specs.Changes.{Hints, PinsOne, UnpinsOne, Goes}
use Rattle.up_model.specs.Concerns.{concerns}
use Rattle.up_num.specs.declared.pages.PageNo.{PageNo}
use Rattle.up_model.specs.declared.entry.Reply.TheVariants.{Pages}
use Rattle.up_model.specs.declared.entry.Birth.{Birth}
use Rattle.up_model.specs.declared.entry.Brought.{Brought}
use Rattle.up_model.specs.declared.entry.Call.TheVariants.{Hint, Pin, Unpin, Evict}
use Rattle.up_model.specs.declared.entry.Entry.{Entry}
use Rattle.up_model.specs.declared.entry.HintKind.{HintKind}
use Rattle.up_model.proofs.Passed.{none_in}
use Rattle.up_model.proofs.Reclaiming.{evicted_page}
use Rattle.up_model.proofs.PagesTouched.{hint_marks, pin_one, unpin_one, evict_goes}
use Rattle.up_object.proofs.PageLooks.{present_is}
use Rattle.up_object.proofs.RangeCalls.{covered_at}

pub hint_at : (birth : Birth) (e : Entry) (h : List Entry) (range : Span) (kind : HintKind) (mark place : ℕ) → e.call ≡ Hint range kind → accepts e.reply ≡ true →
    mark ≡ range.first → place < range.count → Hints birth e h (mark + place) (is_always kind)
hint_at birth e h range kind mark place c a first lt = hint_marks birth e h range kind (mark + place) c a (covered_at range mark place first lt)

some_pin : (n : ℕ) → (n == 0) ≡ false → 0 < n
some_pin n is = grind (arith, nat_tests)

pub unpin_at : (birth : Birth) (e : Entry) (h : List Entry) (range : Span) (mark place : ℕ) → e.call ≡ Unpin range → accepts e.reply ≡ true → first_in (is_unpinned h) range ≡ None →
    mark ≡ range.first → place < range.count → UnpinsOne birth e h (mark + place)
unpin_at birth e h range mark place c a none first lt =
    let over = covered_at range mark place first lt in
    unpin_one birth e h range (mark + place) c a over (some_pin (pins h (mark + place)) (none_in (is_unpinned h) range (mark + place) none over))

few_pins : (n : ℕ) → nat_le 31 n ≡ false → n < 31
few_pins n is = grind (arith, nat_tests)

here_so : (b : Bool) → not b ≡ false → b ≡ true
here_so true is = refl
here_so false is = absurd cc

pub pin_at : (birth : Birth) (e : Entry) (h : List Entry) (range : Span) (brought : Brought) (mark place : ℕ) → e.call ≡ Pin range brought → accepts e.reply ≡ true →
    first_in (absent birth h) range ≡ None → first_in (is_full_of_pins h) range ≡ None → mark ≡ range.first → place < range.count → PinsOne birth e h (mark + place)
pin_at birth e h range brought mark place c a here few first lt =
    let p = mark + place in
    let over = covered_at range mark place first lt in
    pin_one birth e h range brought p c a over
    (present_is birth h p ∙ here_so (there birth h p) (none_in (absent birth h) range p here over)) (few_pins (pins h p) (none_in (is_full_of_pins h) range p few over))

-- an evict that lists these pages
pub evict_listed : (birth : Birth) (e : Entry) (h : List Entry) (limit most : ℕ) (pages : List PageNo) (p : ℕ) → e.call ≡ Evict limit most → e.reply ≡ Pages pages → has_page pages p ≡ true → Goes birth e h p
evict_listed birth e h limit most pages p c r listed = evict_goes birth e h limit most p c (rw (c, r) listed)

-- they are no zero pages, where this reply is due
pub evict_bare : (birth : Birth) (h : List Entry) (who epoch limit most : ℕ) (pages : List PageNo) (p : ℕ) → Legal birth h → reply birth h who epoch (Evict limit most) ≡ Pages pages → has_page pages p ≡ true →
    plain birth h p ≡ false
evict_bare birth h who epoch limit most pages p legal due listed =
    (evicted_page birth (record { who = who; epoch = epoch; call = Evict limit most; reply = Pages pages }) h (legal, refl, sym due) p listed).not_plain

pub evict_spares : (birth : Birth) (e : Entry) (h : List Entry) (limit most : ℕ) (pages : List PageNo) (p : ℕ) → e.call ≡ Evict limit most → e.reply ≡ Pages pages → has_page pages p ≡ false → concerns birth h e p ≡ false
evict_spares birth e h limit most pages p c r unlisted = rw (c, r) unlisted
