-- Who acts on an object, and whether it was changed, with the entry. And a leave's beginning.
use Rattle.std.proofs.Common.{◌≡◌, ℕ, ◌+◌, ◌-◌, ◌<◌, ◌≤◌, Bool, true, false, cond, List, [], ◌∷◌, length, zero, suc, refl, sym, ◌∙◌, subst, arith}
use Rattle.up_bank.specs.declared.kind.FrameKind.{FrameKind}
use Rattle.up_bank.specs.Standing.{BankId, Held as Frame}
use Rattle.up_pages.specs.Frames.{Stock}
use Rattle.up_pages.specs.Pages.{PageMap}
use Rattle.up_asks.specs.Asking.{Asking, SameAsks}
use Rattle.up_model.specs.Concerns.{keeps_roles, keeps_modified}
use Rattle.up_model.specs.Changes.{SetsModified, Departs, SetsDetached}
use Rattle.up_model.specs.declared.entry.Birth.{Birth}
use Rattle.up_model.specs.declared.entry.Call.{Call}
use Rattle.up_model.specs.declared.entry.Entry.{Entry}
use Rattle.up_model.proofs.Kept.{kept_roles, kept_modified}
use Rattle.up_object.specs.declared.marks.Mark.{Mark}
use Rattle.up_object.specs.Parts.{BankPair}
use Rattle.up_object.specs.Roles.{departed}
use Rattle.up_object.specs.Stands.{Tally, TallyStands, is_leave, leaves_after}
use Rattle.up_object.specs.Change.{CallProgress, Rest, up_to, AllAre, ChangeStandsFor}

-- the tally is done, and nothing else
abbrev pub tallied_done : CallProgress → CallProgress
tallied_done done = record done { tally = true }

abbrev pub with_tally : Tally → Rest → Rest
with_tally tally rest = record rest { tally = tally }

pub tallies : (banks : BankPair) (pages : PageMap) (marks : List Mark) (brings : FrameKind) (given back : Stock) (rest : Rest) (tally : Tally) (birth : Birth) (e : Entry) (h : List Entry) (done : CallProgress) →
    ChangeStandsFor banks pages marks brings given back rest birth e h done → TallyStands tally birth (e ∷ h) → ChangeStandsFor banks pages marks brings given back (with_tally tally rest) birth e h (tallied_done done)
tallies banks pages marks brings given back rest tally birth e h done s t = record {
  legal = s.legal;
  kinds = s.kinds;
  sized = s.sized;
  grown = s.grown;
  part = record {
    each = s.part.each;
    marked = s.part.marked;
    order = s.part.order;
    ends = s.part.ends;
    fits = s.part.fits;
    ready = s.part.ready;
  };
  stock = record {
    given_own = s.stock.given_own;
    back_own = s.stock.back_own;
    room = s.stock.room;
  };
  others = record {
    queued = s.others.queued;
    wide = s.others.wide;
    asks = s.others.asks;
    tallied = t;
    numbered = s.others.numbered;
    epoch = s.others.epoch;
    leaving = s.others.leaving;
    few = s.others.few;
    room = s.others.room;
    place = s.others.place;
  };
}

pub changed_tally : (tally : Tally) (birth : Birth) (e : Entry) (h : List Entry) (done changed : Bool) → TallyStands tally birth (up_to done e h) → done ≡ false → keeps_roles e ≡ true →
    SetsModified birth e h changed → TallyStands (record tally { modified = changed }) birth (e ∷ h)
changed_tally tally birth e h true changed s first roles sets = absurd cc
changed_tally tally birth e h false changed s first roles sets = let same = kept_roles birth e h roles in record {
  acting = s.acting ∙ sym same.acting;
  paging = s.paging ∙ sym same.paging;
  cut_off = s.cut_off ∙ sym same.cut_off;
  changed = sym sets.is;
}

pub departed_tally : (tally : Tally) (birth : Birth) (e : Entry) (h : List Entry) (done user : Bool) → TallyStands tally birth (up_to done e h) → done ≡ false → Departs birth e h user →
    keeps_modified e ≡ true → TallyStands (departed user tally) birth (e ∷ h)
departed_tally tally birth e h true user s first departs unchanged = absurd cc
departed_tally tally birth e h false user s first departs unchanged = record {
  acting = (λ i. cond user (s.acting i - 1) (s.acting i)) ∙ sym departs.acting;
  paging = (λ i. cond user (s.paging i) (s.paging i - 1)) ∙ sym departs.paging;
  cut_off = s.cut_off ∙ sym departs.cut_off;
  changed = s.changed ∙ sym (kept_modified birth e h unchanged);
}

pub cut_tally : (tally : Tally) (birth : Birth) (e : Entry) (h : List Entry) (done : Bool) → TallyStands tally birth (up_to done e h) → done ≡ false → SetsDetached birth e h →
    keeps_modified e ≡ true → TallyStands (record tally { detached = true }) birth (e ∷ h)
cut_tally tally birth e h true s first cuts unchanged = absurd cc
cut_tally tally birth e h false s first cuts unchanged = record {
  acting = s.acting ∙ sym cuts.acting;
  paging = s.paging ∙ sym cuts.paging;
  cut_off = sym cuts.cut_off;
  changed = s.changed ∙ sym (kept_modified birth e h unchanged);
}

-- A leave.

less_one : (leaves spare spare' : ℕ) → leaves ≤ spare → spare ≤ spare' → (leaves ≡ 0 → 1 ≤ spare') → leaves - 1 < spare'
less_one zero spare spare' fits more one = let some = one refl in omega arith
less_one (suc n) spare spare' fits more one = omega arith

-- where there is room for what is reserved, or nothing is reserved and there is room for one, the leave finds room
pub leave_fits : (call : Call) (leaves spare spare' : ℕ) → is_leave call ≡ true → leaves ≤ spare → spare ≤ spare' → (leaves ≡ 0 → 1 ≤ spare') → leaves_after call leaves < spare'
leave_fits call leaves spare spare' is fits more one = rw is (less_one leaves spare spare' fits more one)

-- none is reserved any more, so there were as many leaves as might be
pub leaves_over : (all calls left : ℕ) → left ≡ all - calls → left ≡ 0 → all ≤ calls
leaves_over all calls left is none = omega arith

-- A list without frames.

pub empty_are : (bank : BankId) (frames : List Frame) → frames ≡ [] → AllAre bank frames
empty_are bank frames none = subst (λ (xs : List Frame). AllAre bank xs) (sym none) tt

pub no_room : (back given : List Frame) (room : ℕ) → back ≡ [] → given ≡ [] → length back + (length given + (0 - 0)) ≤ room
no_room back given room none none_too = rw (none, none_too) (omega arith)

-- asks are as they are
pub same_asks : (asks : Asking) → SameAsks asks asks
same_asks asks = record {
  pages = λ kind. refl;
  rest = record { packets = refl; taken = refl; closed = refl; tickets_are = refl; waiters = refl };
}
