-- One page further: the page at the mark stands for the journal with the entry, and all others as before.
use Rattle.std.proofs.Math.ListN.{get_or-append}
use Rattle.std.proofs.Math.Seq.{get_or-append_right}
use Rattle.std.proofs.lemmas.List.{get_or-take, get_or-drop, length-append, length-drop, length-take-le}
use Rattle.std.proofs.lemmas.Bool.{cases_lt}
use Rattle.std.proofs.lemmas.Option.{slice_get-get_or, slice_get_past}
use Rattle.std.specs.Prelude.{option_to_list}
use Rattle.up_bank.specs.Bytes.{written}
use Rattle.std.proofs.Common.{◌≡◌, inl, inr, take, drop, [], ◌++◌, ℕ, ◌+◌, ◌-◌, ◌<◌, ◌≤◌, ◌==◌, ◌&&◌, Bool, true, false, cond, Option, Some, None, List, ◌∷◌, length, suc, get_or, refl, ap, sym, ◌∙◌, subst, arith, nat_le, nat_lt}
use Rattle.std.proofs.lemmas.Bool.Decides.{nat_tests}
use Rattle.up_bank.specs.Standing.{BankId, Held as Frame}
use Rattle.up_pages.specs.declared.page.Page.{Page}
use Rattle.up_pages.specs.declared.page.Page.TheVariants.{Absent, Zero, Held as HeldPage}
use Rattle.up_num.specs.declared.answers.PageState.{PageState}
use Rattle.up_num.specs.declared.answers.PageState.TheVariants.{Clean, Dirty}
use Rattle.up_bank.specs.declared.kind.FrameKind.{FrameKind}
use Rattle.up_bank.specs.declared.kind.FrameKind.TheVariants.{Ordinary, Loaned}
use Rattle.up_pages.specs.Frames.{Stock}
use Rattle.up_pages.specs.Pages.{PageMap, page_at, size_of, frame_of, bytes_in, overwritten, look_of as look_at, with_state as page_with_state}
use Rattle.up_model.specs.Looks.{PageLook, Missing, Zeros, Framed, look_of, has_frame, has_loan, is_present, lacks_own_frame, with_state, dirtied_look, pinned_look}
use Rattle.up_model.specs.Size.{size}
use Rattle.up_model.specs.Use.{newest_epoch}
use Rattle.up_model.specs.Numbers.{next_number}
use Rattle.up_model.specs.Changes.{Turns, SamePage, SetsState, LetsDirty, Uses, UnpinsOne, Hints, Blanks, Goes, Fills, Reframes, Writes, PinsOne, over_byte, FreshUse}
use Rattle.up_model.specs.declared.entry.Birth.{Birth}
use Rattle.up_model.specs.declared.entry.Entry.{Entry}
use Rattle.up_object.specs.declared.marks.Mark.{Mark}
use Rattle.up_object.specs.Numbers.{is_zeros, bared}
use Rattle.up_object.proofs.PageNumbers.{numbers_next, still_bare, own_bare}
use Rattle.up_object.specs.Parts.{BankPair, bank_of, is_loan, PageStands, KeyStands, HasOwn, IsOwn, shown, state_shown, content, mark_at}
use Rattle.up_object.specs.Change.{CallProgress, Rest, RestStands, up_to, next_done, PagesStand, AllAre, AllOwn, FramesStand, ChangeStandsFor}

-- which pages are done, one page further
done_at : (first m p : ℕ) → first ≤ m → (m == p) ≡ true → (nat_le first p && nat_lt p (m + 1)) ≡ true
done_at first m p low is = grind (arith, nat_tests)

undone_at : (first m : ℕ) → (nat_le first m && nat_lt m m) ≡ false
undone_at first m = grind (arith, nat_tests)

done_else : (first m p : ℕ) → (m == p) ≡ false → (nat_le first p && nat_lt p (m + 1)) ≡ (nat_le first p && nat_lt p m)
done_else first m p is = grind (arith, nat_tests)

same_number : (m p : ℕ) → (m == p) ≡ true → m ≡ p
same_number m p is = grind (arith, nat_tests)

-- at the mark the page stands for the journal before the entry
pub at_mark : (banks : BankPair) (pages : PageMap) (marks : List Mark) (birth : Birth) (e : Entry) (h : List Entry) (done : CallProgress) →
    PagesStand banks pages marks birth e h done → PageStands banks (page_at pages done.mark) (mark_at marks done.mark) birth h done.mark
at_mark banks pages marks birth e h done s =
    subst (λ b. PageStands banks (page_at pages done.mark) (mark_at marks done.mark) birth (up_to b e h) done.mark) (undone_at done.first done.mark) (s.each done.mark)

-- one page further, over any new list of pages and marks that differ at the mark alone
pub turned : (banks : BankPair) (pages pages' : PageMap) (marks marks' : List Mark) (page : Page) (mark : Mark) (birth : Birth) (e : Entry) (h : List Entry) (done : CallProgress) →
    PagesStand banks pages marks birth e h done → done.mark < done.limit →
    ((p : ℕ) → page_at pages' p ≡ cond (done.mark == p) page (page_at pages p)) → size_of pages' ≡ size_of pages → pages.spare ≤ pages'.spare + 1 →
    ((p : ℕ) → mark_at marks' p ≡ cond (done.mark == p) mark (mark_at marks p)) → length marks' ≡ length marks →
    PageStands banks page mark birth (e ∷ h) done.mark → PagesStand banks pages' marks' birth e h (next_done done)
turned banks pages pages' marks marks' page mark birth e h done s left puts size spare sets count stands = record {
  each = λ p. elim (done.mark == p) as (λ b. (done.mark == p) ≡ b → PageStands banks (page_at pages' p) (mark_at marks' p) birth (up_to (nat_le done.first p && nat_lt p (done.mark + 1)) e h) p) [
    | true ↦ λ q. let here : page_at pages' p ≡ page = puts p ∙ ap (λ b. cond b page (page_at pages p)) q in
        let now : mark_at marks' p ≡ mark = sets p ∙ ap (λ b. cond b mark (mark_at marks p)) q in
        let there : PageStands banks page mark birth (e ∷ h) p = subst (λ (n : ℕ). PageStands banks page mark birth (e ∷ h) n) (same_number done.mark p q) stands in
        rw (here, now, done_at done.first done.mark p s.order q) there
    | false ↦ λ q. let here : page_at pages' p ≡ page_at pages p = puts p ∙ ap (λ b. cond b page (page_at pages p)) q in
        let now : mark_at marks' p ≡ mark_at marks p = sets p ∙ ap (λ b. cond b mark (mark_at marks p)) q in
        rw (here, now, done_else done.first done.mark p q) (s.each p)
  ] refl;
  marked = let marked = s.marked in omega arith;
  order = let low = s.order in omega arith;
  ends = omega arith;
  fits = let fits = s.fits in omega arith;
  ready = let ready = s.ready in omega arith;
}

-- What a page call makes of the page at the mark.

key_turns : (birth : Birth) (e : Entry) (h : List Entry) (p : ℕ) (mark : Mark) (look : PageLook) → Turns birth e h p look → KeyStands mark.key birth h p → KeyStands mark.key birth (e ∷ h) p
key_turns birth e h p mark look t k = record { place = t.usage.used ∙ k.place; aged = t.usage.aged ∙ k.aged; chilled = t.usage.chilled ∙ k.chilled }

-- it is another look, in what has the same bytes
pub turns_page : (banks : BankPair) (old new : Page) (mark : Mark) (birth : Birth) (e : Entry) (h : List Entry) (p : ℕ) (look : PageLook) →
    PageStands banks old mark birth h p → Turns birth e h p look → look ≡ shown (look_at new) → ((i : ℕ) → i < 4096 → content old i ≡ content new i) → HasOwn banks new →
    (has_frame (shown (look_at new)) ≡ true → has_frame (shown (look_at old)) ≡ true) → (is_zeros (shown (look_at new)) ≡ false → is_zeros (shown (look_at old)) ≡ false) → PageStands banks new mark birth (e ∷ h) p
turns_page banks old new mark birth e h p look s t shows same own frames bares = record {
  looks = t.looks ∙ shows;
  bytes = λ i lt. t.bytes i lt ∙ s.bytes i lt ∙ same i lt;
  owned = own;
  pinned = t.marks.pinned ∙ s.pinned;
  protected = t.marks.protected ∙ s.protected;
  keyed = λ framed. key_turns birth e h p mark look t (s.keyed (frames framed));
  numbered = numbers_next mark mark birth e h p (shown (look_at old)) false s.numbered s.looks t.undirtied refl
      (still_bare birth e h p (shown (look_at old)) (shown (look_at new)) mark.unzeroed (t.looks ∙ shows) bares);
}

pub keeps_page : (banks : BankPair) (page : Page) (mark : Mark) (birth : Birth) (e : Entry) (h : List Entry) (p : ℕ) →
    PageStands banks page mark birth h p → SamePage birth e h p → PageStands banks page mark birth (e ∷ h) p
keeps_page banks page mark birth e h p s t = turns_page banks page page mark birth e h p (look_of birth h p) s t s.looks (λ i lt. refl) s.owned (λ framed. framed) (λ bare. bare)

state_shows : (state : PageState) (page : Page) → with_state state (shown (look_at page)) ≡ shown (look_at (page_with_state state page))
state_shows state Absent = refl
state_shows state (Zero old) = refl
state_shows state (HeldPage frame old) = refl

state_content : (state : PageState) (page : Page) (i : ℕ) → content page i ≡ content (page_with_state state page) i
state_content state Absent i = refl
state_content state (Zero old) i = refl
state_content state (HeldPage frame old) i = refl

state_own : (banks : BankPair) (state : PageState) (page : Page) → HasOwn banks page → HasOwn banks (page_with_state state page)
state_own banks state Absent own = own
state_own banks state (Zero old) own = own
state_own banks state (HeldPage frame old) own = own

state_framed : (state : PageState) (page : Page) → has_frame (shown (look_at (page_with_state state page))) ≡ true → has_frame (shown (look_at page)) ≡ true
state_framed state Absent framed = framed
state_framed state (Zero old) framed = framed
state_framed state (HeldPage frame old) framed = refl

state_bare : (state : PageState) (page : Page) → is_zeros (shown (look_at (page_with_state state page))) ≡ false → is_zeros (shown (look_at page)) ≡ false
state_bare state Absent bare = refl
state_bare state (Zero old) bare = absurd cc
state_bare state (HeldPage frame old) bare = refl

pub states_page : (banks : BankPair) (page : Page) (mark : Mark) (birth : Birth) (e : Entry) (h : List Entry) (p : ℕ) (state : PageState) →
    PageStands banks page mark birth h p → SetsState birth e h p state → PageStands banks (page_with_state state page) mark birth (e ∷ h) p
states_page banks page mark birth e h p state s t =
    turns_page banks page (page_with_state state page) mark birth e h p (with_state state (look_of birth h p)) s t (ap (with_state state) s.looks ∙ state_shows state page)
    (λ i lt. state_content state page i) (state_own banks state page s.owned) (state_framed state page) (state_bare state page)

pub drops_page : (banks : BankPair) (page : Page) (mark new : Mark) (birth : Birth) (e : Entry) (h : List Entry) (p : ℕ) →
    PageStands banks page mark birth h p → Goes birth e h p → new ≡ bared (shown (look_at page)) (next_number h) mark → PageStands banks Absent new birth (e ∷ h) p
drops_page banks page mark new birth e h p s t is = record {
  looks = t.looks;
  bytes = t.bytes;
  owned = tt;
  pinned = rw is (t.marks.pinned ∙ s.pinned);
  protected = rw is (t.marks.protected ∙ s.protected);
  keyed = λ framed. absurd cc;
  numbered = numbers_next mark new birth e h p (shown (look_at page)) false s.numbered s.looks t.undirtied (rw is refl) (λ bare. rw is refl);
}

-- A mark that alone changes.

-- it is used, and keeps what it is
abbrev pub used_mark : ℕ → ℕ → Mark → Mark
used_mark place generation mark = record mark { key = record { used = place; generation = generation; cold = None } }

fresh_stands : (birth : Birth) (e : Entry) (h : List Entry) (p : ℕ) → FreshUse birth e h p → KeyStands (record { used = length h; generation = newest_epoch (e ∷ h); cold = None }) birth (e ∷ h) p
fresh_stands birth e h p f = record { place = f.used; aged = f.aged; chilled = f.chilled }

pub uses_page : (banks : BankPair) (page : Page) (mark new : Mark) (birth : Birth) (e : Entry) (h : List Entry) (p : ℕ) →
    PageStands banks page mark birth h p → Uses birth e h p → new ≡ used_mark (length h) (newest_epoch (e ∷ h)) mark → PageStands banks page new birth (e ∷ h) p
uses_page banks page mark new birth e h p s t is = record {
  looks = t.looks ∙ s.looks;
  bytes = λ i lt. t.bytes i lt ∙ s.bytes i lt;
  owned = s.owned;
  pinned = rw is (t.marks.pinned ∙ s.pinned);
  protected = rw is (t.marks.protected ∙ s.protected);
  keyed = λ framed. rw is (fresh_stands birth e h p t.fresh);
  numbered = numbers_next mark new birth e h p (shown (look_at page)) false s.numbered s.looks t.undirtied (rw is refl)
      (rw is (still_bare birth e h p (shown (look_at page)) (shown (look_at page)) mark.unzeroed (t.looks ∙ s.looks) (λ bare. bare)));
}

pub unpins_page : (banks : BankPair) (page : Page) (mark new : Mark) (birth : Birth) (e : Entry) (h : List Entry) (p : ℕ) →
    PageStands banks page mark birth h p → UnpinsOne birth e h p → new ≡ record mark { pins = mark.pins - 1 } → PageStands banks page new birth (e ∷ h) p
unpins_page banks page mark new birth e h p s t is = record {
  looks = t.looks ∙ s.looks;
  bytes = λ i lt. t.bytes i lt ∙ s.bytes i lt;
  owned = s.owned;
  pinned = rw is (t.pinned ∙ ap (λ (n : ℕ). n - 1) s.pinned);
  protected = rw is (t.protected ∙ s.protected);
  keyed = λ framed. let k = s.keyed framed in rw is (record { place = t.usage.used ∙ k.place; aged = t.usage.aged ∙ k.aged; chilled = t.usage.chilled ∙ k.chilled });
  numbered = numbers_next mark new birth e h p (shown (look_at page)) false s.numbered s.looks t.undirtied (rw is refl)
      (rw is (still_bare birth e h p (shown (look_at page)) (shown (look_at page)) mark.unzeroed (t.looks ∙ s.looks) (λ bare. bare)));
}

pub hints_page : (banks : BankPair) (page : Page) (mark new : Mark) (birth : Birth) (e : Entry) (h : List Entry) (p : ℕ) (protects : Bool) →
    PageStands banks page mark birth h p → Hints birth e h p protects → new ≡ record mark { always = protects; key = record { used = mark.key.used; generation = mark.key.generation; cold = cond protects mark.key.cold (Some (length h)) } } →
    PageStands banks page new birth (e ∷ h) p
hints_page banks page mark new birth e h p protects s t is = record {
  looks = t.looks ∙ s.looks;
  bytes = λ i lt. t.bytes i lt ∙ s.bytes i lt;
  owned = s.owned;
  pinned = rw is (t.pinned ∙ s.pinned);
  protected = rw is t.protected;
  keyed = λ framed. let k = s.keyed framed in rw is (record { place = t.used ∙ k.place; aged = t.aged ∙ k.aged; chilled = t.chilled ∙ ap (λ o. cond protects o (Some (length h))) k.chilled });
  numbered = numbers_next mark new birth e h p (shown (look_at page)) false s.numbered s.looks t.undirtied (rw is refl)
      (rw is (still_bare birth e h p (shown (look_at page)) (shown (look_at page)) mark.unzeroed (t.looks ∙ s.looks) (λ bare. bare)));
}

pub blanks_page : (banks : BankPair) (page : Page) (mark new : Mark) (birth : Birth) (e : Entry) (h : List Entry) (p : ℕ) →
    PageStands banks page mark birth h p → Blanks birth e h p → new ≡ record mark { dirtied = next_number h } → PageStands banks (Zero Dirty) new birth (e ∷ h) p
blanks_page banks page mark new birth e h p s t is = record {
  looks = t.looks;
  bytes = t.bytes;
  owned = tt;
  pinned = rw is (t.marks.pinned ∙ s.pinned);
  protected = rw is (t.marks.protected ∙ s.protected);
  keyed = λ framed. absurd cc;
  numbered = numbers_next mark new birth e h p (shown (look_at page)) true s.numbered s.looks t.dirtied (rw is refl)
      (rw is (still_bare birth e h p (shown (look_at page)) (Zeros Dirty) mark.unzeroed t.looks (λ bare. absurd cc)));
}

pub fills_page : (banks : BankPair) (page : Page) (frame : Frame) (mark new : Mark) (birth : Birth) (e : Entry) (h : List Entry) (p : ℕ) (given : List ℕ) →
    PageStands banks page mark birth h p → Fills birth e h p given → is_loan frame.bank.kind ≡ false → IsOwn banks frame → ((i : ℕ) → i < 4096 → get_or given i 0 ≡ get_or frame.bytes i 0) →
    new ≡ used_mark (length h) (newest_epoch (e ∷ h)) mark → PageStands banks (HeldPage frame Clean) new birth (e ∷ h) p
fills_page banks page frame mark new birth e h p given s t own_kind own same is = record {
  looks = t.looks ∙ rw own_kind refl;
  bytes = λ i lt. t.bytes i lt ∙ ap (λ (b : ℕ). Some b) (same i lt);
  owned = own;
  pinned = rw is (t.marks.pinned ∙ s.pinned);
  protected = rw is (t.marks.protected ∙ s.protected);
  keyed = λ framed. rw is (fresh_stands birth e h p t.fresh);
  numbered = numbers_next mark new birth e h p (shown (look_at page)) false s.numbered s.looks t.undirtied (rw is refl)
      (λ bare. rw (is, ap is_zeros (sym s.looks ∙ t.missing)) refl);
}

-- The whole, one page further.

pub stays_puts : {T : Type 0} (f : ℕ → T) (m p : ℕ) → f p ≡ cond (m == p) (f m) (f p)
stays_puts f m p = elim (m == p) as (λ b. (m == p) ≡ b → f p ≡ cond b (f m) (f p)) [
  | true ↦ λ q. ap f (sym (same_number m p q))
  | false ↦ λ q. refl
] refl

-- frames stay, and the page's place for one is free
pub stock_next : (banks : BankPair) (brings : FrameKind) (given back : Stock) (done : CallProgress) → FramesStand banks brings given back done → FramesStand banks brings given back (next_done done)
stock_next banks brings given back done s = record { given_own = s.given_own; back_own = s.back_own; room = let room = s.room in omega arith }

rest_next : (rest : Rest) (pages : ℕ) (birth : Birth) (e : Entry) (h : List Entry) (done : CallProgress) → RestStands rest pages birth e h done → RestStands rest pages birth e h (next_done done)
rest_next rest pages birth e h done s = record {
  queued = s.queued;
  wide = s.wide;
  asks = s.asks;
  tallied = s.tallied;
  numbered = s.numbered;
  epoch = s.epoch;
  leaving = s.leaving;
  few = s.few;
  room = s.room;
  place = s.place;
}

pub steps : (banks : BankPair) (pages pages' : PageMap) (marks marks' : List Mark) (brings : FrameKind) (given given' back back' : Stock) (rest : Rest) (birth : Birth) (e : Entry) (h : List Entry) (done : CallProgress) →
    ChangeStandsFor banks pages marks brings given back rest birth e h done → size_of pages' ≡ size_of pages → PagesStand banks pages' marks' birth e h (next_done done) → FramesStand banks brings given' back' (next_done done) →
    ChangeStandsFor banks pages' marks' brings given' back' rest birth e h (next_done done)
steps banks pages pages' marks marks' brings given given' back back' rest birth e h done s same part stock = record {
  legal = s.legal;
  kinds = s.kinds;
  sized = same ∙ s.sized;
  grown = subst (λ (n : ℕ). size birth h ≤ n) (sym same) s.grown;
  part = part;
  stock = stock;
  others = subst (λ (n : ℕ). RestStands rest n birth e h (next_done done)) (sym same) (rest_next rest (size_of pages) birth e h done s.others);
}

-- a call's clause says what it makes of any page, and is read at the mark
pub own_puts : {T U : Type 0} (f : T → U) (g : ℕ → T) (m p : ℕ) (rest : U) → cond (m == p) (f (g p)) rest ≡ cond (m == p) (f (g m)) rest
own_puts f g m p rest = elim (m == p) as (λ b. (m == p) ≡ b → cond b (f (g p)) rest ≡ cond b (f (g m)) rest) [
  | true ↦ λ q. ap (λ (n : ℕ). f (g n)) (sym (same_number m p q))
  | false ↦ λ q. refl
] refl

-- Frames that come back.

pub own_append : (banks : BankPair) (xs ys : List Frame) → AllOwn banks xs → AllOwn banks ys → AllOwn banks (xs ++ ys)
own_append banks [] ys all more = more
own_append banks (x ∷ xs) ys all more = (all.0, own_append banks xs ys all.1 more)

pub own_page : (banks : BankPair) (page : Page) → HasOwn banks page → AllOwn banks (option_to_list (frame_of page))
own_page banks Absent own = tt
own_page banks (Zero state) own = tt
own_page banks (HeldPage frame state) own = (own.bank, tt)

pub one_at_most : {X : Type 0} (o : Option X) → length (option_to_list o) ≤ 1
one_at_most None = omega arith
one_at_most (Some x) = omega arith

-- a page's frame comes back
pub stock_back : (banks : BankPair) (brings : FrameKind) (given back back' : Stock) (done : CallProgress) (page : Page) → FramesStand banks brings given back done → HasOwn banks page →
    back'.items ≡ back.items ++ option_to_list (frame_of page) → back'.room ≡ back.room → FramesStand banks brings given back' (next_done done)
stock_back banks brings given back back' done page s own items room =
    let few = one_at_most (frame_of page) in
    let long : length back'.items ≡ length back.items + length (option_to_list (frame_of page)) = ap length items ∙ length-append back.items (option_to_list (frame_of page)) in
    let was = s.room in record {
      given_own = s.given_own;
      back_own = rw items (own_append banks back.items _ s.back_own (own_page banks page own));
      room = omega arith;
    }

are_parts : (bank : BankId) (xs : List Frame) (frame : Frame) → AllAre bank (xs ++ frame ∷ []) → AllAre bank xs × (frame.bank ≡ bank)
are_parts bank [] frame all = (tt, all.0)
are_parts bank (x ∷ xs) frame all = let rest = are_parts bank xs frame all.1 in ((all.0, rest.0), rest.1)

-- a given frame is used, and a page's frame comes back
pub stock_used : (banks : BankPair) (brings : FrameKind) (given given' back back' : Stock) (done : CallProgress) (frame : Frame) (page : Page) → FramesStand banks brings given back done → HasOwn banks page →
    given.items ≡ given'.items ++ frame ∷ [] → back'.items ≡ back.items ++ option_to_list (frame_of page) → back'.room ≡ back.room → FramesStand banks brings given' back' (next_done done)
stock_used banks brings given given' back back' done frame page s own taken items room =
    let few = one_at_most (frame_of page) in
    let long : length back'.items ≡ length back.items + length (option_to_list (frame_of page)) = ap length items ∙ length-append back.items (option_to_list (frame_of page)) in
    let short : length given.items ≡ length given'.items + 1 = ap length taken ∙ length-append given'.items (frame ∷ []) in
    let was = s.room in record {
      given_own = (are_parts (bank_of banks brings) given'.items frame (subst (λ (xs : List Frame). AllAre (bank_of banks brings) xs) taken s.given_own)).0;
      back_own = rw items (own_append banks back.items _ s.back_own (own_page banks page own));
      room = omega arith;
    }

-- the given frame is of the bank of its kind
pub given_bank : (banks : BankPair) (brings : FrameKind) (given given' back : Stock) (done : CallProgress) (frame : Frame) → FramesStand banks brings given back done → given.items ≡ given'.items ++ frame ∷ [] →
    frame.bank ≡ bank_of banks brings
given_bank banks brings given given' back done frame s taken = (are_parts (bank_of banks brings) given'.items frame (subst (λ (xs : List Frame). AllAre (bank_of banks brings) xs) taken s.given_own)).1

bank_kind : (banks : BankPair) (kind : FrameKind) → (banks.ordinary.kind ≡ Ordinary) × (banks.loaned.kind ≡ Loaned) → (bank_of banks kind).kind ≡ kind
bank_kind banks Ordinary kinds = kinds.0
bank_kind banks Loaned kinds = kinds.1

pub kind_given : (banks : BankPair) (brings : FrameKind) (bank : BankId) → (banks.ordinary.kind ≡ Ordinary) × (banks.loaned.kind ≡ Loaned) → bank ≡ bank_of banks brings → bank.kind ≡ brings
kind_given banks brings bank kinds is = ap (λ (b : BankId). b.kind) is ∙ bank_kind banks brings kinds

pub own_given : (banks : BankPair) (brings : FrameKind) (frame : Frame) → (banks.ordinary.kind ≡ Ordinary) × (banks.loaned.kind ≡ Loaned) → frame.bank ≡ bank_of banks brings → length frame.bytes ≡ 4096 → IsOwn banks frame
own_given banks brings frame kinds is whole = record {
  bank = is ∙ ap (bank_of banks) (sym (kind_given banks brings frame.bank kinds is));
  whole = whole;
}

-- Bytes written into a frame.

over_before : (at : ℕ) (new : List ℕ) (i old : ℕ) → i < at → over_byte at new i (Some old) ≡ Some old
over_before at new i old below = let test : nat_le at i ≡ false = grind (arith, nat_tests) in rw test refl

over_inside : (at : ℕ) (new : List ℕ) (i old : ℕ) → at ≤ i → i - at < length new → over_byte at new i (Some old) ≡ Some (get_or new (i - at) 0)
over_inside at new i old from inside = let test : nat_le at i ≡ true = grind (arith, nat_tests) in rw (test, slice_get-get_or new (i - at) 0 inside) refl

over_after : (at : ℕ) (new : List ℕ) (i old : ℕ) → at ≤ i → length new ≤ i - at → over_byte at new i (Some old) ≡ Some old
over_after at new i old from past = let test : nat_le at i ≡ true = grind (arith, nat_tests) in rw (test, slice_get_past new (i - at) past) refl

pub written_over : (old new : List ℕ) (at i : ℕ) → length old ≡ 4096 → at + length new ≤ 4096 → i < 4096 → Some (get_or (written old at new) i 0) ≡ over_byte at new i (Some (get_or old i 0))
written_over old new at i whole fits lt = elim (cases_lt i at) [
  | inl below ↦ let front : length (take at old) ≡ at = length-take-le at old (omega arith) in
      ap (λ (b : ℕ). Some b) (get_or-append (take at old) (new ++ drop (at + length new) old) 0 i (omega arith) ∙ get_or-take at old i 0 below)
      ∙ sym (over_before at new i (get_or old i 0) below)
  | inr from ↦ elim (cases_lt i (at + length new)) [
    | inl inside ↦ let front : length (take at old) ≡ at = length-take-le at old (omega arith) in
        ap (λ (b : ℕ). Some b) (get_or-append_right (take at old) (new ++ drop (at + length new) old) i 0 (omega arith) ∙ ap (λ (n : ℕ). get_or (new ++ drop (at + length new) old) (i - n) 0) front
        ∙ get_or-append new (drop (at + length new) old) 0 (i - at) (omega arith))
        ∙ sym (over_inside at new i (get_or old i 0) from (omega arith))
    | inr past ↦ let front : length (take at old) ≡ at = length-take-le at old (omega arith) in
        ap (λ (b : ℕ). Some b) (get_or-append_right (take at old) (new ++ drop (at + length new) old) i 0 (omega arith) ∙ ap (λ (n : ℕ). get_or (new ++ drop (at + length new) old) (i - n) 0) front
        ∙ get_or-append_right new (drop (at + length new) old) (i - at) 0 (omega arith) ∙ get_or-drop (at + length new) old (i - at - length new) 0
        ∙ ap (λ (n : ℕ). get_or old n 0) (omega arith))
        ∙ sym (over_after at new i (get_or old i 0) from (omega arith))
  ]
]

pub written_length : (old new : List ℕ) (at : ℕ) → length old ≡ 4096 → at + length new ≤ 4096 → length (written old at new) ≡ 4096
written_length old new at whole fits =
    let front : length (take at old) ≡ at = length-take-le at old (omega arith) in
    length-append (take at old) (new ++ drop (at + length new) old) ∙ ap (λ (n : ℕ). length (take at old) + n) (length-append new (drop (at + length new) old) ∙ ap (λ (n : ℕ). length new + n) (length-drop (at + length new) old))
    ∙ omega arith

-- a frame that is filled whole
pub written_whole : (old new : List ℕ) (i : ℕ) → length old ≡ 4096 → length new ≡ 4096 → i < 4096 → get_or new i 0 ≡ get_or (written old 0 new) i 0
written_whole old new i whole full lt = sym (get_or-append new (drop (0 + length new) old) 0 i (omega arith))

-- A page in a given frame.

one_more : (n : ℕ) → suc n ≡ n + 1
one_more n = omega arith

pinned_is : (look : PageLook) → is_present look ≡ true → pinned_look look ≡ Framed (state_shown look) false
pinned_is Missing here = absurd cc
pinned_is (Zeros state) here = refl
pinned_is (Framed state loan) here = refl

pinned_own : (look : PageLook) → is_present look ≡ true → lacks_own_frame look ≡ false → pinned_look look ≡ look
pinned_own Missing here own = absurd cc
pinned_own (Zeros state) here own = absurd cc
pinned_own (Framed state loan) here own = ap (λ b. Framed state b) (sym own)

-- what a page's look is in a given frame
framed_look : (banks : BankPair) (brings : FrameKind) (frame : Frame) (state : PageState) (loan : Bool) → (banks.ordinary.kind ≡ Ordinary) × (banks.loaned.kind ≡ Loaned) →
    frame.bank ≡ bank_of banks brings → is_loan brings ≡ loan → Framed state loan ≡ shown (look_at (HeldPage frame state))
framed_look banks brings frame state loan kinds is lends = ap (λ b. Framed state b) (sym lends ∙ ap is_loan (sym (kind_given banks brings frame.bank kinds is)))

pub fill_given : (banks : BankPair) (brings : FrameKind) (page : Page) (frame frame' : Frame) (mark new : Mark) (birth : Birth) (e : Entry) (h : List Entry) (p : ℕ) (bytes : List ℕ) →
    (banks.ordinary.kind ≡ Ordinary) × (banks.loaned.kind ≡ Loaned) → frame.bank ≡ bank_of banks brings → length frame.bytes ≡ 4096 → is_loan brings ≡ false → length bytes ≡ 4096 →
    frame' ≡ record frame { bytes = written frame.bytes 0 bytes } → PageStands banks page mark birth h p → Fills birth e h p bytes → new ≡ used_mark (length h) (newest_epoch (e ∷ h)) mark →
    PageStands banks (HeldPage frame' Clean) new birth (e ∷ h) p
fill_given banks brings page frame frame' mark new birth e h p bytes kinds bank whole lends full made s t is =
    let made_bank : frame'.bank ≡ bank_of banks brings = ap (λ (f : Frame). f.bank) made ∙ bank in
    let made_bytes : frame'.bytes ≡ written frame.bytes 0 bytes = ap (λ (f : Frame). f.bytes) made in record {
      looks = t.looks ∙ framed_look banks brings frame' Clean false kinds made_bank lends;
      bytes = λ i lt. t.bytes i lt ∙ ap (λ (b : ℕ). Some b) (written_whole frame.bytes bytes i whole full lt ∙ ap (λ (xs : List ℕ). get_or xs i 0) (sym made_bytes));
      owned = own_given banks brings frame' kinds made_bank (ap length made_bytes ∙ written_length frame.bytes bytes 0 whole (omega arith));
      pinned = rw is (t.marks.pinned ∙ s.pinned);
      protected = rw is (t.marks.protected ∙ s.protected);
      keyed = λ framed. rw is (fresh_stands birth e h p t.fresh);
      numbered = numbers_next mark new birth e h p (shown (look_at page)) false s.numbered s.looks t.undirtied (rw is refl)
          (λ bare. rw (is, ap is_zeros (sym s.looks ∙ t.missing)) refl);
    }

-- a frame that has the bytes of a page
pub record HasBytes (page : Page) (frame : Frame) : Type 0 where
  pub whole : length frame.bytes ≡ 4096
  pub each : (i : ℕ) → i < 4096 → content page i ≡ Some (get_or frame.bytes i 0)

framed_bare : (look : PageLook) → has_frame look ≡ true → is_zeros look ≡ false
framed_bare Missing framed = absurd cc
framed_bare (Zeros state) framed = absurd cc
framed_bare (Framed state loan) framed = refl

pub reframe_given : (banks : BankPair) (brings : FrameKind) (page : Page) (frame : Frame) (mark : Mark) (birth : Birth) (e : Entry) (h : List Entry) (p : ℕ) (state : PageState) →
    (banks.ordinary.kind ≡ Ordinary) × (banks.loaned.kind ≡ Loaned) → frame.bank ≡ bank_of banks brings → HasBytes page frame →
    PageStands banks page mark birth h p → Reframes birth e h p state (is_loan brings) → PageStands banks (HeldPage frame state) mark birth (e ∷ h) p
reframe_given banks brings page frame mark birth e h p state kinds bank copy s t = record {
  looks = t.turns.looks ∙ framed_look banks brings frame state (is_loan brings) kinds bank refl;
  bytes = λ i lt. t.turns.bytes i lt ∙ s.bytes i lt ∙ copy.each i lt;
  owned = own_given banks brings frame kinds bank copy.whole;
  pinned = t.turns.marks.pinned ∙ s.pinned;
  protected = t.turns.marks.protected ∙ s.protected;
  keyed = λ framed. key_turns birth e h p mark _ t.turns (s.keyed (ap has_frame (sym s.looks) ∙ t.framed));
  numbered = numbers_next mark mark birth e h p (shown (look_at page)) false s.numbered s.looks t.turns.undirtied refl
      (λ bare. rw (framed_bare (shown (look_at page)) (ap has_frame (sym s.looks) ∙ t.framed)) refl);
}

pub pin_given : (banks : BankPair) (brings : FrameKind) (page : Page) (frame : Frame) (mark new : Mark) (birth : Birth) (e : Entry) (h : List Entry) (p : ℕ) (state : PageState) →
    (banks.ordinary.kind ≡ Ordinary) × (banks.loaned.kind ≡ Loaned) → frame.bank ≡ bank_of banks brings → is_loan brings ≡ false → HasBytes page frame → state ≡ state_shown (shown (look_at page)) →
    PageStands banks page mark birth h p → PinsOne birth e h p → new ≡ record (bared (shown (look_at page)) (next_number h) mark) { pins = mark.pins + 1; key = record { used = length h; generation = newest_epoch (e ∷ h); cold = None } } →
    PageStands banks (HeldPage frame state) new birth (e ∷ h) p
pin_given banks brings page frame mark new birth e h p state kinds bank lends copy now s t is =
    let shows : is_present (shown (look_at page)) ≡ true = ap is_present (sym s.looks) ∙ t.present in record {
      looks = t.looks ∙ ap pinned_look s.looks ∙ pinned_is (shown (look_at page)) shows ∙ ap (λ x. Framed x false) (sym now) ∙ framed_look banks brings frame state false kinds bank lends;
      bytes = λ i lt. t.bytes i lt ∙ s.bytes i lt ∙ copy.each i lt;
      owned = own_given banks brings frame kinds bank copy.whole;
      pinned = rw is (t.pinned ∙ ap suc s.pinned ∙ one_more mark.pins);
      protected = rw is (t.protected ∙ s.protected);
      keyed = λ framed. rw is (fresh_stands birth e h p t.fresh);
      numbered = numbers_next mark new birth e h p (shown (look_at page)) false s.numbered s.looks t.undirtied (rw is refl) (λ bare. rw is refl);
    }

pub pin_place : (banks : BankPair) (page : Page) (mark new : Mark) (birth : Birth) (e : Entry) (h : List Entry) (p : ℕ) → lacks_own_frame (look_of birth h p) ≡ false →
    PageStands banks page mark birth h p → PinsOne birth e h p → new ≡ record mark { pins = mark.pins + 1; key = record { used = length h; generation = newest_epoch (e ∷ h); cold = None } } →
    PageStands banks page new birth (e ∷ h) p
pin_place banks page mark new birth e h p own s t is = record {
  looks = t.looks ∙ pinned_own (look_of birth h p) t.present own ∙ s.looks;
  bytes = λ i lt. t.bytes i lt ∙ s.bytes i lt;
  owned = s.owned;
  pinned = rw is (t.pinned ∙ ap suc s.pinned ∙ one_more mark.pins);
  protected = rw is (t.protected ∙ s.protected);
  keyed = λ framed. rw is (fresh_stands birth e h p t.fresh);
  numbered = numbers_next mark new birth e h p (shown (look_at page)) false s.numbered s.looks t.undirtied (rw is refl)
      (λ bare. rw (is, own_bare (shown (look_at page)) (ap lacks_own_frame (sym s.looks) ∙ own)) refl);
}

pub write_given : (banks : BankPair) (brings : FrameKind) (page : Page) (frame frame' : Frame) (mark new : Mark) (birth : Birth) (e : Entry) (h : List Entry) (p at : ℕ) (bytes : List ℕ) →
    (banks.ordinary.kind ≡ Ordinary) × (banks.loaned.kind ≡ Loaned) → frame.bank ≡ bank_of banks brings → is_loan brings ≡ false → HasBytes page frame → at + length bytes ≤ 4096 →
    frame' ≡ record frame { bytes = written frame.bytes at bytes } → PageStands banks page mark birth h p → Writes birth e h p at bytes → new ≡ record (bared (shown (look_at page)) (next_number h) mark) { key = record { used = length h; generation = newest_epoch (e ∷ h); cold = None }; dirtied = next_number h } →
    PageStands banks (HeldPage frame' Dirty) new birth (e ∷ h) p
write_given banks brings page frame frame' mark new birth e h p at bytes kinds bank lends copy fits made s t is =
    let made_bank : frame'.bank ≡ bank_of banks brings = ap (λ (f : Frame). f.bank) made ∙ bank in
    let made_bytes : frame'.bytes ≡ written frame.bytes at bytes = ap (λ (f : Frame). f.bytes) made in record {
      looks = t.looks ∙ framed_look banks brings frame' Dirty false kinds made_bank lends;
      bytes = λ i lt. t.bytes i lt ∙ ap (over_byte at bytes i) (s.bytes i lt ∙ copy.each i lt) ∙ sym (written_over frame.bytes bytes at i copy.whole fits lt) ∙ ap (λ (xs : List ℕ). Some (get_or xs i 0)) (sym made_bytes);
      owned = own_given banks brings frame' kinds made_bank (ap length made_bytes ∙ written_length frame.bytes bytes at copy.whole fits);
      pinned = rw is (t.marks.pinned ∙ s.pinned);
      protected = rw is (t.marks.protected ∙ s.protected);
      keyed = λ framed. rw is (fresh_stands birth e h p t.fresh);
      numbered = numbers_next mark new birth e h p (shown (look_at page)) true s.numbered s.looks t.dirtied (rw is refl) (λ bare. rw is refl);
    }

-- what a write makes of a page that has a frame of its own
record Overwrites (banks : BankPair) (page : Page) (at : ℕ) (bytes : List ℕ) : Type 0 where
  looks : Framed Dirty false ≡ shown (look_at (page_with_state Dirty (overwritten at bytes page)))
  each : (i : ℕ) → i < 4096 → over_byte at bytes i (content page i) ≡ content (page_with_state Dirty (overwritten at bytes page)) i
  owned : HasOwn banks (page_with_state Dirty (overwritten at bytes page))

write_own : (banks : BankPair) (page : Page) (at : ℕ) (bytes : List ℕ) → HasOwn banks page → is_present (shown (look_at page)) ≡ true → lacks_own_frame (shown (look_at page)) ≡ false → at + length bytes ≤ 4096 →
    Overwrites banks page at bytes
write_own banks Absent at bytes own here lacks fits = absurd cc
write_own banks (Zero state) at bytes own here lacks fits = absurd cc
write_own banks (HeldPage frame state) at bytes own here lacks fits = record {
  looks = ap (λ b. Framed Dirty b) (sym lacks);
  each = λ i lt. sym (written_over frame.bytes bytes at i own.whole fits lt);
  owned = record { bank = own.bank; whole = written_length frame.bytes bytes at own.whole fits };
}

pub write_place : (banks : BankPair) (page : Page) (mark new : Mark) (birth : Birth) (e : Entry) (h : List Entry) (p at : ℕ) (bytes : List ℕ) → lacks_own_frame (look_of birth h p) ≡ false → at + length bytes ≤ 4096 →
    PageStands banks page mark birth h p → Writes birth e h p at bytes → new ≡ record mark { key = record { used = length h; generation = newest_epoch (e ∷ h); cold = None }; dirtied = next_number h } →
    PageStands banks (page_with_state Dirty (overwritten at bytes page)) new birth (e ∷ h) p
write_place banks page mark new birth e h p at bytes own fits s t is =
    let w = write_own banks page at bytes s.owned (ap is_present (sym s.looks) ∙ t.present) (ap lacks_own_frame (sym s.looks) ∙ own) fits in record {
      looks = t.looks ∙ w.looks;
      bytes = λ i lt. t.bytes i lt ∙ ap (over_byte at bytes i) (s.bytes i lt) ∙ w.each i lt;
      owned = w.owned;
      pinned = rw is (t.marks.pinned ∙ s.pinned);
      protected = rw is (t.marks.protected ∙ s.protected);
      keyed = λ framed. rw is (fresh_stands birth e h p t.fresh);
      numbered = numbers_next mark new birth e h p (shown (look_at page)) true s.numbered s.looks t.dirtied (rw is refl)
          (λ bare. rw (is, own_bare (shown (look_at page)) (ap lacks_own_frame (sym s.looks) ∙ own)) refl);
    }

-- Leave to make it dirty.

key_lets : (birth : Birth) (e : Entry) (h : List Entry) (p : ℕ) (mark new : Mark) → LetsDirty birth e h p → new.key ≡ mark.key → KeyStands mark.key birth h p → KeyStands new.key birth (e ∷ h) p
key_lets birth e h p mark new t same k = rw same (record { place = t.usage.used ∙ k.place; aged = t.usage.aged ∙ k.aged; chilled = t.usage.chilled ∙ k.chilled })

loan_framed : (look : PageLook) → has_loan look ≡ true → (has_frame look ≡ true) × (dirtied_look look ≡ Framed Dirty false)
loan_framed Missing is = absurd cc
loan_framed (Zeros state) is = absurd cc
loan_framed (Framed state loan) is = (refl, refl)

unlent_dirtied : (look : PageLook) → has_loan look ≡ false → dirtied_look look ≡ with_state Dirty look
unlent_dirtied Missing is = refl
unlent_dirtied (Zeros state) is = refl
unlent_dirtied (Framed state loan) is = ap (λ b. Framed Dirty b) (sym is)

pub dirty_place : (banks : BankPair) (page : Page) (mark new : Mark) (birth : Birth) (e : Entry) (h : List Entry) (p : ℕ) → has_loan (look_of birth h p) ≡ false →
    PageStands banks page mark birth h p → LetsDirty birth e h p → new ≡ record mark { dirtied = next_number h } → PageStands banks (page_with_state Dirty page) new birth (e ∷ h) p
dirty_place banks page mark new birth e h p own s t is =
    let shows : look_of birth (e ∷ h) p ≡ shown (look_at (page_with_state Dirty page)) = t.looks ∙ unlent_dirtied (look_of birth h p) own ∙ ap (with_state Dirty) s.looks ∙ state_shows Dirty page in record {
      looks = shows;
      bytes = λ i lt. t.bytes i lt ∙ s.bytes i lt ∙ state_content Dirty page i;
      owned = state_own banks Dirty page s.owned;
      pinned = rw is (t.marks.pinned ∙ s.pinned);
      protected = rw is (t.marks.protected ∙ s.protected);
      keyed = λ framed. key_lets birth e h p mark new t (rw is refl) (s.keyed (state_framed Dirty page framed));
      numbered = numbers_next mark new birth e h p (shown (look_at page)) true s.numbered s.looks t.dirtied (rw is refl)
          (rw is (still_bare birth e h p (shown (look_at page)) (shown (look_at (page_with_state Dirty page))) mark.unzeroed shows (state_bare Dirty page)));
    }

pub dirty_given : (banks : BankPair) (brings : FrameKind) (page : Page) (frame : Frame) (mark new : Mark) (birth : Birth) (e : Entry) (h : List Entry) (p : ℕ) → has_loan (look_of birth h p) ≡ true →
    (banks.ordinary.kind ≡ Ordinary) × (banks.loaned.kind ≡ Loaned) → frame.bank ≡ bank_of banks brings → is_loan brings ≡ false → HasBytes page frame →
    PageStands banks page mark birth h p → LetsDirty birth e h p → new ≡ record mark { dirtied = next_number h } → PageStands banks (HeldPage frame Dirty) new birth (e ∷ h) p
dirty_given banks brings page frame mark new birth e h p lent kinds bank lends copy s t is =
    let was = loan_framed (look_of birth h p) lent in
    let had : has_frame (shown (look_at page)) ≡ true = ap has_frame (sym s.looks) ∙ was.0 in record {
      looks = t.looks ∙ was.1 ∙ framed_look banks brings frame Dirty false kinds bank lends;
      bytes = λ i lt. t.bytes i lt ∙ s.bytes i lt ∙ copy.each i lt;
      owned = own_given banks brings frame kinds bank copy.whole;
      pinned = rw is (t.marks.pinned ∙ s.pinned);
      protected = rw is (t.marks.protected ∙ s.protected);
      keyed = λ framed. key_lets birth e h p mark new t (rw is refl) (s.keyed had);
      numbered = numbers_next mark new birth e h p (shown (look_at page)) true s.numbered s.looks t.dirtied (rw is refl)
          (λ bare. rw (is, framed_bare (shown (look_at page)) had) refl);
    }

-- two changes of the page at the mark
pub twice_puts : {T : Type 0} (f g : T → T) (old middle new : ℕ → T) (m : ℕ) → ((p : ℕ) → middle p ≡ cond (m == p) (f (old p)) (old p)) → ((p : ℕ) → new p ≡ cond (m == p) (g (middle p)) (middle p)) →
    (p : ℕ) → new p ≡ cond (m == p) (g (f (old m))) (old p)
twice_puts f g old middle new m one two p = two p ∙ elim (m == p) as (λ b. (m == p) ≡ b → cond b (g (middle p)) (middle p) ≡ cond b (g (f (old m))) (old p)) [
  | true ↦ λ q. ap g (one p ∙ ap (λ b. cond b (f (old p)) (old p)) q ∙ ap (λ (n : ℕ). f (old n)) (sym (same_number m p q)))
  | false ↦ λ q. one p ∙ ap (λ b. cond b (f (old p)) (old p)) q
] refl

-- a page that is there and has no frame reads as zeros
pub blank_content : (page : Page) (i : ℕ) → is_present (shown (look_at page)) ≡ true → bytes_in page ≡ None → content page i ≡ Some 0
blank_content Absent i here none = absurd cc
blank_content (Zero state) i here none = refl
blank_content (HeldPage frame state) i here none = absurd cc
