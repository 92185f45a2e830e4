-- Bytes of blocks and copies, how large an object may be, and when a begin is accepted.
use Rattle.std.proofs.Common.{◌≡◌, ℕ, ◌+◌, ◌-◌, ◌*◌, ◌%◌, ◌<◌, ◌≤◌, ◌++◌, length, Bool, true, false, cond}
use Rattle.std.proofs.Common.{max, Option, Some, None, is_some, List, [], ◌∷◌, get_or, slice_get, take}
use Rattle.std.proofs.Common.{drop, suc, zero, nat_lt, refl, sym, ap, ◌∙◌, subst, arith, le_trans, le_refl}
use Rattle.std.proofs.lemmas.Bool.{false≢true}
use Rattle.std.proofs.lemmas.Bool.Decides.{nat_tests}
use Rattle.std.proofs.lemmas.Option.{get_or_from_slice_get}
use Rattle.std.proofs.lemmas.List.{get_or-drop, get_or-take}
use Rattle.up_num.specs.Span.{Span, covers}
use Rattle.up_outside.specs.Cause.{Rose}
use Rattle.up_model.specs.Attempts.{page_of, accepts}
use Rattle.up_model.specs.Size.{size, resized, range_fits}
use Rattle.up_model.specs.Value.{value, there, byte_or_zero, bytes_from}
use Rattle.up_model.specs.States.{unclean}
use Rattle.up_model.specs.Reply.{reply, resize_reply, begin_reply, same_flag, within_page}
use Rattle.up_model.specs.Legal.{Legal}
use Rattle.up_model.specs.declared.entry.Birth.{Birth}
use Rattle.up_model.specs.declared.entry.Entry.{Entry}
use Rattle.up_model.specs.declared.entry.Call.{Call}
use Rattle.up_model.specs.declared.entry.Call.TheVariants.{Begin, Resize, Tell}
use Rattle.up_model.specs.declared.entry.Reply.{Reply}
use Rattle.up_model.specs.declared.entry.Reply.TheVariants as answer
use Rattle.up_model.specs.Numbers.{next_number}
use Rattle.up_model.proofs.Bools.{and_left}
use Rattle.up_model.proofs.Passed.{past_where, past_accepts, covers_bounds}
use Rattle.up_model.proofs.Presence.{pages_within}
use Rattle.up_coherence.specs.Coherent.{is_bad, bad_facts}
use Rattle.up_claims.specs.Claimed.{given_number}
use Rattle.up_claims.specs.Sited.{Fact, Fetching, Storing, Flushing, tell_of}
use Rattle.up_site.specs.Standing.{most_of, most_pages, byte_in, RoseBy, RoseFor, RoseIf, part_of}

-- an offset's place in its page
pub place_in : (x p : ℕ) → page_of x ≡ p → x - 4096 * p ≡ x % 4096
place_in x p within = omega arith

pub within_block : (x p : ℕ) → page_of x ≡ p → x - 4096 * p < 4096
within_block x p within = omega arith

-- the byte of a block that is known
pub byte_of : (blocks : List (List ℕ)) (block : List ℕ) (x p : ℕ) → page_of x ≡ p → get_or blocks p [] ≡
    block → byte_in blocks x ≡ get_or block (x - 4096 * p) 0
byte_of blocks block x p within is =
    let at : get_or blocks (page_of x) [] ≡ block = ap (λ (q : ℕ). get_or blocks q []) within ∙ is in
    ap (λ (b : List ℕ). get_or b (x % 4096) 0) at ∙ ap (λ (i : ℕ). get_or block i 0) (sym (place_in x p
    within))

pub byte_read : (blocks : List (List ℕ)) (block : List ℕ) (x p : ℕ) → page_of x ≡ p → slice_get blocks p ≡
    Some block → byte_in blocks x ≡ get_or block (x - 4096 * p) 0
byte_read blocks block x p within is = byte_of blocks block x p within (get_or_from_slice_get blocks p
    block [] is)

-- the byte of a copy
pub byte_copied : (birth : Birth) (h : List Entry) (x n i : ℕ) → i < n → get_or (bytes_from birth h x n) i
    0 ≡ byte_or_zero (value birth h (x + i))
byte_copied birth h x zero i low = absurd (omega arith)
byte_copied birth h x (suc n) zero low = let same : x ≡ x + 0 = omega arith in ap (λ (y : ℕ). byte_or_zero
    (value birth h y)) same
byte_copied birth h x (suc n) (suc i) low = let same : x + 1 + i ≡ x + suc i = omega arith in byte_copied
    birth h (x + 1) n i (omega arith) ∙ ap (λ (y : ℕ). byte_or_zero (value birth h y)) same

pub copied_byte : (birth : Birth) (h : List Entry) (range : Span) (x : ℕ) → covers range (page_of x) ≡ true →
    get_or (bytes_from birth h (4096 * range.first) (4096 * range.count)) (x - 4096 * range.first) 0 ≡
    byte_or_zero (value birth h x)
copied_byte birth h range x over =
    let bounds = covers_bounds range (page_of x) over in
    let low : 4096 * range.first ≤ x = below range.first x bounds.0 in
    let inside : x - 4096 * range.first < 4096 * range.count = above range.first range.count x bounds.0
    bounds.1 in
    let same : 4096 * range.first + (x - 4096 * range.first) ≡ x = omega arith in
    byte_copied birth h (4096 * range.first) (4096 * range.count) (x - 4096 * range.first) inside ∙ ap (λ
    (y : ℕ). byte_or_zero (value birth h y)) same
  where
    below : (first x : ℕ) → first ≤ page_of x → 4096 * first ≤ x
    below first x is = omega arith

    above : (first count x : ℕ) → first ≤ page_of x → page_of x < first + count → x - 4096 * first < 4096 *
        count
    above first count x at is = omega arith

-- the bytes of one page of a copy
pub byte_part : (bytes : List ℕ) (first stored x : ℕ) → page_of x ≡ first + stored → get_or (take 4096
    (drop (4096 * stored) bytes)) (x - 4096 * (first + stored)) 0 ≡ get_or bytes (x - 4096 * first) 0
byte_part bytes first stored x within =
    let low : x - 4096 * (first + stored) < 4096 = within_block x (first + stored) within in
    let same : 4096 * stored + (x - 4096 * (first + stored)) ≡ x - 4096 * first = omega arith in
    get_or-take 4096 (drop (4096 * stored) bytes) (x - 4096 * (first + stored)) 0 low
    ∙ (get_or-drop (4096 * stored) bytes (x - 4096 * (first + stored)) 0 ∙ ap (λ (i : ℕ). get_or bytes i 0)
    same)

-- an accepted resize gives at most the limit
resize_low : (birth : Birth) (h : List Entry) (pages most : ℕ) (limit : Option ℕ) → accepts (resize_reply
    birth h pages limit) ≡ true → pages ≤ most_of most limit
resize_low birth h pages most None accepted = absurd (false≢true accepted)
resize_low birth h pages most (Some limit) accepted =
    let passed : nat_lt limit pages ≡ false = (past_where accepts past_accepts (nat_lt limit pages) _ _
    accepted).0 in
    let low : pages ≤ limit = grind (arith, nat_tests) in le_trans low (max_right most limit)
  where
    max_right : (a b : ℕ) → b ≤ max a b
    max_right a b = omega arith

size_step : (call : Call) (r : Reply) (n most : ℕ) → (accepts r ≡ true → resized call r n ≤ most) →
    (accepts r ≡ false → resized call r n ≤ most) → resized call r n ≤ most
size_step call r n most yea nay = elim (accepts r) as (λ b. accepts r ≡ b → resized call r n ≤ most) [
  | true
      ↦ yea
  | false ↦ nay
] refl

size_next : (birth : Birth) (e : Entry) (before : List Entry) → Legal birth (e ∷ before) → (call : Call) (r
    : Reply) → e.call ≡ call → e.reply ≡ r → size birth before ≤ most_pages birth →
    resized call r (size birth before) ≤ most_pages birth
size_next birth e before legal (Resize pages) r is said was = size_step (Resize pages) r (size birth
    before) (most_pages birth)
    (λ accepted. rw accepted (resize_low birth before pages birth.pages birth.limit
    (subst (λ (q : Reply). accepts q ≡ true) (sym said ∙ (legal.2 ∙ ap (reply birth before e.who e.epoch)
    is)) accepted)))
    (λ refused. rw refused was)
size_next birth e before legal call r is said was = was

-- an object never has more pages than its limit, or than those of its birth
pub size_most : (birth : Birth) (h : List Entry) → Legal birth h → size birth h ≤ most_pages birth
size_most birth [] legal = first birth.pages birth.limit
  where
    first : (pages : ℕ) (limit : Option ℕ) → pages ≤ most_of pages limit
    first pages None = le_refl pages
    first pages (Some limit) = omega arith
size_most birth (e ∷ before) legal = size_next birth e before legal e.call e.reply refl refl (size_most
    birth before legal.0)

-- a begin of pages that are all within the object is accepted, and has a number exactly where the object is
-- numbered
pub begin_accepts : (birth : Birth) (h : List Entry) (who epoch : ℕ) (range : Span) (only : Bool) →
    range.first + range.count ≤ size birth h →
    reply birth h who epoch (Begin range only) ≡ begin_reply birth h
begin_accepts birth h who epoch range only low = let fits : range_fits birth h range ≡ true = grind (
  arith,
  nat_tests,
) in rw fits refl

numbered_good : (numbered : Bool) (n : ℕ) → accepts (cond numbered (answer.Began n) answer.Done) ≡ true
numbered_good true n = refl
numbered_good false n = refl

numbered_numbers : (numbered : Bool) (n : ℕ) → same_flag numbered (is_some (given_number (cond numbered
    (answer.Began n) answer.Done))) ≡ true
numbered_numbers true n = refl
numbered_numbers false n = refl

pub begin_good : (birth : Birth) (h : List Entry) → accepts (begin_reply birth h) ≡ true
begin_good birth h = numbered_good birth.numbered (next_number h)

pub begin_numbers : (birth : Birth) (h : List Entry) → same_flag birth.numbered (is_some (given_number
    (begin_reply birth h))) ≡ true
begin_numbers birth h = numbered_numbers birth.numbered (next_number h)

-- a range of unclean pages lies within the object
pub unclean_within : (birth : Birth) (h : List Entry) → Legal birth h → (range : Span) → 0 < range.count →
    ((p : ℕ) → covers range p ≡ true → unclean birth h p ≡ true) →
    range.first + range.count ≤ size birth h
unclean_within birth h legal range some all =
    let last : covers range (range.first + range.count - 1) ≡ true = last_covered range some in
    let low : range.first + range.count - 1 < size birth h = pages_within birth h legal (range.first +
    range.count - 1) (and_left (there birth h _) _ (all (range.first + range.count - 1) last)) in
    omega arith
  where
    last_covered : (range : Span) → 0 < range.count → covers range (range.first + range.count - 1) ≡ true
    last_covered range some = grind (arith, nat_tests)

-- faults told and faults that were
rose_more : (bad before now later : ℕ) → RoseBy bad before now → Rose now later → RoseBy (suc bad) before
    later
rose_more bad before now later was more = omega arith

rose_kept : (bad before now later : ℕ) → RoseBy bad before now → now ≤ later → RoseBy bad before later
rose_kept bad before now later was kept = le_trans was kept

pub rose_by : (e : Entry) (h : List Entry) (before now later : ℕ) → RoseBy (bad_facts h) before now →
    RoseFor e.call now later → RoseBy (bad_facts (e ∷ h)) before later
rose_by e h before now later was more =
    elim (is_bad e.call) as (λ b. cond b (Rose now later) (now ≤ later) → RoseBy (cond b (suc (bad_facts
    h)) (bad_facts h)) before later) [
      | true ↦ λ rose. rose_more (bad_facts h) before now later was rose
      | false ↦ λ kept. rose_kept (bad_facts h) before now later was kept
    ] more

-- the slice of one page
pub slice_part : (bytes : List ℕ) (done : ℕ) → take (done * 4096 + 4096 - done * 4096) (drop (done * 4096)
    bytes) ≡ part_of bytes done
slice_part bytes done =
    let size : done * 4096 + 4096 - done * 4096 ≡ 4096 = omega arith in
    let from : done * 4096 ≡ 4096 * done = omega arith in
    ap (λ (n : ℕ). take n (drop (done * 4096) bytes)) size ∙ ap (λ (n : ℕ). take 4096 (drop n bytes)) from

-- what is told of a call on the disk
pub rose_told : (fact : Fact) (ok : Bool) (before now : ℕ) → RoseIf ok before now → RoseFor (Tell (tell_of
    fact ok)) before now
rose_told (Fetching page) true before now rose = rose
rose_told (Fetching page) false before now rose = rose
rose_told (Storing page) true before now rose = rose
rose_told (Storing page) false before now rose = rose
rose_told Flushing true before now rose = rose
rose_told Flushing false before now rose = rose

pub rose_first : (n : ℕ) → RoseBy 0 n n
rose_first n = omega arith

-- a page as a piece
pub page_starts : (x p : ℕ) → x ≡ p * 4096 → page_of x ≡ p
page_starts x p is = omega arith

pub page_within : (x p : ℕ) → x ≡ p * 4096 → within_page x 4096 ≡ true
page_within x p is = let low : x % 4096 + 4096 ≤ 4096 = omega arith in grind (arith, nat_tests)

-- bytes of two stretches one behind the other
pub bytes_join : (birth : Birth) (h : List Entry) (x n m : ℕ) → bytes_from birth h x (n + m) ≡ bytes_from
    birth h x n ++ bytes_from birth h (x + n) m
bytes_join birth h x zero m =
    let none : 0 + m ≡ m = omega arith in
    let same : x ≡ x + 0 = omega arith in
    ap (λ (n : ℕ). bytes_from birth h x n) none ∙ ap (λ (y : ℕ). bytes_from birth h y m) same
bytes_join birth h x (suc n) m =
    let more : suc n + m ≡ suc (n + m) = omega arith in
    let same : x + 1 + n ≡ x + suc n = omega arith in
    ap (λ (k : ℕ). bytes_from birth h x k) more
    ∙ ap (λ (l : List ℕ). byte_or_zero (value birth h x) ∷ l) (bytes_join birth h (x + 1) n m ∙ ap (λ (y :
    ℕ). bytes_from birth h (x + 1) n ++ bytes_from birth h y m) same)

-- one page more of a copy
pub copy_more : (birth : Birth) (h : List Entry) (first done page : ℕ) (old new : List ℕ) → page ≡ first +
    done →
    old ≡ bytes_from birth h (4096 * first) (4096 * done) → new ≡ old ++ bytes_from birth h (4096 * page)
    4096 →
    new ≡ bytes_from birth h (4096 * first) (4096 * (done + 1))
copy_more birth h first done page old new at was more =
    let from : 4096 * page ≡ 4096 * first + 4096 * done = omega arith in
    let size : 4096 * done + 4096 ≡ 4096 * (done + 1) = omega arith in
    more ∙ (ap (λ (l : List ℕ). l ++ bytes_from birth h (4096 * page) 4096) was
    ∙ (ap (λ (y : ℕ). bytes_from birth h (4096 * first) (4096 * done) ++ bytes_from birth h y 4096) from
    ∙ (sym (bytes_join birth h (4096 * first) (4096 * done) 4096) ∙ ap (λ (n : ℕ). bytes_from birth h (4096
    * first) n) size)))

pub bytes_long : (birth : Birth) (h : List Entry) (x n : ℕ) → length (bytes_from birth h x n) ≡ n
bytes_long birth h x zero = refl
bytes_long birth h x (suc n) = ap suc (bytes_long birth h (x + 1) n)

pub next_covered : (range : Span) (stored : ℕ) → stored < range.count → covers range (range.first + stored)
    ≡ true
next_covered range stored low = grind (arith, nat_tests)

-- a page's bytes behind those of others
pub page_added : (birth : Birth) (h : List Entry) (page off : ℕ) (old new more : List ℕ) → off ≡ page *
    4096 → more ≡ bytes_from birth h off 4096 → new ≡ old ++ more →
    new ≡ old ++ bytes_from birth h (4096 * page) 4096
page_added birth h page off old new more at are is =
    let from : page * 4096 ≡ 4096 * page = omega arith in
    is ∙ (ap (λ (l : List ℕ). old ++ l) are ∙ ap (λ (y : ℕ). old ++ bytes_from birth h y 4096) (at ∙ from))
