-- What every answer keeps of an actor.
use Rattle.std.proofs.Common.{◌≡◌, ℕ, ◌+◌, ◌<◌, ◌≤◌, ◌&&◌, not, Bool, true, false, cond, is_some, Option, Some, None, List, [], ◌∷◌, length, refl, sym, ap, ◌∙◌, subst, arith, slice_get}
use Rattle.std.specs.List.{filter}
use Rattle.std.proofs.lemmas.List.{length-map}
use Rattle.std.proofs.lemmas.Option.{slice_get_within}
use Rattle.std.proofs.lemmas.Bool.Decides.{nat_tests}
use Rattle.up_num.specs.Pieces.{pieces}
use Rattle.up_model.specs.declared.entry.Brought.{Brought}
use Rattle.up_model.specs.declared.entry.Brought.TheVariants.{Nothing}
use Rattle.up_model.specs.declared.entry.Reply.{Reply}
use Rattle.up_model.specs.declared.entry.Reply.TheVariants as replies
use Rattle.up_script.specs.Objects.{is_evictor}
use Rattle.up_script.specs.declared.script.Action.{Action}
use Rattle.up_script.specs.declared.script.Action.TheVariants as actions
use Rattle.up_claims.specs.declared.step.SiteReply.{SiteReply}
use Rattle.up_script.specs.declared.script.Kind.{Kind}
use Rattle.up_worker.specs.Acting.{Acting, Sound, under_way, hears, next_wish, next_acting, begun, first_wish, started, is_for_call, to_leave, has}
use Rattle.up_worker.specs.Calls.{calls_in, calls_of, is_access, fits_line, fits_limits, read_of, write_of, vacate_of, leave_of}
use Rattle.up_worker.specs.Placing.{place_after}
use Rattle.up_worker.specs.Viewing.{acting_of}
use Rattle.up_worker.specs.declared.wishing.Place.{Place}
use Rattle.up_worker.specs.Wishes.{wants_after, answers, settles, is_refused, makes, last_of, last_wish, begins_call, unsettled, wish_after}
use Rattle.up_worker.proofs.PieceAt.{pieces_few}
use Rattle.up_worker.specs.declared.course.Aim.{Aim}
use Rattle.up_worker.specs.declared.course.Doing.{Doing}
use Rattle.up_worker.specs.declared.course.Doing.TheVariants.{Idle, OneLine, Leaving}
use Rattle.up_worker.specs.declared.wish.Heard.{Heard}
use Rattle.up_worker.specs.declared.wish.Heard.TheVariants as heard
use Rattle.up_worker.specs.declared.wish.Wanted.{Wanted}
use Rattle.up_worker.specs.declared.wish.Wanted.TheVariants as wanted
use Rattle.up_worker.specs.declared.wish.Wish.{Wish}
use Rattle.up_worker.specs.declared.wish.Wish.TheVariants as wishes

-- a line has few calls
line_few : (objects : List ℕ) (action : Action) → length objects < 4294967296 → fits_line action ≡ true → length (calls_in objects action) ≤ 17179869184
line_few objects (actions.Read object off len) few fits =
    let some = pieces_few off len (grind (arith, nat_tests)) in
    let many = length-map (pieces off len) (read_of object off len) in
    omega arith
line_few objects (actions.Write object off bytes) few fits =
    let some = pieces_few off (length bytes) (grind (arith, nat_tests)) in
    let many = length-map (pieces off (length bytes)) (write_of object off bytes) in
    omega arith
line_few objects (actions.Act object call) few fits = omega arith
line_few objects actions.Recall few fits = let many = length-map objects vacate_of in omega arith
line_few objects _ few fits = omega arith

calls_few : (kind : Kind) (objects : List ℕ) (doing : Doing) → length objects < 4294967296 → fits_limits doing ≡ true → length (calls_of kind objects doing) ≤ 17179869184
calls_few kind objects Idle few fits = omega arith
calls_few kind objects (OneLine action) few fits = line_few objects action few fits
calls_few kind objects (Leaving left) few fits =
    let many = length-map left (leave_of kind) in
    let below : length left < 4294967296 = grind (arith, nat_tests) in
    omega arith

-- there is a place, so it is one of few
some_within : (aims : List Aim) (place : ℕ) (found : Option Aim) → slice_get aims place ≡ found → is_some found ≡ true → place < length aims
some_within aims place None is some = absurd cc
some_within aims place (Some aim) is some = slice_get_within aims place aim is

-- a wish for an answer to a call comes of a call
last_no_call : (action : Action) → is_for_call (wants_after (last_of action)) ≡ false
last_no_call actions.Age = refl
last_no_call actions.Watch = refl
last_no_call (actions.Relieve frames) = refl
last_no_call actions.Recall = refl
last_no_call actions.Lend = refl
last_no_call _ = refl

ends_no_call : (doing : Doing) → is_for_call (wants_after (last_wish doing)) ≡ false
ends_no_call Idle = refl
ends_no_call (OneLine action) = last_no_call action
ends_no_call (Leaving left) = refl

pub begins_for : (doing : Doing) (aim : Option Aim) → is_for_call (wants_after (begins_call doing aim)) ≡ true → is_some aim ≡ true
begins_for doing None waits = let none = ends_no_call doing in absurd cc
begins_for doing (Some aim) waits = refl

makes_for : (aim : Option Aim) (ticket : Option ℕ) (b : Brought) → is_for_call (wants_after (makes aim ticket b)) ≡ true → is_some aim ≡ true
makes_for None ticket b waits = absurd cc
makes_for (Some aim) ticket b waits = refl

unsettled_for : (aim : Option Aim) (reply : Reply) → is_for_call (wants_after (unsettled aim reply)) ≡ true → is_some aim ≡ true
unsettled_for None (replies.Needs count) waits = absurd cc
unsettled_for None _ waits = absurd cc
unsettled_for (Some aim) reply waits = refl

stops_for : (stops : Bool) (doing : Doing) (aim : Option Aim)
    → is_for_call (wants_after (cond stops wishes.LineEnd (begins_call doing aim))) ≡ true → is_some aim ≡ true
stops_for true doing aim waits = absurd cc
stops_for false doing aim waits = begins_for doing aim waits

reply_for : (done : Bool) (doing : Doing) (aim : Option Aim) (reply : Reply)
    → is_for_call (wants_after (cond done (cond (is_access doing && is_refused reply) wishes.LineEnd (begins_call doing aim)) (unsettled aim reply))) ≡ true
    → is_some aim ≡ true
reply_for true doing aim reply waits = stops_for (is_access doing && is_refused reply) doing aim waits
reply_for false doing aim reply waits = unsettled_for aim reply waits

done_for : (test : Bool) (aim : Option Aim) (ticket : Option ℕ)
    → is_for_call (wants_after (cond test (makes aim ticket Nothing) wishes.LineEnd)) ≡ true → is_some aim ≡ true
done_for true aim ticket waits = makes_for aim ticket Nothing waits
done_for false aim ticket waits = absurd cc

wish_for : (doing : Doing) (aim : Option Aim) (ticket : Option ℕ) (h : Heard) → is_for_call (wants_after (wish_after doing aim ticket h)) ≡ true → is_some aim ≡ true
wish_for doing aim ticket (heard.Replied reply) waits = reply_for (settles reply) doing aim reply waits
wish_for doing aim ticket (heard.Site reply) waits = begins_for doing aim waits
wish_for doing aim ticket (heard.Brought b) waits = makes_for aim ticket b waits
wish_for doing aim ticket heard.Done waits = done_for (is_some ticket) aim ticket waits

-- how many calls are settled
reply_for_call : (w : Wanted) (reply : Reply) → answers w (heard.Replied reply) ≡ true → is_for_call w ≡ true
reply_for_call wanted.Reply reply is = refl
reply_for_call _ reply is = absurd cc

site_for_call : (w : Wanted) (reply : SiteReply) → answers w (heard.Site reply) ≡ true → is_for_call w ≡ true
site_for_call wanted.Site reply is = refl
site_for_call _ reply is = absurd cc

place_few : (a : Acting) → Sound a → is_for_call a.wants ≡ true → a.settled < 17179869184
place_few a s waits =
    let many = calls_few a.kind a.objects a.doing s.few s.fits in
    let within = some_within (calls_of a.kind a.objects a.doing) a.settled (under_way a) refl (s.under_way waits) in
    omega arith

one_more : (test : Bool) (n : ℕ) → n < 17179869184 → cond test (n + 1) n ≤ 17179869184
one_more true n few = omega arith
one_more false n few = omega arith

count_kept : (a : Acting) (h : Heard) → Sound a → answers a.wants h ≡ true → (hears a h).settled ≤ 17179869184
count_kept a (heard.Replied reply) s is = one_more (settles reply) a.settled (place_few a s (reply_for_call a.wants reply is))
count_kept a (heard.Site reply) s is = let few = place_few a s (site_for_call a.wants reply is) in omega arith
count_kept a (heard.Brought b) s is = s.count
count_kept a heard.Done s is = s.count

pub keeps_sound : (a : Acting) (h : Heard) → Sound a → answers a.wants h ≡ true → Sound (next_acting a h)
keeps_sound a h s is = record {
  few = by_few h;
  fits = by_fits h;
  count = by_count h is;
  under_way = by_way h;
}
  where
    by_few : (h : Heard) → length (next_acting a h).objects < 4294967296
    by_few (heard.Replied reply) = s.few
    by_few (heard.Site reply) = s.few
    by_few (heard.Brought b) = s.few
    by_few heard.Done = s.few

    by_fits : (h : Heard) → fits_limits (next_acting a h).doing ≡ true
    by_fits (heard.Replied reply) = s.fits
    by_fits (heard.Site reply) = s.fits
    by_fits (heard.Brought b) = s.fits
    by_fits heard.Done = s.fits

    by_count : (h : Heard) → answers a.wants h ≡ true → (next_acting a h).settled ≤ 17179869184
    by_count (heard.Replied reply) is = count_kept a (heard.Replied reply) s is
    by_count (heard.Site reply) is = count_kept a (heard.Site reply) s is
    by_count (heard.Brought b) is = s.count
    by_count heard.Done is = s.count

    by_way : (h : Heard) → is_for_call (next_acting a h).wants ≡ true → is_some (under_way (next_acting a h)) ≡ true
    by_way (heard.Replied reply) waits = wish_for a.doing (under_way (hears a (heard.Replied reply))) (hears a (heard.Replied reply)).ticket (heard.Replied reply) waits
    by_way (heard.Site reply) waits = wish_for a.doing (under_way (hears a (heard.Site reply))) None (heard.Site reply) waits
    by_way (heard.Brought b) waits = wish_for a.doing (under_way a) a.ticket (heard.Brought b) waits
    by_way heard.Done waits = wish_for a.doing (under_way a) a.ticket heard.Done waits

pub starts_sound : (a : Acting) (doing : Doing) → Sound a → fits_limits doing ≡ true → Sound (started a doing)
starts_sound a doing s fits = record {
  few = s.few;
  fits = fits;
  count = omega arith;
  under_way = λ waits. begins_for doing (under_way (begun a doing)) waits;
}

-- the answers of the actor's calls
pub sound_started : (a : Acting) (doing : Doing) (new : Acting) → Sound a → fits_limits doing ≡ true → new ≡ started a doing → Sound new
sound_started a doing new s fits is = subst Sound (sym is) (starts_sound a doing s fits)

pub wants_started : (a : Acting) (doing : Doing) (wish : Wish) (w : Wanted) → w ≡ wants_after wish → wish ≡ first_wish a doing
    → record (begun a doing) { wants = w } ≡ started a doing
wants_started a doing wish w is by = ap (λ x. record (begun a doing) { wants = x }) (is ∙ ap wants_after by)

pub end_wish : (a b : Acting) (left : List ℕ) (wish : Wish) → a ≡ b → left ≡ to_leave a → wish ≡ first_wish a (Leaving left)
    → wish ≡ first_wish b (Leaving (to_leave b))
end_wish a b left wish same is by =
    subst (λ x. wish ≡ first_wish x (Leaving (to_leave x))) same (subst (λ l. wish ≡ first_wish a (Leaving l)) is by)

pub end_started : (a b new : Acting) (left : List ℕ) → a ≡ b → left ≡ to_leave a → new ≡ started a (Leaving left)
    → new ≡ started b (Leaving (to_leave b))
end_started a b new left same is by =
    subst (λ x. new ≡ started x (Leaving (to_leave x))) same (subst (λ l. new ≡ started a (Leaving l)) is by)

few_by_test : (test : Bool) (x : ℕ) (kept xs : List ℕ) → length kept ≤ length xs → length (cond test (x ∷ kept) kept) ≤ length (x ∷ xs)
few_by_test true x kept xs few = omega arith
few_by_test false x kept xs few = omega arith

few_kept : (test : ℕ → Bool) (xs : List ℕ) → length (filter test xs) ≤ length xs
few_kept test [] = omega arith
few_kept test (x ∷ xs) = few_by_test (test x) x (filter test xs) xs (few_kept test xs)

few_at_end : (none : Bool) (left objects : List ℕ) → length objects < 4294967296
    → length (cond none [] (filter (λ object. not (has left object)) objects)) < 4294967296
few_at_end true left objects few = omega arith
few_at_end false left objects few = let kept = few_kept (λ object. not (has left object)) objects in omega arith

pub fits_at_end : (a : Acting) (left : List ℕ) → Sound a → left ≡ to_leave a → fits_limits (Leaving left) ≡ true
fits_at_end a left s is =
    let few = few_at_end (is_evictor a.kind) a.left a.objects s.few in
    let below : length left < 4294967296 = subst (λ l. length l < 4294967296) (sym is) few in
    grind (arith, nat_tests)

wish_at : (who : ℕ) (kind : Kind) (objects left : List ℕ) (doing : Doing) (before : Place) (wants : Wanted) (h : Heard) (wish : Wish)
    → wish ≡ wish_after doing (slice_get (calls_of kind objects doing) (place_after before h).settled) (place_after before h).ticket h
    → wish ≡ next_wish (acting_of who kind objects left doing before wants) h
wish_at who kind objects left doing before wants (heard.Replied reply) wish is = is
wish_at who kind objects left doing before wants (heard.Site reply) wish is = is
wish_at who kind objects left doing before wants (heard.Brought b) wish is = is
wish_at who kind objects left doing before wants heard.Done wish is = is

pub wish_is : (who : ℕ) (kind : Kind) (objects left : List ℕ) (doing : Doing) (before at : Place) (wants : Wanted) (h : Heard) (wish : Wish)
    → at ≡ place_after before h → wish ≡ wish_after doing (slice_get (calls_of kind objects doing) at.settled) at.ticket h
    → wish ≡ next_wish (acting_of who kind objects left doing before wants) h
wish_is who kind objects left doing before at wants h wish is by =
    wish_at who kind objects left doing before wants h wish
    (subst (λ (p : Place). wish ≡ wish_after doing (slice_get (calls_of kind objects doing) p.settled) p.ticket h) is by)

next_at : (who : ℕ) (kind : Kind) (objects left : List ℕ) (doing : Doing) (before : Place) (wants w : Wanted) (h : Heard)
    → w ≡ wants_after (next_wish (acting_of who kind objects left doing before wants) h)
    → acting_of who kind objects left doing (place_after before h) w ≡ next_acting (acting_of who kind objects left doing before wants) h
next_at who kind objects left doing before wants w (heard.Replied reply) is = ap (λ x. acting_of who kind objects left doing (place_after before (heard.Replied reply)) x) is
next_at who kind objects left doing before wants w (heard.Site reply) is = ap (λ x. acting_of who kind objects left doing (place_after before (heard.Site reply)) x) is
next_at who kind objects left doing before wants w (heard.Brought b) is = ap (λ x. acting_of who kind objects left doing (place_after before (heard.Brought b)) x) is
next_at who kind objects left doing before wants w heard.Done is = ap (λ x. acting_of who kind objects left doing (place_after before heard.Done) x) is

pub next_is : (who : ℕ) (kind : Kind) (objects left : List ℕ) (doing : Doing) (before at : Place) (wants w : Wanted) (h : Heard) (wish : Wish)
    → at ≡ place_after before h → wish ≡ wish_after doing (slice_get (calls_of kind objects doing) at.settled) at.ticket h → w ≡ wants_after wish
    → acting_of who kind objects left doing at w ≡ next_acting (acting_of who kind objects left doing before wants) h
next_is who kind objects left doing before at wants w h wish is by wanted =
    ap (λ p. acting_of who kind objects left doing p w) is
    ∙ next_at who kind objects left doing before wants w h (wanted ∙ ap wants_after (wish_is who kind objects left doing before at wants h wish is by))
