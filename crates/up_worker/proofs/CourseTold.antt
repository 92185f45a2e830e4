-- A course is told by its entries: what its events keep, one after the other.
use Rattle.std.proofs.Common.{◌≡◌, ℕ, suc, ◌+◌, ◌==◌, ◌&&◌, ◌||◌, ◌++◌, not, Bool, true, false, cond, is_some, Option, Some, None, List, [], ◌∷◌, length, refl, sym, ap, ◌∙◌, subst, arith, inl, inr, slice_get}
use Rattle.std.proofs.lemmas.Bool.Decides.{nat_tests}
use Rattle.up_model.specs.Attempts.{blocks}
use Rattle.up_model.specs.declared.entry.Brought.TheVariants.{Nothing}
use Rattle.up_model.specs.declared.entry.Call.{Call}
use Rattle.up_model.specs.declared.entry.Call.TheVariants as calls
use Rattle.up_model.specs.declared.entry.Reply.{Reply}
use Rattle.up_model.specs.declared.entry.Reply.TheVariants as replies
use Rattle.up_claims.specs.declared.step.SiteReply.TheVariants as sites
use Rattle.up_script.specs.declared.script.Kind.{Kind}
use Rattle.up_worker.specs.Acting.{Acting, unborn, left_after, first_wish, started, next_wish, next_acting}
use Rattle.up_worker.specs.Calls.{calls_of, borrows, is_access}
use Rattle.up_worker.specs.Wishes.{wants_after, settles, is_refused, ticket_after, makes, begins_call, parks, unsettled}
use Rattle.up_worker.specs.Courses.{is_evict, gives_pages, Entered, Event, Begins, Hears, leads, tale, lines, IsCourse, Carries, MakesOne, ResizesOne, OwnEvicts, GathersSome, LendsSome, is_told, is_waiting, is_retry, attempted, attempt_at, aim_in, is_aid, Main, mains, any_refused, Follows, IsWhole, GivenBy, IsTold}
use Rattle.up_worker.proofs.StandingWishes.{good, access_keeps, Made, Free, Says, says_begins, says_makes, says_unsettled, says_done, says_goes_on, IsFor, is_for}
use Rattle.up_worker.specs.declared.course.Aim.{Aim}
use Rattle.up_worker.specs.declared.course.Doing.{Doing}
use Rattle.up_worker.specs.declared.course.Doing.TheVariants.{Idle}
use Rattle.up_worker.specs.declared.wish.Heard.{Heard}
use Rattle.up_worker.specs.declared.wish.Heard.TheVariants as heard
use Rattle.up_worker.specs.declared.wish.Wanted.{Wanted}
use Rattle.up_worker.specs.declared.wish.Wanted.TheVariants as wanted
use Rattle.up_worker.specs.declared.wish.Wish.{Wish}
use Rattle.up_worker.specs.declared.wish.Wish.TheVariants as wishes

abbrev pub acting_at : ℕ → Kind → List ℕ → List ℕ → Doing → ℕ → Option ℕ → Wanted → Acting
acting_at who kind objects left doing settled ticket wants =
    record { who = who; kind = kind; objects = objects; left = left; doing = doing; settled = settled; ticket = ticket; wants = wants }

-- The entries so far: those of the line that is done now, which are as many as calls of it are settled, and those of the lines before.
pub record State (who : ℕ) (kind : Kind) (objects : List ℕ) (a : Acting) (said : Wish) (all : List Doing) (t : List Entered) : Type 0 where
  pub left : List ℕ
  pub doing : Doing
  pub ticket : Option ℕ
  pub wants : Wanted
  pub now : List Main
  pub old : List Main
  pub earlier : List Doing
  pub is : a ≡ acting_at who kind objects left doing (length now) ticket wants
  pub lines_are : all ≡ doing ∷ earlier
  pub mains_are : mains t ≡ now ++ old
  pub told : is_told doing ≡ true
  pub follows : Follows (calls_of kind objects doing) (is_access doing) now
  pub given : GivenBy kind objects earlier old
  pub held : (aim : Aim) (tk : ℕ) → slice_get (calls_of kind objects doing) (length now) ≡ Some aim → ticket ≡ Some tk → attempt_at t aim.object tk ≡ Some aim
  pub says : Says doing (slice_get (calls_of kind objects doing) (length now)) ticket now said

pub state_start : (who : ℕ) (kind : Kind) (objects : List ℕ) → State who kind objects (unborn who kind objects) wishes.LineEnd (Idle ∷ []) []
state_start who kind objects = record {
  left = [];
  doing = Idle;
  ticket = None;
  wants = wanted.Nothing;
  now = [];
  old = [];
  earlier = [];
  is = refl;
  lines_are = refl;
  mains_are = refl;
  told = refl;
  follows = tt;
  given = refl;
  held = λ aim tk way no. absurd cc;
  says = inl refl;
}

whole_of : (kind : Kind) (objects : List ℕ) (doing : Doing) (ticket : Option ℕ) (now : List Main) (said : Wish) → said ≡ wishes.LineEnd
    → Says doing (slice_get (calls_of kind objects doing) (length now)) ticket now said → IsWhole (calls_of kind objects doing) (is_access doing) now
whole_of kind objects doing ticket now said is says = subst (λ w. Says doing (slice_get (calls_of kind objects doing) (length now)) ticket now w) is says

given_all : (who : ℕ) (kind : Kind) (objects : List ℕ) (a : Acting) (said : Wish) (all : List Doing) (t : List Entered) → State who kind objects a said all t
    → said ≡ wishes.LineEnd → GivenBy kind objects all (mains t)
given_all who kind objects a said all t s is =
    subst (λ ls. GivenBy kind objects ls (mains t)) (sym s.lines_are)
    (s.now, s.old, s.mains_are, s.follows, whole_of kind objects s.doing s.ticket s.now said is s.says, s.given)

-- a line is begun
pub state_begins : (who : ℕ) (kind : Kind) (objects : List ℕ) (a : Acting) (said : Wish) (all : List Doing) (t : List Entered) (doing : Doing)
    → State who kind objects a said all t → said ≡ wishes.LineEnd → is_told doing ≡ true
    → State who kind objects (started a doing) (first_wish a doing) (doing ∷ all) t
state_begins who kind objects a said all t doing s is told =
    subst (λ x. State who kind objects (started x doing) (first_wish x doing) (doing ∷ all) t) (sym s.is)
    (record {
      left = left_after s.left doing;
      doing = doing;
      ticket = None;
      wants = wants_after (first_wish (acting_at who kind objects s.left s.doing (length s.now) s.ticket s.wants) doing);
      now = [];
      old = mains t;
      earlier = all;
      is = refl;
      lines_are = refl;
      mains_are = refl;
      told = told;
      follows = tt;
      given = given_all who kind objects a said all t s is;
      held = λ aim tk way no. absurd cc;
      says = says_begins doing (slice_get (calls_of kind objects doing) 0) [] (λ access. refl);
    })

-- evicts settle nothing and park nothing
evicts_settle_none : (who : ℕ) (made t : List Entered) → OwnEvicts who made → mains (made ++ t) ≡ mains t
evicts_settle_none who [] t own = refl
evicts_settle_none who (x ∷ made) t own = let evict = own.1 in rw evict (evicts_settle_none who made t own.3)

pages_block_none : (reply : Reply) (tk : ℕ) → gives_pages reply ≡ true → blocks reply tk ≡ false
pages_block_none (replies.Blocked ticket) tk is = absurd cc
pages_block_none _ tk is = refl

and_none : (b c : Bool) → c ≡ false → (b && c) ≡ false
and_none true c is = is
and_none false c is = refl

evicts_park_none : (who : ℕ) (made t : List Entered) (object tk : ℕ) → OwnEvicts who made → attempt_at (made ++ t) object tk ≡ attempt_at t object tk
evicts_park_none who [] t object tk own = refl
evicts_park_none who (x ∷ made) t object tk own =
    let none = and_none (x.object == object) (blocks x.entry.reply tk) (pages_block_none x.entry.reply tk own.2) in
    rw none (evicts_park_none who made t object tk own.3)

-- nothing is settled: evicts, or nothing, and another wish
state_same : (who : ℕ) (kind : Kind) (objects left : List ℕ) (doing : Doing) (ticket : Option ℕ) (wants : Wanted) (now old : List Main) (earlier : List Doing)
    (all : List Doing) (made t : List Entered) (said : Wish) → OwnEvicts who made → all ≡ doing ∷ earlier → mains t ≡ now ++ old → is_told doing ≡ true
    → Follows (calls_of kind objects doing) (is_access doing) now → GivenBy kind objects earlier old
    → ((aim : Aim) (tk : ℕ) → slice_get (calls_of kind objects doing) (length now) ≡ Some aim → ticket ≡ Some tk → attempt_at t aim.object tk ≡ Some aim)
    → Says doing (slice_get (calls_of kind objects doing) (length now)) ticket now said
    → State who kind objects (acting_at who kind objects left doing (length now) ticket wants) said all (made ++ t)
state_same who kind objects left doing ticket wants now old earlier all made t said own lines_are mains_are told follows given held says = record {
  left = left;
  doing = doing;
  ticket = ticket;
  wants = wants;
  now = now;
  old = old;
  earlier = earlier;
  is = refl;
  lines_are = lines_are;
  mains_are = evicts_settle_none who made t own ∙ mains_are;
  told = told;
  follows = follows;
  given = given;
  held = λ aim tk way is. evicts_park_none who made t aim.object tk own ∙ held aim tk way is;
  says = says;
}

-- the call is settled
pub or_none : (b c : Bool) → b ≡ false → c ≡ false → (b || c) ≡ false
or_none true c is other = absurd cc
or_none false c is other = other

pub or_some : (b c : Bool) → c ≡ true → (b || c) ≡ true
or_some true c is = refl
or_some false c is = is

not_settled : (reply : Reply) → settles reply ≡ false → not (settles reply) ≡ true
not_settled reply is = rw is refl

settled_not : (reply : Reply) → settles reply ≡ true → not (settles reply) ≡ false
settled_not reply is = rw is refl

pub no_ticket : (reply : Reply) (before : Option ℕ) → settles reply ≡ true → ticket_after reply before ≡ None
no_ticket (replies.Needs m) before is = absurd cc
no_ticket (replies.Blocked t) before is = absurd cc
no_ticket replies.Waiting before is = absurd cc
no_ticket _ before is = refl

free_more : (doing : Doing) (m : Main) (now : List Main) → (is_access doing ≡ true → m.refused ≡ false) → Free doing now → Free doing (m ∷ now)
free_more doing m now fine free access = or_none m.refused (any_refused now) (fine access) (free access)

pub both_left : (b c : Bool) → (b && c) ≡ true → b ≡ true
both_left true c is = refl
both_left false c is = absurd cc

pub both_right : (b c : Bool) → (b && c) ≡ true → c ≡ true
both_right true c is = is
both_right false c is = absurd cc

pub one_fails : (b c : Bool) → b ≡ true → (b && c) ≡ false → c ≡ false
one_fails true c access is = is
one_fails false c access is = absurd cc

-- what follows on a settled call: the next one, or the end of an access
says_settled : (stops : Bool) (doing : Doing) (aim : Option Aim) (reply : Reply) (m : Main) (now : List Main) → m.refused ≡ is_refused reply
    → (is_access doing && is_refused reply) ≡ stops → Free doing now
    → Says doing aim None (m ∷ now) (cond stops wishes.LineEnd (begins_call doing aim))
says_settled true doing aim reply m now refused is free = inr (both_left (is_access doing) (is_refused reply) is, refused ∙ both_right (is_access doing) (is_refused reply) is)
says_settled false doing aim reply m now refused is free =
    says_begins doing aim (m ∷ now) (free_more doing m now (λ access. refused ∙ one_fails (is_access doing) (is_refused reply) access is) free)

state_settled : (who : ℕ) (kind : Kind) (objects left : List ℕ) (doing : Doing) (ticket : Option ℕ) (wants : Wanted) (now old : List Main) (earlier : List Doing)
    (all : List Doing) (x : Entered) (t : List Entered) (said : Wish) (one : Aim)
    → is_aid x.entry ≡ false → aim_in t x ≡ Some one → slice_get (calls_of kind objects doing) (length now) ≡ Some one
    → all ≡ doing ∷ earlier → mains t ≡ now ++ old → is_told doing ≡ true
    → Follows (calls_of kind objects doing) (is_access doing) now → GivenBy kind objects earlier old → Free doing now
    → Says doing (slice_get (calls_of kind objects doing) (length now + 1)) None (record { aim = aim_in t x; refused = is_refused x.entry.reply } ∷ now) said
    → State who kind objects (acting_at who kind objects left doing (length now + 1) None wants) said all (x ∷ t)
state_settled who kind objects left doing ticket wants now old earlier all x t said one aid aim way lines_are mains_are told follows given free says =
    let m : Main = record { aim = aim_in t x; refused = is_refused x.entry.reply } in
    let more : length now + 1 ≡ suc (length now) = omega arith in
    record {
      left = left;
      doing = doing;
      ticket = None;
      wants = wants;
      now = m ∷ now;
      old = old;
      earlier = earlier;
      is = ap (λ n. acting_at who kind objects left doing n None wants) more;
      lines_are = lines_are;
      mains_are = (let none = aid in rw none (ap (λ ms. m ∷ ms) mains_are));
      told = told;
      follows = (follows, ap is_some aim, way ∙ sym aim, free);
      given = given;
      held = λ aim tk way no. absurd cc;
      says = subst (λ n. Says doing (slice_get (calls_of kind objects doing) n) None (m ∷ now) said) more says;
    }

-- the call isn't settled
held_more : (object tk : ℕ) (x : Entered) (t : List Entered) (one aim : Aim) (ticket : Option ℕ) (reply : Reply) → x.entry.reply ≡ reply → settles reply ≡ false
    → x.object ≡ one.object → aim_in t x ≡ Some one → one ≡ aim
    → (ticket ≡ Some tk → attempt_at t aim.object tk ≡ Some aim) → ticket_after reply ticket ≡ Some tk → attempt_at (x ∷ t) aim.object tk ≡ Some aim
held_more object tk x t one aim ticket (replies.Needs m) is unmet on for same held now =
    let none = and_none (x.object == aim.object) (blocks x.entry.reply tk) (rw is refl) in rw none (held now)
held_more object tk x t one aim ticket replies.Waiting is unmet on for same held now =
    let none = and_none (x.object == aim.object) (blocks x.entry.reply tk) (rw is refl) in rw none (held now)
held_more object tk x t one aim ticket (replies.Blocked u) is unmet on for same held now =
    let ticketed : u ≡ tk = cc in
    let here : (x.object == aim.object) ≡ true = (let e : x.object ≡ aim.object = on ∙ ap (λ (y : Aim). y.object) same in grind (arith, nat_tests)) in
    let there : blocks x.entry.reply tk ≡ true = rw is (grind (arith, nat_tests)) in
    rw (here, there) (for ∙ ap Some same)
held_more object tk x t one aim ticket _ is unmet on for same held now = absurd cc

no_park : (test : Bool) (object m : ℕ) → wishes.Park object ≡ cond test wishes.Loan (wishes.Gather m) → ⊥
no_park true object m same = cc
no_park false object m same = cc

parks_held : (one : Aim) (ticket : Option ℕ) (reply : Reply) → settles reply ≡ false → (is_waiting reply ≡ true → is_some ticket ≡ true)
    → parks (Some one) ≡ unsettled (Some one) reply → is_some (ticket_after reply ticket) ≡ true
parks_held one ticket (replies.Needs m) unmet waits same = absurd (no_park (borrows one.call) one.object m same)
parks_held one ticket replies.Waiting unmet waits same = waits refl
parks_held one ticket (replies.Blocked u) unmet waits same = refl
parks_held one ticket _ unmet waits same = absurd cc

state_unsettled : (who : ℕ) (kind : Kind) (objects left : List ℕ) (doing : Doing) (ticket : Option ℕ) (wants : Wanted) (now old : List Main) (earlier : List Doing)
    (all : List Doing) (x : Entered) (t : List Entered) (said : Wish) (one : Aim)
    → settles x.entry.reply ≡ false → aim_in t x ≡ Some one → x.object ≡ one.object → slice_get (calls_of kind objects doing) (length now) ≡ Some one
    → (is_waiting x.entry.reply ≡ true → is_some ticket ≡ true)
    → all ≡ doing ∷ earlier → mains t ≡ now ++ old → is_told doing ≡ true
    → Follows (calls_of kind objects doing) (is_access doing) now → GivenBy kind objects earlier old → Free doing now
    → ((aim : Aim) (tk : ℕ) → slice_get (calls_of kind objects doing) (length now) ≡ Some aim → ticket ≡ Some tk → attempt_at t aim.object tk ≡ Some aim)
    → said ≡ unsettled (slice_get (calls_of kind objects doing) (length now)) x.entry.reply
    → State who kind objects (acting_at who kind objects left doing (length now) (ticket_after x.entry.reply ticket) wants) said all (x ∷ t)
state_unsettled who kind objects left doing ticket wants now old earlier all x t said one unmet aim on way waits lines_are mains_are told follows given free held is =
    record {
      left = left;
      doing = doing;
      ticket = ticket_after x.entry.reply ticket;
      wants = wants;
      now = now;
      old = old;
      earlier = earlier;
      is = refl;
      lines_are = lines_are;
      mains_are = (let skipped = or_some (is_evict x.entry.call) (not (settles x.entry.reply)) (not_settled x.entry.reply unmet) in rw skipped mains_are);
      told = told;
      follows = follows;
      given = given;
      held = λ other tk there ticketed.
          (let same : one ≡ other = (let e : Some one ≡ Some other = sym way ∙ there in cc) in
          held_more x.object tk x t one other ticket x.entry.reply refl unmet on aim same (held other tk there) ticketed);
      says = subst (λ w. Says doing (slice_get (calls_of kind objects doing) (length now)) (ticket_after x.entry.reply ticket) now w) (sym is)
          (subst (λ found. Says doing found (ticket_after x.entry.reply ticket) now (unsettled found x.entry.reply)) (sym way)
          (says_unsettled doing one (ticket_after x.entry.reply ticket) x.entry.reply now free (parks_held one ticket x.entry.reply unmet waits)));
    }

-- the answer to a call
reply_step : (done : Bool) (who : ℕ) (kind : Kind) (objects left : List ℕ) (doing : Doing) (ticket : Option ℕ) (w : Wanted) (now old : List Main) (earlier : List Doing)
    (all : List Doing) (x : Entered) (t : List Entered) (one : Aim) → settles x.entry.reply ≡ done
    → IsFor (attempt_at t) one ticket x.object x.entry.call → x.object ≡ one.object → slice_get (calls_of kind objects doing) (length now) ≡ Some one
    → (is_waiting x.entry.reply ≡ true → is_some ticket ≡ true)
    → all ≡ doing ∷ earlier → mains t ≡ now ++ old → is_told doing ≡ true
    → Follows (calls_of kind objects doing) (is_access doing) now → GivenBy kind objects earlier old → Free doing now
    → ((aim : Aim) (tk : ℕ) → slice_get (calls_of kind objects doing) (length now) ≡ Some aim → ticket ≡ Some tk → attempt_at t aim.object tk ≡ Some aim)
    → State who kind objects (acting_at who kind objects left doing (cond done (length now + 1) (length now)) (ticket_after x.entry.reply ticket) w)
    (cond done (cond (is_access doing && is_refused x.entry.reply) wishes.LineEnd (begins_call doing (slice_get (calls_of kind objects doing) (cond done (length now + 1) (length now)))))
    (unsettled (slice_get (calls_of kind objects doing) (cond done (length now + 1) (length now))) x.entry.reply))
    all (x ∷ t)
reply_step true who kind objects left doing ticket w now old earlier all x t one settled for on way waits lines_are mains_are told follows given free held =
    subst (λ tk. State who kind objects (acting_at who kind objects left doing (length now + 1) tk w)
    (cond (is_access doing && is_refused x.entry.reply) wishes.LineEnd (begins_call doing (slice_get (calls_of kind objects doing) (length now + 1)))) all (x ∷ t))
    (sym (no_ticket x.entry.reply ticket settled))
    (state_settled who kind objects left doing ticket w now old earlier all x t _ one
    (or_none (is_evict x.entry.call) (not (settles x.entry.reply)) for.evict (settled_not x.entry.reply settled))
    for.aim way lines_are mains_are told follows given free
    (says_settled (is_access doing && is_refused x.entry.reply) doing (slice_get (calls_of kind objects doing) (length now + 1)) x.entry.reply
    (record { aim = aim_in t x; refused = is_refused x.entry.reply }) now refl refl free))
reply_step false who kind objects left doing ticket w now old earlier all x t one unmet for on way waits lines_are mains_are told follows given free held =
    state_unsettled who kind objects left doing ticket w now old earlier all x t _ one unmet for.aim on way waits lines_are mains_are told follows given free held refl

-- what an answer leads to, at an actor with these fields
abbrev After : ℕ → Kind → List ℕ → List ℕ → Doing → Option ℕ → Wanted → List Main → List Doing → List Entered → Heard → List Entered → Type 0
After who kind objects left doing ticket wants now all t answer made =
    State who kind objects (next_acting (acting_at who kind objects left doing (length now) ticket wants) answer)
    (next_wish (acting_at who kind objects left doing (length now) ticket wants) answer) all (made ++ t)

act_step : (who : ℕ) (kind : Kind) (objects left : List ℕ) (doing : Doing) (ticket : Option ℕ) (wants : Wanted) (now old : List Main) (earlier : List Doing)
    (all : List Doing) (t : List Entered) (object : ℕ) (call : Call) (answer : Heard) (made : List Entered)
    → all ≡ doing ∷ earlier → mains t ≡ now ++ old → is_told doing ≡ true
    → Follows (calls_of kind objects doing) (is_access doing) now → GivenBy kind objects earlier old
    → ((aim : Aim) (tk : ℕ) → slice_get (calls_of kind objects doing) (length now) ≡ Some aim → ticket ≡ Some tk → attempt_at t aim.object tk ≡ Some aim)
    → Made (slice_get (calls_of kind objects doing) (length now)) ticket object call → Free doing now
    → MakesOne who object call answer made → After who kind objects left doing ticket wants now all t answer made
act_step who kind objects left doing ticket wants now old earlier all t object call answer made lines_are mains_are told follows given held one free does =
    let x : Entered = record { object = object; entry = does.entry } in
    let fair = good kind objects doing (length now) one.0 told one.2 in
    let for = is_for (attempt_at t) one.0 ticket one.1 object does.entry.call fair (λ tk is. held one.0 tk one.2 is) one.3 (does.of_call ∙ one.4) in
    let step = reply_step (settles does.entry.reply) who kind objects left doing ticket
    (wants_after (next_wish (acting_at who kind objects left doing (length now) ticket wants) (heard.Replied does.entry.reply)))
    now old earlier all x t one.0 refl for one.3 one.2
    (λ waits. for.retries (subst (λ c. is_retry c ≡ true) (sym does.of_call) (does.waits waits)))
    lines_are mains_are told follows given free held in
    subst (λ m. After who kind objects left doing ticket wants now all t answer m) (sym does.is)
    (subst (λ h. After who kind objects left doing ticket wants now all t h (x ∷ [])) (sym does.told) step)

resize_step : (who : ℕ) (kind : Kind) (objects left : List ℕ) (doing : Doing) (ticket : Option ℕ) (wants : Wanted) (now old : List Main) (earlier : List Doing)
    (all : List Doing) (t : List Entered) (object pages : ℕ) (answer : Heard) (made : List Entered)
    → all ≡ doing ∷ earlier → mains t ≡ now ++ old → is_told doing ≡ true
    → Follows (calls_of kind objects doing) (is_access doing) now → GivenBy kind objects earlier old
    → slice_get (calls_of kind objects doing) (length now) ≡ Some (record { object = object; call = calls.Resize pages }) → Free doing now
    → ResizesOne who object pages answer made → After who kind objects left doing ticket wants now all t answer made
resize_step who kind objects left doing ticket wants now old earlier all t object pages answer made lines_are mains_are told follows given way free does =
    let x : Entered = record { object = object; entry = does.entry } in
    let one : Aim = record { object = object; call = calls.Resize pages } in
    let aim : aim_in t x ≡ Some one = ap (λ c. attempted (attempt_at t) object c) does.of_call in
    let aid = or_none (is_evict does.entry.call) (not (settles does.entry.reply)) (ap is_evict does.of_call) (settled_not does.entry.reply does.settled) in
    let step = state_settled who kind objects left doing ticket
    (wants_after (next_wish (acting_at who kind objects left doing (length now) ticket wants) (heard.Site (sites.Resized does.entry.reply))))
    now old earlier all x t (begins_call doing (slice_get (calls_of kind objects doing) (length now + 1))) one aid aim way lines_are mains_are told follows given free
    (says_begins doing (slice_get (calls_of kind objects doing) (length now + 1)) (record { aim = aim_in t x; refused = is_refused does.entry.reply } ∷ now)
    (free_more doing (record { aim = aim_in t x; refused = is_refused does.entry.reply }) now
    (λ access. absurd (access_keeps kind objects doing (length now) object pages access way)) free)) in
    subst (λ m. After who kind objects left doing ticket wants now all t answer m) (sym does.is)
    (subst (λ h. After who kind objects left doing ticket wants now all t h (x ∷ [])) (sym does.told) step)

gather_step : (who : ℕ) (kind : Kind) (objects left : List ℕ) (doing : Doing) (ticket : Option ℕ) (wants : Wanted) (now old : List Main) (earlier : List Doing)
    (all : List Doing) (t : List Entered) (answer : Heard) (made : List Entered)
    → all ≡ doing ∷ earlier → mains t ≡ now ++ old → is_told doing ≡ true
    → Follows (calls_of kind objects doing) (is_access doing) now → GivenBy kind objects earlier old
    → ((aim : Aim) (tk : ℕ) → slice_get (calls_of kind objects doing) (length now) ≡ Some aim → ticket ≡ Some tk → attempt_at t aim.object tk ≡ Some aim)
    → Free doing now → GathersSome who answer made → After who kind objects left doing ticket wants now all t answer made
gather_step who kind objects left doing ticket wants now old earlier all t answer made lines_are mains_are told follows given held free does =
    subst (λ h. After who kind objects left doing ticket wants now all t h made) (sym does.told)
    (state_same who kind objects left doing ticket _ now old earlier all made t _ does.own lines_are mains_are told follows given held
    (says_makes doing (slice_get (calls_of kind objects doing) (length now)) ticket does.brought now free))

done_step : (who : ℕ) (kind : Kind) (objects left : List ℕ) (doing : Doing) (ticket : Option ℕ) (wants : Wanted) (now old : List Main) (earlier : List Doing)
    (all : List Doing) (t : List Entered) (answer : Heard) (made : List Entered)
    → all ≡ doing ∷ earlier → mains t ≡ now ++ old → is_told doing ≡ true
    → Follows (calls_of kind objects doing) (is_access doing) now → GivenBy kind objects earlier old
    → ((aim : Aim) (tk : ℕ) → slice_get (calls_of kind objects doing) (length now) ≡ Some aim → ticket ≡ Some tk → attempt_at t aim.object tk ≡ Some aim)
    → Says doing (slice_get (calls_of kind objects doing) (length now)) ticket now
    (cond (is_some ticket) (makes (slice_get (calls_of kind objects doing) (length now)) ticket Nothing) wishes.LineEnd)
    → answer ≡ heard.Done → OwnEvicts who made → After who kind objects left doing ticket wants now all t answer made
done_step who kind objects left doing ticket wants now old earlier all t answer made lines_are mains_are told follows given held says is own =
    subst (λ h. After who kind objects left doing ticket wants now all t h made) (sym is)
    (state_same who kind objects left doing ticket _ now old earlier all made t _ own lines_are mains_are told follows given held says)

pub none_own : (who : ℕ) (made : List Entered) → made ≡ [] → OwnEvicts who made
none_own who made is = subst (OwnEvicts who) (sym is) tt

-- a loan is heard as what was gathered is, with no evict
pub lent_as_gathered : (who : ℕ) (answer : Heard) (made : List Entered) → LendsSome answer made → GathersSome who answer made
lent_as_gathered who answer made does = record { brought = does.brought; told = does.told; own = none_own who made does.none }

wish_step : (who : ℕ) (kind : Kind) (objects left : List ℕ) (doing : Doing) (ticket : Option ℕ) (wants : Wanted) (now old : List Main) (earlier : List Doing)
    (all : List Doing) (t : List Entered) (said : Wish) (answer : Heard) (made : List Entered)
    → all ≡ doing ∷ earlier → mains t ≡ now ++ old → is_told doing ≡ true
    → Follows (calls_of kind objects doing) (is_access doing) now → GivenBy kind objects earlier old
    → ((aim : Aim) (tk : ℕ) → slice_get (calls_of kind objects doing) (length now) ≡ Some aim → ticket ≡ Some tk → attempt_at t aim.object tk ≡ Some aim)
    → Says doing (slice_get (calls_of kind objects doing) (length now)) ticket now said
    → Carries who said answer made → After who kind objects left doing ticket wants now all t answer made
wish_step who kind objects left doing ticket wants now old earlier all t (wishes.Act object call) answer made l m o f g h says does =
    act_step who kind objects left doing ticket wants now old earlier all t object call answer made l m o f g h says.0 says.1 does
wish_step who kind objects left doing ticket wants now old earlier all t (wishes.Resize object pages) answer made l m o f g h says does =
    resize_step who kind objects left doing ticket wants now old earlier all t object pages answer made l m o f g says.0 says.2 does
wish_step who kind objects left doing ticket wants now old earlier all t (wishes.Gather count) answer made l m o f g h says does =
    gather_step who kind objects left doing ticket wants now old earlier all t answer made l m o f g h says does
wish_step who kind objects left doing ticket wants now old earlier all t wishes.Loan answer made l m o f g h says does =
    gather_step who kind objects left doing ticket wants now old earlier all t answer made l m o f g h says (lent_as_gathered who answer made does)
wish_step who kind objects left doing ticket wants now old earlier all t (wishes.Park object) answer made l m o f g h says does =
    done_step who kind objects left doing ticket wants now old earlier all t answer made l m o f g h
    (says_goes_on (is_some ticket) doing (slice_get (calls_of kind objects doing) (length now)) ticket now says.0 says.1) does.told (none_own who made does.none)
wish_step who kind objects left doing ticket wants now old earlier all t wishes.Age answer made l m o f g h says does =
    done_step who kind objects left doing ticket wants now old earlier all t answer made l m o f g h
    (says_done (is_some ticket) doing (slice_get (calls_of kind objects doing) (length now)) ticket now says) does.told (none_own who made does.none)
wish_step who kind objects left doing ticket wants now old earlier all t wishes.Keep answer made l m o f g h says does =
    done_step who kind objects left doing ticket wants now old earlier all t answer made l m o f g h
    (says_done (is_some ticket) doing (slice_get (calls_of kind objects doing) (length now)) ticket now says) does.told (none_own who made does.none)
wish_step who kind objects left doing ticket wants now old earlier all t wishes.Give answer made l m o f g h says does =
    done_step who kind objects left doing ticket wants now old earlier all t answer made l m o f g h
    (says_done (is_some ticket) doing (slice_get (calls_of kind objects doing) (length now)) ticket now says) does.told (none_own who made does.none)
wish_step who kind objects left doing ticket wants now old earlier all t (wishes.Relieve frames) answer made l m o f g h says does =
    done_step who kind objects left doing ticket wants now old earlier all t answer made l m o f g h
    (says_done (is_some ticket) doing (slice_get (calls_of kind objects doing) (length now)) ticket now says) does.0 does.1
wish_step who kind objects left doing ticket wants now old earlier all t wishes.Watch answer made l m o f g h says does =
    done_step who kind objects left doing ticket wants now old earlier all t answer made l m o f g h
    (says_done (is_some ticket) doing (slice_get (calls_of kind objects doing) (length now)) ticket now says) does.0 does.1
wish_step who kind objects left doing ticket wants now old earlier all t (wishes.Site object step) answer made l m o f g h says does = absurd does
wish_step who kind objects left doing ticket wants now old earlier all t wishes.LineEnd answer made l m o f g h says does = absurd does

pub state_hears : (who : ℕ) (kind : Kind) (objects : List ℕ) (a : Acting) (said : Wish) (all : List Doing) (t : List Entered) (answer : Heard) (made : List Entered)
    → State who kind objects a said all t → Carries who said answer made → State who kind objects (next_acting a answer) (next_wish a answer) all (made ++ t)
state_hears who kind objects a said all t answer made s does =
    subst (λ x. State who kind objects (next_acting x answer) (next_wish x answer) all (made ++ t)) (sym s.is)
    (wish_step who kind objects s.left s.doing s.ticket s.wants s.now s.old s.earlier all t said answer made
    s.lines_are s.mains_are s.told s.follows s.given s.held s.says does)

state_of : (who : ℕ) (kind : Kind) (objects : List ℕ) (events : List Event) → IsCourse who (unborn who kind objects) events
    → State who kind objects (leads (unborn who kind objects) events).acting (leads (unborn who kind objects) events).said (lines events) (tale events)
state_of who kind objects [] lived = state_start who kind objects
state_of who kind objects (Begins doing ∷ before) lived =
    state_begins who kind objects _ _ (lines before) (tale before) doing (state_of who kind objects before lived.0) lived.1 lived.2
state_of who kind objects (Hears answer made ∷ before) lived =
    state_hears who kind objects _ _ (lines before) (tale before) answer made (state_of who kind objects before lived.0) lived.1

pub is_told_law : IsTold
is_told_law who kind objects events lived ended =
    given_all who kind objects _ _ (lines events) (tale events) (state_of who kind objects events lived) ended
