-- How events stand for the scheduler after one of them more.
use Rattle.std.proofs.Common.{◌≡◌, ℕ, ◌<◌, ◌==◌, ◌++◌, true, false, cond, Some, List, [], ◌∷◌, length, sum, refl, sym, ap, ◌∙◌, subst, slice_get, slice_set}
use Rattle.std.proofs.lemmas.Option.{slice_get_within}
use Rattle.up_model.proofs.Bools.{nat_eq-same, nat_eq_true}
use Rattle.up_evictor.specs.declared.levels.Levels.{Levels}
use Rattle.up_model.specs.declared.entry.Birth.{Birth}
use Rattle.up_model.specs.declared.entry.Reply.{Reply}
use Rattle.up_model.specs.declared.entry.Reply.TheVariants as replies
use Rattle.up_steps.specs.Handed.{Handed, lives_of, home, loans, AllLegal}
use Rattle.up_steps.specs.Carried.{CarriedOut, ages_after, kept_after}
use Rattle.up_script.specs.declared.script.Kind.{Kind}
use Rattle.up_steps.specs.Asked.{parks as parks_reply}
use Rattle.up_model.specs.Reply.{reply}
use Rattle.up_model.specs.declared.entry.Call.{Call}
use Rattle.up_model.specs.declared.entry.Call.TheVariants as calls
use Rattle.up_model.specs.declared.entry.Entry.{Entry}
use Rattle.up_steps.specs.Steps.{Setting, Moment, AllAt}
use Rattle.up_steps.specs.OneThread.{ActorEvent, event_of, entries, out_of, said_by, moment_by, moment_in, AllFair, is_park, rests}
use Rattle.up_worker.specs.Acting.{Acting, unborn, next_acting, started}
use Rattle.up_worker.specs.Courses.{Entered, Event, Begins, Hears, Out, leads, led, Carries, OwnEvicts, gives_pages, is_evict}
use Rattle.up_worker.specs.Thread.{of_object, DoneExactly}
use Rattle.up_worker.specs.Wishes.{settles, wants_after}
use Rattle.up_worker.specs.declared.course.Doing.{Doing}
use Rattle.up_worker.specs.declared.wish.Heard.{Heard}
use Rattle.up_worker.specs.declared.wish.Heard.TheVariants as heard
use Rattle.up_worker.specs.declared.wish.Wish.{Wish}
use Rattle.up_worker.specs.declared.wish.Wish.TheVariants as wishes
use Rattle.up_stage.specs.Scheduled.{Scheduled}
use Rattle.up_stage.specs.LeadsTo.{LeadsTo, GoesTo, GoesToRest, OneMore}
use Rattle.up_stage.proofs.ObjectJournals.{some_same, slice_get-set, get_some}
use Rattle.up_stage.proofs.OneActorActs.{due_reply}
use Rattle.up_stage.proofs.RepliesForFrames.{parks_right}

-- what an actor waits for is what it said last
pub wants_said : (who : ℕ) (kind : Kind) (objects : List ℕ) (events : List Event) → (leads (unborn who kind objects) events).acting.wants ≡ wants_after (leads (unborn who kind objects) events).said
wants_said who kind objects [] = refl
wants_said who kind objects (Begins doing ∷ before) = refl
wants_said who kind objects (Hears answer made ∷ before) = refl

pub out_own : (s : Setting) (who : ℕ) (event : Event) (history : List ActorEvent) → out_of s who (event_of who event ∷ history) ≡ led (out_of s who history) event
out_own s who event history = rw (nat_eq-same who) refl

pub out_other : (s : Setting) (who other : ℕ) (event : Event) (history : List ActorEvent) → (who == other) ≡ false → out_of s other (event_of who event ∷ history) ≡ out_of s other history
out_other s who other event history apart = rw apart refl

moment_ages : (s : Setting) (m : Moment) (who : ℕ) (wish : Wish) (before : List Entered) → (moment_by s m who wish before).ages ≡ ages_after wish m.ages
moment_ages s m who wishes.Age before = refl
moment_ages s m who wishes.Keep before = refl
moment_ages s m who wishes.Give before = refl
moment_ages s m who _ before = refl

moment_kept : (s : Setting) (m : Moment) (who : ℕ) (wish : Wish) (before : List Entered) → (moment_by s m who wish before).kept ≡ kept_after wish who (s.loans (sum m.kept) before) m.kept
moment_kept s m who wishes.Age before = refl
moment_kept s m who wishes.Keep before = refl
moment_kept s m who wishes.Give before = refl
moment_kept s m who _ before = refl

exact_same : (h h2 l l2 : List Entered → ℕ) (v v2 : Levels) (n n2 : ℕ) (w w2 : Wish) (answer : Heard) (made before : List Entered) → h ≡ h2 → l ≡ l2 → v ≡ v2 → n ≡ n2 → w ≡ w2
    → DoneExactly h l v n w answer made before → DoneExactly h2 l2 v2 n2 w2 answer made before
exact_same h h2 l l2 v v2 n n2 w w2 answer made before sh sl sv sn sw d =
    subst (λ x. DoneExactly x l2 v2 n2 w2 answer made before) sh
    (subst (λ x. DoneExactly h x v2 n2 w2 answer made before) sl
    (subst (λ x. DoneExactly h l x n2 w2 answer made before) sv
    (subst (λ x. DoneExactly h l v x w2 answer made before) sn
    (subst (λ x. DoneExactly h l v n x answer made before) sw d))))

-- the actors after an event of one of them
actors_more : (s : Setting) (who : ℕ) (event : Event) (history : List ActorEvent) (actors : List Acting) (new : Acting) → who < length actors → new ≡ (led (out_of s who history) event).acting
    → ((v : ℕ) (a : Acting) → slice_get actors v ≡ Some a → a ≡ (out_of s v history).acting) → (v : ℕ) (a : Acting) → slice_get (slice_set actors who new) v ≡ Some a → a ≡ (out_of s v (event_of who event ∷ history)).acting
actors_more s who event history actors new within is old v a at =
    elim (who == v) as (λ b. (who == v) ≡ b → cond b (Some new) (slice_get actors v) ≡ Some a → a ≡ (out_of s v (event_of who event ∷ history)).acting) [
      | true ↦ λ q p. let same : who ≡ v = nat_eq_true who v q in
          subst (λ (n : ℕ). a ≡ (out_of s n (event_of who event ∷ history)).acting) same
          (sym (some_same new a p) ∙ is ∙ ap (λ (o : Out). o.acting) (sym (out_own s who event history)))
      | false ↦ λ q p. old v a p ∙ ap (λ (o : Out). o.acting) (sym (out_other s who v event history q))
    ] refl (sym (slice_get-set actors who new v within) ∙ at)

-- after an answer
pub stands_heard : (births : List Birth) (s : Setting) (history : List ActorEvent) (old new : Scheduled) (who : ℕ) (wish : Wish) (answer : Heard) (a : Acting) → LeadsTo births s history old → wish ≡ said_by s who history
    → slice_get old.actors who ≡ Some a → (d : CarriedOut births old.hands new.hands who wish answer (entries history)) → AllFair d.made → new.actors ≡ slice_set old.actors who (next_acting a answer)
    → LeadsTo births s (event_of who (Hears answer d.made) ∷ history) new
stands_heard births s history old new who wish answer a st said is d parking actors =
    let m = moment_in s history in
    let g = entries history in
    let kept : s.loans (sum m.kept) ≡ loans old.hands.loan (sum old.hands.kept) births =
    ap (λ (f : ℕ → List Entered → ℕ). f (sum m.kept)) st.loans ∙ ap (λ (k : List ℕ). loans old.hands.loan (sum k) births) (sym st.kept) in
    record {
      objects = st.objects;
      levels = st.levels ∙ sym (ap (λ (h : Handed). h.levels) d.is);
      home = st.home ∙ ap (λ (n : ℕ). home n births) (sym (ap (λ (h : Handed). h.frames) d.is));
      loans = st.loans ∙ ap (λ (n : ℕ). λ kept g. loans n kept births g) (sym (ap (λ (h : Handed). h.loan) d.is));
      lives = ap (λ (h : Handed). h.lives) d.is;
      ages = ap (λ (h : Handed). h.ages) d.is ∙ ap (ages_after wish) st.ages ∙ ap (λ (w : Wish). ages_after w m.ages) said ∙ sym (moment_ages s m who (said_by s who history) g);
      kept = ap (λ (h : Handed). h.kept) d.is
          ∙ ap (λ (free : ℕ). kept_after wish who free old.hands.kept) (sym (ap (λ (f : List Entered → ℕ). f g) kept))
          ∙ ap (λ (k : List ℕ). kept_after wish who (s.loans (sum m.kept) g) k) st.kept
          ∙ ap (λ (w : Wish). kept_after w who (s.loans (sum m.kept) g) m.kept) said ∙ sym (moment_kept s m who (said_by s who history) g);
      actors = λ v b at.
          actors_more s who (Hears answer d.made) history old.actors (next_acting a answer) (slice_get_within old.actors who a is)
          (ap (λ (x : Acting). next_acting x answer) (st.actors who a is)) st.actors v b (ap (λ (xs : List Acting). slice_get xs v) (sym actors) ∙ at);
      thread = (
        st.thread,
        record {
          carries = subst (λ (w : Wish). Carries who w answer d.made) said d.carries;
          exact = exact_same _ _ _ _ _ _ _ _ wish (said_by s who history) answer d.made g (sym st.home) (sym kept) (sym st.levels) (sym st.objects) said d.exact;
          epoch = subst (λ (n : ℕ). AllAt n d.made) st.ages d.epoch;
          fair = parking;
        },
      );
    }

-- after a line is begun
pub stands_begun : (births : List Birth) (s : Setting) (history : List ActorEvent) (old new : Scheduled) (who : ℕ) (doing : Doing) (a : Acting) → LeadsTo births s history old → said_by s who history ≡ wishes.LineEnd
    → slice_get old.actors who ≡ Some a → new.hands ≡ old.hands → new.actors ≡ slice_set old.actors who (started a doing) → LeadsTo births s (event_of who (Begins doing) ∷ history) new
stands_begun births s history old new who doing a st said is hands actors = record {
  objects = st.objects;
  levels = st.levels ∙ sym (ap (λ (h : Handed). h.levels) hands);
  home = st.home ∙ ap (λ (n : ℕ). home n births) (sym (ap (λ (h : Handed). h.frames) hands));
  loans = st.loans ∙ ap (λ (n : ℕ). λ kept g. loans n kept births g) (sym (ap (λ (h : Handed). h.loan) hands));
  lives = ap (λ (h : Handed). h.lives) hands ∙ st.lives;
  ages = ap (λ (h : Handed). h.ages) hands ∙ st.ages;
  kept = ap (λ (h : Handed). h.kept) hands ∙ st.kept;
  actors = λ v b at.
      actors_more s who (Begins doing) history old.actors (started a doing) (slice_get_within old.actors who a is)
      (ap (λ (x : Acting). started x doing) (st.actors who a is)) st.actors v b (ap (λ (xs : List Acting). slice_get xs v) (sym actors) ∙ at);
  thread = (st.thread, said);
}

-- after a parked actor is told to go on
pub stands_woken : (births : List Birth) (s : Setting) (history : List ActorEvent) (old new : Scheduled) (who object : ℕ) (a : Acting) → LeadsTo births s history old → said_by s who history ≡ wishes.Park object
    → slice_get old.actors who ≡ Some a → new.hands ≡ old.hands → new.actors ≡ slice_set old.actors who (next_acting a heard.Done) → LeadsTo births s (event_of who (Hears heard.Done []) ∷ history) new
stands_woken births s history old new who object a st said is hands actors = record {
  objects = st.objects;
  levels = st.levels ∙ sym (ap (λ (h : Handed). h.levels) hands);
  home = st.home ∙ ap (λ (n : ℕ). home n births) (sym (ap (λ (h : Handed). h.frames) hands));
  loans = st.loans ∙ ap (λ (n : ℕ). λ kept g. loans n kept births g) (sym (ap (λ (h : Handed). h.loan) hands));
  lives = ap (λ (h : Handed). h.lives) hands ∙ st.lives;
  ages = ap (λ (h : Handed). h.ages) hands ∙ st.ages ∙ sym (moment_ages s (moment_in s history) who (said_by s who history) (entries history) ∙ ap (λ (w : Wish). ages_after w (moment_in s history).ages) said);
  kept = ap (λ (h : Handed). h.kept) hands ∙ st.kept
      ∙ sym (moment_kept s (moment_in s history) who (said_by s who history) (entries history)
      ∙ ap (λ (w : Wish). kept_after w who (s.loans (sum (moment_in s history).kept) (entries history)) (moment_in s history).kept) said);
  actors = λ v b at.
      actors_more s who (Hears heard.Done []) history old.actors (next_acting a heard.Done) (slice_get_within old.actors who a is)
      (ap (λ (x : Acting). next_acting x heard.Done) (st.actors who a is)) st.actors v b (ap (λ (xs : List Acting). slice_get xs v) (sym actors) ∙ at);
  thread = (
    st.thread,
    record {
      carries = subst (λ (w : Wish). Carries who w heard.Done []) (sym said) (record { told = refl; none = refl });
      exact = subst (λ (w : Wish). DoneExactly s.home (s.loans (sum (moment_in s history).kept)) s.levels s.objects w heard.Done [] (entries history)) (sym said) tt;
      epoch = tt;
      fair = tt;
    },
  );
}

evict_gives : (birth : Birth) (h : List Entry) (who epoch : ℕ) (call : Call) → is_evict call ≡ true → gives_pages (reply birth h who epoch call) ≡ true
evict_gives birth h who epoch (calls.Evict limit most) is = refl
evict_gives birth h who epoch _ is = absurd cc

-- of what is made for a wish only accesses park
settles_parks : (r : Reply) → settles r ≡ true → parks_reply r ≡ true → ⊥
settles_parks (replies.Blocked t) is p = absurd cc
settles_parks replies.Waiting is p = absurd cc
settles_parks _ is p = absurd cc

pages_park_none : (r : Reply) → gives_pages r ≡ true → parks_reply r ≡ true → ⊥
pages_park_none (replies.Pages pages) is p = absurd cc
pages_park_none _ is p = absurd cc

evicts_park_none : (who : ℕ) (made : List Entered) → OwnEvicts who made → AllFair made
evicts_park_none who [] own = tt
evicts_park_none who (x ∷ xs) own = (record { parking = λ p. absurd (pages_park_none x.entry.reply own.2 p); giving = λ evicts. own.2 }, evicts_park_none who xs own.3)

pub parking : (births : List Birth) (made g : List Entered) (who : ℕ) (wish : Wish) (answer : Heard) → AllLegal (lives_of births (made ++ g)) → Carries who wish answer made
    → ((object : ℕ) (call : Call) → wish ≡ wishes.Act object call → object < length births) → AllFair made
parking births made g who (wishes.Act object call) answer legal one on =
    let x : Entered = record { object = object; entry = one.entry } in
    let birth = get_some births object (on object call refl) in
    let lawful : AllLegal (lives_of births (x ∷ g)) = subst (λ (m : List Entered). AllLegal (lives_of births (m ++ g))) one.is legal in
    let due = due_reply births x g lawful birth.0 birth.1 in
    subst AllFair (sym one.is) (
      record {
        parking = λ p. parks_right birth.0 (of_object object g) one.entry.who one.entry.epoch one.entry.call (ap parks_reply (sym due) ∙ p);
        giving = λ evicts. ap gives_pages due ∙ evict_gives birth.0 (of_object object g) one.entry.who one.entry.epoch one.entry.call evicts;
      },
      tt,
    )
parking births made g who (wishes.Resize object pages) answer legal one on = subst AllFair (sym one.is)
    (record { parking = λ p. absurd (settles_parks one.entry.reply one.settled p); giving = λ evicts. absurd (let no_evict : false ≡ true = ap is_evict (sym one.of_call) ∙ evicts in cc) }, tt)
parking births made g who (wishes.Gather count) answer legal some on = evicts_park_none who made some.own
parking births made g who wishes.Loan answer legal none on = subst AllFair (sym none.none) tt
parking births made g who (wishes.Park object) answer legal none on = subst AllFair (sym none.none) tt
parking births made g who wishes.Age answer legal none on = subst AllFair (sym none.none) tt
parking births made g who wishes.Keep answer legal none on = subst AllFair (sym none.none) tt
parking births made g who wishes.Give answer legal none on = subst AllFair (sym none.none) tt
parking births made g who (wishes.Relieve frames) answer legal own on = evicts_park_none who made own.1
parking births made g who wishes.Watch answer legal own on = evicts_park_none who made own.1
parking births made g who (wishes.Site object step) answer legal none on = absurd none
parking births made g who wishes.LineEnd answer legal none on = absurd none

-- going on by one wish more
goes_no_park : (wish : Wish) → rests wish ≡ false → is_park wish ≡ false
goes_no_park (wishes.Park object) is = absurd cc
goes_no_park _ is = refl

pub goes_more : (births : List Birth) (s : Setting) (who : ℕ) (history : List ActorEvent) (old new : Scheduled) (wish next : Wish) → rests wish ≡ false → OneMore old new who wish next
    → GoesTo births s who history old wish → GoesTo births s who history new next
goes_more births s who history old new wish next goes one g =
    let m = one births s (g.more ++ history) g.stands g.said in
    record {
      more = event_of who (Hears m.answer m.made) ∷ g.more;
      stands = m.stands;
      goes = (g.goes, refl, ap is_park (sym g.said) ∙ goes_no_park wish goes);
      answers = (refl, g.answers);
      said = m.said;
    }

pub goes_rest : (births : List Birth) (s : Setting) (who : ℕ) (history : List ActorEvent) (scheduler : Scheduled) (wish : Wish) → rests wish ≡ true → GoesTo births s who history scheduler wish → GoesToRest births s who history scheduler
goes_rest births s who history scheduler wish is g = record { more = g.more; stands = g.stands; goes = g.goes; answers = g.answers; rests = ap rests (sym g.said) ∙ is }
