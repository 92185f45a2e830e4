-- What begins with an actor that rests, and ends where it rests again.
use Rattle.std.proofs.Common.{◌≡◌, ℕ, ◌<◌, ◌==◌, ◌++◌, true, false, cond, Option, Some, None, List, [], ◌∷◌, length, refl, sym, ap, ◌∙◌, subst, inl, inr, slice_get, slice_set}
use Rattle.std.proofs.lemmas.List.{length-set}
use Rattle.std.proofs.lemmas.Option.{slice_get_within}
use Rattle.up_model.proofs.Bools.{nat_eq-same, nat_eq_true}
use Rattle.up_model.specs.declared.entry.Birth.{Birth}
use Rattle.up_model.specs.declared.entry.Brought.TheVariants.{Nothing}
use Rattle.up_steps.specs.Handed.{Handed, births_in, empty_hand}
use Rattle.up_steps.specs.Carried.{hand_for}
use Rattle.up_script.specs.Sound.{is_sound_action}
use Rattle.up_script.specs.declared.script.Action.{Action}
use Rattle.up_script.specs.declared.script.Line.{Line}
use Rattle.up_steps.specs.Steps.{Setting}
use Rattle.up_steps.specs.OneThread.{ActorEvent, event_of, events_of, out_of, said_by, is_park, is_parked, rests, GoesOn}
use Rattle.up_worker.specs.Acting.{Acting, under_way, next_wish, next_acting, first_wish, started}
use Rattle.up_worker.specs.Courses.{Event, Begins, Hears, Out}
use Rattle.up_worker.specs.Wishes.{makes, wants_after}
use Rattle.up_worker.specs.declared.course.Doing.{Doing}
use Rattle.up_worker.specs.declared.course.Doing.TheVariants.{OneLine}
use Rattle.up_worker.specs.declared.wish.Heard.TheVariants as heard
use Rattle.up_worker.specs.declared.wish.Wanted.TheVariants as wanted
use Rattle.up_worker.specs.declared.wish.Wish.{Wish}
use Rattle.up_worker.specs.declared.wish.Wish.TheVariants as wishes
use Rattle.up_stage.specs.Calls.{suits_births, IsRightFor}
use Rattle.up_stage.specs.Scheduled.{Scheduled}
use Rattle.up_stage.specs.Ready.{ActorKeeps, SchedulerKeeps, IsParked, Pending, ActorRests, AtRest, Ready, is_done_wanted, waits_for_go, is_waiting}
use Rattle.up_stage.specs.LeadsTo.{LeadsTo, LeadsToRest, FollowsOn, ActsOn, ResumesOn}
use Rattle.up_stage.proofs.FitCalls.{fit_calls}
use Rattle.up_stage.proofs.ObjectJournals.{some_same, slice_get-set, births_many}
use Rattle.up_stage.proofs.NextWishes.{pending_makes, pending_begins}
use Rattle.up_stage.proofs.OneEventMore.{wants_said, out_own, stands_begun, stands_woken}
use Rattle.up_stage.proofs.OneWish.{hand_begins}

own_rests : (a : Acting) (wish : Wish) → rests wish ≡ true → Pending a wish → a.wants ≡ wants_after wish → ActorRests a
own_rests a (wishes.Park object) is p wants = inr (wants, p)
own_rests a wishes.LineEnd is p wants = inl (wants, p)
own_rests a _ is p wants = absurd cc

empty_at_rest : (wish : Wish) → rests wish ≡ true → hand_for wish ≡ empty_hand
empty_at_rest (wishes.Park object) is = refl
empty_at_rest wishes.LineEnd is = refl
empty_at_rest _ is = absurd cc

-- where an actor's wish is to rest, all rest
pub at_rest : (s : Scheduled) (who : ℕ) (wish : Wish) → Ready s who wish → rests wish ≡ true → AtRest s
at_rest s who wish r is = record {
  keeps = r.keeps;
  hand = r.hand ∙ empty_at_rest wish is;
  rest = λ v a at.
      elim (who == v) as (λ b. (who == v) ≡ b → ActorRests a) [
        | true ↦ λ q. let mine : r.acting ≡ a = some_same r.acting a (sym r.is ∙ ap (λ (n : ℕ). slice_get s.actors n) (nat_eq_true who v q) ∙ at) in
            subst ActorRests mine (own_rests r.acting wish is r.pending r.wants)
        | false ↦ λ q. r.others v a q at
      ] refl;
}

-- an actor exchanged for another state of it
keeps_set : (old mid : Scheduled) (who : ℕ) (new : Acting) → SchedulerKeeps old → mid.hands ≡ old.hands → mid.actors ≡ slice_set old.actors who new → length mid.done ≡ length old.done → who < length old.actors
    → ActorKeeps old.hands.lives who new → SchedulerKeeps mid
keeps_set old mid who new k hands actors done within own = record {
  legal = rw hands k.legal;
  kept = rw hands (k.kept ∙ sym (ap length actors ∙ length-set old.actors who new));
  done = done ∙ k.done ∙ sym (ap length actors ∙ length-set old.actors who new);
  each = λ v a at. rw hands (
      elim (who == v) as (λ b. (who == v) ≡ b → cond b (Some new) (slice_get old.actors v) ≡ Some a → ActorKeeps old.hands.lives v a) [
        | true ↦ λ q p. subst (λ (n : ℕ). ActorKeeps old.hands.lives n a) (nat_eq_true who v q) (subst (λ (x : Acting). ActorKeeps old.hands.lives who x) (some_same new a p) own)
        | false ↦ λ q p. k.each v a p
      ] refl (sym (slice_get-set old.actors who new v within) ∙ ap (λ (xs : List Acting). slice_get xs v) (sym actors) ∙ at));
}

others_set : (old mid : Scheduled) (who : ℕ) (new : Acting) → mid.actors ≡ slice_set old.actors who new → who < length old.actors → ((v : ℕ) (a : Acting) → slice_get old.actors v ≡ Some a → ActorRests a)
    → (v : ℕ) (a : Acting) → (who == v) ≡ false → slice_get mid.actors v ≡ Some a → ActorRests a
others_set old mid who new actors within rest v a apart at =
    rest v a (rw apart at (sym (slice_get-set old.actors who new v within) ∙ ap (λ (xs : List Acting). slice_get xs v) (sym actors) ∙ at))

-- a line is begun
pub begin_ready : (old mid : Scheduled) (who : ℕ) (a : Acting) (action : Action) → AtRest old → slice_get old.actors who ≡ Some a → is_sound_action (length (births_in old.hands.lives)) action ≡ true → suits_births (births_in old.hands.lives) action ≡ true → mid.hands ≡ old.hands
    → mid.actors ≡ slice_set old.actors who (started a (OneLine action)) → length mid.done ≡ length old.done → Ready mid who (first_wish a (OneLine action))
begin_ready old mid who a action r is sound suits hands actors done =
    let new = started a (OneLine action) in
    let within : who < length old.actors = slice_get_within old.actors who a is in
    let k = r.keeps.each who a is in
    let births = births_in old.hands.lives in
    record {
      keeps = keeps_set old mid who new r.keeps hands actors done within (record {
        number = k.number;
        calls = λ place aim at. fit_calls births a.objects action (λ k_place object there. rw (births_many old.hands.lives) (k.objects k_place object there)) sound suits place aim at;
        objects = k.objects;
        holds = λ t aim held at. absurd cc;
      });
      acting = new;
      is = ap (λ (xs : List Acting). slice_get xs who) actors ∙ slice_get-set old.actors who new who within ∙ rw (nat_eq-same who) refl;
      hand = ap (λ (h : Handed). h.hand) hands ∙ r.hand ∙ sym (hand_begins (OneLine action) (under_way new));
      pending = pending_begins new refl;
      wants = refl;
      others = others_set old mid who new actors within r.rest;
    }

-- a parked actor is told to go on
parked_next : (a : Acting) (p : IsParked a) → next_wish a heard.Done ≡ makes (under_way a) a.ticket Nothing
parked_next a p = rw p.holds refl

hand_retry : (a : Acting) (p : IsParked a) → hand_for (makes (under_way a) a.ticket Nothing) ≡ empty_hand
hand_retry a p = rw (p.is, p.holds) refl

pub resume_ready : (old mid : Scheduled) (who : ℕ) (a : Acting) → AtRest old → slice_get old.actors who ≡ Some a → IsParked a → mid.hands ≡ old.hands
    → mid.actors ≡ slice_set old.actors who (next_acting a heard.Done) → length mid.done ≡ length old.done → Ready mid who (next_wish a heard.Done)
resume_ready old mid who a r is p hands actors done =
    let new = next_acting a heard.Done in
    let within : who < length old.actors = slice_get_within old.actors who a is in
    let k = r.keeps.each who a is in
    record {
      keeps = keeps_set old mid who new r.keeps hands actors done within (record { number = k.number; calls = k.calls; objects = k.objects; holds = k.holds });
      acting = new;
      is = ap (λ (xs : List Acting). slice_get xs who) actors ∙ slice_get-set old.actors who new who within ∙ rw (nat_eq-same who) refl;
      hand = ap (λ (h : Handed). h.hand) hands ∙ r.hand ∙ sym (ap hand_for (parked_next a p) ∙ hand_retry a p);
      pending = subst (λ (w : Wish). Pending new w) (sym (parked_next a p))
          (pending_makes new p.aim Nothing p.is refl (subst (λ (t : Option ℕ). IsRightFor t p.aim.call Nothing) (sym p.holds) tt));
      wants = refl;
      others = others_set old mid who new actors within r.rest;
    }

-- by its wants an actor at rest is told to be parked or free
pub free_wants : (a : Acting) → ActorRests a → is_done_wanted a.wants ≡ false → (a.wants ≡ wanted.Nothing) × (a.ticket ≡ None)
free_wants a (inl r) is = r
free_wants a (inr r) is = let w = r.0 in absurd (let no : is_done_wanted wanted.Done ≡ false = ap is_done_wanted (sym w) ∙ is in cc)

pub parked_parks : (a : Acting) → ActorRests a → is_done_wanted a.wants ≡ true → (a.wants ≡ wanted.Done) × IsParked a
parked_parks a (inr r) is = r
parked_parks a (inl r) is = let w = r.0 in absurd (let no : is_done_wanted wanted.Nothing ≡ true = ap is_done_wanted (sym w) ∙ is in cc)

-- and so it is by what it said
nothing_wanted : (wish : Wish) → wants_after wish ≡ wanted.Nothing → wish ≡ wishes.LineEnd
nothing_wanted wishes.LineEnd is = refl
nothing_wanted _ is = absurd cc

done_wanted : (wish : Wish) → wants_after wish ≡ wanted.Done → rests wish ≡ true → (object : ℕ) × (wish ≡ wishes.Park object)
done_wanted (wishes.Park object) is r = (object, refl)
done_wanted wishes.LineEnd is r = absurd cc
done_wanted _ is r = absurd cc

wants_of : (births : List Birth) (s : Setting) (history : List ActorEvent) (scheduler : Scheduled) (who : ℕ) (a : Acting) → LeadsTo births s history scheduler → slice_get scheduler.actors who ≡ Some a → wants_after (said_by s who history) ≡ a.wants
wants_of births s history scheduler who a st is =
    sym (ap (λ (x : Acting). x.wants) (st.actors who a is) ∙ wants_said who _ _ (events_of who history))

pub said_end : (births : List Birth) (s : Setting) (history : List ActorEvent) (scheduler : Scheduled) (who : ℕ) (a : Acting) → LeadsTo births s history scheduler → slice_get scheduler.actors who ≡ Some a → a.wants ≡ wanted.Nothing
    → said_by s who history ≡ wishes.LineEnd
said_end births s history scheduler who a st is free = nothing_wanted (said_by s who history) (wants_of births s history scheduler who a st is ∙ free)

pub said_park : (births : List Birth) (s : Setting) (history : List ActorEvent) (scheduler : Scheduled) (who : ℕ) (a : Acting) → LeadsToRest births s history scheduler → slice_get scheduler.actors who ≡ Some a → a.wants ≡ wanted.Done
    → (object : ℕ) × (said_by s who history ≡ wishes.Park object)
said_park births s history scheduler who a st is waits = done_wanted (said_by s who history) (wants_of births s history scheduler who a st.stands is ∙ waits) (st.rest who)

-- whether an actor is parked
wants_park : (wish : Wish) → rests wish ≡ true → is_done_wanted (wants_after wish) ≡ is_park wish
wants_park (wishes.Park object) is = refl
wants_park wishes.LineEnd is = refl
wants_park _ is = absurd cc

pub parked_is : (births : List Birth) (s : Setting) (history : List ActorEvent) (scheduler : Scheduled) (who : ℕ) (a : Acting) → LeadsToRest births s history scheduler → slice_get scheduler.actors who ≡ Some a
    → is_waiting scheduler who ≡ is_parked s who history
parked_is births s history scheduler who a st is =
    ap waits_for_go is ∙ ap is_done_wanted (sym (wants_of births s history scheduler who a st.stands is)) ∙ wants_park (said_by s who history) (st.rest who)

-- what event_of to an actor moves no other one
pub goes_others : (s : Setting) (who v : ℕ) (more before : List ActorEvent) → (who == v) ≡ false → GoesOn s who more before → out_of s v (more ++ before) ≡ out_of s v before
goes_others s who v [] before apart goes = refl
goes_others s who v (d ∷ more) before apart goes =
    let by = goes.1 in
    let other : (d.who == v) ≡ false = rw by apart in
    rw other (goes_others s who v more before apart goes.0)

rest_more : (s : Setting) (who : ℕ) (more : List ActorEvent) (event : Event) (history : List ActorEvent) → GoesOn s who more (event_of who event ∷ history) → rests (said_by s who (more ++ event_of who event ∷ history)) ≡ true
    → ((v : ℕ) → rests (said_by s v history) ≡ true) → (v : ℕ) → rests (said_by s v (more ++ event_of who event ∷ history)) ≡ true
rest_more s who more event history goes own others v =
    elim (who == v) as (λ b. (who == v) ≡ b → rests (said_by s v (more ++ event_of who event ∷ history)) ≡ true) [
      | true ↦ λ q. subst (λ (n : ℕ). rests (said_by s n (more ++ event_of who event ∷ history)) ≡ true) (nat_eq_true who v q) own
      | false ↦ λ q. let same : out_of s v (event_of who event ∷ history) ≡ out_of s v history = rw q refl in
          ap (λ (o : Out). rests o.said) (goes_others s who v more (event_of who event ∷ history) q goes ∙ same) ∙ others v
    ] refl

-- a line that is begun, as the history has it
pub acted : (old mid new : Scheduled) (line : Line) (a : Acting) → slice_get old.actors line.actor ≡ Some a → a.wants ≡ wanted.Nothing → mid.hands ≡ old.hands
    → mid.actors ≡ slice_set old.actors line.actor (started a (OneLine line.action)) → FollowsOn mid new line.actor (first_wish a (OneLine line.action)) → ActsOn old new line
acted old mid new line a is free hands actors follows births s history st =
    let who = line.actor in
    let doing : Doing = OneLine line.action in
    let begun = stands_begun births s history old mid who doing a st.stands (said_end births s history old who a st.stands is free) is hands actors in
    let first : first_wish a doing ≡ said_by s who (event_of who (Begins doing) ∷ history) =
    ap (λ (x : Acting). first_wish x doing) (st.stands.actors who a is) ∙ ap (λ (o : Out). o.said) (sym (out_own s who (Begins doing) history)) in
    let f = follows births s (event_of who (Begins doing) ∷ history) begun first in
    record {
      now = f.more ++ event_of who (Begins doing) ∷ history;
      began = record { more = f.more; is = refl; goes = f.goes; answers = f.answers; rests = f.rests };
      stands = record { stands = f.stands; rest = rest_more s who f.more (Begins doing) history f.goes f.rests st.rest };
    }

-- a parked actor that goes on, as the history has it
pub resumed : (old mid new : Scheduled) (who : ℕ) (a : Acting) → slice_get old.actors who ≡ Some a → a.wants ≡ wanted.Done → mid.hands ≡ old.hands
    → mid.actors ≡ slice_set old.actors who (next_acting a heard.Done) → FollowsOn mid new who (next_wish a heard.Done) → ResumesOn old new who
resumed old mid new who a is waits hands actors follows births s history st =
    let park = said_park births s history old who a st is waits in
    let woken = stands_woken births s history old mid who park.0 a st.stands park.1 is hands actors in
    let first : next_wish a heard.Done ≡ said_by s who (event_of who (Hears heard.Done []) ∷ history) =
    ap (λ (x : Acting). next_wish x heard.Done) (st.stands.actors who a is) ∙ ap (λ (o : Out). o.said) (sym (out_own s who (Hears heard.Done []) history)) in
    let f = follows births s (event_of who (Hears heard.Done []) ∷ history) woken first in
    record {
      more = f.more;
      stands = record { stands = f.stands; rest = rest_more s who f.more (Hears heard.Done []) history f.goes f.rests st.rest };
      goes = f.goes;
      answers = f.answers;
    }

-- the places in the lines are no matter to that
pub rest_done : (s : Scheduled) (done : List ℕ) → AtRest s → length done ≡ length s.done → AtRest (record { hands = s.hands; actors = s.actors; done = done })
rest_done s done r count = record {
  keeps = record { legal = r.keeps.legal; kept = r.keeps.kept; done = count ∙ r.keeps.done; each = r.keeps.each };
  hand = r.hand;
  rest = r.rest;
}
