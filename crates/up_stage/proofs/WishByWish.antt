-- An actor's wishes are carried out one after the other.
use Rattle.std.proofs.Common.{◌≡◌, ℕ, ◌<◌, ◌++◌, true, false, Option, Some, None, List, [], length, refl, sym, ap, ◌∙◌, subst, slice_get, slice_set, arith}
use Rattle.up_model.specs.Legal.{Life}
use Rattle.up_model.specs.declared.entry.Birth.{Birth}
use Rattle.up_model.specs.declared.entry.Call.{Call}
use Rattle.up_model.specs.declared.entry.Call.TheVariants as calls
use Rattle.up_model.specs.Reply.{proper}
use Rattle.up_model.specs.Tickets.{owner, spent}
use Rattle.up_stage.specs.Calls.{is_numbered_birth, suits_birth, IsRightFor}
use Rattle.up_steps.specs.Handed.{Handed, lives_of, births_in, AllLegal}
use Rattle.up_steps.specs.Carried.{CarriedOut, IsProper, AsksForSome, is_done_here, object_of}
use Rattle.up_script.specs.Actions.{suits_mode}
use Rattle.up_steps.specs.Steps.{Setting}
use Rattle.up_steps.specs.OneThread.{ActorEvent, entries, said_by, rests}
use Rattle.up_worker.specs.Acting.{Acting, next_wish, next_acting}
use Rattle.up_model.specs.Bringing.{bringing}
use Rattle.up_worker.specs.Courses.{Entered, Hears, Out, Carries}
use Rattle.up_worker.specs.Wishes.{attempt, answers, wants_after}
use Rattle.up_worker.specs.declared.wish.Heard.{Heard}
use Rattle.up_worker.specs.declared.wish.Wish.{Wish}
use Rattle.up_worker.specs.declared.wish.Wish.TheVariants as wishes
use Rattle.up_stage.specs.Scheduled.{Scheduled, SameShape}
use Rattle.std.specs.Prelude.{IfSome}
use Rattle.up_stage.specs.Ready.{frames_asked, ActorKeeps, MakesCall, Pending, Ready, rank_at, rank}
use Rattle.up_stage.specs.LeadsTo.{LeadsTo, GoesTo, FollowsOn, OneMore}
use Rattle.up_stage.proofs.ObjectJournals.{some_same, births_many, birth_at, all_of, are_entered}
use Rattle.up_stage.proofs.NextWishes.{proper_call, proper_retry}
use Rattle.up_stage.proofs.OneActorActs.{Further, ready_more, AsksFew, acts_within}
use Rattle.up_stage.proofs.OneEventMore.{out_own, stands_heard, parking, goes_more, goes_rest}

-- what is done so far
pub record Following (old now : Scheduled) (who : ℕ) (first wish : Wish) : Type 0 where
  pub ready : Ready now who wish
  pub shape : SameShape old now
  pub done : now.done ≡ old.done
  pub went : (births : List Birth) (s : Setting) (history : List ActorEvent) → LeadsTo births s history old → first ≡ said_by s who history → GoesTo births s who history now wish

pub following_begin : (old : Scheduled) (who : ℕ) (first : Wish) → Ready old who first → Following old old who first first
following_begin old who first ready = record {
  ready = ready;
  shape = record { births = refl; actors = refl };
  done = refl;
  went = λ births s history st said. record { more = []; stands = st; goes = tt; answers = tt; said = said };
}

pub following_more : (old now new : Scheduled) (who : ℕ) (first wish next : Wish) → Following old now who first wish → rests wish ≡ false → Ready new who next → SameShape now new → new.done ≡ now.done → OneMore now new who wish next
    → Following old new who first next
following_more old now new who first wish next f goes ready shape done one = record {
  ready = ready;
  shape = record { births = shape.births ∙ f.shape.births; actors = shape.actors ∙ f.shape.actors };
  done = done ∙ f.done;
  went = λ births s history st said. goes_more births s who history now new wish next goes one (f.went births s history st said);
}

pub follows_on : (old now : Scheduled) (who : ℕ) (first wish : Wish) → Following old now who first wish → rests wish ≡ true → FollowsOn old now who first
follows_on old now who first wish f is = λ births s history st said. goes_rest births s who history now wish is (f.went births s history st said)

-- what a wish that is pending owes to the hands
pub done_here : (a : Acting) (wish : Wish) → Pending a wish → rests wish ≡ false → is_done_here wish ≡ true
done_here a (wishes.Site object step) p is = absurd p
done_here a wishes.LineEnd p is = absurd cc
done_here a _ p is = refl

-- the mode of the object on which a call is
suits_here : (lives : List Life) (object on : ℕ) (life : Life) (call : Call) → object ≡ on → slice_get lives object ≡ Some life → suits_birth (births_in lives) on call ≡ true → suits_mode life.birth.numbered call ≡ true
suits_here lives object on life call same is suits =
    ap (λ (o : Option Birth). suits_mode (is_numbered_birth o) call) (sym (ap (slice_get (births_in lives)) (sym same) ∙ birth_at lives object life is)) ∙ suits

proper_made : (lives : List Life) (who : ℕ) (a : Acting) (life : Life) (object : ℕ) (call : Call) → ActorKeeps lives who a → MakesCall a object call → slice_get lives object ≡ Some life → (ticket : Option ℕ) → a.ticket ≡ ticket
    → proper life.birth life.journal who call ≡ true
proper_made lives who a life object call k p is None free =
    let fit = k.calls a.settled p.aim p.is in
    let made : call ≡ bringing p.brought p.aim.call = p.made ∙ ap (λ (t : Option ℕ). bringing p.brought (attempt t p.aim.call)) free in
    ap (λ (c : Call). proper life.birth life.journal who c) made
    ∙ proper_call life.birth life.journal who p.aim.call p.brought fit.fit (suits_here lives object p.aim.object life p.aim.call p.on is fit.suits) p.counts (subst (λ (t : Option ℕ). IsRightFor t p.aim.call p.brought) free p.right)
proper_made lives who a life object call k p is (Some t) waits =
    let w = (k.holds t p.aim waits p.is).holds in
    let same : w.life ≡ life = some_same w.life life (sym w.is ∙ ap (slice_get lives) (sym p.on) ∙ is) in
    let made : call ≡ calls.Retry t p.brought = p.made ∙ ap (λ (o : Option ℕ). bringing p.brought (attempt o p.aim.call)) waits in
    ap (λ (c : Call). proper life.birth life.journal who c) made
    ∙ proper_retry life.birth life.journal who t p.brought (ap (λ (l : Life). owner l.journal t) (sym same) ∙ w.holder ∙ ap (λ (n : ℕ). Some n) k.number)
    (ap (λ (l : Life). spent l.journal t) (sym same) ∙ w.unspent) p.counts

pub is_proper : (lives : List Life) (who : ℕ) (a : Acting) (wish : Wish) → ActorKeeps lives who a → Pending a wish → IsProper lives who wish
is_proper lives who a (wishes.Act object call) k p = λ life is. proper_made lives who a life object call k p is a.ticket refl
is_proper lives who a _ k p = tt

pub some_asked : (a : Acting) (wish : Wish) → Pending a wish → AsksForSome wish
some_asked a (wishes.Gather count) p = p.some
some_asked a _ p = tt

pub on_object : (lives : List Life) (who : ℕ) (a : Acting) (wish : Wish) (object : ℕ) → ActorKeeps lives who a → Pending a wish → object_of wish ≡ Some object → object < length lives
on_object lives who a (wishes.Act on call) object k p is =
    let same : on ≡ object = some_same on object is in
    let fit = (k.calls a.settled p.aim p.is).on in
    let at = p.on in let many = births_many lives in omega arith
on_object lives who a (wishes.Resize on pages) object k p is =
    let same : on ≡ object = some_same on object is in
    let fit = (k.calls a.settled p.aim p.is).on in
    let at = p.on in let many = births_many lives in omega arith
on_object lives who a _ object k p is = absurd cc

-- what is heard is an answer to the wish
pub answers_wish : (who : ℕ) (wish : Wish) (answer : Heard) (made : List Entered) → Carries who wish answer made → rests wish ≡ false → answers (wants_after wish) answer ≡ true
answers_wish who (wishes.Act object call) answer made one is = rw one.told refl
answers_wish who (wishes.Resize object pages) answer made one is = rw one.told refl
answers_wish who (wishes.Gather count) answer made some is = rw some.told refl
answers_wish who wishes.Loan answer made some is = rw some.told refl
answers_wish who wishes.Age answer made none is = rw none.told refl
answers_wish who wishes.Keep answer made none is = rw none.told refl
answers_wish who wishes.Give answer made none is = rw none.told refl
answers_wish who (wishes.Relieve frames) answer made own is = rw own.0 refl
answers_wish who wishes.Watch answer made own is = rw own.0 refl
answers_wish who (wishes.Park object) answer made none is = absurd cc
answers_wish who wishes.LineEnd answer made none is = absurd cc
answers_wish who (wishes.Site object step) answer made none is = absurd none

-- what hands say of a wish that they carried out
abbrev pub Carrying : Handed → Handed → ℕ → Wish → Heard → Type 0
Carrying old new who wish answer = (births : List Birth) (g : List Entered) → old.lives ≡ lives_of births g → CarriedOut births old new who wish answer g

-- for the entries of these very objects
pub carried_here : (old new : Handed) (who : ℕ) (wish : Wish) (answer : Heard) → Carrying old new who wish answer → CarriedOut (births_in old.lives) old new who wish answer (all_of 0 old.lives)
carried_here old new who wish answer c = c (births_in old.lives) (all_of 0 old.lives) (are_entered old.lives)

pub further : (old new : Scheduled) (who : ℕ) (wish : Wish) (answer : Heard) (r : Ready old who wish) → rests wish ≡ false → Carrying old.hands new.hands who wish answer → AllLegal new.hands.lives
    → length new.hands.kept ≡ length old.hands.kept → new.actors ≡ slice_set old.actors who (next_acting r.acting answer) → new.done ≡ old.done → AsksFew answer → Further old new who r.acting wish answer
further old new who wish answer r goes c legal kept actors done few =
    ready_more (births_in old.hands.lives) (all_of 0 old.hands.lives) old new who wish answer r goes (are_entered old.hands.lives) (carried_here old.hands new.hands who wish answer c) legal kept actors done few

pub ranked : (old new : Scheduled) (who : ℕ) (a b : Acting) (wish next : Wish) → slice_get old.actors who ≡ Some a → slice_get new.actors who ≡ Some b → rank b next < rank a wish → rank_at new who next < rank_at old who wish
ranked old new who a b wish next one two below = rw (one, two) below

-- for every history that stands for the scheduler
pub one_more : (old new : Scheduled) (who : ℕ) (wish next : Wish) (answer : Heard) (r : Ready old who wish) → Carrying old.hands new.hands who wish answer → AllLegal new.hands.lives
    → new.actors ≡ slice_set old.actors who (next_acting r.acting answer) → next ≡ next_wish r.acting answer → OneMore old new who wish next
one_more old new who wish next answer r c legal actors is = λ births s history st said.
    let a = r.acting in
    let d = c births (entries history) st.lives in
    let now : new.hands.lives ≡ lives_of births (d.made ++ entries history) = ap (λ (h : Handed). h.lives) d.is in
    let lawful : AllLegal (lives_of births (d.made ++ entries history)) = subst AllLegal now legal in
    let mine : ActorKeeps (lives_of births (entries history)) who a = subst (λ (ls : List Life). ActorKeeps ls who a) st.lives (r.keeps.each who a r.is) in
    let on : (object : ℕ) (call : Call) → wish ≡ wishes.Act object call → object < length births =
    λ object call w. acts_within births (entries history) who a object call mine (subst (λ (x : Wish). Pending a x) w r.pending) in
    record {
      answer = answer;
      made = d.made;
      stands = stands_heard births s history old new who wish answer a st said r.is d (parking births d.made (entries history) who wish answer lawful d.carries on) actors;
      said = is ∙ ap (λ (x : Acting). next_wish x answer) (st.actors who a r.is) ∙ ap (λ (o : Out). o.said) (sym (out_own s who (Hears answer d.made) history));
    }

pub if_some : (o : Option ℕ) (n : ℕ) → ((k : ℕ) → o ≡ Some k → k < n) → IfSome o (λ k. k < n)
if_some None n go = tt
if_some (Some k) n go = go k refl

-- few frames are frames_asked for, where the code has read how many
pub asks_few : (answer : Heard) (n : ℕ) → n ≡ frames_asked answer → n < 4294967296 → AsksFew answer
asks_few answer n is small m said = let e : n ≡ m = is ∙ ap frames_asked said in rw (sym e) small
