-- What is made for the wishes of a worker's turns is so many steps.
use Rattle.std.proofs.Common.{◌≡◌, ℕ, ◌+◌, ◌-◌, ◌==◌, ◌++◌, Bool, true, false, cond, Option, Some, None, List, [], ◌∷◌, suc, refl, sym, ap, ◌∙◌, subst, arith, append-nil}
use Rattle.std.proofs.lemmas.Bool.Decides.{nat_tests}
use Rattle.std.proofs.lemmas.List.{append_assoc}
use Rattle.up_span.specs.declared.run.Run.{Run}
use Rattle.up_model.specs.declared.entry.Birth.{Birth}
use Rattle.up_claims.specs.declared.step.SiteReply.{SiteReply}
use Rattle.up_claims.specs.declared.step.SiteReply.TheVariants as sites
use Rattle.up_claims.specs.declared.step.SiteStep.{SiteStep}
use Rattle.up_worker.specs.Frames.{Judge}
use Rattle.up_worker.specs.Courses.{Entered}
use Rattle.up_worker.specs.Program.{Spoken, step_of, task_after, frames_first, frames_asked, says, turn_begins, turn_goes, turn_says, hears_in, wish_for}
use Rattle.up_worker.specs.Turning.{StepDone, Gathered, Tries, Once, Again, TaskDone, Bare, Framed, TurnSteps}
use Rattle.up_worker.specs.declared.paging.Paging.{Paging}
use Rattle.up_worker.specs.declared.paging.SiteLine.TheVariants.{Turns}
use Rattle.up_worker.specs.declared.task.Task.{Task}
use Rattle.up_worker.specs.declared.wish.Heard.{Heard}
use Rattle.up_worker.specs.declared.wish.Wish.{Wish}
use Rattle.up_worker.specs.declared.wish.Wish.TheVariants as wishes
use Rattle.up_turns.specs.Following.{Carried, made_in, hears_by, hears_next, led_to, CarriesOn, Follows}
use Rattle.up_turns.specs.Laws.{TurnIsSteps}

-- whatever tries the step from here on, with what was made for it so far, does the task; and whatever gathers
-- so many and then tries
abbrev ByTry : Judge → (ℕ → Birth) → ℕ → ℕ → Paging → List Entered → List Entered → List Entered → Type 0
ByTry j births who object p before part begun = (now : List Entered) (answer : SiteReply)
    → Tries j births who object (step_of p.task p.set) p.hand before now answer
    → TaskDone j births who object p.task p.set begun (now ++ part) answer

abbrev ByGathering : Judge → (ℕ → Birth) → ℕ → ℕ → Paging → ℕ → List Entered → List Entered → List Entered
    → Type 0
ByGathering j births who object p count before part begun = (g : Gathered j who count before)
    (now : List Entered) (answer : SiteReply)
    → Tries j births who object (step_of p.task p.set) g.brought (g.evicts ++ before) now answer
    → TaskDone j births who object p.task p.set begun (now ++ (g.evicts ++ part)) answer

abbrev Awaits : Judge → (ℕ → Birth) → ℕ → ℕ → Paging → Wish → List Entered → List Entered → List Entered
    → Type 0
Awaits j births who object p (wishes.Site on step) before part begun =
    (on ≡ object) × (step ≡ step_of p.task p.set) × ByTry j births who object p before part begun
Awaits j births who object p
    (wishes.Gather count) before part begun = ByGathering j births who object p count before part begun
Awaits j births who object p _ before part begun = ⊥

-- In the middle of a turn: some steps are done, with the entries `old`, and `part` was made for the present
-- one.
record Under (j : Judge) (births : ℕ
    → Birth) (who object count : ℕ) (task : Task) (set : List Run) (start made all : List Entered)
    (s : Spoken) : Type 0 where
  done : ℕ
  old : List Entered
  part : List Entered
  is : made ≡ part ++ old
  turns : TurnSteps j births who object task set done start old s.paging.task
  same : s.paging.set ≡ set
  left : done + s.paging.left ≡ count
  more : (s.paging.left == 0) ≡ false
  line : s.paging.line ≡ Some (Turns object)
  awaits : Awaits j births who object s.paging s.wish all part (old ++ start)

abbrev Holds : Judge → (ℕ → Birth) → ℕ → ℕ → ℕ → Task → List Run → List Entered → List Entered
    → List Entered → Paging → Wish → Type 0
Holds j births who object count task set start made all p wishes.LineEnd = TurnSteps j births who object
    task set count start made p.task
Holds j births who object count task set start made all p wish =
    Under j births who object count task set start made all (record { paging = p; wish = wish })

some_is : (m n : ℕ) → Some m ≡ Some n → m ≡ n
some_is m n is = ap (λ (o : Option ℕ). elim o [ Some k ↦ k | None ↦ m ]) is

pub asked_is : (reply : SiteReply) (m : ℕ) → frames_asked reply ≡ Some m → reply ≡ sites.Needs m
asked_is (sites.Needs n) m is = ap sites.Needs (some_is n m is)
asked_is _ m is = absurd cc

module _ (j : Judge) (births : ℕ
    → Birth) (who object count : ℕ) (task : Task) (set : List Run) (start : List Entered) where
  abbrev Here : List Entered → List Entered → Spoken → Type 0
  Here made all s = Holds j births who object count task set start made all s.paging s.wish

  ready : (made : List Entered) (p : Paging) (done : ℕ) (few : Bool) → (frames_first p.task == 0) ≡ few
      → TurnSteps j births who object task set done start made p.task → p.set ≡ set
      → done + p.left ≡ count → (p.left == 0) ≡ false
      → p.line ≡ Some (Turns object)
      → Here made (made ++ start) (says p (cond few (wishes.Site object (step_of p.task p.set))
      (wishes.Gather (frames_first p.task))))
  ready made p done true few turns same left more line = record {
    done = done;
    old = made;
    part = [];
    is = refl;
    turns = turns;
    same = same;
    left = left;
    more = more;
    line = line;
    awaits = (
      refl,
      refl,
      λ now answer tries. subst (λ (xs : List Entered). TaskDone j births who object p.task p.set
          (made ++ start) xs answer)
          (sym (append-nil now)) (Bare (made ++ start) now answer few tries),
    );
  }
  ready made p done false few turns same left more line = record {
    done = done;
    old = made;
    part = [];
    is = refl;
    turns = turns;
    same = same;
    left = left;
    more = more;
    line = line;
    awaits = λ g now answer tries.
        subst (λ (xs : List Entered). TaskDone j births who object p.task p.set (made ++ start)
        (now ++ xs) answer)
        (sym (append-nil g.evicts)) (Framed (made ++ start) now answer few g tries);
  }

  begins_by : (over : Bool) (made : List Entered) (p : Paging) (done : ℕ) → (p.left == 0) ≡ over
      → TurnSteps j births who object task set done start made p.task → p.set ≡ set
      → done + p.left ≡ count → p.line ≡ Some (Turns object)
      → Here made (made ++ start) (says p (cond over wishes.LineEnd (wish_for object p.task p.set)))
  begins_by true made p done is turns same left line =
      let none : p.left ≡ 0 = grind (arith, nat_tests) in
      let all : done ≡ count = omega arith in
      subst (λ (n : ℕ). TurnSteps j births who object task set n start made p.task) all turns
  begins_by false made p done is turns same left line =
      ready made p done (frames_first p.task == 0) refl turns same left is line

  -- the next task is begun, or the turn is over
  begins : (made all : List Entered) (p : Paging) (done : ℕ) → all ≡ made ++ start
      → TurnSteps j births who object task set done start made p.task → p.set ≡ set
      → done + p.left ≡ count → p.line ≡ Some (Turns object)
      → Here made all (turn_says object p)
  begins made all p done whole turns same left line =
      subst (λ (xs : List Entered). Here made xs (turn_says object p)) (sym whole)
      (begins_by (p.left == 0) made p done refl turns same left line)

  -- a step was made, which asks for frames, or does the task
  stepped : (asked : Option ℕ) (made all now : List Entered) (p : Paging) (wish : Wish)
      (reply : SiteReply) → frames_asked reply ≡ asked
      → all ≡ made ++ start
      → (u : Under j births who object count task set start made all (record { paging = p; wish = wish }))
      → ByTry j births who object p all u.part (u.old ++ start)
      → StepDone births who object (step_of p.task p.set) p.hand all now reply
      → Here (now ++ made) (now ++ all) (turn_goes asked object p reply)
  stepped (Some m) made all now p wish reply asked whole u try done = record {
    done = u.done;
    old = u.old;
    part = now ++ u.part;
    is = ap (λ (xs : List Entered). now ++ xs) u.is ∙ sym (append_assoc now u.part u.old);
    turns = u.turns;
    same = u.same;
    left = u.left;
    more = u.more;
    line = u.line;
    awaits = λ g rest answer tries.
        let needs = subst (λ (r : SiteReply). StepDone births who object
        (step_of p.task p.set) p.hand all now r) (asked_is reply m asked) done in
        let again = try (rest ++ (g.evicts ++ now)) answer
        (Again p.hand all now m rest answer needs g tries) in
        subst (λ (xs : List Entered). TaskDone j births who object p.task p.set (u.old ++ start) xs answer)
        (append_assoc rest (g.evicts ++ now) u.part
        ∙ ap (λ (xs : List Entered). rest ++ xs) (append_assoc g.evicts now u.part)) again;
  }
  stepped None made all now p wish reply asked whole u try done =
      let does = subst (λ (set : List Run). TaskDone j births who object p.task set (u.old ++ start)
      (now ++ u.part) reply) u.same
      (try now reply (Once p.hand all now reply done asked)) in
      let left : p.left ≡ (p.left - 1) + 1 = (let more = u.more in grind (arith, nat_tests)) in
      let count_is = u.left in
      begins (now ++ made) (now ++ all) (record p { task = task_after p.task reply; left = p.left - 1 })
      (suc u.done)
      (ap (λ (xs : List Entered). now ++ xs) whole ∙ sym (append_assoc now made start)) (
        p.task,
        u.old,
        now ++ u.part,
        reply,
        ap (λ (xs : List Entered). now ++ xs) u.is ∙ sym (append_assoc now u.part u.old),
        u.turns,
        does,
        refl,
      )
      u.same (omega arith) u.line

  hears_on : (made all : List Entered) (p : Paging) (wish : Wish) (answer : Heard) (now : List Entered)
      → all ≡ made ++ start
      → Holds j births who object count task set start made all p wish
      → CarriesOn j births who p.hand wish answer now all
      → Here (now ++ made) (now ++ all) (hears_next (record { paging = p; wish = wish }) answer)
  hears_on made all p wishes.LineEnd answer now whole h k = absurd k
  hears_on made all p (wishes.Site on step) answer now whole h k =
      let did = subst (λ (s : SiteStep). StepDone births who object s p.hand all now k.0) h.awaits.1
      (subst (λ (o : ℕ). StepDone births who o step p.hand all now k.0) h.awaits.0 k.2) in
      subst (λ line. Here (now ++ made) (now ++ all) (hears_by line p answer)) (sym h.line)
      (subst (λ (a : Heard). Here (now ++ made) (now ++ all) (hears_in (Turns object) p a)) (sym k.1)
      (stepped (frames_asked k.0) made all now p (wishes.Site on step) k.0 refl whole h h.awaits.2 did))
  hears_on made all p (wishes.Gather m) answer now whole h k =
      subst (λ line. Here (now ++ made) (now ++ all) (hears_by line p answer)) (sym h.line)
      (subst (λ (a : Heard). Here (now ++ made) (now ++ all) (hears_in (Turns object) p a)) (sym k.1)
      (record {
        done = h.done;
        old = h.old;
        part = now ++ h.part;
        is = ap (λ (xs : List Entered). now ++ xs) h.is ∙ sym (append_assoc now h.part h.old);
        turns = h.turns;
        same = h.same;
        left = h.left;
        more = h.more;
        line = h.line;
        awaits = (
          refl,
          refl,
          λ rest reply tries. h.awaits
              (record { brought = k.0; evicts = now; own = k.2; judged = k.3 }) rest reply tries,
        );
      }))
  hears_on made all p _ answer now whole h k = absurd h.awaits

pub turn_is_steps : (j : Judge) → TurnIsSteps j
turn_is_steps j births who object count p start heard follows over =
    subst (λ (w : Wish). Holds j births who object count p.task p.set start (made_in heard)
    (made_in heard ++ start)
    (led_to (turn_begins p object count) heard).paging w) over (all_hold heard follows)
  where
    all_hold : (heard : List Carried) → Follows j births who (turn_begins p object count) start heard
        → Holds j births who object count p.task p.set start (made_in heard) (made_in heard ++ start)
        (led_to (turn_begins p object count) heard).paging (led_to (turn_begins p object count) heard).wish
    all_hold [] follows =
        begins j births who object count p.task p.set start [] start (record p {
          line = Some
              (Turns object);
          left = count;
        }) 0 refl
        (refl, refl) refl (omega arith) refl
    all_hold (c ∷ before) follows =
        let now = led_to (turn_begins p object count) before in
        subst (λ (xs : List Entered). Holds j births who object count p.task p.set start
        (c.made ++ made_in before) xs
        (hears_next now c.answer).paging (hears_next now c.answer).wish) (sym (append_assoc c.made
        (made_in before) start))
        (hears_on j births who object count p.task p.set start (made_in before)
        (made_in before ++ start) now.paging now.wish c.answer c.made refl
        (all_hold before follows.0) follows.1)
