-- Turns and syncs decide their entries.
use Rattle.std.proofs.Common.{◌≡◌, ℕ, ◌-◌, ◌++◌, Bool, true, false, cond, nat_le, Option, Some, None, List, [], ◌∷◌, zero, suc, refl, sym, ap, ◌∙◌, subst, append_assoc}
use Rattle.std.proofs.lemmas.Bool.{false≢true}
use Rattle.up_span.specs.declared.run.Run.{Run}
use Rattle.up_evictor.specs.Levels.{age_limits}
use Rattle.up_evictor.specs.Relief.{turns}
use Rattle.up_evictor.specs.declared.levels.Level.TheVariants.{Empty}
use Rattle.up_model.specs.declared.entry.Birth.{Birth}
use Rattle.up_model.specs.declared.entry.Brought.{Brought}
use Rattle.up_model.specs.declared.entry.Brought.TheVariants.{Nothing, Frames, Scanned}
use Rattle.up_model.specs.declared.entry.Call.{Call}
use Rattle.up_model.specs.declared.entry.Call.TheVariants as calls
use Rattle.up_model.specs.declared.entry.Reply.{Reply}
use Rattle.up_num.specs.declared.answers.Code.TheVariants.{Io}
use Rattle.up_claims.specs.Claimed.{one_page, claim_of}
use Rattle.up_claims.specs.Sited.{Deed, Rests, Makes, Tells, Fact, Fetching, Storing, Flushing, tell_of, deed_of, delivers, answer_of}
use Rattle.up_claims.specs.declared.claim.Claim.{Claim}
use Rattle.up_claims.specs.declared.claim.Claim.TheVariants.{Fetch, Back}
use Rattle.up_claims.specs.declared.step.SiteReply.{SiteReply}
use Rattle.up_claims.specs.declared.step.SiteReply.TheVariants as sites
use Rattle.up_claims.specs.declared.step.SiteStep.{SiteStep}
use Rattle.up_claims.specs.declared.step.SiteStep.TheVariants as steps
use Rattle.up_worker.specs.Courses.{Entered, OwnEvicts}
use Rattle.up_worker.specs.Program.{step_of, task_after, sync_after, set_after, is_busy, frames_first, frames_asked}
use Rattle.up_worker.specs.Thread.{of_object, exact}
use Rattle.up_worker.specs.Turning.{MakesCall, Does, StepDone, Gathered, Tries, Once, Again, TaskDone, Bare, Framed, TurnSteps, SyncEnd, Parked, Done, SyncSteps, Parks, Ends, Next}
use Rattle.up_worker.specs.declared.task.Task.{Task}
use Rattle.up_steps.specs.Deciding.{IsGiven, GivenBy, TurnsDecide, SyncsDecide, LegalTurnsDecide, LegalSyncsDecide}
use Rattle.up_steps.specs.Laws.{Answered}
use Rattle.up_steps.specs.Steps.{AllAt, Stops}
use Rattle.up_steps.proofs.EvictorAnswers.{stops_alone}
use Rattle.up_steps.proofs.GrowingLists.{Chain, Common, same_entry}
use Rattle.up_steps.proofs.LegalReplies.{due_by, answered}
use Rattle.up_steps.proofs.LineSteps.{relief_once}

-- the rules that fix entries
record Grounds : Type 0 where
  due : List Entered → ℕ → ℕ → ℕ → Call → Reply
  ok : List Entered → Bool
  bytes : List Entered → List ℕ
  epoch : ℕ

record Fixed (r : Grounds) (before : List Entered) (x : Entered) : Type 0 where
  at : x.entry.epoch ≡ r.epoch
  reply : x.entry.reply ≡ r.due before x.object x.entry.who x.entry.epoch x.entry.call
  given : IsGiven (r.ok before) (r.bytes before) x.entry.call

abbrev AllFixed : Grounds → List Entered → List Entered → Type 0
AllFixed r start [] = Unit {0}
AllFixed r start (x ∷ made) = AllFixed r start made × Fixed r (made ++ start) x

later_fixed : (r : Grounds) (start old now : List Entered) → AllFixed r start (now ++ old) → AllFixed r (old ++ start) now
later_fixed r start old [] all = tt
later_fixed r start old (x ∷ now) all =
    (later_fixed r start old now all.0, subst (λ (xs : List Entered). Fixed r xs x) (append_assoc now old start) all.1)

earlier_fixed : (r : Grounds) (start old now : List Entered) → AllFixed r start (now ++ old) → AllFixed r start old
earlier_fixed r start old [] all = all
earlier_fixed r start old (x ∷ now) all = earlier_fixed r start old now all.0

-- an entry is known by its object, its actor and its call
one_entry : (r : Grounds) (before : List Entered) (x y : Entered) → Fixed r before x → Fixed r before y → x.object ≡ y.object → x.entry.who ≡ y.entry.who
    → x.entry.call ≡ y.entry.call → x ≡ y
one_entry r before x y a b object whose call =
    let when = a.at ∙ sym b.at in
    same_entry x y object whose when call
    (a.reply ∙ (ap (λ o. r.due before o x.entry.who x.entry.epoch x.entry.call) object
    ∙ (ap (λ w. r.due before y.object w x.entry.epoch x.entry.call) whose
    ∙ (ap (λ e. r.due before y.object y.entry.who e x.entry.call) when
    ∙ (ap (λ k. r.due before y.object y.entry.who y.entry.epoch k) call ∙ sym b.reply)))))

-- what is told of a fact is what the rule says
told_so : (fact : Fact) (good ok : Bool) (bytes : List ℕ) → IsGiven ok bytes (calls.Tell (tell_of fact good)) → good ≡ ok
told_so (Fetching page) good ok bytes given = given
told_so (Storing page) good ok bytes given = given
told_so Flushing good ok bytes given = given

module _ (r : Grounds) (births : ℕ → Birth) (who object : ℕ) (start a b : List Entered) (one two : SiteReply) (first : AllFixed r start a) (second : AllFixed r start b) where
  abbrev OneDid : Deed → Type 0
  OneDid deed = Does (births object) (of_object object start) who object one a deed

  abbrev TwoDid : Deed → Type 0
  TwoDid deed = Does (births object) (of_object object start) who object two b deed

  abbrev Same : Type 0
  Same = (a ≡ b) × (one ≡ two)

  entry_once : (call : Call) (m : MakesCall (births object) (of_object object start) who object one call a)
      (k : MakesCall (births object) (of_object object start) who object two call b) → Same
  entry_once call m k =
      let x : Entered = record { object = object; entry = m.entry } in
      let y : Entered = record { object = object; entry = k.entry } in
      let f : Fixed r start x = (subst (λ (xs : List Entered). AllFixed r start xs) m.is first).1 in
      let s : Fixed r start y = (subst (λ (xs : List Entered). AllFixed r start xs) k.is second).1 in
      let same : x ≡ y = one_entry r start x y f s refl (m.by ∙ sym k.by) (m.of_call ∙ sym k.of_call) in (
        m.is ∙ (ap (λ (e : Entered). e ∷ []) same ∙ sym k.is),
        m.told ∙ (ap (λ (e : Entered). answer_of (births object) (of_object object start) (claim_of (of_object object start) who) call e.entry.reply) same ∙ sym k.told),
      )

  one_given : (call : Call) → MakesCall (births object) (of_object object start) who object one call a → IsGiven (r.ok start) (r.bytes start) call
  one_given call m =
      let f : Fixed r start (record { object = object; entry = m.entry }) = (subst (λ (xs : List Entered). AllFixed r start xs) m.is first).1 in
      subst (λ (c : Call). IsGiven (r.ok start) (r.bytes start) c) m.of_call f.given

  two_given : (call : Call) → MakesCall (births object) (of_object object start) who object two call b → IsGiven (r.ok start) (r.bytes start) call
  two_given call m =
      let f : Fixed r start (record { object = object; entry = m.entry }) = (subst (λ (xs : List Entered). AllFixed r start xs) m.is second).1 in
      subst (λ (c : Call). IsGiven (r.ok start) (r.bytes start) c) m.of_call f.given

  deed_once : (deed : Deed) → OneDid deed → TwoDid deed → Same
  deed_once (Rests said) did other = (did.1 ∙ sym other.1, did.0 ∙ sym other.0)
  deed_once (Makes call) did other = entry_once call did other
  deed_once (Tells fact) did other =
      let f = told_so fact did.0 (r.ok start) (r.bytes start) (one_given (calls.Tell (tell_of fact did.0)) did.1) in
      let s = told_so fact other.0 (r.ok start) (r.bytes start) (two_given (calls.Tell (tell_of fact other.0)) other.1) in
      entry_once (calls.Tell (tell_of fact did.0)) did.1
      (subst (λ (good : Bool). MakesCall (births object) (of_object object start) who object two (calls.Tell (tell_of fact good)) b) (s ∙ sym f) other.1)

  delivery_once : (claim : Option Claim) (brought : Brought) (bytes others : List ℕ) → OneDid (delivers brought bytes claim) → TwoDid (delivers brought others claim) → Same
  delivery_once None brought bytes others did other = deed_once (Rests sites.Passed) did other
  delivery_once (Some (Back range number copied stored)) brought bytes others did other = deed_once (Rests sites.Passed) did other
  delivery_once (Some (Fetch page false)) brought bytes others did other = deed_once (Makes (calls.Fail (one_page page.0) Io)) did other
  delivery_once (Some (Fetch page true)) brought bytes others did other =
      let f : bytes ≡ r.bytes start = one_given (calls.Supply (one_page page.0) bytes brought) did in
      let s : others ≡ r.bytes start = two_given (calls.Supply (one_page page.0) others brought) other in
      entry_once (calls.Supply (one_page page.0) bytes brought) did
      (subst (λ (bs : List ℕ). MakesCall (births object) (of_object object start) who object two (calls.Supply (one_page page.0) bs brought) b) (s ∙ sym f) other)

  step_once : (step : SiteStep) (brought : Brought) → StepDone births who object step brought start a one → StepDone births who object step brought start b two → Same
  step_once (steps.Pick write_first) brought did other =
      deed_once (deed_of (births object) (of_object object start) who brought did.0 (steps.Pick write_first)) did.1 other.1
  step_once steps.Survey brought did other = deed_once (deed_of (births object) (of_object object start) who brought did.0 steps.Survey) did.1 other.1
  step_once (steps.PickFrom set) brought did other =
      deed_once (deed_of (births object) (of_object object start) who brought did.0 (steps.PickFrom set)) did.1 other.1
  step_once steps.Deliver brought did other = delivery_once (claim_of (of_object object start) who) brought did.0 other.0 did.1 other.1
  step_once steps.Copy brought did other = deed_once (deed_of (births object) (of_object object start) who brought did.0 steps.Copy) did.1 other.1
  step_once steps.Store brought did other = deed_once (deed_of (births object) (of_object object start) who brought did.0 steps.Store) did.1 other.1
  step_once steps.End brought did other = deed_once (deed_of (births object) (of_object object start) who brought did.0 steps.End) did.1 other.1
  step_once (steps.Deny kind page) brought did other =
      deed_once (deed_of (births object) (of_object object start) who brought did.0 (steps.Deny kind page)) did.1 other.1
  step_once steps.Flush brought did other = deed_once (deed_of (births object) (of_object object start) who brought did.0 steps.Flush) did.1 other.1

-- a gathering
fixed_common : (r : Grounds) (start : List Entered) (who : ℕ) (made : List Entered) → OwnEvicts who made → AllFixed r start made → Stops made
    → Chain (Common r.due start who r.epoch) made
fixed_common r start who [] own all stops = tt
fixed_common r start who (x ∷ made) own all stops =
    (fixed_common r start who made own.3 all.0 stops.0, record { by = own.0; at = all.1.at; reply = all.1.reply; goes = stops.1 })

module _ (r : Grounds) (home loans : List Entered → ℕ) (objects : ℕ) (births : ℕ → Birth) (who object : ℕ) where
  abbrev AtHome : ℕ → List Entered → Type 0
  AtHome count before = Gathered (exact home loans objects) who count before

  relieved_once : (enough : Bool) (count : ℕ) (before : List Entered) (g h : AtHome count before) → nat_le count (home before) ≡ enough → AllFixed r before g.evicts
      → AllFixed r before h.evicts → g.evicts ≡ h.evicts
  relieved_once true count before g h is first second = g.judged.enough is ∙ sym (h.judged.enough is)
  relieved_once false count before g h is first second =
      relief_once (count - home before) (turns (age_limits Empty) objects) r.due before who r.epoch g.evicts h.evicts g.own h.own (g.judged.relieved is) (h.judged.relieved is)
      (fixed_common r before who g.evicts g.own first (stops_alone who g.evicts g.own)) (fixed_common r before who h.evicts h.own second (stops_alone who h.evicts h.own))

  evicts_once : (count : ℕ) (before : List Entered) (g h : AtHome count before) → AllFixed r before g.evicts → AllFixed r before h.evicts → g.evicts ≡ h.evicts
  evicts_once count before g h first second = relieved_once (nat_le count (home before)) count before g h refl first second

  brought_once : (count : ℕ) (before : List Entered) (g h : AtHome count before) → g.evicts ≡ h.evicts → g.brought ≡ h.brought
  brought_once count before g h same =
      g.judged.brings ∙ (ap (λ (xs : List Entered). cond (nat_le count (home (xs ++ before))) (Frames count) Scanned) same ∙ sym h.judged.brings)

  abbrev Tried : SiteStep → Brought → List Entered → List Entered → SiteReply → Type 0
  Tried step brought before made answer = Tries (exact home loans objects) births who object step brought before made answer

  -- what is asked and what isn't
  asks_never : (G : Type 0) (count : ℕ) (answer : SiteReply) → answer ≡ sites.Needs count → frames_asked answer ≡ None → G
  asks_never G count answer is unasked = absurd (let wrong : Some count ≡ None = sym (ap frames_asked is) ∙ unasked in cc)

  abbrev Alike : List Entered → List Entered → SiteReply → SiteReply → Type 0
  Alike a b one two = (a ≡ b) × (one ≡ two)

  -- what is done with the frames of a gathering, where it is done alike with the same frames after the same evicts
  abbrev OneBehind : SiteStep → Brought → List Entered → List Entered → SiteReply → Type 0
  OneBehind step brought before a one = (b : List Entered) (two : SiteReply) → Tried step brought before b two → AllFixed r before b → Alike a b one two

  behind_once : (step : SiteStep) (count : ℕ) (before : List Entered) (g h : AtHome count before) (a b : List Entered) (one two : SiteReply)
      → AllFixed r before (a ++ g.evicts) → AllFixed r before (b ++ h.evicts) → Tried step h.brought (h.evicts ++ before) b two
      → OneBehind step g.brought (g.evicts ++ before) a one → (g.evicts ≡ h.evicts) × Alike a b one two
  behind_once step count before g h a b one two first second tries rest =
      let evicts = evicts_once count before g h (earlier_fixed r before g.evicts a first) (earlier_fixed r before h.evicts b second) in
      let frames = brought_once count before g h evicts in
      let fixed : AllFixed r (g.evicts ++ before) b = subst (λ (xs : List Entered). AllFixed r (xs ++ before) b) (sym evicts) (later_fixed r before h.evicts b second) in
      let moved : Tried step g.brought (g.evicts ++ before) b two =
      subst (λ (xs : List Entered). Tried step g.brought (xs ++ before) b two) (sym evicts)
      (subst (λ (f : Brought). Tried step f (h.evicts ++ before) b two) (sym frames) tries) in
      (evicts, rest b two moved fixed)

  -- both have asked, and were made again
  abbrev OneAgain : SiteStep → List Entered → List Entered → SiteReply → List Entered → ℕ → Type 0
  OneAgain step before made one asking count = (h : AtHome count (asking ++ before)) (b : List Entered) (two : SiteReply)
      → AllFixed r before (b ++ (h.evicts ++ asking)) → Tried step h.brought (h.evicts ++ (asking ++ before)) b two → Alike made (b ++ (h.evicts ++ asking)) one two

  again_fixed : (before asked evicts a : List Entered) → AllFixed r before (a ++ (evicts ++ asked)) → AllFixed r (asked ++ before) (a ++ evicts)
  again_fixed before asked evicts a all =
      later_fixed r before asked (a ++ evicts) (subst (λ (xs : List Entered). AllFixed r before xs) (sym (append_assoc a evicts asked)) all)

  again_once : (step : SiteStep) (before asked : List Entered) (count : ℕ) (g : AtHome count (asked ++ before)) (a : List Entered) (one : SiteReply)
      → AllFixed r before (a ++ (g.evicts ++ asked)) → OneBehind step g.brought (g.evicts ++ (asked ++ before)) a one
      → OneAgain step before (a ++ (g.evicts ++ asked)) one asked count
  again_once step before asked count g a one first rest h b two second tries =
      let same = behind_once step count (asked ++ before) g h a b one two (again_fixed before asked g.evicts a first) (again_fixed before asked h.evicts b second) tries rest in
      (ap (λ (xs : List Entered). xs ++ (g.evicts ++ asked)) same.1.0 ∙ ap (λ (xs : List Entered). b ++ (xs ++ asked)) same.0, same.1.1)

  some_is : (m n : ℕ) → sites.Needs m ≡ sites.Needs n → m ≡ n
  some_is m n is = ap (λ (a : SiteReply). elim (frames_asked a) [ Some k ↦ k | None ↦ m ]) is

  tries_once : (step : SiteStep) (brought : Brought) (before a b : List Entered) (one two : SiteReply) → Tried step brought before a one → Tried step brought before b two
      → AllFixed r before a → AllFixed r before b → Alike a b one two
  tries_once step held past a c one two (Once brought before made answer did unasked) (Once other behind others reply done none) first second =
      step_once r births who object before made others answer reply first second step brought did done
  tries_once step held past a c one two (Once brought before made answer did unasked) (Again other behind asking count rest reply done g tries) first second =
      let all = earlier_fixed r before asking g.evicts (earlier_fixed r before (g.evicts ++ asking) rest second) in
      let same = step_once r births who object before made asking answer (sites.Needs count) first all step brought did done in
      asks_never (Alike made (rest ++ (g.evicts ++ asking)) answer reply) count answer same.1 unasked
  tries_once step held past a c one two (Again brought before asked count rest answer did g tries) (Once other behind others reply done none) first second =
      let all = earlier_fixed r before asked g.evicts (earlier_fixed r before (g.evicts ++ asked) rest first) in
      let same = step_once r births who object before asked others (sites.Needs count) reply all second step brought did done in
      asks_never (Alike (rest ++ (g.evicts ++ asked)) others answer reply) count reply (sym same.1) none
  tries_once step held past a c one two (Again brought before asked count rest answer did g tries) (Again other behind asking many more reply done h again) first second =
      let all = earlier_fixed r before asked g.evicts (earlier_fixed r before (g.evicts ++ asked) rest first) in
      let others = earlier_fixed r before asking h.evicts (earlier_fixed r before (h.evicts ++ asking) more second) in
      let same = step_once r births who object before asked asking (sites.Needs count) (sites.Needs many) all others step brought did done in
      let goes : OneAgain step before (rest ++ (g.evicts ++ asked)) answer asked count =
      again_once step before asked count g rest answer first
      (λ b two next fixed. tries_once step g.brought (g.evicts ++ (asked ++ before)) rest b answer two tries next
      (subst (λ (xs : List Entered). AllFixed r xs rest) (append_assoc g.evicts asked before) (later_fixed r before (g.evicts ++ asked) rest first)) fixed) in
      let moved : OneAgain step before (rest ++ (g.evicts ++ asked)) answer asking many =
      subst (λ (n : ℕ). OneAgain step before (rest ++ (g.evicts ++ asked)) answer asking n) (some_is count many same.1)
      (subst (λ (xs : List Entered). OneAgain step before (rest ++ (g.evicts ++ asked)) answer xs count) same.0 goes) in
      moved h more reply second again

  abbrev Tasked : Task → List Run → List Entered → List Entered → SiteReply → Type 0
  Tasked task set before made answer = TaskDone (exact home loans objects) births who object task set before made answer

  task_once : (task : Task) (set : List Run) (before a b : List Entered) (one two : SiteReply) → Tasked task set before a one → Tasked task set before b two
      → AllFixed r before a → AllFixed r before b → Alike a b one two
  task_once task set past a c one two (Bare before made answer few tries) (Bare behind others reply small again) first second =
      tries_once (step_of task set) Nothing before made others answer reply tries again first second
  task_once task set past a c one two (Bare before made answer few tries) (Framed behind rest reply some g again) first second = absurd (false≢true (sym some ∙ few))
  task_once task set past a c one two (Framed before rest answer some g tries) (Bare behind others reply few again) first second = absurd (false≢true (sym some ∙ few))
  task_once task set past a c one two (Framed before rest answer some g tries) (Framed behind more reply many h again) first second =
      let same = behind_once (step_of task set) (frames_first task) before g h rest more answer reply first second again
      (λ b two next fixed. tries_once (step_of task set) g.brought (g.evicts ++ before) rest b answer two tries next (later_fixed r before g.evicts rest first) fixed) in
      (ap (λ (xs : List Entered). xs ++ g.evicts) same.1.0 ∙ ap (λ (xs : List Entered). more ++ xs) same.0, same.1.1)

  turns_once : (task : Task) (set : List Run) (count : ℕ) (start a b : List Entered) (next then : Task)
      → TurnSteps (exact home loans objects) births who object task set count start a next → TurnSteps (exact home loans objects) births who object task set count start b then
      → AllFixed r start a → AllFixed r start b → (a ≡ b) × (next ≡ then)
  turns_once task set zero start a b next then one two first second = (one.0 ∙ sym two.0, one.1 ∙ sym two.1)
  turns_once task set (suc n) start a b next then one two first second =
      let all = subst (λ (xs : List Entered). AllFixed r start xs) one.4 first in
      let others = subst (λ (xs : List Entered). AllFixed r start xs) two.4 second in
      let before = turns_once task set n start one.1 two.1 one.0 two.0 one.5 two.5 (earlier_fixed r start one.1 one.2 all) (earlier_fixed r start two.1 two.2 others) in
      let moved : Tasked one.0 set (one.1 ++ start) two.2 two.3 =
      subst (λ (xs : List Entered). Tasked one.0 set (xs ++ start) two.2 two.3) (sym before.0)
      (subst (λ (t : Task). Tasked t set (two.1 ++ start) two.2 two.3) (sym before.1) two.6) in
      let fixed : AllFixed r (one.1 ++ start) two.2 =
      subst (λ (xs : List Entered). AllFixed r (xs ++ start) two.2) (sym before.0) (later_fixed r start two.1 two.2 others) in
      let now = task_once one.0 set (one.1 ++ start) one.2 two.2 one.3 two.3 one.6 moved (later_fixed r start one.1 one.2 all) fixed in (
        one.4 ∙ (ap (λ (xs : List Entered). xs ++ one.1) now.0 ∙ (ap (λ (xs : List Entered). two.2 ++ xs) before.0 ∙ sym two.4)),
        one.7 ∙ (ap (λ (t : Task). task_after t one.3) before.1 ∙ (ap (λ (x : SiteReply). task_after two.0 x) now.1 ∙ sym two.7)),
      )

-- a sync
busy_goes : (G : Type 0) (answer : SiteReply) → is_busy answer ≡ true → sync_after answer ≡ None → G
busy_goes G (sites.Busy range) busy none = absurd cc
busy_goes G _ busy none = absurd cc

abbrev next_of : Task → Option Task → Task
next_of task None = task
next_of task (Some next) = next

module _ (r : Grounds) (births : ℕ → Birth) (who object : ℕ) where
  abbrev Synced : Task → List Run → List Entered → List Entered → SyncEnd → Type 0
  Synced task set before made end = SyncSteps births who object task set before made end

  abbrev OneRest : Task → List Run → List Entered → List Entered → SyncEnd → Type 0
  OneRest task set before a end = (b : List Entered) (last : SyncEnd) → Synced task set before b last → AllFixed r before b → (a ≡ b) × (end ≡ last)

  first_step : (task : Task) (set : List Run) (before a b : List Entered) (one two : SiteReply) → StepDone births who object (step_of task set) Nothing before a one
      → StepDone births who object (step_of task set) Nothing before b two → AllFixed r before a → AllFixed r before b → (a ≡ b) × (one ≡ two)
  first_step task set before a b one two did done first second = step_once r births who object before a b one two first second (step_of task set) Nothing did done

  next_once : (set : List Run) (before a b rest more : List Entered) (one two : SiteReply) (next then : Task) (end last : SyncEnd) → a ≡ b → one ≡ two
      → sync_after one ≡ Some next → sync_after two ≡ Some then → OneRest next (set_after set one) (a ++ before) rest end
      → Synced then (set_after set two) (b ++ before) more last → AllFixed r (b ++ before) more → (rest ++ a ≡ more ++ b) × (end ≡ last)
  next_once set before a b rest more one two next then end last made told after also goes steps fixed =
      let task : next ≡ then = ap (λ (o : Option Task). next_of next o) (sym after ∙ (ap sync_after told ∙ also)) in
      let moved : Synced next (set_after set one) (a ++ before) more last =
      subst (λ (xs : List Entered). Synced next (set_after set one) (xs ++ before) more last) (sym made)
      (subst (λ (x : SiteReply). Synced next (set_after set x) (b ++ before) more last) (sym told)
      (subst (λ (t : Task). Synced t (set_after set two) (b ++ before) more last) (sym task) steps)) in
      let same = goes more last moved (subst (λ (xs : List Entered). AllFixed r (xs ++ before) more) (sym made) fixed) in
      (ap (λ (xs : List Entered). xs ++ a) same.0 ∙ ap (λ (xs : List Entered). more ++ xs) made, same.1)

  syncs_once : (task : Task) (set : List Run) (before a b : List Entered) (end last : SyncEnd) → Synced task set before a end → Synced task set before b last
      → AllFixed r before a → AllFixed r before b → (a ≡ b) × (end ≡ last)
  syncs_once t s past a c end last (Parks task set before made answer did busy) (Parks other others behind more reply done also) first second =
      ((first_step task set before made more answer reply did done first second).0, refl)
  syncs_once t s past a c end last (Parks task set before made answer did busy) (Ends other others behind more reply done none) first second =
      let same = first_step task set before made more answer reply did done first second in
      busy_goes ((made ≡ more) × (Parked set ≡ Done)) answer busy (ap sync_after same.1 ∙ none)
  syncs_once t s past a c end last (Parks task set before made answer did busy) (Next other others behind more reply next rest over done free after steps) first second =
      let same = first_step task set before made more answer reply did done first (earlier_fixed r before more rest second) in
      absurd (false≢true (sym free ∙ (sym (ap is_busy same.1) ∙ busy)))
  syncs_once t s past a c end last (Ends task set before made answer did none) (Parks other others behind more reply done busy) first second =
      let same = first_step task set before made more answer reply did done first second in
      busy_goes ((made ≡ more) × (Done ≡ Parked set)) reply busy (sym (ap sync_after same.1) ∙ none)
  syncs_once t s past a c end last (Ends task set before made answer did none) (Ends other others behind more reply done also) first second =
      ((first_step task set before made more answer reply did done first second).0, refl)
  syncs_once t s past a c end last (Ends task set before made answer did none) (Next other others behind more reply next rest over done free after steps) first second =
      let same = first_step task set before made more answer reply did done first (earlier_fixed r before more rest second) in
      absurd (let wrong : None ≡ Some next = sym none ∙ (ap sync_after same.1 ∙ after) in cc)
  syncs_once t s past a c end last (Next task set before made answer next rest over did free after steps) (Parks other others behind more reply done busy) first second =
      let same = first_step task set before made more answer reply did done (earlier_fixed r before made rest first) second in
      absurd (false≢true (sym free ∙ (ap is_busy same.1 ∙ busy)))
  syncs_once t s past a c end last (Next task set before made answer next rest over did free after steps) (Ends other others behind more reply done none) first second =
      let same = first_step task set before made more answer reply did done (earlier_fixed r before made rest first) second in
      absurd (let wrong : None ≡ Some next = sym none ∙ (sym (ap sync_after same.1) ∙ after) in cc)
  syncs_once t s past a c end last (Next task set before made answer next rest over did free after steps) (Next other others behind more reply then tail close done loose also goes)
      first second =
      let same = first_step task set before made more answer reply did done (earlier_fixed r before made rest first) (earlier_fixed r before more tail second) in
      next_once set before made more rest tail answer reply next then over close same.0 same.1 after also
      (λ b close tries fixed. syncs_once next (set_after set answer) (made ++ before) rest b over close steps tries (later_fixed r before made rest first) fixed) goes
      (later_fixed r before more tail second)

-- all of these entries are fixed
all_given : (due : List Entered → ℕ → ℕ → ℕ → Call → Reply) (ok : List Entered → Bool) (bytes : List Entered → List ℕ) (epoch : ℕ) (start made : List Entered)
    → AllAt epoch made → Answered due (made ++ start) → GivenBy ok bytes (made ++ start) → AllFixed (record { due = due; ok = ok; bytes = bytes; epoch = epoch }) start made
all_given due ok bytes epoch start [] at replies facts = tt
all_given due ok bytes epoch start (x ∷ made) at replies facts =
    (all_given due ok bytes epoch start made at.1 replies.0 facts.0, record { at = at.0; reply = replies.1; given = facts.1 })

pub turns_decide : TurnsDecide
turns_decide home loans objects births due ok bytes epoch who object count task set start g h next then one two first second =
    turns_once (record { due = due; ok = ok; bytes = bytes; epoch = epoch }) home loans objects births who object task set count start g h next then one two
    (all_given due ok bytes epoch start g first.at first.replies first.facts) (all_given due ok bytes epoch start h second.at second.replies second.facts)

pub syncs_decide : SyncsDecide
syncs_decide births due ok bytes epoch who object task set start g h end last one two first second =
    syncs_once (record { due = due; ok = ok; bytes = bytes; epoch = epoch }) births who object task set start g h end last one two
    (all_given due ok bytes epoch start g first.at first.replies first.facts) (all_given due ok bytes epoch start h second.at second.replies second.facts)

pub legal_turns_decide : LegalTurnsDecide
legal_turns_decide home loans objects births ok bytes epoch who object count task set start g h next then one two at also legal lawful facts given =
    turns_decide home loans objects births (due_by births) ok bytes epoch who object count task set start g h next then one two
    (record { at = at; replies = answered births (g ++ start) legal; facts = facts }) (record { at = also; replies = answered births (h ++ start) lawful; facts = given })

pub legal_syncs_decide : LegalSyncsDecide
legal_syncs_decide births ok bytes epoch who object task set start g h end last one two at also legal lawful facts given =
    syncs_decide births (due_by births) ok bytes epoch who object task set start g h end last one two
    (record { at = at; replies = answered births (g ++ start) legal; facts = facts }) (record { at = also; replies = answered births (h ++ start) lawful; facts = given })
