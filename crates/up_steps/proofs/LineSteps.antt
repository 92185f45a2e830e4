-- Line by line: the steps of lines are one list.
use Rattle.std.proofs.Common.{◌≡◌, ℕ, ◌-◌, ◌++◌, ◌⊎◌, Bool, true, false, cond, Option, Some, None, List, [], ◌∷◌, refl, sym, ap, ◌∙◌, subst, inl, inr, slice_get, append_assoc}
use Rattle.up_model.specs.declared.entry.Call.{Call}
use Rattle.up_model.specs.declared.entry.Call.TheVariants as calls
use Rattle.up_model.specs.declared.entry.Reply.{Reply}
use Rattle.up_evictor.specs.Levels.{level_of, age_limits}
use Rattle.up_evictor.specs.Relief.{Ask, Relieves, turns}
use Rattle.up_evictor.specs.declared.levels.Level.TheVariants.{Empty}
use Rattle.up_script.specs.Objects.{is_evictor}
use Rattle.up_script.specs.declared.script.Action.{Action}
use Rattle.up_script.specs.declared.script.Action.TheVariants as actions
use Rattle.up_script.specs.declared.script.Kind.{Kind}
use Rattle.up_script.specs.declared.script.Line.{Line}
use Rattle.up_worker.specs.Calls.{calls_in}
use Rattle.up_worker.specs.Courses.{Entered, is_evict, OwnEvicts}
use Rattle.up_worker.specs.Thread.{reclaims_of}
use Rattle.up_worker.specs.declared.course.Aim.{Aim}
use Rattle.up_worker.specs.declared.course.Doing.{Doing}
use Rattle.up_steps.specs.Asked.{without_evicts, settled_in, ticket_in, AreNext, IsDone}
use Rattle.up_steps.specs.Laws.{Answered, StepsDecide}
use Rattle.up_steps.specs.Steps.{Setting, Moment, moment_after, AllBy, EvictsOne, AllMade, OneCall, Evictors, IsFar, GoesFar, Does, Block, LineDone}
use Rattle.up_steps.specs.Told.{own, last_parks, parked, is_go, given_to, kind_at, objects_at, Told, ToldInPart}
use Rattle.up_steps.proofs.EntriesByLines.{done_none, Under, told_under_none, under_once, For, told_for_all, part_for}
use Rattle.up_steps.proofs.CallsAndEvicts.{without_append}
use Rattle.up_steps.proofs.GrowingLists.{Chain, decided, Common, commons, same_next}
use Rattle.up_steps.proofs.OneListOfSteps.{Ways, OneWay, Next, next_once, IsCall, AreCalls, whole_chain, some_under}
use Rattle.up_steps.proofs.OwnEntries.{own_mine}
use Rattle.up_steps.proofs.OneRelief.{Relieved, NextEvict, Evicts, own_evict, relief_of, same_evict, ends_relief}

abbrev Rule : Type 0
Rule = List Entered → ℕ → ℕ → ℕ → Call → Reply

-- the calls of one line
abbrev LineWay : List Aim → Ways
LineWay line ps one ticket = (slice_get line (settled_in ps) ≡ Some one) × (ticket ≡ ticket_in ps)

abbrev some_aim : Aim → Option Aim → Aim
some_aim one None = one
some_aim one (Some other) = other

line_once : (line : List Aim) → OneWay (LineWay line)
line_once line ps one two ticket held u v = (ap (λ o. some_aim one o) (sym u.0 ∙ v.0), u.1 ∙ sym v.1)

line_call : (test : Bool) (line : List Aim) (x : Entered) (c : List Entered) → is_evict x.entry.call ≡ test
    → AreNext line false (cond test (without_evicts c) (x ∷ without_evicts c)) → AreNext line false (without_evicts c) × (is_evict x.entry.call ≡ false → IsCall (LineWay line) c x)
line_call true line x c is next = (next, λ other. absurd (let wrong : true ≡ false = sym is ∙ other in cc))
line_call false line x c is next = (
  next.0,
  λ other. record { one = next.1.aim; ticket = ticket_in (without_evicts c); under = (next.1.is, refl); object = next.1.on; brought = next.1.brought; made = next.1.made },
)

line_calls : (line : List Aim) (made : List Entered) → AreNext line false (without_evicts made) → AreCalls (LineWay line) made
line_calls line [] next = tt
line_calls line (x ∷ c) next =
    let both = line_call (is_evict x.entry.call) line x c refl next in
    (line_calls line c both.0, both.1)

line_ends : (line : List Aim) (s : Setting) (m : Moment) (due : Rule) (start : List Entered) (who : ℕ) (c : List Entered) (y : Entered) → IsDone line false (without_evicts c)
    → Next (LineWay line) s m due start who c y → ⊥
line_ends line s m due start who c y done next =
    let u = some_under (LineWay line) s m due start who c y next in
    done_none line false (without_evicts c) u.one done u.under.0 (λ access. absurd cc)

calls_once : (s : Setting) (m : Moment) (due : Rule) (objects : List ℕ) (who : ℕ) (action : Action) (start a b : List Entered) → AllMade s m objects action start a
    → AllMade s m objects action start b → Chain (Common due start who m.ages) a → Chain (Common due start who m.ages) b → a ≡ b
calls_once s m due objects who action start a b one two first second =
    let line = calls_in objects action in
    let U = LineWay line in
    decided (Next U s m due start who) (λ c. IsDone line false (without_evicts c)) (next_once U (line_once line) s m due start who)
    (line_ends line s m due start who) a b
    (whole_chain U s m due start who a one.framed (line_calls line a one.next) first)
    (whole_chain U s m due start who b two.framed (line_calls line b two.next) second) one.done two.done

-- a relief
abbrev NextOf : ℕ → List Ask → Rule → List Entered → ℕ → ℕ → List Entered → Entered → Type 0
NextOf want asks due start who epoch c x = Common due start who epoch c x × NextEvict want asks c x

both_chains : (want : ℕ) (asks : List Ask) (due : Rule) (start : List Entered) (who epoch : ℕ) (made : List Entered) → Chain (Common due start who epoch) made
    → Evicts want asks made → Chain (NextOf want asks due start who epoch) made
both_chains want asks due start who epoch [] common evicts = tt
both_chains want asks due start who epoch (x ∷ made) common evicts =
    (both_chains want asks due start who epoch made common.0 evicts.0, (common.1, evicts.1))

relief_next : (want : ℕ) (asks : List Ask) (due : Rule) (start : List Entered) (who epoch : ℕ) (c : List Entered) (x y : Entered)
    → NextOf want asks due start who epoch c x → NextOf want asks due start who epoch c y → x ≡ y
relief_next want asks due start who epoch c x y one two =
    let same = same_evict want asks c x y one.1 two.1 in same_next due start who epoch c x y one.0 two.0 same.0 same.1

relief_ends : (want : ℕ) (asks : List Ask) (due : Rule) (start : List Entered) (who epoch : ℕ) (c : List Entered) (y : Entered) → Relieved want asks (reclaims_of c)
    → NextOf want asks due start who epoch c y → ⊥
relief_ends want asks due start who epoch c y done next = ends_relief want asks c y done next.1

pub relief_once : (want : ℕ) (asks : List Ask) (due : Rule) (start : List Entered) (who epoch : ℕ) (a b : List Entered) → OwnEvicts who a → OwnEvicts who b
    → Relieves want asks [] (reclaims_of a) → Relieves want asks [] (reclaims_of b) → Chain (Common due start who epoch) a → Chain (Common due start who epoch) b → a ≡ b
relief_once want asks due start who epoch a b own other one two first second =
    let r = relief_of want asks a (own_evict who a own) one in
    let t = relief_of want asks b (own_evict who b other) two in
    decided (NextOf want asks due start who epoch) (λ c. Relieved want asks (reclaims_of c)) (relief_next want asks due start who epoch)
    (relief_ends want asks due start who epoch) a b (both_chains want asks due start who epoch a first r.evicts) (both_chains want asks due start who epoch b second t.evicts)
    r.ends t.ends

-- one evict
evict_once : (due : Rule) (start : List Entered) (who epoch object limit most : ℕ) (a b : List Entered) → EvictsOne object limit most a → EvictsOne object limit most b
    → Chain (Common due start who epoch) a → Chain (Common due start who epoch) b → a ≡ b
evict_once due start who epoch object limit most a b one two first second =
    let x = subst (λ xs. Chain (Common due start who epoch) xs) one.is first in
    let y = subst (λ xs. Chain (Common due start who epoch) xs) two.is second in
    one.is ∙ (ap (λ e. e ∷ []) (same_next due start who epoch [] one.entry two.entry x.1 y.1 (one.on ∙ sym two.on) (one.call ∙ sym two.call)) ∙ sym two.is)

call_once : (s : Setting) (m : Moment) (due : Rule) (objects : List ℕ) (who object : ℕ) (call : Call) (start a b : List Entered) → OneCall s m objects object call start a
    → OneCall s m objects object call start b → Chain (Common due start who m.ages) a → Chain (Common due start who m.ages) b → a ≡ b
call_once s m due objects who object (calls.Evict limit most) start a b one two first second = evict_once due start who m.ages object limit most a b one two first second
call_once s m due objects who object call start a b one two first second = calls_once s m due objects who (actions.Act object call) start a b one two first second

evictors_once : (s : Setting) (m : Moment) (due : Rule) (objects : List ℕ) (who : ℕ) (action : Action) (start a b : List Entered) → Evictors s m objects who action start a
    → Evictors s m objects who action start b → Chain (Common due start who m.ages) a → Chain (Common due start who m.ages) b → a ≡ b
evictors_once s m due objects who (actions.Relieve frames) start a b one two first second =
    relief_once frames (turns (age_limits Empty) s.objects) due start who m.ages a b one.0 two.0 one.1 two.1 first second
evictors_once s m due objects who actions.Watch start a b one two first second =
    relief_once (s.levels.warn - s.home start) (turns (age_limits (level_of s.levels (s.home start))) s.objects) due start who m.ages a b one.0 two.0 one.1 two.1 first second
evictors_once s m due objects who (actions.Act object call) start a b one two first second = call_once s m due objects who object call start a b one two first second
evictors_once s m due objects who action start a b one two first second = calls_once s m due objects who action start a b one two first second

-- the lines of an actor that is no evictor
abbrev FarWay : Kind → List ℕ → List Doing → List Entered → Ways
FarWay kind objects given t ps one ticket = Under kind objects given (ps ++ t) one ticket

far_way_once : (kind : Kind) (objects : List ℕ) (given : List Doing) (t : List Entered) → OneWay (FarWay kind objects given t)
far_way_once kind objects given t ps one two ticket held u v = under_once kind objects given (ps ++ t) one two ticket held u v

abbrev GivenAt : Setting → List Line → ℕ → List Entered → Ways
GivenAt s lines who start = FarWay (kind_at s.actors who) (objects_at s.actors who) (given_to who lines) (without_evicts (own who start))

far_for : (waits : Bool) (s : Setting) (lines : List Line) (who : ℕ) (g a : List Entered) (x : Entered) (t : List Entered) → IsFar s lines who waits g
    → without_evicts (own who g) ≡ a ++ x ∷ t → For (kind_at s.actors who) (objects_at s.actors who) (given_to who lines) t x
far_for false s lines who g a x t far is =
    told_for_all (kind_at s.actors who) (objects_at s.actors who) (given_to who lines) a x t
    (subst (λ xs. Told (kind_at s.actors who) (objects_at s.actors who) (given_to who lines) xs) is far)
far_for true s lines who g a x t far is =
    part_for (kind_at s.actors who) (objects_at s.actors who) (given_to who lines) a x t
    (subst (λ xs. ToldInPart (kind_at s.actors who) (objects_at s.actors who) (given_to who lines) xs) is far)

one_more : (x : Entered) (c : List Entered) → is_evict x.entry.call ≡ false → without_evicts (x ∷ c) ≡ x ∷ without_evicts c
one_more x c other = rw other refl

far_calls : (waits : Bool) (s : Setting) (lines : List Line) (who : ℕ) (start g a c : List Entered) → IsFar s lines who waits g
    → without_evicts (own who g) ≡ without_evicts (a ++ c) ++ without_evicts (own who start) → AreCalls (GivenAt s lines who start) c
far_calls waits s lines who start g a [] far is = tt
far_calls waits s lines who start g a (x ∷ c) far is = (
  far_calls waits s lines who start g (a ++ x ∷ []) c far (is ∙ ap (λ xs. without_evicts xs ++ without_evicts (own who start)) (sym (append_assoc a (x ∷ []) c))),
  λ other.
      (let t = without_evicts (own who start) in
      let stays : without_evicts (x ∷ c) ≡ x ∷ without_evicts c = one_more x c other in
      let whole : without_evicts (own who g) ≡ without_evicts a ++ x ∷ (without_evicts c ++ t) =
      is ∙ (ap (λ xs. xs ++ t) (without_append a (x ∷ c) ∙ ap (λ xs. without_evicts a ++ xs) stays) ∙ append_assoc (without_evicts a) (x ∷ without_evicts c) t) in
      let f = far_for waits s lines who g (without_evicts a) x (without_evicts c ++ t) far whole in
      record { one = f.one; ticket = f.ticket; under = f.under; object = f.object; brought = f.brought; made = f.made }),
)

-- it went as far as it can
abbrev FarEnd : Setting → List Line → ℕ → List Entered → List Entered → Type 0
FarEnd s lines who start c =
    (last_parks c ≡ true) ⊎ Told (kind_at s.actors who) (objects_at s.actors who) (given_to who lines) (without_evicts c ++ without_evicts (own who start))

far_ends : (s : Setting) (m : Moment) (lines : List Line) (due : Rule) (start : List Entered) (who : ℕ) (c : List Entered) (y : Entered) → FarEnd s lines who start c
    → Next (GivenAt s lines who start) s m due start who c y → ⊥
far_ends s m lines due start who c y (inl parked) next = let goes = next.0.goes in let wrong : true ≡ false = sym parked ∙ goes in cc
far_ends s m lines due start who c y (inr told) next =
    let u = some_under (GivenAt s lines who start) s m due start who c y next in
    told_under_none (kind_at s.actors who) (objects_at s.actors who) (given_to who lines) (without_evicts c ++ without_evicts (own who start)) u.one u.ticket told u.under

tale_is : (who : ℕ) (made start : List Entered) → AllBy who made → without_evicts (own who (made ++ start)) ≡ without_evicts made ++ without_evicts (own who start)
tale_is who made start by = ap without_evicts (own_mine who made start by) ∙ without_append made (own who start)

last_made : (made t : List Entered) → last_parks (made ++ t) ≡ true → (made ≡ [] → last_parks t ≡ true → ⊥) → last_parks made ≡ true
last_made [] t parked free = absurd (free refl parked)
last_made (x ∷ made) t parked free = parked

far_end_by : (waits : Bool) (s : Setting) (lines : List Line) (who : ℕ) (start made : List Entered) → parked who (made ++ start) ≡ waits → AllBy who made
    → (made ≡ [] → parked who start ≡ true → ⊥) → IsFar s lines who waits (made ++ start) → FarEnd s lines who start made
far_end_by false s lines who start made is by free far =
    inr (subst (λ xs. Told (kind_at s.actors who) (objects_at s.actors who) (given_to who lines) xs) (tale_is who made start by) far)
far_end_by true s lines who start made is by free far =
    inl (last_made made (own who start) (ap last_parks (sym (own_mine who made start by)) ∙ is) free)

far_once : (s : Setting) (m : Moment) (lines : List Line) (due : Rule) (who : ℕ) (start a b : List Entered) → GoesFar s m lines who start a → GoesFar s m lines who start b
    → AllBy who a → AllBy who b → (a ≡ [] → parked who start ≡ true → ⊥) → (b ≡ [] → parked who start ≡ true → ⊥)
    → Chain (Common due start who m.ages) a → Chain (Common due start who m.ages) b → a ≡ b
far_once s m lines due who start a b one two by other free loose first second =
    let U = GivenAt s lines who start in
    decided (Next U s m due start who) (FarEnd s lines who start)
    (next_once U (far_way_once (kind_at s.actors who) (objects_at s.actors who) (given_to who lines) (without_evicts (own who start))) s m due start who)
    (far_ends s m lines due start who) a b
    (whole_chain U s m due start who a one.framed (far_calls (parked who (a ++ start)) s lines who start (a ++ start) [] a one.far (tale_is who a start by)) first)
    (whole_chain U s m due start who b two.framed (far_calls (parked who (b ++ start)) s lines who start (b ++ start) [] b two.far (tale_is who b start other)) second)
    (far_end_by (parked who (a ++ start)) s lines who start a refl by free one.far)
    (far_end_by (parked who (b ++ start)) s lines who start b refl other loose two.far)

-- the block of a line
does_once : (evicts : Bool) (s : Setting) (m : Moment) (lines : List Line) (due : Rule) (who : ℕ) (action : Action) (start a b : List Entered)
    → Does s m lines who action evicts start a → Does s m lines who action evicts start b
    → AllBy who a → AllBy who b → (a ≡ [] → parked who start ≡ true → ⊥) → (b ≡ [] → parked who start ≡ true → ⊥)
    → Chain (Common due start who m.ages) a → Chain (Common due start who m.ages) b → a ≡ b
does_once true s m lines due who action start a b one two by other free loose first second =
    evictors_once s m due (objects_at s.actors who) who action start a b one two first second
does_once false s m lines due who action start a b one two by other free loose first second =
    far_once s m lines due who start a b one two by other free loose first second

block_once : (go waits : Bool) (s : Setting) (m : Moment) (lines : List Line) (due : Rule) (line : Line) (start a b : List Entered) → parked line.actor start ≡ waits
    → Block s m lines line go waits start a → Block s m lines line go waits start b → AllBy line.actor a → AllBy line.actor b
    → Chain (Common due start line.actor m.ages) a → Chain (Common due start line.actor m.ages) b → a ≡ b
block_once true false s m lines due line start a b is one two by other first second = one ∙ sym two
block_once false true s m lines due line start a b is one two by other first second = one ∙ sym two
block_once true true s m lines due line start a b is one two by other first second =
    does_once (is_evictor (kind_at s.actors line.actor)) s m lines due line.actor line.action start a b one.1 two.1 by other
    (λ none held. one.0 none) (λ none held. two.0 none) first second
block_once false false s m lines due line start a b is one two by other first second =
    does_once (is_evictor (kind_at s.actors line.actor)) s m lines due line.actor line.action start a b one two by other
    (λ none held. (let wrong : true ≡ false = sym held ∙ is in cc)) (λ none held. (let wrong : true ≡ false = sym held ∙ is in cc)) first second

line_done_once : (s : Setting) (m : Moment) (lines : List Line) (due : Rule) (line : Line) (start g h : List Entered) → LineDone s m lines line start g
    → LineDone s m lines line start h → Answered due g → Answered due h → g ≡ h
line_done_once s m lines due line start g h one two first second =
    let a = commons due start line.actor m.ages one.made one.by one.epoch one.stops (subst (λ xs. Answered due xs) one.is first) in
    let b = commons due start line.actor m.ages two.made two.by two.epoch two.stops (subst (λ xs. Answered due xs) two.is second) in
    let same = block_once (is_go line.action) (parked line.actor start) s m lines due line start one.made two.made refl one.block two.block one.by two.by a b in
    one.is ∙ (ap (λ xs. xs ++ start) same ∙ sym two.is)

answered_before : (due : Rule) (made start : List Entered) → Answered due (made ++ start) → Answered due start
answered_before due [] start answered = answered
answered_before due (x ∷ made) start answered = answered_before due made start answered.0

pub steps_decide : StepsDecide
steps_decide s due [] m k g h one two first second = (one.0 ∙ sym two.0, one.1 ∙ sym two.1)
steps_decide s due (line ∷ earlier) m k g h one two first second =
    let a = answered_before due one.4.made one.1 (subst (λ xs. Answered due xs) one.4.is first) in
    let b = answered_before due two.4.made two.1 (subst (λ xs. Answered due xs) two.4.is second) in
    let rest = steps_decide s due earlier one.0 two.0 one.1 two.1 one.2 two.2 a b in
    let moved : LineDone s one.0 (line ∷ earlier) line one.1 h =
    subst (λ t. LineDone s t (line ∷ earlier) line one.1 h) (sym rest.1) (subst (λ xs. LineDone s two.0 (line ∷ earlier) line xs h) (sym rest.0) two.4) in
    let same = line_done_once s one.0 (line ∷ earlier) due line one.1 g h one.4 moved first second in
    (same, one.5 ∙ (ap (λ t. moment_after s t line.actor line.action g) rest.1 ∙ (ap (λ xs. moment_after s two.0 line.actor line.action xs) same ∙ sym two.5)))
