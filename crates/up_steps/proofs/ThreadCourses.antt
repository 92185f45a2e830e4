-- On one thread each actor's events are a course, and its entries are the tale of it.
use Rattle.std.proofs.Common.{◌≡◌, ℕ, ◌==◌, ◌++◌, Bool, true, false, cond, List, [], ◌∷◌, refl, sym, ap, ◌∙◌, subst, arith}
use Rattle.std.proofs.lemmas.Bool.Decides.{nat_tests}
use Rattle.up_worker.specs.Courses.{Entered, Event, Begins, Hears, tale, lines as begun, IsCourse}
use Rattle.up_worker.specs.Rules.{Rules}
use Rattle.up_worker.specs.declared.wish.Wish.{Wish}
use Rattle.up_worker.proofs.CourseRules.{keeps_rules}
use Rattle.up_steps.specs.Laws.{AllTold, KeepsRules}
use Rattle.up_steps.specs.Steps.{Setting, Moment, AllBy}
use Rattle.up_steps.specs.Told.{own, kind_at, objects_at}
use Rattle.up_steps.specs.OneThread.{ActorEvent, entries, events_of, actor_at, said_by, made_by, moment_in, Follows, OneThread}
use Rattle.up_steps.proofs.OwnEntries.{own_mine, own_other, carries_by}
use Rattle.up_steps.proofs.PlainBlocks.{out_after}

follows_by : (s : Setting) (m : Moment) (who : ℕ) (said : Wish) (event : Event) (g : List Entered) → Follows s m who said event g → AllBy who (made_by event)
follows_by s m who said (Begins doing) g f = tt
follows_by s m who said (Hears answer made) g f = carries_by who said answer made f.carries

lives_more : (s : Setting) (m : Moment) (who : ℕ) (events : List Event) (event : Event) (g : List Entered) → Follows s m who (out_after s who events).said event g
    → (AllTold (begun events) → IsCourse who (actor_at s who) events) → AllTold (begun (event ∷ events)) → IsCourse who (actor_at s who) (event ∷ events)
lives_more s m who events (Begins doing) g f lived told = (lived told.1, f, told.0)
lives_more s m who events (Hears answer made) g f lived told = (lived told, f.carries)

lived_by : (mine : Bool) (s : Setting) (who : ℕ) (d : ActorEvent) (before : List ActorEvent) → (d.who == who) ≡ mine
    → Follows s (moment_in s before) d.who (said_by s d.who before) d.event (entries before)
    → (AllTold (begun (events_of who before)) → IsCourse who (actor_at s who) (events_of who before))
    → AllTold (begun (cond mine (d.event ∷ events_of who before) (events_of who before))) → IsCourse who (actor_at s who) (cond mine (d.event ∷ events_of who before) (events_of who before))
lived_by true s who d before is f lived told =
    let same : d.who ≡ who = grind (arith, nat_tests) in
    let here : Follows s (moment_in s before) who (said_by s who before) d.event (entries before) =
    subst (λ k. Follows s (moment_in s before) k (said_by s k before) d.event (entries before)) same f in
    lives_more s (moment_in s before) who (events_of who before) d.event (entries before) here lived told
lived_by false s who d before is f lived told = lived told

lived_in : (s : Setting) (who : ℕ) (history : List ActorEvent) → OneThread s history → AllTold (begun (events_of who history)) → IsCourse who (actor_at s who) (events_of who history)
lived_in s who [] one told = tt
lived_in s who (d ∷ before) one told = lived_by (d.who == who) s who d before refl one.1 (lived_in s who before one.0) told

tale_more : (event : Event) (events : List Event) → tale (event ∷ events) ≡ made_by event ++ tale events
tale_more (Begins doing) events = refl
tale_more (Hears answer made) events = refl

tale_by : (mine : Bool) (who : ℕ) (d : ActorEvent) (before : List ActorEvent) → (d.who == who) ≡ mine → AllBy d.who (made_by d.event)
    → own who (entries before) ≡ tale (events_of who before)
    → own who (made_by d.event ++ entries before) ≡ tale (cond mine (d.event ∷ events_of who before) (events_of who before))
tale_by true who d before is by rest =
    let same : d.who ≡ who = grind (arith, nat_tests) in
    own_mine who (made_by d.event) (entries before) (subst (λ k. AllBy k (made_by d.event)) same by)
    ∙ (ap (λ xs. made_by d.event ++ xs) rest ∙ sym (tale_more d.event (events_of who before)))
tale_by false who d before is by rest = own_other d.who who (made_by d.event) (entries before) by is ∙ rest

own_tale : (s : Setting) (who : ℕ) (history : List ActorEvent) → OneThread s history → own who (entries history) ≡ tale (events_of who history)
own_tale s who [] one = refl
own_tale s who (d ∷ before) one =
    tale_by (d.who == who) who d before refl (follows_by s (moment_in s before) d.who (said_by s d.who before) d.event (entries before) one.1) (own_tale s who before one.0)

pub keeps_own_rules : KeepsRules
keeps_own_rules s who history one told =
    subst Rules (sym (own_tale s who history one))
    (keeps_rules who (kind_at s.actors who) (objects_at s.actors who) (events_of who history) (lived_in s who history one told))
