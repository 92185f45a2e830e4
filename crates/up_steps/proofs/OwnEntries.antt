-- One actor's entries and events among all.
use Rattle.std.proofs.Common.{◌≡◌, ℕ, ◌==◌, ◌++◌, true, false, List, [], ◌∷◌, refl, sym, ap, ◌∙◌, subst, arith}
use Rattle.std.proofs.lemmas.Bool.Decides.{nat_tests}
use Rattle.up_worker.specs.Acting.{Acting, next_acting}
use Rattle.up_worker.specs.Courses.{Entered, Event, Begins, Hears, leads, OwnEvicts, Carries}
use Rattle.up_worker.specs.declared.wish.Heard.{Heard}
use Rattle.up_worker.specs.declared.wish.Heard.TheVariants as heard
use Rattle.up_worker.specs.declared.wish.Wish.{Wish}
use Rattle.up_worker.specs.declared.wish.Wish.TheVariants as wishes
use Rattle.up_steps.specs.Steps.{AllBy, AllAt}
use Rattle.up_steps.specs.Told.{own}
use Rattle.up_steps.specs.OneThread.{ActorEvent, events_of}

pub same_test : (n m : ℕ) → n ≡ m → (n == m) ≡ true
same_test n m is = grind (arith, nat_tests)

pub own_mine : (who : ℕ) (made g : List Entered) → AllBy who made → own who (made ++ g) ≡ made ++ own who g
own_mine who [] g by = refl
own_mine who (x ∷ made) g by = let mine = same_test x.entry.who who by.0 in rw mine (ap (λ xs. x ∷ xs) (own_mine who made g by.1))

pub own_other : (who other : ℕ) (made g : List Entered) → AllBy who made → (who == other) ≡ false → own other (made ++ g) ≡ own other g
own_other who other [] g by differs = refl
own_other who other (x ∷ made) g by differs =
    let theirs : (x.entry.who == other) ≡ false = ap (λ w. w == other) by.0 ∙ differs in rw theirs (own_other who other made g by.1 differs)

pub all_by : (who : ℕ) (made more : List Entered) → AllBy who made → AllBy who more → AllBy who (made ++ more)
all_by who [] more by others = others
all_by who (x ∷ made) more by others = (by.0, all_by who made more by.1 others)

pub all_at : (epoch : ℕ) (made more : List Entered) → AllAt epoch made → AllAt epoch more → AllAt epoch (made ++ more)
all_at epoch [] more at others = others
all_at epoch (x ∷ made) more at others = (at.0, all_at epoch made more at.1 others)

pub evicts_by : (who : ℕ) (made : List Entered) → OwnEvicts who made → AllBy who made
evicts_by who [] own = tt
evicts_by who (x ∷ made) own = (own.0, evicts_by who made own.3)

none_by : (who : ℕ) (made : List Entered) → made ≡ [] → AllBy who made
none_by who made is = subst (AllBy who) (sym is) tt

pub carries_by : (who : ℕ) (said : Wish) (answer : Heard) (made : List Entered) → Carries who said answer made → AllBy who made
carries_by who (wishes.Act object call) answer made does = subst (AllBy who) (sym does.is) (does.by, tt)
carries_by who (wishes.Resize object pages) answer made does = subst (AllBy who) (sym does.is) (does.by, tt)
carries_by who (wishes.Gather count) answer made does = evicts_by who made does.own
carries_by who wishes.Loan answer made does = none_by who made does.none
carries_by who (wishes.Park object) answer made does = none_by who made does.none
carries_by who wishes.Age answer made does = none_by who made does.none
carries_by who wishes.Keep answer made does = none_by who made does.none
carries_by who wishes.Give answer made does = none_by who made does.none
carries_by who (wishes.Relieve frames) answer made does = evicts_by who made does.1
carries_by who wishes.Watch answer made does = evicts_by who made does.1
carries_by who (wishes.Site object step) answer made does = absurd does
carries_by who wishes.LineEnd answer made does = absurd does

pub events_mine : (who : ℕ) (d : ActorEvent) (before : List ActorEvent) → d.who ≡ who → events_of who (d ∷ before) ≡ d.event ∷ events_of who before
events_mine who d before is = let mine = same_test d.who who is in rw mine refl

pub events_other : (who other : ℕ) (d : ActorEvent) (before : List ActorEvent) → d.who ≡ who → (who == other) ≡ false → events_of other (d ∷ before) ≡ events_of other before
events_other who other d before is differs = let theirs : (d.who == other) ≡ false = ap (λ w. w == other) is ∙ differs in rw theirs refl

-- an actor stays of its kind, on its objects
kind_next : (a : Acting) (h : Heard) → (next_acting a h).kind ≡ a.kind
kind_next a (heard.Replied reply) = refl
kind_next a (heard.Site reply) = refl
kind_next a (heard.Brought b) = refl
kind_next a heard.Done = refl

objects_next : (a : Acting) (h : Heard) → (next_acting a h).objects ≡ a.objects
objects_next a (heard.Replied reply) = refl
objects_next a (heard.Site reply) = refl
objects_next a (heard.Brought b) = refl
objects_next a heard.Done = refl

pub doing_next : (a : Acting) (h : Heard) → (next_acting a h).doing ≡ a.doing
doing_next a (heard.Replied reply) = refl
doing_next a (heard.Site reply) = refl
doing_next a (heard.Brought b) = refl
doing_next a heard.Done = refl

pub kind_stays : (a : Acting) (events : List Event) → (leads a events).acting.kind ≡ a.kind
kind_stays a [] = refl
kind_stays a (Begins doing ∷ before) = kind_stays a before
kind_stays a (Hears answer made ∷ before) = kind_next (leads a before).acting answer ∙ kind_stays a before

pub objects_stay : (a : Acting) (events : List Event) → (leads a events).acting.objects ≡ a.objects
objects_stay a [] = refl
objects_stay a (Begins doing ∷ before) = objects_stay a before
objects_stay a (Hears answer made ∷ before) = objects_next (leads a before).acting answer ∙ objects_stay a before
