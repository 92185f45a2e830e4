-- The generations of an actor's entries.
use Rattle.std.proofs.Common.{◌≡◌, ℕ, ◌+◌, ◌-◌, ◌<◌, ◌≤◌, ◌++◌, ◌⊎◌, inl, inr, ltb, Bool, true, false, cond, List, [], ◌∷◌, refl, sym, ◌∙◌, subst, arith}
use Rattle.std.proofs.lemmas.Bool.{ltb-true, ltb-false}
use Rattle.up_script.specs.declared.script.Action.{Action}
use Rattle.up_script.specs.declared.script.Action.TheVariants as actions
use Rattle.up_worker.specs.Acting.{Acting, first_wish}
use Rattle.up_worker.specs.Courses.{Entered, Event, Begins, Hears, tale}
use Rattle.up_worker.specs.declared.course.Doing.{Doing}
use Rattle.up_worker.specs.declared.course.Doing.TheVariants.{OneLine}
use Rattle.up_worker.specs.declared.wish.Wish.{Wish}
use Rattle.up_worker.specs.declared.wish.Wish.TheVariants as wishes
use Rattle.up_tales.specs.Life.{Rising, Aged, Clocked}
use Rattle.up_tales.specs.Plays.{AllUpTo, NeverFalls}
use Rattle.up_tales.specs.Tales.{is_age, ages_in, last_age, AllFrom}

pub rising_goes : (low high : ℕ) (made : List Entered) → Rising low made high → low ≤ high
rising_goes low high [] rising = rising
rising_goes low high (x ∷ made) rising = let before = rising_goes low x.entry.epoch made rising.0 in let last = rising.1 in omega (arith, before, last)

pub rising_from : (n low high : ℕ) (made : List Entered) → n ≤ low → Rising low made high → AllFrom n made
rising_from n low high [] least rising = tt
rising_from n low high (x ∷ made) least rising =
    let before = rising_goes low x.entry.epoch made rising.0 in (rising_from n low x.entry.epoch made least rising.0, omega (arith, least, before))

pub from_more : (n : ℕ) (made whole : List Entered) → AllFrom n made → AllFrom n whole → AllFrom n (made ++ whole)
from_more n [] whole all before = before
from_more n (x ∷ made) whole all before = (from_more n made whole all.0 before, all.1)

up_to_more : (low high : ℕ) (t : List Entered) → low ≤ high → AllUpTo low t → AllUpTo high t
up_to_more low high [] le all = tt
up_to_more low high (x ∷ t) le all = let here = all.1 in (up_to_more low high t le all.0, omega (arith, here, le))

falls_more : (low high : ℕ) (made t : List Entered) → Rising low made high → NeverFalls t → AllUpTo low t → NeverFalls (made ++ t) × AllUpTo high (made ++ t)
falls_more low high [] t rising falls most = (falls, up_to_more low high t rising most)
falls_more low high (x ∷ made) t rising falls most =
    let before = falls_more low x.entry.epoch made t rising.0 falls most in
    ((before.0, before.1), (up_to_more x.entry.epoch high (made ++ t) rising.1 before.1, rising.1))

-- generations never fall
pub clocked_falls : (start : Acting) (events : List Event) (told : ℕ) → Clocked start events told → NeverFalls (tale events) × AllUpTo told (tale events)
clocked_falls start [] told clocked = (tt, tt)
clocked_falls start (Begins doing ∷ before) told clocked = clocked_falls start before told clocked
clocked_falls start (Hears answer made ∷ before) told clocked =
    let old = clocked_falls start before clocked.0 clocked.1 in falls_more clocked.0 told made (tale before) clocked.2 old.0 old.1

-- a line that ages says so first
line_ages : (a : Acting) (action : Action) → is_age (OneLine action) ≡ true → first_wish a (OneLine action) ≡ wishes.Age
line_ages a actions.Age is = refl
line_ages a _ is = absurd cc

pub ages_first : (a : Acting) (doing : Doing) → is_age doing ≡ true → first_wish a doing ≡ wishes.Age
ages_first a (OneLine action) is = line_ages a action is
ages_first a _ is = absurd cc

aged_so : (wish : Wish) (low high : ℕ) → wish ≡ wishes.Age → Aged wish low high → low < last_age → low + 1 ≤ high
aged_so wish low high is aged = subst (λ w. Aged w low high) is aged

-- What an actor's clock tells while it does a line: at least the ages of the lines before, and where it ages, its own too once it has.
pub record Ticking (doing : Doing) (earlier : List Doing) (said : Wish) (whole : List Entered) (told : ℕ) : Type 0 where
  pub low : ages_in earlier ≤ last_age → ages_in earlier ≤ told
  pub from : ages_in earlier ≤ last_age → AllFrom (ages_in earlier) whole
  pub own : is_age doing ≡ true → (said ≡ wishes.Age) ⊎ (ages_in earlier + 1 ≤ last_age → ages_in earlier + 1 ≤ told)

pub ticking_begins : (a : Acting) (doing : Doing) (earlier : List Doing) (told : ℕ) → (ages_in earlier ≤ last_age → ages_in earlier ≤ told)
    → Ticking doing earlier (first_wish a doing) [] told
ticking_begins a doing earlier told low = record { low = low; from = λ few. tt; own = λ is. inl (ages_first a doing is) }

more_time : (n low high : ℕ) → (n ≤ last_age → n ≤ low) → low ≤ high → n ≤ last_age → n ≤ high
more_time n low high before goes few = let le = before few in omega (arith, le, goes)

own_time : (n low high : ℕ) → (n ≤ last_age → n ≤ low) → low ≤ high → (low < last_age → low + 1 ≤ high) → n + 1 ≤ last_age → n + 1 ≤ high
own_time n low high before goes aged few = by_test (ltb low last_age) refl (before (omega (arith, few)))
  where
    by_test : (test : Bool) → ltb low last_age ≡ test → n ≤ low → n + 1 ≤ high
    by_test true is le = let one = aged (ltb-true low last_age is) in omega (arith, one, le)
    by_test false is le = let most = ltb-false low last_age is in omega (arith, most, goes, few)

pub ticking_hears : (doing : Doing) (earlier : List Doing) (said after : Wish) (whole new : List Entered) (low high : ℕ) → Ticking doing earlier said whole low
    → Rising low new high → Aged said low high → Ticking doing earlier after (new ++ whole) high
ticking_hears doing earlier said after whole new low high t rising aged =
    let goes = rising_goes low high new rising in
    record {
      low = more_time (ages_in earlier) low high t.low goes;
      from = λ few. from_more (ages_in earlier) new whole (rising_from (ages_in earlier) low high new (t.low few) rising) (t.from few);
      own = λ is. inr (by_own (t.own is));
    }
  where
    by_own : (said ≡ wishes.Age) ⊎ (ages_in earlier + 1 ≤ last_age → ages_in earlier + 1 ≤ low) → ages_in earlier + 1 ≤ last_age → ages_in earlier + 1 ≤ high
    by_own (inl is) few = own_time (ages_in earlier) low high t.low (rising_goes low high new rising) (aged_so said low high is aged) few
    by_own (inr so) few = let le = so few in let goes = rising_goes low high new rising in omega (arith, le, goes)

end_differs : (said : Wish) → said ≡ wishes.LineEnd → said ≡ wishes.Age → ⊥
end_differs said end is = let wrong : wishes.LineEnd ≡ wishes.Age = sym end ∙ is in cc

pub ticking_ends : (test : Bool) (doing : Doing) (earlier : List Doing) (said : Wish) (whole : List Entered) (told : ℕ) → is_age doing ≡ test
    → Ticking doing earlier said whole told → said ≡ wishes.LineEnd
    → cond test (ages_in earlier + 1) (ages_in earlier) ≤ last_age → cond test (ages_in earlier + 1) (ages_in earlier) ≤ told
ticking_ends false doing earlier said whole told is t end few = t.low few
ticking_ends true doing earlier said whole told is t end few = by_own (t.own is)
  where
    by_own : (said ≡ wishes.Age) ⊎ (ages_in earlier + 1 ≤ last_age → ages_in earlier + 1 ≤ told) → ages_in earlier + 1 ≤ told
    by_own (inl age) = absurd (end_differs said end age)
    by_own (inr so) = so few
