-- Which gatherings, loans, reliefs and watches there are beside other threads, read off the journals at the end: before an actor's
-- entry there stood what the finished journal has before it.
use Rattle.std.specs.Prelude.{◌≡◌, ℕ, ◌-◌, ◌<◌, ◌≤◌, ◌==◌, ◌&&◌, ◌||◌, ◌⊎◌, ◌++◌, Bool, true, false, cond, List, [], ◌∷◌, length}
use Rattle.std.specs.List.{list_any}
use Rattle.up_model.specs.Pins.{loaned}
use Rattle.up_model.specs.declared.entry.Birth.{Birth}
use Rattle.up_model.specs.declared.entry.Brought.{Brought}
use Rattle.up_model.specs.declared.entry.Brought.TheVariants.{Frames, Scanned}
use Rattle.up_model.specs.declared.entry.Entry.{Entry}
use Rattle.up_model.specs.declared.entry.Reply.{Reply}
use Rattle.up_model.specs.declared.entry.Reply.TheVariants as replies
use Rattle.up_evictor.specs.Levels.{level_of, age_limits}
use Rattle.up_evictor.specs.Relief.{Relieves, EachGaveLess, turns}
use Rattle.up_evictor.specs.declared.levels.Level.TheVariants.{Empty}
use Rattle.up_evictor.specs.declared.levels.Levels.{Levels}
use Rattle.up_worker.specs.Courses.{Entered}
use Rattle.up_worker.specs.Thread.{of_object, reclaims_of}
use Rattle.up_tales.specs.Tales.{Manner}

-- an object's birth and its journal
pub record Journaled : Type 0 where
  pub birth : Birth
  pub journal : List Entry

-- the entries by one actor
abbrev pub by_actor : ℕ → List Entry → List Entry
by_actor who [] = []
by_actor who (e ∷ before) = cond (e.who == who) (e ∷ by_actor who before) (by_actor who before)

-- what stood before the entry of an actor that has so many of its own before it
abbrev pub before_own : ℕ → ℕ → List Entry → List Entry
before_own who n [] = []
before_own who n (e ∷ before) = cond ((e.who == who) && (length (by_actor who before) == n)) before (before_own who n before)

-- an object as it stood before an actor's next entry on it, where these are the actor's entries so far
abbrev pub stood_before : (ℕ → Journaled) → ℕ → ℕ → List Entered → Journaled
stood_before ends who object earlier =
    record { birth = (ends object).birth; journal = before_own who (length (of_object object earlier)) (ends object).journal }

-- a page that the reply lists was loaned
abbrev pub lists_loan : Journaled → Reply → Bool
lists_loan stood (replies.Pages pages) = list_any (λ page. loaned stood.birth stood.journal page.0) pages
lists_loan stood _ = false

-- one of these entries took a loaned page
abbrev pub took_loan : (ℕ → Journaled) → ℕ → List Entered → List Entered → Bool
took_loan ends who [] before = false
took_loan ends who (x ∷ made) before =
    lists_loan (stood_before ends who x.object (made ++ before)) x.entry.reply || took_loan ends who made before

-- a relief as where no frame is free, by one frame or more, at most so many
pub record RelievesUpTo (objects count : ℕ) (made : List Entered) : Type 0 where
  pub want : ℕ
  pub some : 0 < want
  pub most : want ≤ count
  pub asked : Relieves want (turns (age_limits Empty) objects) [] (reclaims_of made)

-- A gathering of so many frames: so many come, or a scan; with a relief before it or none; and a scan comes only behind a relief that was
-- short in every object, or that took a loaned page.
pub record GathersBeside (ends : ℕ → Journaled) (who objects count : ℕ) (b : Brought) (made before : List Entered) : Type 0 where
  pub brings : (b ≡ Frames count) ⊎ (b ≡ Scanned)
  pub relieves : (made ≡ []) ⊎ RelievesUpTo objects count made
  pub scanned : b ≡ Scanned → RelievesUpTo objects count made × (EachGaveLess objects (reclaims_of made) ⊎ (took_loan ends who made before ≡ true))

-- a watch: nothing, or where memory is short a relief by what lacks
pub record WatchesBeside (levels : Levels) (objects : ℕ) (made : List Entered) : Type 0 where
  pub free : ℕ
  pub few : free < levels.warn
  pub asked : Relieves (levels.warn - free) (turns (age_limits (level_of levels free)) objects) [] (reclaims_of made)

-- how an actor gathers, lends and relieves beside other threads, where these are the journals at the end
abbrev pub beside : (ℕ → Journaled) → ℕ → ℕ → Levels → Manner
beside ends who objects levels = record {
  judge = record {
    gathers = λ count b made before. GathersBeside ends who objects count b made before;
    lends = λ b before. (b ≡ Frames 1) ⊎ (b ≡ Scanned);
  };
  relieves = λ frames made before. Relieves frames (turns (age_limits Empty) objects) [] (reclaims_of made);
  watches = λ made before. (made ≡ []) ⊎ WatchesBeside levels objects made;
}
