-- What is known of a line that is able to be done, and of the actor that does it.
use Rattle.std.proofs.Common.{◌≡◌, ℕ, ◌<◌, ◌&&◌, length, true, false, Some, None, List, sym, ap, ◌∙◌, slice_get}
use Rattle.std.proofs.lemmas.Bool.{ltb-true}
use Rattle.up_model.proofs.Bools.{and_left, and_right}
use Rattle.up_model.specs.declared.entry.Birth.{Birth}
use Rattle.up_script.specs.Sound.{is_sound_line, is_sound_action}
use Rattle.up_script.specs.declared.script.Line.{Line}
use Rattle.up_worker.specs.Acting.{Acting}
use Rattle.up_worker.specs.declared.wish.Wanted.TheVariants as wanted
use Rattle.up_steps.specs.Told.{is_played}
use Rattle.up_stage.specs.Calls.{suits_births}
use Rattle.up_stage.specs.Played.{is_able_line, are_able}
use Rattle.up_stage.specs.Ready.{AtRest, IsParked, waits_for_go, is_waiting}
use Rattle.up_stage.specs.Scheduled.{Scheduled}
use Rattle.up_stage.proofs.FirstAndLast.{all_at}
use Rattle.up_stage.proofs.RestToRest.{free_wants, parked_parks}

pub able_at : (births : List Birth) (actors : ℕ) (lines : List Line) (at : ℕ) (line : Line) → are_able births actors lines ≡ true → slice_get lines at ≡ Some line → is_able_line births actors line ≡ true
able_at births actors lines at line able is = all_at (is_able_line births actors) lines at line able is

pub able_known : (births : List Birth) (actors : ℕ) (line : Line) → is_able_line births actors line ≡ true → line.actor < actors
able_known births actors line able = ltb-true line.actor actors (and_left _ _ (and_left (is_sound_line (length births) actors line) _ (and_left (is_sound_line (length births) actors line && is_played line.action) _ able)))

pub able_action : (births : List Birth) (actors : ℕ) (line : Line) → is_able_line births actors line ≡ true → is_sound_action (length births) line.action ≡ true
able_action births actors line able = and_right _ _ (and_left (is_sound_line (length births) actors line) _ (and_left (is_sound_line (length births) actors line && is_played line.action) _ able))

pub able_played : (births : List Birth) (actors : ℕ) (line : Line) → is_able_line births actors line ≡ true → is_played line.action ≡ true
able_played births actors line able = and_right _ _ (and_left (is_sound_line (length births) actors line && is_played line.action) _ able)

pub able_suits : (births : List Birth) (actors : ℕ) (line : Line) → is_able_line births actors line ≡ true → suits_births births line.action ≡ true
able_suits births actors line able = and_right (is_sound_line (length births) actors line && is_played line.action) _ able

-- an actor that doesn't wait, and one that does
pub is_free : (s : Scheduled) (who : ℕ) (a : Acting) → AtRest s → slice_get s.actors who ≡ Some a → is_waiting s who ≡ false → (a.wants ≡ wanted.Nothing) × (a.ticket ≡ None)
is_free s who a r is free = free_wants a (r.rest who a is) (sym (ap waits_for_go is) ∙ free)

pub is_parking : (s : Scheduled) (who : ℕ) (a : Acting) → AtRest s → slice_get s.actors who ≡ Some a → is_waiting s who ≡ true → (a.wants ≡ wanted.Done) × IsParked a
is_parking s who a r is waits = parked_parks a (r.rest who a is) (sym (ap waits_for_go is) ∙ waits)
