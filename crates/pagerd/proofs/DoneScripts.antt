-- A script that is done today can be played.
use Rattle.std.proofs.Common.{◌≡◌, ℕ, zero, suc, ◌&&◌, Bool, true, false, Option, Some, None, List, [], ◌∷◌, length, slice_get, refl, ap, ◌∙◌}
use Rattle.std.specs.List.{list_all}
use Rattle.up_model.proofs.Bools.{and_left, and_right}
use Rattle.up_script.specs.Fit.{Fits, is_fit_actor, suits_object, is_fit_line}
use Rattle.up_script.specs.Actions.{suits_mode}
use Rattle.up_script.specs.Objects.{is_numbered}
use Rattle.up_script.specs.Sound.{is_sound}
use Rattle.up_script.specs.declared.script.Action.{Action}
use Rattle.up_script.specs.declared.script.Action.TheVariants as actions
use Rattle.up_script.specs.declared.script.ActorLine.{ActorLine}
use Rattle.up_script.specs.declared.script.Line.{Line}
use Rattle.up_script.specs.declared.script.ObjectLine.{ObjectLine}
use Rattle.up_script.specs.declared.script.Script.{Script}
use Rattle.up_stage.specs.Calls.{is_numbered_birth, suits_births}
use Rattle.up_stage.specs.Played.{births_of, IsPlayable, is_bound_to, is_played_line}
use Rattle.pagerd.specs.Built.{first_failing, or_number, unbuilt_line, is_built_object, is_built_actor, is_built_line, object_number, actor_number, line_number}
use Rattle.pagerd.proofs.FirstFailing.{none_fails}

neither : (first second : Option ℕ) → or_number first second ≡ None → (first ≡ None) × (second ≡ None)
neither None second is = (refl, is)
neither (Some n) second is = absurd cc

both : (a b : Bool) → a ≡ true → b ≡ true → (a && b) ≡ true
both true b p q = q
both false b p q = absurd cc

bound_all : (objects : List ObjectLine) (actors : List ActorLine) → list_all (is_fit_actor objects) actors ≡ true → list_all (is_bound_to (length objects)) actors ≡ true
bound_all objects [] fits = refl
bound_all objects (a ∷ more) fits =
    both _ _ (and_left _ _ (and_right _ _ (and_left (is_fit_actor objects a) (list_all (is_fit_actor objects) more) fits)))
    (bound_all objects more (and_right (is_fit_actor objects a) _ fits))

played_all : (objects : List ObjectLine) (actors : List ActorLine) (lines : List Line) → list_all (is_fit_line objects actors) lines ≡ true → list_all is_built_line lines ≡ true
    → list_all (is_played_line actors) lines ≡ true
played_all objects actors [] fits built = refl
played_all objects actors (line ∷ lines) fits built =
    both _ _ (both _ _ (and_left _ _ (and_left (is_fit_line objects actors line) _ fits)) (and_left (is_built_line line) _ built))
    (played_all objects actors lines (and_right (is_fit_line objects actors line) _ fits) (and_right (is_built_line line) _ built))

-- an object is numbered by its line as by its birth
same_mode : (objects : List ObjectLine) (k : ℕ) → is_numbered_birth (slice_get (births_of objects) k) ≡ is_numbered objects k
same_mode [] k = refl
same_mode (o ∷ os) zero = refl
same_mode (o ∷ os) (suc k) = same_mode os k

suits_action : (objects : List ObjectLine) (action : Action) → suits_object objects action ≡ true → suits_births (births_of objects) action ≡ true
suits_action objects (actions.Act object call) e = ap (λ b. suits_mode b call) (same_mode objects object) ∙ e
suits_action objects _ e = refl

suits_all : (objects : List ObjectLine) (actors : List ActorLine) (lines : List Line) → list_all (is_fit_line objects actors) lines ≡ true → list_all (λ (line : Line). suits_births (births_of objects) line.action) lines ≡ true
suits_all objects actors [] fits = refl
suits_all objects actors (line ∷ lines) fits =
    both _ _ (suits_action objects line.action (and_right _ _ (and_right _ _ (and_left (is_fit_line objects actors line) _ fits))))
    (suits_all objects actors lines (and_right (is_fit_line objects actors line) _ fits))

pub playable : (script : Script) → is_sound script ≡ true → Fits script → unbuilt_line script ≡ None → IsPlayable script
playable script sound fits built =
    let rest = neither (first_failing is_built_object object_number script.objects) _ built in
    let last = neither (first_failing is_built_actor actor_number script.actors) _ rest.1 in
    record {
      sound = sound;
      frames = fits.frames;
      actors = bound_all script.objects script.actors fits.actors;
      lines = played_all script.objects script.actors script.lines fits.lines (none_fails is_built_line line_number script.lines last.1);
      modes = suits_all script.objects script.actors script.lines fits.lines;
    }
