-- Objects with the counts of their users and pagers.
use Rattle.std.proofs.Common.{◌≡◌, true, suc, ltb, leb, List, [], ◌∷◌, ◌++◌, length, refl, ap}
use Rattle.std.specs.List.{list_all}
use Rattle.std.proofs.lemmas.Bool.{and_parts, le-leb, ltb-true}
use Rattle.up_script.specs.Objects.{is_served}
use Rattle.up_script.specs.Sound.{is_fair_object, is_few, is_sound_object}
use Rattle.up_script.specs.declared.script.ObjectLine.{ObjectLine}

pub one_longer : {X : Type 0} (xs : List X) (x : X) → length (xs ++ x ∷ []) ≡ suc (length xs)
one_longer [] x = refl
one_longer (y ∷ ys) x = ap suc (one_longer ys x)

-- a fair object that few act on, and that is served, is sound
sound_one : (object : ObjectLine) → is_fair_object object ≡ true → is_few object ≡ true → is_served object ≡ true → is_sound_object object ≡ true
sound_one object fair few served =
    let users = object.birth.users in
    let pagers = object.birth.pagers in
    let most = and_parts (leb users 64) (leb pagers 64) few in
    let some = and_parts (ltb 0 users) (ltb 0 pagers) served in
    rw (fair, le-leb 1 users (ltb-true 0 users some.0), le-leb 1 pagers (ltb-true 0 pagers some.1), most.0, most.1) refl

-- and so are all objects of a list
pub sound_all : (objects : List ObjectLine) → list_all is_fair_object objects ≡ true → list_all is_few objects ≡ true → list_all is_served objects ≡ true → list_all is_sound_object objects ≡ true
sound_all [] fair few served = refl
sound_all (object ∷ objects) fair few served =
    let f = and_parts (is_fair_object object) (list_all is_fair_object objects) fair in
    let g = and_parts (is_few object) (list_all is_few objects) few in
    let h = and_parts (is_served object) (list_all is_served objects) served in
    rw (sound_one object f.0 g.0 h.0) (sound_all objects f.1 g.1 h.1)
