-- What every script keeps that a text spells, beside what Sound says: its version and modes, its frames and marks, different
-- names and images, whom an actor acts on, whose each line is, the bytes of all lines, the counts of each object's users and
-- pagers, the role of each leave, and that nothing stands behind one.
use Rattle.std.specs.Prelude.{◌≡◌, ℕ, ◌≤◌, ◌==◌, ◌&&◌, ◌||◌, ◌++◌, Bool, true, false, cond, not, List, [], ◌∷◌, Option, Some, None, Ok, is_some, length, map, nat_le, nat_lt, slice_get}
use Rattle.std.specs.List.{list_all, list_any, sum_by}
use Rattle.std.specs.Str.{bytes_eq}
use Rattle.up_model.specs.declared.entry.Call.{Call}
use Rattle.up_model.specs.declared.entry.Call.TheVariants as calls
use Rattle.up_words.specs.Names.{is_name}
use Rattle.up_script.specs.Actions.{object_of, is_bound, kind_of, bytes_of, suits_mode, has_left, with_leave}
use Rattle.up_script.specs.Declarations.{may_serve, first_numbers}
use Rattle.up_script.specs.Objects.{is_user, is_pager, is_worker, is_evictor, has_image, is_numbered, counted}
use Rattle.up_script.specs.Reading.{script_of}
use Rattle.up_script.specs.Sound.{is_within}
use Rattle.up_script.specs.Verbs.{role_of}
use Rattle.up_script.specs.Versions.{is_version, has_modes}
use Rattle.up_script.specs.declared.played.LeftObject.{LeftObject}
use Rattle.up_script.specs.declared.script.Action.{Action}
use Rattle.up_script.specs.declared.script.Action.TheVariants as actions
use Rattle.up_script.specs.declared.script.ActorLine.{ActorLine}
use Rattle.up_script.specs.declared.script.Kind.{Kind}
use Rattle.up_script.specs.declared.script.Kind.TheVariants.{User, Pager, Worker, Evictor}
use Rattle.up_script.specs.declared.script.Line.{Line}
use Rattle.up_script.specs.declared.script.ObjectLine.{ObjectLine}
use Rattle.up_script.specs.declared.script.Script.{Script}

-- no two items of a list are the same
unfoldable pub are_unlike : {X : Type 0} → (X → X → Bool) → List X → Bool
are_unlike same [] = true
are_unlike same (x ∷ xs) = not (list_any (same x) xs) && are_unlike same xs

-- 1 to 16,384 frames, at most 4,096 loaned ones, and marks of which none is above the one before it, and none above the frames
abbrev pub are_fit_frames : ℕ → ℕ → ℕ → ℕ → Bool
are_fit_frames frames loan warn critical = is_within 1 16384 frames && (nat_le loan 4096 && (nat_le warn frames && nat_le critical warn))

-- the names of objects and actors
abbrev pub names_of : List ObjectLine → List ActorLine → List (List ℕ)
names_of objects actors = map (λ object. object.name) objects ++ map (λ actor. actor.name) actors

-- the name of an image, where there is one
abbrev pub name_in : Option (List ℕ) → List (List ℕ)
name_in None = []
name_in (Some name) = name ∷ []

-- the names of the objects' images
unfoldable pub images_of : List ObjectLine → List (List ℕ)
images_of [] = []
images_of (object ∷ objects) = name_in object.image ++ images_of objects

-- an object has an image exactly where the image has a name
abbrev pub names_its_image : ObjectLine → Bool
names_its_image object = cond object.birth.image (is_some object.image) (not (is_some object.image))

-- an object is numbered only where objects have a mode
abbrev pub is_in_version : ℕ → ObjectLine → Bool
is_in_version version object = has_modes version || not object.birth.numbered

-- an actor has a name, and acts on different objects of those that there are: a raw pager on ones without image, a worker on ones with
abbrev pub is_fit_actor : List ObjectLine → ActorLine → Bool
is_fit_actor objects actor =
    is_name actor.name
    && (list_all (λ object. nat_lt object (length objects)) actor.objects
    && (are_unlike (λ one other. one == other) actor.objects && list_all (may_serve actor.kind objects) actor.objects))

-- who makes a call
abbrev pub may_call : Kind → Call → Bool
may_call kind (calls.Supply range bytes brought) = is_pager kind
may_call kind (calls.Fail range code) = is_pager kind
may_call kind (calls.Dirty range brought) = is_pager kind
may_call kind (calls.Begin range zero) = is_pager kind
may_call kind (calls.End range of) = is_pager kind
may_call kind (calls.Query range room) = is_pager kind
may_call kind (calls.Stats reset) = is_pager kind
may_call kind (calls.Hint range hint) = is_user kind
may_call kind (calls.Pin range brought) = is_user kind
may_call kind (calls.Unpin range) = is_user kind
may_call kind (calls.Evict limit max) = is_evictor kind
may_call kind (calls.Borrow page brought) = is_evictor kind
may_call kind (calls.Resize pages) = is_user kind
may_call kind (calls.Zero range) = is_user kind
may_call kind calls.Detach = is_pager kind
may_call kind calls.Packet = is_pager kind
may_call kind (calls.Leave role) = not (is_evictor kind)
may_call kind _ = false

-- whose lines these are
abbrev pub may_do : Kind → Action → Bool
may_do kind actions.Go = true
may_do kind (actions.Read object off len) = is_user kind
may_do kind (actions.Write object off bytes) = is_user kind
may_do kind (actions.Act object call) = may_call kind call
may_do kind (actions.Sync object) = is_user kind
may_do kind (actions.Turn object steps) = is_worker kind
may_do kind _ = is_evictor kind

-- a sync is on an object with image, and an end has a number exactly where its object is numbered
abbrev pub suits_object : List ObjectLine → Action → Bool
suits_object objects (actions.Sync object) = has_image objects object
suits_object objects (actions.Act object call) = suits_mode (is_numbered objects object) call
suits_object objects _ = true

-- the line is its actor's, which is bound to the object that it is on, and the object is as the line needs it
abbrev pub is_fit_line : List ObjectLine → List ActorLine → Line → Bool
is_fit_line objects actors line =
    may_do (kind_of (slice_get actors line.actor)) line.action
    && (is_bound (slice_get actors line.actor) (object_of line.action) && suits_object objects line.action)

-- a leave is in the role in which an actor of this kind leaves
abbrev pub LeavesAs : Kind → Action → Type 0
LeavesAs kind (actions.Act object (calls.Leave role)) = role ≡ role_of kind
LeavesAs kind _ = Unit {0}

-- each leave is in its actor's role
unfoldable pub AllLeave : List ActorLine → List Line → Type 0
AllLeave actors [] = Unit {0}
AllLeave actors (line ∷ lines) = LeavesAs (kind_of (slice_get actors line.actor)) line.action × AllLeave actors lines

-- no line of an actor on an object stands behind its leave of it
unfoldable pub all_stay : List LeftObject → List Line → Bool
all_stay left [] = true
all_stay left (line ∷ lines) = not (has_left left line.actor (object_of line.action)) && all_stay (with_leave left line.actor line.action) lines

-- a user and a raw pager act on one object or more, a worker on one, an evictor on all
abbrev pub binds_right : Kind → ℕ → List ℕ → Bool
binds_right User objects bound = nat_lt 0 (length bound)
binds_right Pager objects bound = nat_lt 0 (length bound)
binds_right Worker objects bound = length bound == 1
binds_right Evictor objects bound = bytes_eq bound (first_numbers objects)

-- what holds of every script
pub record Fits (script : Script) : Type 0 where
  pub version : is_version script.version ≡ true
  pub modes : list_all (is_in_version script.version) script.objects ≡ true
  pub frames : are_fit_frames script.frames script.loan script.warn script.critical ≡ true
  pub names : are_unlike bytes_eq (names_of script.objects script.actors) ≡ true
  pub images : are_unlike bytes_eq (images_of script.objects) ≡ true
  pub imaged : list_all names_its_image script.objects ≡ true
  pub actors : list_all (is_fit_actor script.objects) script.actors ≡ true
  pub lines : list_all (is_fit_line script.objects script.actors) script.lines ≡ true
  pub bytes : sum_by (λ line. bytes_of line.action) script.lines ≤ 67108864
  pub counts : counted script.actors script.objects ≡ script.objects
  pub bound : list_all (λ actor. binds_right actor.kind (length script.objects) actor.objects) script.actors ≡ true
  pub leaves : AllLeave script.actors script.lines
  pub stays : all_stay [] script.lines ≡ true

-- a script that a text spells keeps all that
abbrev pub SpellsFitting : Type 0
SpellsFitting = (bytes : List ℕ) (script : Script) → script_of bytes ≡ Ok script → Fits script
