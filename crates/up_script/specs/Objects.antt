-- Objects, and who acts on them.
use Rattle.std.specs.Prelude.{ℕ, ◌==◌, ◌&&◌, ◌++◌, Bool, true, false, List, [], ◌∷◌, Option, Some, None, length, nat_lt, slice_get}
use Rattle.std.specs.List.{count_by, fold, list_any, position}
use Rattle.std.specs.Str.{bytes_eq}
use Rattle.up_script.specs.declared.script.ActorLine.{ActorLine}
use Rattle.up_script.specs.declared.script.Kind.{Kind}
use Rattle.up_script.specs.declared.script.Kind.TheVariants.{User, Pager, Worker, Evictor}
use Rattle.up_script.specs.declared.script.ObjectLine.{ObjectLine}

abbrev pub is_user : Kind → Bool
is_user User = true
is_user _ = false

abbrev pub is_pager : Kind → Bool
is_pager Pager = true
is_pager _ = false

abbrev pub is_worker : Kind → Bool
is_worker Worker = true
is_worker _ = false

abbrev pub is_evictor : Kind → Bool
is_evictor Evictor = true
is_evictor _ = false

-- raw pagers and workers both serve an object
abbrev pub is_server : Kind → Bool
is_server User = false
is_server Evictor = false
is_server _ = true

-- the number of the object of this name
abbrev pub object_named : List ℕ → List ObjectLine → Option ℕ
object_named name objects = position (λ object. bytes_eq object.name name) objects

-- the number of the actor of this name
abbrev pub actor_named : List ℕ → List ActorLine → Option ℕ
actor_named name actors = position (λ actor. bytes_eq actor.name name) actors

-- an object has an image of this name
abbrev pub is_image : List ℕ → Option (List ℕ) → Bool
is_image name None = false
is_image name (Some image) = bytes_eq image name

abbrev pub image_named : List ℕ → List ObjectLine → Bool
image_named name objects = list_any (λ object. is_image name object.image) objects

abbrev pub is_imaged : Option ObjectLine → Bool
is_imaged None = false
is_imaged (Some object) = object.birth.image

-- the object of this number has an image
abbrev pub has_image : List ObjectLine → ℕ → Bool
has_image objects object = is_imaged (slice_get objects object)

abbrev pub is_numbered_line : Option ObjectLine → Bool
is_numbered_line None = false
is_numbered_line (Some object) = object.birth.numbered

-- the object of this number is numbered
abbrev pub is_numbered : List ObjectLine → ℕ → Bool
is_numbered objects object = is_numbered_line (slice_get objects object)

-- the number is among these
abbrev pub is_among : List ℕ → ℕ → Bool
is_among numbers number = list_any (λ n. n == number) numbers

-- the actor acts on this object
abbrev pub acts_on : ActorLine → ℕ → Bool
acts_on actor object = is_among actor.objects object

-- how many users an object has
abbrev pub users_of : List ActorLine → ℕ → ℕ
users_of actors object = count_by (λ actor. is_user actor.kind && acts_on actor object) actors

-- how many pagers and workers it has
abbrev pub pagers_of : List ActorLine → ℕ → ℕ
pagers_of actors object = count_by (λ actor. is_server actor.kind && acts_on actor object) actors

-- the object of this number, with the counts of its users and pagers
abbrev pub with_counts : List ActorLine → ℕ → ObjectLine → ObjectLine
with_counts actors object line = record {
  number = line.number;
  name = line.name;
  birth = record {
    pages = line.birth.pages;
    limit = line.birth.limit;
    trap = line.birth.trap;
    users = users_of actors object;
    pagers = pagers_of actors object;
    image = line.birth.image;
    numbered = line.birth.numbered;
  };
  image = line.image;
}

-- one more object: its number is how many stand before it
abbrev pub count_step : List ActorLine → List ObjectLine → ObjectLine → List ObjectLine
count_step actors counted line = counted ++ with_counts actors (length counted) line ∷ []

-- all objects, with the counts of their users and pagers
abbrev pub counted : List ActorLine → List ObjectLine → List ObjectLine
counted actors objects = fold (count_step actors) [] objects

-- a user and a pager act on the object
abbrev pub is_served : ObjectLine → Bool
is_served object = nat_lt 0 object.birth.users && nat_lt 0 object.birth.pagers
