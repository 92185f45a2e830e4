-- The lines of actors.
use Rattle.std.specs.Prelude.{ℕ, ◌+◌, ◌-◌, ◌*◌, ◌==◌, ◌&&◌, ◌++◌, Bool, true, false, not, List, [], ◌∷◌, Option, Some, None, Result, Ok, cond, is_some, length, nat_le, slice_get}
use Rattle.std.specs.List.{list_any}
use Rattle.up_num.specs.Span.{Span}
use Rattle.up_model.specs.declared.entry.Brought.TheVariants.{Nothing}
use Rattle.up_model.specs.declared.entry.Call.{Call}
use Rattle.up_model.specs.declared.entry.Call.TheVariants as calls
use Rattle.up_words.specs.ReadSteps.{◌>>=◌, check, or_why}
use Rattle.up_words.specs.Words.{word_at}
use Rattle.up_words.specs.Numbers.{number_between}
use Rattle.up_words.specs.Runs.{bytes_between}
use Rattle.up_words.specs.declared.fault.Why.{Why}
use Rattle.up_words.specs.declared.fault.Why.TheVariants as why
use Rattle.up_script.specs.Objects.{actor_named, acts_on, has_image, is_numbered}
use Rattle.up_script.specs.Declarations.{object_in}
use Rattle.up_script.specs.Verbs.{verb_of, says, call_over, role_of}
use Rattle.up_script.specs.declared.declarations.Declared.{Declared}
use Rattle.up_script.specs.declared.played.LeftObject.{LeftObject}
use Rattle.up_script.specs.declared.played.Played.{Played}
use Rattle.up_script.specs.declared.script.Action.{Action}
use Rattle.up_script.specs.declared.script.Action.TheVariants as actions
use Rattle.up_script.specs.declared.script.ActorLine.{ActorLine}
use Rattle.up_script.specs.declared.script.Kind.{Kind}
use Rattle.up_script.specs.declared.script.Kind.TheVariants.{User}
use Rattle.up_script.specs.declared.verbs.Lone.{Lone}
use Rattle.up_script.specs.declared.verbs.Lone.TheVariants as lone
use Rattle.up_script.specs.declared.verbs.On.{On}
use Rattle.up_script.specs.declared.verbs.On.TheVariants as on
use Rattle.up_script.specs.declared.verbs.Over.{Over}
use Rattle.up_script.specs.declared.verbs.Verb.{Verb}
use Rattle.up_script.specs.declared.verbs.Verb.TheVariants.{Alone, OnObject}

-- the actor that a word names
abbrev pub actor_in : Declared → List ℕ → Result ℕ Why
actor_in declared word = or_why why.Name (actor_named word declared.actors)

-- F C: a first page and a count
abbrev pub range_in : List (List ℕ) → ℕ → Result Span Why
range_in words place = do
  first ← number_between 0 2147483648 (word_at words place)
  count ← number_between 1 65536 (word_at words (place + 1))
  Ok (record { first = first; count = count })

-- A read OBJ OFF LEN
abbrev pub read_fields : ℕ → List (List ℕ) → Result Action Why
read_fields object words = do
  off ← number_between 0 8796093022208 (word_at words 3)
  len ← number_between 1 65536 (word_at words 4)
  Ok (actions.Read object off len)

-- A write OBJ OFF BYTES
abbrev pub write_fields : ℕ → List (List ℕ) → Result Action Why
write_fields object words = do
  off ← number_between 0 8796093022208 (word_at words 3)
  bytes ← bytes_between 1 65536 (word_at words 4)
  Ok (actions.Write object off bytes)

-- A supply OBJ F C BYTES: 4,096 bytes for each page
abbrev pub supply_fields : ℕ → List (List ℕ) → Result Action Why
supply_fields object words = do
  first ← number_between 0 2147483648 (word_at words 3)
  count ← number_between 1 16 (word_at words 4)
  bytes ← bytes_between (count * 4096) (count * 4096) (word_at words 5)
  Ok (actions.Act object (calls.Supply (record { first = first; count = count }) bytes Nothing))

-- A VERB OBJ F C, with a fixed word behind it or none
abbrev pub range_fields : Over → ℕ → List (List ℕ) → Result Action Why
range_fields verb object words = do
  range ← range_in words 3
  Ok (actions.Act object (call_over verb range))

-- A end OBJ F C N: the begin of number N is ended
abbrev pub end_fields : ℕ → List (List ℕ) → Result Action Why
end_fields object words = do
  range ← range_in words 3
  of ← number_between 0 18446744073709551615 (word_at words 5)
  Ok (actions.Act object (calls.End range (Some of)))

-- A query OBJ F C ROOM
abbrev pub query_fields : ℕ → List (List ℕ) → Result Action Why
query_fields object words = do
  range ← range_in words 3
  room ← number_between 0 65536 (word_at words 5)
  Ok (actions.Act object (calls.Query range room))

-- A resize OBJ PAGES
abbrev pub resize_fields : ℕ → List (List ℕ) → Result Action Why
resize_fields object words = do
  pages ← number_between 0 65536 (word_at words 3)
  Ok (actions.Act object (calls.Resize pages))

-- A turn OBJ N
abbrev pub turn_fields : ℕ → List (List ℕ) → Result Action Why
turn_fields object words = do
  steps ← number_between 1 4096 (word_at words 3)
  Ok (actions.Turn object steps)

-- A evict OBJ LIMIT MAX
abbrev pub evict_fields : ℕ → List (List ℕ) → Result Action Why
evict_fields object words = do
  limit ← number_between 0 8 (word_at words 3)
  max ← number_between 0 65536 (word_at words 4)
  Ok (actions.Act object (calls.Evict limit max))

-- A borrow OBJ PAGE
abbrev pub borrow_fields : ℕ → List (List ℕ) → Result Action Why
borrow_fields object words = do
  page ← number_between 0 2147483648 (word_at words 3)
  Ok (actions.Act object (calls.Borrow (record { 0 = page }) Nothing))

-- the fields behind the object
abbrev pub fields_of : Kind → On → ℕ → List (List ℕ) → Result Action Why
fields_of kind on.Read object words = read_fields object words
fields_of kind on.Write object words = write_fields object words
fields_of kind on.Supply object words = supply_fields object words
fields_of kind (on.Range verb) object words = range_fields verb object words
fields_of kind on.EndOf object words = end_fields object words
fields_of kind on.Query object words = query_fields object words
fields_of kind on.Resize object words = resize_fields object words
fields_of kind on.Turn object words = turn_fields object words
fields_of kind on.Evict object words = evict_fields object words
fields_of kind on.Borrow object words = borrow_fields object words
fields_of kind on.Sync object words = Ok (actions.Sync object)
fields_of kind on.Packet object words = Ok (actions.Act object calls.Packet)
fields_of kind on.Detach object words = Ok (actions.Act object calls.Detach)
fields_of kind on.Leave object words = Ok (actions.Act object (calls.Leave (role_of kind)))
fields_of kind (on.Stats reset) object words = Ok (actions.Act object (calls.Stats reset))

-- what is done on no object. A relieve N wins so many frames back
abbrev pub alone_of : Lone → List (List ℕ) → Result Action Why
alone_of lone.Go words = Ok actions.Go
alone_of lone.Age words = Ok actions.Age
alone_of lone.Watch words = Ok actions.Watch
alone_of lone.Recall words = Ok actions.Recall
alone_of lone.Lend words = Ok actions.Lend
alone_of lone.Relieve words = do
  frames ← number_between 1 16384 (word_at words 2)
  Ok (actions.Relieve frames)

-- what a line does, by its verb and its fields from the left
abbrev pub action_in : Declared → Kind → Verb → List (List ℕ) → Result Action Why
action_in declared kind (Alone verb) words = alone_of verb words
action_in declared kind (OnObject verb) words = do
  object ← object_in declared (word_at words 2)
  fields_of kind verb object words

-- the object that an action is on
abbrev pub object_of : Action → Option ℕ
object_of (actions.Read object off len) = Some object
object_of (actions.Write object off bytes) = Some object
object_of (actions.Act object call) = Some object
object_of (actions.Sync object) = Some object
object_of (actions.Turn object steps) = Some object
object_of _ = None

-- the actor is bound to the object
abbrev pub is_bound : Option ActorLine → Option ℕ → Bool
is_bound None object = false
is_bound (Some actor) None = true
is_bound (Some actor) (Some object) = acts_on actor object

abbrev pub kind_of : Option ActorLine → Kind
kind_of None = User
kind_of (Some actor) = actor.kind

-- an end has a number exactly where its object is numbered
abbrev pub suits_mode : Bool → Call → Bool
suits_mode numbered (calls.End range of) = cond numbered (is_some of) (not (is_some of))
suits_mode numbered _ = true

-- a sync is for an object with image, and an end has the form of its object's mode
abbrev pub has_what_it_needs : Declared → Action → Bool
has_what_it_needs declared (actions.Sync object) = has_image declared.objects object
has_what_it_needs declared (actions.Act object call) = suits_mode (is_numbered declared.objects object) call
has_what_it_needs declared _ = true

-- the verb is this actor's, it is bound to the object, and the object is as the verb needs it
abbrev pub may_act : Declared → ℕ → Verb → Action → Bool
may_act declared actor verb action =
    says verb (kind_of (slice_get declared.actors actor)) && is_bound (slice_get declared.actors actor) (object_of action)
    && has_what_it_needs declared action

-- the actor has left the object
abbrev pub has_left : List LeftObject → ℕ → Option ℕ → Bool
has_left left actor None = false
has_left left actor (Some object) = list_any (λ one. (one.actor == actor) && (one.object == object)) left

-- the actor leaves its object
abbrev pub with_leave : List LeftObject → ℕ → Action → List LeftObject
with_leave left actor (actions.Act object (calls.Leave role)) = left ++ (record { actor = actor; object = object }) ∷ []
with_leave left actor _ = left

-- the bytes that a call supplies
abbrev pub supplied_by : Call → ℕ
supplied_by (calls.Supply range bytes brought) = length bytes
supplied_by _ = 0

-- the bytes that an action reads, writes or supplies
abbrev pub bytes_of : Action → ℕ
bytes_of (actions.Read object off len) = len
bytes_of (actions.Write object off bytes) = length bytes
bytes_of (actions.Act object call) = supplied_by call
bytes_of _ = 0

-- the lines with one more
abbrev pub with_line : Played → ℕ → ℕ → Action → Played
with_line played number actor action = record {
  lines = played.lines ++ (record { number = number; actor = actor; action = action }) ∷ [];
  room = played.room - bytes_of action;
  left = with_leave played.left actor action;
}

-- one line more, with its number in the text, where there is room for its bytes
abbrev pub act : Declared → ℕ → Played → List (List ℕ) → Result Played Why
act declared number played words = do
  verb ← or_why why.Word (verb_of declared.version words)
  actor ← actor_in declared (word_at words 0)
  action ← action_in declared (kind_of (slice_get declared.actors actor)) verb words
  role ← check why.Role (may_act declared actor verb action)
  here ← check why.Left (not (has_left played.left actor (object_of action)))
  room ← check why.Limit (nat_le (bytes_of action) played.room)
  Ok (with_line played number actor action)
