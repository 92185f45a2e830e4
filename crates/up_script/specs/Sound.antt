-- What every script keeps that a text spells, for those who do it.
use Rattle.std.specs.Prelude.{ℕ, ◌*◌, ◌==◌, ◌&&◌, Bool, true, false, List, Option, Some, None, length, nat_le, nat_lt}
use Rattle.std.specs.List.{list_all}
use Rattle.up_num.specs.Span.{Span}
use Rattle.up_model.specs.declared.entry.Brought.{Brought}
use Rattle.up_model.specs.declared.entry.Brought.TheVariants.{Nothing}
use Rattle.up_model.specs.declared.entry.Call.{Call}
use Rattle.up_model.specs.declared.entry.Call.TheVariants as calls
use Rattle.up_words.specs.Names.{is_name}
use Rattle.up_script.specs.declared.script.Action.{Action}
use Rattle.up_script.specs.declared.script.Action.TheVariants as actions
use Rattle.up_script.specs.declared.script.Line.{Line}
use Rattle.up_script.specs.declared.script.ObjectLine.{ObjectLine}
use Rattle.up_script.specs.declared.script.Script.{Script}

-- the number lies within these bounds
abbrev pub is_within : ℕ → ℕ → ℕ → Bool
is_within low high n = nat_le low n && nat_le n high

-- 1 to 65,536 pages, of which the first is at most 2^31
abbrev pub is_sound_range : Span → Bool
is_sound_range range = nat_le range.first 2147483648 && is_within 1 65536 range.count

abbrev pub brings_nothing : Brought → Bool
brings_nothing Nothing = true
brings_nothing _ = false

-- a begin's number, where there is one, is at most 2^64 - 1
abbrev pub is_sound_number : Option ℕ → Bool
is_sound_number None = true
is_sound_number (Some n) = nat_le n 18446744073709551615

-- a call that a line may name: in its limits, and it brings nothing yet
abbrev pub is_sound_call : Call → Bool
is_sound_call (calls.Supply range bytes brought) =
    is_sound_range range && nat_le range.count 16 && (length bytes == range.count * 4096) && brings_nothing brought
is_sound_call (calls.Fail range code) = is_sound_range range
is_sound_call (calls.Dirty range brought) = is_sound_range range && brings_nothing brought
is_sound_call (calls.Begin range zero) = is_sound_range range
is_sound_call (calls.End range of) = is_sound_range range && is_sound_number of
is_sound_call (calls.Query range room) = is_sound_range range && nat_le room 65536
is_sound_call (calls.Stats reset) = true
is_sound_call (calls.Hint range kind) = is_sound_range range
is_sound_call (calls.Pin range brought) = is_sound_range range && brings_nothing brought
is_sound_call (calls.Unpin range) = is_sound_range range
is_sound_call (calls.Evict limit max) = nat_le limit 8 && nat_le max 65536
is_sound_call (calls.Borrow page brought) = nat_le page.0 2147483648 && brings_nothing brought
is_sound_call (calls.Resize pages) = nat_le pages 65536
is_sound_call (calls.Zero range) = is_sound_range range
is_sound_call calls.Detach = true
is_sound_call calls.Packet = true
is_sound_call (calls.Leave role) = true
is_sound_call _ = false

-- an action on one of so many objects, in its limits
abbrev pub is_sound_action : ℕ → Action → Bool
is_sound_action objects (actions.Read object off len) = nat_lt object objects && nat_le off 8796093022208 && is_within 1 65536 len
is_sound_action objects (actions.Write object off bytes) = nat_lt object objects && nat_le off 8796093022208 && is_within 1 65536 (length bytes)
is_sound_action objects (actions.Act object call) = nat_lt object objects && is_sound_call call
is_sound_action objects (actions.Sync object) = nat_lt object objects
is_sound_action objects (actions.Turn object steps) = nat_lt object objects && is_within 1 4096 steps
is_sound_action objects (actions.Relieve frames) = is_within 1 16384 frames
is_sound_action objects _ = true

-- a line of one of so many actors
abbrev pub is_sound_line : ℕ → ℕ → Line → Bool
is_sound_line objects actors line = nat_lt line.actor actors && is_sound_action objects line.action

abbrev pub are_sound_lines : ℕ → ℕ → List Line → Bool
are_sound_lines objects actors lines = list_all (is_sound_line objects actors) lines

-- the greatest size is none, or between the pages and 65,536
abbrev pub is_sound_limit : ℕ → Option ℕ → Bool
is_sound_limit pages None = true
is_sound_limit pages (Some limit) = is_within pages 65536 limit

-- an image has a name
abbrev pub is_sound_image : Option (List ℕ) → Bool
is_sound_image None = true
is_sound_image (Some name) = is_name name

-- what holds of an object before its users and pagers are counted
abbrev pub is_fair_object : ObjectLine → Bool
is_fair_object object =
    is_name object.name && nat_le object.birth.pages 65536 && is_sound_limit object.birth.pages object.birth.limit
    && is_sound_image object.image

-- at most 64 users and pagers
abbrev pub is_few : ObjectLine → Bool
is_few object = nat_le object.birth.users 64 && nat_le object.birth.pagers 64

-- 1 to 64 users and pagers
abbrev pub is_sound_object : ObjectLine → Bool
is_sound_object object = is_fair_object object && is_within 1 64 object.birth.users && is_within 1 64 object.birth.pagers

-- 1 to 16 objects, each sound
abbrev pub are_sound_objects : List ObjectLine → Bool
are_sound_objects objects = is_within 1 16 (length objects) && list_all is_sound_object objects

-- 1 to 16 objects, at most 64 actors, and lines of these actors on these objects
abbrev pub is_sound : Script → Bool
is_sound script =
    are_sound_objects script.objects && nat_le (length script.actors) 64
    && are_sound_lines (length script.objects) (length script.actors) script.lines
