-- What contracts see of an actor, and what its lines and answers make of it.
use Rattle.std.specs.Prelude.{◌≡◌, ℕ, ◌+◌, ◌^◌, ◌<◌, ◌≤◌, ◌==◌, ◌++◌, not, Bool, true, false, cond, is_some, Option, None, List, [], ◌∷◌, length, filter, slice_get}
use Rattle.std.specs.List.{list_any}
use Rattle.up_model.specs.declared.entry.Call.TheVariants as calls
use Rattle.up_script.specs.Objects.{is_evictor}
use Rattle.up_script.specs.declared.script.Action.{Action}
use Rattle.up_script.specs.declared.script.Action.TheVariants as actions
use Rattle.up_script.specs.declared.script.Kind.{Kind}
use Rattle.up_worker.specs.Calls.{calls_of, fits_limits}
use Rattle.up_worker.specs.Wishes.{wants_after, settles, ticket_after, begins_call, wish_after}
use Rattle.up_worker.specs.declared.course.Aim.{Aim}
use Rattle.up_worker.specs.declared.course.Doing.{Doing}
use Rattle.up_worker.specs.declared.course.Doing.TheVariants.{Idle, OneLine}
use Rattle.up_worker.specs.declared.wish.Heard.{Heard}
use Rattle.up_worker.specs.declared.wish.Heard.TheVariants as heard
use Rattle.up_worker.specs.declared.wish.Wanted.{Wanted}
use Rattle.up_worker.specs.declared.wish.Wanted.TheVariants as wanted
use Rattle.up_worker.specs.declared.wish.Wish.{Wish}

-- An actor: its number, its kind and its objects; those that lines of it have left; what it does, how many calls of that are settled,
-- the ticket under which the next one waits, and which kind of answer its last wish waits for.
pub record Acting : Type 0 where
  pub who : ℕ
  pub kind : Kind
  pub objects : List ℕ
  pub left : List ℕ
  pub doing : Doing
  pub settled : ℕ
  pub ticket : Option ℕ
  pub wants : Wanted

abbrev pub unborn : ℕ → Kind → List ℕ → Acting
unborn who kind objects =
    record { who = who; kind = kind; objects = objects; left = []; doing = Idle; settled = 0; ticket = None; wants = wanted.Nothing }

-- the call that isn't settled yet
abbrev pub under_way : Acting → Option Aim
under_way a = slice_get (calls_of a.kind a.objects a.doing) a.settled

-- the objects that were left, after this line
abbrev pub with_leave : List ℕ → Action → List ℕ
with_leave left (actions.Act object (calls.Leave role)) = left ++ object ∷ []
with_leave left _ = left

abbrev pub left_after : List ℕ → Doing → List ℕ
left_after left (OneLine action) = with_leave left action
left_after left _ = left

-- before the first call of what it does
abbrev pub begun : Acting → Doing → Acting
begun a doing = record a { left = left_after a.left doing; doing = doing; settled = 0; ticket = None }

-- the first wish, and the actor that has told it
abbrev pub first_wish : Acting → Doing → Wish
first_wish a doing = begins_call doing (under_way (begun a doing))

abbrev pub started : Acting → Doing → Acting
started a doing = record (begun a doing) { wants = wants_after (first_wish a doing) }

-- the call with this answer is done with: one more is settled
abbrev pub hears : Acting → Heard → Acting
hears a (heard.Replied reply) = record a { settled = cond (settles reply) (a.settled + 1) a.settled; ticket = ticket_after reply a.ticket }
hears a (heard.Site reply) = record a { settled = a.settled + 1; ticket = None }
hears a _ = a

-- the wish after what was heard, and the actor that has told it
abbrev pub next_wish : Acting → Heard → Wish
next_wish a heard = wish_after a.doing (under_way (hears a heard)) (hears a heard).ticket heard

abbrev pub next_acting : Acting → Heard → Acting
next_acting a heard = record (hears a heard) { wants = wants_after (next_wish a heard) }

abbrev pub has : List ℕ → ℕ → Bool
has numbers n = list_any (λ one. one == n) numbers

-- the objects that it leaves at the end: all that no line has left, and an evictor leaves none
abbrev pub to_leave : Acting → List ℕ
to_leave a = cond (is_evictor a.kind) [] (filter (λ object. not (has a.left object)) a.objects)

-- a line of a user, a raw pager or an evictor that is no go
abbrev pub is_plain : Action → Bool
is_plain actions.Go = false
is_plain (actions.Sync object) = false
is_plain (actions.Turn object steps) = false
is_plain _ = true

-- the answer is to the call that isn't settled yet
abbrev pub is_for_call : Wanted → Bool
is_for_call wanted.Reply = true
is_for_call wanted.Site = true
is_for_call wanted.Frames = true
is_for_call _ = false

-- what holds of every actor
pub record Sound (a : Acting) : Type 0 where
  pub few : length a.objects < 2 ^ 32
  pub fits : fits_limits a.doing ≡ true
  pub count : a.settled ≤ 2 ^ 34
  pub under_way : is_for_call a.wants ≡ true → is_some (under_way a) ≡ true
