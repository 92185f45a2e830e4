-- What contracts see of an actor of any kind: its lines of calls, and beside them those of steps, one of
-- which it is in at most.
use Rattle.std.specs.Prelude.{◌≡◌, ℕ, Bool, true, false, cond, is_some, Option, Some, None, List, slice_get}
use Rattle.up_script.specs.Objects.{is_worker}
use Rattle.up_script.specs.declared.script.Action.{Action}
use Rattle.up_script.specs.declared.script.Action.TheVariants as actions
use Rattle.up_script.specs.declared.script.Kind.{Kind}
use Rattle.up_worker.specs.Acting.{Acting, unborn, started, first_wish, next_acting, next_wish, to_leave}
use Rattle.up_worker.specs.Program.{Spoken, resting, turn_begins, sync_begins, serve_begins, hears_in}
use Rattle.up_worker.specs.declared.course.Doing.{Doing}
use Rattle.up_worker.specs.declared.course.Doing.TheVariants.{OneLine, Leaving}
use Rattle.up_worker.specs.declared.paging.Paging.{Paging}
use Rattle.up_worker.specs.declared.paging.SiteLine.{SiteLine}
use Rattle.up_worker.specs.declared.wish.Heard.{Heard}
use Rattle.up_worker.specs.declared.wish.Wanted.{Wanted}
use Rattle.up_worker.specs.declared.wish.Wanted.TheVariants as wanted
use Rattle.up_worker.specs.declared.wish.Wish.{Wish}

pub record Playing : Type 0 where
  pub calls : Acting
  pub paging : Paging

-- an actor, and what it says
pub record Said : Type 0 where
  pub player : Playing
  pub wish : Wish

abbrev pub unborn_player : ℕ → Kind → List ℕ → Playing
unborn_player who kind objects = record { calls = unborn who kind objects; paging = resting }

-- a line that is begun: each but a go
abbrev pub is_begun : Action → Bool
is_begun actions.Go = false
is_begun _ = true

-- a line of steps is on
abbrev pub in_steps : Playing → Bool
in_steps p = is_some p.paging.line

-- which kind of answer the last wish waits for
abbrev pub wants_of : Playing → Wanted
wants_of p = cond (in_steps p) p.paging.wants p.calls.wants

-- the calls go on, or the steps do
abbrev pub by_calls : Playing → Acting → Wish → Said
by_calls p a wish = record { player = record p { calls = a }; wish = wish }

abbrev pub by_steps : Playing → Spoken → Said
by_steps p s = record { player = record p { paging = s.paging }; wish = s.wish }

abbrev pub begins_calls : Playing → Doing → Said
begins_calls p doing = by_calls p (started p.calls doing) (first_wish p.calls doing)

-- a line is begun
abbrev pub begins_line : Playing → Action → Said
begins_line p (actions.Turn object count) = by_steps p (turn_begins p.paging object count)
begins_line p (actions.Sync object) = by_steps p (sync_begins p.paging object)
begins_line p action = begins_calls p (OneLine action)

-- after what was heard
abbrev pub goes_next : Option SiteLine → Playing → Heard → Said
goes_next None p answer = by_calls p (next_acting p.calls answer) (next_wish p.calls answer)
goes_next (Some line) p answer = by_steps p (hears_in line p.paging answer)

abbrev pub hears_next : Playing → Heard → Said
hears_next p answer = goes_next p.paging.line p answer

-- the object that a worker goes on to serve behind its last line, where it hasn't left it
abbrev pub to_serve : Acting → Option ℕ
to_serve a = cond (is_worker a.kind) (slice_get (to_leave a) 0) None

-- what is begun behind the last line: a worker serves, and all others leave
abbrev pub ends_by : Option ℕ → Playing → Said
ends_by None p = begins_calls p (Leaving (to_leave p.calls))
ends_by (Some object) p = by_steps p (serve_begins p.paging object)

abbrev pub begins_end : Playing → Said
begins_end p = ends_by (to_serve p.calls) p

abbrev pub is_waiting : Wanted → Bool
is_waiting wanted.Nothing = false
is_waiting _ = true

-- while a line of steps is on, it waits for an answer, and the calls wait for none
pub record PlaysOne (p : Playing) : Type 0 where
  pub alone : in_steps p ≡ true → p.calls.wants ≡ wanted.Nothing
  pub busy : in_steps p ≡ true → is_waiting p.paging.wants ≡ true
