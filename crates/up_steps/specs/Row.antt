-- One small script, and what event_of where it is done: a read that blocks, a packet, a supply, a go.
use Rattle.std.specs.Prelude.{◌≡◌, ℕ, false, List, [], ◌∷◌}
use Rattle.up_num.specs.Span.{Span}
use Rattle.up_num.specs.declared.answers.Packet.TheVariants as packets
use Rattle.up_model.specs.declared.entry.Brought.TheVariants.{Nothing, Frames}
use Rattle.up_model.specs.declared.entry.Brought.{Brought}
use Rattle.up_model.specs.declared.entry.Call.{Call}
use Rattle.up_model.specs.declared.entry.Call.TheVariants as calls
use Rattle.up_model.specs.declared.entry.Reply.{Reply}
use Rattle.up_model.specs.declared.entry.Reply.TheVariants as replies
use Rattle.up_script.specs.declared.script.Action.{Action}
use Rattle.up_script.specs.declared.script.Action.TheVariants as actions
use Rattle.up_script.specs.declared.script.Kind.TheVariants as kinds
use Rattle.up_script.specs.declared.script.Line.{Line}
use Rattle.up_worker.specs.Courses.{Entered, Begins, Hears}
use Rattle.up_worker.specs.declared.course.Doing.TheVariants.{OneLine}
use Rattle.up_worker.specs.declared.wish.Heard.TheVariants as heard
use Rattle.up_steps.specs.Steps.{Setting, Moment, Steps}
use Rattle.up_steps.specs.Told.{is_played}
use Rattle.up_steps.specs.OneThread.{ActorEvent, event_of, OneThread, Ran}

-- a user and a pager of one object; two frames are always at home
abbrev pub setting : Setting
setting = record {
  actors = record { number = 3; name = 97 ∷ []; kind = kinds.User; objects = 0 ∷ [] } ∷ record { number = 4; name = 98 ∷ []; kind = kinds.Pager; objects = 0 ∷ [] } ∷ [];
  objects = 1;
  levels = record { warn = 0; critical = 0 };
  home = λ g. 2;
  loans = λ kept g. 0;
}

abbrev pub page : Span
page = record { first = 0; count = 1 }

abbrev pub by_line : ℕ → ℕ → Action → Line
by_line number who action = record { number = number; actor = who; action = action }

abbrev pub reading : Action
reading = actions.Read 0 0 4

abbrev pub taking : Action
taking = actions.Act 0 calls.Packet

abbrev pub supplying : Action
supplying = actions.Act 0 (calls.Supply page [] Nothing)

-- newest first
abbrev pub lines : List Line
lines = by_line 9 0 actions.Go ∷ by_line 8 1 supplying ∷ by_line 7 1 taking ∷ by_line 6 0 reading ∷ []

abbrev pub entered : ℕ → Call → Reply → Entered
entered who call reply = record { object = 0; entry = record { who = who; epoch = 0; call = call; reply = reply } }

abbrev pub read_call : Call
read_call = calls.Read (record { off = 0; len = 4 }) (record { 0 = 0 }) Nothing

abbrev pub blocked : Entered
blocked = entered 0 read_call (replies.Blocked 0)

abbrev pub packet_reply : Reply
packet_reply = replies.Packet (packets.Read page)

abbrev pub taken : Entered
taken = entered 1 calls.Packet packet_reply

abbrev pub supplied_with : Brought → Entered
supplied_with brought = entered 1 (calls.Supply page [] brought) (replies.Took 1 (0 ∷ []))

abbrev pub read_bytes : Reply
read_bytes = replies.Bytes (0 ∷ 0 ∷ 0 ∷ 0 ∷ [])

abbrev pub retried : Entered
retried = entered 0 (calls.Retry 0 Nothing) read_bytes

-- after each line, newest first
abbrev pub after_read : List ActorEvent
after_read = event_of 0 (Hears (heard.Replied (replies.Blocked 0)) (blocked ∷ [])) ∷ event_of 0 (Begins (OneLine reading)) ∷ []

abbrev pub after_packet : List ActorEvent
after_packet = event_of 1 (Hears (heard.Replied packet_reply) (taken ∷ [])) ∷ event_of 1 (Begins (OneLine taking)) ∷ after_read

abbrev pub after_supply : List ActorEvent
after_supply =
    event_of 1 (Hears (heard.Replied (replies.Took 1 (0 ∷ []))) (supplied_with (Frames 1) ∷ [])) ∷ event_of 1 (Hears (heard.Brought (Frames 1)) [])
    ∷ event_of 1 (Begins (OneLine supplying)) ∷ after_packet

abbrev pub history : List ActorEvent
history = event_of 0 (Hears (heard.Replied read_bytes) (retried ∷ [])) ∷ event_of 0 (Hears heard.Done []) ∷ after_supply

-- all that event_of so is one thread's
abbrev pub IsOneThreads : Type 0
IsOneThreads = OneThread setting history × Ran setting lines history

-- and its four entries are the steps of the lines
abbrev pub HasItsSteps : Type 0
HasItsSteps = Steps setting lines (record { ages = 0; kept = 0 ∷ 0 ∷ [] }) (retried ∷ supplied_with (Frames 1) ∷ taken ∷ blocked ∷ [])

-- a supply alone brings one frame, and is its pager's
abbrev pub supply_line : List Line
supply_line = by_line 6 1 supplying ∷ []

abbrev pub RefusesMore : Type 0
RefusesMore = (m : Moment) → Steps setting supply_line m (supplied_with (Frames 2) ∷ []) → ⊥

abbrev pub RefusesOther : Type 0
RefusesOther = (m : Moment) → Steps setting supply_line m (entered 0 (calls.Supply page [] (Frames 1)) (replies.Took 1 (0 ∷ [])) ∷ []) → ⊥

-- the whole read, where the page is there already
abbrev pub read_line : List Line
read_line = by_line 6 0 reading ∷ []

-- a line that isn't done
abbrev pub RefusesNothing : Type 0
RefusesNothing = (m : Moment) → Steps setting read_line m [] → ⊥

-- a line that isn't played has no steps, whatever its entries are
abbrev pub TellsNoOthers : Type 0
TellsNoOthers = (s : Setting) (line : Line) (earlier : List Line) (m : Moment) (g : List Entered)
    → is_played line.action ≡ false → Steps s (line ∷ earlier) m g → ⊥
