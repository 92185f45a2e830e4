-- The programs of a sample pager's worker and of a user's sync: which step comes next after each answer, and
-- what is wished for it.
use Rattle.std.specs.Prelude.{ℕ, ◌-◌, ◌==◌, Bool, true, false, cond, Option, Some, None, List, []}
use Rattle.up_num.specs.declared.answers.AskKind.TheVariants.{Read as ReadAsk, Dirty as DirtyAsk}
use Rattle.up_span.specs.declared.run.Run.{Run}
use Rattle.up_model.specs.declared.entry.Brought.{Brought}
use Rattle.up_model.specs.declared.entry.Brought.TheVariants.{Nothing}
use Rattle.up_model.specs.declared.entry.Call.TheVariants as calls
use Rattle.up_model.specs.declared.entry.Role.TheVariants.{Pager}
use Rattle.up_claims.specs.Sets.{without}
use Rattle.up_claims.specs.declared.step.SiteReply.{SiteReply}
use Rattle.up_claims.specs.declared.step.SiteReply.TheVariants as sites
use Rattle.up_claims.specs.declared.step.SiteStep.{SiteStep}
use Rattle.up_claims.specs.declared.step.SiteStep.TheVariants as steps
use Rattle.up_worker.specs.Wishes.{wants_after}
use Rattle.up_worker.specs.declared.paging.Paging.{Paging}
use Rattle.up_worker.specs.declared.paging.SiteLine.{SiteLine}
use Rattle.up_worker.specs.declared.paging.SiteLine.TheVariants.{Turns, Syncs, Serves}
use Rattle.up_worker.specs.declared.task.Task.{Task}
use Rattle.up_worker.specs.declared.task.Task.TheVariants as tasks
use Rattle.up_worker.specs.declared.wish.Heard.{Heard}
use Rattle.up_worker.specs.declared.wish.Heard.TheVariants as heard
use Rattle.up_worker.specs.declared.wish.Wanted.TheVariants as wanted
use Rattle.up_worker.specs.declared.wish.Wish.{Wish}
use Rattle.up_worker.specs.declared.wish.Wish.TheVariants as wishes

-- the step of a task; a sync picks from a set
abbrev pub step_of : Task → List Run → SiteStep
step_of (tasks.Pick write_first) set = steps.Pick write_first
step_of (tasks.Deliver good) set = steps.Deliver
step_of tasks.Copy set = steps.Copy
step_of tasks.Store set = steps.Store
step_of tasks.End set = steps.End
step_of (tasks.Deny kind page) set = steps.Deny kind page
step_of tasks.Survey set = steps.Survey
step_of tasks.PickFrom set = steps.PickFrom set
step_of tasks.Flush set = steps.Flush

-- a read was to be denied
abbrev pub is_for_read : Task → Bool
is_for_read (tasks.Deny ReadAsk page) = true
is_for_read _ = false

-- A worker's next task after an answer. What was fetched is delivered; a page without a frame is denied, and
-- after that of a read the next pick writes first; what was claimed is copied, stored page by page, and
-- ended; after all else it picks.
abbrev pub task_after : Task → SiteReply → Task
task_after task (sites.Denied page) = tasks.Deny DirtyAsk page
task_after task (sites.Fetched page ok) = tasks.Deliver ok
task_after task (sites.NoFrame page) = tasks.Deny ReadAsk page
task_after task (sites.Claimed range) = tasks.Copy
task_after task sites.Copied = tasks.Store
task_after task (sites.Stored more) = cond more tasks.Store tasks.End
task_after task sites.Passed = tasks.Pick (is_for_read task)
task_after task _ = tasks.Pick false

-- A sync's next task after an answer: it picks from the pages that were unclean until all of them are clean,
-- and then flushes. None: it is done.
abbrev pub sync_after : SiteReply → Option Task
sync_after (sites.Surveyed found) = Some tasks.PickFrom
sync_after (sites.Claimed range) = Some tasks.Copy
sync_after sites.Copied = Some tasks.Store
sync_after (sites.Stored more) = Some (cond more tasks.Store tasks.End)
sync_after sites.Ended = Some tasks.PickFrom
sync_after (sites.Busy range) = Some tasks.PickFrom
sync_after sites.Clear = Some tasks.Flush
sync_after _ = None

-- the set of a sync after an answer: the pages that were found, without those that it has begun to write back
abbrev pub set_after : List Run → SiteReply → List Run
set_after set (sites.Surveyed found) = found
set_after set (sites.Claimed range) = without set range
set_after set _ = set

-- another set, or the same one
abbrev pub or_set : Option (List Run) → List Run → List Run
or_set None set = set
or_set (Some found) set = found

-- another's claim is in the way
abbrev pub is_busy : SiteReply → Bool
is_busy (sites.Busy range) = true
is_busy _ = false

-- how many frames are gathered before a step: one for a page that was fetched well
abbrev pub frames_first : Task → ℕ
frames_first (tasks.Deliver true) = 1
frames_first _ = 0

-- how many frames an answer asks for
abbrev pub frames_asked : SiteReply → Option ℕ
frames_asked (sites.Needs count) = Some count
frames_asked _ = None

-- how far an actor has come with steps, and what it says
pub record Spoken : Type 0 where
  pub paging : Paging
  pub wish : Wish

-- before the first line
abbrev pub resting : Paging
resting = record {
  line = None;
  task = tasks.Pick false;
  left = 0;
  set = [];
  wants = wanted.Nothing;
  hand = Nothing;
}

-- a line is over where its end is said
abbrev pub line_on : Option SiteLine → Wish → Option SiteLine
line_on line wishes.LineEnd = None
line_on line _ = line

-- a wish is said, with frames in hand for it
abbrev pub says_with : Paging → Brought → Wish → Spoken
says_with c b wish =
    record { paging = record c { line = line_on c.line wish; wants = wants_after wish; hand = b }; wish = wish }

abbrev pub says : Paging → Wish → Spoken
says c wish = says_with c Nothing wish

-- what is wished for a task: its step, or the frames for it
abbrev pub wish_for : ℕ → Task → List Run → Wish
wish_for object task set =
    cond (frames_first task == 0) (wishes.Site object (step_of task set)) (wishes.Gather (frames_first task))

-- a turn goes on while steps are left
abbrev pub turn_wish : ℕ → ℕ → Task → List Run → Wish
turn_wish left object task set = cond (left == 0) wishes.LineEnd (wish_for object task set)

abbrev pub turn_says : ℕ → Paging → Spoken
turn_says object c = says c (turn_wish c.left object c.task c.set)

-- After a step of a turn: where it asks for frames, it is made again with them. Else one step less is left.
abbrev pub turn_goes : Option ℕ → ℕ → Paging → SiteReply → Spoken
turn_goes (Some count) object c answer = says c (wishes.Gather count)
turn_goes None object c answer = turn_says object
    (record c { task = task_after c.task answer; left = c.left - 1 })

abbrev pub turned : ℕ → Paging → SiteReply → Spoken
turned object c answer = turn_goes (frames_asked answer) object c answer

-- after a step of a sync: it waits where another's claim is in the way
abbrev pub sync_wish : Bool → ℕ → Task → List Run → Wish
sync_wish true object task set = wishes.Park object
sync_wish false object task set = wish_for object task set

abbrev pub sync_says : Bool → ℕ → Paging → Spoken
sync_says busy object c = says c (sync_wish busy object c.task c.set)

abbrev pub sync_goes : Option Task → ℕ → Paging → SiteReply → Spoken
sync_goes None object c answer = says c wishes.LineEnd
sync_goes (Some task) object c answer = sync_says (is_busy answer) object
    (record c { task = task; set = set_after c.set answer })

abbrev pub synced : ℕ → Paging → SiteReply → Spoken
synced object c answer = sync_goes (sync_after answer) object c answer

-- After a step behind a worker's last line: it waits where there is nothing to do, and leaves where the
-- object is detached and nothing is to do, or a store failed.
abbrev pub leaves : ℕ → Wish
leaves object = wishes.Act object (calls.Leave Pager)

abbrev pub serve_wish : SiteReply → ℕ → Task → List Run → Wish
serve_wish (sites.Idle detached) object task set = cond detached (leaves object) (wishes.Park object)
serve_wish (sites.StoreFailed detached) object task set = cond detached (leaves object)
    (wish_for object task set)
serve_wish _ object task set = wish_for object task set

abbrev pub serve_says : ℕ → Paging → SiteReply → Spoken
serve_says object c answer = says c (serve_wish answer object c.task c.set)

abbrev pub serve_goes : Option ℕ → ℕ → Paging → SiteReply → Spoken
serve_goes (Some count) object c answer = says c (wishes.Gather count)
serve_goes None object c answer = serve_says object (record c { task = task_after c.task answer }) answer

abbrev pub served : ℕ → Paging → SiteReply → Spoken
served object c answer = serve_goes (frames_asked answer) object c answer

-- after a step of a line
abbrev pub answered : SiteLine → Paging → SiteReply → Spoken
answered (Turns object) c answer = turned object c answer
answered (Syncs object) c answer = synced object c answer
answered (Serves object) c answer = served object c answer

abbrev pub object_of : SiteLine → ℕ
object_of (Turns object) = object
object_of (Syncs object) = object
object_of (Serves object) = object

-- after what was heard in a line: frames are for its step, and where it waited it makes its step; with the
-- reply to its leave it is over
abbrev pub hears_in : SiteLine → Paging → Heard → Spoken
hears_in line c (heard.Site answer) = answered line c answer
hears_in line c (heard.Brought b) = says_with c b (wishes.Site (object_of line) (step_of c.task c.set))
hears_in line c heard.Done = says c (wish_for (object_of line) c.task c.set)
hears_in line c (heard.Replied reply) = says c wishes.LineEnd

-- A line begins. A turn goes on with the task that the last one left, a sync with the pages that are unclean.
abbrev pub turn_begins : Paging → ℕ → ℕ → Spoken
turn_begins c object count = turn_says object (record c { line = Some (Turns object); left = count })

abbrev pub sync_begins : Paging → ℕ → Spoken
sync_begins c object =
    says (record c { line = Some (Syncs object); task = tasks.Survey; set = [] })
    (wishes.Site object steps.Survey)

abbrev pub serve_begins : Paging → ℕ → Spoken
serve_begins c object = says (record c { line = Some (Serves object) }) (wish_for object c.task c.set)
