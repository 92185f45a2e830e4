-- The queue of an object, in a reader's words, and as it is kept.
use Rattle.std.specs.Prelude.{◌≡◌, ℕ, List, map}
use Rattle.up_queues.specs.declared.queued.Queued.{Queued}
use Rattle.up_queues.specs.Queue.{find_page, InOrder}
use Rattle.up_model.specs.Use.{newest_epoch}
use Rattle.up_model.specs.Order.{order}
use Rattle.up_model.specs.Legal.{Legal}
use Rattle.up_model.specs.declared.entry.Birth.{Birth}
use Rattle.up_model.specs.declared.entry.Entry.{Entry}
use Rattle.up_object.specs.Stands.{queued, seat}
use Rattle.up_object.specs.Object.{Stands}
use Rattle.up_object.specs.declared.object.Object.TheInside.{Inside}

-- the queue stands for a journal: it is the order of reclaiming of the whole journal, each page with its generation, its last use
-- and since when it is cold
abbrev pub QueueStands : List Queued → Birth → List Entry → Type 0
QueueStands items birth h = items ≡ map (queued birth h) (order birth h (newest_epoch h) 0)

-- as it is kept: in order, and with just the pages that may be evicted
pub record QueueKept (items : List Queued) (birth : Birth) (h : List Entry) : Type 0 where
  pub ordered : InOrder items
  pub pages : (p : ℕ) → find_page items p ≡ seat birth h p

-- after a legal journal both say the same
abbrev pub QueueIsOrder : Type 0
QueueIsOrder = (birth : Birth) (h : List Entry) → Legal birth h → (items : List Queued) →
    (QueueKept items birth h → QueueStands items birth h) × (QueueStands items birth h → QueueKept items birth h)

-- so the queue of an object whose parts stand for its journal is the order of reclaiming of that whole journal
abbrev pub QueueOfObject : Type 0
QueueOfObject = (o : Inside) → Stands o → InOrder o.queues.items → QueueStands o.queues.items o.birth o.log.entries
