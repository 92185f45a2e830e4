-- How far an actor has come in what it does.
use Rattle.std.specs.Prelude.{◌+◌, cond, None}
use Rattle.up_worker.specs.Wishes.{settles, ticket_after}
use Rattle.up_worker.specs.declared.wish.Heard.{Heard}
use Rattle.up_worker.specs.declared.wish.Heard.TheVariants as heard
use Rattle.up_worker.specs.declared.wishing.Place.{Place}

-- the place after what was heard
abbrev pub place_after : Place → Heard → Place
place_after at (heard.Replied reply) = record { settled = cond (settles reply) (at.settled + 1) at.settled; ticket = ticket_after reply at.ticket }
place_after at (heard.Site reply) = record { settled = at.settled + 1; ticket = None }
place_after at _ = at
