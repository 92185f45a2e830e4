-- What holds of the fields of asks between any two calls.
use Rattle.std.specs.Prelude.{◌≡◌, ◌+◌, ◌≤◌, vec_len}
use Rattle.std.specs.Vec.{vec_capacity}
use Rattle.up_asks.specs.Keeps.{waiting_among, complete_place}
use Rattle.up_asks.specs.declared.asks.Asks.TheInside.{Inside}

-- no more packets were taken than sent; each list has the room that is told, the list of packets also Complete's place; each
-- ticket has a place for its access; and the tickets that wait are listed
pub record AsksStand (a : Inside) : Type 0 where
  pub taken_few : a.taken ≤ vec_len a.packets
  pub packets_fit : vec_len a.packets + a.packet_room + complete_place a.closed ≤ vec_capacity a.packets
  pub tickets_fit : vec_len a.tickets + a.ticket_room ≤ vec_capacity a.tickets
  pub waiters_fit : vec_len a.waiters + a.ticket_room ≤ vec_capacity a.waiters
  pub waiting_fits : vec_len a.waiting + a.ticket_room ≤ vec_capacity a.waiting
  pub each_waiter : vec_len a.waiters ≡ vec_len a.tickets
  pub listed : a.waiting.items ≡ waiting_among a.tickets.items 0
