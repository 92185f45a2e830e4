use Rattle.std.proofs.Common.{◌≤◌, length, sym, subst}
use Rattle.up_asks.specs.Asking.{Asking, pages_of}
use Rattle.up_asks.proofs.asks.Asks.settle.Goals as goal

pub take_all_out-requires-clause-room : goal.take_all_out-requires-clause-room
take_all_out-requires-clause-room c = λ kind. subst (λ (a : Asking). length c.args.events.now ≤ (pages_of a.pages kind).room) (sym c.self.view_is) (c.requires.room kind)
