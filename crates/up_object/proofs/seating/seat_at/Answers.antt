use Rattle.std.proofs.Common.{arith}
use Rattle.up_pages.specs.Pages.{size_of}
use Rattle.up_object.proofs.Seats.{fewer_items}
use Rattle.up_object.proofs.seating.seat_at.Goals as goal

pub seat_page-requires : goal.seat_page-requires
seat_page-requires c = λ none.
    let few = fewer_items (size_of c.args.pages.now) c.args.page.0 c.args.queues.now.items c.len.ensures.ordered c.requires.beyond c.requires.within none in
    let wide = c.requires.wide in omega arith
