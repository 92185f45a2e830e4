use Rattle.std.proofs.Common.{◌<◌, sym, subst}
use Rattle.up_num.specs.declared.answers.AskKind.TheVariants.{Read, Dirty}
use Rattle.up_asks.specs.Asking.{AskedPages}
use Rattle.up_asks.proofs.pages.Pages.add.Goals as goal

pub add_reserved-requires-clause-room : goal.add_reserved-requires-clause-room
add_reserved-requires-clause-room c = subst (λ (pages : AskedPages). 0 < pages.read.room) (sym c.self.view_is) (c.requires.room Read)

pub add_reserved-requires-in-Dirty-clause-room : goal.add_reserved-requires-in-Dirty-clause-room
add_reserved-requires-in-Dirty-clause-room c = subst (λ (pages : AskedPages). 0 < pages.dirty.room) (sym c.self.view_is) (c.requires.room Dirty)
