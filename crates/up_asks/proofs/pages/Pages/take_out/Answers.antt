use Rattle.std.proofs.Common.{◌<◌, sym, subst}
use Rattle.up_num.specs.declared.answers.AskKind.TheVariants.{Read, Dirty}
use Rattle.up_asks.specs.Asking.{AskedPages}
use Rattle.up_asks.proofs.pages.Pages.take_out.Goals as goal

pub remove_reserved-requires-clause-room : goal.remove_reserved-requires-clause-room
remove_reserved-requires-clause-room c = subst (λ (pages : AskedPages). 0 < pages.read.room) (sym c.self.view_is) (c.requires.room Read)

pub remove_reserved-requires-in-Dirty-clause-room : goal.remove_reserved-requires-in-Dirty-clause-room
remove_reserved-requires-in-Dirty-clause-room c = subst (λ (pages : AskedPages). 0 < pages.dirty.room) (sym c.self.view_is) (c.requires.room Dirty)
