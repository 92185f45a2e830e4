use Rattle.std.proofs.Common.{vec_len}
use Rattle.up_pages.proofs.PagesTaken.{Taking}
use Rattle.up_pages.proofs.list.take_off.Given as goal

abbrev pub invariant-loop-pages : goal.invariant-loop-pages
invariant-loop-pages l = Taking l.fn.pages.items l.first l.fn.frames l.pages.items l.frames

abbrev pub decreases-loop-pages : goal.decreases-loop-pages
decreases-loop-pages l = vec_len l.pages
