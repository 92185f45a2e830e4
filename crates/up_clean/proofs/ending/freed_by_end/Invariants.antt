use Rattle.std.proofs.Common.{◌≡◌, ◌+◌, ◌-◌, ◌++◌, map}
use Rattle.up_span.specs.Pages.{list_pages}
use Rattle.up_model.specs.Deeds.{named}
use Rattle.up_model.specs.States.{empty_at_end}
use Rattle.up_model.specs.declared.entry.Call.TheVariants.{End}
use Rattle.up_clean.specs.Ends.{freed_page}
use Rattle.up_clean.proofs.ending.freed_by_end.Given as goal

-- the events so far, and those of the pages to come
abbrev pub invariant-loop-place : goal.invariant-loop-place
invariant-loop-place l =
    l.events.items ++ map freed_page (list_pages (empty_at_end l.fn.object.birth l.fn.object.journal (named l.fn.object.birth (End l.fn.range l.fn.of))) (l.fn.range.first + l.place) (l.fn.range.count - l.place))
    ≡ map freed_page (list_pages (empty_at_end l.fn.object.birth l.fn.object.journal (named l.fn.object.birth (End l.fn.range l.fn.of))) l.fn.range.first l.fn.range.count)
