use Rattle.std.proofs.Common.{◌≡◌, ◌≤◌, ◌∙◌, sym, ap, subst, map, List, length, arith}
use Rattle.up_span.specs.Pages.{list_pages}
use Rattle.up_asks.specs.Asking.{events_of}
use Rattle.up_asks.specs.Keeps.{AllFixed}
use Rattle.up_asks.specs.declared.event.Event.{Event}
use Rattle.up_model.specs.Deeds.{named}
use Rattle.up_model.specs.States.{empty_at_end}
use Rattle.up_model.specs.declared.entry.Call.TheVariants.{End}
use Rattle.up_model.specs.Changes.{Happens}
use Rattle.up_object.specs.Change.{Change}
use Rattle.up_clean.specs.Ends.{freed_page}
use Rattle.up_clean.proofs.Events.{freed_fixed, freed_few, end_happens, end_due}
use Rattle.up_clean.proofs.ending.end_freeing.Goals as goal

pub resolve-requires-clause-fixed : goal.resolve-requires-clause-fixed
resolve-requires-clause-fixed c =
    let pages = list_pages (empty_at_end c.args.object.birth c.args.object.journal (named c.args.object.birth (End c.args.ending.range c.args.ending.of))) c.args.ending.range.first c.args.ending.range.count in
    let same : c.deref.result.now ≡ map freed_page pages = c.deref.ensures.value ∙ c.requires.events in
    subst (λ (events : List Event). AllFixed events) (sym same) (freed_fixed pages)

pub resolve-requires-clause-room : goal.resolve-requires-clause-room
resolve-requires-clause-room c =
    let test = empty_at_end c.args.object.birth c.args.object.journal (named c.args.object.birth (End c.args.ending.range c.args.ending.of)) in
    let first = c.args.ending.range.first in
    let count = c.args.ending.range.count in
    let same : length c.deref.result.now ≡ length (map freed_page (list_pages test first count)) = ap length (c.deref.ensures.value ∙ c.requires.events) in
    let few : length (map freed_page (list_pages test first count)) ≤ count = freed_few test first count in
    let room : c.end_pages.new.changing.room.changes ≡ c.in-Ok.changing.room.changes = ap (λ (x : Change). x.room.changes) c.end_pages.ensures in
    let enough : c.count_of-changes.result ≤ c.in-Ok.changing.room.changes = c.in-Ok.ensures.room.1.1 in
    omega (arith, c.count_of-changes.ensures)

pub resolve-requires-clause-happens : goal.resolve-requires-clause-happens
resolve-requires-clause-happens c =
    let pages = list_pages (empty_at_end c.args.object.birth c.args.object.journal (named c.args.object.birth (End c.args.ending.range c.args.ending.of))) c.args.ending.range.first c.args.ending.range.count in
    let same : c.deref.result.now ≡ map freed_page pages = c.deref.ensures.value ∙ c.requires.events in
    subst (λ (events : List Event). Happens c.end_pages.new.changing.birth c.end_pages.new.changing.entry c.end_pages.new.changing.journal (events_of events)) (sym same)
    (rw (c.end_pages.ensures, c.in-Ok.ensures.ok, c.entry-entry.ensures, c.call.ensures)
    (end_happens c.args.object.birth c.args.object.journal c.args.ending.by.who c.args.ending.by.epoch c.args.ending.range c.args.ending.of c.args.noted))

pub close-object-requires-clause-due : goal.close-object-requires-clause-due
close-object-requires-clause-due c =
    rw (c.resolve.ensures, c.end_pages.ensures, c.in-Ok.ensures.ok, c.entry-entry.ensures, c.call.ensures, c.requires.notes)
    (end_due c.args.object.birth c.args.object.journal c.args.ending.by.who c.args.ending.by.epoch c.args.ending.range c.args.ending.of c.args.woke c.requires.proper c.requires.due)
