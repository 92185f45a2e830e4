use Rattle.std.proofs.Common.{◌≡◌, ◌∙◌, sym, ap, map, List}
use Rattle.up_span.specs.Pages.{list_pages}
use Rattle.up_asks.specs.Asking.{events_of}
use Rattle.up_asks.specs.declared.event.Event.{Event}
use Rattle.up_model.specs.Deeds.{named}
use Rattle.up_model.specs.States.{empty_at_end}
use Rattle.up_model.specs.declared.entry.Call.TheVariants.{End}
use Rattle.up_model.specs.declared.entry.Reply.TheVariants.{Woke}
use Rattle.up_clean.specs.Ends.{freed_page}
use Rattle.up_clean.proofs.Events.{end_resolves}
use Rattle.up_clean.proofs.ending.end_within.Goals as goal

pub end_freeing-requires-clause-due : goal.end_freeing-requires-clause-due
end_freeing-requires-clause-due c =
    let birth = c.args.object.birth in
    let h = c.args.object.journal in
    let range = c.args.ending.range in
    let of = c.args.ending.of in
    let same : c.deref.result.now ≡ map freed_page (list_pages (empty_at_end birth h (named birth (End range of))) range.first range.count) = c.deref.ensures.value ∙ c.in-Ok.ensures in
    c.requires.due ∙ ap Woke (sym (c.in-Ok-waking.ensures (End range of) (λ kind p. end_resolves birth h range of kind p ∙ ap (λ (events : List Event). events_of events kind p) (sym same))))
