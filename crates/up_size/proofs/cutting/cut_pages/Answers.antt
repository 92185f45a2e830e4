use Rattle.std.proofs.Common.{sym, subst, ap, ◌∙◌}
use Rattle.up_model.specs.Attempts.{accepts}
use Rattle.up_model.specs.declared.entry.Entry.{Entry}
use Rattle.up_size.proofs.Resizes.{AllVanish, cut_gone}
use Rattle.up_size.proofs.cutting.cut_pages.Goals as goal

pub close_cut-object-requires-clause-gone : goal.close_cut-object-requires-clause-gone
close_cut-object-requires-clause-gone c =
    let opened : AllVanish c.in-Ok.changing = subst AllVanish (sym c.in-Ok.ensures.ok)
    (cut_gone c.args.object.birth c.entry-entry.result c.args.object.journal c.args.resizing.pages c.args.size
    (ap (λ (e : Entry). e.call) c.entry-entry.ensures ∙ c.call.ensures) (ap (λ (e : Entry). accepts e.reply) c.entry-entry.ensures) c.requires.size c.requires.unpinned) in
    let resolved : AllVanish c.resolve_over.new.changing = subst AllVanish (sym c.resolve_over.ensures) opened in
    subst AllVanish (sym c.set_changed.ensures) resolved
