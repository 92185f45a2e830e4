use Rattle.std.proofs.Common.{ℕ, ◌<◌, ◌≤◌, sym, subst, ap, ◌∙◌}
use Rattle.up_model.specs.Attempts.{accepts}
use Rattle.up_model.specs.Changes.{Blanks}
use Rattle.up_model.specs.declared.entry.Entry.{Entry}
use Rattle.up_object.specs.Change.{Change}
use Rattle.up_size.proofs.Resizes.{grown_blanks}
use Rattle.up_size.proofs.growing.grow_pages.Goals as goal

pub blank_all-requires-clause-blanks : goal.blank_all-requires-clause-blanks
blank_all-requires-clause-blanks c =
    subst (λ (v : Change). (p : ℕ) → c.args.size ≤ p → p < c.args.resizing.pages → Blanks v.birth v.entry v.journal p) (sym c.in-Ok.ensures.ok)
    (grown_blanks c.args.object.birth c.entry-entry.result c.args.object.journal c.args.resizing.pages c.args.size
    (ap (λ (e : Entry). e.call) c.entry-entry.ensures ∙ c.call.ensures) (ap (λ (e : Entry). accepts e.reply) c.entry-entry.ensures) c.requires.size)
