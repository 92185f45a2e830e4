use Rattle.std.proofs.Common.{ℕ, ◌<◌, ◌≤◌, sym, subst, ap, ◌∙◌}
use Rattle.up_model.specs.Attempts.{accepts}
use Rattle.up_model.specs.Changes.{Blanks}
use Rattle.up_model.specs.declared.entry.Entry.{Entry}
use Rattle.up_object.specs.Change.{Change}
use Rattle.up_size.proofs.Zeroes.{zeroed}
use Rattle.up_size.proofs.zeroing.zero_pages.Goals as goal

pub blank_all-requires-clause-blanks : goal.blank_all-requires-clause-blanks
blank_all-requires-clause-blanks c =
    subst (λ (v : Change). (p : ℕ) → c.first_of-first.result ≤ p → p < c.end_of-limit.result → Blanks v.birth v.entry v.journal p) (sym c.in-Ok.ensures.ok)
    (zeroed c.args.object.birth c.entry-entry.result c.args.object.journal c.args.zeroing.range c.first_of-first.result c.end_of-limit.result
    (ap (λ (e : Entry). e.call) c.entry-entry.ensures ∙ c.call.ensures) (ap (λ (e : Entry). accepts e.reply) c.entry-entry.ensures) c.first_of-first.ensures c.end_of-limit.ensures.value)
