use Rattle.std.proofs.Common.{ℕ, ◌<◌, ◌≤◌, sym, subst}
use Rattle.up_model.specs.Changes.{Vanishes}
use Rattle.up_object.specs.Change.{Change}
use Rattle.up_object.proofs.changing.Changing.close_cut.Goals as goal

pub close_gone-requires-clause-gone : goal.close_gone-requires-clause-gone
close_gone-requires-clause-gone c =
    subst (λ (v : Change). (p : ℕ) → v.done.first ≤ p → p < v.done.limit → Vanishes v.birth v.entry v.journal p) (sym c.vanish_all.ensures) c.requires.gone
