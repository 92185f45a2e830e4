use Rattle.std.proofs.Common.{ℕ, ◌-◌, ap, subst, ◌∙◌}
use Rattle.up_evictor.specs.Levels.{level_of}
use Rattle.up_evictor.specs.declared.levels.Levels.{Levels}
use Rattle.up_steps.specs.Handed.{Handed}
use Rattle.up_hands.specs.Keeping.{Eased}
use Rattle.up_hands.proofs.WishesDone.{carried_watch}
use Rattle.up_hands.proofs.hands.Hands.watch.Goals as goal

pub returns-clause-done : goal.returns-clause-done
returns-clause-done c = λ births g stood.
    let now = c.args.self.now in
    let free = c.free-free.result in
    let levels = ap (λ (v : Handed). v.levels) (c.self.view_is ∙ c.free-free.ensures.same) in
    let missing = c.saturating_sub-missing.ensures ∙ (ap (λ (l : Levels). l.warn - free) levels ∙ ap (λ (n : ℕ). now.levels.warn - n) c.free-free.ensures.value) in
    let short = c.level-level.ensures ∙ (ap (λ (l : Levels). level_of l free) levels ∙ ap (level_of now.levels) c.free-free.ensures.value) in
    carried_watch births now c.ease.new.self c.args.who c.saturating_sub-missing.result c.level-level.result g stood c.requires.hand missing short
    (subst (λ (v : Handed). Eased v c.ease.new.self c.args.who c.saturating_sub-missing.result c.level-level.result) c.free-free.ensures.same c.in_ok-ease.ensures.eased)
