use Rattle.std.proofs.Common.{◌*◌, ap, ◌∙◌, sym, rules}
use Rattle.up_turn.proofs.Keeps.{leaves_at}
use Rattle.up_turn.proofs.turn.Turn.put_back.Goals as goal

pub swap-requires : goal.swap-requires
swap-requires g c = (
  search rules,
  search rules,
  leaves_at _ _ _ _ _ _ _ _ _ _ c.exchange-slot.ensures.3 c.requires.inside.0 c.requires.goes_on
      (c.requires.origin ∙ ap (λ t. g.S.Chronicle.origin t.opening) (sym c.self.view_is)) (ap (λ n. n * 2) c.count-count.ensures.value),
)
