use Rattle.std.proofs.Common.{ap, ◌∙◌, Some, rules}
use Rattle.up_turn.proofs.Keeps.{enters_at, slot_of, in_hand}
use Rattle.up_turn.proofs.turn.Turn.try_enter.Goals as goal

pub compare_exchange-found-requires : goal.compare_exchange-found-requires
compare_exchange-found-requires g c = (
  search rules,
  search rules,
  enters_at _ _ _ _ _ _ _ _ c.requires.outside c.requires.free c.requires.counts
      (λ x h. c.requires.kin x (h ∙ ap (λ t. g.S.Chronicle.origin t.opening) c.self.view_is)),
)

pub exchange-requires : goal.exchange-requires
exchange-requires g c = let told = c.compare_exchange-found.ensures.2.0 c.if-found-word.false in
    (search rules, (Some told.value, slot_of _ _ _ (ap (λ m. m.1) told.is)))

pub returns-clause-got : goal.returns-clause-got
returns-clause-got g c = let told = c.compare_exchange-found.ensures.2.0 c.if-found-word.false in
    in_hand _ _ _ _ _ told c.requires.outside _ c.exchange.ensures.2 c.exchange.ensures.3
