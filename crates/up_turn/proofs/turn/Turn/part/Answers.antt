use Rattle.std.proofs.Common.{◌≡◌, ℕ, [], true, rules, subst, sym}
use Rattle.up_turn.specs.Placing.{by, has, without}
use Rattle.up_turn.specs.Standing.{Counts}
use Rattle.up_turn.proofs.Passes.{splits}
use Rattle.up_turn.proofs.turn.Turn.part.Goals as goal

pub split_seat-requires : goal.split_seat-requires
split_seat-requires g c = let v = c.args.place.now.me.0 in let who = sym c.requires.who in (
  search rules,
  search rules,
  splits _ _ _ _ _ _ (subst (λ (k : ℕ). has v.numbers k ≡ true) who c.requires.holds) (subst (λ (k : ℕ). by k v.own ≡ []) who c.requires.fresh)
      (subst (λ (k : ℕ). Counts v.first (without k v.numbers)) who c.requires.counts),
)
