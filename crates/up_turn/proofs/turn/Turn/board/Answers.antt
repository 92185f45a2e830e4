use Rattle.std.proofs.Common.{◌≡◌, List, [], ◌∷◌, Option, sym, ap, subst}
use Rattle.atomic_table.specs.Table.{opening}
use Rattle.up_turn.specs.Turned.{Turned, newcomer}
use Rattle.up_turn.proofs.FirstAndLast.{opens}
use Rattle.up_turn.proofs.turn.Turn.board.Goals as goal

pub new-requires : goal.new-requires
new-requires g c =
    subst (λ (z : List (Option g.row.S.Denot)). Turned (λ x. g.S.Chronicle.origin x ≡ g.S.Chronicle.origin c.of.result.value) g.S.Chronicle.list c.args.actors (opening (0 ∷ []) z (newcomer c.args.actors))) (sym c.in_ok-slots.ensures.ok)
    (opens _ _ c.args.actors c.args.state c.requires (ap g.S.Chronicle.origin (sym c.of.ensures)))
