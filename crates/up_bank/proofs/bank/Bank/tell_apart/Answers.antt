use Rattle.std.proofs.Common.{rules, arith, ap, ◌∙◌}
use Rattle.up_bank.proofs.Sizes.{Sized, sized}
use Rattle.up_bank.proofs.Tokens.{tells, gives_token, shows, hides, repays, one_same, other_same}
use Rattle.up_bank.proofs.bank.Bank.tell_apart.Goals as goal

pub split_seat-token-requires : goal.split_seat-token-requires
split_seat-token-requires c = let z : Sized c.self.inside.table.shared.key c.self.inside.table.shared.table_id c.args.self.now = sized _ _ _ _ c.self.view_is c.self.invariant in
    (search rules, omega arith, gives_token _ _ c.args.number _ c.requires.has c.requires.rest.0.rests c.requires.rest.0.lent)

pub join_seat-requires : goal.join_seat-requires
join_seat-requires c = let z : Sized c.self.inside.table.shared.key c.self.inside.table.shared.table_id c.args.self.now = sized _ _ _ _ c.self.view_is c.self.invariant in
    let token = c.split_seat-token.ensures.4 in
    (search rules, search rules, search rules, omega arith, shows _ _ c.args.number _ _ _ (ap (λ m. m.0.token) token ∙ c.requires.has) (ap (λ m. m.0.has) token) c.requires.rest.1.rests c.requires.rest.1.lent)

pub load-requires : goal.load-requires
load-requires c = let z : Sized c.self.inside.table.shared.key c.self.inside.table.shared.table_id c.args.self.now = sized _ _ _ _ c.self.view_is c.self.invariant in
    (search rules, omega arith, tells _ _ _ _ _)

pub split_seat-back-requires : goal.split_seat-back-requires
split_seat-back-requires c = let z : Sized c.self.inside.table.shared.key c.self.inside.table.shared.table_id c.args.self.now = sized _ _ _ _ c.self.view_is c.self.invariant in
    let now = c.load.ensures.2.0 ∙ c.join_seat.ensures.2 in
    (search rules, omega arith, hides _ _ c.args.number _ (ap (λ m. m.0.token) now ∙ (ap (λ m. m.0.token) c.split_seat-token.ensures.4 ∙ c.requires.has)) (ap (λ m. m.0.lent) now ∙ c.requires.rest.1.lent))

pub join_seat-requires-2 : goal.join_seat-requires-2
join_seat-requires-2 c = let z : Sized c.self.inside.table.shared.key c.self.inside.table.shared.table_id c.args.self.now = sized _ _ _ _ c.self.view_is c.self.invariant in
    let now = c.load.ensures.2.0 ∙ c.join_seat.ensures.2 in let back = c.split_seat-back.ensures.4 in (
      search rules,
      search rules,
      search rules,
      omega arith,
      repays _ _ c.args.number _ _ _ (ap (λ m. m.0.has) c.split_seat-token.ensures.2 ∙ c.requires.has)
          (ap (λ m. m.0.token) back ∙ (ap (λ m. m.0.token) now ∙ (ap (λ m. m.0.token) c.split_seat-token.ensures.4 ∙ c.requires.has))) (ap (λ m. m.0.has) back),
    )

pub returns-clause-same : goal.returns-clause-same
returns-clause-same c = (one_same _ _ _ c.split_seat-back.result.me.0 c.split_seat-token.ensures.2 c.join_seat-2.ensures.2 c.requires.rest.0.lent, other_same _ _ _ _ c.split_seat-token.result.me.0 c.join_seat.ensures.2 c.load.ensures.2.0 c.split_seat-back.ensures.2 c.requires.rest.1.token)

pub returns-clause-apart : goal.returns-clause-apart
returns-clause-apart c has = c.load.ensures.2.1 c.args.number (ap (λ m. m.0.token) c.join_seat.ensures.2 ∙ (ap (λ m. m.0.token) c.split_seat-token.ensures.4 ∙ c.requires.has)) (ap (λ m. m.0.has) c.join_seat.ensures.2 ∙ has)
