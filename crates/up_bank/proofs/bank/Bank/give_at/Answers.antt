use Rattle.std.proofs.Common.{[], rules, arith, ap, ◌∙◌, None}
use Rattle.up_bank.proofs.Sizes.{Sized, sized}
use Rattle.up_bank.proofs.TableSteps.{reclaims}
use Rattle.up_bank.proofs.Claims.{last_slot, restores_at, ready, puts}
use Rattle.up_bank.proofs.Views.{regains}
use Rattle.up_bank.proofs.bank.Bank.give_at.Goals as goal

pub join_seat-requires : goal.join_seat-requires
join_seat-requires c = let z : Sized c.self.inside.table.shared.key c.self.inside.table.shared.table_id c.args.self.now = sized _ _ _ _ c.self.view_is c.self.invariant in
    (search rules, search rules, search rules, omega arith, regains _ _ _ _ _ c.requires.idle.acts c.requires.idle.has c.requires.own.3.lent)

pub fetch_and-requires : goal.fetch_and-requires
fetch_and-requires c = let z : Sized c.self.inside.table.shared.key c.self.inside.table.shared.table_id c.args.self.now = sized _ _ _ _ c.self.view_is c.self.invariant in
    let now = c.join_seat.ensures.2 in
    (search rules, omega arith, reclaims _ _ _ c.args.number _ (ap (λ m. m.0.has) now ∙ c.requires.own.0) (ap (λ m. m.0.empty) now ∙ c.requires.own.1) (ap (λ m. m.0.rests) now ∙ c.requires.idle.acts))

pub exchange-requires : goal.exchange-requires
exchange-requires c = let has = ap (λ m. m.0.has) c.join_seat.ensures.2 ∙ c.requires.own.0 in
    let got = c.fetch_and.ensures.2 c.args.number has in (search rules, (None, last_slot c.fetch_and.new.seat.me _ _ _ (ap (λ m. m.1) got)))

pub fetch_or-requires : goal.fetch_or-requires
fetch_or-requires c = let z : Sized c.self.inside.table.shared.key c.self.inside.table.shared.table_id c.args.self.now = sized _ _ _ _ c.self.view_is c.self.invariant in
    let now = c.join_seat.ensures.2 in let has = ap (λ m. m.0.has) now ∙ c.requires.own.0 in
    let set = ready c.args.number c.args.block c.args.place.now.me c.args.own.me.0 c.join_seat.new.seat.me c.fetch_and.new.seat.me c.exchange.new.seat.me c.requires.idle now (c.fetch_and.ensures.2 c.args.number has) c.exchange.ensures.3 in
    (search rules, omega arith, restores_at _ _ _ c.args.number c.args.block _ [] (ap (λ m. m.0.has) set ∙ c.requires.own.0) (ap (λ m. m.0.empty) set) (ap (λ m. m.0.rests) set ∙ c.requires.idle.acts) (ap (λ m. m.1) set))

pub returns-clause-put : goal.returns-clause-put
returns-clause-put c = let now = c.join_seat.ensures.2 in let has = ap (λ m. m.0.has) now ∙ c.requires.own.0 in
    let set = ready c.args.number c.args.block c.args.place.now.me c.args.own.me.0 c.join_seat.new.seat.me c.fetch_and.new.seat.me c.exchange.new.seat.me c.requires.idle now (c.fetch_and.ensures.2 c.args.number has) c.exchange.ensures.3 in
    (c.fetch_or.result, puts c.args.number c.args.block c.args.place.now.me c.args.own.me.0 c.exchange.new.seat.me _ _ set (c.fetch_or.ensures.2 c.args.number c.args.block (ap (λ m. m.0.has) set ∙ c.requires.own.0) (last_slot c.exchange.new.seat.me _ _ _ (ap (λ m. m.1) set))))
