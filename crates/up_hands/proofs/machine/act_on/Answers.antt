use Rattle.std.proofs.Common.{ap, sym, subst, ◌∙◌, arith, List}
use Rattle.up_bank.specs.Standing.{Held as Frame}
use Rattle.up_core.specs.Requests.{kind_taken}
use Rattle.up_object.specs.Parts.{BankPair, bank_of}
use Rattle.up_object.specs.Change.{AllAre, AllOwn}
use Rattle.up_object.specs.OneCall.{frames_of}
use Rattle.up_banks.specs.Pools.{Pooled, banks_of, stored}
use Rattle.up_banks.proofs.Owned.{own_of, stored_with}
use Rattle.up_hands.proofs.machine.act_on.Goals as goal

pub bring_home-requires-in-Err : goal.bring_home-requires-in-Err
bring_home-requires-in-Err c =
    let banks = banks_of c.args.pool.now in
    let are = subst (λ (pair : BankPair). AllAre (bank_of pair (kind_taken c.args.call)) (frames_of c.args.frames)) c.requires.banks c.requires.own in
    subst (λ (frames : List Frame). AllOwn banks frames) (sym c.in-Err.ensures.back) (own_of banks (kind_taken c.args.call) (frames_of c.args.frames) c.requires.kinds.0 c.requires.kinds.1 are)

pub returns-in-Ok-clause-frames : goal.returns-in-Ok-clause-frames
returns-in-Ok-clause-frames c = λ kind.
    let came = ap (λ (pool : Pooled). (stored kind pool).home) c.bring_home.ensures ∙ stored_with kind c.in-Ok.field-0.back.items c.args.pool.now in
    let moved = c.in-Ok.ensures.frames kind in
    omega arith
