use Rattle.std.proofs.Common.{ap, sym, subst, ◌∙◌}
use Rattle.up_bank.specs.declared.kind.FrameKind.TheVariants.{Loaned}
use Rattle.up_object.specs.Parts.{BankPair}
use Rattle.up_object.specs.Change.{AllOwn}
use Rattle.up_hands.specs.Machined.{Machined}
use Rattle.up_banks.specs.Pools.{banks_of}
use Rattle.up_hands.proofs.KeptFrames.{kept_popped}
use Rattle.up_banks.proofs.Owned.{own_of}
use Rattle.up_hands.proofs.hands.bring_lists.Goals as goal

pub bring_home-requires : goal.bring_home-requires
bring_home-requires c =
    let bank = c.args.machine.now.pool.loaned.bank in
    let last = (kept_popped bank _ _ c.in-Some.frames c.in-Some.ensures.items c.loop-frames.invariant.own).1 in
    subst (λ (banks : BankPair). AllOwn banks c.in-Some.frames.items) (sym c.loop-frames.invariant.banks)
    (own_of (banks_of c.args.machine.now.pool) Loaned c.in-Some.frames.items c.has_both_kinds.ensures.0 c.has_both_kinds.ensures.1 last)

pub loop-frames-preserved : goal.loop-frames-preserved
loop-frames-preserved c =
    record {
      lives = ap (λ (m : Machined). m.lives) c.bring_home.ensures ∙ c.loop-frames.invariant.lives;
      banks = ap (λ (m : Machined). banks_of m.pool) c.bring_home.ensures ∙ c.loop-frames.invariant.banks;
      own = (kept_popped c.args.machine.now.pool.loaned.bank _ _ c.in-Some.frames c.in-Some.ensures.items c.loop-frames.invariant.own).0;
    }
