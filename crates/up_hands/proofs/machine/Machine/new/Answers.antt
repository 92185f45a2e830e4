use Rattle.std.proofs.Common.{ap, sym, subst, ◌∙◌}
use Rattle.up_clock.specs.Known.{Known}
use Rattle.up_object.specs.Parts.{BankPair}
use Rattle.up_steps.specs.Handed.{AllLegal}
use Rattle.up_hands.specs.Machined.{AllOf}
use Rattle.up_banks.specs.Pools.{Pooled, banks_of}
use Rattle.up_hands.proofs.ObjectBirths.{same_many}
use Rattle.up_hands.proofs.EntriesAdded.{legal_new}
use Rattle.up_hands.proofs.machine.Machine.new.Goals as goal

pub invariant_of-result : goal.invariant_of-result
invariant_of-result c =
    let objects = c.in-Ok.objects.items in
    record {
      banks = subst (λ (banks : BankPair). AllOf banks objects) (sym (ap banks_of c.in-Ok.ensures.pool)) c.in-Ok.ensures.banks;
      legal = subst AllLegal (sym c.in-Ok.ensures.lives) (legal_new c.args.births.now);
      few = rw (same_many objects c.args.births.now c.in-Ok.ensures.lives) c.requires.few;
      clock = ap (λ (k : Known). k.clock) c.in_ok-clock.ensures;
      sole = ap (λ (k : Known). k.sole) c.in_ok-clock.ensures;
      ordinary = ap (λ (pool : Pooled). pool.ordinary.bank.kind) c.in-Ok.ensures.pool ∙ c.in_ok-pool.ensures.kinds.0;
      loaned = ap (λ (pool : Pooled). pool.loaned.bank.kind) c.in-Ok.ensures.pool ∙ c.in_ok-pool.ensures.kinds.1;
    }
