use Rattle.std.proofs.Common.{◌≡◌, List, true, ap, ◌∙◌, sym, subst, rules}
use Rattle.std.specs.List.{sum}
use Rattle.up_bank.specs.Find.{Find, NoneTwice, Scanned}
use Rattle.up_bank.specs.Standing.{frames_of}
use Rattle.up_bank.proofs.RisingFinds.{few_then}
use Rattle.up_bank.proofs.Scans.{claim_once, scan_once, scanned_by, none_home}
use Rattle.up_bank.proofs.bank.Bank.claim.Goals as goal

pub returns-in-Some-clause-once : goal.returns-in-Some-clause-once
returns-in-Some-clause-once c = subst (λ (fs : List Find). NoneTwice fs c.claim_at.new.place.me.0.finds (frames_of c.args.self.now)) (ap (λ s. s.finds) c.seat.view_is)
    (claim_once c.seat.inside.place.me.0 c.claim_at.new.place.me _ _ _ c.in-Some.ensures.got.2)

pub returns-in-Some-clause-few : goal.returns-in-Some-clause-few
returns-in-Some-clause-few c = few_then _ _ _ (returns-in-Some-clause-once c)

pub returns-clause-once : goal.returns-clause-once
returns-clause-once c = subst (λ (fs : List Find). NoneTwice fs c.claim_at.new.place.me.0.finds (frames_of c.args.self.now)) (ap (λ s. s.finds) c.seat.view_is)
    (scan_once c.seat.inside.place.me.0 c.claim_at.new.place.me _ c.in_default.ensures.got)

pub returns-clause-few : goal.returns-clause-few
returns-clause-few c = few_then _ _ _ (returns-clause-once c)

pub returns-clause-scanned : goal.returns-clause-scanned
returns-clause-scanned c = subst (λ (fs : List Find). Scanned fs c.claim_at.new.place.me.0.finds (frames_of c.args.self.now)) (ap (λ s. s.finds) c.seat.view_is)
    (scanned_by c.seat.inside.place.me.0 c.claim_at.new.place.me _ c.in_default.ensures.got)

pub returns-clause-alone_scan : goal.returns-clause-alone_scan
returns-clause-alone_scan c sole = let lone : c.seat.inside.place.me.0.sole ≡ true = ap (λ s. s.sole) c.seat.view_is ∙ search rules in
    let many : c.seat.inside.place.table_id.slots ≡ frames_of c.args.self.now = ap (λ s. s.bank.table.slots) c.seat.view_is ∙ ap (λ b. b.table.slots) c.requires in
    ap (λ s. sum s.home) (sym c.seat.view_is) ∙ none_home _ _ _ _ c.in_default.ensures.got lone (c.seat.invariant.1 lone ∙ many)
