use Rattle.std.proofs.Common.{◌≡◌, ◌≢◌, ℕ, subst, ◌+◌, ◌*◌, arith, refl, sym, ap, ◌∙◌}
use Rattle.std.specs.Int.{bit_at}
use Rattle.std.proofs.lemmas.Nat.Bits.{shr_and_one}
use Rattle.up_bank.specs.Scan.{Scanning}
use Rattle.up_bank.proofs.TableSteps.{not_one}
use Rattle.up_bank.proofs.Scans.{told_none, told_some, begins, empty_word, skips, after_miss, after_hit}
use Rattle.up_bank.proofs.bank.Bank.claim_in.Goals as goal

pub loop-bit-preserved-then-left-bit-ne1 : goal.loop-bit-preserved-then-left-bit-ne1
loop-bit-preserved-then-left-bit-ne1 c = let i = c.loop-bit.invariant in let test : bit_at c.loop-bit.left c.loop-bit.bit ≢ 1 = (λ one. c.if-left-bit-ne1.true (shr_and_one c.loop-bit.left c.loop-bit.bit ∙ one)) in
    (i.0, skips _ _ _ _ _ i.1 (not_one c.loop-bit.left c.loop-bit.bit test) (omega arith))

pub loop-bit-preserved : goal.loop-bit-preserved
loop-bit-preserved c = let i = c.loop-bit.invariant in let told = told_none _ _ _ c.in_default.is c.try_claim-found.ensures.got in
    (c.try_claim-found.ensures.same ∙ i.0, after_miss _ _ _ _ _ _ _ (c.args.word * 64 + c.loop-bit.bit) i.1 (omega arith) (omega arith) told.0 told.1 c.try_claim-found.ensures.known)

pub returns-then-left-eq0-clause-got : goal.returns-then-left-eq0-clause-got
returns-then-left-eq0-clause-got c = empty_word c.args.place.now.me.0 c.look-left.new.place.me c.args.word _ _
    (subst (λ (z : ℕ). Scanning c.args.place.now.me.0 c.look-left.new.place.me c.args.word 0 z) c.if-left-eq0.true (begins _ _ _ _ c.requires.idle c.look-left.ensures.found c.look-left.ensures.known)) (omega arith)

pub returns-in-Some-clause-got : goal.returns-in-Some-clause-got
returns-in-Some-clause-got c = let got = told_some _ _ _ c.in-Some.frame c.in-Some.is c.try_claim-found.ensures.got in
    let same : c.self.inside.shape.frames ≡ c.args.self.now.table.slots = sym c.self.invariant.1 ∙ ap (λ b. b.table.slots) c.self.view_is in
    (got.0, (let number = got.1 in omega arith), after_hit _ _ _ c.args.word c.loop-bit.bit c.loop-bit.left c.args.self.now.table.slots (c.args.word * 64 + c.loop-bit.bit) _ _ c.loop-bit.invariant.1 refl (omega arith) got.1 got.2)
