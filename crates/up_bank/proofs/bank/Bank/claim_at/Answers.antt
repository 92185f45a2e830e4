use Rattle.std.proofs.Common.{◌≡◌, ℕ, ◌+◌, ◌-◌, ◌*◌, ◌/◌, ◌<◌, min, arith, refl, sym, ap, ◌∙◌, subst}
use Rattle.up_bank.specs.Find.{words_of}
use Rattle.up_bank.specs.Scan.{Missed}
use Rattle.up_bank.proofs.Scans.{no_word, one_word_more, all_words, claims_after}
use Rattle.up_bank.proofs.bank.Bank.claim_at.Goals as goal

pub loop-word-init : goal.loop-word-init
loop-word-init c = (refl, no_word _ _ c.requires.idle)

pub returns-in-Some-clause-got : goal.returns-in-Some-clause-got
returns-in-Some-clause-got c = let i = c.loop-word.invariant.1 in let got = c.in-Some.ensures.got in
    let same : c.self.inside.shape.frames ≡ c.args.self.now.table.slots = sym c.self.invariant.1 ∙ ap (λ b. b.table.slots) c.self.view_is in
    (got.0, got.1, claims_after _ _ _ _ _ _ _ _ _ _ _ _ _ _ _ _ i.is i.orderly got.2 (omega arith) (omega arith) (omega arith) (omega arith))

pub loop-word-preserved : goal.loop-word-preserved
loop-word-preserved c = let i = c.loop-word.invariant in let told = c.in_default.ensures.got in
    let same : c.self.inside.shape.frames ≡ c.args.self.now.table.slots = sym c.self.invariant.1 ∙ ap (λ b. b.table.slots) c.self.view_is in (
      c.claim_in.ensures.same ∙ i.0,
      one_word_more _ _ _ _ _ i.1
          (subst (λ (z : ℕ). Missed c.loop-word.place.me.0 c.claim_in.new.place.me c.loop-word.word (c.loop-word.word + 1) (c.loop-word.word * 64) (c.loop-word.word * 64 + min (z - c.loop-word.word * 64) 64) (λ k. (k / 64 ≡ c.loop-word.word) × (k < z))) (sym same) told) c.loop-word-test.true,
    )

pub returns-clause-got : goal.returns-clause-got
returns-clause-got c = let i = c.loop-word.invariant.1 in
    let same : c.self.inside.shape.frames ≡ c.args.self.now.table.slots = sym c.self.invariant.1 ∙ ap (λ b. b.table.slots) c.self.view_is in
    let last : c.loop-word.word ≡ words_of c.self.inside.shape.frames = omega arith in
    subst (λ (z : ℕ). Missed c.args.place.now.me.0 c.loop-word.place.me 0 (words_of z) 0 z (λ k. k < z)) same
    (all_words _ _ _ (subst (λ (z : ℕ). Missed c.args.place.now.me.0 c.loop-word.place.me 0 z 0 (min (z * 64) c.self.inside.shape.frames) (λ k. (k / 64 < z) × (k < c.self.inside.shape.frames))) last i))
