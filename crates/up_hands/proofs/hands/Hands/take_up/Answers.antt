use Rattle.std.proofs.Common.{◌≡◌, ◌+◌, ℕ, Bool, cond, nat_le, sum, refl, ap, sym, subst, ◌∙◌, arith}
use Rattle.up_bank.specs.Standing.{BankId}
use Rattle.up_bank.specs.declared.kind.FrameKind.{FrameKind}
use Rattle.up_bank.specs.declared.kind.FrameKind.TheVariants.{Ordinary, Loaned}
use Rattle.up_model.specs.declared.entry.Brought.{Brought}
use Rattle.up_model.specs.declared.entry.Brought.TheVariants.{Frames, Scanned}
use Rattle.up_pages.specs.Frames.{count_kind}
use Rattle.up_object.specs.declared.step.FramesIn.{FramesIn}
use Rattle.up_object.specs.Parts.{BankPair, bank_of, is_loan}
use Rattle.up_object.specs.Change.{AllAre}
use Rattle.up_object.specs.OneCall.{brought_of, frames_of}
use Rattle.up_worker.specs.declared.wish.Heard.TheVariants as heard
use Rattle.up_steps.specs.Handed.{InHand, Handed, held_in}
use Rattle.up_hands.specs.Keeping.{AllKept, Taken, counts_of, kind_lent}
use Rattle.up_hands.specs.Machined.{Machined, owned}
use Rattle.up_banks.specs.Pools.{banks_of}
use Rattle.up_hands.proofs.WishesDone.{handed}
use Rattle.up_hands.proofs.Homes.{claimed, same_banks, kind_of_loan, at_home_is}
use Rattle.up_hands.proofs.InHand.{no_frames_in_hand}
use Rattle.up_hands.proofs.hands.Hands.take_up.Goals as goal

pub invariant_of-self-2 : goal.invariant_of-self-2
invariant_of-self-2 c =
    let inside = c.self.inside in
    let m = inside.machine in
    let items = frames_of c.in_ok-frames.frames in
    let kind = c.args.kind in
    let new = c.replace.new.dest in
    let none = no_frames_in_hand inside.hand inside.lent (ap (λ (v : Handed). v.hand) c.self.view_is ∙ c.requires.hand) in
    let no_ordinary : count_kind Ordinary (frames_of inside.hand) ≡ 0 = ap (count_kind Ordinary) none in
    let no_loaned : count_kind Loaned (frames_of inside.hand) ≡ 0 = ap (count_kind Loaned) none in
    let in_hand : count_kind Ordinary (frames_of new) ≡ count_kind Ordinary items = ap (λ (f : FramesIn). count_kind Ordinary (frames_of f)) c.replace.ensures.after in
    let lent : count_kind Loaned (frames_of new) ≡ count_kind Loaned items = ap (λ (f : FramesIn). count_kind Loaned (frames_of f)) c.replace.ensures.after in
    let ordinary = claimed kind Ordinary m.pool items c.has_both_kinds.ensures.0 c.has_both_kinds.ensures.1 c.in_ok-frames.ensures.own c.in_ok-frames.ensures.within in
    let loaned = claimed kind Loaned m.pool items c.has_both_kinds.ensures.0 c.has_both_kinds.ensures.1 c.in_ok-frames.ensures.own c.in_ok-frames.ensures.within in
    let home = ap (λ (v : Machined). v.pool.ordinary.home) c.in_ok-frames.ensures.ok in
    let loans = ap (λ (v : Machined). v.pool.loaned.home) c.in_ok-frames.ensures.ok in
    let pages = ap (λ (v : Machined). held_in Ordinary v.lives) c.in_ok-frames.ensures.ok in
    let borrowed = ap (λ (v : Machined). held_in Loaned v.lives) c.in_ok-frames.ensures.ok in
    let all = c.self.invariant.frames in
    let every = c.self.invariant.loan in
    let banks : banks_of c.gather.new.self.pool ≡ banks_of m.pool = ap (λ (v : Machined). banks_of v.pool) c.in_ok-frames.ensures.ok ∙ same_banks kind _ m.pool in
    let kinds : kind_lent c.is_loan-self-inside.result ≡ kind = ap kind_lent c.is_loan-self-inside.ensures ∙ kind_of_loan kind in
    record {
      frames = omega arith;
      loan = omega arith;
      hand = subst (λ (f : FramesIn). AllAre (bank_of (banks_of c.gather.new.self.pool) (kind_lent c.is_loan-self-inside.result)) (frames_of f)) (sym c.replace.ensures.after)
          (subst (λ (k : FrameKind). AllAre (bank_of (banks_of c.gather.new.self.pool) k) items) (sym kinds)
          (subst (λ (pair : BankPair). AllAre (bank_of pair kind) items) (sym banks) c.in_ok-frames.ensures.own));
      kept = subst (λ (b : BankId). AllKept b inside.kept.items) (sym (ap (λ (pair : BankPair). pair.loaned) banks)) c.self.invariant.kept;
    }

pub returns-clause-taken : goal.returns-clause-taken
returns-clause-taken c =
    let inside = c.self.inside in
    let m = inside.machine in
    let kind = c.args.kind in
    let kept = counts_of inside.kept.items in
    let hand : InHand = record { brought = brought_of inside.hand; lent = inside.lent } in
    let now : InHand = record { brought = brought_of c.replace.new.dest; lent = c.is_loan-self-inside.result } in
    let next : InHand = record { brought = c.brought-brought.result; lent = is_loan kind } in
    let none = no_frames_in_hand inside.hand inside.lent (ap (λ (v : Handed). v.hand) c.self.view_is ∙ c.requires.hand) in
    let no_ordinary : count_kind Ordinary (frames_of inside.hand) ≡ 0 = ap (count_kind Ordinary) none in
    let no_loaned : count_kind Loaned (frames_of inside.hand) ≡ 0 = ap (count_kind Loaned) none in
    let all = c.self.invariant.frames in
    let every = c.self.invariant.loan in
    let pages : owned Ordinary m ≡ inside.frames = omega arith in
    let loans : owned Loaned m + sum kept ≡ inside.loan = omega arith in
    let home = at_home_is kind m inside.frames inside.loan kept inside.levels hand pages loans in
    let told : brought_of c.replace.new.dest ≡ c.brought-brought.result = ap brought_of c.replace.ensures.after ∙ sym c.brought-brought.ensures.value in
    let held : now ≡ next = ap (λ (b : Brought). record { brought = b; lent = c.is_loan-self-inside.result }) told ∙ ap (λ (l : Bool). record { brought = c.brought-brought.result; lent = l }) c.is_loan-self-inside.ensures in
    subst (λ (v : Handed). Taken v (handed c.gather.new.self inside.frames inside.loan kept inside.levels now) kind c.args.count (heard.Brought c.brought-brought.result)) c.self.view_is
    (record {
      brought = c.brought-brought.result;
      is = c.brought-brought.ensures.value ∙ c.in_ok-frames.ensures.brought ∙ ap (λ (n : ℕ). cond (nat_le c.args.count n) (Frames c.args.count) Scanned) (sym home);
      told = refl;
      now = ap (λ (v : Machined). handed v inside.frames inside.loan kept inside.levels now) c.in_ok-frames.ensures.ok ∙ ap (λ (h : InHand). handed m inside.frames inside.loan kept inside.levels h) held;
    })
