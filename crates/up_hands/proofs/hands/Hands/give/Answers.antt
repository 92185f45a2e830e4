use Rattle.std.proofs.Common.{◌≡◌, ℕ, List, [], length, slice_set, ap, sym, subst, ◌∙◌, arith}
use Rattle.up_bank.specs.Standing.{BankId, Held as Frame}
use Rattle.up_bank.specs.declared.kind.FrameKind.TheVariants.{Ordinary, Loaned}
use Rattle.up_pages.specs.Frames.{Stock, count_kind}
use Rattle.up_object.specs.Parts.{BankPair, bank_of}
use Rattle.up_object.specs.Change.{AllAre, AllOwn}
use Rattle.up_object.specs.OneCall.{brought_of, frames_of}
use Rattle.up_steps.specs.Handed.{InHand, Handed, held_in}
use Rattle.up_hands.specs.Keeping.{AllKept, counts_of, kind_lent}
use Rattle.up_hands.specs.Machined.{Machined}
use Rattle.up_banks.specs.Pools.{banks_of}
use Rattle.up_hands.proofs.WishesDone.{handed}
use Rattle.up_hands.proofs.KeptFrames.{list_there, kept_at, kept_set, counts_set, sum_set}
use Rattle.up_banks.proofs.Owned.{own_of, all_of, none_ordinary}
use Rattle.up_hands.proofs.hands.Hands.give.Goals as goal

pub bring_home-requires : goal.bring_home-requires
bring_home-requires c =
    let pool = c.self.inside.machine.pool in
    let lists = c.self.inside.kept.items in
    let list = c.index_mut.result.now in
    let is = list_there lists c.args.self.now.kept c.args.who list (ap (λ (v : Handed). v.kept) c.self.view_is) c.requires c.index_mut.ensures.value in
    subst (λ (stock : Stock). AllOwn (banks_of pool) stock.items) (sym c.replace-frames.ensures.value)
    (own_of (banks_of pool) Loaned list.items c.has_both_kinds.ensures.0 c.has_both_kinds.ensures.1 (kept_at pool.loaned.bank lists c.args.who list c.self.invariant.kept is))

pub invariant_of-self : goal.invariant_of-self
invariant_of-self c =
    let m = c.self.inside.machine in
    let lists = c.self.inside.kept.items in
    let list = c.index_mut.result.now in
    let new = c.replace-frames.new.dest in
    let who = c.args.who in
    let bank = m.pool.loaned.bank in
    let is = list_there lists c.args.self.now.kept who list (ap (λ (v : Handed). v.kept) c.self.view_is) c.requires c.index_mut.ensures.value in
    let are = kept_at bank lists who list c.self.invariant.kept is in
    let given = c.replace-frames.result.items in
    let same : given ≡ list.items = ap (λ (stock : Stock). stock.items) c.replace-frames.ensures.value in
    let none : new.items ≡ [] = ap (λ (stock : Stock). stock.items) c.replace-frames.ensures.after ∙ c.new.ensures.empty in
    let ordinary : count_kind Ordinary given ≡ 0 = ap (count_kind Ordinary) same ∙ none_ordinary bank list.items c.has_both_kinds.ensures.1 are in
    let loaned : count_kind Loaned given ≡ length list.items = ap (count_kind Loaned) same ∙ all_of Loaned bank list.items c.has_both_kinds.ensures.1 are in
    let few : length new.items ≡ 0 = ap (λ (items : List Frame). length items) none in
    let home = ap (λ (v : Machined). v.pool.ordinary.home) c.bring_home.ensures in
    let loans = ap (λ (v : Machined). v.pool.loaned.home) c.bring_home.ensures in
    let in_pages = ap (λ (v : Machined). held_in Ordinary v.lives) c.bring_home.ensures in
    let lent = ap (λ (v : Machined). held_in Loaned v.lives) c.bring_home.ensures in
    let counted = sum_set lists who list new is in
    let all = c.self.invariant.frames in
    let every = c.self.invariant.loan in
    record {
      frames = omega arith;
      loan = omega arith;
      hand = subst (λ (pair : BankPair). AllAre (bank_of pair (kind_lent c.self.inside.lent)) (frames_of c.self.inside.hand)) (sym (ap (λ (v : Machined). banks_of v.pool) c.bring_home.ensures)) c.self.invariant.hand;
      kept = subst (λ (b : BankId). AllKept b (slice_set lists who new)) (sym (ap (λ (v : Machined). v.pool.loaned.bank) c.bring_home.ensures))
          (kept_set bank lists who new c.self.invariant.kept (subst (λ (items : List Frame). AllAre bank items) (sym none) tt));
    }

pub returns : goal.returns
returns c =
    let lists = c.self.inside.kept.items in
    let new = c.replace-frames.new.dest in
    let who = c.args.who in
    let hand : InHand = record { brought = brought_of c.self.inside.hand; lent = c.self.inside.lent } in
    let none : new.items ≡ [] = ap (λ (stock : Stock). stock.items) c.replace-frames.ensures.after ∙ c.new.ensures.empty in
    let kept : counts_of (slice_set lists who new) ≡ slice_set (counts_of lists) who 0 = counts_set lists who new ∙ ap (λ (items : List Frame). slice_set (counts_of lists) who (length items)) none in
    let now : Handed = handed c.bring_home.new.self c.self.inside.frames c.self.inside.loan (counts_of (slice_set lists who new)) c.self.inside.levels hand in
    subst (λ (v : Handed). now ≡ record v { kept = slice_set v.kept who 0 }) c.self.view_is
    (ap (λ (m : Machined). handed m c.self.inside.frames c.self.inside.loan (counts_of (slice_set lists who new)) c.self.inside.levels hand) c.bring_home.ensures
    ∙ ap (λ (ks : List ℕ). handed c.self.inside.machine c.self.inside.frames c.self.inside.loan ks c.self.inside.levels hand) kept)
