use Rattle.std.proofs.Common.{◌≡◌, ◌+◌, ℕ, List, length, sum, slice_set, slice_index, ap, sym, subst, ◌∙◌, arith}
use Rattle.up_bank.specs.Standing.{BankId}
use Rattle.up_bank.specs.declared.kind.FrameKind.TheVariants.{Ordinary, Loaned}
use Rattle.up_pages.specs.Frames.{count_kind}
use Rattle.up_object.specs.Parts.{BankPair, bank_of}
use Rattle.up_object.specs.Change.{AllAre}
use Rattle.up_object.specs.OneCall.{brought_of, frames_of}
use Rattle.up_steps.specs.Handed.{InHand, Handed, held_in}
use Rattle.up_hands.specs.Keeping.{AllKept, at_home, counts_of, kind_lent}
use Rattle.up_hands.specs.Machined.{Machined, owned}
use Rattle.up_banks.specs.Pools.{banks_of}
use Rattle.up_hands.proofs.WishesDone.{handed}
use Rattle.up_hands.proofs.Homes.{at_home_is}
use Rattle.up_hands.proofs.InHand.{no_frames_in_hand}
use Rattle.up_hands.proofs.KeptFrames.{list_there, kept_at, kept_set, counts_set, count_at, sum_set}
use Rattle.up_hands.proofs.hands.Hands.keep.Goals as goal

pub invariant_of-self-2 : goal.invariant_of-self-2
invariant_of-self-2 c =
    let inside = c.self.inside in
    let m = inside.machine in
    let lists = inside.kept.items in
    let list = c.index_mut.result.now in
    let new = c.gather_all.new.into in
    let who = c.args.who in
    let bank = m.pool.loaned.bank in
    let ok = c.in_ok-gather_all.ensures.ok in
    let is = list_there lists c.args.self.now.kept who list (ap (λ (v : Handed). v.kept) c.self.view_is) c.requires.known c.index_mut.ensures.value in
    let are = kept_at bank lists who list c.self.invariant.kept is in
    let count = c.in_ok-gather_all.ensures.count in
    let home = ap (λ (v : Machined). v.pool.ordinary.home) ok in
    let loans = ap (λ (v : Machined). v.pool.loaned.home) ok in
    let pages = ap (λ (v : Machined). held_in Ordinary v.lives) ok in
    let borrowed = ap (λ (v : Machined). held_in Loaned v.lives) ok in
    let counted = sum_set lists who list new is in
    let all = c.self.invariant.frames in
    let every = c.self.invariant.loan in
    record {
      frames = omega arith;
      loan = omega arith;
      hand = subst (λ (pair : BankPair). AllAre (bank_of pair (kind_lent inside.lent)) (frames_of inside.hand)) (sym (ap (λ (v : Machined). banks_of v.pool) ok)) c.self.invariant.hand;
      kept = subst (λ (b : BankId). AllKept b (slice_set lists who new)) (sym (ap (λ (v : Machined). v.pool.loaned.bank) ok)) (kept_set bank lists who new c.self.invariant.kept (c.in_ok-gather_all.ensures.own are));
    }

pub returns-clause-ok : goal.returns-clause-ok
returns-clause-ok c =
    let inside = c.self.inside in
    let m = inside.machine in
    let lists = inside.kept.items in
    let list = c.index_mut.result.now in
    let new = c.gather_all.new.into in
    let who = c.args.who in
    let hand : InHand = record { brought = brought_of inside.hand; lent = inside.lent } in
    let old : Handed = handed m inside.frames inside.loan (counts_of lists) inside.levels hand in
    let is = list_there lists c.args.self.now.kept who list (ap (λ (v : Handed). v.kept) c.self.view_is) c.requires.known c.index_mut.ensures.value in
    let none = no_frames_in_hand inside.hand inside.lent (ap (λ (v : Handed). v.hand) c.self.view_is ∙ c.requires.hand) in
    let no_ordinary : count_kind Ordinary (frames_of inside.hand) ≡ 0 = ap (count_kind Ordinary) none in
    let no_loaned : count_kind Loaned (frames_of inside.hand) ≡ 0 = ap (count_kind Loaned) none in
    let all = c.self.invariant.frames in
    let every = c.self.invariant.loan in
    let pages : owned Ordinary m ≡ inside.frames = omega arith in
    let loans : owned Loaned m + sum (counts_of lists) ≡ inside.loan = omega arith in
    let home : at_home Loaned old ≡ m.pool.loaned.home = at_home_is Loaned m inside.frames inside.loan (counts_of lists) inside.levels hand pages loans in
    let before : slice_index (counts_of lists) who ≡ length list.items = count_at lists who list is in
    let count = c.in_ok-gather_all.ensures.count in
    let more : length new.items ≡ slice_index (counts_of lists) who + at_home Loaned old = omega arith in
    let kept : counts_of (slice_set lists who new) ≡ slice_set (counts_of lists) who (slice_index (counts_of lists) who + at_home Loaned old) = counts_set lists who new ∙ ap (slice_set (counts_of lists) who) more in
    let now : Handed = handed c.gather_all.new.self inside.frames inside.loan (counts_of (slice_set lists who new)) inside.levels hand in
    subst (λ (v : Handed). now ≡ record v { kept = slice_set v.kept who (slice_index v.kept who + at_home Loaned v) }) c.self.view_is
    (ap (λ (v : Machined). handed v inside.frames inside.loan (counts_of (slice_set lists who new)) inside.levels hand) c.in_ok-gather_all.ensures.ok
    ∙ ap (λ (ks : List ℕ). handed m inside.frames inside.loan ks inside.levels hand) kept)
