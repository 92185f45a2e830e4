use Rattle.std.proofs.Common.{◌≡◌, ℕ, ◌<◌, ◌≤◌, ◌&&◌, false, true, ◌∷◌, sym, subst, ap, ◌∙◌, arith, nat_le, nat_lt}
use Rattle.up_num.specs.declared.answers.AskKind.TheVariants.{Dirty as DirtyAsk}
use Rattle.up_pages.specs.Pages.{held_by}
use Rattle.up_model.specs.Written.{Written}
use Rattle.up_model.specs.Size.{size}
use Rattle.up_model.specs.Asks.{asked}
use Rattle.up_model.specs.Concerns.{concerns, keeps_asks, keeps_spent, keeps_roles, keeps_modified}
use Rattle.up_model.specs.Changes.{Vanishes, IsDue}
use Rattle.up_object.specs.Change.{Change, AllOwn}
use Rattle.up_object.specs.Whole.{held}
use Rattle.up_object.proofs.Seats.{seat_beyond}
use Rattle.up_object.proofs.CallEnds.{closed, pages_end, held_is, frames_end, are_own}
use Rattle.up_object.proofs.Grown.{absent_from, rests_outside, keeps_outside}
use Rattle.up_object.proofs.changing.Changing.close_gone.Goals as goal

pub settle-requires-clause-beyond : goal.settle-requires-clause-beyond
settle-requires-clause-beyond c = λ p past. let s = c.self.invariant in let low = s.grown in
    s.others.queued p ∙ seat_beyond c.self.inside.birth c.self.inside.log.entries s.legal p (omega arith)

pub shorten-requires-clause-absent : goal.shorten-requires-clause-absent
shorten-requires-clause-absent c =
    let s = c.self.invariant in
    let ended = subst (λ (v : Change). v.done.mark ≡ v.done.limit) (sym c.self.view_is) c.requires.done in
    let keeps = subst (λ (v : Change). (p : ℕ) → (nat_le v.done.first p && nat_lt p v.done.limit) ≡ false → concerns v.birth v.journal v.entry p ≡ false) (sym c.self.view_is) c.requires.pages in
    let stand = pages_end _ _ _ _ _ _ _ s.part (keeps_outside _ _ _ _ _ _ _ s.part ended keeps) in
    λ p low. absent_from c.self.inside.banks c.self.inside.pages c.self.inside.marks c.self.inside.birth c.self.inside.entry c.self.inside.log.entries c.self.inside.first c.self.inside.limit p stand
    (subst (λ (v : Change). v.done.limit ≡ v.pages) (sym c.self.view_is) c.requires.whole)
    (subst (λ (v : Change). (p : ℕ) → v.done.first ≤ p → p < v.done.limit → Vanishes v.birth v.entry v.journal p) (sym c.self.view_is) c.requires.gone) low

pub invariant_of-object : goal.invariant_of-object
invariant_of-object c =
    let s = c.self.invariant in
    let ended = subst (λ (v : Change). v.done.mark ≡ v.done.limit) (sym c.self.view_is) c.requires.done in
    let keeps = subst (λ (v : Change). (p : ℕ) → (nat_le v.done.first p && nat_lt p v.done.limit) ≡ false → concerns v.birth v.journal v.entry p ≡ false) (sym c.self.view_is) c.requires.pages in
    let same = subst (λ (v : Change). (p : ℕ) → (nat_le v.done.first p && nat_lt p v.done.limit) ≡ false → asked v.birth (v.entry ∷ v.journal) DirtyAsk p ≡ asked v.birth v.journal DirtyAsk p) (sym c.self.view_is) c.requires.unasked in
    let fixed = subst (λ (v : Change). size v.birth (v.entry ∷ v.journal) ≡ v.done.first) (sym c.self.view_is) c.requires.size in
    let order = s.part.order in
    let ends = s.part.ends in
    let fits = s.part.fits in
    closed _ c.self.inside.pages c.shorten.new.pages _ _ _ _ _ _ _ _ _ _ c.self.inside.first c.self.inside.limit _ c.add.new.self _ _ _ s c.shorten.ensures.pages
    (c.shorten.ensures.size ∙ sym fixed) (omega arith) (keeps_outside _ _ _ _ _ _ _ s.part ended keeps)
    (rests_outside _ _ _ _ ended same)
    (subst (λ (v : Change). v.done.asks ≡ false → keeps_asks v.entry ≡ true) (sym c.self.view_is) c.requires.asks)
    (subst (λ (v : Change). v.done.spent ≡ false → keeps_spent v.entry ≡ true) (sym c.self.view_is) c.requires.spent)
    (subst (λ (v : Change). v.done.tally ≡ false → (keeps_roles v.entry && keeps_modified v.entry) ≡ true) (sym c.self.view_is) c.requires.tally)
    (subst (λ (v : Change). IsDue v.birth v.entry v.journal) (sym c.self.view_is) c.requires.due)
    c.settle.ensures.pages c.settle.ensures.room c.add.ensures c.max-newest.ensures c.leaves_left-leaves.ensures
    (ap (λ (w : Written). w.spare) c.push.ensures) (ap (λ (w : Written). w.entries) c.push.ensures)

pub returns-clause-frames : goal.returns-clause-frames
returns-clause-frames c = λ kind.
    let s = c.self.invariant in
    let ended = subst (λ (v : Change). v.done.mark ≡ v.done.limit) (sym c.self.view_is) c.requires.done in
    let keeps = subst (λ (v : Change). (p : ℕ) → (nat_le v.done.first p && nat_lt p v.done.limit) ≡ false → concerns v.birth v.journal v.entry p ≡ false) (sym c.self.view_is) c.requires.pages in
    let fixed = subst (λ (v : Change). size v.birth (v.entry ∷ v.journal) ≡ v.done.first) (sym c.self.view_is) c.requires.size in
    let h = c.self.inside.entry ∷ c.self.inside.log.entries in
    let stand = pages_end _ _ _ _ _ _ _ s.part (keeps_outside _ _ _ _ _ _ _ s.part ended keeps) in
    let now : held_by kind c.shorten.new.pages ≡ held c.self.inside.birth h kind =
    held_is c.self.inside.banks c.shorten.new.pages c.self.inside.marks c.self.inside.birth h kind
    (λ p. rw (c.shorten.ensures.pages p) (stand p)) (c.shorten.ensures.size ∙ sym fixed) in
    frames_end kind c.self.inside.given.items c.self.inside.back.items c.hand_over.new.back.items c.self.inside.pages _ c.args.self.frames (ap (λ (v : Change). v.frames) c.self.view_is) (c.hand_over.ensures.kinds kind)
    (subst (λ (v : Change). held_by kind c.self.inside.pages ≡ held v.birth (v.entry ∷ v.journal) kind) c.self.view_is (sym (c.shorten.ensures.kinds kind) ∙ now))

pub returns-clause-own : goal.returns-clause-own
returns-clause-own c = let s = c.self.invariant in
    subst (λ (v : Change). AllOwn v.banks c.hand_over.new.back.items) c.self.view_is
    (c.hand_over.ensures.own c.self.inside.banks (are_own c.self.inside.banks c.self.inside.brings c.self.inside.given.items s.kinds s.stock.given_own) s.stock.back_own)
