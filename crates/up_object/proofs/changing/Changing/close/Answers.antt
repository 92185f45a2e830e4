use Rattle.std.proofs.Common.{◌≡◌, ℕ, ◌&&◌, false, true, ◌∷◌, sym, subst, ap, ◌∙◌, arith, nat_le, nat_lt, refl}
use Rattle.up_pages.specs.Pages.{held_by}
use Rattle.up_model.specs.Written.{Written}
use Rattle.up_model.specs.Concerns.{concerns, keeps_asks, keeps_spent, keeps_roles, keeps_modified, keeps_size}
use Rattle.up_model.specs.Changes.{IsDue}
use Rattle.up_object.specs.Change.{Change, Rests, is_done, AllOwn}
use Rattle.up_object.specs.Whole.{held}
use Rattle.up_object.proofs.Seats.{seat_beyond}
use Rattle.up_object.proofs.CallEnds.{closed, size_end, pages_end, held_is, frames_end, are_own}
use Rattle.up_object.proofs.changing.Changing.close.Goals as goal

pub settle-requires-clause-beyond : goal.settle-requires-clause-beyond
settle-requires-clause-beyond c = λ p past. let s = c.self.invariant in let low = s.grown in
    s.others.queued p ∙ seat_beyond c.self.inside.birth c.self.inside.log.entries s.legal p (omega arith)

pub invariant_of-object : goal.invariant_of-object
invariant_of-object c =
    let s = c.self.invariant in
    let keeps = subst (λ (v : Change). (p : ℕ) → is_done v.done p ≡ false → concerns v.birth v.journal v.entry p ≡ false) (sym c.self.view_is) c.requires.pages in
    let fixed = subst (λ (v : Change). v.done.size ≡ false → keeps_size v.entry ≡ true) (sym c.self.view_is) c.requires.size in
    closed _ _ c.self.inside.pages _ _ _ _ _ _ _ _ _ _ c.args.from c.args.to _ c.add.new.self _ _ _ s (λ p. refl)
    (size_end _ c.self.inside.birth c.self.inside.entry c.self.inside.log.entries c.self.inside.size_done s.sized fixed) (omega arith) keeps
    (subst (λ (v : Change). (p : ℕ) → (nat_le c.args.from p && nat_lt p c.args.to) ≡ false → Rests v.birth v.entry v.journal v.done p) (sym c.self.view_is) c.requires.places)
    (subst (λ (v : Change). v.done.asks ≡ false → keeps_asks v.entry ≡ true) (sym c.self.view_is) c.requires.asks)
    (subst (λ (v : Change). v.done.spent ≡ false → keeps_spent v.entry ≡ true) (sym c.self.view_is) c.requires.spent)
    (subst (λ (v : Change). v.done.tally ≡ false → (keeps_roles v.entry && keeps_modified v.entry) ≡ true) (sym c.self.view_is) c.requires.tally)
    (subst (λ (v : Change). IsDue v.birth v.entry v.journal) (sym c.self.view_is) c.requires.due)
    c.settle.ensures.pages c.settle.ensures.room c.add.ensures c.max-newest.ensures c.leaves_left-leaves.ensures
    (ap (λ (w : Written). w.spare) c.push.ensures) (ap (λ (w : Written). w.entries) c.push.ensures)

pub returns-clause-frames : goal.returns-clause-frames
returns-clause-frames c = λ kind.
    let s = c.self.invariant in
    let keeps = subst (λ (v : Change). (p : ℕ) → is_done v.done p ≡ false → concerns v.birth v.journal v.entry p ≡ false) (sym c.self.view_is) c.requires.pages in
    let fixed = subst (λ (v : Change). v.done.size ≡ false → keeps_size v.entry ≡ true) (sym c.self.view_is) c.requires.size in
    let h = c.self.inside.entry ∷ c.self.inside.log.entries in
    let now : held_by kind c.self.inside.pages ≡ held c.self.inside.birth h kind =
    held_is c.self.inside.banks c.self.inside.pages c.self.inside.marks c.self.inside.birth h kind (pages_end _ _ _ _ _ _ _ s.part keeps)
    (size_end _ c.self.inside.birth c.self.inside.entry c.self.inside.log.entries c.self.inside.size_done s.sized fixed) in
    frames_end kind c.self.inside.given.items c.self.inside.back.items c.hand_over.new.back.items c.self.inside.pages _ c.args.self.frames (ap (λ (v : Change). v.frames) c.self.view_is) (c.hand_over.ensures.kinds kind)
    (subst (λ (v : Change). held_by kind c.self.inside.pages ≡ held v.birth (v.entry ∷ v.journal) kind) c.self.view_is now)

pub returns-clause-own : goal.returns-clause-own
returns-clause-own c = let s = c.self.invariant in
    subst (λ (v : Change). AllOwn v.banks c.hand_over.new.back.items) c.self.view_is
    (c.hand_over.ensures.own c.self.inside.banks (are_own c.self.inside.banks c.self.inside.brings c.self.inside.given.items s.kinds s.stock.given_own) s.stock.back_own)
