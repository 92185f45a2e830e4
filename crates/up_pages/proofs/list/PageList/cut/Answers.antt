use Rattle.std.proofs.Common.{◌≡◌, ◌≤◌, ◌-◌, ◌++◌, ℕ, None, length, get_or, sym, subst, ap, ◌∙◌, rules}
use Rattle.up_pages.specs.Pages.{page_at, frame_of, frames_down}
use Rattle.up_pages.specs.declared.page.Page.TheVariants.{Absent}
use Rattle.up_pages.proofs.HeldCounts.{down_none, cut_kinds}
use Rattle.up_pages.proofs.list.PageList.cut.Goals as goal

pub returns-in_err-frames-clause-none : goal.returns-in_err-frames-clause-none
returns-in_err-frames-clause-none c = λ none.
    let none' = subst (λ v. (p : ℕ) → c.args.pages ≤ p → frame_of (page_at v p) ≡ None) (sym c.self.view_is) none in
    let zero : c.held_from-held.result ≡ 0 = c.held_from-held.ensures
    ∙ ap length (down_none (λ p. get_or c.self.inside.pages.items p Absent) c.args.pages (length c.self.inside.pages.items - c.args.pages) none') in
    let not = c.in_err-frames.ensures.none zero in
    absurd cc

pub returns-clause-empty : goal.returns-clause-empty
returns-clause-empty c = λ none.
    let none' = subst (λ v. (p : ℕ) → c.args.pages ≤ p → frame_of (page_at v p) ≡ None) (sym c.self.view_is) none in
    c.take_off.ensures.frames ∙ (ap (λ l. l ++ frames_down (λ p. get_or c.self.inside.pages.items p Absent) c.args.pages (length c.self.inside.pages.items - c.args.pages)) c.in_ok-frames.ensures.empty
    ∙ down_none (λ p. get_or c.self.inside.pages.items p Absent) c.args.pages (length c.self.inside.pages.items - c.args.pages) none')

pub returns-clause-kinds : goal.returns-clause-kinds
returns-clause-kinds c = λ kind.
    let frames : c.take_off.new.frames.items ≡ frames_down (λ p. get_or c.self.inside.pages.items p Absent) c.args.pages (length c.self.inside.pages.items - c.args.pages)
    = c.take_off.ensures.frames ∙ ap (λ l. l ++ frames_down (λ p. get_or c.self.inside.pages.items p Absent) c.args.pages (length c.self.inside.pages.items - c.args.pages)) c.in_ok-frames.ensures.empty in
    let within : c.args.pages ≤ length c.self.inside.pages.items = search rules in
    rw (frames, ← c.self.view_is) (cut_kinds kind c.self.inside.pages.items c.take_off.new.pages.items c.args.pages within c.take_off.ensures.pages)
