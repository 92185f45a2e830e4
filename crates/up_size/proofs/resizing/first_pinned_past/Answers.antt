use Rattle.std.proofs.Common.{ℕ, ◌-◌, ap, ◌∙◌, arith}
use Rattle.up_num.specs.Span.{Span}
use Rattle.up_span.specs.Pages.{first_page}
use Rattle.up_model.specs.Size.{size}
use Rattle.up_model.specs.Reply.{is_pinned}
use Rattle.up_size.proofs.Resizes.{first_past, none_past}
use Rattle.up_size.proofs.resizing.first_pinned_past.Goals as goal

pub returns-then-size-pages : goal.returns-then-size-pages
returns-then-size-pages c =
    let is = c.size-size.ensures.value in
    let more = c.if-size-pages.true in
    none_past c.args.object.now.journal c.args.pages (size c.args.object.now.birth c.args.object.now.journal) (omega arith)

pub returns : goal.returns
returns c =
    let is = c.size-size.ensures.value in
    let less = c.if-size-pages.false in
    let h = c.args.object.now.journal in
    c.first_pinned.ensures ∙ ap (λ (r : Span). first_page (is_pinned h) r.first r.count) c.range_between.ensures
    ∙ ap (λ (n : ℕ). first_page (is_pinned h) c.args.pages (n - c.args.pages)) is
    ∙ first_past h c.args.pages (size c.args.object.now.birth h) (omega arith)
