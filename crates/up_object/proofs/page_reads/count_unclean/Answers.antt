use Rattle.std.proofs.Common.{◌≡◌, ◌≤◌, Bool, true, false, cond, refl, ap, ◌∙◌, arith}
use Rattle.core.specs.Int.{from_bool}
use Rattle.up_pages.specs.Pages.{page_at, look_of as look_at}
use Rattle.up_pages.specs.declared.page.Look.{Look}
use Rattle.up_model.specs.Looks.{is_unclean}
use Rattle.up_object.specs.Parts.{shown}
use Rattle.up_object.proofs.Contents.{counts_more}
use Rattle.up_object.proofs.page_reads.count_unclean.Goals as goal

one_where : (b : Bool) → from_bool b ≡ cond b 1 0
one_where true = refl
one_where false = refl

one_at_most : (b : Bool) → cond b 1 0 ≤ 1
one_at_most true = omega arith
one_at_most false = omega arith

pub loop-page-preserved : goal.loop-page-preserved
loop-page-preserved c =
    let one : c.from-count.result ≡ cond c.is_unclean.result 1 0 = c.from-count.ensures ∙ one_where c.is_unclean.result in
    let few = one_at_most c.is_unclean.result in
    let was = c.loop-page.invariant.few in record {
      counted = counts_more (λ p. is_unclean (shown (look_at (page_at c.args.pages.now p)))) c.loop-page.page c.loop-page.count c.from-count.result c.loop-page.invariant.counted
          (one ∙ ap (λ b. cond b 1 0) (c.is_unclean.ensures ∙ ap (λ (look : Look). is_unclean (shown look)) c.look.ensures));
      few = omega arith;
    }
