use Rattle.std.proofs.Common.{◌≡◌, arith}
use Rattle.up_span.specs.Pages.{count_pages}
use Rattle.up_model.specs.Pins.{loaned}
use Rattle.up_object.proofs.PageLooks.{loan_is}
use Rattle.up_clean.specs.Dirties.{lent}
use Rattle.up_clean.proofs.Counts.{count_alike}
use Rattle.up_clean.proofs.dirtying.dirty_woken.Goals as goal

pub dirty_freeing-requires-clause-enough : goal.dirty_freeing-requires-clause-enough
dirty_freeing-requires-clause-enough c =
    let birth = c.args.object.birth in
    let h = c.args.object.journal in
    let range = c.args.dirtying.range in
    let same : count_pages (lent birth h) range.first range.count ≡ count_pages (loaned birth h) range.first range.count =
    count_alike (lent birth h) (loaned birth h) range.first range.count (loan_is birth h c.is_legal.ensures) in
    omega (arith, c.requires.enough)
