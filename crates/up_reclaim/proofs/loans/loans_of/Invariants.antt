use Rattle.std.proofs.Common.{◌≡◌, ◌-◌, ◌++◌, map}
use Rattle.up_num.specs.Pages.{page_number}
use Rattle.up_model.specs.Pages.{list_pages}
use Rattle.up_reclaim.specs.Loans.{loan_test}
use Rattle.up_reclaim.proofs.loans.loans_of.Given as goal

abbrev pub invariant-loop-page : goal.invariant-loop-page
invariant-loop-page l =
    l.found ++ map page_number (list_pages (loan_test l.object.birth l.object.journal l.fn.goes) l.page (l.page-end - l.page))
    ≡ map page_number (list_pages (loan_test l.object.birth l.object.journal l.fn.goes) 0 l.page-end)
