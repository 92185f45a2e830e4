-- What the definitions over journals take from below, of pages in a range: the first that passes a test, how many, all of them, and
-- the maximal runs.
pub use Rattle.up_span.specs.Pages.{within, first_page, count_pages, list_pages}
pub use Rattle.up_span.specs.Runs.{run_of, closed, runs, same_kind_of_page, closed_kind, kind_runs}
pub use Rattle.up_num.specs.Pages.{page_number, dirty_range}
