-- Ranges and lists have one text each.
use Rattle.up_words.specs.Numbers.{number_between}
use Rattle.up_fields.specs.Limits.{all_tickets, all_pages}
use Rattle.up_fields.specs.Fields.{page_in, run_of}
use Rattle.up_fields.specs.Allowed.{lies, page_lies, range_lies}
use Rattle.up_fields.specs.Laws.{ReadsItsRange, ReadsOnlyItsRange, ReadsItsTickets, ReadsOnlyItsTickets, ReadsItsPages, ReadsOnlyItsPages, ReadsItsRuns, ReadsOnlyItsRuns}
use Rattle.up_fields.proofs.Values.{range_again, range_takes}
use Rattle.up_fields.proofs.Listed.{tickets, pages, runs, list_again, list_takes}
use Rattle.up_fields.proofs.Bounds.{range_within, list_within, tickets_fine, pages_fine, runs_fine}

pub range_back : ReadsItsRange
range_back range e = range_again range e

pub range_only : ReadsOnlyItsRange
range_only range first count e =
    let p = range_takes range first count e in
    (p.0, p.1, range_within range first count e)

pub tickets_back : ReadsItsTickets
tickets_back xs all = list_again tickets xs all

pub tickets_only : ReadsOnlyItsTickets
tickets_only word xs e = (list_takes tickets word xs e, list_within (number_between 0 all_tickets) (lies 0 all_tickets) tickets_fine word xs e)

pub pages_back : ReadsItsPages
pages_back xs all = list_again pages xs all

pub pages_only : ReadsOnlyItsPages
pages_only word xs e = (list_takes pages word xs e, list_within (page_in all_pages) page_lies pages_fine word xs e)

pub runs_back : ReadsItsRuns
runs_back xs all = list_again runs xs all

pub runs_only : ReadsOnlyItsRuns
runs_only word xs e = (list_takes runs word xs e, list_within run_of (λ run. range_lies run.range) runs_fine word xs e)
