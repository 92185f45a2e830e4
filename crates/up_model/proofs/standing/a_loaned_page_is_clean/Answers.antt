use Rattle.up_model.proofs.StateParts.{loaned_not_plain}
use Rattle.up_model.proofs.StatePartLaws.{loaned_clean, loaned_unpinned}
use Rattle.up_model.proofs.standing.a_loaned_page_is_clean.Goals as goal

pub returns-clause-clean : goal.returns-clause-clean
returns-clause-clean c = loaned_clean

pub returns-clause-not_plain : goal.returns-clause-not_plain
returns-clause-not_plain c = loaned_not_plain

pub returns-clause-unpinned : goal.returns-clause-unpinned
returns-clause-unpinned c = loaned_unpinned
