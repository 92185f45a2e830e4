use Rattle.up_worker.proofs.CourseTold.{is_told_law}
use Rattle.up_worker.proofs.laws.a_course_is_told_by_its_entries.Goals as goal

pub returns : goal.returns
returns c = is_told_law
