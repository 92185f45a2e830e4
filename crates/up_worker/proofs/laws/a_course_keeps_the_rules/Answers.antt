use Rattle.up_worker.proofs.CourseRules.{keeps_rules, leaves_nothing}
use Rattle.up_worker.proofs.laws.a_course_keeps_the_rules.Goals as goal

pub returns-clause-rules : goal.returns-clause-rules
returns-clause-rules c = keeps_rules

pub returns-clause-end : goal.returns-clause-end
returns-clause-end c = leaves_nothing
