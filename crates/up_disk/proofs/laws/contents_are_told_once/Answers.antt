use Rattle.up_disk.proofs.Contents.{told, only_told, told_once}
use Rattle.up_disk.proofs.laws.contents_are_told_once.Goals as goal

pub returns-clause-same : goal.returns-clause-same
returns-clause-same c contents content = (only_told contents content, told contents content)

pub returns-clause-once : goal.returns-clause-once
returns-clause-once c = told_once
