-- What is asked for looks at the offset and the last page alone.
use Rattle.std.proofs.Common.{Some, ap}
use Rattle.up_facts.proofs.asking.wanted_of.Goals as goal

pub returns-in-Read : goal.returns-in-Read
returns-in-Read c = rw c.in-Read.is (ap Some c.want.ensures)

pub returns-in-Write : goal.returns-in-Write
returns-in-Write c = rw c.in-Write.is (ap Some c.want-in-Write.ensures)
