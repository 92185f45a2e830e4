use Rattle.up_core.proofs.Enough.{proper_alike, bytes_alike}
use Rattle.up_core.proofs.laws.frames_leave_no_trace.Goals as goal

pub returns-clause-proper : goal.returns-clause-proper
returns-clause-proper c = proper_alike

pub returns-clause-bytes : goal.returns-clause-bytes
returns-clause-bytes c = bytes_alike
