use Rattle.std.proofs.Common.{[]}
use Rattle.up_fault.specs.declared.access.Decision.TheVariants as decision
use Rattle.up_fault.specs.Calls.{read_attempt}
use Rattle.up_fault.proofs.AccessReplies.{decided_as}
use Rattle.up_fault.proofs.reading.read_piece.Goals as goal

pub decline_read-requires-clause-due : goal.decline_read-requires-clause-due
decline_read-requires-clause-due c = decided_as c.args.object.birth c.args.object.journal c.args.given.0.brought [] c.attempt-attempt.result (read_attempt c.args.given.0) c.decide.result (decision.Decline c.in-Decline.why) c.decide.ensures c.attempt-attempt.ensures c.in-Decline.is

pub park_read-requires-clause-waits : goal.park_read-requires-clause-waits
park_read-requires-clause-waits c = decided_as c.args.object.birth c.args.object.journal c.args.given.0.brought [] c.attempt-attempt.result (read_attempt c.args.given.0) c.decide.result (decision.Park c.in-Park.kind) c.decide.ensures c.attempt-attempt.ensures c.in-Park.is

pub read_bytes-requires-clause-done : goal.read_bytes-requires-clause-done
read_bytes-requires-clause-done c = decided_as c.args.object.birth c.args.object.journal c.args.given.0.brought [] c.attempt-attempt.result (read_attempt c.args.given.0) c.decide.result decision.Done c.decide.ensures c.attempt-attempt.ensures c.in-Done.is
