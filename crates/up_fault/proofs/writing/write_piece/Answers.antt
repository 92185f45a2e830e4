use Rattle.up_fault.specs.declared.access.Decision.TheVariants as decision
use Rattle.up_fault.specs.Calls.{write_attempt}
use Rattle.up_fault.proofs.AccessReplies.{decided_as}
use Rattle.up_fault.proofs.writing.write_piece.Goals as goal

pub decline_write-requires-clause-due : goal.decline_write-requires-clause-due
decline_write-requires-clause-due c = decided_as c.args.object.birth c.args.object.journal c.args.given.0.brought c.args.given.1 c.attempt-attempt.result (write_attempt c.args.given.0 c.args.given.1) c.decide.result (decision.Decline c.in-Decline.why) c.decide.ensures c.attempt-attempt.ensures c.in-Decline.is

pub park_write-requires-clause-waits : goal.park_write-requires-clause-waits
park_write-requires-clause-waits c = decided_as c.args.object.birth c.args.object.journal c.args.given.0.brought c.args.given.1 c.attempt-attempt.result (write_attempt c.args.given.0 c.args.given.1) c.decide.result (decision.Park c.in-Park.kind) c.decide.ensures c.attempt-attempt.ensures c.in-Park.is

pub write_bytes-requires-clause-done : goal.write_bytes-requires-clause-done
write_bytes-requires-clause-done c = decided_as c.args.object.birth c.args.object.journal c.args.given.0.brought c.args.given.1 c.attempt-attempt.result (write_attempt c.args.given.0 c.args.given.1) c.decide.result decision.Done c.decide.ensures c.attempt-attempt.ensures c.in-Done.is
