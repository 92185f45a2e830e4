-- A call has one row of words.
use Rattle.std.proofs.Common.{arith}
use Rattle.up_calls.specs.Laws.{ReadsItsWords, ReadsOnlyItsWords, ReadsAllowed, ReadsItsForm}
use Rattle.up_calls.proofs.CallForms.{kind_of, call_found, call_again, found_fits, found_may_be, call_takes}
use Rattle.up_calls.proofs.CallBounds.{call_within}

pub back : ReadsItsWords
back numbered call more allowed formed few =
    let r = call_again call more allowed few in
    (kind_of call, r.spelled, call_found numbered call more formed, r.read, r.same)

pub only : ReadsOnlyItsWords
only numbered kind words spelled found long e few = call_takes kind words spelled long (found_fits numbered words kind found) e (omega (arith, few))

pub within : ReadsAllowed
within kind words spelled e few = (call_within kind words spelled e (omega (arith, few))).allowed

pub formed : ReadsItsForm
formed numbered kind words spelled found e few = (call_within kind words spelled e (omega (arith, few))).formed numbered (found_may_be numbered words kind found)
