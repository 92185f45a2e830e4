-- A reply has one row of words.
use Rattle.std.proofs.Common.{arith}
use Rattle.up_replies.specs.Laws.{ReadsItsWords, ReadsOnlyItsWords, ReadsAllowed, ReadsKnown}
use Rattle.up_replies.proofs.ReplyForms.{kind_of, reply_found, list_shown, reply_again, found_fits, found_may_be, fits_parts, reply_takes}
use Rattle.up_replies.proofs.ReplyBounds.{reply_within}

pub back : ReadsItsWords
back numbers reply allowed known few =
    let r = reply_again reply allowed few in
    (kind_of reply, r.spelled, reply_found numbers reply known, list_shown reply allowed, r.read, r.same)

pub only : ReadsOnlyItsWords
only numbers kind words spelled found e few = reply_takes kind words spelled (fits_parts kind words (found_fits numbers words kind found)) e (omega (arith, few))

pub within : ReadsAllowed
within kind words spelled e few = (reply_within kind words spelled e (omega (arith, few))).allowed

pub known : ReadsKnown
known numbers kind words spelled found e few = (reply_within kind words spelled e (omega (arith, few))).known numbers (found_may_be numbers words kind found)
