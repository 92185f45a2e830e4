-- Lists of entries that aren't legal: there the definitions are this project's choice. The six places where that shows, computed.
use Rattle.std.specs.Prelude.{◌≡◌, true, false, Some, None, List, [], ◌∷◌, refl}
use Rattle.up_num.specs.declared.answers.AskKind.TheVariants.{Read as ReadAsk}
use Rattle.up_num.specs.declared.answers.Outcome.TheVariants.{Waiting as NothingYet, Detached as DetachedOutcome}
use Rattle.up_num.specs.declared.answers.Refusal.TheVariants as refusal
use Rattle.up_model.specs.Asks.{resolved}
use Rattle.up_model.specs.Deeds.{writes, reads, supplies, evicts}
use Rattle.up_model.specs.Order.{loose, order}
use Rattle.up_model.specs.Pins.{pins}
use Rattle.up_model.specs.Roles.{detached}
use Rattle.up_model.specs.Tickets.{next_ticket, owner}
use Rattle.up_model.specs.Value.{value}
use Rattle.up_model.proofs.JournalWords.{page, range, free, by, read_at, write_at, supply}
use Rattle.up_model.specs.declared.entry.Entry.{Entry}
use Rattle.up_model.specs.declared.entry.Brought.TheVariants.{Nothing}
use Rattle.up_model.specs.declared.entry.Role.TheVariants.{Pager}
use Rattle.up_model.specs.declared.entry.Call.TheVariants as calls
use Rattle.up_model.specs.declared.entry.Reply.TheVariants as answer

-- detaching: what waits is resolved by a call that detaches and any reply that is accepted, and the object is detached by the
-- reply Left alone
abbrev the_pager_leaves_oddly : Entry
the_pager_leaves_oddly = by 2 0 (calls.Leave Pager) answer.Done

detaching-resolves : resolved (free 1) [] the_pager_leaves_oddly ReadAsk 0 ≡ DetachedOutcome
detaching-resolves = refl

detaching-not_detached : detached (free 1) (the_pager_leaves_oddly ∷ []) ≡ false
detaching-not_detached = refl

detaching-unaccepted : resolved (free 1) [] (by 2 0 (calls.Leave Pager) (answer.Refused refusal.Range)) ReadAsk 0 ≡ NothingYet
detaching-unaccepted = refl

-- replies of another call's kind: whether a call was accepted is read off the reply alone; a write or read has to be answered as one
other_reply-supply : supplies (by 2 0 (supply 0 1 97) answer.Noted) 0 ≡ true
other_reply-supply = refl

other_reply-write : writes [] (by 0 0 (write_at 0 65 0 Nothing) (answer.Bytes (97 ∷ []))) 0 ≡ false
other_reply-write = refl

other_reply-read : reads [] (by 0 0 (read_at 0 1 0) answer.Done) 0 ≡ false
other_reply-read = refl

other_reply-evict : evicts (by 3 0 (calls.Evict 0 1) (answer.Vacated [] (page 0 ∷ []))) 0 ≡ true
other_reply-evict = refl

-- a write over a page's end: it is one in the page of its first byte, and gives bytes there alone
abbrev over_the_end : List Entry
over_the_end = by 0 0 (calls.Write 4095 (65 ∷ 66 ∷ []) (page 1) Nothing) answer.Done ∷ by 2 0 (supply 0 2 97) (answer.Took 2 []) ∷ []

over_the_end-first : value (free 2) over_the_end 4095 ≡ Some 65
unfolding value
over_the_end-first = refl

over_the_end-next : value (free 2) over_the_end 4096 ≡ Some 97
unfolding value
over_the_end-next = refl

-- a ticket's number out of turn: a ticket is known by the number in the reply, and the next number counts the replies
abbrev out_of_turn : List Entry
out_of_turn = by 0 0 (read_at 0 1 0) (answer.Blocked 7) ∷ []

out_of_turn-owner : owner out_of_turn 7 ≡ Some 0
out_of_turn-owner = refl

out_of_turn-none : owner out_of_turn 0 ≡ None
out_of_turn-none = refl

out_of_turn-next : next_ticket out_of_turn ≡ 1
out_of_turn-next = refl

-- more unpins than pins: the pins stay at 0, and the next pin counts
abbrev unpinned_first : List Entry
unpinned_first = by 0 0 (calls.Unpin (range 0 1)) answer.Done ∷ []

unpinned_first-none : pins unpinned_first 0 ≡ 0
unpinned_first-none = refl

unpinned_first-one : pins (by 0 0 (calls.Pin (range 0 1) Nothing) answer.Done ∷ unpinned_first) 0 ≡ 1
unpinned_first-one = refl

-- pages past the size: one may be loose, but no order has it
abbrev past_the_size : List Entry
past_the_size = by 2 0 (supply 0 2 97) (answer.Took 2 []) ∷ []

past_the_size-loose : loose (free 1) past_the_size 1 ≡ true
unfolding value
past_the_size-loose = refl

past_the_size-order : order (free 1) past_the_size 0 0 ≡ 0 ∷ []
unfolding value
past_the_size-order = refl
