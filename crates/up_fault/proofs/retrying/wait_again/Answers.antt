use Rattle.std.proofs.Common.{refl, [], sym}
use Rattle.up_model.specs.Tickets.{next_ticket}
use Rattle.up_model.specs.declared.entry.Entry.{Entry}
use Rattle.up_model.specs.declared.entry.Reply.TheVariants.{Blocked}
use Rattle.up_fault.specs.Calls.{retry_call}
use Rattle.up_object.specs.Asks.{access_of}
use Rattle.up_fault.proofs.Retries.{held_spends, again_wants, again_attempts, again_reply}
use Rattle.up_fault.proofs.retrying.wait_again.Goals as goal

pub want-requires-clause-asks : goal.want-requires-clause-asks
want-requires-clause-asks c = (c.requires.waits []).asks

pub want-requires-clause-lacking : goal.want-requires-clause-lacking
want-requires-clause-lacking c = (c.requires.waits []).lacking

pub want-requires-clause-low : goal.want-requires-clause-low
want-requires-clause-low c = (c.requires.waits []).low

pub park-object-requires-clause-wants : goal.park-object-requires-clause-wants
park-object-requires-clause-wants c =
    let held = rw c.in-Ok-open_asking.ensures.ok at c.spend-piece.ensures.access in
    rw (c.spend-piece.ensures.new, c.in-Ok-open_asking.ensures.ok)
    (again_wants c.args.object.birth c.args.object.journal c.args.attempt c.spend-piece.result c.in-Ok.wanted (c.requires.same (access_of c.spend-piece.result) held) c.in-Ok.ensures.wants)

pub park-object-requires-clause-attempted : goal.park-object-requires-clause-attempted
park-object-requires-clause-attempted c =
    let held = rw c.in-Ok-open_asking.ensures.ok at c.spend-piece.ensures.access in
    let e : Entry = record { who = c.args.retrying.by.who; epoch = c.args.retrying.by.epoch; call = retry_call c.args.retrying; reply = Blocked c.next_ticket-number.result } in
    rw (c.spend-piece.ensures.new, c.in-Ok-open_asking.ensures.ok, c.entry-entry.ensures)
    (again_attempts c.args.object.journal e c.args.retrying.ticket c.args.retrying.brought (access_of c.spend-piece.result) refl held)

pub park-object-requires-clause-due : goal.park-object-requires-clause-due
park-object-requires-clause-due c = rw (c.spend-piece.ensures.new, c.in-Ok-open_asking.ensures.ok, c.entry-entry.ensures, c.next_ticket-number.ensures)
    (record {
      properly = c.requires.proper;
      answer = sym (again_reply c.args.object.birth c.args.object.journal c.args.retrying.by.who c.args.retrying.by.epoch c.args.retrying.ticket c.args.attempt c.args.retrying.brought
          (Blocked (next_ticket c.args.object.journal)) c.requires.freed c.requires.some c.requires.same (λ bytes. (c.requires.waits bytes).answers));
    })

pub spend-piece-requires-clause-spends : goal.spend-piece-requires-clause-spends
spend-piece-requires-clause-spends c = rw (c.in-Ok-open_asking.ensures.ok, c.entry-entry.ensures)
    (held_spends c.args.object.birth _ c.args.object.journal c.args.retrying.by.who c.args.retrying.ticket c.args.retrying.brought c.is_legal.ensures c.requires.proper refl refl)

pub park-object-requires-clause-attached : goal.park-object-requires-clause-attached
park-object-requires-clause-attached c = rw (c.spend-piece.ensures.new, c.in-Ok-open_asking.ensures.ok) ((c.requires.waits []).attached)
