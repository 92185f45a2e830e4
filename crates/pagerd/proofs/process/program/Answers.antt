use Rattle.pagerd.proofs.Endings.{did_at}
use Rattle.pagerd.proofs.process.program.Goals as goal

pub returns-in-Ok-clause-did : goal.returns-in-Ok-clause-did
returns-in-Ok-clause-did g c =
    let made = c.alone-status.ensures in
    rw c.in-Ok.is (did_at _ _ c.as_slice.result.now c.in-Ok.words.items _ _ _ _ c.alone-status.result _ c.as_slice.ensures.value
    c.end.ensures (record {
      did = made.did;
      words = made.words;
      unread = made.unread;
      source = made.source;
      sink = made.sink;
      due = made.due;
    }))
