use Rattle.std.proofs.Common.{map, refl}
use Rattle.std.specs.Prelude.{string_bytes}
use Rattle.pagerd.specs.Outsides.{call}
use Rattle.pagerd.proofs.Endings.{told_words, told_front, answers_due}
use Rattle.pagerd.proofs.top.alone.Goals as goal

pub returns-in-Some-clause-unread : goal.returns-in-Some-clause-unread
returns-in-Some-clause-unread g c =
    (c.run.ensures (map string_bytes c.args.words.now) c.in-Some.ensures.some).unread

pub returns-in-Some-clause-source : goal.returns-in-Some-clause-source
returns-in-Some-clause-source g c =
    (c.run.ensures (map string_bytes c.args.words.now) c.in-Some.ensures.some).source

pub returns-in-Some-clause-sink : goal.returns-in-Some-clause-sink
returns-in-Some-clause-sink g c =
    (c.run.ensures (map string_bytes c.args.words.now) c.in-Some.ensures.some).sink

pub returns-in-Some-clause-due : goal.returns-in-Some-clause-due
returns-in-Some-clause-due g c =
    (c.run.ensures (map string_bytes c.args.words.now) c.in-Some.ensures.some).due

pub returns-in-Ok-clause-did : goal.returns-in-Ok-clause-did
returns-in-Ok-clause-did g c =
    told_words (call g.S.Source g.K.Sink c.args.words.now
    c.args.source.now c.args.source.now c.args.sink.now c.push_all.new.sink)
    c.status_of.result (c.in-None.ensures.none refl) c.in-Ok.ensures.all c.status_of.ensures

pub returns-in-Ok-clause-due : goal.returns-in-Ok-clause-due
returns-in-Ok-clause-due g c =
    answers_due (call g.S.Source g.K.Sink c.args.words.now
    c.args.source.now c.args.source.now c.args.sink.now c.push_all.new.sink)
    c.status_of.result (returns-in-Ok-clause-did g c)

pub returns-in-Err-clause-did : goal.returns-in-Err-clause-did
returns-in-Err-clause-did g c =
    told_front (call g.S.Source g.K.Sink c.args.words.now
    c.args.source.now c.args.source.now c.args.sink.now c.push_all.new.sink)
    (c.in-None.ensures.none refl) c.in-Err.ensures.front c.in-Err.ensures.cause.failed
