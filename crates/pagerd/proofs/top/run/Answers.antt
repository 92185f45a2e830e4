use Rattle.std.proofs.Common.{rules, refl}
use Rattle.std.specs.Io.KnownBytes.{Appends}
use Rattle.up_outside.specs.Front.{AppendsFront}
use Rattle.pagerd.specs.Outsides.{call_of}
use Rattle.pagerd.proofs.Endings.{did_write, did_front, did_fail, did_nothing}
use Rattle.pagerd.proofs.top.run.Goals as goal

pub returns-in-Ok-push_all : goal.returns-in-Ok-push_all
returns-in-Ok-push_all g c = λ words asked.
    let told = c.in-Ok.ensures.answers words asked in
    let written = g.K.Sink.written in
    let text = c.in-Ok.answer.text.items in
    let took : Appends (written c.args.sink.now) (written c.push_all.new.sink) text = search rules in
    did_write (call_of g.S.Source g.K.Sink words
    c.args.source.now c.answer.new.source c.args.sink.now c.push_all.new.sink)
    c.status_of.result c.args.command c.in-Ok.answer.output text asked told.0 took
    c.status_of.ensures (λ none. (c.answer.ensures.unread none).0) told.1 c.in-Ok-push_all.ensures.stands

pub returns-in-Ok : goal.returns-in-Ok
returns-in-Ok g c = λ words asked.
    let told = c.in-Ok.ensures.answers words asked in
    let written = g.K.Sink.written in
    let text = c.in-Ok.answer.text.items in
    let front : AppendsFront (written c.args.sink.now) (written c.push_all.new.sink) text = search rules in
    did_front (call_of g.S.Source g.K.Sink words
    c.args.source.now c.answer.new.source c.args.sink.now c.push_all.new.sink)
    c.args.command c.in-Ok.answer.output text asked told.0 front c.in-Err.ensures.cause.failed
    (λ none. (c.answer.ensures.unread none).0) told.1

pub returns-in-Err-Source : goal.returns-in-Err-Source
returns-in-Err-Source g c = λ words asked.
    let failed = rw c.in-Err-Source.field-0-is at c.in-Err-Source.ensures.answers words asked in
    let unread = rw c.in-Err-Source.field-0-is at c.in-Err-Source.ensures.unread in
    did_fail (call_of g.S.Source g.K.Sink words
    c.args.source.now c.answer.new.source c.args.sink.now c.args.sink.now)
    c.args.command asked failed refl (λ none. (unread none).1 refl) refl

pub returns : goal.returns
returns g c = λ words asked.
    let stands = rw c.in-Err-Memory.field-0-is at c.in-Err-Memory.ensures.answers words asked in
    did_nothing (call_of g.S.Source g.K.Sink words
    c.args.source.now c.answer.new.source c.args.sink.now c.args.sink.now)
    c.args.command asked refl (λ none. (c.answer.ensures.unread none).0) stands refl
