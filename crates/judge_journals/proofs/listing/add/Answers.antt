use Rattle.std.proofs.Common.{IsTrue, rules}
use Rattle.up_model.specs.Reply.{proper}
use Rattle.up_core.specs.Requests.{after_all}
use Rattle.up_check.specs.Handed.{HandedIn}
use Rattle.judge_journals.proofs.Requests.{keeps_pushed}
use Rattle.judge_journals.proofs.listing.add.Goals as goal

pub returns-in-Ok-clause-keeps : goal.returns-in-Ok-clause-keeps
returns-in-Ok-clause-keeps c =
    let e = c.args.entry.now in
    let object = c.args.object.now in
    let handed : HandedIn c.args.banks.now c.kind_of.result c.brought-brought.result c.in-Some.frames = search rules in
    let may : IsTrue (proper object.birth (after_all object c.args.list.now).journal e.who e.call) = search rules in
    keeps_pushed object c.args.list.now c.push.new.self _ c.args.banks.now e.call c.brought-brought.result c.kind_of.result c.in-Ok.ensures.ok c.requires.banks c.requires.keeps
    c.brought-brought.ensures c.in_ok-call.ensures c.kind_of.ensures handed may
