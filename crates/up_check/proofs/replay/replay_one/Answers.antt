use Rattle.std.proofs.Common.{◌≡◌, ◌≢◌, true, rules}
use Rattle.up_model.specs.Reply as replies
use Rattle.up_object.specs.Whole.{after}
use Rattle.up_check.specs.Handed.{HandedIn}
use Rattle.up_check.proofs.CallsHanded.{hands_in}
use Rattle.up_check.proofs.ReplayFinds.{right_told, wrong_told}
use Rattle.up_check.proofs.replay.replay_one.Goals as goal

pub make-requires-clause-agrees : goal.make-requires-clause-agrees
make-requires-clause-agrees c =
    let old = c.args.object.now in
    let e = c.args.entry.now in
    let may : true ≡ replies.proper old.birth old.journal e.who e.call = search rules in
    let handed : HandedIn c.args.banks.now c.kind_of.result c.brought_again-brought.result c.in-Some.frames = search rules in
    (hands_in old.birth old.journal c.args.banks.now e.who e.call c.in_ok-call.call c.brought_again-brought.result c.kind_of.result c.in-Some.frames may c.brought_again-brought.ensures c.in_ok-call.ensures c.kind_of.ensures handed).agrees

pub make-requires-clause-proper : goal.make-requires-clause-proper
make-requires-clause-proper c =
    let old = c.args.object.now in
    let e = c.args.entry.now in
    let may : true ≡ replies.proper old.birth old.journal e.who e.call = search rules in
    let handed : HandedIn c.args.banks.now c.kind_of.result c.brought_again-brought.result c.in-Some.frames = search rules in
    (hands_in old.birth old.journal c.args.banks.now e.who e.call c.in_ok-call.call c.brought_again-brought.result c.kind_of.result c.in-Some.frames may c.brought_again-brought.ensures c.in_ok-call.ensures c.kind_of.ensures handed).proper

pub returns-then-same-clause-told : goal.returns-then-same-clause-told
returns-then-same-clause-told c =
    let old = c.args.object.now in
    let e = c.args.entry.now in
    let may : true ≡ replies.proper old.birth old.journal e.who e.call = search rules in
    let due : c.in_ok-reply.reply ≡ replies.reply old.birth old.journal e.who e.epoch c.in_ok-call.call = search rules in
    let stands : c.make.new.object ≡ after old e.who e.epoch c.in_ok-call.call = search rules in
    let one : e.reply ≡ c.in_ok-reply.reply = search rules in
    λ h same. right_told old c.make.new.object h e c.in_ok-call.call c.brought_again-brought.result c.in_ok-reply.reply same may c.brought_again-brought.ensures c.in_ok-call.ensures due stands one

pub returns-else-same-clause-told : goal.returns-else-same-clause-told
returns-else-same-clause-told c =
    let old = c.args.object.now in
    let e = c.args.entry.now in
    let may : true ≡ replies.proper old.birth old.journal e.who e.call = search rules in
    let due : c.in_ok-reply.reply ≡ replies.reply old.birth old.journal e.who e.epoch c.in_ok-call.call = search rules in
    let other : e.reply ≢ c.in_ok-reply.reply = search rules in
    λ h same. wrong_told old c.make.new.object h e c.in_ok-call.call c.brought_again-brought.result c.in_ok-reply.reply same may c.brought_again-brought.ensures c.in_ok-call.ensures due other
