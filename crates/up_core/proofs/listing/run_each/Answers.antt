use Rattle.std.proofs.Common.{reverse}
use Rattle.std.specs.Vec.{vec_capacity}
use Rattle.up_core.proofs.Rounds.{going_step, going_halt, room_kept}
use Rattle.up_core.proofs.listing.run_each.Goals as goal

pub loop-request-preserved : goal.loop-request-preserved
loop-request-preserved c = record {
  going = going_step c.args.object.now c.loop-request.object c.step.new.object (reverse c.args.left.now.items) c.loop-request.left.items c.pop.new.self.items
      c.loop-request.replies.items c.push_reserved.new.self.items c.in-Some.request c.in-Ok.stepped c.loop-request.invariant.going c.in-Some.ensures.items c.push_reserved.ensures.items
      (record { stands = c.in-Ok.ensures.object; told = c.in-Ok.ensures.reply; frames = c.in-Ok.ensures.frames; own = c.in-Ok.ensures.own });
  room = room_kept c.loop-request.left.items c.pop.new.self.items c.loop-request.replies.items c.push_reserved.new.self.items c.in-Some.request c.in-Ok.stepped
      (vec_capacity c.loop-request.replies) (vec_capacity c.push_reserved.new.self) c.in-Some.ensures.items c.push_reserved.ensures.items c.push_reserved.ensures.capacity c.loop-request.invariant.room;
}

pub returns-in-Err-clause-err : goal.returns-in-Err-clause-err
returns-in-Err-clause-err c =
    going_halt c.args.object.now c.loop-request.object c.step.new.object (reverse c.args.left.now.items) c.loop-request.left.items c.pop.new.self.items c.loop-request.replies.items c.in-Some.request
    c.in-Err.failed.1.items c.loop-request.invariant.going c.in-Some.ensures.items c.in-Err.ensures.same c.in-Err.ensures.back
