use Rattle.std.proofs.Common.{List, reverse, sym, ◌∙◌, ap, subst}
use Rattle.up_core.specs.declared.requests.Request.{Request}
use Rattle.up_core.specs.Running.{Ended}
use Rattle.up_core.proofs.Leftover.{stopped_at, room_enough, all_ended}
use Rattle.up_core.proofs.listing.run_all.Goals as goal

pub gather-requires : goal.gather-requires
gather-requires c = record {
  room = room_enough c.args.object.now c.run_each.new.object c.args.list (reverse c.run_each.new.left.items) c.run_each.new.replies.items c.in-Err.frames.items c.args.back c.pour.new.into
      c.requires.empty c.pour.ensures.items c.pour.ensures.room c.requires.enough
      (stopped_at c.args.object.now c.run_each.new.object c.args.list c.reverse.new.self.items (reverse c.run_each.new.left.items) c.run_each.new.replies.items c.in-Err.frames.items
      (c.reverse.ensures.items ∙ ap reverse c.into_vec-left.ensures) c.in-Err.ensures.err);
}

pub returns-in-Err-clause-err : goal.returns-in-Err-clause-err
returns-in-Err-clause-err c =
    subst (λ (left : List Request). Ended c.args.object.now c.run_each.new.object c.args.list left c.gather.new.into.items) (sym (c.from_vec-in-Err.ensures ∙ c.reverse-in-Err.ensures.items))
    (all_ended c.args.object.now c.run_each.new.object c.args.list (reverse c.run_each.new.left.items) c.run_each.new.replies.items c.in-Err.frames.items c.args.back c.pour.new.into c.gather.new.into
    c.requires.empty c.pour.ensures.items c.gather.ensures.kinds c.gather.ensures.own
    (stopped_at c.args.object.now c.run_each.new.object c.args.list c.reverse.new.self.items (reverse c.run_each.new.left.items) c.run_each.new.replies.items c.in-Err.frames.items
    (c.reverse.ensures.items ∙ ap reverse c.into_vec-left.ensures) c.in-Err.ensures.err))
