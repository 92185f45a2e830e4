use Rattle.std.proofs.Common.{◌≡◌, ◌∙◌, ◌&&◌, Bool, true, false, take, refl, ap, sym, arith}
use Rattle.up_num.specs.Asks.{is_waiting}
use Rattle.up_span.specs.Sets.{holds}
use Rattle.up_asks.specs.Asking.{pages_of, event_of, events_of}
use Rattle.up_asks.proofs.Events.{events_more, then_waiting, fixed_at}
use Rattle.up_asks.proofs.pages.Pages.take_all_out.Goals as goal

and_assoc : (a b c : Bool) → ((a && b) && c) ≡ (a && (b && c))
and_assoc true b c = refl
and_assoc false b c = refl

pub take_out-requires-clause-fixed : goal.take_out-requires-clause-fixed
take_out-requires-clause-fixed c = fixed_at c.args.events.now c.loop-place.place c.event_at.result.now c.requires.fixed c.event_at.ensures

pub loop-place-preserved : goal.loop-place-preserved
loop-place-preserved c = record {
  pages = λ k p. c.take_out.ensures.pages k p
      ∙ ap (λ b. b && is_waiting (event_of c.event_at.result.now k p)) (c.loop-place.invariant.pages k p)
      ∙ and_assoc (holds (pages_of c.args.self.now k).runs p) (is_waiting (events_of (take c.loop-place.place c.args.events.now) k p)) (is_waiting (event_of c.event_at.result.now k p))
      ∙ ap (λ b. holds (pages_of c.args.self.now k).runs p && b) (sym (then_waiting (events_of (take c.loop-place.place c.args.events.now) k p) (event_of c.event_at.result.now k p)))
      ∙ ap (λ o. holds (pages_of c.args.self.now k).runs p && is_waiting o) (sym (events_more c.args.events.now c.loop-place.place c.event_at.result.now k p c.event_at.ensures));
  room = λ k. let one = c.take_out.ensures.room k in let all = c.loop-place.invariant.room k in omega arith;
}

pub take_out-requires-clause-room : goal.take_out-requires-clause-room
take_out-requires-clause-room c = λ each. let room = c.requires.room each in let left = c.loop-place.invariant.room each in omega arith
