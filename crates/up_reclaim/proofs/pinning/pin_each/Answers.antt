use Rattle.std.proofs.Common.{◌≡◌, ℕ, ◌+◌, ◌-◌, ◌<◌, cond, ap, sym, ◌∙◌, subst}
use Rattle.up_model.specs.Looks.{lacks_own_frame, look_of}
use Rattle.up_model.specs.Reply.{needs_own_frame}
use Rattle.up_object.specs.Change.{Change}
use Rattle.up_object.proofs.PageLooks.{own_is}
use Rattle.up_object.proofs.RangeCalls.{used_further, one_left, rest_left}
use Rattle.up_reclaim.proofs.EachPage.{pin_at}
use Rattle.up_reclaim.proofs.pinning.pin_each.Goals as goal

pub pin-requires-clause-pins : goal.pin-requires-clause-pins
pin-requires-clause-pins c = rw c.loop-place.invariant.at
    (pin_at _ _ _ c.args.range c.args.brought _ c.loop-place._place c.requires.call c.requires.accepted c.requires.there c.requires.few c.requires.first
    (subst (λ (n : ℕ). c.loop-place._place < n) c.count_of-place-end.ensures c.loop-place-test.true))

pub pin-requires-clause-frame : goal.pin-requires-clause-frame
pin-requires-clause-frame c = λ lacks.
    let old = c.args.changing.now in
    let same : needs_own_frame old.birth old.journal (c.args.range.first + c.loop-place._place) ≡ lacks_own_frame (look_of c.loop-place.changing.birth c.loop-place.changing.journal c.loop-place.changing.done.mark) =
    sym (own_is old.birth old.journal c.requires.legal _) ∙ rw c.loop-place.invariant.at (ap (λ (n : ℕ). lacks_own_frame (look_of old.birth old.journal (n + c.loop-place._place))) (sym c.requires.first)) in
    one_left (needs_own_frame old.birth old.journal) c.args.range.first c.loop-place._place c.args.range.count c.loop-place.changing.given
    (subst (λ (n : ℕ). c.loop-place._place < n) c.count_of-place-end.ensures c.loop-place-test.true) c.loop-place.invariant.enough (same ∙ lacks)

pub loop-place-preserved : goal.loop-place-preserved
loop-place-preserved c =
    let old = c.args.changing.now in
    let uses = lacks_own_frame (look_of c.loop-place.changing.birth c.loop-place.changing.journal c.loop-place.changing.done.mark) in
    let same : needs_own_frame old.birth old.journal (c.args.range.first + c.loop-place._place) ≡ uses =
    sym (own_is old.birth old.journal c.requires.legal _) ∙ rw c.loop-place.invariant.at (ap (λ (n : ℕ). lacks_own_frame (look_of old.birth old.journal (n + c.loop-place._place))) (sym c.requires.first)) in record {
      at = used_further uses old c.loop-place.changing c.pin.new.self c.loop-place._place c.loop-place.invariant.at c.pin.ensures;
      enough = rest_left (needs_own_frame old.birth old.journal) c.args.range.first c.loop-place._place c.args.range.count c.loop-place.changing.given c.pin.new.self.given
          (subst (λ (n : ℕ). c.loop-place._place < n) c.count_of-place-end.ensures c.loop-place-test.true) c.loop-place.invariant.enough
          (ap (λ (v : Change). v.given) c.pin.ensures ∙ ap (λ b. c.loop-place.changing.given - cond b 1 0) (sym same));
    }
