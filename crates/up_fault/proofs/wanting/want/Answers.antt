use Rattle.std.proofs.Common.{◌≡◌, ℕ, ◌+◌, ◌-◌, true, min, ap, sym, ◌∙◌, subst, arith}
use Rattle.up_span.specs.Runs.{run_of}
use Rattle.up_model.specs.Attempts.{page_of}
use Rattle.up_model.specs.Size.{size}
use Rattle.up_model.specs.Asks.{lacks}
use Rattle.up_fault.specs.Accesses.{access_in}
use Rattle.up_fault.proofs.LackingRuns.{want_is, run_some, run_fits}
use Rattle.up_fault.proofs.wanting.want.Goals as goal

pub invariant_of-range : goal.invariant_of-range
invariant_of-range c =
    let test = lacks c.args.object.now.birth c.args.object.now.journal c.args.kind in
    let value = c.page_in-first.ensures.value in
    let low = c.requires.low in
    let order = c.requires.order in
    let pages = c.size-pages.ensures.value in
    let room = c.room_within-room.ensures in
    let here : test c.page_in-first.result ≡ true = subst (λ (n : ℕ). test n ≡ true) (sym value) c.requires.lacking in
    let some = run_some test c.page_in-first.result c.room_within-room.result c.lacking-count.result (omega arith) here c.lacking-count.ensures in
    let fits = run_fits test c.page_in-first.result c.room_within-room.result c.lacking-count.result c.lacking-count.ensures in
    (some, omega arith)

pub returns-clause-wants : goal.returns-clause-wants
returns-clause-wants c = λ bytes.
    let birth = c.args.object.now.birth in
    let h = c.args.object.now.journal in
    let test = lacks birth h c.args.kind in
    let value = c.page_in-first.ensures.value in
    let low = c.requires.low in
    let order = c.requires.order in
    let pages = c.size-pages.ensures.value in
    let room = c.room_within-room.ensures in
    let far : c.room_within-room.result ≡ min (c.args.attempt.now.last.0 + 1) (size birth h) - page_of c.args.attempt.now.off = omega arith in
    let fits = run_fits test c.page_in-first.result c.room_within-room.result c.lacking-count.result c.lacking-count.ensures in record {
      asks = want_is birth h (access_in c.args.attempt.now bytes) c.args.kind c.room_within-room.result c.lacking-count.result c.requires.asks far
          (c.lacking-count.ensures ∙ ap (λ (n : ℕ). run_of test n c.room_within-room.result) value)
          ∙ (λ i. record { kind = c.args.kind; first = sym value i; count = c.lacking-count.result });
      fresh = c.in_ok-parts.ensures.parts;
      fits = omega arith;
      few = c.in_ok-parts.ensures.few;
    }
