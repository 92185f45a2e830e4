use Rattle.std.proofs.Common.{arith, ◌∙◌, ap}
use Rattle.up_model.specs.Value.{byte_or_zero}
use Rattle.up_facts.proofs.Lookback.{bytes_more}
use Rattle.up_facts.proofs.facts.bytes_from.Goals as goal

pub loop-place-preserved : goal.loop-place-preserved
loop-place-preserved c =
    bytes_more _ _ c.args.off c.loop-place.place c.from.result c.args.len c.loop-place.bytes.items _ c.byte_or_zero-byte.result
    (omega arith) c.in_ok-push.ensures.items c.from.ensures (c.byte_or_zero-byte.ensures ∙ ap byte_or_zero c.value.ensures)
    ∙ c.loop-place.invariant
