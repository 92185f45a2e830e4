use Rattle.std.proofs.Common.{arith, ◌∙◌, ◌+◌, sym}
use Rattle.up_stage.proofs.GeneratedRounds.{rounds_more, number_more, no_rounds, first_number, few_lines}
use Rattle.up_stage.proofs.making.lines_of.Goals as goal

pub loop-place-init : goal.loop-place-init
loop-place-init c = record {
  lines = c.new-lines.ensures ∙ sym (no_rounds c.args.seed);
  number = first_number c.args.seed;
  small = omega arith;
  few = few_lines c.args.seed 0 c.new-lines.result (c.new-lines.ensures ∙ sym (no_rounds c.args.seed));
}

pub loop-place-preserved : goal.loop-place-preserved
loop-place-preserved c =
    let number = c.next_number-number.ensures.value ∙ number_more c.args.seed c.loop-place.place c.loop-place.number c.loop-place.invariant.number in
    let lines = c.in_ok-put_round.ensures ∙ rounds_more c.args.seed c.loop-place.place c.next_number-number.result c.loop-place.lines c.loop-place.invariant.lines number in
    record {
      lines = lines;
      number = number;
      small = c.next_number-number.ensures.small;
      few = few_lines c.args.seed (c.loop-place.place + 1) c.put_round.new.lines lines;
    }
