use Rattle.std.proofs.Common.{ap, sym, ◌∙◌, arith}
use Rattle.up_model.specs.Looks.{is_present}
use Rattle.up_object.specs.Parts.{shown}
use Rattle.up_supply.proofs.Filled.{here_fills, here_keeps, piece_byte, present_unless}
use Rattle.up_supply.proofs.supplying.fill_one.Goals as goal

pub fill-requires-clause-fills : goal.fill-requires-clause-fills
fill-requires-clause-fills c = here_fills c.args.changing.now c.args.bytes.now c.args.count c.args.place _ c.requires.filling c.requires.within (sym c.look.ensures ∙ ap shown c.in-Absent.is)
    (λ i lt. piece_byte c.args.bytes.now c.args.place i lt)

pub keep-requires : goal.keep-requires
keep-requires c =
    let at = c.requires.filling.at in
    let ends = c.requires.filling.ends in
    let within = c.requires.within in record {
      left = omega arith;
      same = here_keeps c.args.changing.now c.args.bytes.now c.args.count c.args.place c.requires.filling c.requires.within
          (ap is_present (sym c.look.ensures) ∙ present_unless c.look.result c.in_default.not-Absent);
    }
