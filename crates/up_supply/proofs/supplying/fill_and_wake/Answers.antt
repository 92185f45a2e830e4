use Rattle.std.proofs.Common.{refl, arith}
use Rattle.up_supply.proofs.supplying.fill_and_wake.Goals as goal

pub fill_all-requires-clause-filling : goal.fill_all-requires-clause-filling
fill_all-requires-clause-filling c =
    rw (c.in-Ok-open_asking.ensures.ok, c.entry-entry.ensures, c.call-call.ensures, c.first_of-first.ensures, c.end_of-end.ensures.value, c.count_of.ensures, c.as_slice.ensures, c.in-Ok.ensures)
    (record {
      brought = c.args.supplying.brought;
      first = c.args.supplying.range.first;
      call = refl;
      accepted = refl;
      whole = c.requires.full.whole;
      legal = c.is_legal.ensures;
      fits = c.requires.fits;
      ordinary = refl;
      at = omega arith;
      ends = refl;
    })
