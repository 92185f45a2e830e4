use Rattle.std.proofs.Common.{◌≡◌, ◌-◌, cond, length, ap, sym, ◌∙◌, arith}
use Rattle.std.specs.Prelude.{slice_index_or}
use Rattle.up_model.specs.Reply.{loaned_firm}
use Rattle.up_object.specs.Change.{Change}
use Rattle.up_object.proofs.RangeCalls.{further_none, used_further, one_left, rest_left}
use Rattle.up_reclaim.specs.Loans.{is_moved}
use Rattle.up_reclaim.specs.declared.loans.Fate.TheVariants.{Stays}
use Rattle.up_reclaim.proofs.Vacates.{meets_at, firm_at, enough_given}
use Rattle.up_reclaim.proofs.vacating.vacate_each.Goals as goal

pub loop-place-init : goal.loop-place-init
loop-place-init c =
    let all : length c.args.fates.now - 0 ≡ length c.args.fates.now = omega arith in record {
      at = further_none c.args.changing.now;
      enough = enough_given c.args.changing.now.birth c.args.changing.now.journal (length c.args.fates.now - 0) c.args.changing.now.given (all ∙ c.requires.sized) c.requires.enough;
    }

pub vacate_one-requires-clause-meets : goal.vacate_one-requires-clause-meets
vacate_one-requires-clause-meets c = rw c.loop-place.invariant.at
    (meets_at _ _ _ c.args.brought c.args.fates.now _ c.loop-place.place _ c.requires.legal c.requires.call c.requires.reply c.requires.first c.requires.ordinary c.requires.sized c.requires.fates c.loop-place-test.true)

pub vacate_one-requires-clause-frame : goal.vacate_one-requires-clause-frame
vacate_one-requires-clause-frame c = λ moved.
    let old = c.args.changing.now in
    one_left (loaned_firm old.birth old.journal) 0 c.loop-place.place (length c.args.fates.now) c.loop-place.changing.given c.loop-place-test.true c.loop-place.invariant.enough
    (firm_at old.birth old.journal c.args.fates.now c.loop-place.place c.requires.sized c.requires.fates c.loop-place-test.true ∙ moved)

pub loop-place-preserved : goal.loop-place-preserved
loop-place-preserved c =
    let old = c.args.changing.now in
    let moves = is_moved (slice_index_or c.args.fates.now c.loop-place.place Stays) in record {
      at = used_further moves old c.loop-place.changing c.vacate_one.new.changing c.loop-place.place c.loop-place.invariant.at c.vacate_one.ensures;
      enough = rest_left (loaned_firm old.birth old.journal) 0 c.loop-place.place (length c.args.fates.now) c.loop-place.changing.given c.vacate_one.new.changing.given c.loop-place-test.true c.loop-place.invariant.enough
          (ap (λ (v : Change). v.given) c.vacate_one.ensures
          ∙ ap (λ b. c.loop-place.changing.given - cond b 1 0) (sym (firm_at old.birth old.journal c.args.fates.now c.loop-place.place c.requires.sized c.requires.fates c.loop-place-test.true)));
    }
