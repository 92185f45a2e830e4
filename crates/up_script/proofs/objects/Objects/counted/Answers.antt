use Rattle.std.proofs.Common.{sym, ap, suc, ◌∙◌, [], ◌∷◌, List, length}
use Rattle.std.proofs.lemmas.List.Sums.{fold-append}
use Rattle.up_script.specs.Objects.{count_step, with_counts}
use Rattle.up_script.specs.declared.script.ObjectLine.{ObjectLine}
use Rattle.up_script.proofs.Counts.{one_longer}
use Rattle.up_script.proofs.objects.Objects.counted.Goals as goal

pub loop-line-preserved : goal.loop-line-preserved
loop-line-preserved c =
    let line = c.in-Some.line in
    let made = c.loop-line.made in
    let actors = c.args.actors.now in
    record {
      told = c.in_ok-made.ensures.made ∙ ap (λ (o : List ObjectLine). count_step actors o line) c.loop-line.invariant.told ∙ sym (fold-append (count_step actors) [] c.loop-line.yielded (line ∷ []));
      few = c.in_ok-made.ensures.few c.loop-line.invariant.few;
      fair = c.in_ok-made.ensures.fair;
      long = ap length c.in_ok-made.ensures.made ∙ one_longer made (with_counts actors (length made) line) ∙ ap suc c.loop-line.invariant.long ∙ sym (one_longer c.loop-line.yielded line);
    }
