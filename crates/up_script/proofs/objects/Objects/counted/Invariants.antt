use Rattle.std.proofs.Common.{◌≡◌, true, [], length}
use Rattle.std.specs.List.{fold, list_all}
use Rattle.up_script.specs.Sound.{is_fair_object, is_few}
use Rattle.up_script.specs.Objects.{count_step}
use Rattle.up_script.proofs.objects.Objects.counted.Given as goal

abbrev pub invariant-loop-line : goal.invariant-loop-line
invariant-loop-line l = record {
  told : l.made ≡ fold (count_step l.actors) [] l.yielded;
  few : list_all is_few l.made ≡ true;
  fair : list_all is_fair_object l.made ≡ true;
  long : length l.made ≡ length l.yielded;
}
