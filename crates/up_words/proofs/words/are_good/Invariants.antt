use Rattle.std.proofs.Common.{◌≡◌, true, take}
use Rattle.std.specs.List.{list_all}
use Rattle.up_words.specs.Words.{is_word}
use Rattle.up_words.proofs.words.are_good.Given as goal

abbrev pub invariant-loop-place : goal.invariant-loop-place
invariant-loop-place l = list_all is_word (take l.place l.words) ≡ true
