use Rattle.std.proofs.Common.{rules, tests, ◌+◌, ◌∙◌, sym, ℕ, Bool, nat_eq}
use Rattle.std.proofs.lemmas.Iterator.{YieldsList-from_slice}
use Rattle.std.proofs.lemmas.Iterator.Search.{position_from_yields_List}
use Rattle.std.proofs.lemmas.List.{take_rest}
use Rattle.up_words.proofs.Fronts.{split_whole, split_front}
use Rattle.up_words.proofs.words.front.Goals as goal

abbrev is_newline : ℕ → Bool
is_newline byte = nat_eq byte 10

pub returns-in-None-clause-lines : goal.returns-in-None-clause-lines
returns-in-None-clause-lines c =
    split_whole is_newline c.args.text.now 0 (sym c.in-None.is ∙ position_from_yields_List is_newline _ _ c.position.result c.position.ensures.ran (YieldsList-from_slice c.args.text.now cc) (λ x b q k. search (rules, tests)))

pub returns-in-Some-clause-lines : goal.returns-in-Some-clause-lines
returns-in-Some-clause-lines c =
    rw (take_rest c.args.text.now (c.in-Some.at + 1)) (split_front is_newline c.args.text.now 0 c.in-Some.at (sym c.in-Some.is ∙ position_from_yields_List is_newline _ _ c.position.result c.position.ensures.ran (YieldsList-from_slice c.args.text.now cc) (λ x b q k. search (rules, tests))))
