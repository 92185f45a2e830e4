use Rattle.std.proofs.Common.{rules, tests, sym, ◌∙◌, Bool, List, ℕ}
use Rattle.std.specs.Str.{bytes_eq}
use Rattle.std.proofs.lemmas.Iterator.{YieldsList-from_slice}
use Rattle.std.proofs.lemmas.Iterator.Search.{position_from_yields_List}
use Rattle.up_script.specs.declared.script.ActorLine.{ActorLine}
use Rattle.up_script.proofs.actors.find_in.Goals as goal

abbrev is_named : List ℕ → ActorLine → Bool
is_named name actor = bytes_eq actor.name name

pub returns-in-None-clause-found : goal.returns-in-None-clause-found
returns-in-None-clause-found c =
    sym c.in-None.is ∙ position_from_yields_List (is_named c.args.name.now) _ _ c.position.result c.position.ensures.ran (YieldsList-from_slice c.args.actors.now cc) (λ x b q k. search (rules, tests))

pub returns-in-Some-clause-found : goal.returns-in-Some-clause-found
returns-in-Some-clause-found c =
    sym c.in-Some.is ∙ position_from_yields_List (is_named c.args.name.now) _ _ c.position.result c.position.ensures.ran (YieldsList-from_slice c.args.actors.now cc) (λ x b q k. search (rules, tests))
