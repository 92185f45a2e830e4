use Rattle.std.proofs.Common.{List, ap, ◌∙◌}
use Rattle.up_calls.specs.Calls.{first_call}
use Rattle.up_calls.specs.declared.kinds.CallKind.{CallKind}
use Rattle.up_calls.proofs.calls.find_no_end.Goals as goal

pub returns : goal.returns
returns c = c.find.ensures ∙ ap (λ (kinds : List CallKind). first_call kinds c.args.words.now) c.as_slice.ensures
