use Rattle.std.proofs.Common.{◌∙◌, ap}
use Rattle.up_model.specs.declared.entry.Brought.TheVariants.{Nothing}
use Rattle.up_model.specs.declared.entry.Call.TheVariants as calls
use Rattle.up_script.specs.declared.script.Action.TheVariants as actions
use Rattle.up_stage.proofs.making.supply_page.Goals as goal

pub returns : goal.returns
returns c =
    c.act.ensures
    ∙ ap (λ bytes. actions.Act 0 (calls.Supply (record { first = c.args.page; count = 1 }) bytes Nothing)) (c.from_vec.ensures ∙ c.in_ok-bytes.ensures.items_if_clones_equal (λ y is. is))
