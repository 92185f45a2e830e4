use Rattle.std.proofs.Common.{◌∙◌, ap, false, None}
use Rattle.up_model.specs.declared.entry.Call.TheVariants as calls
use Rattle.up_script.specs.declared.script.Action.TheVariants as actions
use Rattle.up_stage.specs.Rounds.{by_pager, all_pages}
use Rattle.up_stage.proofs.GeneratedRounds.{put_two, on_ok}
use Rattle.up_stage.proofs.making.put_writeback.Goals as goal

pub returns : goal.returns
returns c =
    let begins = c.act.ensures ∙ ap (λ range. actions.Act 0 (calls.Begin range false)) c.all_pages.ensures in
    let ends = c.act-2.ensures ∙ ap (λ range. actions.Act 0 (calls.End range None)) c.all_pages-2.ensures in
    on_ok c.put_line-2.result (put_two _ _ _ (by_pager (calls.Begin all_pages false)) (by_pager (calls.End all_pages None)) _ _ begins ends c.in_ok-put_line.ensures) c.put_line-2.ensures
