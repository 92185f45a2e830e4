use Rattle.std.proofs.Common.{◌∙◌}
use Rattle.up_model.specs.Deeds.{named}
use Rattle.up_model.specs.declared.entry.Call.TheVariants.{End}
use Rattle.up_clean.specs.Ends.{goes_at_end}
use Rattle.up_clean.proofs.Pages.{goes_is}
use Rattle.up_clean.proofs.ending.is_emptied.Goals as goal

pub returns : goal.returns
returns c = c.goes.ensures ∙ (λ i. goes_at_end (c.is_ended.ensures i) (c.look.ensures i)) ∙ goes_is _ _ (named c.args.object.now.birth (End c.args.range c.args.of)) c.args.page
