use Rattle.std.proofs.Common.{List, ap, ◌∙◌}
use Rattle.up_num.specs.declared.pages.PageNo.{PageNo}
use Rattle.up_model.specs.declared.entry.Entry.{Entry}
use Rattle.up_model.specs.declared.entry.Reply.TheVariants.{Pages}
use Rattle.up_reclaim.proofs.EachPage.{evict_listed, evict_bare}
use Rattle.up_reclaim.proofs.evicting.evict_pages.Goals as goal

pub evict-requires-clause-goes : goal.evict-requires-clause-goes
evict-requires-clause-goes c = λ p listed. evict_listed c.args.object.birth c.entry-entry.result c.args.object.journal c.args.evicting.limit c.args.evicting.max c.args.pages p
    (ap (λ (e : Entry). e.call) c.entry-entry.ensures ∙ c.call.ensures)
    (ap (λ (e : Entry). e.reply) c.entry-entry.ensures ∙ ap (λ (ps : List PageNo). Pages ps) c.in-Ok.ensures) listed

pub evict-requires-clause-bare : goal.evict-requires-clause-bare
evict-requires-clause-bare c = λ p listed. evict_bare c.args.object.birth c.args.object.journal c.args.evicting.by.who c.args.evicting.by.epoch c.args.evicting.limit c.args.evicting.max c.args.pages p
    c.is_legal.ensures c.requires listed
