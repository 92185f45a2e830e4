use Rattle.std.proofs.Common.{◌≡◌, ◌+◌, Bool, true, false, sym, ap, ◌∙◌, subst}
use Rattle.up_num.specs.Span.{Span}
use Rattle.up_num.specs.Pages.{page_number}
use Rattle.up_model.specs.declared.entry.Call.TheVariants as calls
use Rattle.up_model.specs.declared.entry.Told.TheVariants as told
use Rattle.up_object.specs.Whole.{after}
use Rattle.up_site.specs.Sited.{Sited}
use Rattle.up_site.specs.Standing.{telling, RoseIf, LeavesDated}
use Rattle.up_site.specs.Places.{IsCopied}
use Rattle.up_site.proofs.Numbered.{copied_block, copied_long}
use Rattle.up_site.proofs.Storing.{next_stored, next_failed, next_unstored, within_store}
use Rattle.up_site.proofs.imaged.Imaged.store_page.Goals as goal

pub write_next-ok-requires-clause-long : goal.write_next-ok-requires-clause-long
write_next-ok-requires-clause-long g c =
    let copied : IsCopied c.self.inside.tours.items c.args.by.who c.args.range c.args.number c.args.done =
    subst (λ (v : Sited g.row.D.Denot). IsCopied v.tours c.args.by.who c.args.range c.args.number
    c.args.done) (sym c.self.view_is) c.requires.copied in
    copied_long (telling g.D.Disk.tells g.D.Disk.count g.D.Disk.blocks g.D.Disk.faults g.D.Disk.lasts
    g.D.Disk.time g.D.Disk.leaves) c.self.inside.object.birth c.self.inside.object.journal
    c.self.inside.start.value c.self.inside.disk c.self.inside.tours.items c.self.invariant
    c.args.by.who c.args.range c.args.number c.args.done copied c.requires.less

pub write_next-ok-requires-clause-block : goal.write_next-ok-requires-clause-block
write_next-ok-requires-clause-block g c =
    let copied : IsCopied c.self.inside.tours.items c.args.by.who c.args.range c.args.number c.args.done =
    subst (λ (v : Sited g.row.D.Denot). IsCopied v.tours c.args.by.who c.args.range c.args.number
    c.args.done) (sym c.self.view_is) c.requires.copied in
    copied_block (telling g.D.Disk.tells g.D.Disk.count g.D.Disk.blocks g.D.Disk.faults g.D.Disk.lasts
    g.D.Disk.time g.D.Disk.leaves) c.self.inside.object.birth c.self.inside.object.journal
    c.self.inside.start.value c.self.inside.disk c.self.inside.tours.items c.self.invariant
    c.args.by.who c.args.range c.args.number c.args.done copied c.requires.less

-- memory was wanted behind the write
pub invariant_of-self : goal.invariant_of-self
invariant_of-self g c =
    let copied : IsCopied c.self.inside.tours.items c.args.by.who c.args.range c.args.number c.args.done =
    subst (λ (v : Sited g.row.D.Denot). IsCopied v.tours c.args.by.who c.args.range c.args.number
    c.args.done) (sym c.self.view_is) c.requires.copied in
    rw (c.in_err-stepped.ensures.same) (next_unstored (telling g.D.Disk.tells g.D.Disk.count
    g.D.Disk.blocks g.D.Disk.faults g.D.Disk.lasts g.D.Disk.time g.D.Disk.leaves)
    c.self.inside.object.birth c.self.inside.object.journal c.self.inside.start.value
    c.self.inside.disk c.write_next-ok.new.disk c.self.inside.tours.items c.self.invariant
    (g.met.D.Disk.whole c.self.inside.disk) c.args.by.who c.args.range c.args.number c.args.done copied
    c.requires.less c.write_next-ok.ensures.count c.write_next-ok.ensures.failed
    c.write_next-ok.ensures.later c.write_next-ok.ensures.left)

pub invariant_of-self-then-not-ok : goal.invariant_of-self-then-not-ok
invariant_of-self-then-not-ok g c =
    let copied : IsCopied c.self.inside.tours.items c.args.by.who c.args.range c.args.number c.args.done =
    subst (λ (v : Sited g.row.D.Denot). IsCopied v.tours c.args.by.who c.args.range c.args.number
    c.args.done) (sym c.self.view_is) c.requires.copied in
    let object : c.tell.new.object ≡ after c.self.inside.object c.args.by.who c.args.by.epoch
    (calls.Tell (told.Stored (page_number (c.args.range.first + c.args.done)) false)) =
    c.in_ok-stepped.ensures.object
    ∙ ap (λ (s : Span). after c.self.inside.object c.args.by.who c.args.by.epoch
    (calls.Tell (told.Stored (page_number (s.first + c.args.done)) c.write_next-ok.result))) c.range.view_is
    ∙ ap (λ (b : Bool). after c.self.inside.object c.args.by.who c.args.by.epoch
    (calls.Tell (told.Stored (page_number (c.args.range.first + c.args.done)) b))) c.if-not-ok.true in
    let rose : RoseIf false (g.D.Disk.faults c.self.inside.disk) (g.D.Disk.faults c.write_next-ok.new.disk) =
    subst (λ (b : Bool). RoseIf b (g.D.Disk.faults c.self.inside.disk) (g.D.Disk.faults
    c.write_next-ok.new.disk)) c.if-not-ok.true c.write_next-ok.ensures.rose in
    rw (object, c.take_out.ensures) (next_failed (telling g.D.Disk.tells g.D.Disk.count g.D.Disk.blocks
    g.D.Disk.faults g.D.Disk.lasts g.D.Disk.time g.D.Disk.leaves) c.self.inside.object.birth
    c.self.inside.object.journal c.self.inside.start.value c.self.inside.disk c.write_next-ok.new.disk
    c.self.inside.tours.items c.self.invariant
    (g.met.D.Disk.whole c.self.inside.disk) c.args.by.who c.args.by.epoch c.args.range c.args.number
    c.args.done copied c.requires.less c.write_next-ok.ensures.count c.write_next-ok.ensures.failed
    rose c.write_next-ok.ensures.left)

pub invariant_of-self-2 : goal.invariant_of-self-2
invariant_of-self-2 g c =
    let copied : IsCopied c.self.inside.tours.items c.args.by.who c.args.range c.args.number c.args.done =
    subst (λ (v : Sited g.row.D.Denot). IsCopied v.tours c.args.by.who c.args.range c.args.number
    c.args.done) (sym c.self.view_is) c.requires.copied in
    let object : c.tell.new.object ≡ after c.self.inside.object c.args.by.who c.args.by.epoch
    (calls.Tell (told.Stored (page_number (c.args.range.first + c.args.done)) true)) =
    c.in_ok-stepped.ensures.object
    ∙ ap (λ (s : Span). after c.self.inside.object c.args.by.who c.args.by.epoch
    (calls.Tell (told.Stored (page_number (s.first + c.args.done)) c.write_next-ok.result))) c.range.view_is
    ∙ ap (λ (b : Bool). after c.self.inside.object c.args.by.who c.args.by.epoch
    (calls.Tell (told.Stored (page_number (c.args.range.first + c.args.done)) b))) c.if-not-ok.false in
    rw (object, c.move_on.ensures copied.bytes copied.stage) (next_stored (telling g.D.Disk.tells
    g.D.Disk.count g.D.Disk.blocks g.D.Disk.faults g.D.Disk.lasts g.D.Disk.time g.D.Disk.leaves)
    c.self.inside.object.birth c.self.inside.object.journal c.self.inside.start.value
    c.self.inside.disk c.write_next-ok.new.disk c.self.inside.tours.items c.self.invariant
    (g.met.D.Disk.whole c.self.inside.disk) c.args.by.who c.args.by.epoch c.args.range c.args.number
    c.args.done copied c.requires.less c.write_next-ok.ensures.count
    (λ tells. c.write_next-ok.ensures.puts tells c.if-not-ok.false) c.write_next-ok.ensures.later
    c.write_next-ok.ensures.left)

pub returns-in_err-stepped-clause-within : goal.returns-in_err-stepped-clause-within
returns-in_err-stepped-clause-within g c =
    let copied : IsCopied c.self.inside.tours.items c.args.by.who c.args.range c.args.number c.args.done =
    subst (λ (v : Sited g.row.D.Denot). IsCopied v.tours c.args.by.who c.args.range c.args.number
    c.args.done) (sym c.self.view_is) c.requires.copied in
    subst (λ (v : Sited g.row.D.Denot). LeavesDated (telling g.D.Disk.tells g.D.Disk.count g.D.Disk.blocks
    g.D.Disk.faults g.D.Disk.lasts g.D.Disk.time g.D.Disk.leaves)
    v.whole.birth v.whole.journal v.start c.write_next-ok.new.disk (g.D.Disk.time v.disk)) c.self.view_is
    (within_store (telling g.D.Disk.tells g.D.Disk.count g.D.Disk.blocks g.D.Disk.faults g.D.Disk.lasts
    g.D.Disk.time g.D.Disk.leaves) c.self.inside.object.birth c.self.inside.object.journal
    c.self.inside.start.value c.self.inside.disk c.write_next-ok.new.disk c.self.inside.tours.items
    c.self.invariant
    c.args.by.who c.args.range c.args.number c.args.done copied c.requires.less c.write_next-ok.ensures.left)

pub returns-then-not-ok-clause-within : goal.returns-then-not-ok-clause-within
returns-then-not-ok-clause-within g c =
    let copied : IsCopied c.self.inside.tours.items c.args.by.who c.args.range c.args.number c.args.done =
    subst (λ (v : Sited g.row.D.Denot). IsCopied v.tours c.args.by.who c.args.range c.args.number
    c.args.done) (sym c.self.view_is) c.requires.copied in
    subst (λ (v : Sited g.row.D.Denot). LeavesDated (telling g.D.Disk.tells g.D.Disk.count g.D.Disk.blocks
    g.D.Disk.faults g.D.Disk.lasts g.D.Disk.time g.D.Disk.leaves)
    v.whole.birth v.whole.journal v.start c.write_next-ok.new.disk (g.D.Disk.time v.disk)) c.self.view_is
    (within_store (telling g.D.Disk.tells g.D.Disk.count g.D.Disk.blocks g.D.Disk.faults g.D.Disk.lasts
    g.D.Disk.time g.D.Disk.leaves) c.self.inside.object.birth c.self.inside.object.journal
    c.self.inside.start.value c.self.inside.disk c.write_next-ok.new.disk c.self.inside.tours.items
    c.self.invariant
    c.args.by.who c.args.range c.args.number c.args.done copied c.requires.less c.write_next-ok.ensures.left)

pub returns-clause-within : goal.returns-clause-within
returns-clause-within g c =
    let copied : IsCopied c.self.inside.tours.items c.args.by.who c.args.range c.args.number c.args.done =
    subst (λ (v : Sited g.row.D.Denot). IsCopied v.tours c.args.by.who c.args.range c.args.number
    c.args.done) (sym c.self.view_is) c.requires.copied in
    subst (λ (v : Sited g.row.D.Denot). LeavesDated (telling g.D.Disk.tells g.D.Disk.count g.D.Disk.blocks
    g.D.Disk.faults g.D.Disk.lasts g.D.Disk.time g.D.Disk.leaves)
    v.whole.birth v.whole.journal v.start c.write_next-ok.new.disk (g.D.Disk.time v.disk)) c.self.view_is
    (within_store (telling g.D.Disk.tells g.D.Disk.count g.D.Disk.blocks g.D.Disk.faults g.D.Disk.lasts
    g.D.Disk.time g.D.Disk.leaves) c.self.inside.object.birth c.self.inside.object.journal
    c.self.inside.start.value c.self.inside.disk c.write_next-ok.new.disk c.self.inside.tours.items
    c.self.invariant
    c.args.by.who c.args.range c.args.number c.args.done copied c.requires.less c.write_next-ok.ensures.left)
