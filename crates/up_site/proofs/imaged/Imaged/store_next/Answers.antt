use Rattle.std.proofs.Common.{rules, ◌≡◌, ℕ, true, sym, ap, ◌∙◌, subst}
use Rattle.up_model.specs.declared.entry.Told.TheVariants as told
use Rattle.up_num.specs.Pages.{page_number}
use Rattle.std.proofs.Common.{◌+◌, nat_lt}
use Rattle.up_num.specs.Span.{Span}
use Rattle.up_claims.specs.Sited.{Storing}
use Rattle.up_site.specs.Stages.{stage_at}
use Rattle.up_site.specs.Due.{went_well, stored_at}
use Rattle.up_site.specs.Standing.{telling, MayBeStored}
use Rattle.up_site.proofs.Choices.{store_well, stored_told}
use Rattle.up_site.proofs.Unmoved.{tell_holds}
use Rattle.up_site.proofs.Replied.{told_none, bare_told}
use Rattle.up_site.proofs.imaged.Imaged.store_next.Goals as goal

pub spend_told-requires : goal.spend_told-requires
spend_told-requires g c = record {
  none = told_none c.args.self.now.whole c.store_page.new.self.whole
      c.in-Ok.ok c.in-Ok.stepped c.args.by.who c.args.by.epoch (Storing (page_number (c.args.range.first +
      c.args.done))) c.in-Ok.ensures.tells (tell_holds c.args.self.now.whole c.args.by.who c.args.by.epoch
      (told.Stored (page_number (c.args.range.first + c.args.done)) c.in-Ok.ok));
}

pub returns-in-Ok : goal.returns-in-Ok
returns-in-Ok g c = record {
  once = search rules;
  bare = bare_told (telling g.D.Disk.tells g.D.Disk.count g.D.Disk.blocks g.D.Disk.faults g.D.Disk.lasts
      g.D.Disk.time g.D.Disk.leaves) c.args.self.now c.store_page.new.self
      c.in-Ok.ok c.in-Ok.stepped c.args.by.who c.args.by.epoch (Storing (page_number (c.args.range.first +
      c.args.done))) c.stored.result c.spend_told.result c.in-Ok.ensures.tells
      (tell_holds c.args.self.now.whole c.args.by.who c.args.by.epoch (told.Stored (page_number
      (c.args.range.first + c.args.done)) c.in-Ok.ok)) c.in-Ok.ensures.rose c.in-Ok.ensures.start
      c.in-Ok.ensures.within (ap
      went_well c.stored.ensures ∙ store_well c.in-Ok.ok _ c.is_detached-detached.result)
      (c.stored.ensures ∙ stored_told c.args.self.now.whole.birth c.args.self.now.whole.journal
      c.args.by.who c.args.range c.args.number c.args.done (page_number (c.args.range.first +
      c.args.done)) c.in-Ok.ok _ c.is_detached-detached.result c.requires.claim (ap (λ (r : Span). nat_lt
      (c.args.done + 1) r.count) c.range.view_is) c.is_detached-detached.ensures) c.spend_told.ensures;
}

pub returns-in-Err : goal.returns-in-Err
returns-in-Err g c =
    let many : stored_at (stage_at c.args.self.now.tours c.args.by.who) ≡ c.args.done =
    ap stored_at c.requires.copied.stage in
    record {
      once = search rules;
      bare = record {
        did = tt;
        disk = tt;
        holds = tt;
        within = c.in-Err.ensures.within;
        start = c.in-Err.ensures.start;
        same = c.in-Err.ensures.tells.err;
        kept = c.in-Err.ensures.kept;
        left = subst (λ (n : ℕ). g.D.Disk.tells ≡ true → MayBeStored (g.D.Disk.blocks c.args.self.now.disk)
            (g.D.Disk.blocks c.store_page.new.self.disk) (c.args.range.first + c.args.done) n
            (stage_at c.args.self.now.tours c.args.by.who)) (sym many) c.in-Err.ensures.unstored;
      };
    }
