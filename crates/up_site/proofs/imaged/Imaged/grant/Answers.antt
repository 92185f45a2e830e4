use Rattle.std.proofs.Common.{◌≡◌, true, Ok, refl, subst, le_refl}
use Rattle.up_model.specs.Reply.{counts_frames}
use Rattle.up_model.specs.declared.entry.Brought.{Brought}
use Rattle.up_model.specs.declared.entry.Call.TheVariants as calls
use Rattle.up_site.specs.Sited.{Sited}
use Rattle.up_site.specs.Standing.{telling}
use Rattle.up_object.specs.OneCall.{DoesCall, brought_of, frames_of}
use Rattle.up_site.proofs.SiteSteps.{site_quiet, left_still}
use Rattle.up_site.proofs.imaged.Imaged.grant.Goals as goal

pub invariant_of-self-2 : goal.invariant_of-self-2
invariant_of-self-2 g c =
    rw (c.in_ok-stepped.ensures.object) (site_quiet (telling g.D.Disk.tells g.D.Disk.count g.D.Disk.blocks
    g.D.Disk.faults g.D.Disk.lasts g.D.Disk.time g.D.Disk.leaves) c.self.inside.object.birth
    c.self.inside.object.journal c.self.inside.start.value c.self.inside.disk c.self.inside.disk
    c.self.inside.tours.items c.self.invariant c.args.by.who c.args.by.epoch (calls.Dirty c.args.range
    (brought_of c.args.frames)) refl (subst (λ (b : Brought). counts_frames b ≡ true)
    c.brought.ensures.value c.brought.ensures.some) refl (λ tells. refl) (le_refl _)
    (left_still (telling g.D.Disk.tells g.D.Disk.count g.D.Disk.blocks g.D.Disk.faults g.D.Disk.lasts
    g.D.Disk.time g.D.Disk.leaves) (calls.Dirty c.args.range (brought_of c.args.frames))
    c.self.inside.disk refl))

pub returns-clause-steps : goal.returns-clause-steps
returns-clause-steps g c =
    subst (λ (v : Sited g.row.D.Denot). DoesCall v.whole c.dirty.new.object (Ok c.in_ok-stepped.stepped)
    c.args.by.who c.args.by.epoch (calls.Dirty c.args.range (brought_of c.args.frames)) (frames_of
    c.args.frames)) c.self.view_is
    (record {
      ok = c.in_ok-stepped.ensures.object;
      due = c.in_ok-stepped.ensures.reply;
      frames =
          c.in_ok-stepped.ensures.frames;
      own = c.in_ok-stepped.ensures.own;
      err = tt;
      back = tt;
    })
