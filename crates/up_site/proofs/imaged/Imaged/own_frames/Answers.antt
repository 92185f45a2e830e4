use Rattle.std.proofs.Common.{sym, subst}
use Rattle.up_bank.specs.declared.kind.FrameKind.TheVariants.{Ordinary}
use Rattle.up_object.proofs.CallEnds.{are_own}
use Rattle.up_object.specs.Parts.{bank_of}
use Rattle.up_object.specs.Change.{AllAre, AllOwn}
use Rattle.up_object.specs.OneCall.{frames_of}
use Rattle.up_site.specs.Sited.{Sited}
use Rattle.up_site.proofs.imaged.Imaged.own_frames.Goals as goal

pub returns : goal.returns
returns g c =
    subst (λ (v : Sited g.row.D.Denot). AllOwn v.whole.banks (frames_of c.args.frames.now)) c.self.view_is
    (are_own c.self.inside.object.banks Ordinary (frames_of c.args.frames.now) c.size.ensures.kinds
    (subst (λ (v : Sited g.row.D.Denot). AllAre (bank_of v.whole.banks Ordinary) (frames_of
    c.args.frames.now)) (sym c.self.view_is) c.requires.own))
