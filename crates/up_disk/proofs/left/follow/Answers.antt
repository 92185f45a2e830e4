use Rattle.std.proofs.Common.{rules, ◌≡◌, ◌∷◌, [], true, get_or, sym, ◌∙◌, subst}
use Rattle.up_disk.specs.declared.mem.DiskCall.{DiskCall}
use Rattle.up_disk.specs.declared.mem.DiskCall.TheVariants.{Put}
use Rattle.up_disk.specs.Platter.{blocks_after}
use Rattle.up_disk.proofs.WritesAndSyncs.{put_content}
use Rattle.up_disk.proofs.left.follow.Goals as goal

pub returns-then-good-clause-content : goal.returns-then-good-clause-content
returns-then-good-clause-content c start before low same =
    let is : c.args.did.now ≡ Put c.args.number c.as_slice-then-good.result.now true = search rules in
    let filled : c.fill.new.self ≡ c.as_slice-then-good.result.now = search rules in
    subst (λ (d : DiskCall). c.fill.new.self ≡ get_or (blocks_after start (d ∷ before)) c.args.number []) (sym is)
    (filled ∙ sym (put_content start before c.args.number c.as_slice-then-good.result.now low))
