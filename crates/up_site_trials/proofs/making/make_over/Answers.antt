use Rattle.std.proofs.Common.{rules, ◌≡◌, ◌≤◌, Some, length, subst, ℕ}
use Rattle.up_site.specs.Hosted.{disk_of}
use Rattle.up_site.specs.Standing.{most_pages}
use Rattle.up_site_trials.proofs.Kept.{room_kept}
use Rattle.up_site_trials.proofs.making.make_over.Goals as goal

pub returns-in-Some : goal.returns-in-Some
returns-in-Some c =
    let site = c.make_each-made.new.site in
    let is : Some c.in-Some.disk ≡ disk_of site.image = search rules in
    let most : most_pages site.whole.birth ≡ c.most_pages-most.result = search rules in
    subst (λ (n : ℕ). n ≤ length c.in-Some.disk.start) most
    (room_kept _ site.whole.birth site.whole.journal site.image c.in-Some.disk is c.close-object.ensures.stands)
