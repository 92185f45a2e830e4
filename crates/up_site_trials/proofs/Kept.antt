-- The disk of a site has a block for each page that the object may ever have.
use Rattle.std.proofs.Common.{◌≡◌, ◌≤◌, Option, Some, None, IfSome, List, subst, sym}
use Rattle.up_disk.specs.Platter.{Platter}
use Rattle.up_model.specs.declared.entry.Birth.{Birth}
use Rattle.up_model.specs.declared.entry.Entry.{Entry}
use Rattle.up_site.specs.Sited.{Sited}
use Rattle.up_site.specs.Hosted.{disk_of}
use Rattle.up_site.specs.Standing.{Tells, SiteStands, most_pages}

pub room_kept : (disks : Tells Platter) (birth : Birth) (h : List Entry) (image : Option (Sited Platter))
    (disk : Platter) → Some disk ≡ disk_of image →
    IfSome image (λ i. SiteStands disks birth h i.start i.disk i.tours) → most_pages birth ≤ disks.count disk
room_kept disks birth h None disk is stands = absurd cc
room_kept disks birth h (Some i) disk is stands =
    subst (λ (d : Option Platter). IfSome d (λ x. most_pages birth ≤ disks.count x)) (sym is) stands.room
