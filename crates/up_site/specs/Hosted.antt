-- What contracts see of a site: its object, and all of it over a disk where it has one; and which calls
-- users and others may make.
use Rattle.std.specs.Prelude.{Bool, true, false, not, Option, Some, None, option_map}
use Rattle.up_model.specs.declared.entry.Call.{Call}
use Rattle.up_model.specs.declared.entry.Call.TheVariants.{Supply, Fail, Dirty, Begin, End, Resize, Packet}
use Rattle.up_model.specs.declared.entry.Call.TheVariants.{Leave, Tell}
use Rattle.up_object.specs.Whole.{Whole}
use Rattle.up_site.specs.Sited.{Sited}
use Rattle.up_site.specs.declared.hosting.Hosting.{Hosting}
use Rattle.up_site.specs.declared.hosting.Hosting.TheVariants.{Plain, OverDisk}

pub record Hosted (D : Type 0) : Type 0 where
  pub whole : Whole
  pub image : Option (Sited D)

abbrev pub seen_in : {D : Type 0} → Hosting D → Hosted D
seen_in (Plain object) = record { whole = object; image = None }
seen_in (OverDisk imaged) = record { whole = imaged.whole; image = Some imaged }

-- the disk now, and as it was at first
abbrev pub disk_of : {D : Type 0} → Option (Sited D) → Option D
disk_of image = option_map (λ s. s.disk) image

abbrev pub start_of : {D : Type 0} → Option (Sited D) → Option D
start_of image = option_map (λ s. s.start) image

-- the site with another object
abbrev pub image_with : {D : Type 0} → Option (Sited D) → Whole → Option (Sited D)
image_with None whole = None
image_with (Some image) whole = Some (record image { whole = whole })

abbrev pub with_whole : {D : Type 0} → Hosted D → Whole → Hosted D
with_whole site whole = record { whole = whole; image = image_with site.image whole }

-- a call but resize, leave and what is told; of an object with an image only the sample pager's steps make
-- a pager's calls
abbrev pub may_act : Bool → Call → Bool
may_act image (Resize pages) = false
may_act image (Leave role) = false
may_act image (Tell told) = false
may_act image (Supply range bytes brought) = not image
may_act image (Fail range code) = not image
may_act image (Dirty range brought) = not image
may_act image (Begin range zero) = not image
may_act image (End range of) = not image
may_act image Packet = not image
may_act image _ = true
