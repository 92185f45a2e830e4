-- What is done for pages that ask to be read or wait for their writeback.
use Rattle.std.specs.Prelude.{◌≡◌, ◌+◌, ◌^◌, ◌<◌, Bool, true, cond, List}
use Rattle.up_num.specs.Pages.{page_number}
use Rattle.up_model.specs.declared.entry.Birth.{Birth}
use Rattle.up_model.specs.declared.entry.Entry.{Entry}
use Rattle.up_claims.specs.Sited.{Deed, Tells, Fetching, or_next, any_page, is_free, is_wanted, begins_at}
use Rattle.up_claims.specs.Sited.{begins_run, fetches, idles}
use Rattle.up_site.specs.declared.picking.Next.{Next}
use Rattle.up_site.specs.declared.picking.Next.TheVariants.{Begin, Fetch, Nothing}

-- a fetch and then a writeback, or a writeback and then a fetch, else nothing
abbrev pub picked_pages : Birth → List Entry → Bool → Deed
picked_pages birth h write_first =
    cond write_first
    (or_next (begins_run birth h any_page) (or_next (fetches birth h) (idles birth h)))
    (or_next (fetches birth h) (or_next (begins_run birth h any_page) (idles birth h)))

abbrev pub next_deed : Birth → List Entry → Next → Deed
next_deed birth h (Begin first) = begins_at birth h any_page first
next_deed birth h (Fetch page) = Tells (Fetching (page_number page))
next_deed birth h Nothing = idles birth h

-- the page may be written back, or is wanted
abbrev pub MayNext : Birth → List Entry → Next → Type 0
MayNext birth h (Begin first) = (is_free birth h any_page first ≡ true) × (first + 1 < 2 ^ 32)
MayNext birth h (Fetch page) = (is_wanted birth h page ≡ true) × (page + 1 < 2 ^ 32)
MayNext birth h Nothing = Unit {0}
