-- Who acts on an object, with one less.
use Rattle.std.specs.Prelude.{◌-◌, Bool, cond}
use Rattle.up_object.specs.declared.tally.Tally.{Tally}

-- one user less, or one pager
abbrev pub departed : Bool → Tally → Tally
departed user tally = record tally { users = cond user (tally.users - 1) tally.users; pagers = cond user tally.pagers (tally.pagers - 1) }
