-- What is looked for among the pages of an object.
use Rattle.std.specs.Prelude.{ℕ, ◌&&◌, Bool, true, false, List}
use Rattle.up_num.specs.declared.answers.AskKind.TheVariants.{Dirty as DirtyAsk}
use Rattle.up_span.specs.Sets.{holds as has}
use Rattle.up_model.specs.Asks.{asked}
use Rattle.up_model.specs.Looks.{PageLook, Missing, Zeros, Framed}
use Rattle.up_model.specs.States.{unclean}
use Rattle.up_model.specs.declared.entry.Birth.{Birth}
use Rattle.up_model.specs.declared.entry.Entry.{Entry}
use Rattle.up_claims.specs.Sited.{any_page, is_wanted, is_free}
use Rattle.up_site.specs.declared.looking.Among.{Among}
use Rattle.up_site.specs.declared.looking.Among.TheVariants.{All, These}
use Rattle.up_site.specs.declared.looking.Sought.{Sought}
use Rattle.up_site.specs.declared.looking.Sought.TheVariants.{Wanted, Trapped, Free, Unclean}

-- the pages that may be written back
abbrev pub among_of : Among → ℕ → Bool
among_of All = any_page
among_of (These set) = has set

-- the test of what is looked for
abbrev pub test_of : Birth → List Entry → Among → Sought → ℕ → Bool
test_of birth h among Wanted = is_wanted birth h
test_of birth h among Trapped = asked birth h DirtyAsk
test_of birth h among Free = is_free birth h (among_of among)
test_of birth h among Unclean = λ p. among_of among p && unclean birth h p

-- the page is zeros without a frame
abbrev pub is_zeros : PageLook → Bool
is_zeros Missing = false
is_zeros (Zeros state) = true
is_zeros (Framed state loan) = false
