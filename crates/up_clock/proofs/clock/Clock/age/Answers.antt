use Rattle.std.proofs.Common.{◌≢◌, ◌<◌, ◌++◌, ◌∷◌, [], rules, arith, refl, ap, ◌∙◌}
use Rattle.up_clock.specs.Known.{last_age, one_more}
use Rattle.up_clock.proofs.Keeps.{begins, ages, brings, two_finds}
use Rattle.up_clock.proofs.clock.Clock.age.Goals as goal

pub load-found-requires : goal.load-found-requires
load-found-requires c = (search rules, search rules, begins _ _ _)

pub fetch_max-requires : goal.fetch_max-requires
fetch_max-requires c = let began = c.load-found.ensures.2 in let short : c.load-found.result ≢ last_age = c.if-found.false in
    (search rules, search rules, ages _ _ _ _ (brings _ _ _ _ (began.1 short) began.2 short))

pub returns-clause-finds : goal.returns-clause-finds
returns-clause-finds c = let short : c.load-found.result ≢ last_age = c.if-found.false in
    let below : c.load-found.result < last_age = omega arith in
    let both = two_finds _ _ _ _ _ _ _ (c.load-found.ensures.2.1 short) c.fetch_max.ensures.2.0 in
    one_more c.load-found.result c.fetch_max.result refl below (both ∙ ap (λ k. k.finds ++ c.load-found.result ∷ c.fetch_max.result ∷ []) c.seat.view_is)
