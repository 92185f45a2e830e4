-- An actor's fields as what contracts see of it.
use Rattle.std.specs.Prelude.{ℕ, List}
use Rattle.up_script.specs.declared.script.Kind.{Kind}
use Rattle.up_worker.specs.Acting.{Acting}
use Rattle.up_worker.specs.declared.course.Doing.{Doing}
use Rattle.up_worker.specs.declared.wish.Wanted.{Wanted}
use Rattle.up_worker.specs.declared.wishing.Place.{Place}

abbrev pub acting_of : ℕ → Kind → List ℕ → List ℕ → Doing → Place → Wanted → Acting
acting_of who kind objects left doing at wants =
    record { who = who; kind = kind; objects = objects; left = left; doing = doing; settled = at.settled; ticket = at.ticket; wants = wants }
