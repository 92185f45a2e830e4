use Rattle.up_object.specs.Stands.{StandsFor}
use Rattle.up_object.specs.declared.object.Object.TheInside.{Inside}

-- an object's parts stand for its journal
abbrev pub Stands : Inside → Type 0
Stands o = StandsFor o.banks o.pages o.marks o.queues o.asks o.tally o.numbers o.newest o.leaves o.log.spare o.birth o.log.entries
