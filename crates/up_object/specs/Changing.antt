use Rattle.up_object.specs.Change.{ChangeStandsFor}
use Rattle.up_object.specs.declared.changing.Changing.TheInside.{Inside}

-- the parts of an object in the middle of a call
abbrev pub ChangeStands : Inside → Type 0
ChangeStands o = ChangeStandsFor o.banks o.pages o.marks o.brings o.given o.back
    (record { queue = o.queues; asks = o.asks; tally = o.tally; numbers = o.numbers; newest = o.newest; leaves = o.leaves; spare = o.log.spare })
    o.birth o.entry o.log.entries (record { first = o.first; mark = o.mark; limit = o.limit; asks = o.asks_done; spent = o.spent_done; tally = o.tally_done; size = o.size_done })
