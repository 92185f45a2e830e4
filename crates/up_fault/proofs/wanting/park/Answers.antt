use Rattle.up_model.specs.Changes.{Parks}
use Rattle.up_object.specs.Asks.{access_of}
use Rattle.up_fault.proofs.OnePageEnds.{parked_places}
use Rattle.up_fault.proofs.wanting.park.Goals as goal

pub close-requires-clause-places : goal.close-requires-clause-places
close-requires-clause-places c =
    let v = c.args.changing in
    let parks : Parks v.birth v.entry v.journal (access_of c.args.piece) (record { kind = c.args.wanted.kind; first = c.args.wanted.range.first; count = c.args.wanted.range.count })
    = record { blocked = c.requires.blocked; attempted = c.requires.attempted; wanted = c.requires.wants.asks; attached = c.requires.attached } in
    rw (c.park.ensures, c.first_of-first.ensures, c.end_of-end.ensures.value)
    (parked_places v.birth v.journal v.entry (access_of c.args.piece) (record { kind = c.args.wanted.kind; first = c.args.wanted.range.first; count = c.args.wanted.range.count }) _ parks c.requires.none)
