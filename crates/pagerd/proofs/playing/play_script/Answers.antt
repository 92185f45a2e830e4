use Rattle.std.proofs.Common.{◌≡◌, rules}
use Rattle.up_stage.proofs.FirstAndLast.{born_fair}
use Rattle.pagerd.proofs.playing.play_script.Goals as goal

pub new-requires-clause-fair : goal.new-requires-clause-fair
new-requires-clause-fair c =
    let same : c.as_slice-2.result.now ≡ c.in_ok-births.births.items = search rules in
    rw same (rw c.in_ok-births.ensures (rw c.as_slice.ensures (born_fair c.args.script.now c.requires.sound)))
