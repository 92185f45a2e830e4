use Rattle.std.proofs.Common.{◌≡◌, vec_len}
use Rattle.up_disk.proofs.mem.empty_blocks.Given as goal

abbrev pub invariant-loop-place : goal.invariant-loop-place
invariant-loop-place l = vec_len l.blocks ≡ l._place
