use Rattle.std.proofs.Common.{◌≡◌, ◌/◌, length}
use Rattle.up_disk.specs.Splits.{first_blocks}
use Rattle.up_disk.proofs.splitting.split.Given as goal

abbrev pub invariant-loop-place : goal.invariant-loop-place
invariant-loop-place l = record {
  all : l.count ≡ length l.bytes / 4096;
  made : l.blocks.items ≡ first_blocks l.place l.bytes;
}
