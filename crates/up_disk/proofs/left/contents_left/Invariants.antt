use Rattle.std.proofs.Common.{◌≡◌, [], take, reverse, get_or}
use Rattle.up_disk.specs.Platter.{blocks_after, contents_since, oldest_first}
use Rattle.up_disk.proofs.left.contents_left.Given as goal

-- what was followed so far is the first things done
abbrev pub invariant-loop-did : goal.invariant-loop-did
invariant-loop-did l = record {
  content : l.content ≡ get_or (blocks_after l.fn.start.items (reverse (take l.did-index l.fn.done.items))) l.number [];
  left : l.left ≡ oldest_first (contents_since l.fn.start.items (reverse (take l.did-index l.fn.done.items)) l.number);
}
