-- Bytes are as many blocks as they have times 4,096 bytes.
use Rattle.std.proofs.Common.{◌≡◌, ℕ, zero, suc, ◌+◌, ◌*◌, ◌/◌, List, [], ◌∷◌, length, slice_range}
use Rattle.std.proofs.Common.{refl, arith, length-append}
use Rattle.up_disk.specs.Splits.{first_blocks, blocks_of}

first_count : (n : ℕ) (bytes : List ℕ) → length (first_blocks n bytes) ≡ n
first_count zero bytes = refl
first_count (suc n) bytes =
    let next = slice_range bytes (4096 * n) (4096 * n + 4096) in
    omega (arith, length-append (first_blocks n bytes) (next ∷ []), first_count n bytes)

pub blocks_count : (bytes : List ℕ) → length (blocks_of bytes) ≡ length bytes / 4096
blocks_count bytes = first_count (length bytes / 4096) bytes
