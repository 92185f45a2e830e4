-- What is counted in a journal.
use Rattle.std.specs.Prelude.{ℕ, ◌%◌, ◌&&◌, Bool, true, false, List, [], ◌∷◌, length}
use Rattle.std.specs.List.{count_by, sum_by}
use Rattle.up_model.specs.declared.entry.Call.{Call}
use Rattle.up_model.specs.declared.entry.Call.TheVariants.{Write}
use Rattle.up_model.specs.declared.entry.Entry.{Entry}
use Rattle.up_model.specs.declared.entry.Reply.{Reply}
use Rattle.up_model.specs.declared.entry.Reply.TheVariants.{Bytes, Done, Took, Pages}
use Rattle.up_stage.specs.declared.summing.Summary.{Summary}

abbrev pub gives_bytes : Reply → Bool
gives_bytes (Bytes bytes) = true
gives_bytes _ = false

abbrev pub is_write : Call → Bool
is_write (Write off bytes last brought) = true
is_write _ = false

abbrev pub is_done : Reply → Bool
is_done Done = true
is_done _ = false

-- a write that was done
abbrev pub is_write_done : Entry → Bool
is_write_done entry = is_write entry.call && is_done entry.reply

-- how many pages a supply took, and how many an evict made absent
abbrev pub pages_taken : Reply → ℕ
pages_taken (Took pages woke) = pages
pages_taken _ = 0

abbrev pub pages_evicted : Reply → ℕ
pages_evicted (Pages pages) = length pages
pages_evicted _ = 0

-- the first byte that a reply gives
abbrev pub first_of : List ℕ → ℕ
first_of [] = 0
first_of (byte ∷ bytes) = byte

abbrev pub first_byte : Reply → ℕ
first_byte (Bytes bytes) = first_of bytes
first_byte _ = 0

abbrev pub summary_of : List Entry → Summary
summary_of entries = record {
  entries = length entries;
  reads = count_by (λ entry. gives_bytes entry.reply) entries;
  writes = count_by is_write_done entries;
  took = sum_by (λ entry. pages_taken entry.reply) entries;
  evicted = sum_by (λ entry. pages_evicted entry.reply) entries;
  sum = sum_by (λ entry. first_byte entry.reply) entries % 4294967296;
}
