-- Byte lists in a text: runs of one byte each, as 61*3+62*1.
use Rattle.std.specs.Prelude.{ℕ, ◌+◌, ◌-◌, ◌*◌, ◌/◌, ◌%◌, ◌==◌, ◌&&◌, ◌++◌, cond, not, min, List, [], ◌∷◌, Option, Some, None, Result, Ok, drop, get_or, length, nat_le, nat_lt, replicate, decimal, codes}
use Rattle.std.specs.List.{flat_map}
use Rattle.up_words.specs.ReadSteps.{◌>>=◌, check, or_why, each}
use Rattle.up_words.specs.Words.{split}
use Rattle.up_words.specs.Numbers.{is_digit, number_up_to}
use Rattle.up_words.specs.declared.fault.Why.{Why}
use Rattle.up_words.specs.declared.fault.Why.TheVariants as why
use Rattle.up_words.specs.declared.runs.ByteRun.{ByteRun}
use Rattle.up_words.specs.declared.runs.ByteRuns.{ByteRuns}

-- one more byte than any text may spell: longer lists aren't told apart
abbrev pub too_many : ℕ
too_many = 268435457

-- the value of a hexadecimal digit in lower case
abbrev pub hex_value : ℕ → Option ℕ
hex_value byte =
    cond (is_digit byte) (Some (byte - 48))
    (cond (nat_le 97 byte && nat_le byte 102) (Some (byte - 97 + 10)) None)

-- two hexadecimal digits, a star, and how often the byte stands: at least once
abbrev pub run_in : List ℕ → Result ByteRun Why
run_in piece = do
  long ← check why.Bytes (nat_le 3 (length piece))
  high ← or_why why.Bytes (hex_value (get_or piece 0 0))
  low ← or_why why.Bytes (hex_value (get_or piece 1 0))
  star ← check why.Bytes (get_or piece 2 0 == 42)
  count ← or_why why.Bytes (number_up_to too_many (drop 3 piece))
  some ← check why.Bytes (nat_lt 0 count)
  Ok (record { byte = high * 16 + low; count = count })

-- one run more: its byte isn't that of the run before it
abbrev pub run_step : ByteRuns → List ℕ → Result ByteRuns Why
run_step runs piece = do
  run ← run_in piece
  other ← check why.Bytes (not (run.byte == runs.last))
  Ok (record { found = runs.found ++ run ∷ []; last = run.byte; total = min (runs.total + run.count) too_many })

-- before the first run
abbrev pub no_runs : ByteRuns
no_runs = record { found = []; last = 256; total = 0 }

-- the runs that a word spells
abbrev pub runs_in : List ℕ → Result ByteRuns Why
runs_in word = each run_step no_runs (split 43 word)

-- the bytes of all runs
abbrev pub spread : List ByteRun → List ℕ
spread runs = flat_map (λ run. replicate run.count run.byte) runs

-- a field of a line: so many bytes
abbrev pub bytes_between : ℕ → ℕ → List ℕ → Result (List ℕ) Why
bytes_between low high word = do
  runs ← runs_in word
  fits ← check why.Bytes (nat_le low runs.total && nat_le runs.total high)
  Ok (spread runs.found)

-- a lower-case hexadecimal digit
abbrev pub hex : ℕ → ℕ
hex digit = cond (nat_lt digit 10) (48 + digit) (87 + digit)

-- n times the byte b, as 61*3
abbrev pub run_text : ℕ → ℕ → List ℕ
run_text b n = hex (b / 16) ∷ hex (b % 16) ∷ codes "*" ++ decimal n

-- the runs of some bytes, joined by +, where the byte b stood n times before them
unfoldable pub text_from : ℕ → ℕ → List ℕ → List ℕ
text_from b n [] = run_text b n
text_from b n (c ∷ cs) = cond (c == b) (text_from b (n + 1) cs) (run_text b n ++ codes "+" ++ text_from c 1 cs)

-- bytes as their runs, each as long as it can be; nothing for no bytes
abbrev pub bytes_text : List ℕ → List ℕ
bytes_text [] = []
bytes_text (b ∷ bs) = text_from b 1 bs
