-- What a call of the program takes in, and what it leaves outside.
use Rattle.std.specs.Prelude.{◌≡◌, ℕ, List, Option, String, map, string_bytes}
use Rattle.up_outside.specs.Cause.{Rose}
use Rattle.up_outside.specs.declared.sink.Sink as sinks
use Rattle.up_outside.specs.declared.source.Source as sources

-- an outside before a call and after it, with what it tells and how often it failed
pub record Outside (X Told : Type 0) : Type 0 where
  pub tells : X → Told
  pub faults : X → ℕ
  pub before : X
  pub now : X

abbrev pub told_before : {X Told : Type 0} → Outside X Told → Told
told_before outside = outside.tells outside.before

abbrev pub told_now : {X Told : Type 0} → Outside X Told → Told
told_now outside = outside.tells outside.now

-- its count of faults rose
abbrev pub Failed : {X Told : Type 0} → Outside X Told → Type 0
Failed outside = Rose (outside.faults outside.before) (outside.faults outside.now)

-- its count of faults stands
abbrev pub Stands : {X Told : Type 0} → Outside X Told → Type 0
Stands outside = outside.faults outside.now ≡ outside.faults outside.before

-- the call left it as it was
abbrev pub IsUntouched : {X Told : Type 0} → Outside X Told → Type 0
IsUntouched outside = outside.now ≡ outside.before

-- what a call goes by: its words, and the source. (A shelf would stand beside the source.)
pub record Input (S : Type 0) : Type 0 where
  pub words : List (List ℕ)
  pub source : Outside S (Option (List ℕ))

-- a call: what it goes by, and where it writes
pub record Call (S K : Type 0) : Type 0 where
  pub input : Input S
  pub sink : Outside K (Option (List ℕ))

abbrev pub input_of : {S : Type 0} → sources.Ghosts S → List (List ℕ) → S → S → Input S
input_of source words before now = record {
  words = words;
  source = record { tells = source.left; faults = source.faults; before = before; now = now };
}

abbrev pub call_of : {S K : Type 0} → sources.Ghosts S → sinks.Ghosts K → List (List ℕ) → S → S → K → K →
    Call S K
call_of source sink words source_before source_now sink_before sink_now = record {
  input = input_of source words source_before source_now;
  sink = record { tells = sink.written; faults = sink.faults; before = sink_before; now = sink_now };
}

-- a call with these words, by its source and its sink before it and after it
abbrev pub call : {S K A : Type 0} → sources.Ghosts S → sinks.Ghosts K → List (String A) → S → S → K → K →
    Call S K
call source sink words source_before source_now sink_before sink_now =
    call_of source sink (map string_bytes words) source_before source_now sink_before sink_now
