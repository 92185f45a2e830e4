-- The rule of a bank's table, by number of frame.
use Rattle.std.specs.Prelude.{◌≡◌, ◌≢◌, ℕ, ◌+◌, ◌*◌, ◌/◌, ◌%◌, ◌<◌, suc, true, false, List, [], length, slice_index, replicate, Option, Some, None}
use Rattle.std.specs.Int.{bit_at}
use mathlib.Core.Option.{some}
use lib.ListN.{get_elem?}
use Rattle.atomic_table.specs.Table.{State}
use Rattle.up_bank.specs.Bytes.{Given, bytes_of, Extends}
use Rattle.up_bank.specs.Find.{words_of}
use Rattle.up_bank.specs.declared.kind.FrameKind.{FrameKind}
use Rattle.up_bank.specs.declared.view.View.{View}

-- a bank's table, whose slots have bytes or are empty
abbrev pub Vault : Type 0
Vault = State (Option (List ℕ)) View

-- 1 where the frame is at home
abbrev pub home_bit : List ℕ → ℕ → ℕ
home_bit words number = bit_at (slice_index words (number / 64 * 2)) (number % 64)

-- 1 where the frame's slot is there and empty
abbrev pub empty_bit : List ℕ → ℕ → ℕ
empty_bit words number = bit_at (slice_index words (number / 64 * 2 + 1)) (number % 64)

-- the seat j has the frame, which is not at home and is the seat's alone
pub record Has (frames number : ℕ) (words : List ℕ) (owner j : ℕ) (v : View) : Type 0 where
  pub within : number < frames
  pub gone : home_bit words number ≡ 0
  pub mine : owner ≡ j
  pub empty : empty_bit words number ≡ v.empty

-- the seat j never had company, since all others rest; it knows which frames are at home, and all returns
pub record Alone (frames j : ℕ) (v : View) (s : Vault) (gives : List Given) : Type 0 where
  pub others : (i : ℕ) (u : View) → get_elem? s.views i ≡ some u → i ≢ j → u.rests ≡ true
  pub long : length v.home ≡ frames
  pub knows : (number : ℕ) → number < frames → slice_index v.home number ≡ home_bit s.words number
  pub all : v.gives ≡ gives

-- the returns that two seats knew of, which were made one, are older than those that the seat knows of
pub record Met (v : View) : Type 0 where
  pub one : Extends v.one v.gives
  pub other : Extends v.other v.gives

-- the seat j has the one token of a frame, which another seat has, rests with and lent
pub record Lent (number keeper owner : ℕ) (views : List View) (j : ℕ) (v : View) : Type 0 where
  pub mine : keeper ≡ j
  pub rests : v.rests ≡ true
  pub apart : v.has ≢ suc number
  pub lender : View
  pub there : get_elem? views owner ≡ some lender
  pub has : lender.has ≡ suc number
  pub lent : lender.lent ≡ true
  pub waits : lender.rests ≡ true

-- The rule. A frame at home has its slot at home, with the bytes of its last return. Each other frame has one owner, the seat that has its number. An empty slot is at home where its bit is set
pub record Banked (frames : ℕ) (s : Vault) : Type 0 where
  pub owner : ℕ → ℕ
  pub keeper : ℕ → ℕ
  pub gives : List Given
  pub wide : length s.words ≡ words_of frames * 2
  pub slots : length s.homes ≡ frames
  pub home : (number : ℕ) → number < frames → home_bit s.words number ≡ 1 → get_elem? s.homes number ≡ some (some (Some (bytes_of gives number)))
  pub empty : (number : ℕ) → number < frames → empty_bit s.words number ≡ 1 → get_elem? s.homes number ≡ some (some None)
  pub out : (number : ℕ) → number < frames → home_bit s.words number ≡ 0 → (v : View) × (get_elem? s.views (owner number) ≡ some v) × (v.has ≡ suc number)
  pub each : (j : ℕ) (v : View) → get_elem? s.views j ≡ some v → (number : ℕ) → v.has ≡ suc number → Has frames number s.words (owner number) j v
  pub seen : (j : ℕ) (v : View) → get_elem? s.views j ≡ some v → Extends v.gives gives
  pub sole : (j : ℕ) (v : View) → get_elem? s.views j ≡ some v → v.sole ≡ true → Alone frames j v s gives
  pub met : (j : ℕ) (v : View) → get_elem? s.views j ≡ some v → Met v
  pub tokens : (j : ℕ) (v : View) → get_elem? s.views j ≡ some v → (number : ℕ) → v.token ≡ suc number → Lent number (keeper number) (owner number) s.views j v

-- the view of the first seat
abbrev pub newcomer : ℕ → FrameKind → View
newcomer frames kind = record { has = 0; empty = 0; rests = false; sole = true; kind = kind; home = replicate frames 1; finds = []; gives = []; one = []; other = []; lent = false; token = 0 }
