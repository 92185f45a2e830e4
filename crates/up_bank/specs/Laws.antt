-- Laws over the rule of a bank's table, which holds at each moment between two steps, and over returns.
use Rattle.std.specs.Prelude.{◌≡◌, ◌≢◌, ◌⊎◌, ℕ, ◌<◌, suc, Bool, true, false, List, ◌∷◌, Some}
use mathlib.Core.Option.{some}
use lib.ListN.{get_elem?}
use Rattle.up_bank.specs.Bytes.{Given, bytes_of, Extends}
use Rattle.up_bank.specs.Banked.{Vault, home_bit, Banked}
use Rattle.up_bank.specs.declared.view.View.{View}

-- the frame's bit is set, its slot has the bytes of its last return, and no seat has it
pub record IsHome (number : ℕ) (s : Vault) (gives : List Given) : Type 0 where
  pub bit : home_bit s.words number ≡ 1
  pub bytes : get_elem? s.homes number ≡ some (some (Some (bytes_of gives number)))
  pub nobody : (j : ℕ) (v : View) → get_elem? s.views j ≡ some v → v.has ≢ suc number

-- the frame's bit isn't set, and just one seat has it, which rests or doesn't
pub record IsWithOne (number : ℕ) (s : Vault) (rests : Bool) : Type 0 where
  pub bit : home_bit s.words number ≡ 0
  pub seat : ℕ
  pub view : View
  pub there : get_elem? s.views seat ≡ some view
  pub has : view.has ≡ suc number
  pub state : view.rests ≡ rests
  pub alone : (j : ℕ) (v : View) → get_elem? s.views j ≡ some v → v.has ≡ suc number → j ≡ seat

-- where a frame is: a seat that rests with a frame is that of a `Frame`, and one that doesn't is in a `claim` or a `give` that hasn't ended
pub data Whereabouts (number : ℕ) (s : Vault) (gives : List Given) : Type 0 where
  at_home : IsHome number s gives → Whereabouts number s gives
  out : IsWithOne number s true → Whereabouts number s gives
  in_hand : IsWithOne number s false → Whereabouts number s gives

-- at each moment every frame is at home, or out as one `Frame`, or in the hands of one call
abbrev pub HomeOrOut : Type 0
HomeOrOut = (frames : ℕ) (s : Vault) (r : Banked frames s) (number : ℕ) → number < frames → Whereabouts number s r.gives

-- two seats that have frames at one moment have frames of different numbers
abbrev pub FramesDiffer : Type 0
FramesDiffer = (frames : ℕ) (s : Vault) → Banked frames s → (i j a b : ℕ) (v w : View) → get_elem? s.views i ≡ some v → get_elem? s.views j ≡ some w → v.has ≡ suc a → w.has ≡ suc b → i ≢ j → a ≢ b

-- of the returns that two seats know, one has all of the other's, in the same order
abbrev pub OneHistory : Type 0
OneHistory = (frames : ℕ) (s : Vault) → Banked frames s → (i j : ℕ) (v w : View) → get_elem? s.views i ≡ some v → get_elem? s.views j ≡ some w → Extends v.gives w.gives ⊎ Extends w.gives v.gives

-- a return tells its frame's bytes, and nothing of other frames
abbrev pub LastReturnCounts : Type 0
LastReturnCounts = (gives : List Given) (number : ℕ) (bytes : List ℕ)
    → (bytes_of (record { number = number; bytes = bytes } ∷ gives) number ≡ bytes)
    × ((other : ℕ) → other ≢ number → bytes_of (record { number = number; bytes = bytes } ∷ gives) other ≡ bytes_of gives other)
