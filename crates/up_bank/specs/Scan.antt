-- What the functions on a bank's table say of a seat's view, within the crate.
use Rattle.std.specs.Prelude.{◌≡◌, ℕ, ◌+◌, ◌-◌, ◌*◌, ◌/◌, ◌%◌, ◌<◌, true, false, List, [], ◌∷◌, ◌++◌, length, slice_index, slice_set, min, Any, sum, take, map}
use Rattle.std.specs.Int.{bit_at}
use Rattle.up_bank.specs.Bytes.{Given, bytes_of}
use Rattle.up_bank.specs.Find.{Find, looks, tries, Rising, HasOut, HasHome, homes_in}
use Rattle.up_bank.specs.Standing.{BankId, Held, frames_of}
use Rattle.up_bank.specs.SeatSteps.{SeatState, Learns}
use Rattle.up_bank.specs.declared.view.View.{View}

-- the seat has no frame and no slot, and may step
pub record Idle (m : SeatState) : Type 0 where
  pub has : m.0.has ≡ 0
  pub empty : m.0.empty ≡ 0
  pub acts : m.0.rests ≡ false
  pub bare : m.1 ≡ []

-- a frame's own seat, with no token given or taken
pub record Rests (v : View) : Type 0 where
  pub rests : v.rests ≡ true
  pub lent : v.lent ≡ false
  pub token : v.token ≡ 0

-- the finds have the frame out; a sole seat knew it
pub record Gone (v : View) (more : List Find) (number : ℕ) : Type 0 where
  pub found : Any (HasOut number) more
  pub known : v.sole ≡ true → slice_index v.home number ≡ 0

-- a seat that has claimed a frame
abbrev pub claimed : View → ℕ → List Find → List Given → View
claimed v number more gives = record v { has = 0; empty = 0; home = slice_set v.home number 0; finds = v.finds ++ more; gives = gives }

-- finds that load rising words and try rising frames, from some on and below others
pub record Orderly (word words from to : ℕ) (more : List Find) : Type 0 where
  pub loads : Rising word words (looks more)
  pub fetches : Rising from to (tries more)

-- a claim of the frame, by such finds and with these bytes
pub record Claimed (v : View) (m' : SeatState) (number : ℕ) (bytes : List ℕ) (word words from to : ℕ) : Type 0 where
  pub others : List Find
  pub last : Find
  pub gives : List Given
  pub home : HasHome number last
  pub orderly : Orderly word words from to (others ++ last ∷ [])
  pub known : v.sole ≡ true → number < length v.home → slice_index v.home number ≡ 1
  pub learns : Learns v gives
  pub bytes_are : bytes ≡ bytes_of gives number
  pub is : m' ≡ (claimed v number (others ++ last ∷ []) gives, [])

-- a claim of some frame of the bank
abbrev pub Got : BankId → View → SeatState → ℕ → ℕ → ℕ → ℕ → Held → Type 0
Got bank v m' word words from to frame = (frame.bank ≡ bank) × (frame.number < frames_of bank) × Claimed v m' frame.number frame.bytes word words from to

-- how many frames a word of the bitmap has
abbrev pub frames_in : BankId → ℕ → ℕ
frames_in bank word = min (frames_of bank - word * 64) 64

-- a word of the bitmap has this frame
abbrev pub IsIn : BankId → ℕ → ℕ → Type 0
IsIn bank word number = (number / 64 ≡ word) × (number < frames_of bank)

-- more finds, and nothing else
abbrev pub with_finds : View → List Find → View
with_finds v more = record v { finds = v.finds ++ more }

-- such finds that load all these words, and have each of some frames out
pub record Missed (v : View) (m' : SeatState) (word words from to : ℕ) (frames : ℕ → Type 0) : Type 0 where
  pub more : List Find
  pub orderly : Orderly word words from to more
  pub all : word + length (looks more) ≡ words
  pub each : (number : ℕ) → frames number → Gone v more number
  pub is : m' ≡ (with_finds v more, [])

-- a claim as far as some bits of one word: the frames before that bit are out, and so is each whose bit isn't left
pub record Scanning (v : View) (m' : SeatState) (word bit left : ℕ) : Type 0 where
  pub more : List Find
  pub orderly : Orderly word (word + 1) (word * 64) (word * 64 + bit) more
  pub one : length (looks more) ≡ 1
  pub done : (number : ℕ) → number / 64 ≡ word → number % 64 < bit → Gone v more number
  pub hint : (number : ℕ) → number / 64 ≡ word → bit_at left (number % 64) ≡ 0 → Gone v more number
  pub is : m' ≡ (with_finds v more, [])

-- a count as far as some word
pub record Counting (v : View) (m' : SeatState) (frames word count : ℕ) : Type 0 where
  pub more : List Find
  pub one_each : length more ≡ word
  pub in_order : (i : ℕ) → i < length more → slice_index (map (λ f. f.word) more) i ≡ i
  pub homes : count ≡ homes_in frames more
  pub alone : v.sole ≡ true → length v.home ≡ frames → count ≡ sum (take (min (word * 64) frames) v.home)
  pub is : m' ≡ (with_finds v more, [])
