-- What each kind of step on a bank's table tells its seat: of the step, the seat before, the word found and the seat after.
use Rattle.std.specs.Prelude.{◌≡◌, ◌≢◌, ℕ, ◌*◌, ◌/◌, ◌%◌, ◌^◌, ◌<◌, suc, true, false, List, [], ◌∷◌, ◌++◌, length, slice_index, slice_set, Option, Some, None}
use Rattle.std.specs.Int.{bit_at, bit_not, w64}
use Rattle.atomic_table.specs.Table.{Me, Step, rest}
use Rattle.up_bank.specs.Bytes.{Given, bytes_of, Extends, longer}
use Rattle.up_bank.specs.Banked.{Met}
use Rattle.up_bank.specs.declared.kind.FrameKind.TheVariants.{Ordinary}
use Rattle.up_bank.specs.declared.view.View.{View}

abbrev pub Slot : Type 0
Slot = Option (List ℕ)

abbrev pub SeatState : Type 0
SeatState = Me Slot View

abbrev pub TableStep : Type 0
TableStep = Step Slot

-- all bits but the frame's
abbrev pub mask_of : ℕ → ℕ
mask_of number = bit_not w64 (1 * 2 ^ (number % 64) % 2 ^ 64)

-- one find more, of a load
abbrev pub saw : View → ℕ → ℕ → View
saw v word was = record v { finds = v.finds ++ record { word = word; was = was; tried = None } ∷ [] }

-- one find more, of a fetch for this frame
abbrev pub fetched : View → ℕ → ℕ → View
fetched v number was = record v { finds = v.finds ++ record { word = number / 64; was = was; tried = Some number } ∷ [] }

-- where the seat is sole, the word is what it knows of its frames
abbrev pub AsKnown : View → ℕ → ℕ → Type 0
AsKnown v word was = v.sole ≡ true → (number : ℕ) → number / 64 ≡ word → number < length v.home → slice_index v.home number ≡ bit_at was (number % 64)

-- returns that all seats agree on, with all that the seat knew of; no more than these for a sole seat
pub record Learns (v : View) (gives : List Given) : Type 0 where
  pub later : Extends v.gives gives
  pub alone : v.sole ≡ true → gives ≡ v.gives

abbrev pub looked : TableStep → SeatState → ℕ → SeatState → Type 0
looked st m was m' = (word : ℕ) → st.word ≡ word * 2 → (m' ≡ (saw m.0 word was, m.1)) × AsKnown m.0 word was

-- the seat has the frame, whose bytes are those of its last return
abbrev pub took : View → ℕ → ℕ → List Given → View
took v number was gives = record (fetched v number was) { has = suc number; empty = 0; home = slice_set v.home number 0; gives = gives }

pub record Hit (number : ℕ) (m : SeatState) (was : ℕ) (m' : SeatState) : Type 0 where
  pub gives : List Given
  pub learns : Learns m.0 gives
  pub is : m' ≡ (took m.0 number was gives, (number, Some (bytes_of gives number)) ∷ m.1)

abbrev pub cleared : TableStep → SeatState → ℕ → SeatState → Type 0
cleared st m was m' = (number : ℕ) → st.word ≡ number / 64 * 2 → st.first ≡ mask_of number
    → AsKnown m.0 (number / 64) was × (bit_at was (number % 64) ≡ 1 → Hit number m was m') × (bit_at was (number % 64) ≡ 0 → m' ≡ (fetched m.0 number was, m.1))

abbrev pub vacated : TableStep → SeatState → ℕ → SeatState → Type 0
vacated st m was m' = m' ≡ (record m.0 { empty = 1 }, rest m.1)

abbrev pub reclaimed : TableStep → SeatState → ℕ → SeatState → Type 0
reclaimed st m was m' = (number : ℕ) → m.0.has ≡ suc number → m' ≡ (record m.0 { empty = 0 }, (number, None) ∷ m.1)

-- the seat brought the frame home with these bytes
abbrev pub gave : View → ℕ → ℕ → List ℕ → List Given → View
gave v number was bytes gives = record (fetched v number was) { has = 0; empty = 0; home = slice_set v.home number 1; gives = record { number = number; bytes = bytes } ∷ gives }

pub record Put (number : ℕ) (bytes : List ℕ) (m : SeatState) (was : ℕ) (m' : SeatState) : Type 0 where
  pub gives : List Given
  pub learns : Learns m.0 gives
  pub gone : bit_at was (number % 64) ≡ 0
  pub known : AsKnown m.0 (number / 64) was
  pub is : m' ≡ (gave m.0 number was bytes gives, rest m.1)

abbrev pub restored : TableStep → SeatState → ℕ → SeatState → Type 0
restored st m was m' = (number : ℕ) (bytes : List ℕ) → m.0.has ≡ suc number → m.1 ≡ (number, Some bytes) ∷ rest m.1 → Put number bytes m was m'

-- a seat without the frame that it had
abbrev pub shed : View → View
shed v = record v { has = 0; empty = 0 }

-- the frame's own seat
abbrev pub framed : View → View
framed v = record v { rests = true; sole = false; home = []; finds = []; gives = []; one = []; other = []; lent = false; token = 0 }

-- a seat that has company, and no frame
abbrev pub parted : View → View
parted v = record v { has = 0; empty = 0; sole = false; home = [] }

-- the second seat, which has no finds
abbrev pub second : View → View
second v = record (parted v) { finds = [] }

-- a seat that has the frame that another seat had
abbrev pub united : View → View → View
united v w = record v { has = w.has; empty = w.empty }

-- a seat that knows what another knew
abbrev pub merged : View → View → View
merged v w = record v { has = w.has; empty = w.empty; gives = longer v.gives w.gives; one = v.gives; other = w.gives }

-- the seat that was given up; its kind is of no matter
abbrev pub spent : View
spent = record { has = 0; empty = 0; rests = true; sole = false; kind = Ordinary; home = []; finds = []; gives = []; one = []; other = []; lent = false; token = 0 }

-- a load of no home bits, after a join: the returns of both seats are known
abbrev pub agreed : TableStep → SeatState → ℕ → SeatState → Type 0
agreed st m was m' = (m' ≡ m) × Met m.0

-- a load of no home bits, with a token in hand: it isn't of the frame that the seat has
abbrev pub told_apart : TableStep → SeatState → ℕ → SeatState → Type 0
told_apart st m was m' = (m' ≡ m) × ((number : ℕ) → m.0.token ≡ suc number → m.0.has ≢ suc number)

-- a frame's seat that lends, and the token of its frame
abbrev pub lends : View → View
lends v = record v { lent = true }

abbrev pub token_of : ℕ → View → View
token_of token v = record { has = 0; empty = 0; rests = true; sole = false; kind = v.kind; home = []; finds = []; gives = []; one = []; other = []; lent = false; token = token }

abbrev pub lent_out : View → View
lent_out v = token_of v.has v

-- a frame's seat that takes in a token, and gives it away again
abbrev pub shown : View → View → View
shown v w = record v { token = w.token }

abbrev pub hidden : View → View
hidden v = record v { token = 0 }

abbrev pub taken_back : View → View
taken_back v = token_of v.token v

-- a frame's seat whose token came home
abbrev pub repaid : View → View → View
repaid v w = record v { lent = false }
