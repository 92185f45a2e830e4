-- What a look at the bitmap of home frames finds.
use Rattle.std.specs.Prelude.{◌≡◌, ℕ, ◌+◌, ◌-◌, ◌*◌, ◌/◌, ◌%◌, ◌<◌, ◌≤◌, zero, suc, min, List, [], ◌∷◌, ◌++◌, length, map, filter, filter_map, Any, slice_index, Option, is_none}
use Rattle.std.specs.Int.{bit_at}

-- the number of a word of the bitmap, what it was, and the frame whose bit a fetch was for, none for a load; a word has 64 frames, the first in its lowest bit
pub record Find : Type 0 where
  pub word : ℕ
  pub was : ℕ
  pub tried : Option ℕ

-- the words that were loaded, in order
abbrev pub looks : List Find → List ℕ
looks finds = map (λ f. f.word) (filter (λ f. is_none f.tried) finds)

-- the frames that were tried, in order
abbrev pub tries : List Find → List ℕ
tries finds = filter_map (λ f. f.tried) finds

-- the numbers rise strictly, from low on and below high
abbrev pub Rising : ℕ → ℕ → List ℕ → Type 0
Rising low high [] = low ≤ high
Rising low high (n ∷ ns) = (low ≤ n) × Rising (suc n) high ns

-- the find has this frame at home
abbrev pub HasHome : ℕ → Find → Type 0
HasHome number f = (f.word ≡ number / 64) × (bit_at f.was (number % 64) ≡ 1)

-- the find has this frame out
abbrev pub HasOut : ℕ → Find → Type 0
HasOut number f = (f.word ≡ number / 64) × (bit_at f.was (number % 64) ≡ 0)

-- how many words of the bitmap have so many frames
abbrev pub words_of : ℕ → ℕ
words_of frames = (frames + 63) / 64

-- how many of a word's first so many bits are set
abbrev pub bits_set : ℕ → ℕ → ℕ
bits_set was zero = 0
bits_set was (suc count) = bits_set was count + bit_at was count

-- how many frames some finds have at home, in a bank of so many
abbrev pub homes_in : ℕ → List Find → ℕ
homes_in frames [] = 0
homes_in frames (f ∷ fs) = bits_set f.was (min (frames - f.word * 64) 64) + homes_in frames fs

-- the last of the finds that were added has the frame at home
pub record FoundHome (before after : List Find) (number : ℕ) : Type 0 where
  pub others : List Find
  pub last : Find
  pub is : after ≡ before ++ (others ++ last ∷ [])
  pub home : HasHome number last

-- one find was added, and it has the frame out
pub record FoundOut (before after : List Find) (number : ℕ) : Type 0 where
  pub find : Find
  pub is : after ≡ before ++ find ∷ []
  pub out : HasOut number find

-- of a bank of so many frames, the finds that were added load no word twice and try no frame twice: both rise
pub record NoneTwice (before after : List Find) (frames : ℕ) : Type 0 where
  pub more : List Find
  pub is : after ≡ before ++ more
  pub loads : Rising 0 (words_of frames) (looks more)
  pub fetches : Rising 0 frames (tries more)

-- the finds that were added loaded each word once, in order, and have each of so many frames out
pub record Scanned (before after : List Find) (frames : ℕ) : Type 0 where
  pub more : List Find
  pub is : after ≡ before ++ more
  pub one_each : length (looks more) ≡ words_of frames
  pub in_order : (i : ℕ) → i < length (looks more) → slice_index (looks more) i ≡ i
  pub each : (number : ℕ) → number < frames → Any (HasOut number) more

-- one find was added for each word, in order, and they have so many frames at home
pub record Counted (before after : List Find) (frames count : ℕ) : Type 0 where
  pub more : List Find
  pub is : after ≡ before ++ more
  pub one_each : length more ≡ words_of frames
  pub in_order : (i : ℕ) → i < length more → slice_index (map (λ f. f.word) more) i ≡ i
  pub homes : count ≡ homes_in frames more
