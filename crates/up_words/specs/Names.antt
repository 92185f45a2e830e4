-- Names of objects, actors and images.
use Rattle.std.specs.Prelude.{ℕ, ◌==◌, ◌&&◌, ◌||◌, Bool, List, not, get_or, length, nat_le}
use Rattle.std.specs.List.{list_all}
use Rattle.up_words.specs.Numbers.{is_digit}

abbrev pub is_letter : ℕ → Bool
is_letter byte = nat_le 97 byte && nat_le byte 122

abbrev pub is_name_byte : ℕ → Bool
is_name_byte byte = is_letter byte || is_digit byte

-- a name has 1 to 16 letters and digits, the first a letter
abbrev pub is_name : List ℕ → Bool
is_name word = not (length word == 0) && is_letter (get_or word 0 0) && nat_le (length word) 16 && list_all is_name_byte word
