-- Small parts of the definitions, computed on short journals, beside those that `up_model` computes.
use Rattle.std.proofs.Common.{◌≡◌, ℕ, true, false, Some, None, List, [], ◌∷◌, replicate, refl}
use Rattle.up_num.specs.Span.{Span}
use Rattle.up_model.specs.Attempts.{Access}
use Rattle.up_model.specs.Deeds.{written, supplied}
use Rattle.up_model.specs.Value.{value}
use Rattle.up_model.specs.Roles.{in_role}
use Rattle.up_model.specs.Reply.{missing, unclean_runs}
use Rattle.up_model.specs.declared.entry.Birth.{Birth}
use Rattle.up_model.specs.declared.entry.Entry.{Entry}
use Rattle.up_model.specs.declared.entry.Role.TheVariants.{User, Pager}
use Rattle.up_model.specs.declared.entry.Brought.TheVariants.{Nothing, Frames}
use Rattle.up_model.specs.declared.entry.Call.{Call}
use Rattle.up_model.specs.declared.entry.Call.TheVariants as calls
use Rattle.up_model.specs.declared.entry.Reply.{Reply}
use Rattle.up_model.specs.declared.entry.Reply.TheVariants as answer

-- an object of two pages that may grow to four, with two users and a pager
abbrev born : Birth
born = record { pages = 2; limit = Some 4; trap = false; users = 2; pagers = 1; image = false; numbered = false }

abbrev by : ℕ → Call → Reply → Entry
by who call reply = record { who = who; epoch = 0; call = call; reply = reply }

abbrev second : Span
second = record { first = 1; count = 1 }

abbrev whole : Span
whole = record { first = 0; count = 4 }

-- the bytes A and B, written at the start of page 1, and a read there
abbrev two_bytes : Access
two_bytes = record { off = 4096; len = 2; last = 1; bytes = Some (65 ∷ 66 ∷ []) }

abbrev two_read : Access
two_read = record { off = 4096; len = 2; last = 1; bytes = None }

written-second : written (Some two_bytes) 4097 ≡ Some 66
written-second = refl

written-past : written (Some two_bytes) 4098 ≡ None
written-past = refl

written-before : written (Some two_bytes) 4095 ≡ None
written-before = refl

written-by_a_read : written (Some two_read) 4096 ≡ None
written-by_a_read = refl

written-by_nothing : written None 4096 ≡ None
written-by_nothing = refl

supplied-second : supplied (calls.Supply second (97 ∷ 98 ∷ []) (Frames 1)) 4097 ≡ Some 98
supplied-second = refl

supplied-past : supplied (calls.Supply second (97 ∷ 98 ∷ []) (Frames 1)) 4098 ≡ None
supplied-past = refl

supplied-by_another : supplied calls.Packet 4097 ≡ None
supplied-by_another = refl

-- a user leaves, and then the pager
abbrev user_left : List Entry
user_left = by 0 (calls.Leave User) (answer.Left 0) ∷ []

abbrev pager_left : List Entry
pager_left = by 2 (calls.Leave Pager) (answer.Left 0) ∷ user_left

in_role-born : in_role born [] User ≡ 2
in_role-born = refl

in_role-user_left : in_role born user_left User ≡ 1
in_role-user_left = refl

in_role-pager_stays : in_role born user_left Pager ≡ 1
in_role-pager_stays = refl

in_role-pager_left : in_role born pager_left Pager ≡ 0
in_role-pager_left = refl

-- page 1 is supplied; then the object grows by two zero pages
abbrev supplied_second : List Entry
supplied_second = by 2 (calls.Supply second (replicate 4096 97) (Frames 1)) (answer.Took 1 []) ∷ []

abbrev grown : List Entry
grown = by 0 (calls.Resize 4) (answer.Woke []) ∷ supplied_second

-- and a byte of page 1 is written
abbrev written_then : List Entry
written_then = by 0 (calls.Write 4096 (65 ∷ []) (record { 0 = 1 }) Nothing) answer.Done ∷ grown

missing-all : missing born [] 0 2 ≡ 2
unfolding value
missing-all = refl

missing-one : missing born supplied_second 0 2 ≡ 1
unfolding value
missing-one = refl

missing-none : missing born supplied_second 1 1 ≡ 0
unfolding value
missing-none = refl

unclean_runs-none : unclean_runs born supplied_second whole ≡ []
unfolding value
unclean_runs-none = refl

unclean_runs-grown : unclean_runs born grown whole ≡ record { range = record { first = 2; count = 2 }; zero = true } ∷ []
unfolding value
unclean_runs-grown = refl

unclean_runs-written : unclean_runs born written_then whole
    ≡ record { range = record { first = 1; count = 1 }; zero = false } ∷ record { range = record { first = 2; count = 2 }; zero = true } ∷ []
unfolding value
unclean_runs-written = refl
