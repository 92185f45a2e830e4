-- The calls of a sound line are fit.
use Rattle.std.proofs.Common.{◌≡◌, ℕ, ◌+◌, ◌-◌, ◌*◌, ◌/◌, ◌%◌, ◌<◌, ◌≤◌, ◌==◌, ◌&&◌, Bool, true, false, Some, List, [], ◌∷◌, zero, suc, length, map, take, drop, refl, sym, ◌∙◌, subst, slice_get, nat_le, nat_lt, arith}
use Rattle.std.proofs.lemmas.Bool.{ltb-true}
use Rattle.std.proofs.lemmas.Bool.Decides.{nat_tests}
use Rattle.std.proofs.lemmas.List.{length-take-le, length-drop}
use Rattle.up_num.proofs.PiecesOfAccesses.{all_joined}
use Rattle.up_num.specs.Pieces.{pieces, Consecutive}
use Rattle.up_num.specs.declared.pages.Piece.{Piece}
use Rattle.up_model.proofs.Bools.{and_left, and_right}
use Rattle.up_model.specs.Reply.{is_piece}
use Rattle.up_model.specs.declared.entry.Call.{Call}
use Rattle.up_model.specs.declared.entry.Call.TheVariants as calls
use Rattle.up_model.specs.declared.entry.Birth.{Birth}
use Rattle.up_script.specs.Actions.{suits_mode}
use Rattle.up_script.specs.Sound.{is_within, is_sound_call, is_sound_action, brings_nothing}
use Rattle.up_script.specs.declared.script.Action.{Action}
use Rattle.up_script.specs.declared.script.Action.TheVariants as actions
use Rattle.up_worker.specs.Acting.{is_plain}
use Rattle.up_worker.specs.Calls.{bare, calls_in, read_of, write_of, vacate_of, fits_line}
use Rattle.up_worker.specs.declared.course.Aim.{Aim}
use Rattle.up_steps.specs.Told.{is_go, is_played}
use Rattle.up_stage.specs.Calls.{is_fit_call, is_numbered_birth, IsFitAim, suits_births}
use Rattle.up_stage.proofs.ObjectJournals.{some_same}

-- a piece of an access, within one page of it
record IsPieceOf (off end : ℕ) (piece : Piece) : Type 0 where
  from : off ≤ piece.off
  some : 0 < piece.len
  page : piece.off % 4096 + piece.len ≤ 4096
  to : piece.off + piece.len ≤ end

consecutive_le : (off end : ℕ) (ps : List Piece) → Consecutive off end ps → off ≤ end
consecutive_le off end [] c = omega (arith, c)
consecutive_le off end (p ∷ ps) c = let rest = consecutive_le (off + p.len) end ps c.1.1.1 in omega arith

piece_of : (off end : ℕ) (ps : List Piece) (k : ℕ) (piece : Piece) → Consecutive off end ps → slice_get ps k ≡ Some piece → IsPieceOf off end piece
piece_of off end [] k piece c is = absurd cc
piece_of off end (p ∷ ps) zero piece c is =
    let same : p ≡ piece = some_same p piece is in
    let rest = consecutive_le (off + p.len) end ps c.1.1.1 in
    let at : p.off ≡ off = c.0 in
    let many = c.1.0 in
    let fits = c.1.1.0 in
    subst (λ (x : Piece). IsPieceOf off end x) same
    (record { from = omega arith; some = many; page = rw at fits; to = omega arith })
piece_of off end (p ∷ ps) (suc k) piece c is =
    let rest = piece_of (off + p.len) end ps k piece c.1.1.1 is in
    record { from = (let f = rest.from in omega arith); some = rest.some; page = rest.page; to = rest.to }

-- what stands at a place of a list that was mapped
record Mapped {X Y : Type 0} (f : X → Y) (xs : List X) (k : ℕ) (y : Y) : Type 0 where
  x : X
  is : slice_get xs k ≡ Some x
  made : f x ≡ y

mapped : {X Y : Type 0} (f : X → Y) (xs : List X) (k : ℕ) (y : Y) → slice_get (map f xs) k ≡ Some y → Mapped f xs k y
mapped f [] k y is = absurd cc
mapped f (x ∷ xs) zero y is = record { x = x; is = refl; made = some_same (f x) y is }
mapped f (x ∷ xs) (suc k) y is = let rest = mapped f xs k y is in record { x = rest.x; is = rest.is; made = rest.made }

three_true : (a b c : Bool) → a ≡ true → b ≡ true → c ≡ true → ((a && b) && c) ≡ true
three_true true true true p q r = refl
three_true true true false p q r = absurd cc
three_true true false c p q r = absurd cc
three_true false b c p q r = absurd cc

lt_is : (m n : ℕ) → m < n → nat_lt m n ≡ true
lt_is m n below = grind (arith, nat_tests)

le_is : (m n : ℕ) → m ≤ n → nat_le m n ≡ true
le_is m n below = grind (arith, nat_tests)

piece_fits : (off len : ℕ) (piece : Piece) → IsPieceOf off (off + len) piece → is_piece piece.off piece.len ((off + len - 1) / 4096) ≡ true
piece_fits off len piece p =
    let some = p.some in
    let page = p.page in
    let to = p.to in
    let last : piece.off / 4096 ≤ (off + len - 1) / 4096 = omega arith in
    three_true (nat_lt 0 piece.len) (nat_le (piece.off % 4096 + piece.len) 4096) (nat_le (piece.off / 4096) ((off + len - 1) / 4096)) (lt_is 0 piece.len some) (le_is _ _ page) (le_is _ _ last)

fit_read : (n : List Birth) (object off len : ℕ) → object < length n → (k : ℕ) (aim : Aim) → slice_get (map (read_of object off len) (pieces off len)) k ≡ Some aim → IsFitAim n aim
fit_read n object off len on k aim is =
    let m = mapped (read_of object off len) (pieces off len) k aim is in
    subst (λ (x : Aim). IsFitAim n x) m.made (record { on = on; fit = piece_fits off len m.x (piece_of off (off + len) (pieces off len) k m.x (all_joined off len) m.is); suits = refl })

part_length : (bytes : List ℕ) (k n : ℕ) → k + n ≤ length bytes → length (take n (drop k bytes)) ≡ n
part_length bytes k n fits =
    let many : length (drop k bytes) ≡ length bytes - k = length-drop k bytes in
    length-take-le n (drop k bytes) (omega arith)

fit_write : (n : List Birth) (object off : ℕ) (bytes : List ℕ) → object < length n → (k : ℕ) (aim : Aim) → slice_get (map (write_of object off bytes) (pieces off (length bytes))) k ≡ Some aim → IsFitAim n aim
fit_write n object off bytes on k aim is =
    let m = mapped (write_of object off bytes) (pieces off (length bytes)) k aim is in
    let p = piece_of off (off + length bytes) (pieces off (length bytes)) k m.x (all_joined off (length bytes)) m.is in
    let many : length (take m.x.len (drop (m.x.off - off) bytes)) ≡ m.x.len = part_length bytes (m.x.off - off) m.x.len (let from = p.from in let to = p.to in omega arith) in
    subst (λ (x : Aim). IsFitAim n x) m.made (record {
      on = on;
      fit = subst (λ (c : ℕ). is_piece m.x.off c ((off + length bytes - 1) / 4096) ≡ true) (sym many) (piece_fits off (length bytes) m.x p);
      suits = refl;
    })

-- a sound call
supply_fits : (n len : ℕ) (sound : Bool) → ((sound && is_within 1 65536 n) && nat_le n 16 && (len == n * 4096)) ≡ true → ((len == 4096 * n) && nat_lt 0 n) ≡ true
supply_fits n len sound is = grind (arith, nat_tests)

drop_last : (a b : Bool) → (a && b) ≡ true → a ≡ true
drop_last a b is = and_left a b is

fit_bare : (call : Call) → is_sound_call call ≡ true → is_fit_call (bare call) ≡ true
fit_bare (calls.Read piece last brought) is = absurd cc
fit_bare (calls.Write off bytes last brought) is = absurd cc
fit_bare (calls.Retry ticket brought) is = absurd cc
fit_bare (calls.Supply range bytes brought) is =
    supply_fits range.count (length bytes) (nat_le range.first 2147483648) (and_left _ (brings_nothing brought) is)
fit_bare (calls.Dirty range brought) is = refl
fit_bare (calls.Pin range brought) is = refl
fit_bare (calls.Borrow page brought) is = refl
fit_bare (calls.Vacate brought) is = refl
fit_bare _ is = refl

suits_bare : (numbered : Bool) (call : Call) → suits_mode numbered (bare call) ≡ suits_mode numbered call
suits_bare numbered (calls.Read piece last brought) = refl
suits_bare numbered (calls.Write off bytes last brought) = refl
suits_bare numbered (calls.Retry ticket brought) = refl
suits_bare numbered (calls.Supply range bytes brought) = refl
suits_bare numbered (calls.Dirty range brought) = refl
suits_bare numbered (calls.Pin range brought) = refl
suits_bare numbered (calls.Borrow page brought) = refl
suits_bare numbered (calls.Vacate brought) = refl
suits_bare numbered _ = refl

one_call : (aim other : Aim) (k : ℕ) → slice_get (aim ∷ []) k ≡ Some other → aim ≡ other
one_call aim other zero is = some_same aim other is
one_call aim other (suc k) is = absurd cc

-- the calls of a line on objects of which there are so many
pub fit_calls : (n : List Birth) (objects : List ℕ) (action : Action) → ((place object : ℕ) → slice_get objects place ≡ Some object → object < length n) → is_sound_action (length n) action ≡ true → suits_births n action ≡ true → (k : ℕ) (aim : Aim)
    → slice_get (calls_in objects action) k ≡ Some aim → IsFitAim n aim
fit_calls n objects (actions.Read object off len) bound sound suits k aim is =
    fit_read n object off len (ltb-true object (length n) (and_left _ _ (and_left _ _ sound))) k aim is
fit_calls n objects (actions.Write object off bytes) bound sound suits k aim is =
    fit_write n object off bytes (ltb-true object (length n) (and_left _ _ (and_left _ _ sound))) k aim is
fit_calls n objects (actions.Act object call) bound sound suits k aim is =
    subst (λ (x : Aim). IsFitAim n x) (one_call _ aim k is)
    (record { on = ltb-true object (length n) (and_left _ _ sound); fit = fit_bare call (and_right _ _ sound); suits = suits_bare (is_numbered_birth (slice_get n object)) call ∙ suits })
fit_calls n objects actions.Recall bound sound suits k aim is =
    let m = mapped vacate_of objects k aim is in
    subst (λ (x : Aim). IsFitAim n x) m.made (record { on = bound k m.x m.is; fit = refl; suits = refl })
fit_calls n objects _ bound sound suits k aim is = absurd cc

-- what beginning a line asks for
limit_fits : (object n off len : ℕ) → ((nat_lt object n && nat_le off 8796093022208) && is_within 1 65536 len) ≡ true → nat_le (off + len) 17592186044416 ≡ true
limit_fits object n off len is = grind (arith, nat_tests)

pub line_fits : (n : ℕ) (action : Action) → is_sound_action n action ≡ true → fits_line action ≡ true
line_fits n (actions.Read object off len) sound = limit_fits object n off len sound
line_fits n (actions.Write object off bytes) sound = limit_fits object n off (length bytes) sound
line_fits n _ sound = refl

pub line_plain : (action : Action) → is_go action ≡ false → is_played action ≡ true → is_plain action ≡ true
line_plain actions.Go go played = absurd cc
line_plain (actions.Sync object) go played = absurd cc
line_plain (actions.Turn object steps) go played = absurd cc
line_plain _ go played = refl
