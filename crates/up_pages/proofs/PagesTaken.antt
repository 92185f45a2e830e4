-- Pages are taken off a list from its end, one by one.
use Rattle.std.proofs.Common.{◌≡◌, ℕ, suc, ◌+◌, ◌-◌, ◌<◌, ◌≤◌, Option, List, ◌++◌, length, get_or, take, refl, sym, ◌∙◌, ap, arith, option_to_list, append_assoc}
use Rattle.std.proofs.lemmas.List.{length-append, length-take-le, take-take, take_all, get_or-take, get_or_default}
use Rattle.up_bank.specs.Standing.{Held as Frame}
use Rattle.up_pages.specs.Frames.{Stock}
use Rattle.up_pages.specs.Pages.{frame_of, frames_down}
use Rattle.up_pages.specs.declared.page.Page.{Page}
use Rattle.up_pages.specs.declared.page.Page.TheVariants.{Absent}

-- so many of the pages from `first` on are left, and the frames of the others stand behind those that were there before
pub record Taking (xs : List Page) (first : ℕ) (before : Stock) (pages : List Page) (frames : Stock) : Type 0 where
  pub above : first ≤ length pages
  pub within : length pages ≤ length xs
  pub rest : pages ≡ take (length pages) xs
  pub whole : frames.items ++ frames_down (λ p. get_or xs p Absent) first (length pages - first) ≡ before.items ++ frames_down (λ p. get_or xs p Absent) first (length xs - first)
  pub room : length frames.items + length (frames_down (λ p. get_or xs p Absent) first (length pages - first)) ≤ frames.room

pub begun : (xs : List Page) (first : ℕ) (before : Stock) → first ≤ length xs
    → length before.items + length (frames_down (λ p. get_or xs p Absent) first (length xs - first)) ≤ before.room → Taking xs first before xs before
begun xs first before some room = record { above = some; within = omega arith; rest = sym (take_all (length xs) xs (omega arith)); whole = refl; room = room }

-- what the next step finds
next_down : (xs : List Page) (first m : ℕ) → first ≤ m → frames_down (λ p. get_or xs p Absent) first (suc m - first) ≡ option_to_list (frame_of (get_or xs m Absent)) ++ frames_down (λ p. get_or xs p Absent) first (m - first)
next_down xs first m above =
    let one : suc m - first ≡ suc (m - first) = omega arith in
    let at : first + (m - first) ≡ m = omega arith in
    ap (frames_down (λ p. get_or xs p Absent) first) one ∙ ap (λ p. option_to_list (frame_of (get_or xs p Absent)) ++ frames_down (λ q. get_or xs q Absent) first (m - first)) at

last_is : (xs pages : List Page) (m : ℕ) (d : Page) → length pages ≡ suc m → suc m ≤ length xs → pages ≡ take (length pages) xs → get_or pages m d ≡ get_or xs m Absent
last_is xs pages m d long within rest =
    ap (λ l. get_or l m d) rest ∙ (get_or-take (length pages) xs m d (omega arith) ∙ get_or_default xs m d Absent (omega arith))

pub taken : (xs : List Page) (first m : ℕ) (before : Stock) (pages left : List Page) (frames after : Stock) (page d : Page) (back : Option Frame)
    → Taking xs first before pages frames → first < length pages → length pages ≡ suc m → left ≡ take m pages → page ≡ get_or pages m d
    → back ≡ frame_of page → after.items ≡ frames.items ++ option_to_list back → after.room ≡ frames.room → Taking xs first before left after
taken xs first m before pages left frames after page d back t some long is page_is back_is put room =
    let long' : length left ≡ m = ap length is ∙ length-take-le m pages (omega arith) in
    let within' : suc m ≤ length xs = omega (arith, t.within) in
    let found : back ≡ frame_of (get_or xs m Absent) = back_is ∙ ap frame_of (page_is ∙ last_is xs pages m d long within' t.rest) in
    let down : frames_down (λ p. get_or xs p Absent) first (length pages - first) ≡ option_to_list back ++ frames_down (λ p. get_or xs p Absent) first (length left - first)
    = ap (λ n. frames_down (λ p. get_or xs p Absent) first (n - first)) long ∙ (next_down xs first m (omega arith)
    ∙ (ap (λ o. option_to_list o ++ frames_down (λ p. get_or xs p Absent) first (m - first)) (sym found)
    ∙ ap (λ n. option_to_list back ++ frames_down (λ p. get_or xs p Absent) first (n - first)) (sym long'))) in
    let sums : length (frames_down (λ p. get_or xs p Absent) first (length pages - first)) ≡ length (option_to_list back) + length (frames_down (λ p. get_or xs p Absent) first (length left - first))
    = ap length down ∙ length-append (option_to_list back) (frames_down (λ p. get_or xs p Absent) first (length left - first)) in
    let more : length after.items ≡ length frames.items + length (option_to_list back) = ap length put ∙ length-append frames.items (option_to_list back) in
    record {
      above = omega arith;
      within = omega (arith, t.within);
      rest = is ∙ (ap (take m) t.rest ∙ (take-take m (length pages) xs (omega arith) ∙ ap (λ n. take n xs) (sym long')));
      whole = ap (λ l. l ++ frames_down (λ p. get_or xs p Absent) first (length left - first)) put
          ∙ (append_assoc frames.items (option_to_list back) (frames_down (λ p. get_or xs p Absent) first (length left - first))
          ∙ (ap (λ l. frames.items ++ l) (sym down) ∙ t.whole));
      room = omega (arith, sums, more, room, t.room);
    }

-- there is room for the next frame
pub room_for : (xs : List Page) (first m : ℕ) (before : Stock) (pages : List Page) (frames : Stock) (page d : Page) (back : Option Frame)
    → Taking xs first before pages frames → first < length pages → length pages ≡ suc m → page ≡ get_or pages m d → back ≡ frame_of page
    → length frames.items + length (option_to_list back) ≤ frames.room
room_for xs first m before pages frames page d back t some long page_is back_is =
    let within' : suc m ≤ length xs = omega (arith, t.within) in
    let found : back ≡ frame_of (get_or xs m Absent) = back_is ∙ ap frame_of (page_is ∙ last_is xs pages m d long within' t.rest) in
    let down : frames_down (λ p. get_or xs p Absent) first (length pages - first) ≡ option_to_list back ++ frames_down (λ p. get_or xs p Absent) first (m - first)
    = ap (λ n. frames_down (λ p. get_or xs p Absent) first (n - first)) long ∙ (next_down xs first m (omega arith)
    ∙ ap (λ o. option_to_list o ++ frames_down (λ p. get_or xs p Absent) first (m - first)) (sym found)) in
    let sums : length (frames_down (λ p. get_or xs p Absent) first (length pages - first)) ≡ length (option_to_list back) + length (frames_down (λ p. get_or xs p Absent) first (m - first))
    = ap length down ∙ length-append (option_to_list back) (frames_down (λ p. get_or xs p Absent) first (m - first)) in
    omega (arith, sums, t.room)
