-- The words of a script's lines are words.
use Rattle.std.proofs.Common.{◌≡◌, ℕ, zero, suc, ◌*◌, ◌^◌, ◌<◌, ◌≤◌, Bool, true, false, ◌&&◌, ◌||◌, eqb, leb, ltb, not, List, [], ◌∷◌, length, get_or, map, Option, Some, None, refl, arith}
use Rattle.std.specs.Fmt.{decimal}
use Rattle.std.specs.Prelude.{codes}
use Rattle.std.specs.List.{list_all}
use Rattle.std.proofs.lemmas.Bool.{and_parts, eqb-true, le-leb, leb-true, ltb-true}
use Rattle.up_num.specs.Span.{Span}
use Rattle.up_model.specs.declared.entry.Call.{Call}
use Rattle.up_model.specs.declared.entry.Call.TheVariants as calls
use Rattle.up_model.specs.declared.entry.HintKind.TheVariants as hints
use Rattle.up_words.specs.Names.{is_letter, is_name_byte, is_name}
use Rattle.up_words.specs.Numbers.{is_digit}
use Rattle.up_words.specs.Runs.{bytes_text}
use Rattle.up_words.specs.Words.{word_at, is_word, is_word_byte, is_byte}
use Rattle.up_words.proofs.Decimals.{both}
use Rattle.up_fields.specs.Limits.{all_tickets}
use Rattle.up_fields.specs.Text.{flag_text, code_text}
use Rattle.up_fields.proofs.Rows.{bytes_word}
use Rattle.up_fields.proofs.Values.{number_word, flag_word, code_word}
use Rattle.up_script.specs.Sound.{is_within, is_sound_range, is_sound_number, brings_nothing, is_sound_call, is_sound_action, is_sound_limit, is_sound_image}
use Rattle.up_script.specs.Text.{limit_text, image_text, kind_text, bound_words, number_words, call_words, action_words}
use Rattle.up_script.specs.Whole.{has_bytes}
use Rattle.up_script.specs.declared.script.Action.{Action}
use Rattle.up_script.specs.declared.script.Action.TheVariants as actions
use Rattle.up_script.specs.declared.script.Kind.{Kind}
use Rattle.up_script.specs.declared.script.Kind.TheVariants.{User, Pager, Worker, Evictor}

name_byte : (byte : ℕ) → is_name_byte byte ≡ true → is_word_byte byte ≡ true
name_byte byte e = by (is_letter byte) (is_digit byte) refl refl e
  where
    by : (letter digit : Bool) → is_letter byte ≡ letter → is_digit byte ≡ digit → (letter || digit) ≡ true → is_word_byte byte ≡ true
    by true digit p q f =
        let r = and_parts (leb 97 byte) (leb byte 122) p in
        both (leb 33 byte) (leb byte 126) (le-leb 33 byte (omega (arith, leb-true 97 byte r.0))) (le-leb byte 126 (omega (arith, leb-true byte 122 r.1)))
    by false true p q f =
        let r = and_parts (leb 48 byte) (leb byte 57) q in
        both (leb 33 byte) (leb byte 126) (le-leb 33 byte (omega (arith, leb-true 48 byte r.0))) (le-leb byte 126 (omega (arith, leb-true byte 57 r.1)))
    by false false p q f = absurd cc

name_bytes : (bytes : List ℕ) → list_all is_name_byte bytes ≡ true → list_all is_word_byte bytes ≡ true
name_bytes [] e = refl
name_bytes (byte ∷ bytes) e =
    let p = and_parts (is_name_byte byte) (list_all is_name_byte bytes) e in
    both (is_word_byte byte) (list_all is_word_byte bytes) (name_byte byte p.0) (name_bytes bytes p.1)

-- a name is a word, and begins with a letter
pub name_word : (name : List ℕ) → is_name name ≡ true → is_word name ≡ true
name_word name e =
    let p = and_parts (not (eqb (length name) 0) && is_letter (get_or name 0 0) && leb (length name) 16) (list_all is_name_byte name) e in
    let q = and_parts (not (eqb (length name) 0) && is_letter (get_or name 0 0)) (leb (length name) 16) p.0 in
    let r = and_parts (not (eqb (length name) 0)) (is_letter (get_or name 0 0)) q.0 in
    both (not (eqb (length name) 0)) (list_all is_word_byte name) r.0 (name_bytes name p.1)

pub name_first : (name : List ℕ) → is_name name ≡ true → 97 ≤ get_or name 0 0
name_first name e =
    let p = and_parts (not (eqb (length name) 0) && is_letter (get_or name 0 0) && leb (length name) 16) (list_all is_name_byte name) e in
    let q = and_parts (not (eqb (length name) 0) && is_letter (get_or name 0 0)) (leb (length name) 16) p.0 in
    let r = and_parts (not (eqb (length name) 0)) (is_letter (get_or name 0 0)) q.0 in
    leb-true 97 (get_or name 0 0) (and_parts (leb 97 (get_or name 0 0)) (leb (get_or name 0 0) 122) r.1).0

-- one of names is a name
pub name_at : (names : List (List ℕ)) (k : ℕ) → list_all is_name names ≡ true → k < length names → is_name (word_at names k) ≡ true
name_at [] k all lt = absurd (omega arith)
name_at (name ∷ names) zero all lt = (and_parts (is_name name) (list_all is_name names) all).0
name_at (name ∷ names) (suc k) all lt = name_at names k (and_parts (is_name name) (list_all is_name names) all).1 (omega arith)

-- a number up to a limit
pub up_to : (n most : ℕ) → leb n most ≡ true → most < 2 ^ 64 → is_word (decimal n) ≡ true
up_to n most e fits = number_word n (omega (arith, leb-true n most e))

pub between : (low n most : ℕ) → is_within low most n ≡ true → most < 2 ^ 64 → is_word (decimal n) ≡ true
between low n most e fits = up_to n most (and_parts (leb low n) (leb n most) e).1 fits

pub limit_word : (pages : ℕ) (limit : Option ℕ) → is_sound_limit pages limit ≡ true → is_word (limit_text limit) ≡ true
limit_word pages None e = refl
limit_word pages (Some limit) e = between pages limit 65536 e (omega arith)

pub image_word : (image : Option (List ℕ)) → is_sound_image image ≡ true → is_word (image_text image) ≡ true
image_word None e = refl
image_word (Some name) e = name_word name e

pub kind_word : (kind : Kind) → is_word (kind_text kind) ≡ true
kind_word User = refl
kind_word Pager = refl
kind_word Worker = refl
kind_word Evictor = refl

names_good : (names : List (List ℕ)) (objects : List ℕ) → list_all is_name names ≡ true → list_all (λ object. ltb object (length names)) objects ≡ true → list_all is_word (map (λ object. word_at names object) objects) ≡ true
names_good names [] all inside = refl
names_good names (object ∷ objects) all inside =
    let p = and_parts (ltb object (length names)) (list_all (λ o. ltb o (length names)) objects) inside in
    both (is_word (word_at names object)) (list_all is_word (map (λ o. word_at names o) objects)) (name_word (word_at names object) (name_at names object all (ltb-true object (length names) p.0))) (names_good names objects all p.1)

-- the names of an actor's objects are words
pub bound_good : (names : List (List ℕ)) (kind : Kind) (objects : List ℕ) → list_all is_name names ≡ true → list_all (λ object. ltb object (length names)) objects ≡ true → list_all is_word (bound_words names kind objects) ≡ true
bound_good names User objects all inside = names_good names objects all inside
bound_good names Pager objects all inside = names_good names objects all inside
bound_good names Worker objects all inside = names_good names objects all inside
bound_good names Evictor objects all inside = refl

byte_list_word : (low most : ℕ) (bytes : List ℕ) → is_within low most (length bytes) ≡ true → 1 ≤ low → most ≤ all_tickets → list_all is_byte bytes ≡ true → is_word (bytes_text bytes) ≡ true
byte_list_word low most bytes e some few all =
    let p = and_parts (leb low (length bytes)) (leb (length bytes) most) e in
    let fits : (leb 1 (length bytes) && leb (length bytes) all_tickets) ≡ true =
    both (leb 1 (length bytes)) (leb (length bytes) all_tickets) (le-leb 1 (length bytes) (omega (arith, leb-true low (length bytes) p.0, some))) (le-leb (length bytes) all_tickets (omega (arith, leb-true (length bytes) most p.1, few))) in
    bytes_word bytes (both (leb 1 (length bytes) && leb (length bytes) all_tickets) (list_all is_byte bytes) fits all)

first_word : (range : Span) → is_sound_range range ≡ true → is_word (decimal range.first) ≡ true
first_word range e = up_to range.first 2147483648 (and_parts (leb range.first 2147483648) (is_within 1 65536 range.count) e).0 (omega arith)

count_word : (range : Span) → is_sound_range range ≡ true → is_word (decimal range.count) ≡ true
count_word range e = between 1 range.count 65536 (and_parts (leb range.first 2147483648) (is_within 1 65536 range.count) e).1 (omega arith)

-- the numbers of a range, with words behind them
over_good : (verb object : List ℕ) (range : Span) (more : List (List ℕ)) → is_word verb ≡ true → is_word object ≡ true → is_sound_range range ≡ true → list_all is_word more ≡ true → list_all is_word (verb ∷ object ∷ decimal range.first ∷ decimal range.count ∷ more) ≡ true
over_good verb object range more v o sound all = rw (v, o, first_word range sound, count_word range sound) all

last_good : (word : List ℕ) → is_word word ≡ true → list_all is_word (word ∷ []) ≡ true
last_good word e = rw e refl

number_good : (of : Option ℕ) → is_sound_number of ≡ true → list_all is_word (number_words of) ≡ true
number_good None e = refl
number_good (Some n) e = last_good (decimal n) (up_to n 18446744073709551615 e (omega arith))

call_good : (object : List ℕ) (call : Call) → is_word object ≡ true → is_sound_call call ≡ true → has_bytes (actions.Act 0 call) ≡ true → list_all is_word (call_words object call) ≡ true
call_good object (calls.Read piece last brought) o sound all = absurd cc
call_good object (calls.Write off bytes last brought) o sound all = absurd cc
call_good object (calls.Retry ticket brought) o sound all = absurd cc
call_good object (calls.Supply range bytes brought) o sound all =
    let p = and_parts (is_sound_range range && leb range.count 16 && eqb (length bytes) (range.count * 4096)) (brings_nothing brought) sound in
    let q = and_parts (is_sound_range range && leb range.count 16) (eqb (length bytes) (range.count * 4096)) p.0 in
    let r = and_parts (is_sound_range range) (leb range.count 16) q.0 in
    let size = eqb-true (length bytes) (range.count * 4096) q.1 in
    let few = leb-true range.count 16 r.1 in
    let some = leb-true 1 range.count (and_parts (leb 1 range.count) (leb range.count 65536) (and_parts (leb range.first 2147483648) (is_within 1 65536 range.count) r.0).1).0 in
    let within : is_within 1 65536 (length bytes) ≡ true = both (leb 1 (length bytes)) (leb (length bytes) 65536) (le-leb 1 (length bytes) (omega (arith, size, some))) (le-leb (length bytes) 65536 (omega (arith, size, few))) in
    over_good (codes "supply") object range (bytes_text bytes ∷ []) refl o r.0 (last_good (bytes_text bytes) (byte_list_word 1 65536 bytes within (omega arith) (omega arith) all))
call_good object (calls.Fail range code) o sound all = over_good (codes "fail") object range (code_text code ∷ []) refl o sound (last_good (code_text code) (code_word code))
call_good object (calls.Dirty range brought) o sound all = over_good (codes "dirty") object range ([]) refl o (and_parts (is_sound_range range) (brings_nothing brought) sound).0 refl
call_good object (calls.Begin range zeros) o sound all = over_good (codes "begin") object range (flag_text (codes "zero") (codes "any") zeros ∷ []) refl o sound (last_good (flag_text (codes "zero") (codes "any") zeros) (flag_word (codes "zero") (codes "any") zeros refl refl))
call_good object (calls.End range of) o sound all =
    let p = and_parts (is_sound_range range) (is_sound_number of) sound in
    over_good (codes "end") object range (number_words of) refl o p.0 (number_good of p.1)
call_good object (calls.Query range room) o sound all =
    let p = and_parts (is_sound_range range) (leb room 65536) sound in
    over_good (codes "query") object range (decimal room ∷ []) refl o p.0 (last_good (decimal room) (up_to room 65536 p.1 (omega arith)))
call_good object (calls.Stats reset) o sound all = rw (o, flag_word (codes "reset") (codes "keep") reset refl refl) refl
call_good object (calls.Hint range hints.Always) o sound all = over_good (codes "always") object range ([]) refl o sound refl
call_good object (calls.Hint range hints.Cold) o sound all = over_good (codes "cold") object range ([]) refl o sound refl
call_good object (calls.Pin range brought) o sound all = over_good (codes "pin") object range ([]) refl o (and_parts (is_sound_range range) (brings_nothing brought) sound).0 refl
call_good object (calls.Unpin range) o sound all = over_good (codes "unpin") object range ([]) refl o sound refl
call_good object (calls.Evict limit max) o sound all =
    let p = and_parts (leb limit 8) (leb max 65536) sound in
    rw (o, up_to limit 8 p.0 (omega arith), up_to max 65536 p.1 (omega arith)) refl
call_good object (calls.Borrow page brought) o sound all = rw (o, up_to page.0 2147483648 (and_parts (leb page.0 2147483648) (brings_nothing brought) sound).0 (omega arith)) refl
call_good object (calls.Vacate brought) o sound all = absurd cc
call_good object (calls.Resize pages) o sound all = rw (o, up_to pages 65536 sound (omega arith)) refl
call_good object (calls.Zero range) o sound all = over_good (codes "zero") object range ([]) refl o sound refl
call_good object calls.Detach o sound all = rw o refl
call_good object calls.Packet o sound all = rw o refl
call_good object (calls.Leave role) o sound all = rw o refl
call_good object (calls.Tell told) o sound all = absurd cc

call_bytes_good : (object : ℕ) (call : Call) → has_bytes (actions.Act object call) ≡ true → has_bytes (actions.Act 0 call) ≡ true
call_bytes_good object (calls.Supply range bytes brought) e = e
call_bytes_good object (calls.Read piece last brought) e = e
call_bytes_good object (calls.Write off bytes last brought) e = e
call_bytes_good object (calls.Retry ticket brought) e = e
call_bytes_good object (calls.Fail range code) e = e
call_bytes_good object (calls.Dirty range brought) e = e
call_bytes_good object (calls.Begin range zeros) e = e
call_bytes_good object (calls.End range of) e = e
call_bytes_good object (calls.Query range room) e = e
call_bytes_good object (calls.Stats reset) e = e
call_bytes_good object (calls.Hint range kind) e = e
call_bytes_good object (calls.Pin range brought) e = e
call_bytes_good object (calls.Unpin range) e = e
call_bytes_good object (calls.Evict limit max) e = e
call_bytes_good object (calls.Borrow page brought) e = e
call_bytes_good object (calls.Vacate brought) e = e
call_bytes_good object (calls.Resize pages) e = e
call_bytes_good object (calls.Zero range) e = e
call_bytes_good object calls.Detach e = e
call_bytes_good object calls.Packet e = e
call_bytes_good object (calls.Leave role) e = e
call_bytes_good object (calls.Tell told) e = e

one_word : (names : List (List ℕ)) (object : ℕ) → list_all is_name names ≡ true → ltb object (length names) ≡ true → is_word (word_at names object) ≡ true
one_word names object all e = name_word (word_at names object) (name_at names object all (ltb-true object (length names) e))

-- an action's words are words
pub action_good : (names : List (List ℕ)) (action : Action) → list_all is_name names ≡ true → is_sound_action (length names) action ≡ true → has_bytes action ≡ true → list_all is_word (action_words names action) ≡ true
action_good names actions.Go all sound bytes = refl
action_good names (actions.Read object off len) all sound bytes =
    let p = and_parts (ltb object (length names) && leb off 8796093022208) (is_within 1 65536 len) sound in
    let q = and_parts (ltb object (length names)) (leb off 8796093022208) p.0 in
    rw (one_word names object all q.0, up_to off 8796093022208 q.1 (omega arith), between 1 len 65536 p.1 (omega arith)) refl
action_good names (actions.Write object off list) all sound bytes =
    let p = and_parts (ltb object (length names) && leb off 8796093022208) (is_within 1 65536 (length list)) sound in
    let q = and_parts (ltb object (length names)) (leb off 8796093022208) p.0 in
    rw (one_word names object all q.0, up_to off 8796093022208 q.1 (omega arith), byte_list_word 1 65536 list p.1 (omega arith) (omega arith) bytes) refl
action_good names (actions.Act object call) all sound bytes =
    let p = and_parts (ltb object (length names)) (is_sound_call call) sound in
    call_good (word_at names object) call (one_word names object all p.0) p.1 (call_bytes_good object call bytes)
action_good names (actions.Sync object) all sound bytes = rw (one_word names object all sound) refl
action_good names (actions.Turn object steps) all sound bytes =
    let p = and_parts (ltb object (length names)) (is_within 1 4096 steps) sound in
    rw (one_word names object all p.0, between 1 steps 4096 p.1 (omega arith)) refl
action_good names actions.Age all sound bytes = refl
action_good names actions.Watch all sound bytes = refl
action_good names (actions.Relieve frames) all sound bytes = rw (between 1 frames 16384 sound (omega arith)) refl
action_good names actions.Recall all sound bytes = refl
action_good names actions.Lend all sound bytes = refl
