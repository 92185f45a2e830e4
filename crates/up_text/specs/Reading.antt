-- Which journals a text spells, or its first fault.
use Rattle.std.specs.Prelude.{ℕ, ◌+◌, ◌==◌, ◌&&◌, ◌++◌, Bool, true, false, cond, not, List, [], ◌∷◌, Option, Some, None, Result, Ok, Err, codes, drop, length, nat_le, nat_lt}
use Rattle.std.specs.List.{list_any}
use Rattle.std.specs.Str.{bytes_eq}
use Rattle.up_model.specs.declared.entry.Birth.{Birth}
use Rattle.up_model.specs.declared.entry.Entry.{Entry}
use Rattle.up_words.specs.ReadSteps.{◌>>=◌, check, or_why, at_line, lines_from}
use Rattle.up_words.specs.Words.{split, words_in, word_at, word_is, verb_is}
use Rattle.up_words.specs.Numbers.{number_between}
use Rattle.up_words.specs.Names.{is_name}
use Rattle.up_words.specs.declared.fault.Fault.{Fault}
use Rattle.up_words.specs.declared.fault.Why.{Why}
use Rattle.up_words.specs.declared.fault.Why.TheVariants as why
use Rattle.up_fields.specs.Limits.{all_tickets, all_counts, all_sizes, most_bytes}
use Rattle.up_text.specs.Limits.{all_actors, longest_text, most_journals}
use Rattle.up_fields.specs.Fields.{flag_in, total_of}
use Rattle.up_calls.specs.Kinds.{call_size}
use Rattle.up_calls.specs.Calls.{call_kind, call_in, call_of}
use Rattle.up_replies.specs.Replies.{reply_kind, list_fits, reply_in, reply_of}
use Rattle.up_text.specs.Text.{header}
use Rattle.up_text.specs.Versions.{Versioned, has_numbers}
use Rattle.up_text.specs.declared.entries.Spelled.{Spelled}
use Rattle.up_text.specs.declared.entries.Forms.{Forms}
use Rattle.up_text.specs.declared.journals.Named.{Named}
use Rattle.up_text.specs.declared.section.Part.{Part}
use Rattle.up_text.specs.declared.section.Section.{Section}
use Rattle.up_text.specs.declared.section.Section.TheVariants as sections

-- the words of an entry's call and what follows, behind its place, its caller and its epoch
abbrev pub call_part : List (List ℕ) → List (List ℕ)
call_part words = drop 3 words

-- the words of an entry's reply, behind a call of so many words and the arrow
abbrev pub reply_part : ℕ → List (List ℕ) → List (List ℕ)
reply_part size words = drop (size + 4) words

-- The forms of an entry's call and reply: all of its words that are fixed, and how many words it has. The text may have numbers of begins, and the
-- journal may be numbered.
abbrev pub forms_in : Bool → Bool → List (List ℕ) → Result Forms Why
forms_in numbers numbered words = do
  call ← or_why why.Word (call_kind numbered (call_part words))
  arrow ← check why.Word (word_is (call_part words) (call_size call) (codes "->"))
  reply ← or_why why.Word (reply_kind numbers (reply_part (call_size call) words))
  fits ← check why.Word (list_fits reply (reply_part (call_size call) words))
  Ok (record { call = call; reply = reply })

-- An entry's words: first what is fixed, then the values from the left, then its place, which is the next one.
abbrev pub entry_in : Bool → Bool → ℕ → List (List ℕ) → Result Spelled Why
entry_in numbers numbered next words = do
  forms ← forms_in numbers numbered words
  position ← number_between 0 all_tickets (word_at words 0)
  who ← number_between 0 all_counts (word_at words 1)
  epoch ← number_between 0 all_tickets (word_at words 2)
  call ← call_in forms.call (call_part words)
  reply ← reply_in forms.reply (reply_part (call_size forms.call) words)
  order ← check why.Order (position == next)
  Ok (record { who = who; epoch = epoch; call = call; reply = reply })

-- how many bytes the byte lists of an entry spell
abbrev pub spelled_bytes : Spelled → ℕ
spelled_bytes entry = total_of entry.call.bytes + total_of entry.reply.bytes

-- the entry that was spelled, with its bytes
abbrev pub entry_of : Spelled → Entry
entry_of entry = record { who = entry.who; epoch = entry.epoch; call = call_of entry.call; reply = reply_of entry.reply }

-- one entry more, where there is room for its bytes
abbrev pub entry_line : Bool → Part → Named → List (List ℕ) → Result Section Why
entry_line numbers part current words = do
  entry ← entry_in numbers current.birth.numbered (length current.entries) words
  room ← check why.Limit (nat_le (part.bytes + spelled_bytes entry) most_bytes)
  Ok (sections.Within (record part { bytes = part.bytes + spelled_bytes entry }) (record current { entries = current.entries ++ entry_of entry ∷ [] }))

-- one of these journals has the name
abbrev pub has_name : List Named → List ℕ → Bool
has_name journals name = list_any (λ journal. bytes_eq journal.name name) journals

-- the greatest number of pages that a resize may give, or - for a fixed size
abbrev pub limit_in : ℕ → List ℕ → Result (Option ℕ) Why
limit_in pages word =
    cond (bytes_eq word (codes "-")) (Ok None)
    (number_between pages all_sizes word >>= λ most. Ok (Some most))

-- whether the journal is numbered; where the text doesn't say so, it isn't
abbrev pub mode_in : Bool → List ℕ → Option Bool
mode_in false word = Some false
mode_in true word = flag_in (codes "numbered") (codes "ranged") word

-- how many words the line that begins a journal has
abbrev pub birth_size : Bool → ℕ
birth_size numbers = cond numbers 9 8

-- what an object was born with
abbrev pub birth_in : List (List ℕ) → Bool → Bool → Bool → Result Birth Why
birth_in words trap image numbered = do
  pages ← number_between 0 all_sizes (word_at words 2)
  limit ← limit_in pages (word_at words 3)
  users ← number_between 1 all_actors (word_at words 5)
  pagers ← number_between 1 all_actors (word_at words 6)
  Ok (record { pages = pages; limit = limit; trap = trap; users = users; pagers = pagers; image = image; numbered = numbered })

-- the line that begins a journal: its name is a new one
abbrev pub journal_line : Bool → Part → List (List ℕ) → Result Section Why
journal_line numbers part words = do
  trap ← or_why why.Word (flag_in (codes "trap") (codes "free") (word_at words 4))
  image ← or_why why.Word (flag_in (codes "image") (codes "-") (word_at words 7))
  numbered ← or_why why.Word (mode_in numbers (word_at words 8))
  named ← check why.Name (is_name (word_at words 1) && not (has_name part.journals.list (word_at words 1)))
  birth ← birth_in words trap image numbered
  few ← check why.Limit (nat_lt (length part.journals.list) most_journals)
  Ok (sections.Within part (record { name = word_at words 1; birth = birth; entries = [] }))

-- the line that ends a journal: the number of its entries
abbrev pub end_line : Part → Named → List (List ℕ) → Result Section Why
end_line part current words = do
  shaped ← check why.Word (length words == 2)
  count ← number_between 0 all_tickets (word_at words 1)
  order ← check why.Order (count == length current.entries)
  Ok (sections.Between (record part { journals = record part.journals { list = part.journals.list ++ current ∷ [] } }))

-- a line by its words, where a journal may begin
abbrev pub between_line : Bool → Part → List (List ℕ) → Result Section Why
between_line numbers part words =
    cond (verb_is words 0 (codes "done") 1) (Ok (sections.Ended part.journals))
    (cond (verb_is words 0 (codes "journal") (birth_size numbers)) (journal_line numbers part words) (Err why.Word))

-- a line by its words, in a journal
abbrev pub within_line : Bool → Part → Named → List (List ℕ) → Result Section Why
within_line numbers part current words = cond (word_is words 0 (codes "end")) (end_line part current words) (entry_line numbers part current words)

-- before the first journal
abbrev pub nothing_read : ℕ → Part
nothing_read version = record { journals = record { version = version; list = [] }; bytes = 0 }

-- the version that the first line names
abbrev pub version_in : List ℕ → Result ℕ Why
version_in line = cond (bytes_eq line (header false)) (Ok 1) (cond (bytes_eq line (header true)) (Ok 2) (Err why.Header))

-- a line, after those before it
abbrev pub line_step : Section → List ℕ → Result Section Why
line_step sections.Header line = do
  version ← version_in line
  Ok (sections.Between (nothing_read version))
line_step (sections.Between part) line = words_in line >>= λ words. between_line (has_numbers part.journals.version) part words
line_step (sections.Within part current) line = words_in line >>= λ words. within_line (has_numbers part.journals.version) part current words
line_step (sections.Ended journals) line = Err why.Word

-- the journals, where the line done stood last; a text without a line has no header
abbrev pub ended : Section → Result (Versioned) Why
ended sections.Header = Err why.Header
ended (sections.Ended journals) = Ok journals
ended _ = Err why.Cut

-- what stands behind the last newline: nothing
abbrev pub last_step : Section → List ℕ → Result (Versioned) Why
last_step section rest = do
  whole ← check why.Cut (length rest == 0)
  ended section

-- all lines of a text from this number on
abbrev pub lines_of : ℕ → Section → List (List ℕ) → Result (Versioned) Fault
lines_of number section lines = lines_from (λ line. line_step) (λ line. last_step) number section lines

-- the journals that a text spells, or its first fault
abbrev pub journals_of : List ℕ → Result (Versioned) Fault
journals_of bytes = do
  short ← at_line 0 (check why.Long (nat_le (length bytes) longest_text))
  lines_of 1 sections.Header (split 10 bytes)
