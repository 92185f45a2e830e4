-- What a journal's text can spell: which names, numbers and byte lists it may have.
use Rattle.std.specs.Prelude.{ℕ, ◌+◌, ◌&&◌, ◌||◌, Bool, true, Option, Some, None, List, [], ◌∷◌, ◌++◌, length, nat_le, not}
use Rattle.std.specs.List.{list_all, sum_by}
use Rattle.up_words.specs.Names.{is_name}
use Rattle.up_model.specs.declared.entry.Birth.{Birth}
use Rattle.up_model.specs.declared.entry.Entry.{Entry}
use Rattle.up_fields.specs.Limits.{all_tickets, all_counts, all_sizes, most_bytes}
use Rattle.up_text.specs.Limits.{all_actors, longest_text, most_journals}
use Rattle.up_text.specs.Text.{text}
use Rattle.up_text.specs.Versions.{Versioned, is_version, has_numbers}
use Rattle.up_text.specs.Reading.{has_name}
use Rattle.up_text.specs.declared.journals.Named.{Named}
use Rattle.up_calls.specs.Allowed.{call_allowed, call_bytes, is_formed}
use Rattle.up_fields.specs.Allowed.{lies}
use Rattle.up_replies.specs.Allowed.{reply_allowed, reply_bytes, is_known}

-- the call has the form of its journal, and the reply is one of its text
abbrev pub deed_known : Bool → Bool → Entry → Bool
deed_known numbers numbered e = is_formed numbered e.call && is_known numbers e.reply

-- the entry has a text, with or without numbers of begins, in a journal that is numbered or isn't
abbrev pub entry_allowed : Bool → Bool → Entry → Bool
entry_allowed numbers numbered e =
    lies 0 all_counts e.who && (lies 0 all_tickets e.epoch && (call_allowed e.call && (reply_allowed e.reply && deed_known numbers numbered e)))

-- a limit is at least the size
abbrev pub limit_allowed : ℕ → Option ℕ → Bool
limit_allowed pages None = true
limit_allowed pages (Some most) = lies pages all_sizes most

-- a journal is numbered only where its text says so
abbrev pub mode_allowed : Bool → Bool → Bool
mode_allowed numbers numbered = numbers || not numbered

abbrev pub birth_allowed : Bool → Birth → Bool
birth_allowed numbers birth =
    lies 0 all_sizes birth.pages && (limit_allowed birth.pages birth.limit && (lies 1 all_actors birth.users && (lies 1 all_actors birth.pagers && mode_allowed numbers birth.numbered)))

-- the journal has a text, with or without numbers of begins
abbrev pub journal_allowed : Bool → Named → Bool
journal_allowed numbers journal =
    is_name journal.name && (birth_allowed numbers journal.birth && (list_all (entry_allowed numbers journal.birth.numbered) journal.entries && nat_le (length journal.entries) all_tickets))

-- no journal has the name of one before it, where these stand before them all
unfoldable pub are_new : List Named → List Named → Bool
are_new before [] = true
are_new before (journal ∷ journals) = not (has_name before journal.name) && are_new (before ++ journal ∷ []) journals

-- each of the journals has a text of their version
abbrev pub have_texts : Versioned → Bool
have_texts journals = is_version journals.version && list_all (journal_allowed (has_numbers journals.version)) journals.list

-- the journals have a text: each has one, and their names differ
abbrev pub are_allowed : Versioned → Bool
are_allowed journals = have_texts journals && are_new [] journals.list

abbrev pub entry_bytes : Entry → ℕ
entry_bytes e = call_bytes e.call + reply_bytes e.reply

-- how many bytes the byte lists of a journal have
abbrev pub journal_bytes : Named → ℕ
journal_bytes journal = sum_by entry_bytes journal.entries

-- the journals have a text that isn't too long, they aren't too many, and nor are their bytes
abbrev pub are_within : Versioned → Bool
are_within journals =
    are_allowed journals && (nat_le (length (text journals)) longest_text && (nat_le (length journals.list) most_journals && nat_le (sum_by journal_bytes journals.list) most_bytes))
