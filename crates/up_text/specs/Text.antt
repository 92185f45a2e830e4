-- The text of journals: lines, each with its newline, of words with a space between each two.
use Rattle.std.specs.Prelude.{ℕ, ◌+◌, Bool, true, false, cond, Option, Some, None, List, [], ◌∷◌, ◌++◌, length, decimal, codes}
use Rattle.std.specs.List.{flat_map}
use Rattle.up_model.specs.declared.entry.Birth.{Birth}
use Rattle.up_model.specs.declared.entry.Entry.{Entry}
use Rattle.up_text.specs.declared.journals.Named.{Named}
use Rattle.up_text.specs.Versions.{Versioned, has_numbers}
use Rattle.up_calls.specs.Text.{call_words}
use Rattle.up_fields.specs.Text.{flag_text, line_text}
use Rattle.up_replies.specs.Text.{reply_words}

-- an entry's words: its place in the journal, who called in which epoch, the call and the reply
abbrev pub entry_words : ℕ → Entry → List (List ℕ)
entry_words position e = decimal position ∷ decimal e.who ∷ decimal e.epoch ∷ call_words e.call ++ codes "->" ∷ reply_words e.reply

-- the greatest number of pages that a resize may give, or - for a fixed size
abbrev pub limit_text : Option ℕ → List ℕ
limit_text None = codes "-"
limit_text (Some pages) = decimal pages

-- whether the journal is numbered, where the text says so
abbrev pub mode_words : Bool → Bool → List (List ℕ)
mode_words false numbered = []
mode_words true numbered = flag_text (codes "numbered") (codes "ranged") numbered ∷ []

-- the words of the line that begins an object's journal, in a text with or without numbers of begins
abbrev pub birth_words : Bool → List ℕ → Birth → List (List ℕ)
birth_words numbers name birth =
    codes "journal" ∷ name ∷ decimal birth.pages ∷ limit_text birth.limit ∷ flag_text (codes "trap") (codes "free") birth.trap
    ∷ decimal birth.users ∷ decimal birth.pagers ∷ flag_text (codes "image") (codes "-") birth.image ∷ mode_words numbers birth.numbered

-- the lines of entries, of which the first stands at this place
unfoldable pub entries_text : ℕ → List Entry → List ℕ
entries_text position [] = []
entries_text position (e ∷ es) = line_text (entry_words position e) ++ entries_text (position + 1) es

-- the line that ends a journal of so many entries
abbrev pub end_words : ℕ → List (List ℕ)
end_words count = codes "end" ∷ decimal count ∷ []

-- the lines of one journal
abbrev pub journal_text : Bool → Named → List ℕ
journal_text numbers journal = line_text (birth_words numbers journal.name journal.birth) ++ entries_text 0 journal.entries ++ line_text (end_words (length journal.entries))

-- the first line
abbrev pub header : Bool → List ℕ
header numbers = cond numbers (codes "pagerd-journal 2") (codes "pagerd-journal 1")

-- the text of journals, with or without numbers of begins
abbrev pub text_with : Bool → List Named → List ℕ
text_with numbers journals = (header numbers ++ codes "\n") ++ flat_map (journal_text numbers) journals ++ codes "done\n"

-- the text of journals, in its version
abbrev pub text : Versioned → List ℕ
text journals = text_with (has_numbers journals.version) journals.list
