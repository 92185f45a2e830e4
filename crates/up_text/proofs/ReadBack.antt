-- Journals are read back from their text.
use Rattle.std.proofs.Common.{◌≡◌, ℕ, ◌+◌, ◌^◌, ◌<◌, ◌≤◌, ⊎_elim, subst, Bool, true, false, ◌&&◌, ◌||◌, ◌⊎◌, inl, inr, eqb, leb, not, List, [], ◌∷◌, ◌++◌, length, Result, Ok, refl, sym, ap, ap₂, ◌∙◌, append_assoc, append-nil, arith}
use Rattle.std.specs.Fmt.{decimal}
use Rattle.std.specs.Prelude.{codes}
use Rattle.std.specs.List.{list_all, sum_by, flat_map}
use Rattle.std.proofs.lemmas.Bool.{and_parts, eq-eqb, eqb-true, leb-true, le-leb, lt-ltb, not-true}
use Rattle.std.proofs.lemmas.List.{length-append}
use Rattle.std.proofs.lemmas.List.Sums.{sum_by-cons}
use Rattle.std.proofs.lemmas.List.Concat.{flat_map-cons}
use Rattle.up_model.specs.declared.entry.Birth.{Birth}
use Rattle.up_model.specs.declared.entry.Entry.{Entry}
use Rattle.up_words.specs.ReadSteps.{◌>>=◌, at_line}
use Rattle.up_words.specs.Words.{split, is_word}
use Rattle.up_words.specs.Names.{is_name}
use Rattle.up_words.specs.declared.fault.Why.{Why}
use Rattle.up_words.proofs.Decimals.{both}
use Rattle.up_fields.specs.Limits.{all_tickets, most_bytes}
use Rattle.up_text.specs.Limits.{longest_text, most_journals}
use Rattle.up_fields.specs.Text.{line_of, line_text}
use Rattle.up_text.specs.Text.{entry_words, birth_words, entries_text, end_words, journal_text, header, text}
use Rattle.up_text.specs.Versions.{Versioned, is_version, has_numbers}
use Rattle.up_text.specs.Reading.{has_name, birth_size, between_line, version_in, line_step, lines_of}
use Rattle.up_fields.specs.Allowed.{lies}
use Rattle.up_text.specs.Allowed.{entry_allowed, birth_allowed, journal_allowed, are_new, have_texts, are_allowed, entry_bytes, journal_bytes}
use Rattle.up_text.specs.Laws.{ReadsItsText}
use Rattle.up_text.specs.declared.journals.Named.{Named}
use Rattle.up_text.specs.declared.section.Part.{Part}
use Rattle.up_text.specs.declared.section.Section.{Section}
use Rattle.up_text.specs.declared.section.Section.TheVariants as sections
use Rattle.up_text.proofs.Lines.{lines_more, lines_last}
use Rattle.up_fields.proofs.Values.{other_first, first_digit, number_again, number_word, flag_again}
use Rattle.up_fields.proofs.Listed.{is_free}
use Rattle.up_fields.proofs.Sentences.{words_again, line_free, split_line}
use Rattle.up_text.proofs.EntryForms.{entry_good, entry_again, birth_parts, mode_again, birth_again, birth_good, birth_long}

-- the journals so far, in this version, and how many bytes they have
abbrev so_far : ℕ → List Named → ℕ → Part
so_far version journals bytes = record { journals = record { version = version; list = journals }; bytes = bytes }

-- the journals and the open one, after so many bytes
abbrev between : ℕ → List Named → ℕ → Section
between version journals bytes = sections.Between (so_far version journals bytes)

abbrev within : ℕ → List Named → ℕ → List ℕ → Birth → List Entry → Section
within version journals bytes name birth entries = sections.Within (so_far version journals bytes) (record { name = name; birth = birth; entries = entries })

-- one line goes by
one_line : (n : ℕ) (s t : Section) (line rest : List ℕ) → is_free 10 line ≡ true → line_step s line ≡ Ok t → lines_of n s (split 10 ((line ++ 10 ∷ []) ++ rest)) ≡ lines_of (n + 1) t (split 10 rest)
one_line n s t line rest free e = ap (lines_of n s) (split_line line rest free) ∙ lines_more n s t line rest (ap (at_line n) e)

-- the line of an entry
entry_step : (version : ℕ) (journals : List Named) (bytes : ℕ) (name : List ℕ) (birth : Birth) (entries : List Entry) (e : Entry) → length entries ≤ all_tickets → entry_allowed (has_numbers version) birth.numbered e ≡ true → bytes + entry_bytes e ≤ most_bytes
    → line_step (within version journals bytes name birth entries) (line_of (entry_words (length entries) e)) ≡ Ok (within version journals (bytes + entry_bytes e) name birth (entries ++ e ∷ []))
entry_step version journals bytes name birth entries e few a room =
    let again = entry_again (has_numbers version) birth.numbered (length entries) e few a (omega (arith, room)) in
    let fits : length entries < 2 ^ 64 = omega (arith, few) in
    let not_end = other_first (decimal (length entries)) (codes "end") (λ same. omega (arith, (first_digit (length entries) fits).1, same)) in
    let enough : leb (bytes + entry_bytes e) most_bytes ≡ true = le-leb (bytes + entry_bytes e) most_bytes room in
    rw (words_again (entry_words (length entries) e) (omega arith) (entry_good (has_numbers version) birth.numbered (length entries) e fits a), not_end, again.read, again.total, enough, again.same) refl

-- the lines of entries
entries_again : (version : ℕ) (journals : List Named) (bytes : ℕ) (name : List ℕ) (birth : Birth) (entries es : List Entry) (n : ℕ) (rest : List ℕ) → list_all (entry_allowed (has_numbers version) birth.numbered) es ≡ true → length entries + length es ≤ all_tickets → bytes + sum_by entry_bytes es ≤ most_bytes
    → (m : ℕ) × (lines_of n (within version journals bytes name birth entries) (split 10 (entries_text (length entries) es ++ rest)) ≡ lines_of m (within version journals (bytes + sum_by entry_bytes es) name birth (entries ++ es)) (split 10 rest))
unfolding entries_text
entries_again version journals bytes name birth entries [] n rest all few room =
    let same : bytes + sum_by entry_bytes [] ≡ bytes = omega arith in
    (n, ap₂ (λ b es. lines_of n (within version journals b name birth es) (split 10 rest)) (sym same) (sym (append-nil entries)))
entries_again version journals bytes name birth entries (e ∷ es) n rest all few room =
    let p = and_parts (entry_allowed (has_numbers version) birth.numbered e) (list_all (entry_allowed (has_numbers version) birth.numbered) es) all in
    let sum = sum_by-cons entry_bytes e es in
    let line = line_of (entry_words (length entries) e) in
    let fits : length entries < 2 ^ 64 = omega (arith, few) in
    let longer : length (entries ++ e ∷ []) ≡ length entries + 1 = omega (arith, length-append entries (e ∷ [])) in
    let step = one_line n (within version journals bytes name birth entries) (within version journals (bytes + entry_bytes e) name birth (entries ++ e ∷ [])) line (entries_text (length entries + 1) es ++ rest)
    (line_free (entry_words (length entries) e) (entry_good (has_numbers version) birth.numbered (length entries) e fits p.0)) (entry_step version journals bytes name birth entries e (omega (arith, few)) p.0 (omega (arith, room, sum))) in
    let more = entries_again version journals (bytes + entry_bytes e) name birth (entries ++ e ∷ []) es (n + 1) rest p.1 (omega (arith, few, longer)) (omega (arith, room, sum)) in
    let total : bytes + entry_bytes e + sum_by entry_bytes es ≡ bytes + sum_by entry_bytes (e ∷ es) = omega (arith, sum) in (
      more.0,
      ap (λ b. lines_of n (within version journals bytes name birth entries) (split 10 b)) (append_assoc (line_text (entry_words (length entries) e)) (entries_text (length entries + 1) es) rest) ∙ step
          ∙ ap (λ k. lines_of (n + 1) (within version journals (bytes + entry_bytes e) name birth (entries ++ e ∷ [])) (split 10 (entries_text k es ++ rest))) (sym longer) ∙ more.1
          ∙ ap₂ (λ b xs. lines_of more.0 (within version journals b name birth xs) (split 10 rest)) total (append_assoc entries (e ∷ []) es),
    )

-- what an allowed journal's fields are
pub record IsJournal (numbers : Bool) (journal : Named) : Type 0 where
  pub name : is_name journal.name ≡ true
  pub birth : birth_allowed numbers journal.birth ≡ true
  pub entries : list_all (entry_allowed numbers journal.birth.numbered) journal.entries ≡ true
  pub few : length journal.entries ≤ all_tickets

pub journal_parts : (numbers : Bool) (journal : Named) → journal_allowed numbers journal ≡ true → IsJournal numbers journal
journal_parts numbers journal a =
    let all = list_all (entry_allowed numbers journal.birth.numbered) journal.entries in
    let p = and_parts (is_name journal.name) (birth_allowed numbers journal.birth && (all && leb (length journal.entries) all_tickets)) a in
    let q = and_parts (birth_allowed numbers journal.birth) (all && leb (length journal.entries) all_tickets) p.1 in
    let r = and_parts all (leb (length journal.entries) all_tickets) q.1 in
    record { name = p.0; birth = q.0; entries = r.0; few = leb-true (length journal.entries) all_tickets r.1 }

-- the line that begins a journal
birth_line : (numbers : Bool) (part : Part) (name : List ℕ) (birth : Birth) → is_name name ≡ true → birth_allowed numbers birth ≡ true → has_name part.journals.list name ≡ false → length part.journals.list < most_journals
    → between_line numbers part (birth_words numbers name birth) ≡ Ok (sections.Within part (record { name = name; birth = birth; entries = [] }))
birth_line numbers part name birth named a new few =
    rw (
      eq-eqb (length (birth_words numbers name birth)) (birth_size numbers) (birth_long numbers name birth),
      flag_again (codes "trap") (codes "free") birth.trap refl refl refl,
      flag_again (codes "image") (codes "-") birth.image refl refl refl,
      mode_again numbers birth.numbered (birth_parts numbers birth a).mode,
      named,
      new,
      birth_again numbers name birth a,
      lt-ltb (length part.journals.list) most_journals few,
    ) refl

birth_step : (version : ℕ) (journals : List Named) (bytes : ℕ) (name : List ℕ) (birth : Birth) → is_name name ≡ true → birth_allowed (has_numbers version) birth ≡ true → has_name journals name ≡ false → length journals < most_journals
    → line_step (between version journals bytes) (line_of (birth_words (has_numbers version) name birth)) ≡ Ok (within version journals bytes name birth [])
birth_step version journals bytes name birth named a new few =
    ap (λ (r : Result (List (List ℕ)) Why). r >>= λ words. between_line (has_numbers version) (so_far version journals bytes) words) (words_again (birth_words (has_numbers version) name birth) (omega arith) (birth_good (has_numbers version) name birth named a))
    ∙ birth_line (has_numbers version) (so_far version journals bytes) name birth named a new few

-- the words of the line that ends a journal are words
pub end_good : (count : ℕ) → count < 2 ^ 64 → list_all is_word (end_words count) ≡ true
end_good count fits = rw (number_word count fits) refl

-- the line that ends a journal
end_step : (version : ℕ) (journals : List Named) (bytes : ℕ) (name : List ℕ) (birth : Birth) (entries : List Entry) → length entries ≤ all_tickets
    → line_step (within version journals bytes name birth entries) (line_of (end_words (length entries))) ≡ Ok (between version (journals ++ record { name = name; birth = birth; entries = entries } ∷ []) bytes)
end_step version journals bytes name birth entries few =
    let place : lies 0 all_tickets (length entries) ≡ true = both (leb 0 (length entries)) (leb (length entries) all_tickets) (le-leb 0 (length entries) (omega arith)) (le-leb (length entries) all_tickets few) in
    rw (words_again (end_words (length entries)) (omega arith) (end_good (length entries) (omega (arith, few))), number_again 0 all_tickets (length entries) (omega arith) place, eq-eqb (length entries) (length entries) refl) refl

-- the lines of one journal
journal_again : (version : ℕ) (journals : List Named) (bytes : ℕ) (journal : Named) (n : ℕ) (rest : List ℕ) → journal_allowed (has_numbers version) journal ≡ true → has_name journals journal.name ≡ false → length journals < most_journals → bytes + journal_bytes journal ≤ most_bytes
    → (m : ℕ) × (lines_of n (between version journals bytes) (split 10 (journal_text (has_numbers version) journal ++ rest)) ≡ lines_of m (between version (journals ++ journal ∷ []) (bytes + journal_bytes journal)) (split 10 rest))
journal_again version journals bytes journal n rest a new few room =
    let parts = journal_parts (has_numbers version) journal a in
    let first = line_text (birth_words (has_numbers version) journal.name journal.birth) in
    let middle = entries_text 0 journal.entries in
    let last = line_text (end_words (length journal.entries)) in
    let cut : (first ++ middle ++ last) ++ rest ≡ first ++ (middle ++ (last ++ rest)) = append_assoc (first ++ middle) last rest ∙ append_assoc first middle (last ++ rest) in
    let begins = one_line n (between version journals bytes) (within version journals bytes journal.name journal.birth []) (line_of (birth_words (has_numbers version) journal.name journal.birth)) (middle ++ (last ++ rest))
    (line_free (birth_words (has_numbers version) journal.name journal.birth) (birth_good (has_numbers version) journal.name journal.birth parts.name parts.birth)) (birth_step version journals bytes journal.name journal.birth parts.name parts.birth new few) in
    let goes = entries_again version journals bytes journal.name journal.birth [] journal.entries (n + 1) (last ++ rest) parts.entries (omega (arith, parts.few)) room in
    let ends = one_line goes.0 (within version journals (bytes + journal_bytes journal) journal.name journal.birth journal.entries) (between version (journals ++ journal ∷ []) (bytes + journal_bytes journal)) (line_of (end_words (length journal.entries))) rest
    (line_free (end_words (length journal.entries)) (end_good (length journal.entries) (omega (arith, parts.few)))) (end_step version journals (bytes + journal_bytes journal) journal.name journal.birth journal.entries parts.few) in
    (goes.0 + 1, ap (λ b. lines_of n (between version journals bytes) (split 10 b)) cut ∙ begins ∙ goes.1 ∙ ends)

-- the lines of some journals
journals_again : (version : ℕ) (done : List Named) (bytes : ℕ) (journals : List Named) (n : ℕ) (rest : List ℕ) → list_all (journal_allowed (has_numbers version)) journals ≡ true → are_new done journals ≡ true → length done + length journals ≤ most_journals → bytes + sum_by journal_bytes journals ≤ most_bytes
    → (m : ℕ) × (b : ℕ) × (lines_of n (between version done bytes) (split 10 (flat_map (journal_text (has_numbers version)) journals ++ rest)) ≡ lines_of m (between version (done ++ journals) b) (split 10 rest))
unfolding are_new
journals_again version done bytes [] n rest all new few room = (n, bytes, ap (λ js. lines_of n (between version js bytes) (split 10 rest)) (sym (append-nil done)))
journals_again version done bytes (journal ∷ journals) n rest all new few room =
    let p = and_parts (journal_allowed (has_numbers version) journal) (list_all (journal_allowed (has_numbers version)) journals) all in
    let q = and_parts (not (has_name done journal.name)) (are_new (done ++ journal ∷ []) journals) new in
    let sum = sum_by-cons journal_bytes journal journals in
    let longer : length (done ++ journal ∷ []) ≡ length done + 1 = omega (arith, length-append done (journal ∷ [])) in
    let first = journal_again version done bytes journal n (flat_map (journal_text (has_numbers version)) journals ++ rest) p.0 (not-true (has_name done journal.name) q.0) (omega (arith, few)) (omega (arith, room, sum)) in
    let more = journals_again version (done ++ journal ∷ []) (bytes + journal_bytes journal) journals first.0 rest p.1 q.1 (omega (arith, few, longer)) (omega (arith, room, sum)) in
    let cut : flat_map (journal_text (has_numbers version)) (journal ∷ journals) ++ rest ≡ journal_text (has_numbers version) journal ++ (flat_map (journal_text (has_numbers version)) journals ++ rest) =
    ap (λ b. b ++ rest) (flat_map-cons (journal_text (has_numbers version)) journal journals) ∙ append_assoc (journal_text (has_numbers version) journal) (flat_map (journal_text (has_numbers version)) journals) rest in
    (more.0, more.1, ap (λ b. lines_of n (between version done bytes) (split 10 b)) cut ∙ first.1 ∙ more.2 ∙ ap (λ js. lines_of more.0 (between version js more.1) (split 10 rest)) (append_assoc done (journal ∷ []) journals))

-- the first line tells the version
pub version_is : (version : ℕ) → is_version version ≡ true → (version ≡ 1) ⊎ (version ≡ 2)
version_is version e = by (eqb version 1) (eqb version 2) refl refl e
  where
    by : (one two : Bool) → eqb version 1 ≡ one → eqb version 2 ≡ two → (one || two) ≡ true → (version ≡ 1) ⊎ (version ≡ 2)
    by true two f g e = inl (eqb-true version 1 f)
    by false true f g e = inr (eqb-true version 2 g)
    by false false f g e = absurd cc

abbrev Reads : ℕ → Type 0
Reads v = version_in (header (has_numbers v)) ≡ Ok v

pub header_reads : (version : ℕ) → is_version version ≡ true → version_in (header (has_numbers version)) ≡ Ok version
header_reads version e = ⊎_elim (λ one. subst Reads (sym one) refl) (λ two. subst Reads (sym two) refl) (version_is version e)

header_step : (version : ℕ) → is_version version ≡ true → line_step sections.Header (header (has_numbers version)) ≡ Ok (between version [] 0)
header_step version e = rw (header_reads version e) refl

pub header_free : (numbers : Bool) → is_free 10 (header numbers) ≡ true
header_free true = refl
header_free false = refl

done_step : (version : ℕ) (journals : List Named) (bytes : ℕ) → line_step (between version journals bytes) (line_of (codes "done" ∷ [])) ≡ Ok (sections.Ended (record { version = version; list = journals }))
done_step version journals bytes = ap (λ (r : Result (List (List ℕ)) Why). r >>= λ words. between_line (has_numbers version) (so_far version journals bytes) words) (words_again (codes "done" ∷ []) (omega arith) refl)

-- behind the line done nothing stands
end_again : (n : ℕ) (journals : Versioned) → lines_of n (sections.Ended journals) (split 10 []) ≡ Ok journals
end_again n journals = lines_last n (sections.Ended journals) []

text_again : (journals : Versioned) → are_allowed journals ≡ true → length journals.list ≤ most_journals → sum_by journal_bytes journals.list ≤ most_bytes → lines_of 1 sections.Header (split 10 (text journals)) ≡ Ok journals
text_again journals a few room =
    let version = journals.version in
    let numbers = has_numbers version in
    let list = journals.list in
    let p = and_parts (have_texts journals) (are_new [] list) a in
    let q = and_parts (is_version version) (list_all (journal_allowed numbers) list) p.0 in
    let middle = flat_map (journal_text numbers) list in
    let last = line_text (codes "done" ∷ []) in
    let begins = one_line 1 sections.Header (between version [] 0) (header numbers) (middle ++ last) (header_free numbers) (header_step version q.0) in
    let goes = journals_again version [] 0 list 2 last q.1 p.1 (omega (arith, few)) (omega (arith, room)) in
    let ends = one_line goes.0 (between version list goes.1) (sections.Ended journals) (line_of (codes "done" ∷ [])) [] (line_free (codes "done" ∷ []) refl) (done_step version list goes.1) in
    ap (λ b. lines_of 1 sections.Header (split 10 b)) (append_assoc (header numbers ++ codes "\n") middle (codes "done\n")) ∙ begins ∙ goes.2
    ∙ ap (λ b. lines_of goes.0 (between version list goes.1) (split 10 b)) (sym (append-nil last)) ∙ ends ∙ end_again (goes.0 + 1) journals

-- the text of journals within the limits is read as these journals
pub back : ReadsItsText
back journals e =
    let p = and_parts (are_allowed journals) (leb (length (text journals)) longest_text && (leb (length journals.list) most_journals && leb (sum_by journal_bytes journals.list) most_bytes)) e in
    let q = and_parts (leb (length (text journals)) longest_text) (leb (length journals.list) most_journals && leb (sum_by journal_bytes journals.list) most_bytes) p.1 in
    let r = and_parts (leb (length journals.list) most_journals) (leb (sum_by journal_bytes journals.list) most_bytes) q.1 in
    rw q.0 (text_again journals p.0 (leb-true (length journals.list) most_journals r.0) (leb-true (sum_by journal_bytes journals.list) most_bytes r.1))
