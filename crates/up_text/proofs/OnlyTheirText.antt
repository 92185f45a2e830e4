-- No other text is read as some journals than theirs.
use Rattle.std.proofs.Common.{◌≡◌, ℕ, ◌+◌, Bool, true, false, ◌&&◌, ⊎_elim, eqb, leb, ltb, not, cond, List, [], ◌∷◌, ◌++◌, length, Result, Ok, Err, refl, sym, ap, subst, ◌∙◌, append_assoc, append-nil, arith}
use Rattle.std.specs.Fmt.{decimal}
use Rattle.std.specs.Prelude.{codes}
use Rattle.std.specs.List.{flat_map, join_with_byte}
use Rattle.std.specs.Str.{bytes_eq}
use Rattle.std.proofs.lemmas.Bool.{and_parts, eqb-true, leb-true}
use Rattle.std.proofs.lemmas.List.Concat.{flat_map-append, flat_map-cons}
use Rattle.std.proofs.lemmas.List.Splits.{join_with_byte-slice_split}
use Rattle.up_model.specs.declared.entry.Entry.{Entry}
use Rattle.up_words.specs.ReadSteps.{◌>>=◌, check, at_line, lines_from}
use Rattle.up_words.specs.Words.{split, words_in, word_at, word_is, verb_is}
use Rattle.up_words.specs.Numbers.{number_between}
use Rattle.up_words.specs.Names.{is_name}
use Rattle.up_words.specs.declared.fault.Fault.{Fault}
use Rattle.up_words.specs.declared.fault.Why.{Why}
use Rattle.up_words.specs.declared.fault.Why.TheVariants as why
use Rattle.up_words.proofs.Decimals.{then_ok, ok_is}
use Rattle.up_fields.specs.Limits.{all_tickets, most_bytes}
use Rattle.up_text.specs.Limits.{longest_text, most_journals}
use Rattle.up_fields.specs.Text.{line_text}
use Rattle.up_text.specs.Text.{entry_words, birth_words, entries_text, end_words, journal_text, header, text}
use Rattle.up_text.specs.Versions.{Versioned, is_version, has_numbers}
use Rattle.up_fields.specs.Fields.{flag_in}
use Rattle.up_text.specs.Reading.{entry_in, spelled_bytes, entry_of, entry_line, has_name, mode_in, birth_size, birth_in, journal_line, end_line, between_line, within_line, nothing_read, version_in, line_step, ended, last_step, lines_of}
use Rattle.up_text.specs.Laws.{ReadsOnlyItsText}
use Rattle.up_text.specs.declared.journals.Named.{Named}
use Rattle.up_text.specs.declared.section.Part.{Part}
use Rattle.up_text.specs.declared.section.Section.{Section}
use Rattle.up_text.specs.declared.section.Section.TheVariants as sections
use Rattle.up_fields.proofs.Values.{bind_ok, found_ok, either, same_word, number_takes}
use Rattle.up_fields.proofs.Rows.{one, two}
use Rattle.up_fields.proofs.Sentences.{words_take}
use Rattle.up_text.proofs.EntryForms.{entry_takes, birth_takes}

-- the header and the journals that have ended
abbrev ended_text : Versioned → List ℕ
ended_text journals = (header (has_numbers journals.version) ++ codes "\n") ++ flat_map (journal_text (has_numbers journals.version)) journals.list

-- the lines of an open journal
abbrev open_text : Bool → Named → List ℕ
open_text numbers journal = line_text (birth_words numbers journal.name journal.birth) ++ entries_text 0 journal.entries

-- the text of the lines that led to a section
abbrev so_far : Section → List ℕ
so_far sections.Header = []
so_far (sections.Between part) = ended_text part.journals
so_far (sections.Within part current) = ended_text part.journals ++ open_text (has_numbers part.journals.version) current
so_far (sections.Ended journals) = text journals

-- one entry more has one line more
entries_more : (position : ℕ) (es : List Entry) (e : Entry) → entries_text position (es ++ e ∷ []) ≡ entries_text position es ++ line_text (entry_words (position + length es) e)
unfolding entries_text
entries_more position [] e = let same : position ≡ position + 0 = omega arith in append-nil (line_text (entry_words position e)) ∙ ap (λ k. line_text (entry_words k e)) same
entries_more position (x ∷ es) e =
    let same : position + 1 + length es ≡ position + length (x ∷ es) = omega arith in
    ap (λ b. line_text (entry_words position x) ++ b) (entries_more (position + 1) es e ∙ ap (λ k. entries_text (position + 1) es ++ line_text (entry_words k e)) same)
    ∙ sym (append_assoc (line_text (entry_words position x)) (entries_text (position + 1) es) (line_text (entry_words (position + length (x ∷ es)) e)))

entry_step : (part : Part) (current : Named) (words : List (List ℕ)) (t : Section) → entry_line (has_numbers part.journals.version) part current words ≡ Ok t → so_far t ≡ so_far (sections.Within part current) ++ line_text words
entry_step part current words t e =
    let numbers = has_numbers part.journals.version in
    let entry = bind_ok (entry_in numbers current.birth.numbered (length current.entries) words) _ t e in
    let room = then_ok why.Limit (leb (part.bytes + spelled_bytes entry.0) most_bytes) _ t entry.2 in
    let few = leb-true (part.bytes + spelled_bytes entry.0) most_bytes room.0 in
    let is = entry_takes numbers current.birth.numbered (length current.entries) words entry.0 entry.1 (omega (arith, few)) in
    let read = entry_of entry.0 in
    let made : Section = sections.Within (record { journals = part.journals; bytes = part.bytes + spelled_bytes entry.0 }) (record { name = current.name; birth = current.birth; entries = current.entries ++ read ∷ [] }) in
    let line = line_text words in
    let begin = line_text (birth_words numbers current.name current.birth) in
    let place : 0 + length current.entries ≡ length current.entries = omega arith in
    let more : entries_text 0 (current.entries ++ read ∷ []) ≡ entries_text 0 current.entries ++ line =
    entries_more 0 current.entries read ∙ ap (λ k. entries_text 0 current.entries ++ line_text (entry_words k read)) place ∙ ap (λ ws. entries_text 0 current.entries ++ line_text ws) (sym is) in
    ap so_far (sym (ok_is made t room.1)) ∙ ap (λ b. ended_text part.journals ++ (begin ++ b)) more
    ∙ ap (λ b. ended_text part.journals ++ b) (sym (append_assoc begin (entries_text 0 current.entries) line))
    ∙ sym (append_assoc (ended_text part.journals) (open_text numbers current) line)

end_step : (part : Part) (current : Named) (words : List (List ℕ)) (t : Section) → word_is words 0 (codes "end") ≡ true → end_line part current words ≡ Ok t → so_far t ≡ so_far (sections.Within part current) ++ line_text words
end_step part current words t verb e =
    let numbers = has_numbers part.journals.version in
    let shaped = then_ok why.Word (eqb (length words) 2) _ t e in
    let count = bind_ok (number_between 0 all_tickets (word_at words 1)) _ t shaped.1 in
    let order = then_ok why.Order (eqb count.0 (length current.entries)) _ t count.2 in
    let made : Section = sections.Between (record { journals = record { version = part.journals.version; list = part.journals.list ++ current ∷ [] }; bytes = part.bytes }) in
    let is : words ≡ end_words (length current.entries) = pair words (eqb-true (length words) 2 shaped.0)
    ∙ two (same_word (word_at words 0) (codes "end") verb) (number_takes 0 all_tickets count.0 (word_at words 1) (omega arith) count.1 ∙ ap decimal (eqb-true count.0 (length current.entries) order.0)) in
    let last = line_text words in
    let whole : journal_text numbers current ≡ open_text numbers current ++ last = ap (λ ws. open_text numbers current ++ line_text ws) (sym is) in
    let head = header numbers ++ codes "\n" in
    ap so_far (sym (ok_is made t order.1))
    ∙ ap (λ b. head ++ b) (flat_map-append (journal_text numbers) part.journals.list (current ∷ []) ∙ ap (λ b. flat_map (journal_text numbers) part.journals.list ++ b) (flat_map-cons (journal_text numbers) current [] ∙ append-nil (journal_text numbers current) ∙ whole))
    ∙ sym (append_assoc head (flat_map (journal_text numbers) part.journals.list) (open_text numbers current ++ last))
    ∙ sym (append_assoc (ended_text part.journals) (open_text numbers current) last)
  where
    pair : (ws : List (List ℕ)) → length ws ≡ 2 → ws ≡ word_at ws 0 ∷ word_at ws 1 ∷ []
    pair [] e = absurd (omega (arith, e))
    pair (a ∷ []) e = absurd (omega (arith, e))
    pair (a ∷ b ∷ []) e = refl
    pair (a ∷ b ∷ c ∷ more) e = absurd (omega (arith, e))

journal_step : (part : Part) (words : List (List ℕ)) (t : Section) → verb_is words 0 (codes "journal") (birth_size (has_numbers part.journals.version)) ≡ true → journal_line (has_numbers part.journals.version) part words ≡ Ok t
    → so_far t ≡ so_far (sections.Between part) ++ line_text words
unfolding entries_text
journal_step part words t verb e =
    let numbers = has_numbers part.journals.version in
    let p = and_parts (word_is words 0 (codes "journal")) (eqb (length words) (birth_size numbers)) verb in
    let trap = found_ok why.Word (flag_in (codes "trap") (codes "free") (word_at words 4)) _ t e in
    let image = found_ok why.Word (flag_in (codes "image") (codes "-") (word_at words 7)) _ t trap.2 in
    let mode = found_ok why.Word (mode_in numbers (word_at words 8)) _ t image.2 in
    let named = then_ok why.Name (is_name (word_at words 1) && not (has_name part.journals.list (word_at words 1))) _ t mode.2 in
    let birth = bind_ok (birth_in words trap.0 image.0 mode.0) _ t named.1 in
    let few = then_ok why.Limit (ltb (length part.journals.list) most_journals) _ t birth.2 in
    let made : Section = sections.Within part (record { name = word_at words 1; birth = birth.0; entries = [] }) in
    let is = birth_takes numbers words birth.0 trap.0 image.0 mode.0 (eqb-true (length words) (birth_size numbers) p.1) (same_word (word_at words 0) (codes "journal") p.0) trap.1 image.1 mode.1 birth.1 in
    ap so_far (sym (ok_is made t few.1)) ∙ ap (λ b. ended_text part.journals ++ b) (append-nil (line_text (birth_words numbers (word_at words 1) birth.0)) ∙ ap line_text (sym is))

done_step : (part : Part) (words : List (List ℕ)) (t : Section) → verb_is words 0 (codes "done") 1 ≡ true → ◌≡◌ {A = Result Section Why} (Ok (sections.Ended part.journals)) (Ok t) → so_far t ≡ so_far (sections.Between part) ++ line_text words
done_step part words t verb e =
    let p = and_parts (word_is words 0 (codes "done")) (eqb (length words) 1) verb in
    let is : words ≡ codes "done" ∷ [] = single words (eqb-true (length words) 1 p.1) ∙ one (same_word (word_at words 0) (codes "done") p.0) in
    ap so_far (sym (ok_is (sections.Ended part.journals) t e)) ∙ ap (λ ws. ended_text part.journals ++ line_text ws) (sym is)
  where
    single : (ws : List (List ℕ)) → length ws ≡ 1 → ws ≡ word_at ws 0 ∷ []
    single [] e = absurd (omega (arith, e))
    single (a ∷ []) e = refl
    single (a ∷ b ∷ more) e = absurd (omega (arith, e))

pub bad_word : {Y : Type 0} (y : Y) → ◌≡◌ {A = Result Y Why} (Err why.Word) (Ok y) → ⊥
bad_word y e = cc

between_step : (part : Part) (words : List (List ℕ)) (t : Section) → between_line (has_numbers part.journals.version) part words ≡ Ok t → so_far t ≡ so_far (sections.Between part) ++ line_text words
between_step part words t e =
    ⊎_elim (λ p. done_step part words t p.0 p.1) others (either (verb_is words 0 (codes "done") 1) (Ok (sections.Ended part.journals)) (cond (verb_is words 0 (codes "journal") (birth_size (has_numbers part.journals.version))) (journal_line (has_numbers part.journals.version) part words) (Err why.Word)) (Ok t) e)
  where
    others : (verb_is words 0 (codes "done") 1 ≡ false) × (cond (verb_is words 0 (codes "journal") (birth_size (has_numbers part.journals.version))) (journal_line (has_numbers part.journals.version) part words) (Err why.Word) ≡ Ok t) → so_far t ≡ so_far (sections.Between part) ++ line_text words
    others p = ⊎_elim (λ q. journal_step part words t q.0 q.1) (λ q. absurd (bad_word t q.1)) (either (verb_is words 0 (codes "journal") (birth_size (has_numbers part.journals.version))) (journal_line (has_numbers part.journals.version) part words) (Err why.Word) (Ok t) p.1)

within_step : (part : Part) (current : Named) (words : List (List ℕ)) (t : Section) → within_line (has_numbers part.journals.version) part current words ≡ Ok t → so_far t ≡ so_far (sections.Within part current) ++ line_text words
within_step part current words t e =
    ⊎_elim (λ p. end_step part current words t p.0 p.1) (λ p. entry_step part current words t p.1) (either (word_is words 0 (codes "end")) (end_line part current words) (entry_line (has_numbers part.journals.version) part current words) (Ok t) e)

-- the first line that names a version is the header of texts of this version
pub version_takes : (line : List ℕ) (version : ℕ) → version_in line ≡ Ok version → (line ≡ header (has_numbers version)) × (is_version version ≡ true)
version_takes line version e = ⊎_elim first others (either (bytes_eq line (header false)) (Ok 1) (cond (bytes_eq line (header true)) (Ok 2) (Err why.Header)) (Ok version) e)
  where
    first : (bytes_eq line (header false) ≡ true) × (◌≡◌ {A = Result ℕ Why} (Ok 1) (Ok version)) → (line ≡ header (has_numbers version)) × (is_version version ≡ true)
    first p = subst (λ v. (line ≡ header (has_numbers v)) × (is_version v ≡ true)) (ok_is 1 version p.1) (same_word line (header false) p.0, refl)

    others : (bytes_eq line (header false) ≡ false) × (cond (bytes_eq line (header true)) (Ok 2) (Err why.Header) ≡ Ok version) → (line ≡ header (has_numbers version)) × (is_version version ≡ true)
    others p = ⊎_elim second (λ q. absurd (bad_header version q.1)) (either (bytes_eq line (header true)) (Ok 2) (Err why.Header) (Ok version) p.1)
      where
        second : (bytes_eq line (header true) ≡ true) × (◌≡◌ {A = Result ℕ Why} (Ok 2) (Ok version)) → (line ≡ header (has_numbers version)) × (is_version version ≡ true)
        second q = subst (λ v. (line ≡ header (has_numbers v)) × (is_version v ≡ true)) (ok_is 2 version q.1) (same_word line (header true) q.0, refl)

        bad_header : (v : ℕ) → ◌≡◌ {A = Result ℕ Why} (Err why.Header) (Ok v) → ⊥
        bad_header v f = cc

-- each line adds itself and its newline
step_takes : (s t : Section) (line : List ℕ) → line_step s line ≡ Ok t → so_far t ≡ so_far s ++ (line ++ 10 ∷ [])
step_takes sections.Header t line e =
    let version = bind_ok (version_in line) _ t e in
    let is = version_takes line version.0 version.1 in
    ap so_far (sym (ok_is (sections.Between (nothing_read version.0)) t version.2)) ∙ append-nil (header (has_numbers version.0) ++ 10 ∷ []) ∙ ap (λ l. l ++ 10 ∷ []) (sym is.0)
step_takes (sections.Between part) t line e =
    let words = bind_ok (words_in line) _ t e in
    between_step part words.0 t words.2 ∙ ap (λ l. so_far (sections.Between part) ++ (l ++ 10 ∷ [])) (sym (words_take line words.0 words.1))
step_takes (sections.Within part current) t line e =
    let words = bind_ok (words_in line) _ t e in
    within_step part current words.0 t words.2 ∙ ap (λ l. so_far (sections.Within part current) ++ (l ++ 10 ∷ [])) (sym (words_take line words.0 words.1))
step_takes (sections.Ended journals) t line e = absurd (bad_word t e)

pub ok_line : {X : Type 0} (n : ℕ) (r : Result X Why) (x : X) → at_line n r ≡ Ok x → r ≡ Ok x
ok_line n (Ok y) x e = cc
ok_line n (Err reason) x e = absurd cc

pub bind_line : {X Y : Type 0} (r : Result X Fault) (next : X → Result Y Fault) (y : Y) → (r >>= next) ≡ Ok y → (x : X) × (r ≡ Ok x) × (next x ≡ Ok y)
bind_line (Ok x) next y e = (x, refl, e)
bind_line (Err fault) next y e = absurd cc

ended_takes : (s : Section) (journals : Versioned) → ended s ≡ Ok journals → so_far s ≡ text journals
ended_takes sections.Header journals e = absurd cc
ended_takes (sections.Between part) journals e = absurd cc
ended_takes (sections.Within part current) journals e = absurd cc
ended_takes (sections.Ended found) journals e = ap text (ok_is found journals e)

no_bytes : (bytes : List ℕ) → length bytes ≡ 0 → bytes ≡ []
no_bytes [] e = refl
no_bytes (b ∷ bs) e = absurd (omega (arith, e))

lines_take : (n : ℕ) (s : Section) (pieces : List (List ℕ)) (journals : Versioned) → lines_of n s pieces ≡ Ok journals → so_far s ++ join_with_byte 10 pieces ≡ text journals
unfolding lines_from
lines_take n s [] journals e = absurd cc
lines_take n s (rest ∷ []) journals e =
    let last = ok_line n (last_step s rest) journals e in
    let whole = then_ok why.Cut (eqb (length rest) 0) _ journals last in
    ap (λ b. so_far s ++ b) (no_bytes rest (eqb-true (length rest) 0 whole.0)) ∙ append-nil (so_far s) ∙ ended_takes s journals whole.1
lines_take n s (line ∷ next ∷ lines) journals e =
    let step = bind_line (at_line n (line_step s line)) _ journals e in
    let more = lines_take (n + 1) step.0 (next ∷ lines) journals step.2 in
    let rest = join_with_byte 10 (next ∷ lines) in
    sym (ap (λ b. so_far s ++ b) (append_assoc line (10 ∷ []) rest)) ∙ sym (append_assoc (so_far s) (line ++ 10 ∷ []) rest)
    ∙ ap (λ b. b ++ rest) (sym (step_takes s step.0 line (ok_line n (line_step s line) step.0 step.1))) ∙ more

-- no other text is read as them
pub only : ReadsOnlyItsText
only bytes journals e =
    let short = bind_line (at_line 0 (check why.Long (leb (length bytes) longest_text))) _ journals e in
    sym (join_with_byte-slice_split 10 bytes) ∙ lines_take 1 sections.Header (split 10 bytes) journals short.2
