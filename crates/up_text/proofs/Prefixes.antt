-- No text of journals begins another's: the line done stands last in each, and nowhere else, and lines that are the same say the same.
use Rattle.std.proofs.Common.{◌≡◌, ℕ, ◌+◌, ◌^◌, ◌<◌, ◌≤◌, Bool, true, false, not, List, [], ◌∷◌, ◌++◌, length, get_or, refl, sym, ap, ap₂, subst, ◌∙◌, append_assoc, append-nil, arith}
use Rattle.std.specs.Fmt.{decimal}
use Rattle.std.specs.Prelude.{codes}
use Rattle.std.specs.List.{list_all, flat_map, join_with_byte}
use Rattle.std.specs.Str.{bytes_eq}
use Rattle.std.proofs.lemmas.Bool.{and_parts}
use Rattle.std.proofs.lemmas.Fmt.{decimal_nonempty}
use Rattle.std.proofs.lemmas.Slice.Eq.{bytes_eq-Decides}
use Rattle.std.proofs.lemmas.List.Concat.{flat_map-cons}
use Rattle.std.proofs.lemmas.List.Splits.{join_with_byte-slice_split}
use Rattle.up_model.specs.declared.entry.Birth.{Birth}
use Rattle.up_model.specs.declared.entry.Entry.{Entry}
use Rattle.up_words.specs.Words.{split}
use Rattle.up_fields.specs.Limits.{all_tickets}
use Rattle.up_fields.specs.Text.{spaced, line_of, line_text}
use Rattle.up_calls.specs.Text.{call_words}
use Rattle.up_replies.specs.Text.{reply_words}
use Rattle.up_text.specs.Text.{entry_words, birth_words, entries_text, end_words, journal_text, header, text_with, text}
use Rattle.up_text.specs.Versions.{Versioned, is_version, has_numbers}
use Rattle.up_text.specs.Reading.{version_in}
use Rattle.up_text.specs.Allowed.{entry_allowed, journal_allowed}
use Rattle.up_text.specs.Laws.{NoTextBeginsAnother}
use Rattle.up_text.specs.declared.journals.Named.{Named}
use Rattle.up_words.proofs.Decimals.{ok_is}
use Rattle.up_fields.proofs.Values.{first_digit}
use Rattle.up_fields.proofs.Sentences.{line_free, split_line}
use Rattle.up_text.proofs.EntryForms.{entry_good, birth_good}
use Rattle.up_text.proofs.ReadBack.{journal_parts, end_good, header_free, header_reads}
use Rattle.up_text.proofs.OneLine.{words_one, entry_one, birth_one}

-- the lines of entries, each as its bytes
entry_lines : ℕ → List Entry → List (List ℕ)
entry_lines position [] = []
entry_lines position (e ∷ es) = line_of (entry_words position e) ∷ entry_lines (position + 1) es

-- the lines of a journal
journal_lines : Bool → Named → List (List ℕ)
journal_lines numbers journal = line_of (birth_words numbers journal.name journal.birth) ∷ entry_lines 0 journal.entries ++ line_of (end_words (length journal.entries)) ∷ []

all_lines : Bool → List Named → List (List ℕ)
all_lines numbers [] = []
all_lines numbers (journal ∷ journals) = journal_lines numbers journal ++ all_lines numbers journals

-- a line that isn't done
abbrev is_other : List ℕ → Bool
is_other line = not (bytes_eq line (codes "done"))

first_of : (front back : List ℕ) → 0 < length front → get_or (front ++ back) 0 0 ≡ get_or front 0 0
first_of [] back some = absurd (omega arith)
first_of (byte ∷ front) back some = refl

entries_cut : (numbers numbered : Bool) (position : ℕ) (es : List Entry) (rest : List ℕ) → list_all (entry_allowed numbers numbered) es ≡ true → position + length es ≤ all_tickets → split 10 (entries_text position es ++ rest) ≡ entry_lines position es ++ split 10 rest
unfolding entry_lines entries_text
entries_cut numbers numbered position [] rest a few = refl
entries_cut numbers numbered position (e ∷ es) rest a few =
    let p = and_parts (entry_allowed numbers numbered e) (list_all (entry_allowed numbers numbered) es) a in
    let line = line_of (entry_words position e) in
    ap (split 10) (append_assoc (line_text (entry_words position e)) (entries_text (position + 1) es) rest)
    ∙ split_line line (entries_text (position + 1) es ++ rest) (line_free (entry_words position e) (entry_good numbers numbered position e (omega (arith, few)) p.0))
    ∙ ap (λ (ls : List (List ℕ)). line ∷ ls) (entries_cut numbers numbered (position + 1) es rest p.1 (omega (arith, few)))

journal_cut : (numbers : Bool) (journal : Named) (rest : List ℕ) → journal_allowed numbers journal ≡ true → split 10 (journal_text numbers journal ++ rest) ≡ journal_lines numbers journal ++ split 10 rest
unfolding journal_lines
journal_cut numbers journal rest a =
    let parts = journal_parts numbers journal a in
    let first = line_text (birth_words numbers journal.name journal.birth) in
    let middle = entries_text 0 journal.entries in
    let last = line_text (end_words (length journal.entries)) in
    let end = line_of (end_words (length journal.entries)) in
    ap (split 10) (append_assoc (first ++ middle) last rest ∙ append_assoc first middle (last ++ rest))
    ∙ split_line (line_of (birth_words numbers journal.name journal.birth)) (middle ++ (last ++ rest)) (line_free (birth_words numbers journal.name journal.birth) (birth_good numbers journal.name journal.birth parts.name parts.birth))
    ∙ ap (λ (ls : List (List ℕ)). line_of (birth_words numbers journal.name journal.birth) ∷ ls)
    (entries_cut numbers journal.birth.numbered 0 journal.entries (last ++ rest) parts.entries (omega (arith, parts.few))
    ∙ ap (λ (ls : List (List ℕ)). entry_lines 0 journal.entries ++ ls) (split_line end rest (line_free (end_words (length journal.entries)) (end_good (length journal.entries) (omega (arith, parts.few)))))
    ∙ sym (append_assoc (entry_lines 0 journal.entries) (end ∷ []) (split 10 rest)))

journals_cut : (numbers : Bool) (journals : List Named) (rest : List ℕ) → list_all (journal_allowed numbers) journals ≡ true → split 10 (flat_map (journal_text numbers) journals ++ rest) ≡ all_lines numbers journals ++ split 10 rest
unfolding all_lines
journals_cut numbers [] rest a = refl
journals_cut numbers (journal ∷ journals) rest a =
    let p = and_parts (journal_allowed numbers journal) (list_all (journal_allowed numbers) journals) a in
    ap (λ b. split 10 (b ++ rest)) (flat_map-cons (journal_text numbers) journal journals) ∙ ap (split 10) (append_assoc (journal_text numbers journal) (flat_map (journal_text numbers) journals) rest)
    ∙ journal_cut numbers journal (flat_map (journal_text numbers) journals ++ rest) p.0 ∙ ap (λ (ls : List (List ℕ)). journal_lines numbers journal ++ ls) (journals_cut numbers journals rest p.1)
    ∙ sym (append_assoc (journal_lines numbers journal) (all_lines numbers journals) (split 10 rest))

-- the lines of a text, and what follows it
text_cut : (numbers : Bool) (journals : List Named) (rest : List ℕ) → list_all (journal_allowed numbers) journals ≡ true → split 10 (text_with numbers journals ++ rest) ≡ header numbers ∷ all_lines numbers journals ++ codes "done" ∷ split 10 rest
text_cut numbers journals rest a =
    let head = header numbers ++ codes "\n" in
    let middle = flat_map (journal_text numbers) journals in
    ap (split 10) (append_assoc (head ++ middle) (codes "done\n") rest ∙ append_assoc head middle (codes "done\n" ++ rest))
    ∙ split_line (header numbers) (middle ++ (codes "done\n" ++ rest)) (header_free numbers)
    ∙ ap (λ (ls : List (List ℕ)). header numbers ∷ ls) (journals_cut numbers journals (codes "done\n" ++ rest) a ∙ ap (λ (ls : List (List ℕ)). all_lines numbers journals ++ ls) (split_line (codes "done") rest refl))

not_done : (line : List ℕ) → is_other line ≡ true → line ≡ codes "done" → ⊥
not_done line e same = differ (bytes_eq line (codes "done")) ((bytes_eq-Decides line (codes "done")).1 same) e
  where
    differ : (b : Bool) → b ≡ true → not b ≡ true → ⊥
    differ true f g = cc
    differ false f g = cc

head_is : (a b : List ℕ) (cs ds : List (List ℕ)) → (a ∷ cs) ≡ (b ∷ ds) → (a ≡ b) × (cs ≡ ds)
head_is a b cs ds e = (cc, cc)

-- the line that ends a journal is no entry's
end_entry : (count position : ℕ) (e : Entry) → position < 2 ^ 64 → line_of (end_words count) ≡ line_of (entry_words position e) → ⊥
end_entry count position e fits same =
    let rest = spaced (decimal e.who ∷ decimal e.epoch ∷ call_words e.call ++ codes "->" ∷ reply_words e.reply) in
    let first : 101 ≡ get_or (decimal position) 0 0 = ap (λ line. get_or line 0 0) same ∙ first_of (decimal position) rest (decimal_nonempty position fits) in
    omega (arith, (first_digit position fits).1, first)

-- entries whose lines begin one list of lines, and end there, are the same, and so is what stands behind them
entries_one : (numbers numbered : Bool) (position : ℕ) (es fs : List Entry) (m n : ℕ) (x y : List (List ℕ)) → list_all (entry_allowed numbers numbered) es ≡ true → list_all (entry_allowed numbers numbered) fs ≡ true → position + length es ≤ all_tickets → position + length fs ≤ all_tickets
    → entry_lines position es ++ line_of (end_words m) ∷ x ≡ entry_lines position fs ++ line_of (end_words n) ∷ y → (es ≡ fs) × (x ≡ y)
unfolding entry_lines
entries_one numbers numbered position [] [] m n x y a b few less e = (refl, (head_is (line_of (end_words m)) (line_of (end_words n)) x y e).1)
entries_one numbers numbered position [] (f ∷ fs) m n x y a b few less e =
    absurd (end_entry m position f (omega (arith, less)) (head_is (line_of (end_words m)) (line_of (entry_words position f)) x (entry_lines (position + 1) fs ++ line_of (end_words n) ∷ y) e).0)
entries_one numbers numbered position (d ∷ es) [] m n x y a b few less e =
    absurd (end_entry n position d (omega (arith, few)) (sym (head_is (line_of (entry_words position d)) (line_of (end_words n)) (entry_lines (position + 1) es ++ line_of (end_words m) ∷ x) y e).0))
entries_one numbers numbered position (d ∷ es) (f ∷ fs) m n x y a b few less e =
    let p = and_parts (entry_allowed numbers numbered d) (list_all (entry_allowed numbers numbered) es) a in
    let q = and_parts (entry_allowed numbers numbered f) (list_all (entry_allowed numbers numbered) fs) b in
    let h = head_is (line_of (entry_words position d)) (line_of (entry_words position f)) (entry_lines (position + 1) es ++ line_of (end_words m) ∷ x) (entry_lines (position + 1) fs ++ line_of (end_words n) ∷ y) e in
    let words = words_one (entry_words position d) (entry_words position f) (omega arith) (omega arith) (entry_good numbers numbered position d (omega (arith, few)) p.0) (entry_good numbers numbered position f (omega (arith, few)) q.0) h.0 in
    let more = entries_one numbers numbered (position + 1) es fs m n x y p.1 q.1 (omega (arith, few)) (omega (arith, less)) h.1 in
    (ap₂ (λ (g : Entry) (gs : List Entry). g ∷ gs) (entry_one numbers numbered position d f p.0 q.0 words) more.0, more.1)

abbrev journal_with : List ℕ → Birth → List Entry → Named
journal_with name birth entries = record { name = name; birth = birth; entries = entries }

-- a journal whose lines begin one list of lines
journal_one : (numbers : Bool) (j k : Named) (x y : List (List ℕ)) → journal_allowed numbers j ≡ true → journal_allowed numbers k ≡ true → journal_lines numbers j ++ x ≡ journal_lines numbers k ++ y → (j ≡ k) × (x ≡ y)
unfolding journal_lines
journal_one numbers j k x y a b e =
    let p = journal_parts numbers j a in
    let q = journal_parts numbers k b in
    let end = line_of (end_words (length j.entries)) in
    let stop = line_of (end_words (length k.entries)) in
    let h = head_is (line_of (birth_words numbers j.name j.birth)) (line_of (birth_words numbers k.name k.birth)) ((entry_lines 0 j.entries ++ end ∷ []) ++ x) ((entry_lines 0 k.entries ++ stop ∷ []) ++ y) e in
    let words = words_one (birth_words numbers j.name j.birth) (birth_words numbers k.name k.birth) (omega arith) (omega arith) (birth_good numbers j.name j.birth p.name p.birth) (birth_good numbers k.name k.birth q.name q.birth) h.0 in
    let born = birth_one numbers j.name k.name j.birth k.birth p.birth q.birth words in
    let tail = sym (append_assoc (entry_lines 0 j.entries) (end ∷ []) x) ∙ h.1 ∙ append_assoc (entry_lines 0 k.entries) (stop ∷ []) y in
    let others : list_all (entry_allowed numbers j.birth.numbered) k.entries ≡ true = subst (λ (birth : Birth). list_all (entry_allowed numbers birth.numbered) k.entries ≡ true) (sym born.1) q.entries in
    let entries = entries_one numbers j.birth.numbered 0 j.entries k.entries (length j.entries) (length k.entries) x y p.entries others (omega (arith, p.few)) (omega (arith, q.few)) tail in
    (ap₂ (λ n b. journal_with n b j.entries) born.0 born.1 ∙ ap (journal_with k.name k.birth) entries.0, entries.1)

done_journal : (numbers : Bool) (j : Named) → codes "done" ≡ line_of (birth_words numbers j.name j.birth) → ⊥
done_journal numbers j e = not_done (line_of (birth_words numbers j.name j.birth)) refl (sym e)

-- the journals before the first line done are the same, and so is what stands behind it
journals_one : (numbers : Bool) (firsts seconds : List Named) (x y : List (List ℕ)) → list_all (journal_allowed numbers) firsts ≡ true → list_all (journal_allowed numbers) seconds ≡ true
    → all_lines numbers firsts ++ codes "done" ∷ x ≡ all_lines numbers seconds ++ codes "done" ∷ y → (firsts ≡ seconds) × (x ≡ y)
unfolding all_lines journal_lines
journals_one numbers [] [] x y a b e = (refl, (head_is (codes "done") (codes "done") x y e).1)
journals_one numbers [] (k ∷ ks) x y a b e =
    absurd (done_journal numbers k (head_is (codes "done") (line_of (birth_words numbers k.name k.birth)) x (((entry_lines 0 k.entries ++ line_of (end_words (length k.entries)) ∷ []) ++ all_lines numbers ks) ++ codes "done" ∷ y) e).0)
journals_one numbers (j ∷ js) [] x y a b e =
    absurd (done_journal numbers j (sym (head_is (line_of (birth_words numbers j.name j.birth)) (codes "done") (((entry_lines 0 j.entries ++ line_of (end_words (length j.entries)) ∷ []) ++ all_lines numbers js) ++ codes "done" ∷ x) y e).0))
journals_one numbers (j ∷ js) (k ∷ ks) x y a b e =
    let p = and_parts (journal_allowed numbers j) (list_all (journal_allowed numbers) js) a in
    let q = and_parts (journal_allowed numbers k) (list_all (journal_allowed numbers) ks) b in
    let cut = sym (append_assoc (journal_lines numbers j) (all_lines numbers js) (codes "done" ∷ x)) ∙ e ∙ append_assoc (journal_lines numbers k) (all_lines numbers ks) (codes "done" ∷ y) in
    let first = journal_one numbers j k (all_lines numbers js ++ codes "done" ∷ x) (all_lines numbers ks ++ codes "done" ∷ y) p.0 q.0 cut in
    let more = journals_one numbers js ks x y p.1 q.1 first.1 in
    (ap₂ (λ (i : Named) (is : List Named). i ∷ is) first.0 more.0, more.1)

-- texts whose first lines are the same are of one version
header_one : (v w : ℕ) → is_version v ≡ true → is_version w ≡ true → header (has_numbers v) ≡ header (has_numbers w) → v ≡ w
header_one v w a b e = ok_is v w (sym (header_reads v a) ∙ ap version_in e ∙ header_reads w b)

abbrev versioned : ℕ → List Named → Versioned
versioned version list = record { version = version; list = list }

-- no text begins another, and lists of one text are one
pub none_begins : NoTextBeginsAnother
none_begins first second rest a b e =
    let p = and_parts (is_version first.version) (list_all (journal_allowed (has_numbers first.version)) first.list) a in
    let q = and_parts (is_version second.version) (list_all (journal_allowed (has_numbers second.version)) second.list) b in
    let numbers = has_numbers first.version in
    let whole = sym (text_cut numbers first.list rest p.1) ∙ ap (split 10) (e ∙ sym (append-nil (text second))) ∙ text_cut (has_numbers second.version) second.list [] q.1 in
    let parts = head_is (header numbers) (header (has_numbers second.version)) (all_lines numbers first.list ++ codes "done" ∷ split 10 rest) (all_lines (has_numbers second.version) second.list ++ codes "done" ∷ split 10 []) whole in
    let version : first.version ≡ second.version = header_one first.version second.version p.0 q.0 parts.0 in
    let others : list_all (journal_allowed numbers) second.list ≡ true = subst (λ v. list_all (journal_allowed (has_numbers v)) second.list ≡ true) (sym version) q.1 in
    let tails : all_lines numbers first.list ++ codes "done" ∷ split 10 rest ≡ all_lines numbers second.list ++ codes "done" ∷ split 10 [] =
    parts.1 ∙ ap (λ v. all_lines (has_numbers v) second.list ++ codes "done" ∷ split 10 []) (sym version) in
    let same = journals_one numbers first.list second.list (split 10 rest) (split 10 []) p.1 others tails in
    (ap₂ versioned version same.0, sym (join_with_byte-slice_split 10 rest) ∙ ap (join_with_byte 10) same.1 ∙ join_with_byte-slice_split 10 [])
