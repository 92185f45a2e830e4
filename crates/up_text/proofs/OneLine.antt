-- Entries and births have one text each.
use Rattle.std.proofs.Common.{◌≡◌, ℕ, ◌<◌, ◌≤◌, Bool, true, leb, List, ◌∷◌, length, drop, refl, sym, ap, ap₂, ◌∙◌, arith}
use Rattle.std.specs.Prelude.{codes}
use Rattle.std.specs.List.{list_all}
use Rattle.std.proofs.lemmas.Bool.{and_parts, leb-true}
use Rattle.up_model.specs.declared.entry.Birth.{Birth}
use Rattle.up_model.specs.declared.entry.Call.{Call}
use Rattle.up_model.specs.declared.entry.Entry.{Entry}
use Rattle.up_model.specs.declared.entry.Reply.{Reply}
use Rattle.up_words.specs.Words.{split, word_at, is_word}
use Rattle.up_words.proofs.Decimals.{ok_is, some_is}
use Rattle.up_fields.specs.Allowed.{lies}
use Rattle.up_fields.specs.Fields.{flag_in}
use Rattle.up_fields.specs.Limits.{all_tickets, all_counts}
use Rattle.up_fields.specs.Text.{line_of}
use Rattle.up_fields.proofs.Values.{flag_again}
use Rattle.up_fields.proofs.Sentences.{split_words}
use Rattle.up_replies.specs.Text.{reply_words}
use Rattle.up_text.specs.Allowed.{entry_allowed, birth_allowed}
use Rattle.up_text.specs.Reading.{mode_in, birth_in}
use Rattle.up_text.specs.Text.{entry_words, birth_words}
use Rattle.up_text.proofs.EntryForms.{entry_parts, birth_parts, mode_again, birth_again}
use Rattle.up_text.proofs.OneBytes.{number_one}
use Rattle.up_text.proofs.OneDeed.{call_one, reply_one}

-- lines that are the same have the same words
pub words_one : (first second : List (List ℕ)) → 0 < length first → 0 < length second → list_all is_word first ≡ true → list_all is_word second ≡ true → line_of first ≡ line_of second → first ≡ second
words_one first second some more good fine e = sym (split_words first some good) ∙ ap (split 32) e ∙ split_words second more fine

-- a number within a limit is no ticket too large
within : (most n : ℕ) → most ≤ all_tickets → lies 0 most n ≡ true → n ≤ all_tickets
within most n few e = omega (arith, few, leb-true n most (and_parts (leb 0 n) (leb n most) e).1)

abbrev entry_with : ℕ → ℕ → Call → Reply → Entry
entry_with who epoch call reply = record { who = who; epoch = epoch; call = call; reply = reply }

-- entries at one place whose words are the same are one
pub entry_one : (numbers numbered : Bool) (position : ℕ) (a b : Entry) → entry_allowed numbers numbered a ≡ true → entry_allowed numbers numbered b ≡ true → entry_words position a ≡ entry_words position b → a ≡ b
entry_one numbers numbered position a b allowed also e =
    let p = entry_parts numbers numbered a allowed in
    let q = entry_parts numbers numbered b also in
    let who = number_one a.who b.who (within all_counts a.who (omega arith) p.who) (within all_counts b.who (omega arith) q.who) (ap (λ ws. word_at ws 1) e) in
    let epoch = number_one a.epoch b.epoch (within all_tickets a.epoch (omega arith) p.epoch) (within all_tickets b.epoch (omega arith) q.epoch) (ap (λ ws. word_at ws 2) e) in
    let deed = call_one numbered a.call b.call (codes "->" ∷ reply_words a.reply) (codes "->" ∷ reply_words b.reply) p.call q.call p.formed q.formed (ap (drop 3) e) in
    let reply = reply_one numbers a.reply b.reply p.reply q.reply p.known q.known (ap (drop 1) deed.1) in
    ap₂ (λ w x. entry_with w x a.call a.reply) who epoch ∙ ap₂ (λ c r. entry_with b.who b.epoch c r) deed.0 reply

-- a name and a birth
pub birth_one : (numbers : Bool) (first second : List ℕ) (a b : Birth) → birth_allowed numbers a ≡ true → birth_allowed numbers b ≡ true → birth_words numbers first a ≡ birth_words numbers second b → (first ≡ second) × (a ≡ b)
birth_one numbers first second a b allowed also e =
    let trap = some_is a.trap b.trap (sym (flag_again (codes "trap") (codes "free") a.trap refl refl refl) ∙ ap (λ ws. flag_in (codes "trap") (codes "free") (word_at ws 4)) e ∙ flag_again (codes "trap") (codes "free") b.trap refl refl refl) in
    let image = some_is a.image b.image (sym (flag_again (codes "image") (codes "-") a.image refl refl refl) ∙ ap (λ ws. flag_in (codes "image") (codes "-") (word_at ws 7)) e ∙ flag_again (codes "image") (codes "-") b.image refl refl refl) in
    let p = birth_parts numbers a allowed in
    let q = birth_parts numbers b also in
    let numbered = some_is a.numbered b.numbered (sym (mode_again numbers a.numbered p.mode) ∙ ap (λ ws. mode_in numbers (word_at ws 8)) e ∙ mode_again numbers b.numbered q.mode) in
    let read = sym (birth_again numbers first a allowed) ∙ ap (λ ws. birth_in ws a.trap a.image a.numbered) e
    ∙ ap₂ (λ t i. birth_in (birth_words numbers second b) t i a.numbered) trap image ∙ ap (birth_in (birth_words numbers second b) b.trap b.image) numbered ∙ birth_again numbers second b also in
    (ap (λ ws. word_at ws 1) e, ok_is a b read)
