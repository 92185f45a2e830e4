-- What was read keeps the limits: entries, births and journals.
use Rattle.std.proofs.Common.{◌≡◌, ℕ, ◌+◌, ◌<◌, ◌≤◌, Bool, true, false, ◌&&◌, ⊎_elim, eqb, leb, ltb, not, cond, List, [], ◌∷◌, ◌++◌, length, Option, Some, None, Result, Ok, Err, refl, sym, ap, ap₂, subst, ◌∙◌, append_assoc, append-nil, arith}
use Rattle.std.specs.Prelude.{IfOk, codes}
use Rattle.std.specs.List.{list_all, sum_by}
use Rattle.std.specs.Str.{bytes_eq}
use Rattle.std.proofs.lemmas.Bool.{and_parts, eqb-true, leb-true, ltb-true, le-leb, not-true}
use Rattle.std.proofs.lemmas.List.{length-append}
use Rattle.std.proofs.lemmas.List.Folds.{list_all-append}
use Rattle.std.proofs.lemmas.List.Sums.{sum_by_push}
use Rattle.up_model.specs.declared.entry.Birth.{Birth}
use Rattle.up_model.specs.declared.entry.Call.{Call}
use Rattle.up_model.specs.declared.entry.Reply.{Reply}
use Rattle.up_words.specs.ReadSteps.{◌>>=◌, check, at_line, lines_from, GivesText}
use Rattle.up_words.specs.Words.{split, words_in, word_at, word_is, verb_is}
use Rattle.up_words.specs.Numbers.{number_between}
use Rattle.up_words.specs.Names.{is_name}
use Rattle.up_words.specs.Runs.{too_many}
use Rattle.up_words.specs.declared.fault.Fault.{Fault}
use Rattle.up_words.specs.declared.fault.ReadFault.{ReadFault}
use Rattle.up_words.specs.declared.fault.Why.{Why}
use Rattle.up_words.specs.declared.fault.Why.TheVariants as why
use Rattle.up_words.proofs.Decimals.{then_ok, ok_is, both}
use Rattle.up_fields.specs.Limits.{all_tickets, all_counts, all_sizes, most_bytes}
use Rattle.up_text.specs.Limits.{all_actors, longest_text, most_journals}
use Rattle.up_text.specs.Text.{text}
use Rattle.up_fields.specs.Fields.{flag_in}
use Rattle.up_calls.specs.Kinds.{call_size}
use Rattle.up_calls.specs.Calls.{call_kind, call_in, call_of}
use Rattle.up_replies.specs.Replies.{reply_kind, list_fits, reply_in, reply_of}
use Rattle.up_text.specs.Reading.{call_part, reply_part, forms_in, entry_in, spelled_bytes, entry_of, entry_line, has_name, limit_in, mode_in, birth_size, birth_in, journal_line, end_line, between_line, within_line, nothing_read, version_in, line_step, ended, last_step, lines_of, journals_of}
use Rattle.up_fields.specs.Allowed.{lies}
use Rattle.up_calls.specs.Allowed.{call_allowed, is_formed}
use Rattle.up_replies.specs.Allowed.{reply_allowed, is_known}
use Rattle.up_text.specs.Allowed.{entry_allowed, limit_allowed, mode_allowed, birth_allowed, journal_allowed, are_new, have_texts, are_allowed, entry_bytes, journal_bytes, are_within}
use Rattle.up_text.specs.Laws.{ReadsWithinLimits}
use Rattle.up_text.specs.Versions.{Versioned, is_version, has_numbers}
use Rattle.up_text.specs.declared.entries.Forms.{Forms}
use Rattle.up_text.specs.declared.entries.Spelled.{Spelled}
use Rattle.up_text.specs.declared.journals.Named.{Named}
use Rattle.up_text.specs.declared.section.Part.{Part}
use Rattle.up_text.specs.declared.section.Section.{Section}
use Rattle.up_text.specs.declared.section.Section.TheVariants as sections
use Rattle.up_fields.proofs.Values.{bind_ok, found_ok, either}
use Rattle.up_fields.proofs.Bounds.{number_within}
use Rattle.up_calls.proofs.CallBounds.{call_within}
use Rattle.up_calls.proofs.CallForms.{found_may_be}
use Rattle.up_replies.proofs.ReplyBounds.{reply_within}
use Rattle.up_replies.proofs.ReplyForms.{found_may_be as reply_may_be}
use Rattle.up_text.proofs.ReadBack.{back}
use Rattle.up_text.proofs.OnlyTheirText.{bad_word, version_takes, ok_line, bind_line, only}

-- an entry that was read has a text, and so many bytes
record EntryWithin (numbers numbered : Bool) (spelled : Spelled) : Type 0 where
  pub allowed : entry_allowed numbers numbered (entry_of spelled) ≡ true
  pub bytes : entry_bytes (entry_of spelled) ≡ spelled_bytes spelled

-- the kinds that were found
kinds_found : (numbers numbered : Bool) (words : List (List ℕ)) (forms : Forms) → forms_in numbers numbered words ≡ Ok forms → (call_kind numbered (call_part words) ≡ Some forms.call) × (reply_kind numbers (reply_part (call_size forms.call) words) ≡ Some forms.reply)
kinds_found numbers numbered words forms e =
    let call = found_ok why.Word (call_kind numbered (call_part words)) _ forms e in
    let arrow = then_ok why.Word (word_is (call_part words) (call_size call.0) (codes "->")) _ forms call.2 in
    let reply = found_ok why.Word (reply_kind numbers (reply_part (call_size call.0) words)) _ forms arrow.1 in
    let shaped = then_ok why.Word (list_fits reply.0 (reply_part (call_size call.0) words)) _ forms reply.2 in
    let made : Forms = record { call = call.0; reply = reply.0 } in
    subst (λ (f : Forms). (call_kind numbered (call_part words) ≡ Some f.call) × (reply_kind numbers (reply_part (call_size f.call) words) ≡ Some f.reply)) (ok_is made forms shaped.1) (call.1, reply.1)

entry_within : (numbers numbered : Bool) (next : ℕ) (words : List (List ℕ)) (spelled : Spelled) → entry_in numbers numbered next words ≡ Ok spelled → spelled_bytes spelled < too_many → EntryWithin numbers numbered spelled
entry_within numbers numbered next words spelled e less =
    let forms = bind_ok (forms_in numbers numbered words) _ spelled e in
    let found = kinds_found numbers numbered words forms.0 forms.1 in
    let position = bind_ok (number_between 0 all_tickets (word_at words 0)) _ spelled forms.2 in
    let who = bind_ok (number_between 0 all_counts (word_at words 1)) _ spelled position.2 in
    let epoch = bind_ok (number_between 0 all_tickets (word_at words 2)) _ spelled who.2 in
    let call = bind_ok (call_in forms.0.call (call_part words)) _ spelled epoch.2 in
    let reply = bind_ok (reply_in forms.0.reply (reply_part (call_size forms.0.call) words)) _ spelled call.2 in
    let order = then_ok why.Order (eqb position.0 next) _ spelled reply.2 in
    let made : Spelled = record { who = who.0; epoch = epoch.0; call = call.0; reply = reply.0 } in
    let same : made ≡ spelled = ok_is made spelled order.1 in
    let few : spelled_bytes made < too_many = subst (λ (s : Spelled). spelled_bytes s < too_many) (sym same) less in
    let c = call_within forms.0.call (call_part words) call.0 call.1 (omega (arith, few)) in
    let r = reply_within forms.0.reply (reply_part (call_size forms.0.call) words) reply.0 reply.1 (omega (arith, few)) in
    let this : Call = call_of call.0 in
    let answer : Reply = reply_of reply.0 in
    let known = is_formed numbered this && is_known numbers answer in
    let deed = call_allowed this && (reply_allowed answer && known) in
    subst (EntryWithin numbers numbered) same (record {
      allowed = both (lies 0 all_counts who.0) (lies 0 all_tickets epoch.0 && deed) (number_within 0 all_counts who.0 (word_at words 1) (omega arith) who.1)
          (both (lies 0 all_tickets epoch.0) deed (number_within 0 all_tickets epoch.0 (word_at words 2) (omega arith) epoch.1)
          (both (call_allowed this) (reply_allowed answer && known) c.allowed
          (both (reply_allowed answer) known r.allowed
          (both (is_formed numbered this) (is_known numbers answer) (c.formed numbered (found_may_be numbered (call_part words) forms.0.call found.0)) (r.known numbers (reply_may_be numbers (reply_part (call_size forms.0.call) words) forms.0.reply found.1))))));
      bytes = ap₂ (λ a b. a + b) c.bytes r.bytes;
    })

limit_within : (pages : ℕ) (limit : Option ℕ) (word : List ℕ) → limit_in pages word ≡ Ok limit → limit_allowed pages limit ≡ true
limit_within pages limit word e = ⊎_elim none some (either (bytes_eq word (codes "-")) (Ok None) (number_between pages all_sizes word >>= λ most. Ok (Some most)) (Ok limit) e)
  where
    none : (bytes_eq word (codes "-") ≡ true) × (◌≡◌ {A = Result (Option ℕ) Why} (Ok None) (Ok limit)) → limit_allowed pages limit ≡ true
    none p = ap (limit_allowed pages) (sym (ok_is None limit p.1))

    some : (bytes_eq word (codes "-") ≡ false) × ((number_between pages all_sizes word >>= λ most. Ok (Some most)) ≡ Ok limit) → limit_allowed pages limit ≡ true
    some p =
        let most = bind_ok (number_between pages all_sizes word) _ limit p.1 in
        ap (limit_allowed pages) (sym (ok_is (Some most.0) limit most.2)) ∙ number_within pages all_sizes most.0 word (omega arith) most.1

mode_within : (numbers numbered : Bool) (word : List ℕ) → mode_in numbers word ≡ Some numbered → mode_allowed numbers numbered ≡ true
mode_within true numbered word e = refl
mode_within false true word e = absurd cc
mode_within false false word e = refl

-- a birth that was read has a text
birth_within : (numbers : Bool) (words : List (List ℕ)) (trap image numbered : Bool) (birth : Birth) → mode_in numbers (word_at words 8) ≡ Some numbered → birth_in words trap image numbered ≡ Ok birth → birth_allowed numbers birth ≡ true
birth_within numbers words trap image numbered birth told e =
    let pages = bind_ok (number_between 0 all_sizes (word_at words 2)) _ birth e in
    let limit = bind_ok (limit_in pages.0 (word_at words 3)) _ birth pages.2 in
    let users = bind_ok (number_between 1 all_actors (word_at words 5)) _ birth limit.2 in
    let pagers = bind_ok (number_between 1 all_actors (word_at words 6)) _ birth users.2 in
    let mode = mode_allowed numbers numbered in
    let bonds = lies 1 all_actors users.0 && (lies 1 all_actors pagers.0 && mode) in
    subst (λ (b : Birth). birth_allowed numbers b ≡ true) (ok_is _ birth pagers.2)
    (both (lies 0 all_sizes pages.0) (limit_allowed pages.0 limit.0 && bonds) (number_within 0 all_sizes pages.0 (word_at words 2) (omega arith) pages.1)
    (both (limit_allowed pages.0 limit.0) bonds (limit_within pages.0 limit.0 (word_at words 3) limit.1)
    (both (lies 1 all_actors users.0) (lies 1 all_actors pagers.0 && mode) (number_within 1 all_actors users.0 (word_at words 5) (omega arith) users.1)
    (both (lies 1 all_actors pagers.0) mode (number_within 1 all_actors pagers.0 (word_at words 6) (omega arith) pagers.1) (mode_within numbers numbered (word_at words 8) told)))))

-- what holds of journals that have ended
record Finished (journals : Versioned) : Type 0 where
  pub version : is_version journals.version ≡ true
  pub all : list_all (journal_allowed (has_numbers journals.version)) journals.list ≡ true
  pub new : are_new [] journals.list ≡ true
  pub few : length journals.list ≤ most_journals

-- what holds of them and of the bytes so far
record Closed (part : Part) : Type 0 where
  pub done : Finished part.journals
  pub bytes : part.bytes ≡ sum_by journal_bytes part.journals.list
  pub room : part.bytes ≤ most_bytes

-- what holds where a journal is open
record Open (part : Part) (current : Named) : Type 0 where
  pub done : Finished part.journals
  pub fewer : length part.journals.list < most_journals
  pub name : is_name current.name ≡ true
  pub new : has_name part.journals.list current.name ≡ false
  pub birth : birth_allowed (has_numbers part.journals.version) current.birth ≡ true
  pub entries : list_all (entry_allowed (has_numbers part.journals.version) current.birth.numbered) current.entries ≡ true
  pub bytes : part.bytes ≡ sum_by journal_bytes part.journals.list + journal_bytes current
  pub room : part.bytes ≤ most_bytes

-- what holds behind the line done
record Whole (journals : Versioned) : Type 0 where
  pub done : Finished journals
  pub room : sum_by journal_bytes journals.list ≤ most_bytes

-- a section keeps the limits
abbrev Keeps : Section → Type 0
Keeps sections.Header = Unit {0}
Keeps (sections.Between part) = Closed part
Keeps (sections.Within part current) = Open part current
Keeps (sections.Ended journals) = Whole journals

entry_step : (part : Part) (current : Named) (words : List (List ℕ)) (t : Section) → Open part current → entry_line (has_numbers part.journals.version) part current words ≡ Ok t → Keeps t
entry_step part current words t keeps e =
    let numbers = has_numbers part.journals.version in
    let each = entry_allowed numbers current.birth.numbered in
    let entry = bind_ok (entry_in numbers current.birth.numbered (length current.entries) words) _ t e in
    let room = then_ok why.Limit (leb (part.bytes + spelled_bytes entry.0) most_bytes) _ t entry.2 in
    let few = leb-true (part.bytes + spelled_bytes entry.0) most_bytes room.0 in
    let is = entry_within numbers current.birth.numbered (length current.entries) words entry.0 entry.1 (omega (arith, few)) in
    let read = entry_of entry.0 in
    let last : list_all each (read ∷ []) ≡ true = both (each read) true is.allowed refl in
    let part_then : Part = record { journals = part.journals; bytes = part.bytes + spelled_bytes entry.0 } in
    let current_then : Named = record { name = current.name; birth = current.birth; entries = current.entries ++ read ∷ [] } in
    let opened : Open part_then current_then = record {
      done = keeps.done;
      fewer = keeps.fewer;
      name = keeps.name;
      new = keeps.new;
      birth = keeps.birth;
      entries = list_all-append each current.entries (read ∷ []) ∙ both (list_all each current.entries) (list_all each (read ∷ [])) keeps.entries last;
      bytes = omega (arith, keeps.bytes, sum_by_push entry_bytes current.entries read, is.bytes);
      room = few;
    } in
    subst Keeps (ok_is (sections.Within part_then current_then) t room.1) opened

-- a journal of another name is a new one behind the others
new_more : (before journals : List Named) (journal : Named) → are_new before journals ≡ true → has_name (before ++ journals) journal.name ≡ false → are_new before (journals ++ journal ∷ []) ≡ true
unfolding are_new
new_more before [] journal all new = both (not (has_name before journal.name)) true (ap not (ap (λ js. has_name js journal.name) (sym (append-nil before)) ∙ new)) refl
new_more before (first ∷ journals) journal all new =
    let p = and_parts (not (has_name before first.name)) (are_new (before ++ first ∷ []) journals) all in
    both (not (has_name before first.name)) (are_new (before ++ first ∷ []) (journals ++ journal ∷ [])) p.0
    (new_more (before ++ first ∷ []) journals journal p.1 (ap (λ js. has_name js journal.name) (append_assoc before (first ∷ []) journals) ∙ new))

end_step : (part : Part) (current : Named) (words : List (List ℕ)) (t : Section) → Open part current → end_line part current words ≡ Ok t → Keeps t
end_step part current words t keeps e =
    let shaped = then_ok why.Word (eqb (length words) 2) _ t e in
    let count = bind_ok (number_between 0 all_tickets (word_at words 1)) _ t shaped.1 in
    let order = then_ok why.Order (eqb count.0 (length current.entries)) _ t count.2 in
    let place : lies 0 all_tickets (length current.entries) ≡ true = subst (λ n. lies 0 all_tickets n ≡ true) (eqb-true count.0 (length current.entries) order.0) (number_within 0 all_tickets count.0 (word_at words 1) (omega arith) count.1) in
    let few = (and_parts (leb 0 (length current.entries)) (leb (length current.entries) all_tickets) place).1 in
    let numbers = has_numbers part.journals.version in
    let each = journal_allowed numbers in
    let all = list_all (entry_allowed numbers current.birth.numbered) current.entries in
    let entries = all && leb (length current.entries) all_tickets in
    let allowed : journal_allowed numbers current ≡ true = both (is_name current.name) (birth_allowed numbers current.birth && entries) keeps.name
    (both (birth_allowed numbers current.birth) entries keeps.birth (both all (leb (length current.entries) all_tickets) keeps.entries few)) in
    let part_then : Part = record { journals = record { version = part.journals.version; list = part.journals.list ++ current ∷ [] }; bytes = part.bytes } in
    let closed : Closed part_then = record {
      done = record {
        version = keeps.done.version;
        all = list_all-append each part.journals.list (current ∷ []) ∙ both (list_all each part.journals.list) (list_all each (current ∷ [])) keeps.done.all (both (each current) true allowed refl);
        new = new_more [] part.journals.list current keeps.done.new keeps.new;
        few = omega (arith, keeps.fewer, length-append part.journals.list (current ∷ []));
      };
      bytes = keeps.bytes ∙ sym (sum_by_push journal_bytes part.journals.list current);
      room = keeps.room;
    } in
    subst Keeps (ok_is (sections.Between part_then) t order.1) closed

journal_step : (part : Part) (words : List (List ℕ)) (t : Section) → Closed part → journal_line (has_numbers part.journals.version) part words ≡ Ok t → Keeps t
journal_step part words t keeps e =
    let numbers = has_numbers part.journals.version in
    let trap = found_ok why.Word (flag_in (codes "trap") (codes "free") (word_at words 4)) _ t e in
    let image = found_ok why.Word (flag_in (codes "image") (codes "-") (word_at words 7)) _ t trap.2 in
    let mode = found_ok why.Word (mode_in numbers (word_at words 8)) _ t image.2 in
    let named = then_ok why.Name (is_name (word_at words 1) && not (has_name part.journals.list (word_at words 1))) _ t mode.2 in
    let birth = bind_ok (birth_in words trap.0 image.0 mode.0) _ t named.1 in
    let few = then_ok why.Limit (ltb (length part.journals.list) most_journals) _ t birth.2 in
    let p = and_parts (is_name (word_at words 1)) (not (has_name part.journals.list (word_at words 1))) named.0 in
    let current : Named = record { name = word_at words 1; birth = birth.0; entries = [] } in
    let opened : Open part current = record {
      done = keeps.done;
      fewer = ltb-true (length part.journals.list) most_journals few.0;
      name = p.0;
      new = not-true (has_name part.journals.list (word_at words 1)) p.1;
      birth = birth_within numbers words trap.0 image.0 mode.0 birth.0 mode.1 birth.1;
      entries = refl;
      bytes = omega (arith, keeps.bytes);
      room = keeps.room;
    } in
    subst Keeps (ok_is (sections.Within part current) t few.1) opened

done_step : (part : Part) (t : Section) → Closed part → ◌≡◌ {A = Result Section Why} (Ok (sections.Ended part.journals)) (Ok t) → Keeps t
done_step part t keeps e =
    let whole : Whole part.journals = record { done = keeps.done; room = omega (arith, keeps.bytes, keeps.room) } in
    subst Keeps (ok_is (sections.Ended part.journals) t e) whole

between_step : (part : Part) (words : List (List ℕ)) (t : Section) → Closed part → between_line (has_numbers part.journals.version) part words ≡ Ok t → Keeps t
between_step part words t keeps e =
    ⊎_elim (λ p. done_step part t keeps p.1) others (either (verb_is words 0 (codes "done") 1) (Ok (sections.Ended part.journals)) (cond (verb_is words 0 (codes "journal") (birth_size (has_numbers part.journals.version))) (journal_line (has_numbers part.journals.version) part words) (Err why.Word)) (Ok t) e)
  where
    others : (verb_is words 0 (codes "done") 1 ≡ false) × (cond (verb_is words 0 (codes "journal") (birth_size (has_numbers part.journals.version))) (journal_line (has_numbers part.journals.version) part words) (Err why.Word) ≡ Ok t) → Keeps t
    others p = ⊎_elim (λ q. journal_step part words t keeps q.1) (λ q. absurd (bad_word t q.1)) (either (verb_is words 0 (codes "journal") (birth_size (has_numbers part.journals.version))) (journal_line (has_numbers part.journals.version) part words) (Err why.Word) (Ok t) p.1)

within_step : (part : Part) (current : Named) (words : List (List ℕ)) (t : Section) → Open part current → within_line (has_numbers part.journals.version) part current words ≡ Ok t → Keeps t
within_step part current words t keeps e =
    ⊎_elim (λ p. end_step part current words t keeps p.1) (λ p. entry_step part current words t keeps p.1) (either (word_is words 0 (codes "end")) (end_line part current words) (entry_line (has_numbers part.journals.version) part current words) (Ok t) e)

nothing_keeps : (version : ℕ) → is_version version ≡ true → Closed (nothing_read version)
unfolding are_new
nothing_keeps version e = record { done = record { version = e; all = refl; new = refl; few = omega arith }; bytes = refl; room = omega arith }

-- each line keeps the limits
step_keeps : (s t : Section) (line : List ℕ) → Keeps s → line_step s line ≡ Ok t → Keeps t
step_keeps sections.Header t line keeps e =
    let version = bind_ok (version_in line) _ t e in
    subst Keeps (ok_is (sections.Between (nothing_read version.0)) t version.2) (nothing_keeps version.0 (version_takes line version.0 version.1).1)
step_keeps (sections.Between part) t line keeps e =
    let words = bind_ok (words_in line) _ t e in
    between_step part words.0 t keeps words.2
step_keeps (sections.Within part current) t line keeps e =
    let words = bind_ok (words_in line) _ t e in
    within_step part current words.0 t keeps words.2
step_keeps (sections.Ended journals) t line keeps e = absurd (bad_word t e)

ended_keeps : (s : Section) (journals : Versioned) → Keeps s → ended s ≡ Ok journals → Whole journals
ended_keeps sections.Header journals keeps e = absurd cc
ended_keeps (sections.Between part) journals keeps e = absurd cc
ended_keeps (sections.Within part current) journals keeps e = absurd cc
ended_keeps (sections.Ended found) journals keeps e = subst Whole (ok_is found journals e) keeps

lines_keep : (n : ℕ) (s : Section) (pieces : List (List ℕ)) (journals : Versioned) → Keeps s → lines_of n s pieces ≡ Ok journals → Whole journals
unfolding lines_from
lines_keep n s [] journals keeps e = absurd cc
lines_keep n s (rest ∷ []) journals keeps e =
    let whole = then_ok why.Cut (eqb (length rest) 0) _ journals (ok_line n (last_step s rest) journals e) in
    ended_keeps s journals keeps whole.1
lines_keep n s (line ∷ next ∷ lines) journals keeps e =
    let step = bind_line (at_line n (line_step s line)) _ journals e in
    lines_keep (n + 1) step.0 (next ∷ lines) journals (step_keeps s step.0 line keeps (ok_line n (line_step s line) step.0 step.1)) step.2

held : (reason : Why) (test answer : Bool) → check reason test ≡ Ok answer → test ≡ true
held reason true answer e = refl
held reason false answer e = absurd cc

-- what was read keeps the limits
pub within : ReadsWithinLimits
within bytes journals e =
    let short = bind_line (at_line 0 (check why.Long (leb (length bytes) longest_text))) _ journals e in
    let whole = lines_keep 1 sections.Header (split 10 bytes) journals tt short.2 in
    let long : leb (length bytes) longest_text ≡ true = held why.Long (leb (length bytes) longest_text) short.0 (ok_line 0 (check why.Long (leb (length bytes) longest_text)) short.0 short.1) in
    let length_of : leb (length (text journals)) longest_text ≡ true = subst (λ b. leb (length b) longest_text ≡ true) (only bytes journals e) long in
    let few = le-leb (length journals.list) most_journals whole.done.few in
    let room = le-leb (sum_by journal_bytes journals.list) most_bytes whole.room in
    let sizes = leb (length journals.list) most_journals && leb (sum_by journal_bytes journals.list) most_bytes in
    let texts : have_texts journals ≡ true = both (is_version journals.version) (list_all (journal_allowed (has_numbers journals.version)) journals.list) whole.done.version whole.done.all in
    both (are_allowed journals) (leb (length (text journals)) longest_text && sizes) (both (have_texts journals) (are_new [] journals.list) texts whole.done.new)
    (both (leb (length (text journals)) longest_text) sizes length_of (both (leb (length journals.list) most_journals) (leb (sum_by journal_bytes journals.list) most_bytes) few room))

short_is : (bytes : List ℕ) → length bytes ≤ longest_text → journals_of bytes ≡ lines_of 1 sections.Header (split 10 bytes)
short_is bytes short = rw (le-leb (length bytes) longest_text short) refl

-- what a reader of a text gives that isn't too long is written as that text, and within the limits
pub sound : (bytes : List ℕ) (given : Result (Versioned) ReadFault) → length bytes ≤ longest_text → GivesText (λ journals. journals) given (lines_of 1 sections.Header (split 10 bytes))
    → IfOk given (λ journals. (bytes ≡ text journals) × (are_within journals ≡ true))
sound bytes (Ok journals) short e =
    let read : journals_of bytes ≡ Ok journals = short_is bytes short ∙ e in
    (only bytes journals read, within bytes journals read)
sound bytes (Err fault) short e = tt

-- it gives the journals whose text it is
pub found : (bytes : List ℕ) (given : Result (Versioned) ReadFault) → length bytes ≤ longest_text → GivesText (λ journals. journals) given (lines_of 1 sections.Header (split 10 bytes))
    → (journals : Versioned) → are_within journals ≡ true → bytes ≡ text journals → GivesText (λ journals. journals) given (Ok journals)
found bytes given short e journals a same =
    let read : journals_of bytes ≡ Ok journals = ap journals_of same ∙ back journals a in
    subst (λ (r : Result (Versioned) Fault). GivesText (λ journals. journals) given r) (sym (short_is bytes short) ∙ read) e
