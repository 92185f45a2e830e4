-- Entries and births: each is read from its words, and from no others, and its words are words.
use Rattle.std.proofs.Common.{◌≡◌, ℕ, suc, ◌+◌, ◌^◌, ◌<◌, ◌≤◌, Bool, true, false, ◌&&◌, ◌||◌, ⊎_elim, eqb, leb, not, List, [], ◌∷◌, ◌++◌, length, get_or, drop, Option, Some, None, Result, Ok, refl, sym, ap, ap₂, subst, ◌∙◌, arith}
use Rattle.std.specs.Fmt.{decimal}
use Rattle.std.specs.Prelude.{codes}
use Rattle.std.specs.List.{list_all}
use Rattle.std.specs.Str.{bytes_eq}
use Rattle.std.proofs.lemmas.Bool.{and_parts, eqb-true, eq-eqb, leb-true, le-leb}
use Rattle.std.proofs.lemmas.List.{length-drop}
use Rattle.std.proofs.lemmas.List.Folds.{list_all-append}
use Rattle.std.proofs.Math.Seq.{split_at}
use Rattle.up_model.specs.declared.entry.Birth.{Birth}
use Rattle.up_model.specs.declared.entry.Entry.{Entry}
use Rattle.up_model.specs.declared.entry.Call.{Call}
use Rattle.up_model.specs.declared.entry.Reply.{Reply}
use Rattle.up_words.specs.ReadSteps.{◌>>=◌}
use Rattle.up_words.specs.Words.{word_at, word_is, is_word, is_word_byte}
use Rattle.up_words.specs.Numbers.{is_digit, number_between}
use Rattle.up_words.specs.Names.{is_letter, is_name_byte, is_name}
use Rattle.up_words.specs.Runs.{too_many}
use Rattle.up_words.specs.declared.fault.Why.{Why}
use Rattle.up_words.specs.declared.fault.Why.TheVariants as why
use Rattle.up_words.proofs.Decimals.{both, then_ok, ok_is}
use Rattle.up_fields.specs.Limits.{all_tickets, all_counts, all_sizes, most_bytes}
use Rattle.up_text.specs.Limits.{all_actors}
use Rattle.up_calls.specs.Text.{call_words}
use Rattle.up_replies.specs.Text.{reply_words}
use Rattle.up_text.specs.Text.{limit_text, mode_words, entry_words, birth_words}
use Rattle.up_fields.specs.Fields.{flag_in}
use Rattle.up_calls.specs.Kinds.{call_size}
use Rattle.up_replies.specs.Kinds.{reply_size}
use Rattle.up_calls.specs.Calls.{call_fits, call_kind, call_in, call_of}
use Rattle.up_replies.specs.Replies.{reply_kind, list_fits, reply_in, reply_of}
use Rattle.up_text.specs.Reading.{forms_in, entry_in, spelled_bytes, entry_of, limit_in, mode_in, birth_size, birth_in}
use Rattle.up_fields.specs.Allowed.{lies}
use Rattle.up_calls.specs.Allowed.{call_allowed, is_formed}
use Rattle.up_replies.specs.Allowed.{reply_allowed, is_known}
use Rattle.up_text.specs.Allowed.{deed_known, entry_allowed, limit_allowed, mode_allowed, birth_allowed, entry_bytes}
use Rattle.up_text.specs.declared.entries.Forms.{Forms}
use Rattle.up_text.specs.declared.entries.Spelled.{Spelled}
use Rattle.up_replies.specs.declared.kinds.ReplyKind.{ReplyKind}
use Rattle.up_replies.specs.declared.kinds.ReplyKind.TheVariants as reply_forms
use Rattle.up_fields.proofs.Values.{bind_ok, found_ok, either, same_word, other_first, first_digit, number_again, number_takes, number_word, lies_word, flag_again, flag_takes, flag_word}
use Rattle.up_calls.proofs.CallForms as of_calls
use Rattle.up_replies.proofs.ReplyForms as of_replies

-- what an allowed entry's fields are
pub record IsEntry (numbers numbered : Bool) (e : Entry) : Type 0 where
  pub who : lies 0 all_counts e.who ≡ true
  pub epoch : lies 0 all_tickets e.epoch ≡ true
  pub call : call_allowed e.call ≡ true
  pub reply : reply_allowed e.reply ≡ true
  pub formed : is_formed numbered e.call ≡ true
  pub known : is_known numbers e.reply ≡ true

pub entry_parts : (numbers numbered : Bool) (e : Entry) → entry_allowed numbers numbered e ≡ true → IsEntry numbers numbered e
entry_parts numbers numbered e a =
    let deed = reply_allowed e.reply && deed_known numbers numbered e in
    let p = and_parts (lies 0 all_counts e.who) (lies 0 all_tickets e.epoch && (call_allowed e.call && deed)) a in
    let q = and_parts (lies 0 all_tickets e.epoch) (call_allowed e.call && deed) p.1 in
    let r = and_parts (call_allowed e.call) deed q.1 in
    let s = and_parts (reply_allowed e.reply) (deed_known numbers numbered e) r.1 in
    let t = and_parts (is_formed numbered e.call) (is_known numbers e.reply) s.1 in
    record { who = p.0; epoch = q.0; call = r.0; reply = s.0; formed = t.0; known = t.1 }

-- an allowed entry's words are words
pub entry_good : (numbers numbered : Bool) (position : ℕ) (e : Entry) → position < 2 ^ 64 → entry_allowed numbers numbered e ≡ true → list_all is_word (entry_words position e) ≡ true
entry_good numbers numbered position e fits a =
    let parts = entry_parts numbers numbered e a in
    let deed : list_all is_word (call_words e.call ++ codes "->" ∷ reply_words e.reply) ≡ true =
    list_all-append is_word (call_words e.call) (codes "->" ∷ reply_words e.reply)
    ∙ both (list_all is_word (call_words e.call)) (list_all is_word (reply_words e.reply)) (of_calls.call_good e.call parts.call) (of_replies.reply_good e.reply parts.reply) in
    both (is_word (decimal position)) (is_word (decimal e.who) && (is_word (decimal e.epoch) && list_all is_word (call_words e.call ++ codes "->" ∷ reply_words e.reply))) (number_word position fits)
    (both (is_word (decimal e.who)) (is_word (decimal e.epoch) && list_all is_word (call_words e.call ++ codes "->" ∷ reply_words e.reply)) (lies_word 0 all_counts e.who (omega arith) parts.who)
    (both (is_word (decimal e.epoch)) (list_all is_word (call_words e.call ++ codes "->" ∷ reply_words e.reply)) (lies_word 0 all_tickets e.epoch (omega arith) parts.epoch) deed))

-- the forms of an entry are found in its words
forms_again : (numbers numbered : Bool) (position : ℕ) (e : Entry) → entry_allowed numbers numbered e ≡ true → forms_in numbers numbered (entry_words position e) ≡ Ok (record { call = of_calls.kind_of e.call; reply = of_replies.kind_of e.reply })
forms_again numbers numbered position e a =
    let parts = entry_parts numbers numbered e a in
    rw (
      of_calls.call_found numbered e.call (codes "->" ∷ reply_words e.reply) parts.formed,
      of_calls.call_ended e.call (codes "->" ∷ reply_words e.reply),
      of_calls.call_behind e.call (reply_words e.reply) (decimal position) (decimal e.who) (decimal e.epoch) (codes "->"),
      of_replies.reply_found numbers e.reply parts.known,
      of_replies.list_shown e.reply parts.reply,
    ) refl

-- the entry with another call and reply
abbrev with_deed : Entry → Call → Reply → Entry
with_deed e call reply = record { who = e.who; epoch = e.epoch; call = call; reply = reply }

-- how an entry is read from its words
pub record EntryAgain (numbers numbered : Bool) (position : ℕ) (e : Entry) : Type 0 where
  pub spelled : Spelled
  pub read : entry_in numbers numbered position (entry_words position e) ≡ Ok spelled
  pub same : entry_of spelled ≡ e
  pub total : spelled_bytes spelled ≡ entry_bytes e

-- an allowed entry is read from its words
pub entry_again : (numbers numbered : Bool) (position : ℕ) (e : Entry) → position ≤ all_tickets → entry_allowed numbers numbered e ≡ true → entry_bytes e ≤ most_bytes → EntryAgain numbers numbered position e
entry_again numbers numbered position e fits a few =
    let parts = entry_parts numbers numbered e a in
    let call = of_calls.call_again e.call (codes "->" ∷ reply_words e.reply) parts.call (omega (arith, few)) in
    let reply = of_replies.reply_again e.reply parts.reply (omega (arith, few)) in
    let place : lies 0 all_tickets position ≡ true = both (leb 0 position) (leb position all_tickets) (le-leb 0 position (omega arith)) (le-leb position all_tickets fits) in
    record {
      spelled = record { who = e.who; epoch = e.epoch; call = call.spelled; reply = reply.spelled };
      read = rw (
        forms_again numbers numbered position e a,
        number_again 0 all_tickets position (omega arith) place,
        number_again 0 all_counts e.who (omega arith) parts.who,
        number_again 0 all_tickets e.epoch (omega arith) parts.epoch,
        call.read,
        of_calls.call_behind e.call (reply_words e.reply) (decimal position) (decimal e.who) (decimal e.epoch) (codes "->"),
        reply.read,
        eq-eqb position position refl,
      ) refl;
      same = ap₂ (with_deed e) call.same reply.same;
      total = omega (arith, call.total, reply.total);
    }

some_size : (kind : ReplyKind) → 1 ≤ reply_size kind
some_size reply_forms.Bytes = omega arith
some_size reply_forms.Done = omega arith
some_size reply_forms.Waiting = omega arith
some_size reply_forms.Noted = omega arith
some_size reply_forms.Empty = omega arith
some_size reply_forms.Finished = omega arith
some_size reply_forms.Blocked = omega arith
some_size reply_forms.Needs = omega arith
some_size reply_forms.Took = omega arith
some_size reply_forms.Woke = omega arith
some_size reply_forms.Ranges = omega arith
some_size reply_forms.Modified = omega arith
some_size reply_forms.Borrowed = omega arith
some_size reply_forms.Pages = omega arith
some_size reply_forms.Vacated = omega arith
some_size reply_forms.PacketRead = omega arith
some_size reply_forms.PacketDirty = omega arith
some_size reply_forms.PacketComplete = omega arith
some_size reply_forms.Left = omega arith
some_size reply_forms.RefusedPlain = omega arith
some_size reply_forms.RefusedPage = omega arith
some_size reply_forms.Began = omega arith
some_size reply_forms.RefusedNumber = omega arith

-- the forms that were found, and where the reply begins
record HasForms (forms : Forms) (deed : List (List ℕ)) : Type 0 where
  pub call : call_fits forms.call deed ≡ true
  pub arrow : word_at deed (call_size forms.call) ≡ codes "->"
  pub reply : of_replies.Fits forms.reply (drop (suc (call_size forms.call)) deed)
  pub long : call_size forms.call < length deed

-- the words behind a call, in a line
behind : (size : ℕ) (a b c : List ℕ) (deed : List (List ℕ)) → drop (size + 4) (a ∷ b ∷ c ∷ deed) ≡ drop (suc size) deed
behind size a b c deed = let same : size + 4 ≡ suc (suc (suc (suc size))) = omega arith in rw same refl

forms_take : (numbers numbered : Bool) (a b c : List ℕ) (deed : List (List ℕ)) (forms : Forms) → forms_in numbers numbered (a ∷ b ∷ c ∷ deed) ≡ Ok forms → HasForms forms deed
forms_take numbers numbered a b c deed forms e =
    let call = found_ok why.Word (call_kind numbered deed) _ forms e in
    let arrow = then_ok why.Word (word_is deed (call_size call.0) (codes "->")) _ forms call.2 in
    let reply = found_ok why.Word (reply_kind numbers (drop (call_size call.0 + 4) (a ∷ b ∷ c ∷ deed))) _ forms arrow.1 in
    let shaped = then_ok why.Word (list_fits reply.0 (drop (call_size call.0 + 4) (a ∷ b ∷ c ∷ deed))) _ forms reply.2 in
    let made : Forms = record { call = call.0; reply = reply.0 } in
    let fits = of_replies.fits_parts reply.0 (drop (call_size call.0 + 4) (a ∷ b ∷ c ∷ deed)) (of_replies.found_fits numbers (drop (call_size call.0 + 4) (a ∷ b ∷ c ∷ deed)) reply.0 reply.1) in
    let there : of_replies.Fits reply.0 (drop (suc (call_size call.0)) deed) = subst (λ ws. of_replies.Fits reply.0 ws) (behind (call_size call.0) a b c deed) fits in
    let found : HasForms made deed = record {
      call = of_calls.found_fits numbered deed call.0 call.1;
      arrow = same_word (word_at deed (call_size call.0)) (codes "->") arrow.0;
      reply = there;
      long = omega (arith, there.size, some_size reply.0, length-drop (suc (call_size call.0)) deed);
    } in
    subst (λ f. HasForms f deed) (ok_is made forms shaped.1) found

words_take : (numbers numbered : Bool) (next : ℕ) (a b c : List ℕ) (deed : List (List ℕ)) (spelled : Spelled) → entry_in numbers numbered next (a ∷ b ∷ c ∷ deed) ≡ Ok spelled → spelled_bytes spelled < too_many → (a ∷ b ∷ c ∷ deed) ≡ entry_words next (entry_of spelled)
words_take numbers numbered next a b c deed spelled e less =
    let forms = bind_ok (forms_in numbers numbered (a ∷ b ∷ c ∷ deed)) _ spelled e in
    let position = bind_ok (number_between 0 all_tickets a) _ spelled forms.2 in
    let who = bind_ok (number_between 0 all_counts b) _ spelled position.2 in
    let epoch = bind_ok (number_between 0 all_tickets c) _ spelled who.2 in
    let call = bind_ok (call_in forms.0.call deed) _ spelled epoch.2 in
    let reply = bind_ok (reply_in forms.0.reply (drop (call_size forms.0.call + 4) (a ∷ b ∷ c ∷ deed))) _ spelled call.2 in
    let order = then_ok why.Order (eqb position.0 next) _ spelled reply.2 in
    let made : Spelled = record { who = who.0; epoch = epoch.0; call = call.0; reply = reply.0 } in
    let same : made ≡ spelled = ok_is made spelled order.1 in
    let few : spelled_bytes made < too_many = subst (λ (s : Spelled). spelled_bytes s < too_many) (sym same) less in
    let has = forms_take numbers numbered a b c deed forms.0 forms.1 in
    let size = call_size forms.0.call in
    let reply_is : reply_in forms.0.reply (drop (suc size) deed) ≡ Ok reply.0 = ap (reply_in forms.0.reply) (sym (behind size a b c deed)) ∙ reply.1 in
    let call_part = of_calls.call_takes forms.0.call deed call.0 (omega (arith, has.long)) has.call call.1 (omega (arith, few)) in
    let reply_part = of_replies.reply_takes forms.0.reply (drop (suc size) deed) reply.0 has.reply reply_is (omega (arith, few)) in
    let front : (a ∷ b ∷ c ∷ []) ≡ (decimal next ∷ decimal who.0 ∷ decimal epoch.0 ∷ []) =
    of_rows (number_takes 0 all_tickets position.0 a (omega arith) position.1 ∙ ap decimal (eqb-true position.0 next order.0)) (number_takes 0 all_counts who.0 b (omega arith) who.1) (number_takes 0 all_tickets epoch.0 c (omega arith) epoch.1) in
    let arrow : get_or deed size [] ≡ codes "->" = has.arrow in
    let rest : deed ≡ call_words (call_of call.0) ++ codes "->" ∷ reply_words (reply_of reply.0) =
    split_at deed size [] has.long ∙ ap₂ (λ x y. x ++ y) call_part (ap₂ (λ (x : List ℕ) (y : List (List ℕ)). x ∷ y) arrow reply_part) in
    ap₂ (λ (x y : List (List ℕ)). x ++ y) front rest ∙ ap (λ (s : Spelled). entry_words next (entry_of s)) same
  where
    of_rows : {x y z u v w : List ℕ} → x ≡ u → y ≡ v → z ≡ w → (x ∷ y ∷ z ∷ []) ≡ (u ∷ v ∷ w ∷ [])
    of_rows e f g = ap₂ (λ (x : List ℕ) (ws : List (List ℕ)). x ∷ ws) e (ap₂ (λ (x : List ℕ) (ws : List (List ℕ)). x ∷ ws) f (ap (λ (x : List ℕ). x ∷ []) g))

no_kind : (numbers numbered : Bool) (words : List (List ℕ)) (spelled : Spelled) (next : ℕ) → length words < 3 → entry_in numbers numbered next words ≡ Ok spelled → ⊥
no_kind numbers numbered words spelled next short e =
    let forms = bind_ok (forms_in numbers numbered words) _ spelled e in
    let call = found_ok why.Word (call_kind numbered (drop 3 words)) _ forms.0 forms.1 in
    let arrow = then_ok why.Word (word_is (drop 3 words) (call_size call.0) (codes "->")) _ forms.0 call.2 in
    let reply = found_ok why.Word (reply_kind numbers (drop (call_size call.0 + 4) words)) _ forms.0 arrow.1 in
    let fits = of_replies.fits_parts reply.0 (drop (call_size call.0 + 4) words) (of_replies.found_fits numbers (drop (call_size call.0 + 4) words) reply.0 reply.1) in
    omega (arith, short, fits.size, some_size reply.0, length-drop (call_size call.0 + 4) words)

-- no other words are read as an entry
pub entry_takes : (numbers numbered : Bool) (next : ℕ) (words : List (List ℕ)) (spelled : Spelled) → entry_in numbers numbered next words ≡ Ok spelled → spelled_bytes spelled < too_many → words ≡ entry_words next (entry_of spelled)
entry_takes numbers numbered next [] spelled e less = absurd (no_kind numbers numbered [] spelled next (omega arith) e)
entry_takes numbers numbered next (a ∷ []) spelled e less = absurd (no_kind numbers numbered (a ∷ []) spelled next (omega arith) e)
entry_takes numbers numbered next (a ∷ b ∷ []) spelled e less = absurd (no_kind numbers numbered (a ∷ b ∷ []) spelled next (omega arith) e)
entry_takes numbers numbered next (a ∷ b ∷ c ∷ deed) spelled e less = words_take numbers numbered next a b c deed spelled e less

-- what an allowed birth's fields are
pub record IsBirth (numbers : Bool) (birth : Birth) : Type 0 where
  pub pages : lies 0 all_sizes birth.pages ≡ true
  pub limit : limit_allowed birth.pages birth.limit ≡ true
  pub users : lies 1 all_actors birth.users ≡ true
  pub pagers : lies 1 all_actors birth.pagers ≡ true
  pub mode : mode_allowed numbers birth.numbered ≡ true

pub birth_parts : (numbers : Bool) (birth : Birth) → birth_allowed numbers birth ≡ true → IsBirth numbers birth
birth_parts numbers birth a =
    let bonds = lies 1 all_actors birth.users && (lies 1 all_actors birth.pagers && mode_allowed numbers birth.numbered) in
    let p = and_parts (lies 0 all_sizes birth.pages) (limit_allowed birth.pages birth.limit && bonds) a in
    let q = and_parts (limit_allowed birth.pages birth.limit) bonds p.1 in
    let r = and_parts (lies 1 all_actors birth.users) (lies 1 all_actors birth.pagers && mode_allowed numbers birth.numbered) q.1 in
    let s = and_parts (lies 1 all_actors birth.pagers) (mode_allowed numbers birth.numbered) r.1 in
    record { pages = p.0; limit = q.0; users = r.0; pagers = s.0; mode = s.1 }

-- whether a journal is numbered is read from its words
pub mode_again : (numbers numbered : Bool) → mode_allowed numbers numbered ≡ true → mode_in numbers (word_at (mode_words numbers numbered) 0) ≡ Some numbered
mode_again true numbered a = flag_again (codes "numbered") (codes "ranged") numbered refl refl refl
mode_again false true a = absurd cc
mode_again false false a = refl

mode_good : (numbers numbered : Bool) → list_all is_word (mode_words numbers numbered) ≡ true
mode_good true numbered = rw (flag_word (codes "numbered") (codes "ranged") numbered refl refl) refl
mode_good false numbered = refl

-- so many words a birth has
pub birth_long : (numbers : Bool) (name : List ℕ) (birth : Birth) → length (birth_words numbers name birth) ≡ birth_size numbers
birth_long true name birth = refl
birth_long false name birth = refl

limit_again : (pages : ℕ) (limit : Option ℕ) → limit_allowed pages limit ≡ true → limit_in pages (limit_text limit) ≡ Ok limit
limit_again pages None a = refl
limit_again pages (Some most) a =
    let p = and_parts (leb pages most) (leb most all_sizes) a in
    let fits : most < 2 ^ 64 = omega (arith, leb-true most all_sizes p.1) in
    rw (other_first (decimal most) (codes "-") (λ same. omega (arith, (first_digit most fits).0, same)), number_again pages all_sizes most (omega arith) a) refl

limit_word : (pages : ℕ) (limit : Option ℕ) → limit_allowed pages limit ≡ true → is_word (limit_text limit) ≡ true
limit_word pages None a = refl
limit_word pages (Some most) a = lies_word pages all_sizes most (omega arith) a

limit_takes : (pages : ℕ) (limit : Option ℕ) (word : List ℕ) → limit_in pages word ≡ Ok limit → word ≡ limit_text limit
limit_takes pages limit word e = ⊎_elim none some (either (bytes_eq word (codes "-")) (Ok None) (number_between pages all_sizes word >>= λ most. Ok (Some most)) (Ok limit) e)
  where
    none : (bytes_eq word (codes "-") ≡ true) × (◌≡◌ {A = Result (Option ℕ) Why} (Ok None) (Ok limit)) → word ≡ limit_text limit
    none p = same_word word (codes "-") p.0 ∙ ap limit_text (ok_is None limit p.1)

    some : (bytes_eq word (codes "-") ≡ false) × ((number_between pages all_sizes word >>= λ most. Ok (Some most)) ≡ Ok limit) → word ≡ limit_text limit
    some p =
        let most = bind_ok (number_between pages all_sizes word) _ limit p.1 in
        number_takes pages all_sizes most.0 word (omega arith) most.1 ∙ ap limit_text (ok_is (Some most.0) limit most.2)

-- an allowed birth is read from its words
pub birth_again : (numbers : Bool) (name : List ℕ) (birth : Birth) → birth_allowed numbers birth ≡ true → birth_in (birth_words numbers name birth) birth.trap birth.image birth.numbered ≡ Ok birth
birth_again numbers name birth a =
    let parts = birth_parts numbers birth a in
    rw (
      number_again 0 all_sizes birth.pages (omega arith) parts.pages,
      limit_again birth.pages birth.limit parts.limit,
      number_again 1 all_actors birth.users (omega arith) parts.users,
      number_again 1 all_actors birth.pagers (omega arith) parts.pagers,
    ) refl

name_byte : (byte : ℕ) → is_name_byte byte ≡ true → is_word_byte byte ≡ true
name_byte byte e = by (is_letter byte) (is_digit byte) refl refl e
  where
    by : (letter digit : Bool) → is_letter byte ≡ letter → is_digit byte ≡ digit → (letter || digit) ≡ true → is_word_byte byte ≡ true
    by true digit f g e =
        let p = and_parts (leb 97 byte) (leb byte 122) f in
        both (leb 33 byte) (leb byte 126) (le-leb 33 byte (omega (arith, leb-true 97 byte p.0))) (le-leb byte 126 (omega (arith, leb-true byte 122 p.1)))
    by false true f g e =
        let p = and_parts (leb 48 byte) (leb byte 57) g in
        both (leb 33 byte) (leb byte 126) (le-leb 33 byte (omega (arith, leb-true 48 byte p.0))) (le-leb byte 126 (omega (arith, leb-true byte 57 p.1)))
    by false false f g e = absurd cc

name_bytes : (bytes : List ℕ) → list_all is_name_byte bytes ≡ true → list_all is_word_byte bytes ≡ true
name_bytes [] e = refl
name_bytes (byte ∷ bytes) e =
    let p = and_parts (is_name_byte byte) (list_all is_name_byte bytes) e in
    both (is_word_byte byte) (list_all is_word_byte bytes) (name_byte byte p.0) (name_bytes bytes p.1)

-- a name is a word
pub name_word : (name : List ℕ) → is_name name ≡ true → is_word name ≡ true
name_word name e =
    let p = and_parts (not (eqb (length name) 0) && is_letter (get_or name 0 0) && leb (length name) 16) (list_all is_name_byte name) e in
    let q = and_parts (not (eqb (length name) 0) && is_letter (get_or name 0 0)) (leb (length name) 16) p.0 in
    let r = and_parts (not (eqb (length name) 0)) (is_letter (get_or name 0 0)) q.0 in
    both (not (eqb (length name) 0)) (list_all is_word_byte name) r.0 (name_bytes name p.1)

-- an allowed birth's words are words
pub birth_good : (numbers : Bool) (name : List ℕ) (birth : Birth) → is_name name ≡ true → birth_allowed numbers birth ≡ true → list_all is_word (birth_words numbers name birth) ≡ true
birth_good numbers name birth named a =
    let parts = birth_parts numbers birth a in
    rw (
      name_word name named,
      lies_word 0 all_sizes birth.pages (omega arith) parts.pages,
      limit_word birth.pages birth.limit parts.limit,
      flag_word (codes "trap") (codes "free") birth.trap refl refl,
      lies_word 1 all_actors birth.users (omega arith) parts.users,
      lies_word 1 all_actors birth.pagers (omega arith) parts.pagers,
      flag_word (codes "image") (codes "-") birth.image refl refl,
      mode_good numbers birth.numbered,
    ) refl

next : {a b : List ℕ} {cs ds : List (List ℕ)} → a ≡ b → cs ≡ ds → (a ∷ cs) ≡ (b ∷ ds)
next e f = ap₂ (λ (w : List ℕ) (ws : List (List ℕ)). w ∷ ws) e f

-- eight words, and what follows them
first_eight : (ws : List (List ℕ)) → 8 ≤ length ws → ws ≡ word_at ws 0 ∷ word_at ws 1 ∷ word_at ws 2 ∷ word_at ws 3 ∷ word_at ws 4 ∷ word_at ws 5 ∷ word_at ws 6 ∷ word_at ws 7 ∷ drop 8 ws
first_eight [] e = absurd (omega (arith, e))
first_eight (a ∷ []) e = absurd (omega (arith, e))
first_eight (a ∷ b ∷ []) e = absurd (omega (arith, e))
first_eight (a ∷ b ∷ c ∷ []) e = absurd (omega (arith, e))
first_eight (a ∷ b ∷ c ∷ d ∷ []) e = absurd (omega (arith, e))
first_eight (a ∷ b ∷ c ∷ d ∷ f ∷ []) e = absurd (omega (arith, e))
first_eight (a ∷ b ∷ c ∷ d ∷ f ∷ g ∷ []) e = absurd (omega (arith, e))
first_eight (a ∷ b ∷ c ∷ d ∷ f ∷ g ∷ h ∷ []) e = absurd (omega (arith, e))
first_eight (a ∷ b ∷ c ∷ d ∷ f ∷ g ∷ h ∷ i ∷ more) e = refl

no_more : (ws : List (List ℕ)) → length ws ≡ 0 → ws ≡ []
no_more [] e = refl
no_more (a ∷ more) e = absurd (omega (arith, e))

one_more : (ws : List (List ℕ)) → length ws ≡ 1 → ws ≡ word_at ws 0 ∷ []
one_more [] e = absurd (omega (arith, e))
one_more (a ∷ []) e = refl
one_more (a ∷ b ∷ more) e = absurd (omega (arith, e))

-- the words behind the first eight say whether the journal is numbered
mode_takes : (numbers numbered : Bool) (words : List (List ℕ)) → length words ≡ birth_size numbers → mode_in numbers (word_at words 8) ≡ Some numbered → drop 8 words ≡ mode_words numbers numbered
mode_takes false numbered words size e = no_more (drop 8 words) (omega (arith, size, length-drop 8 words))
mode_takes true numbered words size e =
    let last : word_at (drop 8 words) 0 ≡ word_at words 8 = word_behind words (omega (arith, size)) in
    one_more (drop 8 words) (omega (arith, size, length-drop 8 words)) ∙ next (last ∙ flag_takes (codes "numbered") (codes "ranged") (word_at words 8) numbered e) refl
  where
    word_behind : (ws : List (List ℕ)) → 9 ≤ length ws → word_at (drop 8 ws) 0 ≡ word_at ws 8
    word_behind ws long = rw (first_eight ws (omega (arith, long))) refl

birth_some : (numbers : Bool) (n : ℕ) → n ≡ birth_size numbers → 8 ≤ n
birth_some true n e = omega (arith, e)
birth_some false n e = omega (arith, e)

-- no other words are read as a birth
pub birth_takes : (numbers : Bool) (words : List (List ℕ)) (birth : Birth) (trap image numbered : Bool) → length words ≡ birth_size numbers → word_at words 0 ≡ codes "journal" → flag_in (codes "trap") (codes "free") (word_at words 4) ≡ Some trap → flag_in (codes "image") (codes "-") (word_at words 7) ≡ Some image
    → mode_in numbers (word_at words 8) ≡ Some numbered → birth_in words trap image numbered ≡ Ok birth → words ≡ birth_words numbers (word_at words 1) birth
birth_takes numbers words birth trap image numbered size verb trapped imaged told e =
    let pages = bind_ok (number_between 0 all_sizes (word_at words 2)) _ birth e in
    let limit = bind_ok (limit_in pages.0 (word_at words 3)) _ birth pages.2 in
    let users = bind_ok (number_between 1 all_actors (word_at words 5)) _ birth limit.2 in
    let pagers = bind_ok (number_between 1 all_actors (word_at words 6)) _ birth users.2 in
    let made : Birth = record { pages = pages.0; limit = limit.0; trap = trap; users = users.0; pagers = pagers.0; image = image; numbered = numbered } in
    first_eight words (birth_some numbers (length words) size)
    ∙ next verb (next refl (next (number_takes 0 all_sizes pages.0 (word_at words 2) (omega arith) pages.1) (next (limit_takes pages.0 limit.0 (word_at words 3) limit.1)
    (next (flag_takes (codes "trap") (codes "free") (word_at words 4) trap trapped) (next (number_takes 1 all_actors users.0 (word_at words 5) (omega arith) users.1)
    (next (number_takes 1 all_actors pagers.0 (word_at words 6) (omega arith) pagers.1) (next (flag_takes (codes "image") (codes "-") (word_at words 7) image imaged) (mode_takes numbers numbered words size told))))))))
    ∙ ap (birth_words numbers (word_at words 1)) (ok_is made birth pagers.2)
