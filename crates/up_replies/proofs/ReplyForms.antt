-- Replies: each is read from its words, and from no others, and its words are words.
use Rattle.std.proofs.Common.{◌≡◌, ℕ, ◌<◌, ◌≤◌, Bool, true, false, ◌⊎◌, inl, inr, ⊎_elim, eqb, cond, List, [], ◌∷◌, length, Option, Some, None, Ok, refl, sym, ap, ap₂, subst, ◌∙◌, arith}
use Rattle.std.specs.Prelude.{codes}
use Rattle.std.specs.List.{list_all}
use Rattle.std.proofs.lemmas.Bool.{and_parts, eqb-true}
use Rattle.up_num.specs.declared.pages.PageNo.{PageNo}
use Rattle.up_num.specs.declared.pages.DirtyRange.{DirtyRange}
use Rattle.up_num.specs.declared.answers.Packet.TheVariants as packets
use Rattle.up_num.specs.declared.answers.Code.{Code}
use Rattle.up_num.specs.declared.answers.Code.TheVariants.{Io, IoDataIntegrity, BadState, NoSpace, BufferTooSmall}
use Rattle.up_num.specs.declared.answers.Refusal.{Refusal}
use Rattle.up_num.specs.declared.answers.Refusal.TheVariants as refusals
use Rattle.up_model.specs.declared.entry.Reply.{Reply}
use Rattle.up_model.specs.declared.entry.Reply.TheVariants as replies
use Rattle.std.specs.Str.{bytes_eq}
use Rattle.up_words.specs.Words.{word_at, verb_is, is_word}
use Rattle.up_words.specs.Numbers.{number_between}
use Rattle.up_words.specs.Runs.{too_many, runs_in}
use Rattle.up_words.specs.declared.fault.Why.TheVariants as why
use Rattle.up_words.proofs.Decimals.{ok_is, some_is}
use Rattle.up_words.proofs.ByteLists.{back, only}
use Rattle.up_fields.specs.Limits.{all_tickets, all_counts, all_pages, most_bytes}
use Rattle.up_fields.specs.Text.{page_text, code_text}
use Rattle.up_replies.specs.Text.{refusal_words, reply_words}
use Rattle.up_fields.specs.Fields.{flag_in, page_in, range_in, total_of, tickets_in, pages_in, runs_of_pages_in}
use Rattle.up_words.specs.Refusals.{code_in}
use Rattle.up_replies.specs.Kinds.{reply_verb, reply_size, reply_kinds, numbered_kinds}
use Rattle.up_replies.specs.Replies.{pager_refusal, plain_refusal, page_refusal, fixed_fit, reply_fits, first_reply, or_kind, reply_kind, list_fits, plain_reply, reply_in, reply_of}
use Rattle.up_fields.specs.Allowed.{lies, page_lies, range_lies}
use Rattle.up_replies.specs.Allowed.{reply_allowed, reply_bytes, is_known}
use Rattle.up_replies.specs.declared.replies.SpelledReply.{SpelledReply}
use Rattle.up_replies.specs.declared.kinds.ReplyKind.{ReplyKind}
use Rattle.up_replies.specs.declared.kinds.ReplyKind.TheVariants as kinds
use Rattle.up_fields.proofs.Values.{either, bind_ok, found_ok, none_some, same_word, chosen, number_again, number_takes, lies_word, page_again, page_takes, range_again, range_takes, flag_again, flag_takes, flag_word, code_takes, code_word}
use Rattle.up_fields.proofs.Listed.{tickets, pages, runs as runs_of_pages, runs_shown, list_again, list_takes, list_word}
use Rattle.up_fields.proofs.Rows.{one, two, three, four, first_word, count_word, bytes_word, bytes_fit}

-- the kind of a reply
abbrev pub kind_of : Reply → ReplyKind
kind_of (replies.Bytes bytes) = kinds.Bytes
kind_of replies.Done = kinds.Done
kind_of replies.Waiting = kinds.Waiting
kind_of replies.Noted = kinds.Noted
kind_of replies.Empty = kinds.Empty
kind_of replies.Finished = kinds.Finished
kind_of (replies.Blocked ticket) = kinds.Blocked
kind_of (replies.Needs count) = kinds.Needs
kind_of (replies.Took pages woke) = kinds.Took
kind_of (replies.Woke woke) = kinds.Woke
kind_of (replies.Ranges total list) = kinds.Ranges
kind_of (replies.Modified modified) = kinds.Modified
kind_of (replies.Borrowed borrowed) = kinds.Borrowed
kind_of (replies.Pages numbers) = kinds.Pages
kind_of (replies.Vacated moved evicted) = kinds.Vacated
kind_of (replies.Packet (packets.Read range)) = kinds.PacketRead
kind_of (replies.Packet (packets.Dirty range)) = kinds.PacketDirty
kind_of (replies.Packet packets.Complete) = kinds.PacketComplete
kind_of (replies.Left woken) = kinds.Left
kind_of (replies.Refused refusals.Range) = kinds.RefusedPlain
kind_of (replies.Refused refusals.Detached) = kinds.RefusedPlain
kind_of (replies.Refused refusals.NotTrap) = kinds.RefusedPlain
kind_of (replies.Refused refusals.Fixed) = kinds.RefusedPlain
kind_of (replies.Refused refusals.NoFrames) = kinds.RefusedPlain
kind_of (replies.Refused (refusals.Pager code)) = kinds.RefusedPlain
kind_of (replies.Refused (refusals.NotFound page)) = kinds.RefusedPage
kind_of (replies.Refused (refusals.Pinned page)) = kinds.RefusedPage
kind_of (replies.Refused (refusals.Unpinned page)) = kinds.RefusedPage
kind_of (replies.Refused (refusals.PinLimit page)) = kinds.RefusedPage
kind_of (replies.Refused (refusals.Unclean page)) = kinds.RefusedPage
kind_of (replies.Began number) = kinds.Began
kind_of (replies.Refused (refusals.NotBegun number)) = kinds.RefusedNumber

-- a refusal for a code is found by the code's word
pager_found : (code : Code) → plain_refusal (code_text code) ≡ Some (refusals.Pager code)
pager_found Io = refl
pager_found IoDataIntegrity = refl
pager_found BadState = refl
pager_found NoSpace = refl
pager_found BufferTooSmall = refl

-- a reply's words are of its kind
pub reply_found : (numbers : Bool) (reply : Reply) → is_known numbers reply ≡ true → reply_kind numbers (reply_words reply) ≡ Some (kind_of reply)
unfolding first_reply
reply_found numbers (replies.Bytes bytes) e = refl
reply_found numbers replies.Done e = refl
reply_found numbers replies.Waiting e = refl
reply_found numbers replies.Noted e = refl
reply_found numbers replies.Empty e = refl
reply_found numbers replies.Finished e = refl
reply_found numbers (replies.Blocked ticket) e = refl
reply_found numbers (replies.Needs count) e = refl
reply_found numbers (replies.Took pages woke) e = refl
reply_found numbers (replies.Woke woke) e = refl
reply_found numbers (replies.Ranges total list) e = refl
reply_found numbers (replies.Modified modified) e = rw (flag_again (codes "1") (codes "0") modified refl refl refl) refl
reply_found numbers (replies.Borrowed borrowed) e = rw (flag_again (codes "1") (codes "0") borrowed refl refl refl) refl
reply_found numbers (replies.Pages list) e = refl
reply_found numbers (replies.Vacated moved evicted) e = refl
reply_found numbers (replies.Packet (packets.Read range)) e = refl
reply_found numbers (replies.Packet (packets.Dirty range)) e = refl
reply_found numbers (replies.Packet packets.Complete) e = refl
reply_found numbers (replies.Left woken) e = refl
reply_found numbers (replies.Refused refusals.Range) e = refl
reply_found numbers (replies.Refused refusals.Detached) e = refl
reply_found numbers (replies.Refused refusals.NotTrap) e = refl
reply_found numbers (replies.Refused refusals.Fixed) e = refl
reply_found numbers (replies.Refused refusals.NoFrames) e = refl
reply_found numbers (replies.Refused (refusals.Pager code)) e = rw (pager_found code) refl
reply_found numbers (replies.Refused (refusals.NotFound page)) e = refl
reply_found numbers (replies.Refused (refusals.Pinned page)) e = refl
reply_found numbers (replies.Refused (refusals.Unpinned page)) e = refl
reply_found numbers (replies.Refused (refusals.PinLimit page)) e = refl
reply_found numbers (replies.Refused (refusals.Unclean page)) e = refl
reply_found true (replies.Began number) e = refl
reply_found false (replies.Began number) e = absurd cc
reply_found true (replies.Refused (refusals.NotBegun number)) e = refl
reply_found false (replies.Refused (refusals.NotBegun number)) e = absurd cc

-- an allowed reply's list is of its form
pub list_shown : (reply : Reply) → reply_allowed reply ≡ true → list_fits (kind_of reply) (reply_words reply) ≡ true
list_shown (replies.Bytes bytes) e = refl
list_shown replies.Done e = refl
list_shown replies.Waiting e = refl
list_shown replies.Noted e = refl
list_shown replies.Empty e = refl
list_shown replies.Finished e = refl
list_shown (replies.Blocked ticket) e = refl
list_shown (replies.Needs count) e = refl
list_shown (replies.Took pages woke) e = refl
list_shown (replies.Woke woke) e = refl
list_shown (replies.Ranges total list) e =
    let p = and_parts (lies 0 all_counts total) (list_all (λ (run : DirtyRange). range_lies run.range) list) e in
    runs_shown list p.1
list_shown (replies.Modified modified) e = refl
list_shown (replies.Borrowed borrowed) e = refl
list_shown (replies.Pages numbers) e = refl
list_shown (replies.Vacated moved evicted) e = refl
list_shown (replies.Packet (packets.Read range)) e = refl
list_shown (replies.Packet (packets.Dirty range)) e = refl
list_shown (replies.Packet packets.Complete) e = refl
list_shown (replies.Left woken) e = refl
list_shown (replies.Refused refusals.Range) e = refl
list_shown (replies.Refused refusals.Detached) e = refl
list_shown (replies.Refused refusals.NotTrap) e = refl
list_shown (replies.Refused refusals.Fixed) e = refl
list_shown (replies.Refused refusals.NoFrames) e = refl
list_shown (replies.Refused (refusals.Pager code)) e = refl
list_shown (replies.Refused (refusals.NotFound page)) e = refl
list_shown (replies.Refused (refusals.Pinned page)) e = refl
list_shown (replies.Refused (refusals.Unpinned page)) e = refl
list_shown (replies.Refused (refusals.PinLimit page)) e = refl
list_shown (replies.Refused (refusals.Unclean page)) e = refl
list_shown (replies.Began number) e = refl
list_shown (replies.Refused (refusals.NotBegun number)) e = refl

-- how a reply is read from its words
pub record ReplyAgain (reply : Reply) : Type 0 where
  pub spelled : SpelledReply
  pub read : reply_in (kind_of reply) (reply_words reply) ≡ Ok spelled
  pub same : reply_of spelled ≡ reply
  pub total : total_of spelled.bytes ≡ reply_bytes reply

plain : (reply : Reply) → reply_bytes reply ≡ 0 → reply_in (kind_of reply) (reply_words reply) ≡ Ok (plain_reply reply) → ReplyAgain reply
plain reply none read = record { spelled = plain_reply reply; read = read; same = refl; total = sym none }

-- an allowed reply is read from its words
pub reply_again : (reply : Reply) → reply_allowed reply ≡ true → reply_bytes reply ≤ most_bytes → ReplyAgain reply
reply_again (replies.Bytes bytes) e few =
    let fit = bytes_fit bytes e in
    let runs = back bytes fit.0 (omega (arith, few)) fit.1 in
    record {
      spelled = record { reply = replies.Bytes []; bytes = Some runs.0 };
      read = rw (runs.1) refl;
      same = ap (λ found. replies.Bytes found) runs.2;
      total = runs.3;
    }
reply_again replies.Done e few = plain replies.Done refl (refl)
reply_again replies.Waiting e few = plain replies.Waiting refl (refl)
reply_again replies.Noted e few = plain replies.Noted refl (refl)
reply_again replies.Empty e few = plain replies.Empty refl (refl)
reply_again replies.Finished e few = plain replies.Finished refl (refl)
reply_again (replies.Blocked ticket) e few = plain (replies.Blocked ticket) refl (rw (number_again 0 all_tickets ticket (omega arith) e) refl)
reply_again (replies.Needs count) e few = plain (replies.Needs count) refl (rw (number_again 0 all_counts count (omega arith) e) refl)
reply_again (replies.Took pages woke) e few =
    let p = and_parts (lies 0 all_counts pages) (list_all (lies 0 all_tickets) woke) e in
    plain (replies.Took pages woke) refl (rw (number_again 0 all_counts pages (omega arith) p.0, list_again tickets woke p.1) refl)
reply_again (replies.Woke woke) e few = plain (replies.Woke woke) refl (rw (list_again tickets woke e) refl)
reply_again (replies.Ranges total list) e few =
    let p = and_parts (lies 0 all_counts total) (list_all (λ (run : DirtyRange). range_lies run.range) list) e in
    plain (replies.Ranges total list) refl (rw (number_again 0 all_counts total (omega arith) p.0, list_again runs_of_pages list p.1) refl)
reply_again (replies.Modified modified) e few = plain (replies.Modified modified) refl (rw (flag_again (codes "1") (codes "0") modified refl refl refl) refl)
reply_again (replies.Borrowed borrowed) e few = plain (replies.Borrowed borrowed) refl (rw (flag_again (codes "1") (codes "0") borrowed refl refl refl) refl)
reply_again (replies.Pages numbers) e few = plain (replies.Pages numbers) refl (rw (list_again pages numbers e) refl)
reply_again (replies.Vacated moved evicted) e few =
    let p = and_parts (list_all page_lies moved) (list_all page_lies evicted) e in
    plain (replies.Vacated moved evicted) refl (rw (list_again pages moved p.0, list_again pages evicted p.1) refl)
reply_again (replies.Packet (packets.Read range)) e few = plain (replies.Packet (packets.Read range)) refl (rw (range_again range e) refl)
reply_again (replies.Packet (packets.Dirty range)) e few = plain (replies.Packet (packets.Dirty range)) refl (rw (range_again range e) refl)
reply_again (replies.Packet packets.Complete) e few = plain (replies.Packet packets.Complete) refl (refl)
reply_again (replies.Left woken) e few = plain (replies.Left woken) refl (rw (number_again 0 all_counts woken (omega arith) e) refl)
reply_again (replies.Refused refusals.Range) e few = plain (replies.Refused refusals.Range) refl (refl)
reply_again (replies.Refused refusals.Detached) e few = plain (replies.Refused refusals.Detached) refl (refl)
reply_again (replies.Refused refusals.NotTrap) e few = plain (replies.Refused refusals.NotTrap) refl (refl)
reply_again (replies.Refused refusals.Fixed) e few = plain (replies.Refused refusals.Fixed) refl (refl)
reply_again (replies.Refused refusals.NoFrames) e few = plain (replies.Refused refusals.NoFrames) refl (refl)
reply_again (replies.Refused (refusals.Pager code)) e few = plain (replies.Refused (refusals.Pager code)) refl (rw (pager_found code) refl)
reply_again (replies.Refused (refusals.NotFound page)) e few = plain (replies.Refused (refusals.NotFound page)) refl (rw (page_again all_pages page (omega arith) e) refl)
reply_again (replies.Refused (refusals.Pinned page)) e few = plain (replies.Refused (refusals.Pinned page)) refl (rw (page_again all_pages page (omega arith) e) refl)
reply_again (replies.Refused (refusals.Unpinned page)) e few = plain (replies.Refused (refusals.Unpinned page)) refl (rw (page_again all_pages page (omega arith) e) refl)
reply_again (replies.Refused (refusals.PinLimit page)) e few = plain (replies.Refused (refusals.PinLimit page)) refl (rw (page_again all_pages page (omega arith) e) refl)
reply_again (replies.Refused (refusals.Unclean page)) e few = plain (replies.Refused (refusals.Unclean page)) refl (rw (page_again all_pages page (omega arith) e) refl)
reply_again (replies.Began number) e few = plain (replies.Began number) refl (rw (number_again 0 all_tickets number (omega arith) e) refl)
reply_again (replies.Refused (refusals.NotBegun number)) e few = plain (replies.Refused (refusals.NotBegun number)) refl (rw (number_again 0 all_tickets number (omega arith) e) refl)

-- an allowed reply's words are words
pub reply_good : (reply : Reply) → reply_allowed reply ≡ true → list_all is_word (reply_words reply) ≡ true
reply_good (replies.Bytes bytes) e = rw (bytes_word bytes e) refl
reply_good replies.Done e = refl
reply_good replies.Waiting e = refl
reply_good replies.Noted e = refl
reply_good replies.Empty e = refl
reply_good replies.Finished e = refl
reply_good (replies.Blocked ticket) e = rw (lies_word 0 all_tickets ticket (omega arith) e) refl
reply_good (replies.Needs count) e = rw (lies_word 0 all_counts count (omega arith) e) refl
reply_good (replies.Took pages woke) e =
    let p = and_parts (lies 0 all_counts pages) (list_all (lies 0 all_tickets) woke) e in
    rw (lies_word 0 all_counts pages (omega arith) p.0, list_word tickets woke p.1) refl
reply_good (replies.Woke woke) e = rw (list_word tickets woke e) refl
reply_good (replies.Ranges total list) e =
    let p = and_parts (lies 0 all_counts total) (list_all (λ (run : DirtyRange). range_lies run.range) list) e in
    rw (lies_word 0 all_counts total (omega arith) p.0, list_word runs_of_pages list p.1) refl
reply_good (replies.Modified modified) e = rw (flag_word (codes "1") (codes "0") modified refl refl) refl
reply_good (replies.Borrowed borrowed) e = rw (flag_word (codes "1") (codes "0") borrowed refl refl) refl
reply_good (replies.Pages numbers) e = rw (list_word pages numbers e) refl
reply_good (replies.Vacated moved evicted) e =
    let p = and_parts (list_all page_lies moved) (list_all page_lies evicted) e in
    rw (list_word pages moved p.0, list_word pages evicted p.1) refl
reply_good (replies.Packet (packets.Read range)) e = rw (first_word range e, count_word range e) refl
reply_good (replies.Packet (packets.Dirty range)) e = rw (first_word range e, count_word range e) refl
reply_good (replies.Packet packets.Complete) e = refl
reply_good (replies.Left woken) e = rw (lies_word 0 all_counts woken (omega arith) e) refl
reply_good (replies.Refused refusals.Range) e = refl
reply_good (replies.Refused refusals.Detached) e = refl
reply_good (replies.Refused refusals.NotTrap) e = refl
reply_good (replies.Refused refusals.Fixed) e = refl
reply_good (replies.Refused refusals.NoFrames) e = refl
reply_good (replies.Refused (refusals.Pager code)) e = rw (code_word code) refl
reply_good (replies.Refused (refusals.NotFound page)) e = rw (lies_word 0 all_pages page.0 (omega arith) e) refl
reply_good (replies.Refused (refusals.Pinned page)) e = rw (lies_word 0 all_pages page.0 (omega arith) e) refl
reply_good (replies.Refused (refusals.Unpinned page)) e = rw (lies_word 0 all_pages page.0 (omega arith) e) refl
reply_good (replies.Refused (refusals.PinLimit page)) e = rw (lies_word 0 all_pages page.0 (omega arith) e) refl
reply_good (replies.Refused (refusals.Unclean page)) e = rw (lies_word 0 all_pages page.0 (omega arith) e) refl
reply_good (replies.Began number) e = rw (lies_word 0 all_tickets number (omega arith) e) refl
reply_good (replies.Refused (refusals.NotBegun number)) e = rw (lies_word 0 all_tickets number (omega arith) e) refl

-- one test of a chain of refusals
link : (word this : List ℕ) (more : List (List ℕ)) (x : Refusal) (rest : Option Refusal) (y : Refusal) → cond (bytes_eq word this) (Some x) rest ≡ Some y → (this ∷ more) ≡ refusal_words x → (rest ≡ Some y → (word ∷ more) ≡ refusal_words y) → (word ∷ more) ≡ refusal_words y
link word this more x rest y e is others = ⊎_elim (λ p. ap (λ (w : List ℕ). w ∷ more) p.0 ∙ is ∙ ap refusal_words p.1) others (chosen word this x rest y e)

pager_takes : (word : List ℕ) (code : Option Code) (why : Refusal) → code_in word ≡ code → pager_refusal code ≡ Some why → (word ∷ []) ≡ refusal_words why
pager_takes word None why e f = absurd (none_some why f)
pager_takes word (Some code) why e f = one (code_takes word code e) ∙ ap refusal_words (some_is (refusals.Pager code) why f)

plain_takes : (word : List ℕ) (why : Refusal) → plain_refusal word ≡ Some why → (word ∷ []) ≡ refusal_words why
plain_takes word why e =
    link word (codes "range") [] refusals.Range _ why e refl
    (λ e. link word (codes "detached") [] refusals.Detached _ why e refl
    (λ e. link word (codes "not-trap") [] refusals.NotTrap _ why e refl
    (λ e. link word (codes "fixed") [] refusals.Fixed _ why e refl
    (λ e. link word (codes "no-frames") [] refusals.NoFrames _ why e refl
    (λ e. pager_takes word (code_in word) why refl e)))))

page_takes_refusal : (word : List ℕ) (page : PageNo) (why : Refusal) → page_refusal word page ≡ Some why → (word ∷ page_text page ∷ []) ≡ refusal_words why
page_takes_refusal word page why e =
    link word (codes "not-found") (page_text page ∷ []) (refusals.NotFound page) _ why e refl
    (λ e. link word (codes "pinned") (page_text page ∷ []) (refusals.Pinned page) _ why e refl
    (λ e. link word (codes "unpinned") (page_text page ∷ []) (refusals.Unpinned page) _ why e refl
    (λ e. link word (codes "pin-limit") (page_text page ∷ []) (refusals.PinLimit page) _ why e refl
    (λ e. link word (codes "unclean") (page_text page ∷ []) (refusals.Unclean page) _ why e refl
    (λ e. absurd (none_some why e))))))

-- a kind that was found first fits
first_fits : (all : List ReplyKind) (words : List (List ℕ)) (kind : ReplyKind) → first_reply all words ≡ Some kind → reply_fits kind words ≡ true
unfolding first_reply
first_fits [] words kind e = absurd cc
first_fits (this ∷ more) words kind e = ⊎_elim (λ p. subst (λ k. reply_fits k words ≡ true) (some_is this kind p.1) p.0) (λ p. first_fits more words kind p.1) (either (reply_fits this words) (Some this) (first_reply more words) (Some kind) e)

-- the kinds that are looked for first are none of numbers
abbrev is_old : ReplyKind → Bool
is_old kinds.Began = false
is_old kinds.RefusedNumber = false
is_old _ = true

first_among : (all : List ReplyKind) (words : List (List ℕ)) (kind : ReplyKind) → list_all is_old all ≡ true → first_reply all words ≡ Some kind → is_old kind ≡ true
unfolding first_reply
first_among [] words kind all e = absurd cc
first_among (this ∷ more) words kind all e =
    let p = and_parts (is_old this) (list_all is_old more) all in
    ⊎_elim (λ q. subst (λ k. is_old k ≡ true) (some_is this kind q.1) p.0) (λ q. first_among more words kind p.1 q.1) (either (reply_fits this words) (Some this) (first_reply more words) (Some kind) e)

-- one of two kinds that were looked for
or_parts : (first other : Option ReplyKind) (kind : ReplyKind) → or_kind first other ≡ Some kind → (first ≡ Some kind) ⊎ (other ≡ Some kind)
or_parts (Some this) other kind e = inl e
or_parts None other kind e = inr e

numbers_hold : (numbers : Bool) (found : Option ReplyKind) (kind : ReplyKind) → cond numbers found None ≡ Some kind → (numbers ≡ true) × (found ≡ Some kind)
numbers_hold true found kind e = (refl, e)
numbers_hold false found kind e = absurd (none_some kind e)

-- a kind that was found fits
pub found_fits : (numbers : Bool) (words : List (List ℕ)) (kind : ReplyKind) → reply_kind numbers words ≡ Some kind → reply_fits kind words ≡ true
found_fits numbers words kind e =
    ⊎_elim (λ p. first_fits reply_kinds words kind p) (λ p. first_fits numbered_kinds words kind (numbers_hold numbers (first_reply numbered_kinds words) kind p).1)
    (or_parts (first_reply reply_kinds words) (cond numbers (first_reply numbered_kinds words) None) kind e)

-- a kind that may be found in a text with or without numbers of begins
abbrev pub may_be : Bool → ReplyKind → Bool
may_be numbers kinds.Began = numbers
may_be numbers kinds.RefusedNumber = numbers
may_be numbers _ = true

pub found_may_be : (numbers : Bool) (words : List (List ℕ)) (kind : ReplyKind) → reply_kind numbers words ≡ Some kind → may_be numbers kind ≡ true
found_may_be numbers words kind e =
    ⊎_elim (λ p. old numbers kind (first_among reply_kinds words kind refl p)) (λ p. new numbers kind (numbers_hold numbers (first_reply numbered_kinds words) kind p).0)
    (or_parts (first_reply reply_kinds words) (cond numbers (first_reply numbered_kinds words) None) kind e)
  where
    old : (numbers : Bool) (kind : ReplyKind) → is_old kind ≡ true → may_be numbers kind ≡ true
    old numbers kinds.Bytes e = refl
    old numbers kinds.Done e = refl
    old numbers kinds.Waiting e = refl
    old numbers kinds.Noted e = refl
    old numbers kinds.Empty e = refl
    old numbers kinds.Finished e = refl
    old numbers kinds.Blocked e = refl
    old numbers kinds.Needs e = refl
    old numbers kinds.Took e = refl
    old numbers kinds.Woke e = refl
    old numbers kinds.Ranges e = refl
    old numbers kinds.Modified e = refl
    old numbers kinds.Borrowed e = refl
    old numbers kinds.Pages e = refl
    old numbers kinds.Vacated e = refl
    old numbers kinds.PacketRead e = refl
    old numbers kinds.PacketDirty e = refl
    old numbers kinds.PacketComplete e = refl
    old numbers kinds.Left e = refl
    old numbers kinds.RefusedPlain e = refl
    old numbers kinds.RefusedPage e = refl
    old numbers kinds.Began e = absurd cc
    old numbers kinds.RefusedNumber e = absurd cc

    new : (numbers : Bool) (kind : ReplyKind) → numbers ≡ true → may_be numbers kind ≡ true
    new numbers kinds.Bytes e = refl
    new numbers kinds.Done e = refl
    new numbers kinds.Waiting e = refl
    new numbers kinds.Noted e = refl
    new numbers kinds.Empty e = refl
    new numbers kinds.Finished e = refl
    new numbers kinds.Blocked e = refl
    new numbers kinds.Needs e = refl
    new numbers kinds.Took e = refl
    new numbers kinds.Woke e = refl
    new numbers kinds.Ranges e = refl
    new numbers kinds.Modified e = refl
    new numbers kinds.Borrowed e = refl
    new numbers kinds.Pages e = refl
    new numbers kinds.Vacated e = refl
    new numbers kinds.PacketRead e = refl
    new numbers kinds.PacketDirty e = refl
    new numbers kinds.PacketComplete e = refl
    new numbers kinds.Left e = refl
    new numbers kinds.RefusedPlain e = refl
    new numbers kinds.RefusedPage e = refl
    new numbers kinds.Began e = e
    new numbers kinds.RefusedNumber e = e

-- what fits has its verb, so many words, and its fixed words
pub record Fits (kind : ReplyKind) (words : List (List ℕ)) : Type 0 where
  pub verb : word_at words 0 ≡ reply_verb kind
  pub size : length words ≡ reply_size kind
  pub fixed : fixed_fit kind words ≡ true

pub fits_parts : (kind : ReplyKind) (words : List (List ℕ)) → reply_fits kind words ≡ true → Fits kind words
fits_parts kind words e =
    let p = and_parts (verb_is words 0 (reply_verb kind) (reply_size kind)) (fixed_fit kind words) e in
    let q = and_parts (bytes_eq (word_at words 0) (reply_verb kind)) (eqb (length words) (reply_size kind)) p.0 in
    record {
      verb = same_word (word_at words 0) (reply_verb kind) q.0;
      size = eqb-true (length words) (reply_size kind) q.1;
      fixed = p.1;
    }

whole_one : (words : List (List ℕ)) → length words ≡ 1 → words ≡ word_at words 0 ∷ []
whole_one [] e = absurd (omega (arith, e))
whole_one (a ∷ []) e = refl
whole_one (a ∷ b ∷ more) e = absurd (omega (arith, e))

whole_two : (words : List (List ℕ)) → length words ≡ 2 → words ≡ word_at words 0 ∷ word_at words 1 ∷ []
whole_two [] e = absurd (omega (arith, e))
whole_two (a ∷ []) e = absurd (omega (arith, e))
whole_two (a ∷ b ∷ []) e = refl
whole_two (a ∷ b ∷ c ∷ more) e = absurd (omega (arith, e))

whole_three : (words : List (List ℕ)) → length words ≡ 3 → words ≡ word_at words 0 ∷ word_at words 1 ∷ word_at words 2 ∷ []
whole_three [] e = absurd (omega (arith, e))
whole_three (a ∷ []) e = absurd (omega (arith, e))
whole_three (a ∷ b ∷ []) e = absurd (omega (arith, e))
whole_three (a ∷ b ∷ c ∷ []) e = refl
whole_three (a ∷ b ∷ c ∷ d ∷ more) e = absurd (omega (arith, e))

whole_four : (words : List (List ℕ)) → length words ≡ 4 → words ≡ word_at words 0 ∷ word_at words 1 ∷ word_at words 2 ∷ word_at words 3 ∷ []
whole_four [] e = absurd (omega (arith, e))
whole_four (a ∷ []) e = absurd (omega (arith, e))
whole_four (a ∷ b ∷ []) e = absurd (omega (arith, e))
whole_four (a ∷ b ∷ c ∷ []) e = absurd (omega (arith, e))
whole_four (a ∷ b ∷ c ∷ d ∷ []) e = refl
whole_four (a ∷ b ∷ c ∷ d ∷ f ∷ more) e = absurd (omega (arith, e))

-- no other words are read as a reply
pub reply_takes : (kind : ReplyKind) (words : List (List ℕ)) (spelled : SpelledReply) → Fits kind words → reply_in kind words ≡ Ok spelled → total_of spelled.bytes < too_many → words ≡ reply_words (reply_of spelled)
reply_takes kinds.Bytes words spelled fits e less =
    let a = bind_ok (runs_in (word_at words 1)) _ spelled e in
    let made : SpelledReply = record { reply = replies.Bytes []; bytes = Some a.0 } in
    let same : made ≡ spelled = ok_is made spelled a.2 in
    let few : total_of made.bytes < too_many = subst (λ (s : SpelledReply). total_of s.bytes < too_many) (sym same) less in
    whole_two words fits.size ∙ two fits.verb (only (word_at words 1) a.0 a.1 few).0 ∙ ap (λ (s : SpelledReply). reply_words (reply_of s)) same
reply_takes kinds.Done words spelled fits e less =
    let made : SpelledReply = plain_reply replies.Done in
    let same : made ≡ spelled = ok_is made spelled e in
    whole_one words fits.size ∙ one fits.verb ∙ ap (λ (s : SpelledReply). reply_words (reply_of s)) same
reply_takes kinds.Waiting words spelled fits e less =
    let made : SpelledReply = plain_reply replies.Waiting in
    let same : made ≡ spelled = ok_is made spelled e in
    whole_one words fits.size ∙ one fits.verb ∙ ap (λ (s : SpelledReply). reply_words (reply_of s)) same
reply_takes kinds.Noted words spelled fits e less =
    let made : SpelledReply = plain_reply replies.Noted in
    let same : made ≡ spelled = ok_is made spelled e in
    whole_one words fits.size ∙ one fits.verb ∙ ap (λ (s : SpelledReply). reply_words (reply_of s)) same
reply_takes kinds.Empty words spelled fits e less =
    let made : SpelledReply = plain_reply replies.Empty in
    let same : made ≡ spelled = ok_is made spelled e in
    whole_one words fits.size ∙ one fits.verb ∙ ap (λ (s : SpelledReply). reply_words (reply_of s)) same
reply_takes kinds.Finished words spelled fits e less =
    let made : SpelledReply = plain_reply replies.Finished in
    let same : made ≡ spelled = ok_is made spelled e in
    whole_one words fits.size ∙ one fits.verb ∙ ap (λ (s : SpelledReply). reply_words (reply_of s)) same
reply_takes kinds.Blocked words spelled fits e less =
    let a = bind_ok (number_between 0 all_tickets (word_at words 1)) _ spelled e in
    let made : SpelledReply = plain_reply (replies.Blocked a.0) in
    let same : made ≡ spelled = ok_is made spelled a.2 in
    whole_two words fits.size ∙ two fits.verb (number_takes 0 all_tickets a.0 (word_at words 1) (omega arith) a.1) ∙ ap (λ (s : SpelledReply). reply_words (reply_of s)) same
reply_takes kinds.Needs words spelled fits e less =
    let a = bind_ok (number_between 0 all_counts (word_at words 1)) _ spelled e in
    let made : SpelledReply = plain_reply (replies.Needs a.0) in
    let same : made ≡ spelled = ok_is made spelled a.2 in
    whole_two words fits.size ∙ two fits.verb (number_takes 0 all_counts a.0 (word_at words 1) (omega arith) a.1) ∙ ap (λ (s : SpelledReply). reply_words (reply_of s)) same
reply_takes kinds.Took words spelled fits e less =
    let a = bind_ok (number_between 0 all_counts (word_at words 1)) _ spelled e in
    let b = bind_ok (tickets_in (word_at words 3)) _ spelled a.2 in
    let made : SpelledReply = plain_reply (replies.Took a.0 b.0) in
    let same : made ≡ spelled = ok_is made spelled b.2 in
    whole_four words fits.size ∙ four fits.verb (number_takes 0 all_counts a.0 (word_at words 1) (omega arith) a.1) (same_word (word_at words 2) (codes "woke") fits.fixed) (list_takes tickets (word_at words 3) b.0 b.1) ∙ ap (λ (s : SpelledReply). reply_words (reply_of s)) same
reply_takes kinds.Woke words spelled fits e less =
    let a = bind_ok (tickets_in (word_at words 1)) _ spelled e in
    let made : SpelledReply = plain_reply (replies.Woke a.0) in
    let same : made ≡ spelled = ok_is made spelled a.2 in
    whole_two words fits.size ∙ two fits.verb (list_takes tickets (word_at words 1) a.0 a.1) ∙ ap (λ (s : SpelledReply). reply_words (reply_of s)) same
reply_takes kinds.Ranges words spelled fits e less =
    let a = bind_ok (number_between 0 all_counts (word_at words 1)) _ spelled e in
    let b = bind_ok (runs_of_pages_in (word_at words 2)) _ spelled a.2 in
    let made : SpelledReply = plain_reply (replies.Ranges a.0 b.0) in
    let same : made ≡ spelled = ok_is made spelled b.2 in
    whole_three words fits.size ∙ three fits.verb (number_takes 0 all_counts a.0 (word_at words 1) (omega arith) a.1) (list_takes runs_of_pages (word_at words 2) b.0 b.1) ∙ ap (λ (s : SpelledReply). reply_words (reply_of s)) same
reply_takes kinds.Modified words spelled fits e less =
    let a = found_ok why.Word (flag_in (codes "1") (codes "0") (word_at words 1)) _ spelled e in
    let made : SpelledReply = plain_reply (replies.Modified a.0) in
    let same : made ≡ spelled = ok_is made spelled a.2 in
    whole_two words fits.size ∙ two fits.verb (flag_takes (codes "1") (codes "0") (word_at words 1) a.0 a.1) ∙ ap (λ (s : SpelledReply). reply_words (reply_of s)) same
reply_takes kinds.Borrowed words spelled fits e less =
    let a = found_ok why.Word (flag_in (codes "1") (codes "0") (word_at words 1)) _ spelled e in
    let made : SpelledReply = plain_reply (replies.Borrowed a.0) in
    let same : made ≡ spelled = ok_is made spelled a.2 in
    whole_two words fits.size ∙ two fits.verb (flag_takes (codes "1") (codes "0") (word_at words 1) a.0 a.1) ∙ ap (λ (s : SpelledReply). reply_words (reply_of s)) same
reply_takes kinds.Pages words spelled fits e less =
    let a = bind_ok (pages_in (word_at words 1)) _ spelled e in
    let made : SpelledReply = plain_reply (replies.Pages a.0) in
    let same : made ≡ spelled = ok_is made spelled a.2 in
    whole_two words fits.size ∙ two fits.verb (list_takes pages (word_at words 1) a.0 a.1) ∙ ap (λ (s : SpelledReply). reply_words (reply_of s)) same
reply_takes kinds.Vacated words spelled fits e less =
    let a = bind_ok (pages_in (word_at words 1)) _ spelled e in
    let b = bind_ok (pages_in (word_at words 2)) _ spelled a.2 in
    let made : SpelledReply = plain_reply (replies.Vacated a.0 b.0) in
    let same : made ≡ spelled = ok_is made spelled b.2 in
    whole_three words fits.size ∙ three fits.verb (list_takes pages (word_at words 1) a.0 a.1) (list_takes pages (word_at words 2) b.0 b.1) ∙ ap (λ (s : SpelledReply). reply_words (reply_of s)) same
reply_takes kinds.PacketRead words spelled fits e less =
    let a = bind_ok (range_in (word_at words 2) (word_at words 3)) _ spelled e in
    let made : SpelledReply = plain_reply (replies.Packet (packets.Read a.0)) in
    let same : made ≡ spelled = ok_is made spelled a.2 in
    whole_four words fits.size ∙ four fits.verb (same_word (word_at words 1) (codes "read") fits.fixed) (range_takes a.0 (word_at words 2) (word_at words 3) a.1).0 (range_takes a.0 (word_at words 2) (word_at words 3) a.1).1 ∙ ap (λ (s : SpelledReply). reply_words (reply_of s)) same
reply_takes kinds.PacketDirty words spelled fits e less =
    let a = bind_ok (range_in (word_at words 2) (word_at words 3)) _ spelled e in
    let made : SpelledReply = plain_reply (replies.Packet (packets.Dirty a.0)) in
    let same : made ≡ spelled = ok_is made spelled a.2 in
    whole_four words fits.size ∙ four fits.verb (same_word (word_at words 1) (codes "dirty") fits.fixed) (range_takes a.0 (word_at words 2) (word_at words 3) a.1).0 (range_takes a.0 (word_at words 2) (word_at words 3) a.1).1 ∙ ap (λ (s : SpelledReply). reply_words (reply_of s)) same
reply_takes kinds.PacketComplete words spelled fits e less =
    let made : SpelledReply = plain_reply (replies.Packet packets.Complete) in
    let same : made ≡ spelled = ok_is made spelled e in
    whole_two words fits.size ∙ two fits.verb (same_word (word_at words 1) (codes "complete") fits.fixed) ∙ ap (λ (s : SpelledReply). reply_words (reply_of s)) same
reply_takes kinds.Left words spelled fits e less =
    let a = bind_ok (number_between 0 all_counts (word_at words 1)) _ spelled e in
    let made : SpelledReply = plain_reply (replies.Left a.0) in
    let same : made ≡ spelled = ok_is made spelled a.2 in
    whole_two words fits.size ∙ two fits.verb (number_takes 0 all_counts a.0 (word_at words 1) (omega arith) a.1) ∙ ap (λ (s : SpelledReply). reply_words (reply_of s)) same
reply_takes kinds.RefusedPlain words spelled fits e less =
    let a = found_ok why.Word (plain_refusal (word_at words 1)) _ spelled e in
    let made : SpelledReply = plain_reply (replies.Refused a.0) in
    let same : made ≡ spelled = ok_is made spelled a.2 in
    whole_two words fits.size ∙ ap₂ (λ (w : List ℕ) (ws : List (List ℕ)). w ∷ ws) fits.verb (plain_takes (word_at words 1) a.0 a.1) ∙ ap (λ (s : SpelledReply). reply_words (reply_of s)) same
reply_takes kinds.RefusedPage words spelled fits e less =
    let a = bind_ok (page_in all_pages (word_at words 2)) _ spelled e in
    let b = found_ok why.Word (page_refusal (word_at words 1) a.0) _ spelled a.2 in
    let made : SpelledReply = plain_reply (replies.Refused b.0) in
    let same : made ≡ spelled = ok_is made spelled b.2 in
    let behind = two refl (page_takes all_pages a.0 (word_at words 2) (omega arith) a.1) ∙ page_takes_refusal (word_at words 1) a.0 b.0 b.1 in
    whole_three words fits.size ∙ ap₂ (λ (w : List ℕ) (ws : List (List ℕ)). w ∷ ws) fits.verb behind ∙ ap (λ (s : SpelledReply). reply_words (reply_of s)) same
reply_takes kinds.Began words spelled fits e less =
    let a = bind_ok (number_between 0 all_tickets (word_at words 1)) _ spelled e in
    let made : SpelledReply = plain_reply (replies.Began a.0) in
    let same : made ≡ spelled = ok_is made spelled a.2 in
    whole_two words fits.size ∙ two fits.verb (number_takes 0 all_tickets a.0 (word_at words 1) (omega arith) a.1) ∙ ap (λ (s : SpelledReply). reply_words (reply_of s)) same
reply_takes kinds.RefusedNumber words spelled fits e less =
    let a = bind_ok (number_between 0 all_tickets (word_at words 2)) _ spelled e in
    let made : SpelledReply = plain_reply (replies.Refused (refusals.NotBegun a.0)) in
    let same : made ≡ spelled = ok_is made spelled a.2 in
    whole_three words fits.size ∙ three fits.verb (same_word (word_at words 1) (codes "not-begun") fits.fixed) (number_takes 0 all_tickets a.0 (word_at words 2) (omega arith) a.1) ∙ ap (λ (s : SpelledReply). reply_words (reply_of s)) same
