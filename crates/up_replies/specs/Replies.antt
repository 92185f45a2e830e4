-- What a reply's words spell.
use Rattle.std.specs.Prelude.{ℕ, ◌&&◌, Bool, true, cond, List, [], ◌∷◌, Option, Some, None, Result, Ok, codes}
use Rattle.std.specs.Str.{bytes_eq}
use Rattle.up_num.specs.declared.answers.Packet.TheVariants as packets
use Rattle.up_num.specs.declared.answers.Refusal.{Refusal}
use Rattle.up_num.specs.declared.answers.Refusal.TheVariants as refusals
use Rattle.up_num.specs.declared.answers.Code.{Code}
use Rattle.up_num.specs.declared.pages.PageNo.{PageNo}
use Rattle.up_model.specs.declared.entry.Reply.{Reply}
use Rattle.up_model.specs.declared.entry.Reply.TheVariants as replies
use Rattle.up_words.specs.ReadSteps.{◌>>=◌, or_why}
use Rattle.up_words.specs.Words.{word_at, word_is, verb_is}
use Rattle.up_words.specs.Numbers.{number_between}
use Rattle.up_words.specs.Runs.{runs_in, spread}
use Rattle.up_words.specs.declared.fault.Why.{Why}
use Rattle.up_words.specs.declared.fault.Why.TheVariants.{Word}
use Rattle.up_words.specs.declared.runs.ByteRuns.{ByteRuns}
use Rattle.up_fields.specs.Fields.{is_found, flag_in, page_in, range_in, are_runs, pages_in, runs_of_pages_in, tickets_in}
use Rattle.up_words.specs.Refusals.{code_in}
use Rattle.up_replies.specs.Kinds.{reply_verb, reply_size, reply_kinds, numbered_kinds}
use Rattle.up_fields.specs.Limits.{all_tickets, all_counts, all_pages}
use Rattle.up_replies.specs.declared.kinds.ReplyKind.{ReplyKind}
use Rattle.up_replies.specs.declared.kinds.ReplyKind.TheVariants as kinds
use Rattle.up_replies.specs.declared.replies.SpelledReply.{SpelledReply}

-- a refusal for this code, where there is one
abbrev pub pager_refusal : Option Code → Option Refusal
pager_refusal None = None
pager_refusal (Some code) = Some (refusals.Pager code)

-- a refusal that names no page
abbrev pub plain_refusal : List ℕ → Option Refusal
plain_refusal word =
    cond (bytes_eq word (codes "range")) (Some refusals.Range)
    (cond (bytes_eq word (codes "detached")) (Some refusals.Detached)
    (cond (bytes_eq word (codes "not-trap")) (Some refusals.NotTrap)
    (cond (bytes_eq word (codes "fixed")) (Some refusals.Fixed)
    (cond (bytes_eq word (codes "no-frames")) (Some refusals.NoFrames) (pager_refusal (code_in word))))))

-- a refusal that names this page
abbrev pub page_refusal : List ℕ → PageNo → Option Refusal
page_refusal word page =
    cond (bytes_eq word (codes "not-found")) (Some (refusals.NotFound page))
    (cond (bytes_eq word (codes "pinned")) (Some (refusals.Pinned page))
    (cond (bytes_eq word (codes "unpinned")) (Some (refusals.Unpinned page))
    (cond (bytes_eq word (codes "pin-limit")) (Some (refusals.PinLimit page))
    (cond (bytes_eq word (codes "unclean")) (Some (refusals.Unclean page)) None))))

-- a page, where it doesn't matter which
abbrev pub first_page : PageNo
first_page = record { 0 = 0 }

-- the fixed words of a reply of this kind, behind its verb, are right
abbrev pub fixed_fit : ReplyKind → List (List ℕ) → Bool
fixed_fit kinds.Took words = word_is words 2 (codes "woke")
fixed_fit kinds.Modified words = is_found (flag_in (codes "1") (codes "0") (word_at words 1))
fixed_fit kinds.Borrowed words = is_found (flag_in (codes "1") (codes "0") (word_at words 1))
fixed_fit kinds.PacketRead words = word_is words 1 (codes "read")
fixed_fit kinds.PacketDirty words = word_is words 1 (codes "dirty")
fixed_fit kinds.PacketComplete words = word_is words 1 (codes "complete")
fixed_fit kinds.RefusedPlain words = is_found (plain_refusal (word_at words 1))
fixed_fit kinds.RefusedPage words = is_found (page_refusal (word_at words 1) first_page)
fixed_fit kinds.RefusedNumber words = word_is words 1 (codes "not-begun")
fixed_fit _ words = true

-- the words are those of a reply of this kind: its verb, so many words, and the fixed ones
abbrev pub reply_fits : ReplyKind → List (List ℕ) → Bool
reply_fits kind words = verb_is words 0 (reply_verb kind) (reply_size kind) && fixed_fit kind words

-- the first of these kinds that fits
unfoldable pub first_reply : List ReplyKind → List (List ℕ) → Option ReplyKind
first_reply [] words = None
first_reply (kind ∷ more) words = cond (reply_fits kind words) (Some kind) (first_reply more words)

-- a kind, or else another
abbrev pub or_kind : Option ReplyKind → Option ReplyKind → Option ReplyKind
or_kind (Some kind) other = Some kind
or_kind None other = other

-- the kind of reply that the words are, in a text with or without numbers of begins
abbrev pub reply_kind : Bool → List (List ℕ) → Option ReplyKind
reply_kind numbers words = or_kind (first_reply reply_kinds words) (cond numbers (first_reply numbered_kinds words) None)

-- the list of a reply of this kind is of its form
abbrev pub list_fits : ReplyKind → List (List ℕ) → Bool
list_fits kinds.Ranges words = are_runs (word_at words 2)
list_fits _ words = true

-- a reply without byte list
abbrev pub plain_reply : Reply → SpelledReply
plain_reply reply = record { reply = reply; bytes = None }

-- a reply of this kind
abbrev pub reply_in : ReplyKind → List (List ℕ) → Result SpelledReply Why
reply_in kinds.Bytes words = do
  runs ← runs_in (word_at words 1)
  Ok (record { reply = replies.Bytes []; bytes = Some runs })
reply_in kinds.Done words = Ok (plain_reply replies.Done)
reply_in kinds.Waiting words = Ok (plain_reply replies.Waiting)
reply_in kinds.Noted words = Ok (plain_reply replies.Noted)
reply_in kinds.Empty words = Ok (plain_reply replies.Empty)
reply_in kinds.Finished words = Ok (plain_reply replies.Finished)
reply_in kinds.Blocked words = do
  ticket ← number_between 0 all_tickets (word_at words 1)
  Ok (plain_reply (replies.Blocked ticket))
reply_in kinds.Needs words = do
  count ← number_between 0 all_counts (word_at words 1)
  Ok (plain_reply (replies.Needs count))
reply_in kinds.Took words = do
  pages ← number_between 0 all_counts (word_at words 1)
  woke ← tickets_in (word_at words 3)
  Ok (plain_reply (replies.Took pages woke))
reply_in kinds.Woke words = do
  woke ← tickets_in (word_at words 1)
  Ok (plain_reply (replies.Woke woke))
reply_in kinds.Ranges words = do
  total ← number_between 0 all_counts (word_at words 1)
  list ← runs_of_pages_in (word_at words 2)
  Ok (plain_reply (replies.Ranges total list))
reply_in kinds.Modified words = do
  modified ← or_why Word (flag_in (codes "1") (codes "0") (word_at words 1))
  Ok (plain_reply (replies.Modified modified))
reply_in kinds.Borrowed words = do
  borrowed ← or_why Word (flag_in (codes "1") (codes "0") (word_at words 1))
  Ok (plain_reply (replies.Borrowed borrowed))
reply_in kinds.Pages words = do
  pages ← pages_in (word_at words 1)
  Ok (plain_reply (replies.Pages pages))
reply_in kinds.Vacated words = do
  moved ← pages_in (word_at words 1)
  evicted ← pages_in (word_at words 2)
  Ok (plain_reply (replies.Vacated moved evicted))
reply_in kinds.PacketRead words = do
  range ← range_in (word_at words 2) (word_at words 3)
  Ok (plain_reply (replies.Packet (packets.Read range)))
reply_in kinds.PacketDirty words = do
  range ← range_in (word_at words 2) (word_at words 3)
  Ok (plain_reply (replies.Packet (packets.Dirty range)))
reply_in kinds.PacketComplete words = Ok (plain_reply (replies.Packet packets.Complete))
reply_in kinds.Left words = do
  woken ← number_between 0 all_counts (word_at words 1)
  Ok (plain_reply (replies.Left woken))
reply_in kinds.RefusedPlain words = do
  why ← or_why Word (plain_refusal (word_at words 1))
  Ok (plain_reply (replies.Refused why))
reply_in kinds.RefusedPage words = do
  page ← page_in all_pages (word_at words 2)
  why ← or_why Word (page_refusal (word_at words 1) page)
  Ok (plain_reply (replies.Refused why))
reply_in kinds.Began words = do
  number ← number_between 0 all_tickets (word_at words 1)
  Ok (plain_reply (replies.Began number))
reply_in kinds.RefusedNumber words = do
  number ← number_between 0 all_tickets (word_at words 2)
  Ok (plain_reply (replies.Refused (refusals.NotBegun number)))

-- the reply with these bytes in place of its own, where it has any
abbrev pub with_bytes : List ℕ → Reply → Reply
with_bytes bytes (replies.Bytes old) = replies.Bytes bytes
with_bytes bytes reply = reply

-- the reply, with the bytes of these runs where it has any
abbrev pub filled_reply : Reply → Option ByteRuns → Reply
filled_reply reply None = reply
filled_reply reply (Some runs) = with_bytes (spread runs.found) reply

-- the reply that was spelled, with its bytes
abbrev pub reply_of : SpelledReply → Reply
reply_of spelled = filled_reply spelled.reply spelled.bytes
