-- A reply that was read keeps the limits.
use Rattle.std.proofs.Common.{◌≡◌, ℕ, ◌<◌, Bool, true, ⊎_elim, cond, List, [], Option, Some, None, Ok, refl, sym, ap, subst, ◌∙◌, arith}
use Rattle.std.specs.Prelude.{codes}
use Rattle.std.specs.List.{list_all}
use Rattle.std.specs.Str.{bytes_eq}
use Rattle.up_num.specs.declared.pages.PageNo.{PageNo}
use Rattle.up_num.specs.declared.pages.DirtyRange.{DirtyRange}
use Rattle.up_num.specs.declared.answers.Packet.TheVariants as packets
use Rattle.up_num.specs.declared.answers.Code.{Code}
use Rattle.up_num.specs.declared.answers.Refusal.{Refusal}
use Rattle.up_num.specs.declared.answers.Refusal.TheVariants as refusals
use Rattle.up_model.specs.declared.entry.Reply.TheVariants as replies
use Rattle.up_words.specs.Words.{word_at}
use Rattle.up_words.specs.Numbers.{number_between}
use Rattle.up_words.specs.Runs.{too_many, runs_in}
use Rattle.up_words.specs.declared.fault.Why.TheVariants as why
use Rattle.up_words.proofs.Decimals.{ok_is, some_is, both}
use Rattle.up_words.proofs.ByteLists.{only}
use Rattle.up_fields.specs.Limits.{all_tickets, all_counts, all_pages}
use Rattle.up_fields.specs.Fields.{flag_in, page_in, range_in, run_of, total_of, tickets_in, pages_in, runs_of_pages_in}
use Rattle.up_words.specs.Refusals.{code_in}
use Rattle.up_replies.specs.Replies.{pager_refusal, plain_refusal, page_refusal, plain_reply, reply_in, reply_of}
use Rattle.up_fields.specs.Allowed.{lies, page_lies, range_lies}
use Rattle.up_replies.specs.Allowed.{refusal_allowed, reply_allowed, reply_bytes, is_known}
use Rattle.up_replies.specs.declared.replies.SpelledReply.{SpelledReply}
use Rattle.up_replies.specs.declared.kinds.ReplyKind.{ReplyKind}
use Rattle.up_replies.specs.declared.kinds.ReplyKind.TheVariants as forms
use Rattle.up_fields.proofs.Values.{bind_ok, found_ok, none_some, chosen}
use Rattle.up_replies.proofs.ReplyForms.{may_be}
use Rattle.up_fields.proofs.Bounds.{number_within, page_within, range_within, list_within, tickets_fine, pages_fine, runs_fine, bytes_within}

-- one test of a chain of refusals
link : (word this : List ℕ) (x : Refusal) (rest : Option Refusal) (y : Refusal) → cond (bytes_eq word this) (Some x) rest ≡ Some y → refusal_allowed x ≡ true → (rest ≡ Some y → refusal_allowed y ≡ true) → refusal_allowed y ≡ true
link word this x rest y e is others = ⊎_elim (λ p. ap refusal_allowed (sym p.1) ∙ is) others (chosen word this x rest y e)

pager_within : (code : Option Code) (why : Refusal) → pager_refusal code ≡ Some why → refusal_allowed why ≡ true
pager_within None why e = absurd (none_some why e)
pager_within (Some code) why e = ap refusal_allowed (sym (some_is (refusals.Pager code) why e))

-- a refusal that names no page
plain_within : (word : List ℕ) (why : Refusal) → plain_refusal word ≡ Some why → refusal_allowed why ≡ true
plain_within word why e =
    link word (codes "range") refusals.Range _ why e refl
    (λ e. link word (codes "detached") refusals.Detached _ why e refl
    (λ e. link word (codes "not-trap") refusals.NotTrap _ why e refl
    (λ e. link word (codes "fixed") refusals.Fixed _ why e refl
    (λ e. link word (codes "no-frames") refusals.NoFrames _ why e refl
    (λ e. pager_within (code_in word) why e)))))

-- a refusal that names a page
named_within : (word : List ℕ) (page : PageNo) (why : Refusal) → page_lies page ≡ true → page_refusal word page ≡ Some why → refusal_allowed why ≡ true
named_within word page why is e =
    link word (codes "not-found") (refusals.NotFound page) _ why e is
    (λ e. link word (codes "pinned") (refusals.Pinned page) _ why e is
    (λ e. link word (codes "unpinned") (refusals.Unpinned page) _ why e is
    (λ e. link word (codes "pin-limit") (refusals.PinLimit page) _ why e is
    (λ e. link word (codes "unclean") (refusals.Unclean page) _ why e is
    (λ e. absurd (none_some why e))))))

-- one test of a chain of refusals that name no number
link_known : (numbers : Bool) (word this : List ℕ) (x : Refusal) (rest : Option Refusal) (y : Refusal) → cond (bytes_eq word this) (Some x) rest ≡ Some y → is_known numbers (replies.Refused x) ≡ true → (rest ≡ Some y → is_known numbers (replies.Refused y) ≡ true)
    → is_known numbers (replies.Refused y) ≡ true
link_known numbers word this x rest y e is others = ⊎_elim (λ p. ap (λ (why : Refusal). is_known numbers (replies.Refused why)) (sym p.1) ∙ is) others (chosen word this x rest y e)

pager_known : (numbers : Bool) (code : Option Code) (why : Refusal) → pager_refusal code ≡ Some why → is_known numbers (replies.Refused why) ≡ true
pager_known numbers None why e = absurd (none_some why e)
pager_known numbers (Some code) why e = ap (λ (r : Refusal). is_known numbers (replies.Refused r)) (sym (some_is (refusals.Pager code) why e))

plain_known : (numbers : Bool) (word : List ℕ) (why : Refusal) → plain_refusal word ≡ Some why → is_known numbers (replies.Refused why) ≡ true
plain_known numbers word why e =
    link_known numbers word (codes "range") refusals.Range _ why e refl
    (λ e. link_known numbers word (codes "detached") refusals.Detached _ why e refl
    (λ e. link_known numbers word (codes "not-trap") refusals.NotTrap _ why e refl
    (λ e. link_known numbers word (codes "fixed") refusals.Fixed _ why e refl
    (λ e. link_known numbers word (codes "no-frames") refusals.NoFrames _ why e refl
    (λ e. pager_known numbers (code_in word) why e)))))

named_known : (numbers : Bool) (word : List ℕ) (page : PageNo) (why : Refusal) → page_refusal word page ≡ Some why → is_known numbers (replies.Refused why) ≡ true
named_known numbers word page why e =
    link_known numbers word (codes "not-found") (refusals.NotFound page) _ why e refl
    (λ e. link_known numbers word (codes "pinned") (refusals.Pinned page) _ why e refl
    (λ e. link_known numbers word (codes "unpinned") (refusals.Unpinned page) _ why e refl
    (λ e. link_known numbers word (codes "pin-limit") (refusals.PinLimit page) _ why e refl
    (λ e. link_known numbers word (codes "unclean") (refusals.Unclean page) _ why e refl
    (λ e. absurd (none_some why e))))))

-- a reply that was read has a text, so many bytes, and is one that its text can have
pub record ReplyWithin (kind : ReplyKind) (spelled : SpelledReply) : Type 0 where
  pub allowed : reply_allowed (reply_of spelled) ≡ true
  pub bytes : reply_bytes (reply_of spelled) ≡ total_of spelled.bytes
  pub known : (numbers : Bool) → may_be numbers kind ≡ true → is_known numbers (reply_of spelled) ≡ true

pub reply_within : (kind : ReplyKind) (words : List (List ℕ)) (spelled : SpelledReply) → reply_in kind words ≡ Ok spelled → total_of spelled.bytes < too_many → ReplyWithin kind spelled
reply_within forms.Bytes words spelled e less =
    let a = bind_ok (runs_in (word_at words 1)) _ spelled e in
    let made : SpelledReply = record { reply = replies.Bytes []; bytes = Some a.0 } in
    let same : made ≡ spelled = ok_is made spelled a.2 in
    let few : total_of made.bytes < too_many = subst (λ (s : SpelledReply). total_of s.bytes < too_many) (sym same) less in
    subst (ReplyWithin forms.Bytes) same (record { allowed = bytes_within (word_at words 1) a.0 a.1 few; bytes = (only (word_at words 1) a.0 a.1 few).1; known = λ numbers f. refl })
reply_within forms.Done words spelled e less =
    let made : SpelledReply = plain_reply replies.Done in
    let same : made ≡ spelled = ok_is made spelled e in
    subst (ReplyWithin forms.Done) same (record { allowed = refl; bytes = refl; known = λ numbers f. refl })
reply_within forms.Waiting words spelled e less =
    let made : SpelledReply = plain_reply replies.Waiting in
    let same : made ≡ spelled = ok_is made spelled e in
    subst (ReplyWithin forms.Waiting) same (record { allowed = refl; bytes = refl; known = λ numbers f. refl })
reply_within forms.Noted words spelled e less =
    let made : SpelledReply = plain_reply replies.Noted in
    let same : made ≡ spelled = ok_is made spelled e in
    subst (ReplyWithin forms.Noted) same (record { allowed = refl; bytes = refl; known = λ numbers f. refl })
reply_within forms.Empty words spelled e less =
    let made : SpelledReply = plain_reply replies.Empty in
    let same : made ≡ spelled = ok_is made spelled e in
    subst (ReplyWithin forms.Empty) same (record { allowed = refl; bytes = refl; known = λ numbers f. refl })
reply_within forms.Finished words spelled e less =
    let made : SpelledReply = plain_reply replies.Finished in
    let same : made ≡ spelled = ok_is made spelled e in
    subst (ReplyWithin forms.Finished) same (record { allowed = refl; bytes = refl; known = λ numbers f. refl })
reply_within forms.Blocked words spelled e less =
    let a = bind_ok (number_between 0 all_tickets (word_at words 1)) _ spelled e in
    let made : SpelledReply = plain_reply (replies.Blocked a.0) in
    let same : made ≡ spelled = ok_is made spelled a.2 in
    subst (ReplyWithin forms.Blocked) same (record { allowed = number_within 0 all_tickets a.0 (word_at words 1) (omega arith) a.1; bytes = refl; known = λ numbers f. refl })
reply_within forms.Needs words spelled e less =
    let a = bind_ok (number_between 0 all_counts (word_at words 1)) _ spelled e in
    let made : SpelledReply = plain_reply (replies.Needs a.0) in
    let same : made ≡ spelled = ok_is made spelled a.2 in
    subst (ReplyWithin forms.Needs) same (record { allowed = number_within 0 all_counts a.0 (word_at words 1) (omega arith) a.1; bytes = refl; known = λ numbers f. refl })
reply_within forms.Took words spelled e less =
    let a = bind_ok (number_between 0 all_counts (word_at words 1)) _ spelled e in
    let b = bind_ok (tickets_in (word_at words 3)) _ spelled a.2 in
    let made : SpelledReply = plain_reply (replies.Took a.0 b.0) in
    let same : made ≡ spelled = ok_is made spelled b.2 in
    subst (ReplyWithin forms.Took) same (record { allowed = both (lies 0 all_counts a.0) (list_all (lies 0 all_tickets) b.0) (number_within 0 all_counts a.0 (word_at words 1) (omega arith) a.1) (list_within (number_between 0 all_tickets) (lies 0 all_tickets) tickets_fine (word_at words 3) b.0 b.1); bytes = refl; known = λ numbers f. refl })
reply_within forms.Woke words spelled e less =
    let a = bind_ok (tickets_in (word_at words 1)) _ spelled e in
    let made : SpelledReply = plain_reply (replies.Woke a.0) in
    let same : made ≡ spelled = ok_is made spelled a.2 in
    subst (ReplyWithin forms.Woke) same (record { allowed = list_within (number_between 0 all_tickets) (lies 0 all_tickets) tickets_fine (word_at words 1) a.0 a.1; bytes = refl; known = λ numbers f. refl })
reply_within forms.Ranges words spelled e less =
    let a = bind_ok (number_between 0 all_counts (word_at words 1)) _ spelled e in
    let b = bind_ok (runs_of_pages_in (word_at words 2)) _ spelled a.2 in
    let made : SpelledReply = plain_reply (replies.Ranges a.0 b.0) in
    let same : made ≡ spelled = ok_is made spelled b.2 in
    subst (ReplyWithin forms.Ranges) same (record { allowed = both (lies 0 all_counts a.0) (list_all (λ (run : DirtyRange). range_lies run.range) b.0) (number_within 0 all_counts a.0 (word_at words 1) (omega arith) a.1) (list_within run_of (λ (run : DirtyRange). range_lies run.range) runs_fine (word_at words 2) b.0 b.1); bytes = refl; known = λ numbers f. refl })
reply_within forms.Modified words spelled e less =
    let a = found_ok why.Word (flag_in (codes "1") (codes "0") (word_at words 1)) _ spelled e in
    let made : SpelledReply = plain_reply (replies.Modified a.0) in
    let same : made ≡ spelled = ok_is made spelled a.2 in
    subst (ReplyWithin forms.Modified) same (record { allowed = refl; bytes = refl; known = λ numbers f. refl })
reply_within forms.Borrowed words spelled e less =
    let a = found_ok why.Word (flag_in (codes "1") (codes "0") (word_at words 1)) _ spelled e in
    let made : SpelledReply = plain_reply (replies.Borrowed a.0) in
    let same : made ≡ spelled = ok_is made spelled a.2 in
    subst (ReplyWithin forms.Borrowed) same (record { allowed = refl; bytes = refl; known = λ numbers f. refl })
reply_within forms.Pages words spelled e less =
    let a = bind_ok (pages_in (word_at words 1)) _ spelled e in
    let made : SpelledReply = plain_reply (replies.Pages a.0) in
    let same : made ≡ spelled = ok_is made spelled a.2 in
    subst (ReplyWithin forms.Pages) same (record { allowed = list_within (page_in all_pages) page_lies pages_fine (word_at words 1) a.0 a.1; bytes = refl; known = λ numbers f. refl })
reply_within forms.Vacated words spelled e less =
    let a = bind_ok (pages_in (word_at words 1)) _ spelled e in
    let b = bind_ok (pages_in (word_at words 2)) _ spelled a.2 in
    let made : SpelledReply = plain_reply (replies.Vacated a.0 b.0) in
    let same : made ≡ spelled = ok_is made spelled b.2 in
    subst (ReplyWithin forms.Vacated) same (record { allowed = both (list_all page_lies a.0) (list_all page_lies b.0) (list_within (page_in all_pages) page_lies pages_fine (word_at words 1) a.0 a.1) (list_within (page_in all_pages) page_lies pages_fine (word_at words 2) b.0 b.1); bytes = refl; known = λ numbers f. refl })
reply_within forms.PacketRead words spelled e less =
    let a = bind_ok (range_in (word_at words 2) (word_at words 3)) _ spelled e in
    let made : SpelledReply = plain_reply (replies.Packet (packets.Read a.0)) in
    let same : made ≡ spelled = ok_is made spelled a.2 in
    subst (ReplyWithin forms.PacketRead) same (record { allowed = range_within a.0 (word_at words 2) (word_at words 3) a.1; bytes = refl; known = λ numbers f. refl })
reply_within forms.PacketDirty words spelled e less =
    let a = bind_ok (range_in (word_at words 2) (word_at words 3)) _ spelled e in
    let made : SpelledReply = plain_reply (replies.Packet (packets.Dirty a.0)) in
    let same : made ≡ spelled = ok_is made spelled a.2 in
    subst (ReplyWithin forms.PacketDirty) same (record { allowed = range_within a.0 (word_at words 2) (word_at words 3) a.1; bytes = refl; known = λ numbers f. refl })
reply_within forms.PacketComplete words spelled e less =
    let made : SpelledReply = plain_reply (replies.Packet packets.Complete) in
    let same : made ≡ spelled = ok_is made spelled e in
    subst (ReplyWithin forms.PacketComplete) same (record { allowed = refl; bytes = refl; known = λ numbers f. refl })
reply_within forms.Left words spelled e less =
    let a = bind_ok (number_between 0 all_counts (word_at words 1)) _ spelled e in
    let made : SpelledReply = plain_reply (replies.Left a.0) in
    let same : made ≡ spelled = ok_is made spelled a.2 in
    subst (ReplyWithin forms.Left) same (record { allowed = number_within 0 all_counts a.0 (word_at words 1) (omega arith) a.1; bytes = refl; known = λ numbers f. refl })
reply_within forms.RefusedPlain words spelled e less =
    let a = found_ok why.Word (plain_refusal (word_at words 1)) _ spelled e in
    let made : SpelledReply = plain_reply (replies.Refused a.0) in
    let same : made ≡ spelled = ok_is made spelled a.2 in
    subst (ReplyWithin forms.RefusedPlain) same (record { allowed = plain_within (word_at words 1) a.0 a.1; bytes = refl; known = λ numbers f. plain_known numbers (word_at words 1) a.0 a.1 })
reply_within forms.RefusedPage words spelled e less =
    let a = bind_ok (page_in all_pages (word_at words 2)) _ spelled e in
    let b = found_ok why.Word (page_refusal (word_at words 1) a.0) _ spelled a.2 in
    let made : SpelledReply = plain_reply (replies.Refused b.0) in
    let same : made ≡ spelled = ok_is made spelled b.2 in
    subst (ReplyWithin forms.RefusedPage) same (record { allowed = named_within (word_at words 1) a.0 b.0 (page_within all_pages a.0 (word_at words 2) (omega arith) a.1) b.1; bytes = refl; known = λ numbers f. named_known numbers (word_at words 1) a.0 b.0 b.1 })
reply_within forms.Began words spelled e less =
    let a = bind_ok (number_between 0 all_tickets (word_at words 1)) _ spelled e in
    let made : SpelledReply = plain_reply (replies.Began a.0) in
    let same : made ≡ spelled = ok_is made spelled a.2 in
    subst (ReplyWithin forms.Began) same (record { allowed = number_within 0 all_tickets a.0 (word_at words 1) (omega arith) a.1; bytes = refl; known = λ numbers f. f })
reply_within forms.RefusedNumber words spelled e less =
    let a = bind_ok (number_between 0 all_tickets (word_at words 2)) _ spelled e in
    let made : SpelledReply = plain_reply (replies.Refused (refusals.NotBegun a.0)) in
    let same : made ≡ spelled = ok_is made spelled a.2 in
    subst (ReplyWithin forms.RefusedNumber) same (record { allowed = number_within 0 all_tickets a.0 (word_at words 2) (omega arith) a.1; bytes = refl; known = λ numbers f. f })
