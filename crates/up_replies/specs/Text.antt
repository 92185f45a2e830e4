-- The words of replies.
use Rattle.std.specs.Prelude.{ℕ, List, [], ◌∷◌, decimal, codes}
use Rattle.up_words.specs.Runs.{bytes_text}
use Rattle.up_num.specs.declared.answers.Packet.{Packet as PacketValue}
use Rattle.up_num.specs.declared.answers.Packet.TheVariants as packet
use Rattle.up_num.specs.declared.answers.Refusal.{Refusal}
use Rattle.up_num.specs.declared.answers.Refusal.TheVariants as refusal
use Rattle.up_model.specs.declared.entry.Reply.{Reply}
use Rattle.up_model.specs.declared.entry.Reply.TheVariants as reply
use Rattle.up_fields.specs.Text.{code_text, flag_text, list_text, page_text, range_words, run_of_pages}

abbrev pub packet_words : PacketValue → List (List ℕ)
packet_words (packet.Read range) = codes "read" ∷ range_words range
packet_words (packet.Dirty range) = codes "dirty" ∷ range_words range
packet_words packet.Complete = codes "complete" ∷ []

abbrev pub refusal_words : Refusal → List (List ℕ)
refusal_words refusal.Range = codes "range" ∷ []
refusal_words refusal.Detached = codes "detached" ∷ []
refusal_words (refusal.Pager code) = code_text code ∷ []
refusal_words (refusal.NotFound page) = codes "not-found" ∷ page_text page ∷ []
refusal_words refusal.NotTrap = codes "not-trap" ∷ []
refusal_words refusal.Fixed = codes "fixed" ∷ []
refusal_words (refusal.Pinned page) = codes "pinned" ∷ page_text page ∷ []
refusal_words (refusal.Unpinned page) = codes "unpinned" ∷ page_text page ∷ []
refusal_words (refusal.PinLimit page) = codes "pin-limit" ∷ page_text page ∷ []
refusal_words (refusal.Unclean page) = codes "unclean" ∷ page_text page ∷ []
refusal_words refusal.NoFrames = codes "no-frames" ∷ []
refusal_words (refusal.NotBegun number) = codes "not-begun" ∷ decimal number ∷ []

-- the words of a reply
abbrev pub reply_words : Reply → List (List ℕ)
reply_words (reply.Bytes bytes) = codes "bytes" ∷ bytes_text bytes ∷ []
reply_words reply.Done = codes "done" ∷ []
reply_words (reply.Began number) = codes "began" ∷ decimal number ∷ []
reply_words (reply.Blocked ticket) = codes "blocked" ∷ decimal ticket ∷ []
reply_words reply.Waiting = codes "waiting" ∷ []
reply_words (reply.Needs count) = codes "needs" ∷ decimal count ∷ []
reply_words (reply.Took pages woke) = codes "took" ∷ decimal pages ∷ codes "woke" ∷ list_text decimal woke ∷ []
reply_words (reply.Woke woke) = codes "woke" ∷ list_text decimal woke ∷ []
reply_words (reply.Ranges total list) = codes "ranges" ∷ decimal total ∷ list_text run_of_pages list ∷ []
reply_words (reply.Modified modified) = codes "modified" ∷ flag_text (codes "1") (codes "0") modified ∷ []
reply_words (reply.Pages pages) = codes "pages" ∷ list_text page_text pages ∷ []
reply_words (reply.Borrowed borrowed) = codes "borrowed" ∷ flag_text (codes "1") (codes "0") borrowed ∷ []
reply_words (reply.Vacated moved evicted) = codes "vacated" ∷ list_text page_text moved ∷ list_text page_text evicted ∷ []
reply_words (reply.Packet request) = codes "packet" ∷ packet_words request
reply_words reply.Empty = codes "empty" ∷ []
reply_words reply.Finished = codes "finished" ∷ []
reply_words (reply.Left woken) = codes "left" ∷ decimal woken ∷ []
reply_words reply.Noted = codes "noted" ∷ []
reply_words (reply.Refused why) = codes "refused" ∷ refusal_words why
