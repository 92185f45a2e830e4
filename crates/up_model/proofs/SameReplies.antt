-- The derived test of two replies holds where they are one reply, and only there.
use Rattle.std.proofs.Common.{refl, sym, ap, subst, ◌≡◌, ℕ, Bool, true, ◌==◌, List, [], ◌∷◌}
use mathlib.Core.Bool.{true≢false}
use Rattle.std.specs.Cmp.{unsigned_Decides, booleans_Decides, first_so, second_so}
use Rattle.std.specs.Cmp.Lexicographic.{pointwise}
use Rattle.up_model.specs.Pages.{page_number}
use Rattle.up_num.specs.Span.{Span}
use Rattle.up_num.specs.declared.pages.PageNo.{PageNo}
use Rattle.up_num.specs.declared.pages.DirtyRange.{DirtyRange}
use Rattle.up_num.specs.declared.answers.Code.{Code}
use Rattle.up_num.specs.declared.answers.Code.TheVariants as code
use Rattle.up_num.specs.declared.answers.Packet.{Packet}
use Rattle.up_num.specs.declared.answers.Packet.TheVariants as packet
use Rattle.up_num.specs.declared.answers.Refusal.{Refusal}
use Rattle.up_num.specs.declared.answers.Refusal.TheVariants as refusal
use Rattle.up_model.specs.declared.entry.Reply.{Reply}
use Rattle.up_model.specs.declared.entry.Reply.TheVariants as reply
use Rattle.up_num.specs.contracts.pages.PageNoPartialEq.TheImpl as pages
use Rattle.up_num.specs.contracts.pages.PageRangePartialEq.TheImpl as spans
use Rattle.up_num.specs.contracts.pages.DirtyRangePartialEq.TheImpl as runs
use Rattle.up_num.specs.contracts.answers.CodePartialEq.TheImpl as codes
use Rattle.up_num.specs.contracts.answers.PacketPartialEq.TheImpl as packets
use Rattle.up_num.specs.contracts.answers.RefusalPartialEq.TheImpl as refusals
use Rattle.up_model.specs.contracts.entry.ReplyPartialEq.TheImpl as replies
use Rattle.up_model.specs.contracts.entry.ReplyEq.TheImpl.Laws.{laws-law}

same_number : (m n : ℕ) → (m == n) ≡ true → m ≡ n
same_number m n = (unsigned_Decides m n).0

same_page : (p q : PageNo) → pages.ghosts.eq p q ≡ true → p ≡ q
same_page p q h = ap (λ (n : ℕ). page_number n) (same_number p.0 q.0 h)

same_span : (a b : Span) → spans.ghosts.eq a b ≡ true → a ≡ b
same_span a b h =
    λ i. record { first = same_number a.first b.first (first_so _ _ h) i; count = same_number a.count b.count (second_so _ _ h) i }

same_run : (a b : DirtyRange) → runs.ghosts.eq a b ≡ true → a ≡ b
same_run a b h =
    λ i. record { range = same_span a.range b.range (first_so _ _ h) i; zero = (booleans_Decides a.zero b.zero).0 (second_so _ _ h) i }

same_code : (a b : Code) → codes.ghosts.eq a b ≡ true → a ≡ b
same_code code.Io code.Io h = refl
same_code code.IoDataIntegrity code.IoDataIntegrity h = refl
same_code code.BadState code.BadState h = refl
same_code code.NoSpace code.NoSpace h = refl
same_code code.BufferTooSmall code.BufferTooSmall h = refl
same_code _ _ h = absurd (true≢false (sym h))

same_packet : (a b : Packet) → packets.ghosts.eq a b ≡ true → a ≡ b
same_packet (packet.Read a) (packet.Read b) h = ap packet.Read (same_span a b h)
same_packet (packet.Dirty a) (packet.Dirty b) h = ap packet.Dirty (same_span a b h)
same_packet packet.Complete packet.Complete h = refl
same_packet _ _ h = absurd (true≢false (sym h))

same_refusal : (a b : Refusal) → refusals.ghosts.eq a b ≡ true → a ≡ b
same_refusal refusal.Range refusal.Range h = refl
same_refusal refusal.Detached refusal.Detached h = refl
same_refusal (refusal.Pager a) (refusal.Pager b) h = ap refusal.Pager (same_code a b h)
same_refusal (refusal.NotFound a) (refusal.NotFound b) h = ap refusal.NotFound (same_page a b h)
same_refusal refusal.NotTrap refusal.NotTrap h = refl
same_refusal refusal.Fixed refusal.Fixed h = refl
same_refusal (refusal.Pinned a) (refusal.Pinned b) h = ap refusal.Pinned (same_page a b h)
same_refusal (refusal.Unpinned a) (refusal.Unpinned b) h = ap refusal.Unpinned (same_page a b h)
same_refusal (refusal.PinLimit a) (refusal.PinLimit b) h = ap refusal.PinLimit (same_page a b h)
same_refusal (refusal.Unclean a) (refusal.Unclean b) h = ap refusal.Unclean (same_page a b h)
same_refusal refusal.NoFrames refusal.NoFrames h = refl
same_refusal (refusal.NotBegun a) (refusal.NotBegun b) h = ap refusal.NotBegun (same_number a b h)
same_refusal _ _ h = absurd (true≢false (sym h))

same_items : {T : Type 0} (E : T → T → Bool) → ((a b : T) → E a b ≡ true → a ≡ b) → (xs ys : List T) → pointwise E xs ys ≡ true → xs ≡ ys
same_items E told [] [] h = refl
same_items E told [] (y ∷ ys) h = absurd (true≢false (sym h))
same_items E told (x ∷ xs) [] h = absurd (true≢false (sym h))
same_items E told (x ∷ xs) (y ∷ ys) h =
    λ i. told x y (first_so (E x y) (pointwise E xs ys) h) i ∷ same_items E told xs ys (second_so (E x y) (pointwise E xs ys) h) i

pub same_reply : (a b : Reply) → replies.ghosts.eq a b ≡ true → a ≡ b
same_reply (reply.Bytes a) (reply.Bytes b) h = ap reply.Bytes (same_items _ same_number a b h)
same_reply reply.Done reply.Done h = refl
same_reply (reply.Began a) (reply.Began b) h = ap reply.Began (same_number a b h)
same_reply (reply.Blocked a) (reply.Blocked b) h = ap reply.Blocked (same_number a b h)
same_reply reply.Waiting reply.Waiting h = refl
same_reply (reply.Needs a) (reply.Needs b) h = ap reply.Needs (same_number a b h)
same_reply (reply.Took m a) (reply.Took n b) h =
    λ i. reply.Took (same_number m n (first_so _ _ h) i) (same_items _ same_number a b (second_so _ _ h) i)
same_reply (reply.Woke a) (reply.Woke b) h = ap reply.Woke (same_items _ same_number a b h)
same_reply (reply.Ranges m a) (reply.Ranges n b) h =
    λ i. reply.Ranges (same_number m n (first_so _ _ h) i) (same_items _ same_run a b (second_so _ _ h) i)
same_reply (reply.Modified a) (reply.Modified b) h = ap reply.Modified ((booleans_Decides a b).0 h)
same_reply (reply.Pages a) (reply.Pages b) h = ap reply.Pages (same_items _ same_page a b h)
same_reply (reply.Borrowed a) (reply.Borrowed b) h = ap reply.Borrowed ((booleans_Decides a b).0 h)
same_reply (reply.Vacated m a) (reply.Vacated n b) h =
    λ i. reply.Vacated (same_items _ same_page m n (first_so _ _ h) i) (same_items _ same_page a b (second_so _ _ h) i)
same_reply (reply.Packet a) (reply.Packet b) h = ap reply.Packet (same_packet a b h)
same_reply reply.Empty reply.Empty h = refl
same_reply reply.Finished reply.Finished h = refl
same_reply (reply.Left a) (reply.Left b) h = ap reply.Left (same_number a b h)
same_reply reply.Noted reply.Noted h = refl
same_reply (reply.Refused a) (reply.Refused b) h = ap reply.Refused (same_refusal a b h)
same_reply _ _ h = absurd (true≢false (sym h))

pub one_reply : (a b : Reply) → a ≡ b → replies.ghosts.eq a b ≡ true
one_reply a b e = subst (λ r. replies.ghosts.eq a r ≡ true) e (laws-law.refl a)
