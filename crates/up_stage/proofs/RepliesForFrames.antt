-- What a reply tells that asks for frames, and which calls park.
use Rattle.std.proofs.Common.{◌≡◌, ℕ, ◌<◌, ◌==◌, ◌&&◌, not, Bool, true, false, cond, Option, Some, None, List, length, map, refl, sym, ap, ◌∙◌, nat_lt, rules}
use Rattle.std.proofs.lemmas.Bool.{ltb-true}
use Rattle.up_num.specs.declared.answers.Outcome.{Outcome}
use Rattle.up_num.specs.declared.answers.Outcome.TheVariants.{Freed}
use Rattle.up_num.specs.declared.answers.Packet.{Packet as PacketValue}
use Rattle.up_num.specs.declared.answers.Refusal.{Refusal}
use Rattle.up_num.specs.declared.answers.Refusal.TheVariants.{NoFrames}
use Rattle.up_num.specs.declared.answers.Refusal.TheVariants as refusal
use Rattle.up_num.specs.declared.pages.PageNo.{PageNo}
use Rattle.up_model.specs.Answered.{may_park}
use Rattle.up_model.specs.Attempts.{Access, page_of, parked}
use Rattle.up_model.specs.Pages.{page_number}
use Rattle.up_model.specs.Size.{size, access_fits}
use Rattle.up_model.specs.Value.{there}
use Rattle.up_model.specs.States.{dirty, unclean}
use Rattle.up_model.specs.Pins.{loaned}
use Rattle.up_num.specs.Span.{Span}
use Rattle.up_model.specs.Roles.{detached}
use Rattle.up_model.specs.Tickets.{outcome, next_ticket}
use Rattle.up_model.specs.Reply.{refuse_where, refuse_at, with_frames, is_scan, frames_in, must_wait, touch_reply, access_reply, retry_reply, packet_reply, resize_reply, is_pinned, absent, pages_where, loaned_firm, loaned_loose, reply}
use Rattle.up_model.specs.declared.entry.Birth.{Birth}
use Rattle.up_model.specs.declared.entry.Brought.{Brought}
use Rattle.up_model.specs.declared.entry.Entry.{Entry}
use Rattle.up_model.specs.declared.entry.Call.{Call}
use Rattle.up_model.specs.declared.entry.Call.TheVariants as calls
use Rattle.up_model.specs.declared.entry.Reply.{Reply}
use Rattle.up_model.specs.declared.entry.Reply.TheVariants as answer
use Rattle.up_model.specs.declared.entry.Reply.TheVariants.{Blocked, Needs, Done, Refused}
use Rattle.up_model.specs.Bringing.{brought_in}
use Rattle.up_worker.specs.Calls.{borrows, frames_before}
use Rattle.up_steps.specs.Asked.{parks}

-- a reply that asks for frames stands behind refusals
behind_where : (b : Bool) (why : Refusal) (next : Reply) (n : ℕ) → refuse_where b why next ≡ Needs n → next ≡ Needs n
behind_where true why next n is = absurd cc
behind_where false why next n is = is

behind_at : (found : Option ℕ) (why : PageNo → Refusal) (next : Reply) (n : ℕ) → refuse_at found why next ≡ Needs n → next ≡ Needs n
behind_at None why next n is = is
behind_at (Some p) why next n is = absurd cc

abbrev is_ask : Reply → Bool
is_ask (Needs count) = true
is_ask _ = false

quiet : (r : Reply) (n : ℕ) → r ≡ Needs n → is_ask r ≡ false → ⊥
quiet r n is silent = let p : is_ask r ≡ true = ap is_ask is in absurd (let q : false ≡ true = sym silent ∙ p in cc)

loud : (r : Reply) → parks r ≡ true → parks r ≡ false → ⊥
loud r is silent = let q : false ≡ true = sym silent ∙ is in cc

-- some frames are asked for, more than were brought
pub record Lacks (m n : ℕ) (b : Brought) : Type 0 where
  pub count : m ≡ n
  pub fresh : is_scan b ≡ false
  pub fewer : frames_in b < n

lacks_three : (none scan few : Bool) (m n : ℕ) (b : Brought) (next : Reply) → scan ≡ is_scan b → few ≡ nat_lt (frames_in b) m → (next ≡ Needs n → ⊥)
    → cond none next (cond scan (Refused NoFrames) (cond few (Needs m) next)) ≡ Needs n → Lacks m n b
lacks_three true scan few m n b next s f never is = absurd (never is)
lacks_three false true few m n b next s f never is = absurd cc
lacks_three false false true m n b next s f never is =
    let same : m ≡ n = cc in
    record { count = same; fresh = sym s; fewer = rw (sym same) (ltb-true (frames_in b) m (sym f)) }
lacks_three false false false m n b next s f never is = absurd (never is)

lacks : (m n : ℕ) (b : Brought) (next : Reply) → (next ≡ Needs n → ⊥) → with_frames m b next ≡ Needs n → Lacks m n b
lacks m n b next never is = lacks_three (m == 0) (is_scan b) (nat_lt (frames_in b) m) m n b next refl refl never is

-- what an access lacks is some number of frames
abbrev LacksSome : ℕ → Brought → Type 0
LacksSome n b = (m : ℕ) × Lacks m n b

-- where the reply asks for frames, so many are lacking
pub record Lack (b : Brought) (r : Reply) : Type 0 where
  pub is : (n : ℕ) → r ≡ Needs n → LacksSome n b

l_silent : (b : Brought) (r : Reply) → is_ask r ≡ false → Lack b r
l_silent b r silent = record { is = λ n q. absurd (quiet r n q silent) }

l_refusal : (b : Brought) (test : Bool) (why : Refusal) (next : Reply) → Lack b next → Lack b (refuse_where test why next)
l_refusal b true why next q = record { is = λ n p. absurd cc }
l_refusal b false why next q = q

l_page : (b : Brought) (found : Option ℕ) (why : PageNo → Refusal) (next : Reply) → Lack b next → Lack b (refuse_at found why next)
l_page b None why next q = q
l_page b (Some p) why next q = record { is = λ n z. absurd cc }

l_choice : (b : Brought) (test : Bool) (first second : Reply) → Lack b first → Lack b second → Lack b (cond test first second)
l_choice b true first second p q = p
l_choice b false first second p q = q

l_frames : (b : Brought) (m : ℕ) (next : Reply) → is_ask next ≡ false → Lack b (with_frames m b next)
l_frames b m next silent = record { is = λ n q. (m, lacks m n b next (λ z. quiet next n z silent) q) }

l_wait : (birth : Birth) (h : List Entry) (b : Brought) → Lack b (must_wait birth h)
l_wait birth h b = l_refusal b (detached birth h) refusal.Detached (Blocked (next_ticket h)) (l_silent b (Blocked (next_ticket h)) refl)

l_touch : (birth : Birth) (h : List Entry) (a : Access) (b : Brought) (bytes : Option (List ℕ)) → Lack b (touch_reply birth h a b bytes)
l_touch birth h a b None = record { is = λ n q. absurd cc }
l_touch birth h a b (Some bytes) =
    l_choice b (birth.trap && not (dirty birth h (page_of a.off))) (must_wait birth h) _ (l_wait birth h b) (l_frames b _ Done refl)

l_access : (birth : Birth) (h : List Entry) (a : Access) (b : Brought) → Lack b (access_reply birth h a b)
l_access birth h a b =
    l_refusal b (not (access_fits birth h a)) refusal.Range _
    (l_choice b (there birth h (page_of a.off)) (touch_reply birth h a b a.bytes) (must_wait birth h) (l_touch birth h a b a.bytes) (l_wait birth h b))

l_retry : (birth : Birth) (h : List Entry) (b : Brought) (o : Outcome) (a : Option Access) → Lack b (retry_reply birth h b o a)
l_retry birth h b Freed (Some a) = l_access birth h a b
l_retry birth h b Freed None = record { is = λ n q. absurd cc }
l_retry birth h b _ a = record { is = λ n q. absurd cc }

-- a reply that asks for no frames
pub record Silent (r : Reply) : Type 0 where
  pub is : is_ask r ≡ false

silent : (r : Reply) → is_ask r ≡ false → Silent r
silent r q = record { is = q }

s_refusal : (test : Bool) (why : Refusal) (next : Reply) → Silent next → Silent (refuse_where test why next)
s_refusal true why next q = record { is = refl }
s_refusal false why next q = q

s_page : (found : Option ℕ) (why : PageNo → Refusal) (next : Reply) → Silent next → Silent (refuse_at found why next)
s_page None why next q = q
s_page (Some p) why next q = record { is = refl }

s_choice : (test : Bool) (first second : Reply) → Silent first → Silent second → Silent (cond test first second)
s_choice true first second p q = p
s_choice false first second p q = q

s_packet : (birth : Birth) (h : List Entry) (packet : Option PacketValue) → Silent (packet_reply birth h packet)
s_packet birth h (Some packet) = record { is = refl }
s_packet birth h None = s_choice (detached birth h) _ _ (record { is = refl }) (record { is = refl })

s_resize : (birth : Birth) (h : List Entry) (pages : ℕ) (limit : Option ℕ) → Silent (resize_reply birth h pages limit)
s_resize birth h pages None = record { is = refl }
s_resize birth h pages (Some limit) = search (rules, s_refusal, s_page, silent)

-- calls that never ask for frames
abbrev never_asks : Call → Bool
never_asks (calls.Read piece last b) = false
never_asks (calls.Write off bytes last b) = false
never_asks (calls.Retry ticket b) = false
never_asks (calls.Dirty range b) = false
never_asks (calls.Pin range b) = false
never_asks (calls.Borrow page b) = false
never_asks (calls.Vacate b) = false
never_asks _ = true

silent_call : (birth : Birth) (h : List Entry) (who epoch : ℕ) (call : Call) → never_asks call ≡ true → Silent (reply birth h who epoch call)
silent_call birth h who epoch (calls.Read piece last b) q = absurd cc
silent_call birth h who epoch (calls.Write off bytes last b) q = absurd cc
silent_call birth h who epoch (calls.Retry ticket b) q = absurd cc
silent_call birth h who epoch (calls.Dirty range b) q = absurd cc
silent_call birth h who epoch (calls.Pin range b) q = absurd cc
silent_call birth h who epoch (calls.Borrow page b) q = absurd cc
silent_call birth h who epoch (calls.Vacate b) q = absurd cc
silent_call birth h who epoch (calls.Supply range bytes b) q = search (rules, s_refusal, s_choice, silent)
silent_call birth h who epoch (calls.Fail range code) q = search (rules, s_refusal, s_choice, silent)
silent_call birth h who epoch (calls.Begin range zero) q = search (rules, s_refusal, s_choice, silent)
silent_call birth h who epoch (calls.End range None) q = search (rules, s_refusal, s_choice, silent)
silent_call birth h who epoch (calls.End range (Some n)) q = search (rules, s_refusal, s_choice, silent)
silent_call birth h who epoch (calls.Query range room) q = search (rules, s_refusal, s_choice, silent)
silent_call birth h who epoch (calls.Hint range kind) q = search (rules, s_refusal, s_choice, silent)
silent_call birth h who epoch (calls.Unpin range) q = search (rules, s_refusal, s_page, s_choice, silent)
silent_call birth h who epoch (calls.Resize pages) q = s_resize birth h pages birth.limit
silent_call birth h who epoch (calls.Zero range) q = search (rules, s_refusal, s_page, s_choice, silent)
silent_call birth h who epoch calls.Detach q = search (rules, s_refusal, s_choice, silent)
silent_call birth h who epoch calls.Packet q = s_packet birth h _
silent_call birth h who epoch (calls.Leave role) q = search (rules, s_refusal, s_choice, silent)
silent_call birth h who epoch _ q = record { is = refl }

lack_call : (birth : Birth) (h : List Entry) (who epoch : ℕ) (range : Span) (b : Brought) → Lack b (reply birth h who epoch (calls.Dirty range b)) × Lack b (reply birth h who epoch (calls.Pin range b))
lack_call birth h who epoch range b = (search (rules, l_refusal, l_page, l_choice, l_frames), search (rules, l_refusal, l_page, l_choice, l_frames))

-- a borrow that asks for frames asks for one
pub record LackOne (b : Brought) (r : Reply) : Type 0 where
  pub is : (n : ℕ) → r ≡ Needs n → Lacks 1 n b

o_silent : (b : Brought) (r : Reply) → is_ask r ≡ false → LackOne b r
o_silent b r silent = record { is = λ n q. absurd (quiet r n q silent) }

o_refusal : (b : Brought) (test : Bool) (why : Refusal) (next : Reply) → LackOne b next → LackOne b (refuse_where test why next)
o_refusal b true why next q = record { is = λ n p. absurd cc }
o_refusal b false why next q = q

o_choice : (b : Brought) (test : Bool) (first second : Reply) → LackOne b first → LackOne b second → LackOne b (cond test first second)
o_choice b true first second p q = p
o_choice b false first second p q = q

o_frames : (b : Brought) (next : Reply) → is_ask next ≡ false → LackOne b (with_frames 1 b next)
o_frames b next silent = record { is = λ n q. lacks 1 n b next (λ z. quiet next n z silent) q }

lack_borrow : (birth : Birth) (h : List Entry) (who epoch : ℕ) (page : PageNo) (b : Brought) → LackOne b (reply birth h who epoch (calls.Borrow page b))
lack_borrow birth h who epoch page b =
    o_refusal b (not (nat_lt page.0 (size birth h))) refusal.Range _
    (o_refusal b (absent birth h page.0) (refusal.NotFound page) _
    (o_refusal b (is_pinned h page.0) (refusal.Pinned page) _
    (o_refusal b (unclean birth h page.0) (refusal.Unclean page) _
    (o_choice b (loaned birth h page.0) (answer.Borrowed false) _ (o_silent b (answer.Borrowed false) refl) (o_frames b (answer.Borrowed true) refl)))))

-- a call that is answered Needs(n): it takes frames, brought fewer and no scan, gathers none first, and a borrow lacks one
pub record Asks (call : Call) (n : ℕ) : Type 0 where
  pub brought : Brought
  pub is : brought_in call ≡ Some brought
  pub fresh : is_scan brought ≡ false
  pub fewer : frames_in brought < n
  pub none : frames_before call ≡ 0
  pub one : borrows call ≡ true → n ≡ 1

asks_some : (call : Call) (n : ℕ) (b : Brought) → brought_in call ≡ Some b → frames_before call ≡ 0 → borrows call ≡ false → LacksSome n b → Asks call n
asks_some call n b is none plain some = record { brought = b; is = is; fresh = some.1.fresh; fewer = some.1.fewer; none = none; one = λ q. absurd cc }

pub asks_right : (birth : Birth) (h : List Entry) (who epoch : ℕ) (call : Call) (n : ℕ) → reply birth h who epoch call ≡ Needs n → Asks call n
asks_right birth h who epoch (calls.Read piece last b) n is =
    asks_some _ n b refl refl refl ((l_access birth h (record { off = piece.off; len = piece.len; last = last.0; bytes = None }) b).is n is)
asks_right birth h who epoch (calls.Write off bytes last b) n is =
    asks_some _ n b refl refl refl ((l_access birth h (record { off = off; len = length bytes; last = last.0; bytes = Some bytes }) b).is n is)
asks_right birth h who epoch (calls.Retry ticket b) n is = asks_some _ n b refl refl refl ((l_retry birth h b (outcome birth h ticket) (parked h ticket)).is n is)
asks_right birth h who epoch (calls.Dirty range b) n is = asks_some _ n b refl refl refl ((lack_call birth h who epoch range b).0.is n is)
asks_right birth h who epoch (calls.Pin range b) n is = asks_some _ n b refl refl refl ((lack_call birth h who epoch range b).1.is n is)
asks_right birth h who epoch (calls.Borrow page b) n is =
    let some = (lack_borrow birth h who epoch page b).is n is in
    record { brought = b; is = refl; fresh = some.fresh; fewer = some.fewer; none = refl; one = λ _. sym some.count }
asks_right birth h who epoch (calls.Vacate b) n is =
    let some : Lack b (reply birth h who epoch (calls.Vacate b)) = l_frames b (length (pages_where birth h (loaned_firm birth h)))
    (answer.Vacated (map page_number (pages_where birth h (loaned_firm birth h))) (map page_number (pages_where birth h (loaned_loose birth h)))) refl in
    asks_some _ n b refl refl refl (some.is n is)
asks_right birth h who epoch call n is = absurd (quiet (reply birth h who epoch call) n is (silent_call birth h who epoch call refl).is)

-- only accesses park
pub record Loudless (r : Reply) : Type 0 where
  pub is : parks r ≡ false

loudless : (r : Reply) → parks r ≡ false → Loudless r
loudless r q = record { is = q }

p_refusal : (test : Bool) (why : Refusal) (next : Reply) → Loudless next → Loudless (refuse_where test why next)
p_refusal true why next q = record { is = refl }
p_refusal false why next q = q

p_page : (found : Option ℕ) (why : PageNo → Refusal) (next : Reply) → Loudless next → Loudless (refuse_at found why next)
p_page None why next q = q
p_page (Some p) why next q = record { is = refl }

p_choice : (test : Bool) (first second : Reply) → Loudless first → Loudless second → Loudless (cond test first second)
p_choice true first second p q = p
p_choice false first second p q = q

p_frames : (m : ℕ) (brought : Brought) (next : Reply) → Loudless next → Loudless (with_frames m brought next)
p_frames m brought next q =
    p_choice (m == 0) _ _ q (p_choice (is_scan brought) _ _ (record { is = refl }) (p_choice (nat_lt (frames_in brought) m) _ _ (record { is = refl }) q))

p_packet : (birth : Birth) (h : List Entry) (packet : Option PacketValue) → Loudless (packet_reply birth h packet)
p_packet birth h (Some packet) = record { is = refl }
p_packet birth h None = p_choice (detached birth h) _ _ (record { is = refl }) (record { is = refl })

p_resize : (birth : Birth) (h : List Entry) (pages : ℕ) (limit : Option ℕ) → Loudless (resize_reply birth h pages limit)
p_resize birth h pages None = record { is = refl }
p_resize birth h pages (Some limit) = search (rules, p_refusal, p_page, loudless)

park_none : (birth : Birth) (h : List Entry) (who epoch : ℕ) (call : Call) → may_park call ≡ false → Loudless (reply birth h who epoch call)
park_none birth h who epoch (calls.Read piece last b) q = absurd cc
park_none birth h who epoch (calls.Write off bytes last b) q = absurd cc
park_none birth h who epoch (calls.Retry ticket b) q = absurd cc
park_none birth h who epoch (calls.Supply range bytes b) q = search (rules, p_refusal, p_choice, loudless)
park_none birth h who epoch (calls.Fail range code) q = search (rules, p_refusal, p_choice, loudless)
park_none birth h who epoch (calls.Dirty range b) q = search (rules, p_refusal, p_page, p_choice, p_frames, loudless)
park_none birth h who epoch (calls.Begin range zero) q = search (rules, p_refusal, p_choice, loudless)
park_none birth h who epoch (calls.End range None) q = search (rules, p_refusal, p_choice, loudless)
park_none birth h who epoch (calls.End range (Some n)) q = search (rules, p_refusal, p_choice, loudless)
park_none birth h who epoch (calls.Query range room) q = search (rules, p_refusal, p_choice, loudless)
park_none birth h who epoch (calls.Hint range kind) q = search (rules, p_refusal, p_choice, loudless)
park_none birth h who epoch (calls.Pin range b) q = search (rules, p_refusal, p_page, p_choice, p_frames, loudless)
park_none birth h who epoch (calls.Unpin range) q = search (rules, p_refusal, p_page, p_choice, loudless)
park_none birth h who epoch (calls.Borrow page b) q = search (rules, p_refusal, p_page, p_choice, p_frames, loudless)
park_none birth h who epoch (calls.Vacate b) q = search (rules, p_choice, p_frames, loudless)
park_none birth h who epoch (calls.Resize pages) q = p_resize birth h pages birth.limit
park_none birth h who epoch (calls.Zero range) q = search (rules, p_refusal, p_page, p_choice, loudless)
park_none birth h who epoch calls.Detach q = search (rules, p_refusal, p_choice, loudless)
park_none birth h who epoch calls.Packet q = p_packet birth h _
park_none birth h who epoch (calls.Leave role) q = search (rules, p_refusal, p_choice, loudless)
park_none birth h who epoch _ q = record { is = refl }

pub parks_right : (birth : Birth) (h : List Entry) (who epoch : ℕ) (call : Call) → parks (reply birth h who epoch call) ≡ true → may_park call ≡ true
parks_right birth h who epoch call is =
    elim (may_park call) as (λ t. may_park call ≡ t → t ≡ true) [
      | true ↦ λ q. refl
      | false ↦ λ q. absurd (loud (reply birth h who epoch call) is (park_none birth h who epoch call q).is)
    ] refl
