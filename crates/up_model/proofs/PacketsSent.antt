-- Packets are only added at the end, no more are taken than sent, and a ticket that somebody holds has its access.
use Rattle.std.proofs.Common.{◌≡◌, ℕ, ◌+◌, ◌<◌, ◌≤◌, Bool, true, false, cond, Option, Some, None, List, [], ◌∷◌, ◌++◌, length, zero, suc, slice_get, refl, ap, sym, ◌∙◌, subst, arith, append_assoc, length-append}
use Rattle.std.proofs.lemmas.List.{append-nil}
use Rattle.up_num.specs.declared.answers.Packet.{Packet as PacketValue}
use Rattle.up_num.specs.declared.answers.Packet.TheVariants.{Complete}
use Rattle.up_model.specs.Attempts.{Access, is_blocked, blocks, attempt_of, parked}
use Rattle.up_model.specs.Value.{there}
use Rattle.up_model.specs.Roles.{detached}
use Rattle.up_model.specs.Asks.{asked, wanted}
use Rattle.up_model.specs.Packets.{packets, requested, sent, taken, is_packet}
use Rattle.up_model.specs.Tickets.{owner}
use Rattle.up_model.specs.Reply.{packet_reply, reply}
use Rattle.up_model.specs.Answered.{takes_packet, may_be_answered}
use Rattle.up_model.specs.Legal.{Legal}
use Rattle.up_model.specs.declared.entry.Birth.{Birth}
use Rattle.up_model.specs.declared.entry.Entry.{Entry}
use Rattle.up_model.specs.declared.entry.Call.{Call}
use Rattle.up_model.specs.declared.entry.Call.TheVariants as calls
use Rattle.up_model.specs.declared.entry.Reply.{Reply}
use Rattle.up_model.specs.declared.entry.Reply.TheVariants.{Packet as PacketReply, Finished, Empty}
use Rattle.up_model.proofs.Replying.{answered}
use Rattle.up_model.proofs.OneEntryMore.{blocks_none}
use Rattle.up_model.proofs.Fates.{detached_stays}
use Rattle.up_model.proofs.Blocked.{entry_blocked}

below : {X : Type 0} (xs : List X) (n : ℕ) (x : X) → slice_get xs n ≡ Some x → n < length xs
below [] n x at = absurd cc
below (y ∷ ys) zero x at = omega arith
below (y ∷ ys) (suc n) x at = let rest = below ys n x at in omega arith

unpacked : (b : Bool) → is_packet (cond b Finished Empty) ≡ false
unpacked true = refl
unpacked false = refl

packet_has_place : (birth : Birth) (h : List Entry) (packet : Option PacketValue) (xs : List PacketValue) (n : ℕ) → slice_get xs n ≡ packet → is_packet (packet_reply birth h packet) ≡ true → n < length xs
packet_has_place birth h (Some packet) xs n at is = below xs n packet at
packet_has_place birth h None xs n at is = let none = unpacked (detached birth h) in absurd cc

-- only a packet call is answered with a packet, the next one
packet_asked : (call : Call) (r : Reply) → may_be_answered r call ≡ true → is_packet r ≡ true → takes_packet call ≡ true
packet_asked call (PacketReply packet) may is = may
packet_asked call _ may is = absurd cc

packet_below : (birth : Birth) (h : List Entry) (who epoch : ℕ) (call : Call) →
    is_packet (reply birth h who epoch call) ≡ true → taken h < length (sent birth h)
packet_below birth h who epoch calls.Packet is =
    packet_has_place birth h (slice_get (sent birth h) (taken h)) (sent birth h) (taken h) refl is
packet_below birth h who epoch call is =
    let never = packet_asked call (reply birth h who epoch call) (answered birth h who epoch call).is is in absurd cc

-- Packets.

added : (was is : Bool) (old more : List PacketValue) → (was ≡ true → is ≡ true) → (was ≡ true → more ≡ []) →
    (extra : List PacketValue) × (cond is ((old ++ more) ++ Complete ∷ []) (old ++ more) ≡ cond was (old ++ Complete ∷ []) old ++ extra)
added true true old more stays none = ([], rw (none refl, append-nil old) (sym (append-nil (old ++ Complete ∷ []))))
added true false old more stays none = let never : false ≡ true = stays refl in absurd cc
added false true old more stays none = (more ++ Complete ∷ [], rw append_assoc refl)
added false false old more stays none = (more, refl)

requested_more : (birth : Birth) (e : Entry) (before : List Entry) → (more : List PacketValue) × (requested birth (e ∷ before) ≡ requested birth before ++ more) × (is_blocked e.reply ≡ false → more ≡ [])
requested_more birth e before =
    elim (is_blocked e.reply) as (λ b. is_blocked e.reply ≡ b → (more : List PacketValue) ×
    (cond b (requested birth before ++ packets (asked birth before) (wanted birth before e)) (requested birth before) ≡ requested birth before ++ more) × (b ≡ false → more ≡ [])) [
      | true ↦ λ q. (packets (asked birth before) (wanted birth before e), refl, λ never. absurd cc)
      | false ↦ λ q. ([], sym (append-nil (requested birth before)), λ _. refl)
    ] refl

detached_parks_none : (birth : Birth) (e : Entry) (before : List Entry) → Legal birth (e ∷ before) → detached birth before ≡ true → is_blocked e.reply ≡ false
detached_parks_none birth e before legal gone = elim (is_blocked e.reply) as (λ b. is_blocked e.reply ≡ b → b ≡ false) [
  | true ↦ λ q. let attached = (entry_blocked birth e before legal q).why.attached in absurd cc
  | false ↦ λ q. refl
] refl

pub packets_added : (birth : Birth) (e : Entry) (before : List Entry) → Legal birth (e ∷ before) → (more : List PacketValue) × (sent birth (e ∷ before) ≡ sent birth before ++ more)
packets_added birth e before legal =
    let more = requested_more birth e before in
    let all = added (detached birth before) (detached birth (e ∷ before)) (requested birth before) more.0 (detached_stays birth e before)
    (λ gone. more.2 (detached_parks_none birth e before legal gone)) in
    (all.0, rw more.1 all.1)

pub taken_below : (birth : Birth) (e : Entry) (before : List Entry) → Legal birth (e ∷ before) → is_packet e.reply ≡ true → taken before < length (sent birth before)
taken_below birth e before legal is = packet_below birth before e.who e.epoch e.call (subst (λ (r : Reply). is_packet r ≡ true) legal.2 is)

pub taken_sent : (birth : Birth) (h : List Entry) → Legal birth h → taken h ≤ length (sent birth h)
taken_sent birth [] legal = omega arith
taken_sent birth (e ∷ before) legal =
    let more = packets_added birth e before legal in
    let longer : length (sent birth (e ∷ before)) ≡ length (sent birth before) + length more.0 = ap length more.1 ∙ length-append (sent birth before) more.0 in
    let was = taken_sent birth before legal.0 in
    elim (is_packet e.reply) as (λ b. is_packet e.reply ≡ b → cond b (suc (taken before)) (taken before) ≤ length (sent birth (e ∷ before))) [
      | true ↦ λ q. let below = taken_below birth e before legal q in omega arith
      | false ↦ λ q. omega arith
    ] refl

-- Tickets.

blocks_so : (r : Reply) (t : ℕ) → blocks r t ≡ true → is_blocked r ≡ true
blocks_so r t is = elim (is_blocked r) as (λ b. is_blocked r ≡ b → b ≡ true) [
  | true ↦ λ q. refl
  | false ↦ λ q. let never = blocks_none r t q in absurd cc
] refl

pub held_access : (birth : Birth) (h : List Entry) → Legal birth h → (t who : ℕ) → owner h t ≡ Some who → (a : Access) × (parked h t ≡ Some a)
held_access birth [] legal t who is = absurd cc
held_access birth (e ∷ before) legal t who is =
    elim (blocks e.reply t) as (λ b. blocks e.reply t ≡ b → cond b (Some e.who) (owner before t) ≡ Some who → (a : Access) × (cond b (attempt_of (parked before) e.call) (parked before t) ≡ Some a)) [
      | true ↦ λ q here. let one = entry_blocked birth e before legal (blocks_so e.reply t q) in (one.a, one.attempted)
      | false ↦ λ q there. held_access birth before legal.0 t who there
    ] refl is
