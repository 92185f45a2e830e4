use Rattle.std.proofs.Common.{◌≡◌, ◌∙◌, ◌+◌, ◌<◌, ◌≤◌, not, ◌++◌, ◌∷◌, [], length, refl, ap, sym, subst, arith, rules}
use Rattle.up_asks.specs.Asking.{Asking, pages_of, asked_in}
use Rattle.up_asks.specs.Keeps.{waiting_among}
use Rattle.up_asks.proofs.Events.{waiting_push}
use Rattle.up_asks.proofs.Sends.{runs_are_ranges}
use Rattle.up_asks.proofs.asks.Asks.park.Goals as goal

pub send-requires-clause-ranges : goal.send-requires-clause-ranges
send-requires-clause-ranges c = runs_are_ranges (λ page. not (asked_in c.args.self.now c.args.kind page)) c.args.range.now.first c.args.range.now.count c.args.parts.now
    c.pages_in-count.ensures.below c.requires.fresh

pub add-requires-clause-room : goal.add-requires-clause-room
add-requires-clause-room c = λ each. subst (λ (a : Asking). 0 < (pages_of a.pages each).room) (sym c.self.view_is) (c.requires.change each)

pub invariant_of-self : goal.invariant_of-self
invariant_of-self c =
    let ticket : 0 < c.self.inside.ticket_room = subst (λ (a : Asking). 0 < a.ticket_room) (sym c.self.view_is) c.requires.ticket in
    let packets : length c.args.parts.now ≤ c.self.inside.packet_room = subst (λ (a : Asking). length c.args.parts.now ≤ a.packet_room) (sym c.self.view_is) c.requires.packets in
    let given : c.len-number.result ≡ length c.self.inside.tickets.items = c.len-number.ensures ∙ search rules in
    let number : c.len-number.result ≡ 0 + length c.self.inside.tickets.items = omega arith in
    let sent = c.send.ensures.len in
    let sent_room = c.send.ensures.room in
    let parts = c.len.ensures in
    record {
      taken_few = let few = c.self.invariant.taken_few in omega arith;
      packets_fit = let fit = c.self.invariant.packets_fit in omega arith;
      tickets_fit = let fit = c.self.invariant.tickets_fit in let len = c.push_reserved.ensures.len in let room = c.push_reserved.ensures.capacity in omega arith;
      waiters_fit = let fit = c.self.invariant.waiters_fit in let len = c.push_reserved-2.ensures.len in let room = c.push_reserved-2.ensures.capacity in omega arith;
      waiting_fits = let fit = c.self.invariant.waiting_fits in let len = c.push_reserved-3.ensures.len in let room = c.push_reserved-3.ensures.capacity in omega arith;
      each_waiter = let one = c.push_reserved.ensures.len in let two = c.push_reserved-2.ensures.len in let same = c.self.invariant.each_waiter in omega arith;
      listed = c.push_reserved-3.ensures.items
          ∙ ap (λ ws. ws ++ c.len-number.result ∷ []) c.self.invariant.listed
          ∙ sym (waiting_push c.self.inside.tickets.items _ 0 c.len-number.result refl number)
          ∙ ap (λ ts. waiting_among ts 0) (sym c.push_reserved.ensures.items);
    }
