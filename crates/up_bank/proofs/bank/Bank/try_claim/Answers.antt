use Rattle.std.proofs.Common.{◌≡◌, ◌%◌, rules, arith, refl, sym, ap, ◌∙◌, Some}
use Rattle.std.specs.Int.{bit_at}
use Rattle.std.proofs.lemmas.Nat.Bits.{shr_and_one}
use Rattle.up_bank.specs.Bytes.{bytes_of}
use Rattle.up_bank.proofs.Sizes.{Sized, sized}
use Rattle.up_bank.proofs.TableSteps.{clears}
use Rattle.up_bank.proofs.Claims.{hit_slot, emptied, vacates_at, drawn}
use Rattle.up_bank.proofs.Views.{sheds}
use Rattle.up_bank.proofs.bank.Bank.try_claim.Goals as goal

pub fetch_and-found-requires : goal.fetch_and-found-requires
fetch_and-found-requires c = let z : Sized c.self.inside.table.shared.key c.self.inside.table.shared.table_id c.args.self.now = sized _ _ _ _ c.self.view_is c.self.invariant in
    let idle = c.requires.idle in (search rules, omega arith, clears _ _ _ c.args.number _ (omega arith) idle.acts idle.has)

pub exchange-slot-requires : goal.exchange-slot-requires
exchange-slot-requires c = let one : bit_at c.fetch_and-found.result (c.args.number % 64) ≡ 1 = sym (shr_and_one c.fetch_and-found.result (c.args.number % 64)) ∙ c.if-found-bit-ne1.false in
    let hit = (c.fetch_and-found.ensures.2 c.args.number refl refl).1 one in (search rules, (Some (bytes_of hit.gives c.args.number), hit_slot _ _ _ _ hit))

pub fetch_or-requires : goal.fetch_or-requires
fetch_or-requires c = let z : Sized c.self.inside.table.shared.key c.self.inside.table.shared.table_id c.args.self.now = sized _ _ _ _ c.self.view_is c.self.invariant in
    let one : bit_at c.fetch_and-found.result (c.args.number % 64) ≡ 1 = sym (shr_and_one c.fetch_and-found.result (c.args.number % 64)) ∙ c.if-found-bit-ne1.false in
    let hit = (c.fetch_and-found.ensures.2 c.args.number refl refl).1 one in let out = emptied _ _ _ _ _ hit c.exchange-slot.ensures.3 in
    (search rules, omega arith, vacates_at _ _ _ c.args.number _ _ (ap (λ m. m.0.has) out) (ap (λ m. m.0.rests) out ∙ c.requires.idle.acts) (ap (λ m. m.1) out))

pub split_seat-own-requires : goal.split_seat-own-requires
split_seat-own-requires c = let z : Sized c.self.inside.table.shared.key c.self.inside.table.shared.table_id c.args.self.now = sized _ _ _ _ c.self.view_is c.self.invariant in
    let one : bit_at c.fetch_and-found.result (c.args.number % 64) ≡ 1 = sym (shr_and_one c.fetch_and-found.result (c.args.number % 64)) ∙ c.if-found-bit-ne1.false in
    let hit = (c.fetch_and-found.ensures.2 c.args.number refl refl).1 one in let out = emptied _ _ _ _ _ hit c.exchange-slot.ensures.3 in
    let back = drawn c.args.number c.args.place.now.me c.fetch_and-found.result _ _ _ out c.fetch_or.ensures.2 in (search rules, omega arith, sheds _ _ _ (ap (λ m. m.0.rests) back ∙ c.requires.idle.acts))
