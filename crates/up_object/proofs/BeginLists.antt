-- The begins that got numbers, with one entry more.
use Rattle.std.proofs.Common.{◌≡◌, ℕ, ◌==◌, true, false, cond, Option, Some, None, option_map, List, [], ◌∷◌, ◌++◌, length, suc, slice_get, refl, ap, sym, ◌∙◌, ◌≤◌, arith}
use Rattle.std.specs.Prelude.{option_to_list}
use Rattle.up_model.specs.Numbers.{BeginOf, is_began, next_number}
use Rattle.up_model.specs.Legal.{Legal}
use Rattle.up_model.specs.declared.entry.Birth.{Birth}
use Rattle.up_model.specs.declared.entry.Call.{Call}
use Rattle.up_model.specs.declared.entry.Call.TheVariants as calls
use Rattle.up_model.specs.declared.entry.Reply.{Reply}
use Rattle.up_model.specs.declared.entry.Reply.TheVariants.{Began}
use Rattle.up_model.specs.declared.entry.Entry.{Entry}
use Rattle.up_model.proofs.BeginNumbers.{BeginsNext, entry_numbers, number_of, unnumbered}
use Rattle.up_object.specs.declared.numbers.Begin.{Begin}
use Rattle.up_object.specs.Stands.{is_leave}
use Rattle.up_object.specs.Numbers.{BeginsStand, begin_at, begin_in, as_begin}
use Rattle.up_object.proofs.Lists.{push_look, length_push}

-- an entry without a number has no begin that gets one
pub unbegun_in : (call : Call) (reply : Reply) → is_began reply ≡ false → begin_at call reply ≡ None
unbegun_in (calls.Begin range only_zero) reply is = rw is refl
unbegun_in _ reply is = refl

append_none : (begins : List Begin) → begins ++ [] ≡ begins
append_none [] = refl
append_none (b ∷ begins) = ap (λ (xs : List Begin). b ∷ xs) (append_none begins)

unbegun_next : (begins new : List Begin) (e : Entry) (h : List Entry) → is_began e.reply ≡ false → BeginsStand begins h → new ≡ begins ++ option_to_list (begin_in e) → BeginsStand new (e ∷ h)
unbegun_next begins new e h none s is =
    let same : new ≡ begins = is ∙ ap (λ (o : Option Begin). begins ++ option_to_list o) (unbegun_in e.call e.reply none) ∙ append_none begins in record {
      count = ap (λ (xs : List Begin). length xs) same ∙ s.count ∙ ap (λ b. cond b (suc (next_number h)) (next_number h)) (sym none);
      named = λ n. ap (λ (xs : List Begin). option_map as_begin (slice_get xs n)) same ∙ s.named n ∙ rw (unnumbered e.reply n none) refl;
    }

begun_next : (begins new : List Begin) (birth : Birth) (e : Entry) (h : List Entry) (n : ℕ) → e.reply ≡ Began n → BeginsNext birth h e.call n → BeginsStand begins h →
    new ≡ begins ++ option_to_list (begin_in e) → BeginsStand new (e ∷ h)
begun_next begins new birth e h n gave next s is =
    let begin : Begin = record { range = next.about.range; only_zero = next.about.only_zero } in
    let gives : begin_in e ≡ Some begin = rw (next.is, gave) refl in
    let longer : new ≡ begins ++ begin ∷ [] = is ∙ ap (λ (o : Option Begin). begins ++ option_to_list o) gives in
    let count : length begins ≡ n = s.count ∙ sym next.next in record {
      count = ap (λ (xs : List Begin). length xs) longer ∙ length_push begins begin ∙ ap suc s.count ∙ rw gave refl;
      named = λ m. ap (λ (xs : List Begin). option_map as_begin (slice_get xs m)) longer ∙ push_look (option_map as_begin) begins begin n m count
          ∙ ap (λ (o : Option BeginOf). cond (n == m) (Some (as_begin begin)) o) (s.named m) ∙ rw (gave, next.is) refl;
    }

pub begins_next : (begins new : List Begin) (birth : Birth) (e : Entry) (h : List Entry) → Legal birth (e ∷ h) → BeginsStand begins h → new ≡ begins ++ option_to_list (begin_in e) → BeginsStand new (e ∷ h)
begins_next begins new birth e h legal s is = elim (is_began e.reply) as (λ b. is_began e.reply ≡ b → BeginsStand new (e ∷ h)) [
  | true ↦ λ q. let given = number_of e.reply q in begun_next begins new birth e h given.0 given.1 (entry_numbers birth e h legal given.0 given.1) s is
  | false ↦ λ q. unbegun_next begins new e h q s is
] refl

-- a leave has no number
pub leave_unbegun : (call : Call) (reply : Reply) (spare : ℕ) → is_leave call ≡ true → length (option_to_list (begin_at call reply)) ≤ spare
leave_unbegun (calls.Leave role) reply spare is = omega arith
leave_unbegun _ reply spare is = absurd cc
