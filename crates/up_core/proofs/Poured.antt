-- Frames that are moved from one list to another.
use Rattle.std.proofs.Common.{◌≡◌, ℕ, ◌+◌, ◌≤◌, cond, List, [], ◌∷◌, ◌++◌, length, reverse, refl, sym, ◌∙◌, ap, subst, arith}
use Rattle.std.proofs.lemmas.List.{length-append, length-reverse, reverse-append}
use Rattle.std.proofs.lemmas.List.Sums.{sum_by-cons, sum_by-append, sum_by_push}
use Rattle.up_bank.specs.Standing.{Held as Frame}
use Rattle.up_bank.specs.declared.kind.FrameKind.{FrameKind}
use Rattle.up_pages.specs.Frames.{Stock, count_kind, same_kind}
use Rattle.up_object.specs.declared.step.Stepped.{Stepped}
use Rattle.up_object.specs.Parts.{BankPair}
use Rattle.up_object.specs.Change.{AllOwn}
use Rattle.up_object.proofs.PageAtMark.{own_append}
use Rattle.up_core.specs.Requests.{given_back, AllBackOwn}
use Rattle.up_core.specs.Running.{all_back}
use Rattle.up_core.proofs.Listed.{backs_parts}

swapped : (a b c : ℕ) → a ≡ c → a + b ≡ b + c
swapped a b c e = omega arith

count_reverse : (kind : FrameKind) (xs : List Frame) → count_kind kind (reverse xs) ≡ count_kind kind xs
count_reverse kind [] = refl
count_reverse kind (x ∷ xs) =
    ap (count_kind kind) (reverse-append (x ∷ []) xs)
    ∙ sum_by_push (λ (f : Frame). cond (same_kind kind f.bank.kind) 1 0) (reverse xs) x
    ∙ swapped (count_kind kind (reverse xs)) (cond (same_kind kind x.bank.kind) 1 0) (count_kind kind xs) (count_reverse kind xs)
    ∙ sym (sum_by-cons (λ (f : Frame). cond (same_kind kind f.bank.kind) 1 0) x xs)

own_reverse : (banks : BankPair) (xs : List Frame) → AllOwn banks xs → AllOwn banks (reverse xs)
own_reverse banks [] own = tt
own_reverse banks (x ∷ xs) own = subst (λ (fs : List Frame). AllOwn banks fs) (sym (reverse-append (x ∷ []) xs)) (own_append banks (reverse xs) (x ∷ []) (own_reverse banks xs own.1) (own.0, tt))

pub poured_count : (kind : FrameKind) (xs ys zs : List Frame) → zs ≡ xs ++ reverse ys → count_kind kind zs ≡ count_kind kind xs + count_kind kind ys
poured_count kind xs ys zs e =
    ap (count_kind kind) e ∙ sum_by-append (λ (f : Frame). cond (same_kind kind f.bank.kind) 1 0) xs (reverse ys) ∙ ap (λ n. count_kind kind xs + n) (count_reverse kind ys)

pub poured_length : (xs ys zs : List Frame) → zs ≡ xs ++ reverse ys → length zs ≡ length xs + length ys
poured_length xs ys zs e = ap length e ∙ length-append xs (reverse ys) ∙ ap (λ n. length xs + n) (length-reverse ys)

pub poured_own : (banks : BankPair) (xs ys zs : List Frame) → zs ≡ xs ++ reverse ys → AllOwn banks xs → AllOwn banks ys → AllOwn banks zs
poured_own banks xs ys zs e own owns = subst (λ (fs : List Frame). AllOwn banks fs) (sym e) (own_append banks xs (reverse ys) own (own_reverse banks ys owns))

-- what was gathered so far, and what is still to come
pub record Gathering (into now : Stock) (replies rest : List Stepped) : Type 0 where
  pub room : length now.items + all_back rest ≤ now.room
  pub kinds : (kind : FrameKind) → count_kind kind now.items + given_back kind rest ≡ count_kind kind into.items + given_back kind replies
  pub own : (banks : BankPair) → AllOwn banks into.items → AllBackOwn banks replies → AllOwn banks now.items × AllBackOwn banks rest

room_left : (now all rest back now' room : ℕ) → all ≡ rest + back → now' ≡ now + back → now + all ≤ room → now' + rest ≤ room
room_left now all rest back now' room one two enough = omega arith

room_one : (now all rest back room : ℕ) → all ≡ rest + back → now + all ≤ room → now + back ≤ room
room_one now all rest back room one enough = omega arith

kept : (now all rest back now' whole : ℕ) → all ≡ rest + back → now' ≡ now + back → now + all ≡ whole → now' + rest ≡ whole
kept now all rest back now' whole one two e = omega arith

back_push : (rest rest' : List Stepped) (stepped : Stepped) → rest ≡ rest' ++ stepped ∷ [] → all_back rest ≡ all_back rest' + length stepped.back.items
back_push rest rest' stepped e = ap all_back e ∙ sum_by_push (λ (s : Stepped). length s.back.items) rest' stepped

pub gather_fits : (into now : Stock) (replies rest rest' : List Stepped) (stepped : Stepped) → Gathering into now replies rest → rest ≡ rest' ++ stepped ∷ [] →
    length now.items + length stepped.back.items ≤ now.room
gather_fits into now replies rest rest' stepped gathering e =
    room_one (length now.items) (all_back rest) (all_back rest') (length stepped.back.items) now.room (back_push rest rest' stepped e) gathering.room

pub gather_next : (into now now' : Stock) (replies rest rest' : List Stepped) (stepped : Stepped) → Gathering into now replies rest → rest ≡ rest' ++ stepped ∷ [] →
    now'.items ≡ now.items ++ reverse stepped.back.items → now'.room ≡ now.room → Gathering into now' replies rest'
gather_next into now now' replies rest rest' stepped gathering e items room = record {
  room = subst (λ n. length now'.items + all_back rest' ≤ n) (sym room)
      (room_left (length now.items) (all_back rest) (all_back rest') (length stepped.back.items) (length now'.items) now.room
      (back_push rest rest' stepped e) (poured_length now.items stepped.back.items now'.items items) gathering.room);
  kinds = λ kind.
      kept (count_kind kind now.items) (given_back kind rest) (given_back kind rest') (count_kind kind stepped.back.items) (count_kind kind now'.items) (count_kind kind into.items + given_back kind replies)
      (ap (given_back kind) e ∙ sum_by_push (λ (s : Stepped). count_kind kind s.back.items) rest' stepped)
      (poured_count kind now.items stepped.back.items now'.items items) (gathering.kinds kind);
  own = λ banks own owns.
      let both = gathering.own banks own owns in
      let parts = backs_parts banks rest' stepped (subst (λ (ss : List Stepped). AllBackOwn banks ss) e both.1) in
      (poured_own banks now.items stepped.back.items now'.items items both.0 parts.1, parts.0);
}

ended_count : (now into all : ℕ) → now + 0 ≡ into + all → now ≡ into + all
ended_count now into all e = omega arith

pub gather_ends : (kind : FrameKind) (into now : Stock) (replies rest : List Stepped) → Gathering into now replies rest → rest ≡ [] → count_kind kind now.items ≡ count_kind kind into.items + given_back kind replies
gather_ends kind into now replies rest gathering none =
    ended_count (count_kind kind now.items) (count_kind kind into.items) (given_back kind replies) (ap (λ (ss : List Stepped). count_kind kind now.items + given_back kind ss) (sym none) ∙ gathering.kinds kind)
