-- Lists of frames that actors keep: one of them changes.
use Rattle.std.proofs.Common.{◌≡◌, ◌<◌, ◌+◌, ℕ, Some, List, [], ◌∷◌, ◌++◌, length, zero, suc, sum, replicate, slice_get, slice_set, slice_index, get_or, refl, ap, sym, ◌∙◌, subst, arith}
use Rattle.up_bank.specs.Standing.{BankId, Held as Frame}
use Rattle.up_pages.specs.Frames.{Stock}
use Rattle.up_object.specs.Change.{AllAre}
use Rattle.up_hands.proofs.OneObjectCalled.{get_is}
use Rattle.up_hands.specs.Keeping.{AllKept, counts_of}
use Rattle.std.proofs.lemmas.List.{map-append, replicate-append-replicate}
use Rattle.std.proofs.lemmas.List.Sums.{sum_by-cons}

sum-cons : (n : ℕ) (ns : List ℕ) → sum (n ∷ ns) ≡ n + sum ns
sum-cons n ns = sum_by-cons (λ (x : ℕ). x) n ns

pub kept_at : (bank : BankId) (lists : List Stock) (n : ℕ) (list : Stock) → AllKept bank lists → slice_get lists n ≡ Some list → AllAre bank list.items
kept_at bank [] n list all is = absurd cc
kept_at bank (one ∷ lists) zero list all is = let same : one ≡ list = cc in subst (λ (l : Stock). AllAre bank l.items) same all.0
kept_at bank (one ∷ lists) (suc n) list all is = kept_at bank lists n list all.1 is

as_many : (lists : List Stock) → length (counts_of lists) ≡ length lists
as_many [] = refl
as_many (one ∷ lists) = ap suc (as_many lists)

pub list_there : (lists : List Stock) (kept : List ℕ) (n : ℕ) (list : Stock) → counts_of lists ≡ kept → n < length kept → list ≡ get_or lists n list → slice_get lists n ≡ Some list
list_there lists kept n list is within value = get_is lists n list (subst (λ (k : ℕ). n < k) (sym (ap length is) ∙ as_many lists) within) value

pub kept_set : (bank : BankId) (lists : List Stock) (n : ℕ) (list : Stock) → AllKept bank lists → AllAre bank list.items → AllKept bank (slice_set lists n list)
kept_set bank [] n list all are = all
kept_set bank (one ∷ lists) zero list all are = (are, all.1)
kept_set bank (one ∷ lists) (suc n) list all are = (all.0, kept_set bank lists n list all.1 are)

kept_split : (bank : BankId) (lists : List Stock) (last : Stock) → AllKept bank (lists ++ last ∷ []) → AllKept bank lists × AllAre bank last.items
kept_split bank [] last all = (tt, all.0)
kept_split bank (one ∷ lists) last all = let rest = kept_split bank lists last all.1 in ((all.0, rest.0), rest.1)

pub kept_popped : (bank : BankId) (old new : List Stock) (last : Stock) → old ≡ new ++ last ∷ [] → AllKept bank old → AllKept bank new × AllAre bank last.items
kept_popped bank old new last e all = kept_split bank new last (subst (AllKept bank) e all)

kept_push : (bank : BankId) (lists : List Stock) (last : Stock) → AllKept bank lists → AllAre bank last.items → AllKept bank (lists ++ last ∷ [])
kept_push bank [] last all are = (are, tt)
kept_push bank (one ∷ lists) last all are = (all.0, kept_push bank lists last all.1 are)

pub kept_pushed : (bank : BankId) (old new : List Stock) (last : Stock) → new ≡ old ++ last ∷ [] → AllKept bank old → last.items ≡ [] → AllKept bank new
kept_pushed bank old new last e all none = subst (AllKept bank) (sym e) (kept_push bank old last all (subst (AllAre bank) (sym none) tt))

pub counts_set : (lists : List Stock) (n : ℕ) (list : Stock) → counts_of (slice_set lists n list) ≡ slice_set (counts_of lists) n (length list.items)
counts_set [] n list = refl
counts_set (one ∷ lists) zero list = refl
counts_set (one ∷ lists) (suc n) list = ap (λ (rest : List ℕ). length one.items ∷ rest) (counts_set lists n list)

pub count_at : (lists : List Stock) (n : ℕ) (list : Stock) → slice_get lists n ≡ Some list → slice_index (counts_of lists) n ≡ length list.items
count_at [] n list is = absurd cc
count_at (one ∷ lists) zero list is = let same : one ≡ list = cc in ap (λ (l : Stock). length l.items) same
count_at (one ∷ lists) (suc n) list is = count_at lists n list is

pub sum_set : (lists : List Stock) (n : ℕ) (old new : Stock) → slice_get lists n ≡ Some old → sum (counts_of (slice_set lists n new)) + length old.items ≡ sum (counts_of lists) + length new.items
sum_set [] n old new is = absurd cc
sum_set (one ∷ lists) zero old new is =
    let same : one ≡ old = cc in
    let here : length one.items ≡ length old.items = ap (λ (l : Stock). length l.items) same in
    let now = sum-cons (length new.items) (counts_of lists) in
    let before = sum-cons (length one.items) (counts_of lists) in
    omega arith
sum_set (one ∷ lists) (suc n) old new is =
    let rest = sum_set lists n old new is in
    let now = sum-cons (length one.items) (counts_of (slice_set lists n new)) in
    let before = sum-cons (length one.items) (counts_of lists) in
    omega arith

pub counts_push : (old new : List Stock) (last : Stock) (n : ℕ) → new ≡ old ++ last ∷ [] → last.items ≡ [] → counts_of old ≡ replicate n 0 → counts_of new ≡ replicate (n + 1) 0
counts_push old new last n e none is =
    ap counts_of e ∙ map-append (λ (list : Stock). length list.items) old (last ∷ [])
    ∙ (ap (λ (ns : List ℕ). ns ++ length last.items ∷ []) is ∙ ap (λ (items : List Frame). replicate n 0 ++ length items ∷ []) none ∙ replicate-append-replicate n 1 0)

pub no_counts : (n : ℕ) → sum (replicate n 0) ≡ 0
no_counts zero = refl
no_counts (suc n) = let more = sum-cons 0 (replicate n 0) in let rest = no_counts n in omega arith
