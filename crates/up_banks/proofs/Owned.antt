-- Lists of frames that are of one bank, or each of that of its kind: with one frame more or less at the end, and how many of a kind they are.
use Rattle.std.proofs.Common.{◌≡◌, ◌+◌, ℕ, Bool, true, cond, List, [], ◌∷◌, ◌++◌, length, suc, refl, sym, subst, ap, ◌∙◌, arith}
use Rattle.up_bank.specs.declared.kind.FrameKind.{FrameKind}
use Rattle.up_bank.specs.declared.kind.FrameKind.TheVariants.{Ordinary, Loaned}
use Rattle.up_bank.specs.Standing.{BankId, Held as Frame}
use Rattle.std.proofs.lemmas.List.{length-append}
use Rattle.up_banks.specs.Pools.{Pooled, stored, pool_with}
use Rattle.std.proofs.lemmas.List.Sums.{sum_by-cons, sum_by-append}
use Rattle.up_pages.specs.Frames.{same_kind, count_kind}
use Rattle.up_pages.proofs.HeldCounts.{of_one_kind}
use Rattle.up_object.specs.Parts.{BankPair, bank_of}
use Rattle.up_object.specs.Change.{AllAre, AllOwn}

are_push : (bank : BankId) (frames : List Frame) (frame : Frame) → AllAre bank frames → frame.bank ≡ bank → AllAre bank (frames ++ frame ∷ [])
are_push bank [] frame are is = (is, tt)
are_push bank (x ∷ xs) frame are is = (are.0, are_push bank xs frame are.1 is)

pub are_pushed : (bank : BankId) (old new : List Frame) (frame : Frame) → new ≡ old ++ frame ∷ [] → frame.bank ≡ bank → AllAre bank old → AllAre bank new
are_pushed bank old new frame e is are = subst (AllAre bank) (sym e) (are_push bank old frame are is)

are_split : (bank : BankId) (frames : List Frame) (frame : Frame) → AllAre bank (frames ++ frame ∷ []) → AllAre bank frames × (frame.bank ≡ bank)
are_split bank [] frame are = (tt, are.0)
are_split bank (x ∷ xs) frame are = let rest = are_split bank xs frame are.1 in ((are.0, rest.0), rest.1)

pub are_popped : (bank : BankId) (old new : List Frame) (frame : Frame) → old ≡ new ++ frame ∷ [] → AllAre bank old → AllAre bank new × (frame.bank ≡ bank)
are_popped bank old new frame e are = are_split bank new frame (subst (AllAre bank) e are)

own_split : (banks : BankPair) (frames : List Frame) (frame : Frame) → AllOwn banks (frames ++ frame ∷ []) → AllOwn banks frames × (frame.bank ≡ bank_of banks frame.bank.kind)
own_split banks [] frame own = (tt, own.0)
own_split banks (x ∷ xs) frame own = let rest = own_split banks xs frame own.1 in ((own.0, rest.0), rest.1)

pub own_popped : (banks : BankPair) (old new : List Frame) (frame : Frame) → old ≡ new ++ frame ∷ [] → AllOwn banks old → AllOwn banks new × (frame.bank ≡ bank_of banks frame.bank.kind)
own_popped banks old new frame e own = own_split banks new frame (subst (AllOwn banks) e own)

-- frames of one bank are of the banks, where each bank is of its kind
pub own_of : (banks : BankPair) (kind : FrameKind) (frames : List Frame) → banks.ordinary.kind ≡ Ordinary → banks.loaned.kind ≡ Loaned → AllAre (bank_of banks kind) frames → AllOwn banks frames
own_of banks kind [] ordinary loaned are = tt
own_of banks Ordinary (x ∷ xs) ordinary loaned are = (are.0 ∙ ap (bank_of banks) (sym (ap (λ (b : BankId). b.kind) are.0 ∙ ordinary)), own_of banks Ordinary xs ordinary loaned are.1)
own_of banks Loaned (x ∷ xs) ordinary loaned are = (are.0 ∙ ap (bank_of banks) (sym (ap (λ (b : BankId). b.kind) are.0 ∙ loaned)), own_of banks Loaned xs ordinary loaned are.1)

same_as : (a b : FrameKind) → b ≡ a → same_kind a b ≡ true
same_as Ordinary b is = rw is refl
same_as Loaned b is = rw is refl

one_more : (a b c : ℕ) → a ≡ 1 → b ≡ c → a + b ≡ suc c
one_more a b c one same = omega arith

-- all of them are of that kind, and none of the other
pub all_of : (kind : FrameKind) (bank : BankId) (frames : List Frame) → bank.kind ≡ kind → AllAre bank frames → count_kind kind frames ≡ length frames
all_of kind bank [] is are = refl
all_of kind bank (x ∷ xs) is are =
    let one : same_kind kind x.bank.kind ≡ true = same_as kind x.bank.kind (ap (λ (b : BankId). b.kind) are.0 ∙ is) in
    let rest = all_of kind bank xs is are.1 in
    let sum : count_kind kind (x ∷ xs) ≡ cond (same_kind kind x.bank.kind) 1 0 + count_kind kind xs = sum_by-cons (λ (f : Frame). cond (same_kind kind f.bank.kind) 1 0) x xs in
    let here : cond (same_kind kind x.bank.kind) 1 0 ≡ 1 = ap (λ (b : Bool). cond b 1 0) one in
    sum ∙ one_more (cond (same_kind kind x.bank.kind) 1 0) (count_kind kind xs) (length xs) here rest

pub none_loaned : (bank : BankId) (frames : List Frame) → bank.kind ≡ Ordinary → AllAre bank frames → count_kind Loaned frames ≡ 0
none_loaned bank frames is are = let all = all_of Ordinary bank frames is are in let both = of_one_kind frames in omega arith

pub none_ordinary : (bank : BankId) (frames : List Frame) → bank.kind ≡ Loaned → AllAre bank frames → count_kind Ordinary frames ≡ 0
none_ordinary bank frames is are = let all = all_of Loaned bank frames is are in let both = of_one_kind frames in omega arith

pub count_popped : (kind : FrameKind) (old new : List Frame) (frame : Frame) → old ≡ new ++ frame ∷ [] → count_kind kind old ≡ count_kind kind new + count_kind kind (frame ∷ [])
count_popped kind old new frame e = ap (count_kind kind) e ∙ sum_by-append (λ (f : Frame). cond (same_kind kind f.bank.kind) 1 0) new (frame ∷ [])

pub length_popped : (old new : List Frame) (frame : Frame) → old ≡ new ++ frame ∷ [] → length old ≡ length new + 1
length_popped old new frame e = ap length e ∙ length-append new (frame ∷ [])

-- how many are at home after frames came home
pub stored_with : (kind : FrameKind) (frames : List Frame) (pool : Pooled) → (stored kind (pool_with frames pool)).home ≡ (stored kind pool).home + count_kind kind frames
stored_with Ordinary frames pool = refl
stored_with Loaned frames pool = refl
