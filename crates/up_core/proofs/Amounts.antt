-- How many frames requests hand in, an object holds, and come back.
use Rattle.std.proofs.Common.{◌≡◌, ℕ, zero, suc, ◌+◌, ◌≤◌, Bool, true, false, cond, Some, List, [], ◌∷◌, ◌++◌, length, take, slice_get, refl, sym, ◌∙◌, ap, subst, arith}
use Rattle.std.proofs.lemmas.List.Sums.{sum_by-cons, sum_by-append, sum_by_more}
use Rattle.std.proofs.lemmas.Option.{slice_get_within, get_or_from_slice_get}
use Rattle.up_bank.specs.Standing.{Held as Frame}
use Rattle.up_bank.specs.declared.kind.FrameKind.{FrameKind}
use Rattle.up_bank.specs.declared.kind.FrameKind.TheVariants.{Ordinary, Loaned}
use Rattle.up_span.specs.Pages.{count_pages}
use Rattle.up_pages.specs.Frames.{count_kind, same_kind}
use Rattle.up_model.specs.Size.{size}
use Rattle.up_model.specs.Looks.{PageLook, Missing, Zeros, Framed, look_of}
use Rattle.up_model.specs.declared.entry.Birth.{Birth}
use Rattle.up_model.specs.declared.entry.Entry.{Entry}
use Rattle.up_object.specs.declared.step.Stepped.{Stepped}
use Rattle.up_object.specs.Whole.{Whole, held, is_framed_by}
use Rattle.up_object.specs.OneCall.{frames_of}
use Rattle.up_core.specs.declared.requests.Request.{Request}
use Rattle.up_core.specs.Requests.{handed, given_back}
use Rattle.up_core.specs.Running.{Stopped, all_handed, all_back}

abbrev one_where : Bool → ℕ
one_where test = cond test 1 0

one_kind : (kind : FrameKind) → one_where (same_kind Ordinary kind) + one_where (same_kind Loaned kind) ≡ 1
one_kind Ordinary = refl
one_kind Loaned = refl

regroup : (a b c d e : ℕ) → a + b ≡ 1 → e ≡ c + d → suc e ≡ (a + c) + (b + d)
regroup a b c d e one rest = omega arith

-- each frame is of one of the two kinds
pub all_kinds : (frames : List Frame) → length frames ≡ count_kind Ordinary frames + count_kind Loaned frames
all_kinds [] = refl
all_kinds (frame ∷ rest) =
    regroup (one_where (same_kind Ordinary frame.bank.kind)) (one_where (same_kind Loaned frame.bank.kind)) (count_kind Ordinary rest) (count_kind Loaned rest) (length rest) (one_kind frame.bank.kind) (all_kinds rest)
    ∙ ap (λ n. n + (one_where (same_kind Loaned frame.bank.kind) + count_kind Loaned rest)) (sym (sum_by-cons (λ (f : Frame). one_where (same_kind Ordinary f.bank.kind)) frame rest))
    ∙ ap (λ n. count_kind Ordinary (frame ∷ rest) + n) (sym (sum_by-cons (λ (f : Frame). one_where (same_kind Loaned f.bank.kind)) frame rest))

shuffle : (a b c d e f : ℕ) → a ≡ b + c → d ≡ e + f → a + d ≡ (b + e) + (c + f)
shuffle a b c d e f one rest = omega arith

pub all_handed_kinds : (requests : List Request) → all_handed requests ≡ handed Ordinary requests + handed Loaned requests
all_handed_kinds [] = refl
all_handed_kinds (request ∷ rest) =
    sum_by-cons (λ (r : Request). length (frames_of r.frames)) request rest
    ∙ shuffle (length (frames_of request.frames)) (count_kind Ordinary (frames_of request.frames)) (count_kind Loaned (frames_of request.frames)) (all_handed rest) (handed Ordinary rest) (handed Loaned rest)
    (all_kinds (frames_of request.frames)) (all_handed_kinds rest)
    ∙ ap (λ n. n + (count_kind Loaned (frames_of request.frames) + handed Loaned rest)) (sym (sum_by-cons (λ (r : Request). count_kind Ordinary (frames_of r.frames)) request rest))
    ∙ ap (λ n. handed Ordinary (request ∷ rest) + n) (sym (sum_by-cons (λ (r : Request). count_kind Loaned (frames_of r.frames)) request rest))

pub all_back_kinds : (replies : List Stepped) → all_back replies ≡ given_back Ordinary replies + given_back Loaned replies
all_back_kinds [] = refl
all_back_kinds (stepped ∷ rest) =
    sum_by-cons (λ (s : Stepped). length s.back.items) stepped rest
    ∙ shuffle (length stepped.back.items) (count_kind Ordinary stepped.back.items) (count_kind Loaned stepped.back.items) (all_back rest) (given_back Ordinary rest) (given_back Loaned rest)
    (all_kinds stepped.back.items) (all_back_kinds rest)
    ∙ ap (λ n. n + (count_kind Loaned stepped.back.items + given_back Loaned rest)) (sym (sum_by-cons (λ (s : Stepped). count_kind Ordinary s.back.items) stepped rest))
    ∙ ap (λ n. given_back Ordinary (stepped ∷ rest) + n) (sym (sum_by-cons (λ (s : Stepped). count_kind Loaned s.back.items) stepped rest))

-- a page has at most one frame
one_frame : (look : PageLook) → one_where (is_framed_by Ordinary look) + one_where (is_framed_by Loaned look) ≤ 1
one_frame Missing = omega arith
one_frame (Zeros state) = omega arith
one_frame (Framed state true) = omega arith
one_frame (Framed state false) = omega arith

more_where : (test : Bool) (n : ℕ) → cond test (suc n) n ≡ one_where test + n
more_where true n = omega arith
more_where false n = omega arith

one_more : (a b c d n : ℕ) → a + b ≤ 1 → c + d ≤ n → (a + c) + (b + d) ≤ suc n
one_more a b c d n one rest = omega arith

count_most : (look : ℕ → PageLook) (p n : ℕ) → count_pages (λ q. is_framed_by Ordinary (look q)) p n + count_pages (λ q. is_framed_by Loaned (look q)) p n ≤ n
count_most look p zero = omega arith
count_most look p (suc n) =
    let a = one_where (is_framed_by Ordinary (look p)) in
    let b = one_where (is_framed_by Loaned (look p)) in
    let c = count_pages (λ q. is_framed_by Ordinary (look q)) (p + 1) n in
    let d = count_pages (λ q. is_framed_by Loaned (look q)) (p + 1) n in
    let first : count_pages (λ q. is_framed_by Ordinary (look q)) p (suc n) ≡ a + c = more_where (is_framed_by Ordinary (look p)) c in
    let second : count_pages (λ q. is_framed_by Loaned (look q)) p (suc n) ≡ b + d = more_where (is_framed_by Loaned (look p)) d in
    subst (λ k. k + count_pages (λ q. is_framed_by Loaned (look q)) p (suc n) ≤ suc n) (sym first)
    (subst (λ k. (a + c) + k ≤ suc n) (sym second) (one_more a b c d n (one_frame (look p)) (count_most look (p + 1) n)))

-- an object holds at most one frame for each page
pub held_most : (birth : Birth) (h : List Entry) → held birth h Ordinary + held birth h Loaned ≤ size birth h
held_most birth h = count_most (look_of birth h) 0 (size birth h)

handed_split : (kind : FrameKind) (ready left : List Request) (met : Request) → handed kind (ready ++ met ∷ left) ≡ handed kind ready + (count_kind kind (frames_of met.frames) + handed kind left)
handed_split kind ready left met =
    sum_by-append (λ (r : Request). count_kind kind (frames_of r.frames)) ready (met ∷ left)
    ∙ ap (λ n. handed kind ready + n) (sum_by-cons (λ (r : Request). count_kind kind (frames_of r.frames)) met left)

fits : (met mo ml back bo bl ho hl ho' hl' ro rl lo ll all size : ℕ) → met ≡ mo + ml → back ≡ bo + bl → bo + ho' ≡ ro + ho → bl + hl' ≡ rl + hl → ho + hl ≤ size →
    all ≡ (ro + (mo + lo)) + (rl + (ml + ll)) → met + back ≤ all + size
fits met mo ml back bo bl ho hl ho' hl' ro rl lo ll all size one two three four five six = omega arith

-- there is room for all that comes back
pub all_fit : (old now : Whole) (requests left : List Request) (replies : List Stepped) (back : List Frame) → Stopped old now requests left replies back →
    length back + all_back replies ≤ all_handed requests + size old.birth old.journal
all_fit old now requests left replies back stopped =
    let met = frames_of stopped.met.frames in
    let handed_all : all_handed requests ≡ (handed Ordinary stopped.ready + (count_kind Ordinary met + handed Ordinary left)) + (handed Loaned stopped.ready + (count_kind Loaned met + handed Loaned left)) =
    ap all_handed stopped.split ∙ all_handed_kinds (stopped.ready ++ stopped.met ∷ left)
    ∙ ap (λ n. n + handed Loaned (stopped.ready ++ stopped.met ∷ left)) (handed_split Ordinary stopped.ready left stopped.met)
    ∙ ap (λ n. (handed Ordinary stopped.ready + (count_kind Ordinary met + handed Ordinary left)) + n) (handed_split Loaned stopped.ready left stopped.met) in
    fits (length back) (count_kind Ordinary met) (count_kind Loaned met) (all_back replies) (given_back Ordinary replies) (given_back Loaned replies)
    (held old.birth old.journal Ordinary) (held old.birth old.journal Loaned) (held now.birth now.journal Ordinary) (held now.birth now.journal Loaned)
    (handed Ordinary stopped.ready) (handed Loaned stopped.ready) (handed Ordinary left) (handed Loaned left) (all_handed requests) (size old.birth old.journal)
    (ap length stopped.frames ∙ all_kinds met) (all_back_kinds replies) (stopped.ran.frames Ordinary) (stopped.ran.frames Loaned) (held_most old.birth old.journal) handed_all

more : (total sum pages next length_one sum' : ℕ) → total ≡ sum + pages → next ≡ total + length_one → sum' ≡ sum + length_one → next ≡ sum' + pages
more total sum pages next length_one sum' one two three = omega arith

pub more_handed : (requests : List Request) (place : ℕ) (request : Request) (pages total next : ℕ) → slice_get requests place ≡ Some request → total ≡ all_handed (take place requests) + pages →
    next ≡ total + length (frames_of request.frames) → next ≡ all_handed (take (place + 1) requests) + pages
more_handed requests place request pages total next is so more_of =
    more total (all_handed (take place requests)) pages next (length (frames_of request.frames)) (all_handed (take (place + 1) requests)) so more_of
    (sum_by_more (λ (r : Request). length (frames_of r.frames)) requests place request (slice_get_within requests place request is)
    ∙ ap (λ (r : Request). all_handed (take place requests) + length (frames_of r.frames)) (get_or_from_slice_get requests place request request is))
