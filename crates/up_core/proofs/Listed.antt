-- Requests that were done, and one more of them.
use Rattle.std.proofs.Common.{◌≡◌, ℕ, ◌+◌, List, [], ◌∷◌, ◌++◌, refl, sym, ◌∙◌, ap, subst, arith}
use Rattle.std.proofs.lemmas.List.{append-nil, append_assoc, map-append}
use Rattle.std.proofs.lemmas.List.Sums.{sum_by_push}
use Rattle.up_bank.specs.Standing.{Held as Frame}
use Rattle.up_bank.specs.declared.kind.FrameKind.{FrameKind}
use Rattle.up_pages.specs.Frames.{count_kind}
use Rattle.up_model.specs.Reply.{reply}
use Rattle.up_model.specs.declared.entry.Reply.{Reply}
use Rattle.up_object.specs.declared.step.Stepped.{Stepped}
use Rattle.up_object.specs.Parts.{BankPair, bank_of}
use Rattle.up_object.specs.Change.{AllAre, AllOwn}
use Rattle.up_object.specs.Whole.{Whole, held}
use Rattle.up_object.specs.OneCall.{frames_of}
use Rattle.up_core.specs.declared.requests.Request.{Request}
use Rattle.up_core.specs.Requests.{Keeps, AllKeep, kind_taken, after_one, after_all, replies_to, replies_in, handed, given_back, Balances, EachBalances, AllBackOwn}
use Rattle.up_core.specs.Running.{Ran, Stopped}

pub after_append : (whole : Whole) (xs ys : List Request) → after_all whole (xs ++ ys) ≡ after_all (after_all whole xs) ys
after_append whole [] ys = refl
after_append whole (x ∷ xs) ys = after_append (after_one whole x) xs ys

pub replies_append : (whole : Whole) (xs ys : List Request) → replies_to whole (xs ++ ys) ≡ replies_to whole xs ++ replies_to (after_all whole xs) ys
replies_append whole [] ys = refl
replies_append whole (x ∷ xs) ys = ap (λ (rs : List Reply). reply whole.birth whole.journal x.who x.epoch x.call ∷ rs) (replies_append (after_one whole x) xs ys)

pub banks_stay : (whole : Whole) (xs : List Request) → (after_all whole xs).banks ≡ whole.banks
banks_stay whole [] = refl
banks_stay whole (x ∷ xs) = banks_stay (after_one whole x) xs

pub backs_append : (banks : BankPair) (xs ys : List Stepped) → AllBackOwn banks xs → AllBackOwn banks ys → AllBackOwn banks (xs ++ ys)
backs_append banks [] ys _ own = own
backs_append banks (x ∷ xs) ys owns own = (owns.0, backs_append banks xs ys owns.1 own)

pub backs_parts : (banks : BankPair) (xs : List Stepped) (y : Stepped) → AllBackOwn banks (xs ++ y ∷ []) → AllBackOwn banks xs × AllOwn banks y.back.items
backs_parts banks [] y own = (tt, own.0)
backs_parts banks (x ∷ xs) y own = let parts = backs_parts banks xs y own.1 in ((own.0, parts.0), parts.1)

-- a request was done, and answered this
pub record Does (now new : Whole) (request : Request) (stepped : Stepped) : Type 0 where
  pub stands : new ≡ after_one now request
  pub told : stepped.reply ≡ reply now.birth now.journal request.who request.epoch request.call
  pub frames : (kind : FrameKind) → count_kind kind stepped.back.items + held new.birth new.journal kind ≡ count_kind kind (frames_of request.frames) + held now.birth now.journal kind
  pub own : AllOwn now.banks stepped.back.items

each_push : (old now : Whole) (ready : List Request) (request : Request) (replies : List Stepped) (stepped : Stepped) → now ≡ after_all old ready →
    EachBalances old ready replies → replies_in replies ≡ replies_to old ready → Balances now request stepped → EachBalances old (ready ++ request ∷ []) (replies ++ stepped ∷ [])
each_push old now [] request [] stepped is each told one = (subst (λ (w : Whole). Balances w request stepped) is one, tt)
each_push old now [] request (s ∷ replies) stepped is each told one = absurd cc
each_push old now (x ∷ ready) request [] stepped is each told one = absurd each
each_push old now (x ∷ ready) request (s ∷ replies) stepped is each told one =
    let rest : replies_in replies ≡ replies_to (after_one old x) ready = cc in
    (each.0, each_push (after_one old x) now ready request replies stepped is each.1 rest one)

pub ran_none : (old : Whole) (replies : List Stepped) → replies ≡ [] → Ran old old [] replies
ran_none old replies none = record {
  stands = refl;
  told = ap replies_in none;
  frames = λ kind. ap (λ (rs : List Stepped). given_back kind rs + held old.birth old.journal kind) none;
  each = tt;
  own = subst (λ (rs : List Stepped). AllBackOwn old.banks rs) (sym none) tt;
}

told_next : (old now : Whole) (ready : List Request) (request : Request) (replies : List Stepped) (stepped : Stepped) → Ran old now ready replies →
    stepped.reply ≡ reply now.birth now.journal request.who request.epoch request.call → replies_in (replies ++ stepped ∷ []) ≡ replies_to old (ready ++ request ∷ [])
told_next old now ready request replies stepped ran told =
    map-append (λ (s : Stepped). s.reply) replies (stepped ∷ [])
    ∙ ap (λ (rs : List Reply). rs ++ stepped.reply ∷ []) ran.told
    ∙ ap (λ (r : Reply). replies_to old ready ++ r ∷ []) (told ∙ ap (λ (w : Whole). reply w.birth w.journal request.who request.epoch request.call) ran.stands)
    ∙ sym (replies_append old ready (request ∷ []))

moved : (back backs given handed held0 held1 held2 : ℕ) → back + held2 ≡ given + held1 → backs + held1 ≡ handed + held0 → (backs + back) + held2 ≡ (handed + given) + held0
moved back backs given handed held0 held1 held2 one all = omega arith

pub ran_next : (old now new : Whole) (ready : List Request) (request : Request) (replies : List Stepped) (stepped : Stepped) → Ran old now ready replies → Does now new request stepped →
    Ran old new (ready ++ request ∷ []) (replies ++ stepped ∷ [])
ran_next old now new ready request replies stepped ran does = record {
  stands = does.stands ∙ ap (λ (w : Whole). after_one w request) ran.stands ∙ sym (after_append old ready (request ∷ []));
  told = told_next old now ready request replies stepped ran does.told;
  frames = λ kind.
      ap (λ n. n + held new.birth new.journal kind) (sum_by_push (λ (s : Stepped). count_kind kind s.back.items) replies stepped)
      ∙ moved (count_kind kind stepped.back.items) (given_back kind replies) (count_kind kind (frames_of request.frames)) (handed kind ready)
      (held old.birth old.journal kind) (held now.birth now.journal kind) (held new.birth new.journal kind) (does.frames kind) (ran.frames kind)
      ∙ ap (λ n. n + held old.birth old.journal kind) (sym (sum_by_push (λ (r : Request). count_kind kind (frames_of r.frames)) ready request));
  each = each_push old now ready request replies stepped ran.stands ran.each ran.told
      (λ kind. subst (λ (w : Whole). count_kind kind stepped.back.items + held w.birth w.journal kind ≡ count_kind kind (frames_of request.frames) + held now.birth now.journal kind) does.stands (does.frames kind));
  own = backs_append old.banks replies (stepped ∷ []) ran.own (subst (λ (banks : BankPair). AllOwn banks stepped.back.items) (ap (λ (w : Whole). w.banks) ran.stands ∙ banks_stay old ready) does.own, tt);
}

-- some requests were done, and those that are left keep their conditions
pub record Going (old now : Whole) (requests left : List Request) (replies : List Stepped) : Type 0 where
  pub ready : List Request
  pub split : requests ≡ ready ++ left
  pub ran : Ran old now ready replies
  pub keeps : AllKeep now left

pub going_first : (old : Whole) (requests : List Request) (replies : List Stepped) → replies ≡ [] → AllKeep old requests → Going old old requests requests replies
going_first old requests replies none keeps = record { ready = []; split = refl; ran = ran_none old replies none; keeps = keeps }

pub first_keeps : (old now : Whole) (requests left : List Request) (replies : List Stepped) (request : Request) (rest : List Request) → Going old now requests left replies → left ≡ request ∷ rest →
    Keeps now request.who request.call request.frames
first_keeps old now requests left replies request rest going one = (subst (λ (rs : List Request). AllKeep now rs) one going.keeps).0

pub going_next : (old now new : Whole) (requests left : List Request) (replies : List Stepped) (request : Request) (rest : List Request) (stepped : Stepped) → Going old now requests left replies → left ≡ request ∷ rest →
    Does now new request stepped → Going old new requests rest (replies ++ stepped ∷ [])
going_next old now new requests left replies request rest stepped going one does = record {
  ready = going.ready ++ request ∷ [];
  split = going.split ∙ ap (λ (rs : List Request). going.ready ++ rs) one ∙ sym (append_assoc going.ready (request ∷ []) rest);
  ran = ran_next old now new going.ready request replies stepped going.ran does;
  keeps = subst (λ (w : Whole). AllKeep w rest) (sym does.stands) (subst (λ (rs : List Request). AllKeep now rs) one going.keeps).1;
}

pub going_ends : (old now : Whole) (requests left : List Request) (replies : List Stepped) → Going old now requests left replies → left ≡ [] → Ran old now requests replies
going_ends old now requests left replies going none =
    subst (λ (rs : List Request). Ran old now rs replies) (sym (going.split ∙ ap (λ (rs : List Request). going.ready ++ rs) none ∙ append-nil going.ready)) going.ran

pub going_stops : (old now new : Whole) (requests left : List Request) (replies : List Stepped) (request : Request) (rest : List Request) (back : List Frame) → Going old now requests left replies → left ≡ request ∷ rest →
    new ≡ now → back ≡ frames_of request.frames → Stopped old new requests rest replies back
going_stops old now new requests left replies request rest back going one same frames = record {
  ready = going.ready;
  met = request;
  split = going.split ∙ ap (λ (rs : List Request). going.ready ++ rs) one;
  ran = subst (λ (w : Whole). Ran old w going.ready replies) (sym same) going.ran;
  frames = frames;
  own = subst (λ (fs : List Frame). AllAre (bank_of old.banks (kind_taken request.call)) fs) (sym frames)
      (subst (λ (banks : BankPair). AllAre (bank_of banks (kind_taken request.call)) (frames_of request.frames)) (ap (λ (w : Whole). w.banks) going.ran.stands ∙ banks_stay old going.ready)
      (first_keeps old now requests left replies request rest going one).own);
}
