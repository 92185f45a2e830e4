-- One call through the turn: what the pass has seen, and what the call made.
use Rattle.std.proofs.Common.{◌≡◌, ℕ, ◌+◌, true, List}
use Rattle.std.proofs.Common.{[], ◌∷◌, ◌++◌, length, refl, sym, ap, ◌∙◌, subst, arith, append-nil}
use Rattle.std.specs.Prelude.{reverse, IsTrue, Result, Ok, Err, IfOk, OnOk, OnErr}
use Rattle.std.proofs.lemmas.List.{reverse-append, reverse-reverse}
use Rattle.up_bank.specs.Standing.{Held as Frame}
use Rattle.up_bank.specs.declared.kind.FrameKind.{FrameKind}
use Rattle.up_pages.specs.Frames.{count_kind}
use Rattle.up_model.specs.Reply.{proper, reply as reply_of}
use Rattle.up_model.specs.Legal.{Legal, due}
use Rattle.up_model.specs.declared.entry.Birth.{Birth}
use Rattle.up_model.specs.declared.entry.Entry.{Entry}
use Rattle.up_model.specs.declared.entry.Call.{Call}
use Rattle.up_model.specs.declared.entry.Reply.{Reply}
use Rattle.up_object.specs.declared.step.Stepped.{Stepped}
use Rattle.up_object.specs.Whole.{Whole, life_of, after, held}
use Rattle.up_claims.specs.Claimed.{claim_of}
use Rattle.up_turn.specs.Placing.{placed, has, ByThese, Begins, Tally}
use Rattle.up_turn.specs.Standing.{Standing, GoesOn, came_out}
use Rattle.up_turn.proofs.Placings.{drop_new}
use Rattle.up_site.specs.Hosted.{Hosted, with_whole}
use Rattle.up_site.specs.Due.{with_made}
use Rattle.up_live.specs.Others.{OthersSince}
use Rattle.up_live.specs.Acts.{journal_of, InBalance, Acted, Looked, IsStepBy, Made, IsIn}
use Rattle.up_live.proofs.Going.{others_since, claim_on, proper_since}

-- what was made is behind the list that was seen
behind : (who epoch : ℕ) (h made : List Entry) → IsStepBy who epoch made → reverse (made ++ h) ≡ reverse h ++ made
behind who epoch h [] by = sym (append-nil (reverse h))
behind who epoch h (e ∷ []) by = reverse-append (e ∷ []) h
behind who epoch h (e ∷ f ∷ rest) by = absurd by

theirs : (numbers : List ℕ) (who epoch : ℕ) (made : List Entry) → has numbers who ≡ true → IsStepBy who epoch
    made → ByThese numbers made
theirs numbers who epoch [] holds by = tt
theirs numbers who epoch (e ∷ []) holds by = (ap (has numbers) by.0 ∙ holds, tt)
theirs numbers who epoch (e ∷ f ∷ rest) holds by = absurd by

-- a call added at most one entry, by this actor in this epoch
pub record Adds (who epoch : ℕ) (before now : Whole) : Type 0 where
  pub made : List Entry
  pub is : now ≡ with_made before made
  pub by : IsStepBy who epoch made

-- so the turn may be left
pub goes_on : {D : Type 0} (who epoch : ℕ) (old mid : Standing) (state opening : Hosted D) (now : Whole) → IsIn who
    old mid state opening → Adds who epoch state.whole now → GoesOn mid.numbers mid.seen (reverse now.journal)
goes_on who epoch old mid state opening now i a =
    let seen : reverse now.journal ≡ reverse state.whole.journal ++ a.made = ap (λ (w : Whole). reverse w.journal)
    a.is ∙ behind who epoch state.whole.journal a.made a.by in
    subst (λ (m : Standing). GoesOn m.numbers m.seen (reverse now.journal)) (sym i.mid_is) (record {
      new = a.made;
      is = seen;
      theirs = theirs old.numbers who epoch a.made i.holds a.by;
    })

-- what a pass that came out has seen, and its own entries
record CameOut (old new : Standing) (h made : List Entry) : Type 0 where
  seen : new.seen ≡ reverse h ++ made
  own : new.own ≡ old.own ++ placed (length (reverse h)) made
  journal : journal_of new ≡ made ++ h

came : (who epoch : ℕ) (old mid new : Standing) (h made : List Entry) (now : Whole) → mid ≡ record old {
  seen =
      reverse h;
  inside = true;
} → IsStepBy who epoch made → now.journal ≡ made ++ h → new ≡ came_out mid (reverse
    now.journal) → CameOut old new h made
came who epoch old mid new h made now mid_is by is out =
    let log : reverse now.journal ≡ reverse h ++ made = ap reverse is ∙ behind who epoch h made by in
    let at : new ≡ came_out (record old { seen = reverse h; inside = true }) (reverse h ++ made) =
    out ∙ (ap (λ (m : Standing). came_out m (reverse now.journal)) mid_is
    ∙ ap (λ (l : List Entry). came_out (record old { seen = reverse h; inside = true }) l) log) in record {
      seen = ap (λ (p : Standing). p.seen) at;
      own = ap (λ (p : Standing). p.own) at ∙ ap (λ (l : List Entry). old.own ++ placed (length (reverse h)) l)
          (drop_new (reverse h) made);
      journal = ap (λ (p : Standing). reverse p.seen) out ∙ (reverse-reverse now.journal ∙ is);
    }

others_in : {D : Type 0} (who : ℕ) (old mid : Standing) (state opening : Hosted D) → IsIn who old mid state opening
    → OthersSince who (journal_of old) (reverse (reverse state.whole.journal))
others_in who old mid state opening i =
    others_since old.numbers old.own old.seen (reverse state.whole.journal) who i.holds i.was
    (subst (λ (m : Standing). Tally m.numbers m.own (reverse state.whole.journal)) i.mid_is i.tally) i.later

-- since it looked, a pass's actor has only entries of others more
pub others_now : {D : Type 0} (who : ℕ) (old mid : Standing) (state opening : Hosted D) → IsIn who old mid state
    opening → OthersSince who (journal_of old) state.whole.journal
others_now who old mid state opening i =
    subst (OthersSince who (journal_of old)) (reverse-reverse state.whole.journal) (others_in who old mid state
    opening i)

-- what an actor owes, read off what its pass has seen
pub proper_now : {D : Type 0} (who : ℕ) (old mid : Standing) (state opening : Hosted D) (call : Call) → IsIn who old
    mid state opening → IsTrue (proper opening.whole.birth (journal_of old) who call) → IsTrue (proper
    state.whole.birth state.whole.journal who call)
proper_now who old mid state opening call i p =
    let born : state.whole.birth ≡ opening.whole.birth = ap (λ o. o.birth) i.origin in
    proper_since state.whole.birth (journal_of old) state.whole.journal who call (others_now who old mid state
    opening i) i.legal (subst (λ (b : Birth). IsTrue (proper b (journal_of old) who call)) (sym born) p)

pub claim_now : {D : Type 0} (who : ℕ) (old mid : Standing) (state opening : Hosted D) → IsIn who old mid state
    opening → claim_of state.whole.journal who ≡ claim_of (journal_of old) who
claim_now who old mid state opening i = claim_on who (journal_of old) state.whole.journal (others_now who old mid
    state opening i)

-- what a call made, as the pass sees it
pub made_at : {D : Type 0} (who epoch : ℕ) (old mid new : Standing) (state opening : Hosted D) (now : Whole) (made :
    List Entry) (given back : List Frame) (tells : List Entry → List Entry → Type 0) → IsIn who old mid state
    opening → new ≡ came_out mid (reverse now.journal) → now ≡ with_made state.whole made → IsStepBy who epoch made
    → tells state.whole.journal made → Legal now.birth now.journal → ((kind : FrameKind) → count_kind kind back +
    held now.birth now.journal kind ≡ count_kind kind given + held state.whole.birth state.whole.journal kind) →
    Made state.whole.birth old new who epoch given back tells
made_at who epoch old mid new state opening now made given back tells i out is by does legal frames =
    let h : List Entry = state.whole.journal in
    let birth : Birth = state.whole.birth in
    let o : CameOut old new h made = came who epoch old mid new h made now i.mid_is by (ap (λ (w : Whole). w.journal)
    is) out in
    let again : reverse (reverse h) ≡ h = reverse-reverse h in
    let lawful : Legal birth (made ++ h) = subst (λ (w : Whole). Legal w.birth w.journal) is legal in
    let even : InBalance birth h (made ++ h) given back = subst (λ (w : Whole). (kind : FrameKind) → count_kind kind
    back + held w.birth w.journal kind ≡ count_kind kind given + held birth h kind) is frames in record {
      before = reverse h;
      made = made;
      later = i.later;
      others = others_in who old mid state opening i;
      is = o.seen;
      own = o.own;
      by = by;
      does = subst (λ (l : List Entry). tells l made) (sym again) does;
      legal = subst (Legal birth) (sym o.journal) lawful;
      frames = subst (λ (l : List Entry). InBalance birth l (journal_of new) given back) (sym again)
          (subst (λ (l : List Entry). InBalance birth h l given back) (sym o.journal) even);
    }

-- a call that made nothing
pub looked_at : {D : Type 0} (who : ℕ) (old mid new : Standing) (state opening : Hosted D) (now : Whole) → IsIn who
    old mid state opening → new ≡ came_out mid (reverse now.journal) → now ≡ state.whole → Looked
    opening.whole.birth who old new
looked_at who old mid new state opening now i out is =
    let h : List Entry = state.whole.journal in
    let o : CameOut old new h [] = came who 0 old mid new h [] now i.mid_is tt (ap (λ (w : Whole). w.journal) is)
    out in
    let seen : new.seen ≡ reverse h = o.seen ∙ append-nil (reverse h) in
    let born : state.whole.birth ≡ opening.whole.birth = ap (λ b. b.birth) i.origin in record {
      others = subst (λ (l : List Entry). OthersSince who (journal_of old) (reverse l)) (sym seen) (others_in who old
          mid state opening i);
      later = subst (Begins old.seen) (sym seen) i.later;
      own = o.own ∙ append-nil old.own;
      legal = subst (λ (b : Birth). Legal b (journal_of new)) born (subst (Legal state.whole.birth) (sym o.journal)
          i.legal);
    }

-- a call that made its one entry, with the reply that is due
abbrev OneMade : Birth → ℕ → ℕ → Call → Reply → List Entry → List Entry → Type 0
OneMade birth who epoch call reply h made =
    (made ≡ record { who = who; epoch = epoch; call = call; reply = reply } ∷ []) × (reply ≡ reply_of birth h who
    epoch call)

acted_by : (birth : Birth) (old new : Standing) (who epoch : ℕ) (call : Call) (given back : List Frame) (reply :
    Reply) → Made birth old new who epoch given back (OneMade birth who epoch call reply) → Acted birth old new who
    epoch call given back reply
acted_by birth old new who epoch call given back reply m = record {
  added = record {
    before = m.before;
    later = m.later;
    is = m.is ∙ ap (λ (l : List Entry). m.before ++ l) m.does.0;
    own = m.own ∙ ap (λ (l : List Entry). old.own ++ placed (length m.before) l) m.does.0;
  };
  due = m.does.1;
  others = m.others;
  legal = m.legal;
  frames = m.frames;
}

pub call_adds : {D A E : Type 0} (result : Result A E) (who epoch : ℕ) (call : Call) (state now : Hosted D) → OnOk
    result (now ≡ with_whole state (after state.whole who epoch call)) → OnErr result (now ≡ state) → Adds who epoch
    state.whole now.whole
call_adds (Ok a) who epoch call state now is same = record {
  made = due (life_of state.whole) who epoch call ∷ [];
  is = ap (λ h. h.whole) is;
  by = (refl, refl);
}
call_adds (Err e) who epoch call state now is same = record {
  made = [];
  is = ap (λ h. h.whole) same;
  by = tt;
}

pub call_acted : {D E : Type 0} (result : Result Stepped E) (who epoch : ℕ) (call : Call) (given : List Frame) (old
    mid new : Standing) (state now opening : Hosted D) → IsIn who old mid state opening → new ≡ came_out mid
    (reverse now.whole.journal) → IfOk result (λ s. s.reply ≡ reply_of state.whole.birth state.whole.journal who
    epoch call) → OnOk result (now ≡ with_whole state (after state.whole who epoch call)) → IfOk result (λ s. (kind :
    FrameKind) → count_kind kind s.back.items + held now.whole.birth now.whole.journal kind ≡ count_kind kind given +
    held state.whole.birth state.whole.journal kind) → Legal now.whole.birth now.whole.journal → IfOk result (λ s.
    Acted opening.whole.birth old new who epoch call given s.back.items s.reply)
call_acted (Ok s) who epoch call given old mid new state now opening i out said is frames legal =
    let born : state.whole.birth ≡ opening.whole.birth = ap (λ b. b.birth) i.origin in
    let e : Entry = record { who = who; epoch = epoch; call = call; reply = s.reply } in
    let one : due (life_of state.whole) who epoch call ∷ [] ≡ e ∷ [] = ap (λ (r : Reply). record {
      who = who;
      epoch =
          epoch;
      call = call;
      reply = r;
    } ∷ []) (sym said) in
    let whole : now.whole ≡ with_made state.whole (e ∷ []) = ap (λ h. h.whole) is ∙ ap (with_made state.whole) one in
    subst (λ (b : Birth). Acted b old new who epoch call given s.back.items s.reply) born
    (acted_by state.whole.birth old new who epoch call given s.back.items s.reply
    (made_at who epoch old mid new state opening now.whole (e ∷ []) given s.back.items (OneMade state.whole.birth who
    epoch call s.reply) i out whole (refl, refl) (refl, said) legal frames))
call_acted (Err e) who epoch call given old mid new state now opening i out said is frames legal = tt

pub call_looked : {D A E : Type 0} (result : Result A E) (who : ℕ) (old mid new : Standing) (state now opening :
    Hosted D) → IsIn who old mid state opening → new ≡ came_out mid (reverse now.whole.journal) → OnErr result
    (now.whole ≡ state.whole) → OnErr result (Looked opening.whole.birth who old new)
call_looked (Ok a) who old mid new state now opening i out same = tt
call_looked (Err e) who old mid new state now opening i out same = looked_at who old mid new state opening now.whole
    i out same

pub same_whole : {D A E : Type 0} (result : Result A E) (now state : Hosted D) → OnErr result (now ≡ state) → OnErr
    result (now.whole ≡ state.whole)
same_whole (Ok a) now state same = tt
same_whole (Err e) now state same = ap (λ h. h.whole) same

-- nothing was given
pub call_acted_bare : {D E : Type 0} (result : Result Stepped E) (who epoch : ℕ) (call : Call) (old mid new :
    Standing) (state now opening : Hosted D) → IsIn who old mid state opening → new ≡ came_out mid (reverse
    now.whole.journal) → IfOk result (λ s. s.reply ≡ reply_of state.whole.birth state.whole.journal who epoch call) →
    OnOk result (now ≡ with_whole state (after state.whole who epoch call)) → IfOk result (λ s. (kind : FrameKind) →
    count_kind kind s.back.items + held now.whole.birth now.whole.journal kind ≡ held state.whole.birth
    state.whole.journal kind) → Legal now.whole.birth now.whole.journal → IfOk result (λ s. Acted opening.whole.birth
    old new who epoch call [] s.back.items s.reply)
call_acted_bare {D} {E} (Ok s) who epoch call old mid new state now opening i out said is frames legal =
    call_acted {E = E} (Ok s) who epoch call [] old mid new state now opening i out said is (λ kind. frames kind ∙ (let z :
    held state.whole.birth state.whole.journal kind ≡ 0 + held state.whole.birth state.whole.journal kind = omega
    arith in z)) legal
call_acted_bare (Err e) who epoch call old mid new state now opening i out said is frames legal = tt
