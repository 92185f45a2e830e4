-- A relief makes one list of evicts alone.
use Rattle.std.proofs.Common.{◌≡◌, ℕ, ◌-◌, ◌<◌, ◌⊎◌, Bool, true, false, cond, List, [], ◌∷◌, refl, sym, ap, ◌∙◌, subst, arith, inl, inr}
use Rattle.up_model.specs.declared.entry.Call.{Call}
use Rattle.up_model.specs.declared.entry.Call.TheVariants as calls
use Rattle.up_evictor.specs.Relief.{Ask, reclaim_of, Relieves}
use Rattle.up_evictor.specs.declared.herd.Reclaim.{Reclaim}
use Rattle.up_worker.specs.Frames.{front}
use Rattle.up_worker.specs.Courses.{Entered, is_evict, OwnEvicts}
use Rattle.up_worker.specs.Thread.{reclaims_of, reclaim_at, pages_given}

-- what is wanted and who is to be asked still, after these reclaims
abbrev left_want : ℕ → List Reclaim → ℕ
left_want want [] = want
left_want want (reclaim ∷ before) = left_want want before - reclaim.given

abbrev behind_first : List Ask → List Ask
behind_first [] = []
behind_first (ask ∷ asks) = asks

abbrev left_asks : List Ask → List Reclaim → List Ask
left_asks asks [] = asks
left_asks asks (reclaim ∷ before) = behind_first (left_asks asks before)

record NextCull (want : ℕ) (asks : List Ask) (before : List Reclaim) (reclaim : Reclaim) : Type 0 where
  ask : Ask
  more : List Ask
  asks_are : left_asks asks before ≡ ask ∷ more
  some : 0 < left_want want before
  object : reclaim.object ≡ ask.object
  limit : reclaim.limit ≡ ask.limit
  most : reclaim.max ≡ left_want want before

abbrev Reclaims : ℕ → List Ask → List Reclaim → Type 0
Reclaims want asks [] = Unit {0}
Reclaims want asks (reclaim ∷ before) = Reclaims want asks before × NextCull want asks before reclaim

abbrev pub Relieved : ℕ → List Ask → List Reclaim → Type 0
Relieved want asks reclaims = (left_want want reclaims ≡ 0) ⊎ (left_asks asks reclaims ≡ [])

relieves_by : (want : ℕ) (asks : List Ask) (now : List Ask) (left : ℕ) (from to : List Reclaim) → left_asks asks from ≡ now → left_want want from ≡ left
    → Reclaims want asks from → Relieves left now from to → Reclaims want asks to × Relieved want asks to
relieves_by want asks [] left from to asks_are left_is reclaims relieves =
    (subst (λ cs. Reclaims want asks cs) (sym relieves) reclaims, inr (ap (λ cs. left_asks asks cs) relieves ∙ asks_are))
relieves_by want asks (ask ∷ now) left from to asks_are left_is reclaims (inl (none, same)) =
    (subst (λ cs. Reclaims want asks cs) (sym same) reclaims, inl (ap (λ cs. left_want want cs) same ∙ (left_is ∙ none)))
relieves_by want asks (ask ∷ now) left from to asks_are left_is reclaims (inr (some, (given, within, relieves))) =
    relieves_by want asks now (left - given) (reclaim_of ask.object ask.limit left given ∷ from) to (ap behind_first asks_are) (ap (λ n. n - given) left_is)
    (reclaims, record { ask = ask; more = now; asks_are = asks_are; some = subst (λ n. 0 < n) (sym left_is) some; object = refl; limit = refl; most = sym left_is }) relieves

-- the entry is the next evict of the relief
pub record NextEvict (want : ℕ) (asks : List Ask) (before : List Entered) (x : Entered) : Type 0 where
  pub ask : Ask
  pub more : List Ask
  pub asks_are : left_asks asks (reclaims_of before) ≡ ask ∷ more
  pub some : 0 < left_want want (reclaims_of before)
  pub object : x.object ≡ ask.object
  pub call : x.entry.call ≡ calls.Evict ask.limit (left_want want (reclaims_of before))

abbrev pub Evicts : ℕ → List Ask → List Entered → Type 0
Evicts want asks [] = Unit {0}
Evicts want asks (x ∷ before) = Evicts want asks before × NextEvict want asks before x

abbrev pub AllEvicts : List Entered → Type 0
AllEvicts [] = Unit {0}
AllEvicts (x ∷ before) = (is_evict x.entry.call ≡ true) × AllEvicts before

pub own_evict : (who : ℕ) (made : List Entered) → OwnEvicts who made → AllEvicts made
own_evict who [] own = tt
own_evict who (x ∷ made) own = (own.1, own_evict who made own.3)

front_by : (test : Bool) (x : Entered) (before : List Entered) → is_evict x.entry.call ≡ test → AllEvicts (front before) → AllEvicts (cond test (x ∷ front before) [])
front_by true x before is rest = (is, rest)
front_by false x before is rest = tt

pub front_evicts : (made : List Entered) → AllEvicts (front made)
front_evicts [] = tt
front_evicts (x ∷ before) = front_by (is_evict x.entry.call) x before refl (front_evicts before)

one_evict : (want : ℕ) (asks : List Ask) (x : Entered) (before : List Entered) (call : Call) → x.entry.call ≡ call → is_evict call ≡ true
    → (Reclaims want asks (reclaims_of before) → Evicts want asks before)
    → Reclaims want asks (reclaim_at x.object call (pages_given x.entry.reply) (reclaims_of before)) → Evicts want asks (x ∷ before)
one_evict want asks x before (calls.Evict limit most) is evict rest reclaims =
    let n = reclaims.1 in (
      rest reclaims.0,
      record {
        ask = n.ask;
        more = n.more;
        asks_are = n.asks_are;
        some = n.some;
        object = n.object;
        call = is ∙ (ap (λ l. calls.Evict l most) n.limit ∙ ap (λ k. calls.Evict n.ask.limit k) n.most);
      },
    )
one_evict want asks x before call is evict rest reclaims = absurd cc

evicts_of : (want : ℕ) (asks : List Ask) (made : List Entered) → AllEvicts made → Reclaims want asks (reclaims_of made) → Evicts want asks made
evicts_of want asks [] evicts reclaims = tt
evicts_of want asks (x ∷ before) evicts reclaims = one_evict want asks x before x.entry.call refl evicts.0 (evicts_of want asks before evicts.1) reclaims

pub record IsRelief (want : ℕ) (asks : List Ask) (made : List Entered) : Type 0 where
  pub evicts : Evicts want asks made
  pub ends : Relieved want asks (reclaims_of made)

pub relief_of : (want : ℕ) (asks : List Ask) (made : List Entered) → AllEvicts made → Relieves want asks [] (reclaims_of made) → IsRelief want asks made
relief_of want asks made evicts relieves =
    let all = relieves_by want asks asks want [] (reclaims_of made) refl refl tt relieves in
    record { evicts = evicts_of want asks made evicts all.0; ends = all.1 }

-- one alone may be next, and none where the relief ends
abbrev first_of : Ask → List Ask → Ask
first_of ask [] = ask
first_of ask (one ∷ more) = one

pub same_evict : (want : ℕ) (asks : List Ask) (before : List Entered) (x y : Entered) → NextEvict want asks before x → NextEvict want asks before y
    → (x.object ≡ y.object) × (x.entry.call ≡ y.entry.call)
same_evict want asks before x y a b =
    let same : a.ask ≡ b.ask = ap (λ xs. first_of a.ask xs) (sym a.asks_are ∙ b.asks_are) in (
      a.object ∙ (ap (λ (k : Ask). k.object) same ∙ sym b.object),
      a.call ∙ (ap (λ (k : Ask). calls.Evict k.limit (left_want want (reclaims_of before))) same ∙ sym b.call),
    )

pub ends_relief : (want : ℕ) (asks : List Ask) (before : List Entered) (x : Entered) → Relieved want asks (reclaims_of before) → NextEvict want asks before x → ⊥
ends_relief want asks before x (inl none) next = let some = next.some in omega arith
ends_relief want asks before x (inr none) next = let wrong = sym none ∙ next.asks_are in cc
