-- Two lists of entries that are the steps of the same lines are one.
use Rattle.std.proofs.Common.{◌≡◌, ℕ, ◌-◌, ◌++◌, ◌⊎◌, Bool, true, false, cond, nat_le, Option, Some, None, List, [], ◌∷◌, refl, sym, ap, ◌∙◌, subst, inl, inr}
use Rattle.up_model.specs.declared.entry.Brought.{Brought}
use Rattle.up_model.specs.declared.entry.Call.{Call}
use Rattle.up_model.specs.declared.entry.Reply.{Reply}
use Rattle.up_evictor.specs.Levels.{age_limits}
use Rattle.up_evictor.specs.Relief.{turns}
use Rattle.up_evictor.specs.declared.levels.Level.TheVariants.{Empty}
use Rattle.up_worker.specs.Calls.{borrows}
use Rattle.up_model.specs.Bringing.{bringing}
use Rattle.up_worker.specs.Frames.{Judge, front, behind, asked_by_last}
use Rattle.up_worker.specs.Courses.{Entered, is_evict}
use Rattle.up_worker.specs.Wishes.{attempt}
use Rattle.up_worker.specs.declared.course.Aim.{Aim}
use Rattle.up_steps.specs.Asked.{without_evicts, or_supplied, wanted, Comes, Brings, AllBring}
use Rattle.up_steps.specs.Steps.{Setting, Moment, judge_at, IsFramed}
use Rattle.up_worker.proofs.BroughtFrames.{same_before, behind_same}
use Rattle.up_worker.proofs.StandingWishes.{bringing_again}
use Rattle.up_steps.proofs.CallsAndEvicts.{borrows_brought}
use Rattle.up_steps.proofs.GrowingLists.{Chain, Common, same_next}
use Rattle.up_steps.proofs.LineEntries.{same_wanted}
use Rattle.up_steps.proofs.OneRelief.{NextEvict, Evicts, AllEvicts, front_evicts, IsRelief, relief_of, same_evict, ends_relief}

-- which calls are under way after some entries, without evicts
abbrev pub Ways : Type 1
Ways = List Entered → Aim → Option ℕ → Type 0

abbrev pub OneWay : Ways → Type 0
OneWay U = (ps : List Entered) (one two : Aim) (ticket held : Option ℕ) → U ps one ticket → U ps two held → (one ≡ two) × (ticket ≡ held)

-- the call under way is made
pub record Calling (U : Ways) (j : Judge) (start c : List Entered) (x : Entered) : Type 0 where
  pub one : Aim
  pub ticket : Option ℕ
  pub under : U (without_evicts c) one ticket
  pub object : x.object ≡ one.object
  pub brought : Brought
  pub call : x.entry.call ≡ bringing brought (attempt ticket one.call)
  pub comes : Comes j start c (borrows (attempt ticket one.call)) (wanted c (attempt ticket one.call)) brought

-- frames are won for it
pub record Gathering (U : Ways) (s : Setting) (start c : List Entered) (x : Entered) : Type 0 where
  pub one : Aim
  pub ticket : Option ℕ
  pub under : U (without_evicts c) one ticket
  pub count : ℕ
  pub lends : borrows (attempt ticket one.call) ≡ false
  pub wants : wanted c (attempt ticket one.call) ≡ Some count
  pub short : nat_le count (s.home (behind c ++ start)) ≡ false
  pub next : NextEvict (count - s.home (behind c ++ start)) (turns (age_limits Empty) s.objects) (front c) x

abbrev pub Next : Ways → Setting → Moment → (List Entered → ℕ → ℕ → ℕ → Call → Reply) → List Entered → ℕ → List Entered → Entered → Type 0
Next U s m due start who c x = Common due start who m.ages c x × (Gathering U s start c x ⊎ Calling U (judge_at s m) start c x)

-- what comes is known
brought_once : (s : Setting) (m : Moment) (start c : List Entered) (lent : Bool) (w : Option ℕ) (a b : Brought) → Comes (judge_at s m) start c lent w a
    → Comes (judge_at s m) start c lent w b → a ≡ b
brought_once s m start c lent None a b one two = one.0 ∙ sym two.0
brought_once s m start c true (Some count) a b one two = one.1 ∙ sym two.1
brought_once s m start c false (Some count) a b one two = one.brings ∙ sym two.brings

abbrev count_of : ℕ → Option ℕ → ℕ
count_of n None = n
count_of n (Some k) = k

comes_relieved : (s : Setting) (m : Moment) (start c : List Entered) (lent : Bool) (w : Option ℕ) (b : Brought) (count : ℕ) → Comes (judge_at s m) start c lent w b
    → lent ≡ false → w ≡ Some count → nat_le count (s.home (behind c ++ start)) ≡ false
    → IsRelief (count - s.home (behind c ++ start)) (turns (age_limits Empty) s.objects) (front c)
comes_relieved s m start c lent w b count comes lends wants short =
    let here : Comes (judge_at s m) start c false (Some count) b =
    subst (λ l. Comes (judge_at s m) start c l (Some count) b) lends (subst (λ k. Comes (judge_at s m) start c lent k b) wants comes) in
    relief_of (count - s.home (behind c ++ start)) (turns (age_limits Empty) s.objects) (front c) (front_evicts c) (here.relieved short)

never : (U : Ways) → OneWay U → (s : Setting) (m : Moment) (start c : List Entered) (x y : Entered) → Gathering U s start c x → Calling U (judge_at s m) start c y → ⊥
never U once s m start c x y g h =
    let same = once (without_evicts c) h.one g.one h.ticket g.ticket h.under g.under in
    let call : attempt h.ticket h.one.call ≡ attempt g.ticket g.one.call = ap (λ k. attempt k h.one.call) same.1 ∙ ap (λ (o : Aim). attempt g.ticket o.call) same.0 in
    let moved = subst (λ k. Comes (judge_at s m) start c (borrows k) (wanted c k) h.brought) call h.comes in
    let relief = comes_relieved s m start c (borrows (attempt g.ticket g.one.call)) (wanted c (attempt g.ticket g.one.call)) h.brought g.count moved g.lends g.wants g.short in
    ends_relief (g.count - s.home (behind c ++ start)) (turns (age_limits Empty) s.objects) (front c) x relief.ends g.next

pub next_once : (U : Ways) → OneWay U → (s : Setting) (m : Moment) (due : List Entered → ℕ → ℕ → ℕ → Call → Reply) (start : List Entered) (who : ℕ) (c : List Entered) (x y : Entered)
    → Next U s m due start who c x → Next U s m due start who c y → x ≡ y
next_once U once s m due start who c x y (a, inl g) (b, inl h) =
    let same = once (without_evicts c) g.one h.one g.ticket h.ticket g.under h.under in
    let call : attempt g.ticket g.one.call ≡ attempt h.ticket h.one.call = ap (λ k. attempt k g.one.call) same.1 ∙ ap (λ (o : Aim). attempt h.ticket o.call) same.0 in
    let count : g.count ≡ h.count = ap (λ k. count_of g.count k) (sym g.wants ∙ (ap (λ k. wanted c k) call ∙ h.wants)) in
    let evict = same_evict (h.count - s.home (behind c ++ start)) (turns (age_limits Empty) s.objects) (front c) x y
    (subst (λ n. NextEvict (n - s.home (behind c ++ start)) (turns (age_limits Empty) s.objects) (front c) x) count g.next) h.next in
    same_next due start who m.ages c x y a b evict.0 evict.1
next_once U once s m due start who c x y (a, inr g) (b, inr h) =
    let same = once (without_evicts c) g.one h.one g.ticket h.ticket g.under h.under in
    let call : attempt g.ticket g.one.call ≡ attempt h.ticket h.one.call = ap (λ k. attempt k g.one.call) same.1 ∙ ap (λ (o : Aim). attempt h.ticket o.call) same.0 in
    let moved = subst (λ k. Comes (judge_at s m) start c (borrows k) (wanted c k) g.brought) call g.comes in
    let brings = brought_once s m start c (borrows (attempt h.ticket h.one.call)) (wanted c (attempt h.ticket h.one.call)) g.brought h.brought moved h.comes in
    same_next due start who m.ages c x y a b (g.object ∙ (ap (λ (o : Aim). o.object) same.0 ∙ sym h.object))
    (g.call ∙ (ap (λ k. bringing g.brought k) call ∙ (ap (λ k. bringing k (attempt h.ticket h.one.call)) brings ∙ sym h.call)))
next_once U once s m due start who c x y (a, inl g) (b, inr h) = absurd (never U once s m start c x y g h)
next_once U once s m due start who c x y (a, inr g) (b, inl h) = absurd (never U once s m start c y x h g)

-- evicts, and what stands before them
behind_evicts : (evs b : List Entered) → AllEvicts evs → front b ≡ [] → behind (evs ++ b) ≡ b
behind_evicts [] b all none = behind_same b none
behind_evicts (x ∷ evs) b all none = let evict = all.0 in rw evict (behind_evicts evs b all.1 none)

front_of : (evs b : List Entered) → AllEvicts evs → front b ≡ [] → front (evs ++ b) ≡ evs
front_of [] b all none = none
front_of (x ∷ evs) b all none = let evict = all.0 in rw evict (ap (λ xs. x ∷ xs) (front_of evs b all.1 none))

without_of : (evs b : List Entered) → AllEvicts evs → without_evicts (evs ++ b) ≡ without_evicts b
without_of [] b all = refl
without_of (x ∷ evs) b all = let evict = all.0 in rw evict (without_of evs b all.1)

behind_by : (test : Bool) (x : Entered) (c : List Entered) → is_evict x.entry.call ≡ test → front (behind c) ≡ [] → front (cond test (behind c) (x ∷ c)) ≡ []
behind_by true x c is rest = rest
behind_by false x c is rest = rw is refl

behind_front : (c : List Entered) → front (behind c) ≡ []
behind_front [] = refl
behind_front (x ∷ c) = behind_by (is_evict x.entry.call) x c refl (behind_front c)

parts_by : (test : Bool) (x : Entered) (c : List Entered) → c ≡ front c ++ behind c → x ∷ c ≡ cond test (x ∷ front c) [] ++ cond test (behind c) (x ∷ c)
parts_by true x c rest = ap (λ xs. x ∷ xs) rest
parts_by false x c rest = refl

parts : (c : List Entered) → c ≡ front c ++ behind c
parts [] = refl
parts (x ∷ c) = parts_by (is_evict x.entry.call) x c (parts c)

-- the evicts of a gathering
gathered : (U : Ways) (s : Setting) (m : Moment) (due : List Entered → ℕ → ℕ → ℕ → Call → Reply) (start : List Entered) (who : ℕ) (one : Aim) (ticket : Option ℕ) (count : ℕ)
    (b evs : List Entered) → front b ≡ [] → U (without_evicts b) one ticket → borrows (attempt ticket one.call) ≡ false → wanted b (attempt ticket one.call) ≡ Some count
    → nat_le count (s.home (b ++ start)) ≡ false → AllEvicts evs → Evicts (count - s.home (b ++ start)) (turns (age_limits Empty) s.objects) evs
    → Chain (Common due start who m.ages) (evs ++ b) → Chain (Next U s m due start who) b → Chain (Next U s m due start who) (evs ++ b)
gathered U s m due start who one ticket count b [] none under lends wants short all evicts common chain = chain
gathered U s m due start who one ticket count b (x ∷ evs) none under lends wants short all evicts common chain =
    let back = behind_evicts evs b all.1 none in (
      gathered U s m due start who one ticket count b evs none under lends wants short all.1 evicts.0 common.0 chain,
      (
        common.1,
        inl (record {
          one = one;
          ticket = ticket;
          under = subst (λ ps. U ps one ticket) (sym (without_of evs b all.1)) under;
          count = count;
          lends = lends;
          wants = ap (λ xs. or_supplied (asked_by_last xs) (attempt ticket one.call)) (back ∙ sym (behind_same b none)) ∙ wants;
          short = ap (λ xs. nat_le count (s.home (xs ++ start))) back ∙ short;
          next = subst (λ xs. NextEvict (count - s.home (xs ++ start)) (turns (age_limits Empty) s.objects) (front (evs ++ b)) x) (sym back)
              (subst (λ xs. NextEvict (count - s.home (b ++ start)) (turns (age_limits Empty) s.objects) xs x) (sym (front_of evs b all.1 none)) evicts.1);
        }),
      ),
    )

-- which call an entry is for
pub record IsCall (U : Ways) (c : List Entered) (x : Entered) : Type 0 where
  pub one : Aim
  pub ticket : Option ℕ
  pub under : U (without_evicts c) one ticket
  pub object : x.object ≡ one.object
  pub brought : Brought
  pub made : x.entry.call ≡ bringing brought (attempt ticket one.call)

abbrev pub AreCalls : Ways → List Entered → Type 0
AreCalls U [] = Unit {0}
AreCalls U (x ∷ c) = AreCalls U c × (is_evict x.entry.call ≡ false → IsCall U c x)

calling : (U : Ways) (s : Setting) (m : Moment) (start c : List Entered) (x : Entered) → IsCall U c x → Brings (judge_at s m) start c x.entry.call → Calling U (judge_at s m) start c x
calling U s m start c x f b =
    let call = attempt f.ticket f.one.call in
    let j = judge_at s m in
    let lends : borrows x.entry.call ≡ borrows call = ap borrows f.made ∙ borrows_brought f.brought call in
    let wants : wanted c x.entry.call ≡ wanted c call = ap (λ k. wanted c k) f.made ∙ same_wanted c (bringing f.brought call) call (same_before f.brought call) in
    record {
      one = f.one;
      ticket = f.ticket;
      under = f.under;
      object = f.object;
      brought = b.brought;
      call = b.is ∙ (ap (λ k. bringing b.brought k) f.made ∙ bringing_again b.brought f.brought call);
      comes = subst (λ l. Comes j start c l (wanted c call) b.brought) lends (subst (λ w. Comes j start c (borrows x.entry.call) w b.brought) wants b.comes);
    }

-- the block up to a call
chain_to : (test : Bool) (lent : Bool) (w : Option ℕ) (U : Ways) (s : Setting) (m : Moment) (due : List Entered → ℕ → ℕ → ℕ → Call → Reply) (start : List Entered) (who : ℕ)
    (c : List Entered) (x : Entered) (k : Calling U (judge_at s m) start c x) → borrows (attempt k.ticket k.one.call) ≡ lent → wanted c (attempt k.ticket k.one.call) ≡ w
    → Comes (judge_at s m) start c lent w k.brought → nat_le (count_of 0 w) (s.home (behind c ++ start)) ≡ test
    → Chain (Common due start who m.ages) c → Chain (Next U s m due start who) (behind c) → Chain (Next U s m due start who) c
chain_to test lent None U s m due start who c x k lends wants comes is common chain = subst (λ xs. Chain (Next U s m due start who) xs) (behind_same c comes.1) chain
chain_to test true (Some count) U s m due start who c x k lends wants comes is common chain = subst (λ xs. Chain (Next U s m due start who) xs) (behind_same c comes.0) chain
chain_to true false (Some count) U s m due start who c x k lends wants comes is common chain =
    subst (λ xs. Chain (Next U s m due start who) xs) (behind_same c (comes.enough is)) chain
chain_to false false (Some count) U s m due start who c x k lends wants comes is common chain =
    let whole = parts c in
    let evs = front_evicts c in
    let none = behind_front c in
    let relief = relief_of (count - s.home (behind c ++ start)) (turns (age_limits Empty) s.objects) (front c) evs (comes.relieved is) in
    let without : without_evicts c ≡ without_evicts (behind c) = ap without_evicts whole ∙ without_of (front c) (behind c) evs in
    subst (λ xs. Chain (Next U s m due start who) xs) (sym whole)
    (gathered U s m due start who k.one k.ticket count (behind c) (front c) none (subst (λ ps. U ps k.one k.ticket) without k.under) lends
    (ap (λ xs. or_supplied (asked_by_last xs) (attempt k.ticket k.one.call)) (behind_same (behind c) none) ∙ wants) is evs relief.evicts
    (subst (λ xs. Chain (Common due start who m.ages) xs) whole common) chain)

chain_by : (test : Bool) (U : Ways) (s : Setting) (m : Moment) (due : List Entered → ℕ → ℕ → ℕ → Call → Reply) (start : List Entered) (who : ℕ) (c : List Entered) (x : Entered)
    → is_evict x.entry.call ≡ test → (is_evict x.entry.call ≡ false → Brings (judge_at s m) start c x.entry.call) → (is_evict x.entry.call ≡ false → IsCall U c x)
    → Common due start who m.ages c x → Chain (Common due start who m.ages) c → Chain (Next U s m due start who) (behind c)
    → Chain (Next U s m due start who) (cond test (behind c) (x ∷ c))
chain_by true U s m due start who c x is brings call common before chain = chain
chain_by false U s m due start who c x is brings call common before chain =
    let k = calling U s m start c x (call is) (brings is) in (
      chain_to (nat_le (count_of 0 (wanted c (attempt k.ticket k.one.call))) (s.home (behind c ++ start))) (borrows (attempt k.ticket k.one.call)) (wanted c (attempt k.ticket k.one.call))
          U s m due start who c x k refl refl k.comes refl before chain,
      (common, inr k),
    )

chain_of : (U : Ways) (s : Setting) (m : Moment) (due : List Entered → ℕ → ℕ → ℕ → Call → Reply) (start : List Entered) (who : ℕ) (made : List Entered)
    → AllBring (judge_at s m) start made → AreCalls U made → Chain (Common due start who m.ages) made → Chain (Next U s m due start who) (behind made)
chain_of U s m due start who [] brings called common = tt
chain_of U s m due start who (x ∷ c) brings called common =
    chain_by (is_evict x.entry.call) U s m due start who c x refl brings.1 called.1 common.1 common.0 (chain_of U s m due start who c brings.0 called.0 common.0)

pub whole_chain : (U : Ways) (s : Setting) (m : Moment) (due : List Entered → ℕ → ℕ → ℕ → Call → Reply) (start : List Entered) (who : ℕ) (made : List Entered)
    → IsFramed s m start made → AreCalls U made → Chain (Common due start who m.ages) made → Chain (Next U s m due start who) made
whole_chain U s m due start who made framed called common =
    subst (λ xs. Chain (Next U s m due start who) xs) (behind_same made framed.quiet) (chain_of U s m due start who made framed.brings called common)

-- a call is under way wherever an entry follows
pub record SomeUnder (U : Ways) (c : List Entered) : Type 0 where
  pub one : Aim
  pub ticket : Option ℕ
  pub under : U (without_evicts c) one ticket

pub some_under : (U : Ways) (s : Setting) (m : Moment) (due : List Entered → ℕ → ℕ → ℕ → Call → Reply) (start : List Entered) (who : ℕ) (c : List Entered) (x : Entered)
    → Next U s m due start who c x → SomeUnder U c
some_under U s m due start who c x (a, inl g) = record { one = g.one; ticket = g.ticket; under = g.under }
some_under U s m due start who c x (a, inr g) = record { one = g.one; ticket = g.ticket; under = g.under }
