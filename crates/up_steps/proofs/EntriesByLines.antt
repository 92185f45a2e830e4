-- The entries of an actor are told by its lines in one way alone.
use Rattle.std.proofs.Common.{◌≡◌, ℕ, zero, suc, ◌+◌, ◌≤◌, ◌++◌, ◌⊎◌, Bool, true, false, cond, Option, Some, None, List, [], ◌∷◌, length, refl, sym, ap, ◌∙◌, subst, arith, inl, inr, slice_get, append_assoc, length-append}
use Rattle.up_script.specs.declared.script.Kind.{Kind}
use Rattle.up_model.specs.declared.entry.Brought.{Brought}
use Rattle.up_worker.specs.Calls.{calls_of, is_access}
use Rattle.up_model.specs.Bringing.{bringing}
use Rattle.up_worker.specs.Courses.{Entered}
use Rattle.up_worker.specs.Wishes.{settles, is_refused, attempt}
use Rattle.up_worker.specs.declared.course.Aim.{Aim}
use Rattle.up_worker.specs.declared.course.Doing.{Doing}
use Rattle.up_worker.proofs.CourseTold.{or_some}
use Rattle.up_steps.specs.Asked.{settled_in, ticket_in, refused_in, IsNext, AreNext, IsDone}
use Rattle.up_steps.specs.Told.{Told, ToldInPart}

-- lists
abbrev tail_of : {X : Type 0} → List X → List X
tail_of [] = []
tail_of (x ∷ xs) = xs

abbrev head_of : {X : Type 0} → X → List X → X
head_of d [] = d
head_of d (x ∷ xs) = x

-- what stands behind can be taken away
pub cancel : {X : Type 0} (xs ys zs : List X) → xs ++ zs ≡ ys ++ zs → xs ≡ ys
cancel [] [] zs is = refl
cancel [] (y ∷ ys) zs is = absurd (let long = ap length is in let more = length-append ys zs in omega arith)
cancel (x ∷ xs) [] zs is = absurd (let long = ap length is in let more = length-append xs zs in omega arith)
cancel (x ∷ xs) (y ∷ ys) zs is =
    let rest = cancel xs ys zs (ap tail_of is) in
    let first : x ≡ y = ap (λ l. head_of x l) is in
    ap (λ l. x ∷ l) rest ∙ ap (λ z. z ∷ ys) first

-- of two ends of one list one is the end of the other
record Longer {X : Type 0} (short long : List X) : Type 0 where
  first : X
  more : List X
  is : long ≡ first ∷ (more ++ short)

align : {X : Type 0} (p q n m : List X) → p ++ n ≡ q ++ m → (n ≡ m) ⊎ (Longer n m ⊎ Longer m n)
align [] [] n m is = inl is
align [] (z ∷ q) n m is = inr (inr (record { first = z; more = q; is = is }))
align (z ∷ p) [] n m is = inr (inl (record { first = z; more = p; is = sym is }))
align (x ∷ p) (y ∷ q) n m is = align p q n m (ap tail_of is)

-- where an entry stands in one of two parts
record InFirst (now old : List Entered) (a : List Entered) (x : Entered) (t : List Entered) : Type 0 where
  before : List Entered
  is : now ≡ a ++ x ∷ before
  rest : t ≡ before ++ old

record InSecond (old : List Entered) (x : Entered) (t : List Entered) : Type 0 where
  more : List Entered
  is : old ≡ more ++ x ∷ t

split : (now old a : List Entered) (x : Entered) (t : List Entered) → now ++ old ≡ a ++ x ∷ t → InFirst now old a x t ⊎ InSecond old x t
split [] old a x t is = inr (record { more = a; is = is })
split (z ∷ now) old [] x t is =
    let first : z ≡ x = ap (λ l. head_of z l) is in
    inl (record { before = now; is = ap (λ y. y ∷ now) first; rest = sym (ap tail_of is) })
split (z ∷ now) old (y ∷ a) x t is =
    let first : z ≡ y = ap (λ l. head_of z l) is in
    by_rest first (split now old a x t (ap tail_of is))
  where
    by_rest : z ≡ y → InFirst now old a x t ⊎ InSecond old x t → InFirst (z ∷ now) old (y ∷ a) x t ⊎ InSecond old x t
    by_rest first (inl f) = inl (record { before = f.before; is = ap (λ k. k ∷ now) first ∙ ap (λ l. y ∷ l) f.is; rest = f.rest })
    by_rest first (inr s) = inr s

-- a line that is done stays done
more_settled : (s : Bool) (n k : ℕ) → k ≤ n → k ≤ cond s (n + 1) n
more_settled true n k le = omega arith
more_settled false n k le = le

settled_grows : (more xs : List Entered) → settled_in xs ≤ settled_in (more ++ xs)
settled_grows [] xs = omega arith
settled_grows (x ∷ more) xs = more_settled (settles x.entry.reply) (settled_in (more ++ xs)) (settled_in xs) (settled_grows more xs)

refused_stays : (more xs : List Entered) → refused_in xs ≡ true → refused_in (more ++ xs) ≡ true
refused_stays [] xs is = is
refused_stays (x ∷ more) xs is = or_some (is_refused x.entry.reply) (refused_in (more ++ xs)) (refused_stays more xs is)

none_later : (line : List Aim) (n k : ℕ) → slice_get line n ≡ None → n ≤ k → slice_get line k ≡ None
none_later [] n k none le = refl
none_later (aim ∷ line) zero k none le = absurd cc
none_later (aim ∷ line) (suc n) zero none le = absurd (omega arith)
none_later (aim ∷ line) (suc n) (suc k) none le = none_later line n k none (omega arith)

done_stays : (line : List Aim) (access : Bool) (more xs : List Entered) → IsDone line access xs → IsDone line access (more ++ xs)
done_stays line access more xs (inl none) = inl (none_later line (settled_in xs) (settled_in (more ++ xs)) none (settled_grows more xs))
done_stays line access more xs (inr stopped) = inr (stopped.0, refused_stays more xs stopped.1)

pub done_none : (line : List Aim) (access : Bool) (xs : List Entered) (one : Aim) → IsDone line access xs → slice_get line (settled_in xs) ≡ Some one
    → (access ≡ true → refused_in xs ≡ false) → ⊥
done_none line access xs one (inl none) here free = let wrong = sym none ∙ here in cc
done_none line access xs one (inr stopped) here free = let wrong = free stopped.0 in let other = stopped.1 in cc

-- what is told by the same lines is as long
same_lines : (line : List Aim) (access : Bool) (n m : List Entered) → IsDone line access n → IsDone line access m → AreNext line access n → AreNext line access m
    → ((n ≡ m) ⊎ (Longer n m ⊎ Longer m n)) → n ≡ m
same_lines line access n m done other next more (inl same) = same
same_lines line access n m done other next more (inr (inl l)) =
    let all = subst (λ xs. AreNext line access xs) l.is more in
    absurd (done_none line access (l.more ++ n) all.1.aim (done_stays line access l.more n done) all.1.is all.1.free)
same_lines line access n m done other next more (inr (inr l)) =
    let all = subst (λ xs. AreNext line access xs) l.is next in
    absurd (done_none line access (l.more ++ m) all.1.aim (done_stays line access l.more m other) all.1.is all.1.free)

pub told_once : (kind : Kind) (objects : List ℕ) (lines : List Doing) (p q old other : List Entered) → Told kind objects lines old → Told kind objects lines other
    → p ++ old ≡ q ++ other → old ≡ other
told_once kind objects [] p q old other one two is = one ∙ sym two
told_once kind objects (doing ∷ earlier) p q old other one two is =
    let whole : (p ++ one.0) ++ one.1 ≡ (q ++ two.0) ++ two.1 =
    append_assoc p one.0 one.1 ∙ (ap (λ xs. p ++ xs) (sym one.2) ∙ (is ∙ (ap (λ xs. q ++ xs) two.2 ∙ sym (append_assoc q two.0 two.1)))) in
    let rest = told_once kind objects earlier (p ++ one.0) (q ++ two.0) one.1 two.1 one.5 two.5 whole in
    let fronts = cancel (p ++ one.0) (q ++ two.0) two.1 (ap (λ xs. (p ++ one.0) ++ xs) (sym rest) ∙ whole) in
    let now = same_lines (calls_of kind objects doing) (is_access doing) one.0 two.0 one.4 two.4 one.3 two.3 (align p q one.0 two.0 fronts) in
    one.2 ∙ (ap (λ xs. xs ++ one.1) now ∙ (ap (λ xs. two.0 ++ xs) rest ∙ sym two.2))

-- the call under way after these entries of an actor
pub record Under (kind : Kind) (objects : List ℕ) (given : List Doing) (t : List Entered) (one : Aim) (ticket : Option ℕ) : Type 0 where
  pub later : List Doing
  pub doing : Doing
  pub earlier : List Doing
  pub now : List Entered
  pub old : List Entered
  pub lines : given ≡ later ++ doing ∷ earlier
  pub is : t ≡ now ++ old
  pub told : Told kind objects earlier old
  pub here : slice_get (calls_of kind objects doing) (settled_in now) ≡ Some one
  pub held : ticket ≡ ticket_in now
  pub free : is_access doing ≡ true → refused_in now ≡ false

-- the part that earlier lines tell
record Earlier (kind : Kind) (objects : List ℕ) (doing : Doing) (earlier : List Doing) (t : List Entered) : Type 0 where
  more : List Entered
  now : List Entered
  old : List Entered
  is : t ≡ more ++ (now ++ old)
  done : IsDone (calls_of kind objects doing) (is_access doing) now
  told : Told kind objects earlier old

earlier_of : (kind : Kind) (objects : List ℕ) (more : List Doing) (doing : Doing) (earlier : List Doing) (t : List Entered)
    → Told kind objects (more ++ doing ∷ earlier) t → Earlier kind objects doing earlier t
earlier_of kind objects [] doing earlier t told = record { more = []; now = told.0; old = told.1; is = told.2; done = told.4; told = told.5 }
earlier_of kind objects (line ∷ more) doing earlier t told =
    let e = earlier_of kind objects more doing earlier told.1 told.5 in
    record {
      more = told.0 ++ e.more;
      now = e.now;
      old = e.old;
      is = told.2 ∙ (ap (λ xs. told.0 ++ xs) e.is ∙ sym (append_assoc told.0 e.more (e.now ++ e.old)));
      done = e.done;
      told = e.told;
    }

-- no call of a line is under way that is done
under_none : (kind : Kind) (objects : List ℕ) (given : List Doing) (t p rest : List Entered) (one : Aim) (ticket : Option ℕ) (u : Under kind objects given t one ticket)
    → t ≡ p ++ rest → Earlier kind objects u.doing u.earlier rest → ⊥
under_none kind objects given t p rest one ticket u is e =
    let whole : u.now ++ u.old ≡ ((p ++ e.more) ++ e.now) ++ e.old =
    sym u.is ∙ (is ∙ (ap (λ xs. p ++ xs) e.is ∙ (sym (append_assoc p e.more (e.now ++ e.old)) ∙ sym (append_assoc (p ++ e.more) e.now e.old)))) in
    let same = told_once kind objects u.earlier u.now ((p ++ e.more) ++ e.now) u.old e.old u.told e.told whole in
    let fronts : u.now ≡ (p ++ e.more) ++ e.now = cancel u.now ((p ++ e.more) ++ e.now) e.old (ap (λ xs. u.now ++ xs) (sym same) ∙ whole) in
    let line = calls_of kind objects u.doing in
    let done = subst (λ xs. IsDone line (is_access u.doing) xs) (sym fronts) (done_stays line (is_access u.doing) (p ++ e.more) e.now e.done) in
    done_none line (is_access u.doing) u.now one done u.here u.free

pub told_under_none : (kind : Kind) (objects : List ℕ) (given : List Doing) (t : List Entered) (one : Aim) (ticket : Option ℕ) → Told kind objects given t
    → Under kind objects given t one ticket → ⊥
told_under_none kind objects given t one ticket told u =
    under_none kind objects given t [] t one ticket u refl
    (earlier_of kind objects u.later u.doing u.earlier t (subst (λ ds. Told kind objects ds t) u.lines told))

-- lines in order
same_lists : (later other : List Doing) (d e : Doing) (ds es : List Doing) → later ++ d ∷ ds ≡ other ++ e ∷ es
    → ((d ≡ e) × (ds ≡ es)) ⊎ (((more : List Doing) × (es ≡ more ++ d ∷ ds)) ⊎ ((more : List Doing) × (ds ≡ more ++ e ∷ es)))
same_lists [] [] d e ds es is = inl (ap (λ l. head_of d l) is, ap tail_of is)
same_lists [] (z ∷ other) d e ds es is = inr (inr (other, ap tail_of is))
same_lists (z ∷ later) [] d e ds es is = inr (inl (later, sym (ap tail_of is)))
same_lists (z ∷ later) (y ∷ other) d e ds es is = same_lists later other d e ds es (ap tail_of is)

abbrev some_of : Aim → Option Aim → Aim
some_of one None = one
some_of one (Some other) = other

-- one call alone is under way
pub under_once : (kind : Kind) (objects : List ℕ) (given : List Doing) (t : List Entered) (one two : Aim) (ticket held : Option ℕ) → Under kind objects given t one ticket
    → Under kind objects given t two held → (one ≡ two) × (ticket ≡ held)
under_once kind objects given t one two ticket held u v = by_lines (same_lists u.later v.later u.doing v.doing u.earlier v.earlier (sym u.lines ∙ v.lines))
  where
    by_lines : ((u.doing ≡ v.doing) × (u.earlier ≡ v.earlier)) ⊎ (((more : List Doing) × (v.earlier ≡ more ++ u.doing ∷ u.earlier)) ⊎ ((more : List Doing) × (u.earlier ≡ more ++ v.doing ∷ v.earlier)))
        → (one ≡ two) × (ticket ≡ held)
    by_lines (inl (same, before)) =
        let whole = sym u.is ∙ v.is in
        let olds = told_once kind objects u.earlier u.now v.now u.old v.old u.told (subst (λ ds. Told kind objects ds v.old) (sym before) v.told) whole in
        let nows = cancel u.now v.now v.old (ap (λ xs. u.now ++ xs) (sym olds) ∙ whole) in
        let found : Some one ≡ Some two = sym u.here ∙ (ap (λ xs. slice_get (calls_of kind objects u.doing) (settled_in xs)) nows
        ∙ (ap (λ d. slice_get (calls_of kind objects d) (settled_in v.now)) same ∙ v.here)) in
        (ap (λ o. some_of one o) found, u.held ∙ (ap ticket_in nows ∙ sym v.held))
    by_lines (inr (inl (more, is))) =
        absurd (under_none kind objects given t v.now v.old one ticket u v.is
        (earlier_of kind objects more u.doing u.earlier v.old (subst (λ ds. Told kind objects ds v.old) is v.told)))
    by_lines (inr (inr (more, is))) =
        absurd (under_none kind objects given t u.now u.old two held v u.is
        (earlier_of kind objects more v.doing v.earlier u.old (subst (λ ds. Told kind objects ds u.old) is u.told)))

-- an entry among them is for the call that was under way
pub record For (kind : Kind) (objects : List ℕ) (given : List Doing) (t : List Entered) (x : Entered) : Type 0 where
  pub one : Aim
  pub ticket : Option ℕ
  pub under : Under kind objects given t one ticket
  pub object : x.object ≡ one.object
  pub brought : Brought
  pub made : x.entry.call ≡ bringing brought (attempt ticket one.call)

next_at : (line : List Aim) (access : Bool) (a : List Entered) (x : Entered) (before : List Entered) → AreNext line access (a ++ x ∷ before) → IsNext line access before x
next_at line access [] x before next = next.1
next_at line access (y ∷ a) x before next = next_at line access a x before next.0

for_line : (kind : Kind) (objects : List ℕ) (given later : List Doing) (doing : Doing) (earlier : List Doing) (before old t : List Entered) (x : Entered)
    → given ≡ later ++ doing ∷ earlier → t ≡ before ++ old → Told kind objects earlier old → IsNext (calls_of kind objects doing) (is_access doing) before x
    → For kind objects given t x
for_line kind objects given later doing earlier before old t x lines is told next = record {
  one = next.aim;
  ticket = ticket_in before;
  under = record { later = later; doing = doing; earlier = earlier; now = before; old = old; lines = lines; is = is; told = told; here = next.is; held = refl; free = next.free };
  object = next.on;
  brought = next.brought;
  made = next.made;
}

place_for : (kind : Kind) (objects : List ℕ) (given later : List Doing) (doing : Doing) (earlier : List Doing) (now old a : List Entered) (x : Entered) (t : List Entered)
    → given ≡ later ++ doing ∷ earlier → Told kind objects earlier old → AreNext (calls_of kind objects doing) (is_access doing) now
    → InFirst now old a x t ⊎ InSecond old x t → (InSecond old x t → For kind objects given t x) → For kind objects given t x
place_for kind objects given later doing earlier now old a x t is told next (inl f) behind =
    for_line kind objects given later doing earlier f.before old t x is f.rest told
    (next_at (calls_of kind objects doing) (is_access doing) a x f.before (subst (λ xs. AreNext (calls_of kind objects doing) (is_access doing) xs) f.is next))
place_for kind objects given later doing earlier now old a x t is told next (inr s) behind = behind s

told_for : (kind : Kind) (objects : List ℕ) (given later lines : List Doing) (a : List Entered) (x : Entered) (t : List Entered) → given ≡ later ++ lines
    → Told kind objects lines (a ++ x ∷ t) → For kind objects given t x
told_for kind objects given later [] a x t is told = absurd (let long = ap length told in let more = length-append a (x ∷ t) in omega arith)
told_for kind objects given later (doing ∷ earlier) a x t is told =
    place_for kind objects given later doing earlier told.0 told.1 a x t is told.5 told.3 (split told.0 told.1 a x t (sym told.2))
    (λ s. told_for kind objects given (later ++ doing ∷ []) earlier s.more x t (is ∙ sym (append_assoc later (doing ∷ []) earlier))
    (subst (λ xs. Told kind objects earlier xs) s.is told.5))

pub told_for_all : (kind : Kind) (objects : List ℕ) (given : List Doing) (a : List Entered) (x : Entered) (t : List Entered) → Told kind objects given (a ++ x ∷ t)
    → For kind objects given t x
told_for_all kind objects given a x t told = told_for kind objects given [] given a x t refl told

pub part_for : (kind : Kind) (objects : List ℕ) (given : List Doing) (a : List Entered) (x : Entered) (t : List Entered) → ToldInPart kind objects given (a ++ x ∷ t)
    → For kind objects given t x
part_for kind objects given a x t part =
    place_for kind objects given part.later part.doing part.earlier part.now part.old a x t part.lines part.before part.next (split part.now part.old a x t (sym part.is))
    (λ s. told_for kind objects given (part.later ++ part.doing ∷ []) part.earlier s.more x t (part.lines ∙ sym (append_assoc part.later (part.doing ∷ []) part.earlier))
    (subst (λ xs. Told kind objects part.earlier xs) s.is part.before))
