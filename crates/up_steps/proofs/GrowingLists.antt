-- Lists that grow entry by entry, each the only one that may come next.
use Rattle.std.proofs.Common.{◌≡◌, ℕ, ◌<◌, ◌==◌, ◌++◌, Bool, true, false, nat_lt, List, [], ◌∷◌, length, refl, sym, ap, ◌∙◌, subst, arith}
use Rattle.std.proofs.lemmas.Bool.Decides.{nat_tests}
use Rattle.up_model.specs.declared.entry.Call.{Call}
use Rattle.up_model.specs.declared.entry.Reply.{Reply}
use Rattle.up_worker.specs.Courses.{Entered}
use Rattle.up_steps.specs.Laws.{Answered}
use Rattle.up_steps.specs.Steps.{AllBy, AllAt, Stops}
use Rattle.up_steps.specs.Told.{last_parks}

abbrev pub Chain : (List Entered → Entered → Type 0) → List Entered → Type 0
Chain P [] = Unit {0}
Chain P (x ∷ c) = Chain P c × P c x

pub same_chain : (P : List Entered → Entered → Type 0) → ((c : List Entered) (x y : Entered) → P c x → P c y → x ≡ y) → (xs ys : List Entered)
    → length xs ≡ length ys → Chain P xs → Chain P ys → xs ≡ ys
same_chain P one [] [] same a b = refl
same_chain P one [] (y ∷ ys) same a b = absurd (omega arith)
same_chain P one (x ∷ xs) [] same a b = absurd (omega arith)
same_chain P one (x ∷ xs) (y ∷ ys) same a b =
    let rest = same_chain P one xs ys (omega arith) a.0 b.0 in
    let first = one xs x y a.1 (subst (λ c. P c y) (sym rest) b.1) in
    ap (λ c. x ∷ c) rest ∙ ap (λ z. z ∷ ys) first

record Further (P : List Entered → Entered → Type 0) (xs : List Entered) : Type 0 where
  before : List Entered
  next : Entered
  chain : Chain P before
  is : P before next
  long : length before ≡ length xs

further_by : (test : Bool) (P : List Entered → Entered → Type 0) (xs ys : List Entered) (y : Entered) → (length ys == length xs) ≡ test → length xs < length (y ∷ ys)
    → Chain P (y ∷ ys) → (length xs < length ys → Further P xs) → Further P xs
further_by true P xs ys y is more chain rest = record { before = ys; next = y; chain = chain.0; is = chain.1; long = grind (arith, nat_tests) }
further_by false P xs ys y differs more chain rest = rest (grind (arith, nat_tests))

further : (P : List Entered → Entered → Type 0) (xs ys : List Entered) → length xs < length ys → Chain P ys → Further P xs
further P xs [] more chain = absurd (omega arith)
further P xs (y ∷ ys) more chain = further_by (length ys == length xs) P xs ys y refl more chain (λ less. further P xs ys less chain.0)

pub decided : (P : List Entered → Entered → Type 0) (E : List Entered → Type 0) → ((c : List Entered) (x y : Entered) → P c x → P c y → x ≡ y)
    → ((c : List Entered) (y : Entered) → E c → P c y → ⊥) → (xs ys : List Entered) → Chain P xs → Chain P ys → E xs → E ys → xs ≡ ys
decided P E one ends xs ys a b end_xs end_ys = by_tests (nat_lt (length xs) (length ys)) (nat_lt (length ys) (length xs)) refl refl
  where
    by_tests : (less more : Bool) → nat_lt (length xs) (length ys) ≡ less → nat_lt (length ys) (length xs) ≡ more → xs ≡ ys
    by_tests true more is other =
        let f = further P xs ys (grind (arith, nat_tests)) b in
        let same = same_chain P one f.before xs f.long f.chain a in
        absurd (ends xs f.next end_xs (subst (λ c. P c f.next) same f.is))
    by_tests false true is other =
        let f = further P ys xs (grind (arith, nat_tests)) a in
        let same = same_chain P one f.before ys f.long f.chain b in
        absurd (ends ys f.next end_ys (subst (λ c. P c f.next) same f.is))
    by_tests false false is other = same_chain P one xs ys (grind (arith, nat_tests)) a b

-- what every entry of a block is
pub record Common (due : List Entered → ℕ → ℕ → ℕ → Call → Reply) (start : List Entered) (who epoch : ℕ) (c : List Entered) (x : Entered) : Type 0 where
  pub by : x.entry.who ≡ who
  pub at : x.entry.epoch ≡ epoch
  pub reply : x.entry.reply ≡ due (c ++ start) x.object x.entry.who x.entry.epoch x.entry.call
  pub goes : last_parks c ≡ false

pub commons : (due : List Entered → ℕ → ℕ → ℕ → Call → Reply) (start : List Entered) (who epoch : ℕ) (made : List Entered) → AllBy who made → AllAt epoch made
    → Stops made → Answered due (made ++ start) → Chain (Common due start who epoch) made
commons due start who epoch [] by at stops answered = tt
commons due start who epoch (x ∷ made) by at stops answered =
    (commons due start who epoch made by.1 at.1 stops.0 answered.0, record { by = by.0; at = at.0; reply = answered.1; goes = stops.1 })

abbrev entry_of : ℕ → ℕ → ℕ → Call → Reply → Entered
entry_of object who epoch call reply = record { object = object; entry = record { who = who; epoch = epoch; call = call; reply = reply } }

pub same_entry : (x y : Entered) → x.object ≡ y.object → x.entry.who ≡ y.entry.who → x.entry.epoch ≡ y.entry.epoch → x.entry.call ≡ y.entry.call
    → x.entry.reply ≡ y.entry.reply → x ≡ y
same_entry x y object who epoch call reply =
    ap (λ o. entry_of o x.entry.who x.entry.epoch x.entry.call x.entry.reply) object
    ∙ (ap (λ w. entry_of y.object w x.entry.epoch x.entry.call x.entry.reply) who
    ∙ (ap (λ e. entry_of y.object y.entry.who e x.entry.call x.entry.reply) epoch
    ∙ (ap (λ c. entry_of y.object y.entry.who y.entry.epoch c x.entry.reply) call
    ∙ ap (λ r. entry_of y.object y.entry.who y.entry.epoch y.entry.call r) reply)))

-- so it is known by its object and its call
pub same_next : (due : List Entered → ℕ → ℕ → ℕ → Call → Reply) (start : List Entered) (who epoch : ℕ) (c : List Entered) (x y : Entered)
    → Common due start who epoch c x → Common due start who epoch c y → x.object ≡ y.object → x.entry.call ≡ y.entry.call → x ≡ y
same_next due start who epoch c x y a b object call =
    let whose = a.by ∙ sym b.by in
    let when = a.at ∙ sym b.at in
    same_entry x y object whose when call
    (a.reply ∙ (ap (λ o. due (c ++ start) o x.entry.who x.entry.epoch x.entry.call) object
    ∙ (ap (λ w. due (c ++ start) y.object w x.entry.epoch x.entry.call) whose
    ∙ (ap (λ e. due (c ++ start) y.object y.entry.who e x.entry.call) when
    ∙ (ap (λ k. due (c ++ start) y.object y.entry.who y.entry.epoch k) call ∙ sym b.reply)))))
