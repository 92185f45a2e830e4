-- What the recursions of the definitions mean.
use Rattle.std.proofs.Common.{◌≡◌, ℕ, ◌<◌, ◌+◌, ◌&&◌, Bool, true, false, cond, Option, Some, None, List, [], ◌∷◌, length, zero, suc, nat_le, nat_lt, refl, ap, sym, ◌∙◌, subst, ⊎_elim, arith}
use Rattle.std.proofs.lemmas.Bool.{cases_lt}
use Rattle.std.proofs.lemmas.Bool.Decides.{nat_tests}
use Rattle.up_num.specs.Span.{Span, covers}
use Rattle.up_num.specs.declared.answers.AskKind.TheVariants.{Dirty as DirtyAsk}
use Rattle.up_num.specs.declared.answers.Outcome.TheVariants.{Freed, Waiting}
use Rattle.up_model.specs.Attempts.{page_of, accepts, is_blocked, blocks, attempt}
use Rattle.up_model.specs.Size.{size, resized}
use Rattle.up_model.specs.Deeds.{writes, blanks, written}
use Rattle.up_model.specs.Value.{or_else}
use Rattle.up_model.specs.States.{plain, unclean, closing, empties}
use Rattle.up_model.specs.Asks.{resolved, is_waiting}
use Rattle.up_model.specs.Pages.{list_pages}
use Rattle.up_model.specs.Tickets.{next_ticket, owner, waits, outcome, wakes, woken_from, woken}
use Rattle.up_model.specs.Newest.{newest, byte_or}
use Rattle.up_model.specs.Legal.{Legal}
use Rattle.up_model.specs.Positions.{first_of, said_at, passes_at, how_many}
use Rattle.up_model.specs.Lasts.{last_said, SaysLast}
use Rattle.up_model.specs.Survival.{gives_byte, byte_given}
use Rattle.up_model.specs.Ordering.{lists, Rising}
use Rattle.up_model.specs.Meanings.{asked_size, sets_size}
use Rattle.up_model.specs.declared.entry.Birth.{Birth}
use Rattle.up_model.specs.declared.entry.Entry.{Entry}
use Rattle.up_model.specs.declared.entry.Call.{Call}
use Rattle.up_model.specs.declared.entry.Call.TheVariants.{Resize, End}
use Rattle.up_model.specs.declared.entry.Reply.{Reply}
use Rattle.up_model.specs.declared.entry.Reply.TheVariants.{Blocked}
use Rattle.up_model.proofs.Bools.{and_false}
use Rattle.up_model.proofs.NewTickets.{blocked_entry}
use Rattle.up_model.proofs.HeldTickets.{owner_below}
use Rattle.up_model.proofs.Fates.{waits_unowned}
use Rattle.up_model.proofs.LastSaid.{last_said_is_last}
use Rattle.up_model.proofs.Ordered.{listed, listed_rises}
use Rattle.up_model.proofs.Placing.{first_all, first_before, passes_own, passes_before, passes_below}

-- the size
size_step : (call : Call) (reply : Reply) (n : ℕ) → resized call reply n ≡ byte_or n (cond (accepts reply) (asked_size call) None)
size_step (Resize pages) reply n = elim (accepts reply) as (λ b. cond b pages n ≡ byte_or n (cond b (Some pages) None)) [
  | true ↦ refl
  | false ↦ refl
]
size_step _ reply n = elim (accepts reply) as (λ b. n ≡ byte_or n (cond b None None)) [
  | true ↦ refl
  | false ↦ refl
]

or_last : (n : ℕ) (own earlier : Option ℕ) → byte_or (byte_or n earlier) own ≡ byte_or n (or_else own earlier)
or_last n None earlier = refl
or_last n (Some what) earlier = refl

size_last : (birth : Birth) (h : List Entry) → size birth h ≡ byte_or birth.pages (last_said sets_size h)
size_last birth [] = refl
size_last birth (e ∷ before) =
    size_step e.call e.reply (size birth before)
    ∙ ap (λ (n : ℕ). byte_or n (sets_size before e)) (size_last birth before) ∙ or_last birth.pages (sets_size before e) (last_said sets_size before)

pub size_is_last : (birth : Birth) (h : List Entry) →
    ((pages k : ℕ) → SaysLast sets_size h pages k → size birth h ≡ pages)
    × (((k : ℕ) → said_at None sets_size h k ≡ None) → size birth h ≡ birth.pages)
size_is_last birth h = (
  (λ pages k last. size_last birth h ∙ ap (byte_or birth.pages) (((last_said_is_last sets_size h).0 pages).1 (k, last))),
  (λ none. size_last birth h ∙ ap (byte_or birth.pages) ((last_said_is_last sets_size h).1.1 none)),
)

-- the newest byte
newest_step : (write blank : Bool) (new : Option ℕ) (old : ℕ) →
    cond write (byte_or old new) (cond blank 0 old) ≡ byte_or old (cond write new (cond blank (Some 0) None))
newest_step true blank new old = refl
newest_step false true new old = refl
newest_step false false new old = refl

newest_last : (image : ℕ → ℕ) (birth : Birth) (h : List Entry) (x : ℕ) → newest image birth h x ≡ byte_or (image x) (byte_given birth h x)
newest_last image birth [] x = refl
newest_last image birth (e ∷ before) x =
    newest_step (writes before e (page_of x)) (blanks birth before e (page_of x)) (written (attempt before e) x) (newest image birth before x)
    ∙ ap (λ (n : ℕ). byte_or n (gives_byte birth x before e)) (newest_last image birth before x) ∙ or_last (image x) (gives_byte birth x before e) (byte_given birth before x)

pub newest_is_last : (image : ℕ → ℕ) (birth : Birth) (h : List Entry) (x : ℕ) →
    ((byte k : ℕ) → SaysLast (gives_byte birth x) h byte k → newest image birth h x ≡ byte)
    × (((k : ℕ) → said_at None (gives_byte birth x) h k ≡ None) → newest image birth h x ≡ image x)
newest_is_last image birth h x = (
  (λ byte k last. newest_last image birth h x ∙ ap (byte_or (image x)) (((last_said_is_last (gives_byte birth x) h).0 byte).1 (k, last))),
  (λ none. newest_last image birth h x ∙ ap (byte_or (image x)) ((last_said_is_last (gives_byte birth x) h).1.1 none)),
)

-- tickets
next_counted : (h : List Entry) → next_ticket h ≡ how_many (λ e. is_blocked e.reply) h
next_counted [] = refl
next_counted (e ∷ before) = elim (is_blocked e.reply) as (λ b. cond b (suc (next_ticket before)) (next_ticket before)
    ≡ cond b (suc (how_many (λ x. is_blocked x.reply) before)) (how_many (λ x. is_blocked x.reply) before)) [
      | true ↦ ap suc (next_counted before)
      | false ↦ next_counted before
    ]

block_is : (r : Reply) (t next : ℕ) → ((n : ℕ) → r ≡ Blocked n → n ≡ next) → blocks r t ≡ true → t ≡ next
block_is (Blocked ticket) t next is here = let same : ticket ≡ t = grind (arith, nat_tests) in sym same ∙ is ticket refl
block_is _ t next is here = absurd cc

own_counted : (birth : Birth) (e : Entry) (before : List Entry) → Legal birth (e ∷ before) → (t : ℕ) → blocks e.reply t ≡ true → t ≡ how_many (λ x. is_blocked x.reply) before
own_counted birth e before legal t here = block_is e.reply t (next_ticket before) (blocked_entry birth e before legal) here ∙ next_counted before

pub tickets_counted : (birth : Birth) (h : List Entry) → Legal birth h → (t k : ℕ) → passes_at (λ before e. blocks e.reply t) h k ≡ true →
    t ≡ how_many (λ e. is_blocked e.reply) (first_of h k)
tickets_counted birth [] legal t k is = let wrong : false ≡ true = is in absurd cc
tickets_counted birth (e ∷ before) legal t k is =
    let test : List Entry → Entry → Bool = λ earlier x. blocks x.reply t in ⊎_elim
    (λ early. tickets_counted birth before legal.0 t k (sym (passes_before test e before k early) ∙ is)
    ∙ ap (how_many (λ x. is_blocked x.reply)) (sym (first_before e before k (omega arith))))
    (λ late.
    let high : k < suc (length before) = passes_below test (e ∷ before) k is in
    let same : length before ≡ k = omega arith in
    let here : passes_at test (e ∷ before) (length before) ≡ true = subst (λ (n : ℕ). passes_at test (e ∷ before) n ≡ true) (sym same) is in
    let all : first_of (e ∷ before) k ≡ before = first_before e before k (omega arith) ∙ first_all before k late in
    own_counted birth e before legal t (sym (passes_own test e before) ∙ here) ∙ ap (how_many (λ x. is_blocked x.reply)) (sym all))
    (cases_lt k (length before))

-- the woken list
woken_is : (birth : Birth) (h : List Entry) (call : Call) (t n : ℕ) → woken_from birth h call t n ≡ list_pages (wakes birth h call) t n
woken_is birth h call t zero = refl
woken_is birth h call t (suc n) = ap (λ (l : List ℕ). cond (wakes birth h call t) (t ∷ l) l) (woken_is birth h call (t + 1) n)

wakes_none : (birth : Birth) (h : List Entry) (call : Call) (t : ℕ) → waits birth h t ≡ None → wakes birth h call t ≡ false
wakes_none birth h call t none = rw none (and_false (is_waiting (outcome birth h t)))

woken_below : (birth : Birth) (h : List Entry) → Legal birth h → (call : Call) (t : ℕ) →
    ((nat_le 0 t && nat_lt t (0 + next_ticket h)) && wakes birth h call t) ≡ wakes birth h call t
woken_below birth h legal call t =
    elim (owner h t) as (λ o. owner h t ≡ o → ((nat_le 0 t && nat_lt t (0 + next_ticket h)) && wakes birth h call t) ≡ wakes birth h call t) [
      | Some who ↦ λ q.
          let low : t < next_ticket h = owner_below birth h legal t who q in
          let inside : (nat_le 0 t && nat_lt t (0 + next_ticket h)) ≡ true = grind (arith, nat_tests) in rw inside refl
      | None ↦ λ q. let never = wakes_none birth h call t (waits_unowned birth h t q) in
          ap (λ (b : Bool). (nat_le 0 t && nat_lt t (0 + next_ticket h)) && b) never ∙ and_false (nat_le 0 t && nat_lt t (0 + next_ticket h)) ∙ sym never
    ] refl

pub woken_complete : (birth : Birth) (h : List Entry) → Legal birth h → (call : Call) (t : ℕ) → lists (woken birth h call) t ≡ wakes birth h call t
woken_complete birth h legal call t =
    ap (λ (l : List ℕ). lists l t) (woken_is birth h call 0 (next_ticket h)) ∙ listed (wakes birth h call) 0 (next_ticket h) t ∙ woken_below birth h legal call t

pub woken_rises : (birth : Birth) (h : List Entry) (call : Call) → Rising nat_lt (woken birth h call)
woken_rises birth h call = subst (Rising nat_lt) (sym (woken_is birth h call 0 (next_ticket h))) (listed_rises (wakes birth h call) 0 (next_ticket h))

-- an end that empties
frees_both : (accepted covered plain await : Bool) →
    cond accepted (cond (covered && (plain && await)) Freed Waiting) Waiting ≡ cond ((covered && accepted) && (plain && await)) Freed Waiting
frees_both true true plain await = refl
frees_both true false plain await = refl
frees_both false true plain await = refl
frees_both false false plain await = refl

pub emptying_frees : (birth : Birth) (e : Entry) (before : List Entry) (range : Span) (of : Option ℕ) → e.call ≡ End range of → (p : ℕ) →
    resolved birth before e DirtyAsk p ≡ cond (empties birth before e p) Freed Waiting
emptying_frees birth e before range of is p = rw is (frees_both (accepts e.reply) (covers range p) (plain birth before p) (unclean birth before p && closing birth before range of p))
