-- The small script's events, one after the other; and what isn't its steps.
use Rattle.std.proofs.Common.{◌≡◌, ℕ, ◌++◌, true, false, List, [], ◌∷◌, refl, sym, ap, ◌∙◌, subst, inl, inr, arith, append-nil}
use Rattle.up_model.specs.declared.entry.Brought.{Brought}
use Rattle.up_model.specs.declared.entry.Brought.TheVariants.{Nothing, Frames}
use Rattle.up_model.specs.declared.entry.Call.{Call}
use Rattle.up_model.specs.declared.entry.Call.TheVariants as calls
use Rattle.up_worker.specs.Courses.{Entered}
use Rattle.up_script.specs.Objects.{is_evictor}
use Rattle.up_script.specs.declared.script.Kind.TheVariants as kinds
use Rattle.up_script.specs.declared.script.Line.{Line}
use Rattle.up_worker.specs.Calls.{calls_of}
use Rattle.up_worker.specs.declared.course.Doing.TheVariants.{Idle, OneLine}
use Rattle.up_steps.specs.Asked.{IsDone, AllBring}
use Rattle.up_steps.specs.Told.{is_go, parked, kind_at, Told}
use Rattle.up_steps.specs.Steps.{Moment, AllBy, judge_at, GoesFar, Does, Block, IsFar}
use Rattle.up_steps.specs.Row.{setting, lines, history, by_line, reading, supplying, supplied_with, supply_line, read_line, blocked, taken, retried, read_bytes, packet_reply, after_read, after_packet, after_supply, IsOneThreads, HasItsSteps, RefusesMore, RefusesOther, RefusesNothing, TellsNoOthers}
use Rattle.up_steps.specs.OneThread.{event_of, OneThread, Ran}
use Rattle.up_worker.specs.Courses.{Hears}
use Rattle.up_worker.specs.declared.wish.Heard.TheVariants as heard
use Rattle.up_model.specs.declared.entry.Reply.TheVariants as replies
use Rattle.up_steps.proofs.LineBlocks.{steps_follow}

one_thread : OneThread setting history
one_thread = (
  (
    (
      (
        (
          (
            (
              (
                (tt, refl),
                record { carries = record { entry = blocked.entry; is = refl; by = refl; of_call = refl; told = refl; waits = λ w. absurd cc }; exact = tt; epoch = (refl, tt); fair = (record { parking = λ p. refl; giving = λ e. absurd cc }, tt) },
              ),
              refl,
            ),
            record { carries = record { entry = taken.entry; is = refl; by = refl; of_call = refl; told = refl; waits = λ w. absurd cc }; exact = tt; epoch = (refl, tt); fair = (record { parking = λ p. absurd cc; giving = λ e. absurd cc }, tt) },
          ),
          refl,
        ),
        record { carries = record { brought = Frames 1; told = refl; own = tt }; exact = (Frames 1, refl, record { brings = refl; enough = λ e. refl; relieved = λ e. absurd cc }); epoch = tt; fair = tt },
      ),
      record { carries = record { entry = (supplied_with (Frames 1)).entry; is = refl; by = refl; of_call = refl; told = refl; waits = λ w. absurd cc }; exact = tt; epoch = (refl, tt); fair = (record { parking = λ p. absurd cc; giving = λ e. absurd cc }, tt) },
    ),
    record { carries = record { told = refl; none = refl }; exact = tt; epoch = tt; fair = tt },
  ),
  record { carries = record { entry = retried.entry; is = refl; by = refl; of_call = refl; told = refl; waits = λ w. absurd cc }; exact = tt; epoch = (refl, tt); fair = (record { parking = λ p. absurd cc; giving = λ e. absurd cc }, tt) },
)

ran : Ran setting lines history
ran = (
  after_supply,
  (
    after_packet,
    (
      after_read,
      (
        [],
        refl,
        refl,
        refl,
        record { more = event_of 0 (Hears (heard.Replied (replies.Blocked 0)) (blocked ∷ [])) ∷ []; is = refl; goes = (tt, refl, refl); answers = (refl, tt); rests = refl },
      ),
      refl,
      refl,
      record { more = event_of 1 (Hears (heard.Replied packet_reply) (taken ∷ [])) ∷ []; is = refl; goes = (tt, refl, refl); answers = (refl, tt); rests = refl },
    ),
    refl,
    refl,
    record {
      more = event_of 1 (Hears (heard.Replied (replies.Took 1 (0 ∷ []))) (supplied_with (Frames 1) ∷ [])) ∷ event_of 1 (Hears (heard.Brought (Frames 1)) []) ∷ [];
      is = refl;
      goes = ((tt, refl, refl), refl, refl);
      answers = (refl, (refl, tt));
      rests = refl;
    },
  ),
  refl,
  refl,
  record {
    more = event_of 0 (Hears (heard.Replied read_bytes) (retried ∷ [])) ∷ [];
    is = refl;
    goes = (tt, refl, refl);
    rests = refl;
    later = [];
    given = refl;
    all = λ free. refl;
  },
)

pub is_one_threads : IsOneThreads
is_one_threads = (one_thread, ran)

pub has_its_steps : HasItsSteps
has_its_steps = steps_follow setting lines history one_thread ran

-- the only block of one line is all
alone : (made start : List Entered) (x : Entered) → x ∷ [] ≡ made ++ start → start ≡ [] → made ≡ x ∷ []
alone made start x is none = sym (is ∙ (ap (λ xs. made ++ xs) none ∙ append-nil made))

pub refuses_other : RefusesOther
refuses_other m steps =
    let done = steps.4 in
    let made = alone done.made steps.1 _ done.is steps.2.0 in
    let by = subst (λ xs. AllBy 1 xs) made done.by in
    let wrong = by.0 in cc

nothing_left : (now old : List Entered) → [] ≡ now ++ old → now ≡ []
nothing_left [] old is = refl
nothing_left (x ∷ now) old is = absurd cc

-- a block where nothing was before
plain_block : (lines : List Line) (line : Line) (m : Moment) (start made : List Entered) → start ≡ [] → is_go line.action ≡ false
    → is_evictor (kind_at setting.actors line.actor) ≡ false → Block setting m lines line (is_go line.action) (parked line.actor start) start made
    → GoesFar setting m lines line.actor start made
plain_block lines line m start made none unless kind block =
    let free : parked line.actor start ≡ false = ap (λ g. parked line.actor g) none in
    let does = subst (λ b. Block setting m lines line b false start made) unless (subst (λ b. Block setting m lines line (is_go line.action) b start made) free block) in
    subst (λ b. Does setting m lines line.actor line.action b start made) kind does

abbrev frames_of : Brought → ℕ
frames_of (Frames count) = count
frames_of _ = 0

abbrev supply_brings : Call → Brought
supply_brings (calls.Supply range bytes brought) = brought
supply_brings _ = Nothing

pub refuses_more : RefusesMore
refuses_more m steps =
    let done = steps.4 in
    let start = steps.1 in
    let made = alone done.made start _ done.is steps.2.0 in
    let goes = plain_block supply_line (by_line 6 1 supplying) steps.0 start done.made steps.2.0 refl refl done.block in
    let all = subst (λ xs. AllBring (judge_at setting steps.0) start xs) made goes.framed.brings in
    let brings = all.1 refl in
    let two : 2 ≡ frames_of brings.brought = ap (λ c. frames_of (supply_brings c)) brings.is in
    let one : frames_of brings.brought ≡ 1 = ap frames_of brings.comes.brings in
    omega arith

pub refuses_nothing : RefusesNothing
refuses_nothing m steps =
    let done = steps.4 in
    let start = steps.1 in
    let made = nothing_left done.made start done.is in
    let goes = plain_block read_line (by_line 6 0 reading) steps.0 start done.made steps.2.0 refl refl done.block in
    let none : done.made ++ start ≡ [] = ap (λ xs. xs ++ start) made ∙ steps.2.0 in
    let far : Told kinds.User (0 ∷ []) (OneLine reading ∷ Idle ∷ []) [] = subst (λ g. IsFar setting read_line 0 (parked 0 g) g) none goes.far in
    let now = nothing_left far.0 far.1 far.2 in
    by_end (subst (λ xs. IsDone (calls_of kinds.User (0 ∷ []) (OneLine reading)) true xs) now far.4)
  where
    by_end : IsDone (calls_of kinds.User (0 ∷ []) (OneLine reading)) true [] → ⊥
    by_end (inl none) = cc
    by_end (inr refused) = let wrong = refused.1 in cc

pub tells_no_others : TellsNoOthers
tells_no_others s line earlier m g unplayed steps = let wrong : true ≡ false = sym steps.3 ∙ unplayed in cc
