-- What was done for a wish, from what was done with objects and frames.
use Rattle.std.proofs.Common.{◌≡◌, ◌<◌, ◌≤◌, ◌-◌, ℕ, true, false, cond, List, [], ◌∷◌, ◌++◌, length, sum, nat_le, refl, ap, sym, ◌∙◌, subst, arith}
use Rattle.std.proofs.lemmas.Bool.Decides.{nat_tests}
use Rattle.up_bank.specs.declared.kind.FrameKind.TheVariants.{Ordinary, Loaned}
use Rattle.up_model.specs.Legal.{Life}
use Rattle.up_model.specs.Reply as replies
use Rattle.up_model.specs.declared.entry.Birth.{Birth}
use Rattle.up_model.specs.declared.entry.Brought.TheVariants.{Frames, Scanned}
use Rattle.up_model.specs.declared.entry.Call.{Call}
use Rattle.up_model.specs.declared.entry.Call.TheVariants as calls
use Rattle.up_model.specs.declared.entry.Entry.{Entry}
use Rattle.up_model.specs.declared.entry.Reply.{Reply}
use Rattle.up_claims.specs.declared.step.SiteReply.TheVariants as sites
use Rattle.up_evictor.specs.Levels.{age_limits, level_of}
use Rattle.up_evictor.specs.Relief.{Relieves, turns}
use Rattle.up_evictor.specs.declared.levels.Level.{Level}
use Rattle.up_evictor.specs.declared.levels.Levels.{Levels}
use Rattle.up_evictor.specs.declared.levels.Level.TheVariants.{Empty}
use Rattle.up_worker.specs.Courses.{Entered, Carries, is_waiting}
use Rattle.up_worker.specs.Thread.{DoneExactly, reclaims_of}
use Rattle.up_worker.specs.Wishes.{settles}
use Rattle.up_worker.specs.declared.wish.Heard.{Heard}
use Rattle.up_worker.specs.declared.wish.Heard.TheVariants as heard
use Rattle.up_worker.specs.declared.wish.Wish.{Wish}
use Rattle.up_worker.specs.declared.wish.Wish.TheVariants as wishes
use Rattle.up_steps.specs.Handed.{InHand, empty_hand, Handed, lives_of, held_in, home, loans}
use Rattle.up_steps.specs.Carried.{hand_after, kept_after, ages_after, CarriedOut}
use Rattle.up_hands.specs.Entering.{enter, enter_all}
use Rattle.up_hands.specs.Keeping.{at_home, Taken, Eased}
use Rattle.up_hands.specs.Machined.{Machined}
use Rattle.up_hands.proofs.EntriesAdded.{stands_after, count_of}
use Rattle.up_hands.proofs.RetriesAndResizes.{still_waits, resize_settles}

-- what contracts see of hands
abbrev pub handed : Machined → ℕ → ℕ → List ℕ → Levels → InHand → Handed
handed m frames loan kept levels hand = record { lives = m.lives; frames = frames; loan = loan; kept = kept; ages = m.ages; levels = levels; hand = hand }

-- hands after a wish, where the objects have these journals
abbrev handed_by : List Birth → Handed → ℕ → Wish → Heard → List Entered → List Entered → Handed
handed_by births old who wish answer made g =
    record {
      lives = lives_of births (made ++ g);
      frames = old.frames;
      loan = old.loan;
      kept = kept_after wish who (loans old.loan (sum old.kept) births g) old.kept;
      ages = ages_after wish old.ages;
      levels = old.levels;
      hand = hand_after wish answer;
    }

-- what is at home by the entries
pub home_is : (births : List Birth) (h : Handed) (g : List Entered) → h.lives ≡ lives_of births g → home h.frames births g ≡ at_home Ordinary h
home_is births h g stood = ap (λ (lives : List Life). h.frames - held_in Ordinary lives) (sym stood)

pub loans_are : (births : List Birth) (h : Handed) (g : List Entered) → h.lives ≡ lives_of births g → loans h.loan (sum h.kept) births g ≡ at_home Loaned h
loans_are births h g stood = ap (λ (lives : List Life). h.loan - held_in Loaned lives - sum h.kept) (sym stood)

-- nothing was made, and all but what the wish is for stays
pub carried_none : (births : List Birth) (old new : Handed) (who : ℕ) (wish : Wish) (answer : Heard) (g : List Entered) → old.lives ≡ lives_of births g →
    new ≡ record old { kept = kept_after wish who (at_home Loaned old) old.kept; ages = ages_after wish old.ages; hand = hand_after wish answer } → Carries who wish answer [] →
    DoneExactly (home old.frames births) (loans old.loan (sum old.kept) births) old.levels (length births) wish answer [] g → CarriedOut births old new who wish answer g
carried_none births old new who wish answer g stood is carries exact =
    record {
      made = [];
      is = is ∙ rw (stood, loans_are births old g stood) refl;
      carries = carries;
      exact = exact;
      epoch = tt;
    }

-- an actor's call
pub carried_act : (births : List Birth) (old new : Handed) (who object : ℕ) (call : Call) (reply : Reply) (life : Life) (g : List Entered) → old.lives ≡ lives_of births g →
    new ≡ record old { lives = enter (record { object = object; entry = record { who = who; epoch = old.ages; call = call; reply = reply } }) old.lives; hand = empty_hand } →
    reply ≡ replies.reply life.birth life.journal who old.ages call → CarriedOut births old new who (wishes.Act object call) (heard.Replied reply) g
carried_act births old new who object call reply life g stood is due =
    let entry : Entry = record { who = who; epoch = old.ages; call = call; reply = reply } in
    let made : List Entered = record { object = object; entry = entry } ∷ [] in
    record {
      made = made;
      is = is ∙ ap (λ (lives : List Life). record old { lives = lives; hand = empty_hand }) (stands_after births made g old.lives (enter_all made old.lives) refl stood);
      carries = record { entry = entry; is = refl; by = refl; of_call = refl; told = refl; waits = λ w. still_waits life.birth life.journal who old.ages call (ap is_waiting (sym due) ∙ w) };
      exact = tt;
      epoch = (refl, tt);
    }

-- a resize, through the site
pub carried_resize : (births : List Birth) (old new : Handed) (who object pages : ℕ) (reply : Reply) (life : Life) (g : List Entered) → old.lives ≡ lives_of births g → old.hand ≡ empty_hand →
    new ≡ record old { lives = enter (record { object = object; entry = record { who = who; epoch = old.ages; call = calls.Resize pages; reply = reply } }) old.lives } →
    reply ≡ replies.reply life.birth life.journal who old.ages (calls.Resize pages) → CarriedOut births old new who (wishes.Resize object pages) (heard.Site (sites.Resized reply)) g
carried_resize births old new who object pages reply life g stood empty is due =
    let entry : Entry = record { who = who; epoch = old.ages; call = calls.Resize pages; reply = reply } in
    let made : List Entered = record { object = object; entry = entry } ∷ [] in
    record {
      made = made;
      is = is ∙ rw (stands_after births made g old.lives (enter_all made old.lives) refl stood, empty) refl;
      carries = record { entry = entry; is = refl; by = refl; of_call = refl; told = refl; settled = ap settles due ∙ resize_settles life.birth life.journal who old.ages pages };
      exact = tt;
      epoch = (refl, tt);
    }

-- what a relief leads to
pub eased_stands : (births : List Birth) (old new : Handed) (who want : ℕ) (level : Level) (g : List Entered) → old.lives ≡ lives_of births g → (e : Eased old new who want level) → new.lives ≡ lives_of births (e.made ++ g)
eased_stands births old new who want level g stood e = stands_after births e.made g old.lives new.lives (ap (λ (h : Handed). h.lives) e.now) stood

asked_of : (births : List Birth) (old new : Handed) (who want : ℕ) (level : Level) (g : List Entered) → old.lives ≡ lives_of births g → (e : Eased old new who want level) → Relieves want (turns (age_limits level) (length births)) [] (reclaims_of e.made)
asked_of births old new who want level g stood e =
    subst (λ (n : ℕ). Relieves want (turns (age_limits level) n) [] (reclaims_of e.made)) (ap (λ (lives : List Life). length lives) stood ∙ count_of births g) e.asked

pub carried_relief : (births : List Birth) (old new : Handed) (who want : ℕ) (g : List Entered) → old.lives ≡ lives_of births g → old.hand ≡ empty_hand → Eased old new who want Empty →
    CarriedOut births old new who (wishes.Relieve want) heard.Done g
carried_relief births old new who want g stood empty e =
    record {
      made = e.made;
      is = e.now ∙ rw (stands_after births e.made g old.lives (enter_all e.made old.lives) refl stood, empty) refl;
      carries = (refl, e.own);
      exact = asked_of births old new who want Empty g stood e;
      epoch = e.epoch;
    }

pub carried_watch : (births : List Birth) (old new : Handed) (who want : ℕ) (level : Level) (g : List Entered) → old.lives ≡ lives_of births g → old.hand ≡ empty_hand →
    want ≡ old.levels.warn - at_home Ordinary old → level ≡ level_of old.levels (at_home Ordinary old) → Eased old new who want level → CarriedOut births old new who wishes.Watch heard.Done g
carried_watch births old new who want level g stood empty missing short e =
    record {
      made = e.made;
      is = e.now ∙ rw (stands_after births e.made g old.lives (enter_all e.made old.lives) refl stood, empty) refl;
      carries = (refl, e.own);
      exact = rw (home_is births old g stood, sym missing, sym short) (asked_of births old new who want level g stood e);
      epoch = e.epoch;
    }

enough_brings : (count free : ℕ) → count ≤ free → nat_le count free ≡ true
enough_brings count free enough = grind (arith, nat_tests)

-- a gathering of what is at home
pub carried_gather : (births : List Birth) (old new : Handed) (who count : ℕ) (answer : Heard) (g : List Entered) → old.lives ≡ lives_of births g → count ≤ at_home Ordinary old →
    Taken old new Ordinary count answer → CarriedOut births old new who (wishes.Gather count) answer g
carried_gather births old new who count answer g stood enough t =
    let there : nat_le count (home old.frames births g) ≡ true = ap (nat_le count) (home_is births old g stood) ∙ enough_brings count (at_home Ordinary old) enough in
    record {
      made = [];
      is = t.now ∙ rw (stood, t.told) refl;
      carries = record { brought = t.brought; told = t.told; own = tt };
      exact = (
        t.brought,
        t.told,
        record {
          brings = t.is ∙ ap (λ (n : ℕ). cond (nat_le count n) (Frames count) Scanned) (sym (home_is births old g stood));
          enough = λ _. refl;
          relieved = λ fewer. let wrong : true ≡ false = sym there ∙ fewer in absurd cc;
        },
      );
      epoch = tt;
    }

too_few : (count free : ℕ) → free < count → nat_le count free ≡ false
too_few count free few = grind (arith, nat_tests)

-- a gathering after a relief
pub carried_short : (births : List Birth) (old mid new : Handed) (who count : ℕ) (answer : Heard) (g : List Entered) → old.lives ≡ lives_of births g → at_home Ordinary old < count →
    Eased old mid who (count - at_home Ordinary old) Empty → Taken mid new Ordinary count answer → CarriedOut births old new who (wishes.Gather count) answer g
carried_short births old mid new who count answer g stood few e t =
    let stands = eased_stands births old mid who (count - at_home Ordinary old) Empty g stood e in
    let before = home_is births old g stood in
    let after : home old.frames births (e.made ++ g) ≡ at_home Ordinary mid = ap (λ (n : ℕ). home n births (e.made ++ g)) (sym (ap (λ (h : Handed). h.frames) e.now)) ∙ home_is births mid (e.made ++ g) stands in
    let fewer : nat_le count (home old.frames births g) ≡ false = ap (nat_le count) before ∙ too_few count (at_home Ordinary old) few in
    record {
      made = e.made;
      is = t.now ∙ ap (λ (h : Handed). record h { hand = record { brought = t.brought; lent = false } }) e.now
          ∙ rw (stands_after births e.made g old.lives (enter_all e.made old.lives) refl stood, t.told) refl;
      carries = record { brought = t.brought; told = t.told; own = e.own };
      exact = (
        t.brought,
        t.told,
        record {
          brings = t.is ∙ ap (λ (n : ℕ). cond (nat_le count n) (Frames count) Scanned) (sym after);
          enough = λ there. let wrong : true ≡ false = sym there ∙ fewer in absurd cc;
          relieved = λ _. rw before (asked_of births old mid who (count - at_home Ordinary old) Empty g stood e);
        },
      );
      epoch = e.epoch;
    }

-- a loan
pub carried_loan : (births : List Birth) (old new : Handed) (who : ℕ) (answer : Heard) (g : List Entered) → old.lives ≡ lives_of births g → Taken old new Loaned 1 answer → CarriedOut births old new who wishes.Loan answer g
carried_loan births old new who answer g stood t =
    record {
      made = [];
      is = t.now ∙ rw (stood, t.told) refl;
      carries = record { brought = t.brought; told = t.told; none = refl };
      exact = (t.brought, t.told, refl, t.is ∙ ap (λ (n : ℕ). cond (nat_le 1 n) (Frames 1) Scanned) (sym (loans_are births old g stood)));
      epoch = tt;
    }
