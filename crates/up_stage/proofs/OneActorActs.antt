-- What a script's objects and actors keep while one actor's wishes are carried out.
use Rattle.std.proofs.Common.{◌≡◌, ℕ, ◌<◌, ◌==◌, ◌++◌, ◌⊎◌, Bool, true, false, cond, Option, Some, None, List, [], ◌∷◌, length, refl, sym, ap, ◌∙◌, subst, inl, inr, slice_get, slice_set, nat_le, arith}
use Rattle.std.proofs.lemmas.List.{length-set}
use Rattle.std.proofs.lemmas.Option.{slice_get_within}
use Rattle.up_evictor.specs.declared.levels.Levels.{Levels}
use Rattle.up_model.specs.Answered.{may_park}
use Rattle.up_model.proofs.Bools.{nat_eq-same, nat_eq_true}
use Rattle.up_model.specs.Legal.{Life, Legal}
use Rattle.up_model.specs.Reply.{reply}
use Rattle.up_model.specs.Tickets.{keeps_ticket}
use Rattle.up_model.specs.declared.entry.Birth.{Birth}
use Rattle.up_model.specs.declared.entry.Brought.{Brought}
use Rattle.up_model.specs.declared.entry.Brought.TheVariants.{Frames, Scanned}
use Rattle.up_model.specs.declared.entry.Call.{Call}
use Rattle.up_model.specs.declared.entry.Call.TheVariants as calls
use Rattle.up_model.specs.declared.entry.Reply.{Reply}
use Rattle.up_model.specs.declared.entry.Reply.TheVariants as replies
use Rattle.up_steps.specs.Handed.{Handed, lives_of, births_in, AllLegal}
use Rattle.up_steps.specs.Carried.{CarriedOut}
use Rattle.up_steps.specs.Asked.{parks as parks_reply}
use Rattle.up_steps.specs.OneThread.{rests}
use Rattle.up_worker.specs.Acting.{Acting, under_way, next_wish, next_acting}
use Rattle.up_worker.specs.Calls.{borrows}
use Rattle.up_model.specs.Bringing.{bringing}
use Rattle.up_worker.specs.Courses.{Entered, Carries, MakesOne, OwnEvicts, is_waiting, is_retry}
use Rattle.up_worker.specs.Thread.{of_object, exact, DoneExactly}
use Rattle.up_worker.specs.Wishes.{attempt}
use Rattle.up_worker.specs.declared.course.Aim.{Aim}
use Rattle.up_worker.specs.declared.wish.Heard.{Heard}
use Rattle.up_worker.specs.declared.wish.Heard.TheVariants as heard
use Rattle.up_worker.specs.declared.wish.Wish.{Wish}
use Rattle.up_worker.specs.declared.wish.Wish.TheVariants as wishes
use Rattle.up_stage.specs.Calls.{is_fit_call, IsFitAim}
use Rattle.up_stage.specs.Scheduled.{Scheduled}
use Rattle.up_stage.specs.Ready.{HoldsOn, Waits, HoldsIts, ActorKeeps, MakesCall, Pending, Ready, rank}
use Rattle.up_stage.proofs.ObjectJournals.{some_same, slice_get-set, get_some, life_at, legal_at, births_are, lives_count}
use Rattle.up_stage.proofs.RepliesForFrames.{asks_right, parks_right}
use Rattle.up_stage.proofs.OneWish.{After, after_act, after_site, after_gather, after_loan, after_done}
use Rattle.up_stage.proofs.Tickets.{AllKeepIt, held_one, held_many, held_blocked, evicts_keep, others_keep}

-- an entry's reply is the one that is due
pub due_reply : (births : List Birth) (x : Entered) (g : List Entered) → AllLegal (lives_of births (x ∷ g)) → (birth : Birth) → slice_get births x.object ≡ Some birth
    → x.entry.reply ≡ reply birth (of_object x.object g) x.entry.who x.entry.epoch x.entry.call
due_reply births x g legal birth is =
    let now = life_at births (x ∷ g) x.object birth is in
    let lawful = legal_at (lives_of births (x ∷ g)) x.object (record { birth = birth; journal = of_object x.object (x ∷ g) }) legal now in
    let here : Legal birth (x.entry ∷ of_object x.object g) =
    subst (λ (b : Bool). Legal birth (cond b (x.entry ∷ of_object x.object g) (of_object x.object g))) (nat_eq-same x.object) lawful in
    here.2

-- the ticket that an actor holds after its call
still_waits : (births : List Birth) (x : Entered) (g : List Entered) → AllLegal (lives_of births (x ∷ g)) → (who t : ℕ) (aim : Aim) → keeps_ticket x.entry.reply ≡ true
    → Waits (lives_of births g) who t aim → Waits (lives_of births (x ∷ g)) who t aim
still_waits births x g legal who t aim keeps w = record { holds = held_one births x g legal who aim.object t (λ is r. keeps) w.holds; plain = w.plain }

park_plain : (b : Brought) (call : Call) → may_park (bringing b call) ≡ true → borrows call ≡ false
park_plain b (calls.Borrow page old) is = absurd cc
park_plain b _ is = refl

parked_plain : (lives : List Life) (a : Acting) (aim : Aim) (ticket : Option ℕ) (b : Brought) → a.ticket ≡ ticket → under_way a ≡ Some aim → HoldsIts lives a → may_park (bringing b (attempt ticket aim.call)) ≡ true
    → borrows aim.call ≡ false
parked_plain lives a aim None b at is holds may = park_plain b aim.call may
parked_plain lives a aim (Some t) b at is holds may = (holds t aim at is).plain

holds_act : (births : List Birth) (x : Entered) (g : List Entered) → AllLegal (lives_of births (x ∷ g)) → (birth : Birth) → slice_get births x.object ≡ Some birth → (a : Acting) → x.entry.who ≡ a.who
    → MakesCall a x.object x.entry.call → HoldsIts (lives_of births g) a → (r : Reply) → x.entry.reply ≡ r → HoldsIts (lives_of births (x ∷ g)) (next_acting a (heard.Replied r))
holds_act births x g legal birth at a by p holds (replies.Needs n) r = λ t aim held is. still_waits births x g legal a.who t aim (ap keeps_ticket r) (holds t aim held is)
holds_act births x g legal birth at a by p holds replies.Waiting r = λ t aim held is. still_waits births x g legal a.who t aim (ap keeps_ticket r) (holds t aim held is)
holds_act births x g legal birth at a by p holds (replies.Blocked n) r = λ t aim held is.
    let number : n ≡ t = some_same n t held in
    let same : aim ≡ p.aim = some_same aim p.aim (sym is ∙ p.is) in
    let on : x.object ≡ aim.object = p.on ∙ ap (λ (one : Aim). one.object) (sym same) in
    let due = due_reply births x g legal birth at in
    let may : may_park x.entry.call ≡ true =
    parks_right birth (of_object x.object g) x.entry.who x.entry.epoch x.entry.call (ap parks_reply (sym due ∙ r)) in
    record {
      holds = subst (λ (o : ℕ). HoldsOn (lives_of births (x ∷ g)) a.who o t) on
          (subst (λ (w : ℕ). HoldsOn (lives_of births (x ∷ g)) w x.object t) by
          (held_blocked births x g legal birth at t (r ∙ ap (λ (k : ℕ). replies.Blocked k) number)));
      plain = rw same (parked_plain (lives_of births g) a p.aim a.ticket p.brought refl p.is holds (ap may_park (sym p.made) ∙ may));
    }
holds_act births x g legal birth at a by p holds r is = λ t aim held under. absurd cc

-- the same ticket after a wish for which evicts are made, or nothing
holds_on : (births : List Birth) (made g : List Entered) → AllLegal (lives_of births (made ++ g)) → (a : Acting) → ((t : ℕ) → AllKeepIt a.who t made) → HoldsIts (lives_of births g) a → HoldsIts (lives_of births (made ++ g)) a
holds_on births made g legal a keep holds = λ t aim held is.
    let w = holds t aim held is in
    record { holds = held_many births made g legal a.who aim.object t (keep t) w.holds; plain = w.plain }

-- other actors hold theirs on
others_all : (who other : ℕ) (wish : Wish) (answer : Heard) (made : List Entered) → (who == other) ≡ false → Carries who wish answer made → (t : ℕ) → AllKeepIt other t made
others_all who other (wishes.Act object call) answer made apart one t =
    rw one.is (others_keep other t one.entry (rw one.by apart), tt)
others_all who other (wishes.Resize object pages) answer made apart one t =
    rw one.is (others_keep other t one.entry (rw one.by apart), tt)
others_all who other (wishes.Gather count) answer made apart some t = evicts_keep who other t made some.own
others_all who other wishes.Loan answer made apart none t = rw none.none tt
others_all who other (wishes.Park object) answer made apart none t = rw none.none tt
others_all who other wishes.Age answer made apart none t = rw none.none tt
others_all who other wishes.Keep answer made apart none t = rw none.none tt
others_all who other wishes.Give answer made apart none t = rw none.none tt
others_all who other (wishes.Relieve frames) answer made apart own t = evicts_keep who other t made own.1
others_all who other wishes.Watch answer made apart own t = evicts_keep who other t made own.1
others_all who other (wishes.Site object step) answer made apart none t = absurd none
others_all who other wishes.LineEnd answer made apart none t = absurd none

-- what is brought
gathered : (home : List Entered → ℕ) (objects count : ℕ) (b : Brought) (n : ℕ) → b ≡ cond (nat_le count n) (Frames count) Scanned → (b ≡ Frames count) ⊎ (b ≡ Scanned)
gathered home objects count b n is =
    elim (nat_le count n) as (λ t. b ≡ cond t (Frames count) Scanned → (b ≡ Frames count) ⊎ (b ≡ Scanned)) [
      | true ↦ λ q. inl q
      | false ↦ λ q. inr q
    ] is

-- what follows for the actor
pub record Carried (births : List Birth) (made g : List Entered) (a : Acting) (wish : Wish) (answer : Heard) : Type 0 where
  pub after : After a wish answer
  pub holds : HoldsIts (lives_of births (made ++ g)) (next_acting a answer)

-- few frames are asked for
abbrev pub AsksFew : Heard → Type 0
AsksFew answer = (n : ℕ) → answer ≡ heard.Replied (replies.Needs n) → n < 4294967296

abbrev pub AreFit : Acting → Type 0
AreFit a = (aim : Aim) → under_way a ≡ Some aim → is_fit_call aim.call ≡ true

carried_act : (births : List Birth) (x : Entered) (g : List Entered) → AllLegal (lives_of births (x ∷ g)) → (birth : Birth) → slice_get births x.object ≡ Some birth → (a : Acting) → x.entry.who ≡ a.who
    → MakesCall a x.object x.entry.call → (is_waiting x.entry.reply ≡ true → is_retry x.entry.call ≡ true) → AsksFew (heard.Replied x.entry.reply) → AreFit a → HoldsIts (lives_of births g) a
    → Carried births (x ∷ []) g a (wishes.Act x.object x.entry.call) (heard.Replied x.entry.reply)
carried_act births x g legal birth at a by p waits few fit holds =
    let due = due_reply births x g legal birth at in
    record {
      after = after_act (lives_of births g) a x.object x.entry.call x.entry.reply p (record {
        asks = λ n is. asks_right birth (of_object x.object g) x.entry.who x.entry.epoch x.entry.call n (sym due ∙ is);
        small = λ n is. few n (ap (λ (r : Reply). heard.Replied r) is);
        waits = λ is. waits (rw is refl);
      }) holds fit;
      holds = holds_act births x g legal birth at a by p holds x.entry.reply refl;
    }

act_is : (births : List Birth) (made g : List Entered) (a : Acting) (object : ℕ) (call : Call) (answer : Heard) → AllLegal (lives_of births (made ++ g)) → object < length births → MakesOne a.who object call answer made
    → MakesCall a object call → AsksFew answer → AreFit a → HoldsIts (lives_of births g) a → Carried births made g a (wishes.Act object call) answer
act_is births made g a object call answer legal below one p few fit holds =
    let x : Entered = record { object = object; entry = one.entry } in
    let birth = get_some births object below in
    subst (λ (m : List Entered). Carried births m g a (wishes.Act object call) answer) (sym one.is)
    (subst (λ (h : Heard). Carried births (x ∷ []) g a (wishes.Act object call) h) (sym one.told)
    (subst (λ (c : Call). Carried births (x ∷ []) g a (wishes.Act object c) (heard.Replied one.entry.reply)) one.of_call
    (carried_act births x g (subst (λ (m : List Entered). AllLegal (lives_of births (m ++ g))) one.is legal) birth.0 birth.1 a one.by
    (subst (λ (c : Call). MakesCall a object c) (sym one.of_call) p) (λ w. ap is_retry one.of_call ∙ one.waits w)
    (subst (λ (h : Heard). AsksFew h) one.told few) fit holds)))

evicts_of_own : (by : ℕ) (made : List Entered) → OwnEvicts by made → (who t : ℕ) → AllKeepIt who t made
evicts_of_own by made own who t = evicts_keep by who t made own

done_is : (births : List Birth) (made g : List Entered) (a : Acting) (wish : Wish) (answer : Heard) → AllLegal (lives_of births (made ++ g)) → After a wish heard.Done → answer ≡ heard.Done → ((t : ℕ) → AllKeepIt a.who t made)
    → HoldsIts (lives_of births g) a → Carried births made g a wish answer
done_is births made g a wish answer legal after told keep holds =
    subst (λ (h : Heard). Carried births made g a wish h) (sym told)
    (record { after = after; holds = holds_on births made g legal (next_acting a heard.Done) keep holds })

none_made : (made : List Entered) → made ≡ [] → (who t : ℕ) → AllKeepIt who t made
none_made made none who t = rw none tt

-- what is carried out of a wish
pub carried : (births : List Birth) (made g : List Entered) (a : Acting) (wish : Wish) (answer : Heard) (home loans : List Entered → ℕ) (levels : Levels) (objects : ℕ) → AllLegal (lives_of births (made ++ g))
    → Pending a wish → rests wish ≡ false → Carries a.who wish answer made → DoneExactly home loans levels objects wish answer made g → AsksFew answer
    → ((object : ℕ) (call : Call) → wish ≡ wishes.Act object call → object < length births) → AreFit a → HoldsIts (lives_of births g) a → Carried births made g a wish answer
carried births made g a (wishes.Act object call) answer home loans levels objects legal p goes one exact few on fit holds = act_is births made g a object call answer legal (on object call refl) one p few fit holds
carried births made g a (wishes.Resize object pages) answer home loans levels objects legal p goes one exact few on fit holds =
    subst (λ (h : Heard). Carried births made g a (wishes.Resize object pages) h) (sym one.told)
    (record { after = after_site a object pages one.entry.reply p.aim p.is; holds = λ t aim held is. absurd cc })
carried births made g a (wishes.Gather count) answer home loans levels objects legal p goes some exact few on fit holds =
    let b = exact.0 in
    let is = gathered home objects count b _ exact.2.brings in
    subst (λ (h : Heard). Carried births made g a (wishes.Gather count) h) (sym exact.1)
    (record { after = after_gather a count b p is; holds = holds_on births made g legal (next_acting a (heard.Brought b)) (λ t. evicts_keep a.who a.who t made some.own) holds })
carried births made g a wishes.Loan answer home loans levels objects legal p goes none exact few on fit holds =
    let b = exact.0 in
    let is = gathered home objects 1 b _ exact.3 in
    subst (λ (h : Heard). Carried births made g a wishes.Loan h) (sym exact.1)
    (record { after = after_loan a b p is; holds = holds_on births made g legal (next_acting a (heard.Brought b)) (none_made made none.none a.who) holds })
carried births made g a wishes.Age answer home loans levels objects legal p goes none exact few on fit holds =
    done_is births made g a wishes.Age answer legal (after_done a wishes.Age p refl (omega arith)) none.told (none_made made none.none a.who) holds
carried births made g a wishes.Keep answer home loans levels objects legal p goes none exact few on fit holds =
    done_is births made g a wishes.Keep answer legal (after_done a wishes.Keep p refl (omega arith)) none.told (none_made made none.none a.who) holds
carried births made g a wishes.Give answer home loans levels objects legal p goes none exact few on fit holds =
    done_is births made g a wishes.Give answer legal (after_done a wishes.Give p refl (omega arith)) none.told (none_made made none.none a.who) holds
carried births made g a (wishes.Relieve frames) answer home loans levels objects legal p goes own exact few on fit holds =
    done_is births made g a (wishes.Relieve frames) answer legal (after_done a (wishes.Relieve frames) p refl (omega arith)) own.0 (λ t. evicts_keep a.who a.who t made own.1) holds
carried births made g a wishes.Watch answer home loans levels objects legal p goes own exact few on fit holds =
    done_is births made g a wishes.Watch answer legal (after_done a wishes.Watch p refl (omega arith)) own.0 (λ t. evicts_keep a.who a.who t made own.1) holds
carried births made g a (wishes.Park object) answer home loans levels objects legal p goes none exact few on fit holds = absurd cc
carried births made g a wishes.LineEnd answer home loans levels objects legal p goes none exact few on fit holds = absurd cc
carried births made g a (wishes.Site object step) answer home loans levels objects legal p goes none exact few on fit holds = absurd none

-- an actor keeps what it has to with more entries
keeps_actor : (births : List Birth) (made g : List Entered) (who : ℕ) (a new : Acting) → ActorKeeps (lives_of births g) who a → new.who ≡ a.who → new.kind ≡ a.kind → new.objects ≡ a.objects → new.doing ≡ a.doing
    → HoldsIts (lives_of births (made ++ g)) new → ActorKeeps (lives_of births (made ++ g)) who new
keeps_actor births made g who a new k number kind objects doing holds =
    let same : births_in (lives_of births g) ≡ births_in (lives_of births (made ++ g)) = births_are 0 births g ∙ sym (births_are 0 births (made ++ g)) in
    let count : length (lives_of births (made ++ g)) ≡ length (lives_of births g) = lives_count 0 births (made ++ g) ∙ sym (lives_count 0 births g) in
    record {
      number = number ∙ k.number;
      calls = λ place aim is. subst (λ (bs : List Birth). IsFitAim bs aim) same (k.calls place aim (rw kind at rw objects at rw doing at is));
      objects = λ place object is. rw count (k.objects place object (rw objects at is));
      holds = holds;
    }

-- what an answer leaves of an actor
next_who : (a : Acting) (answer : Heard) → (next_acting a answer).who ≡ a.who
next_who a (heard.Replied r) = refl
next_who a (heard.Site r) = refl
next_who a _ = refl

next_kind : (a : Acting) (answer : Heard) → (next_acting a answer).kind ≡ a.kind
next_kind a (heard.Replied r) = refl
next_kind a (heard.Site r) = refl
next_kind a _ = refl

next_objects : (a : Acting) (answer : Heard) → (next_acting a answer).objects ≡ a.objects
next_objects a (heard.Replied r) = refl
next_objects a (heard.Site r) = refl
next_objects a _ = refl

next_doing : (a : Acting) (answer : Heard) → (next_acting a answer).doing ≡ a.doing
next_doing a (heard.Replied r) = refl
next_doing a (heard.Site r) = refl
next_doing a _ = refl

pub acts_within : (births : List Birth) (g : List Entered) (who : ℕ) (a : Acting) (object : ℕ) (call : Call) → ActorKeeps (lives_of births g) who a → MakesCall a object call → object < length births
acts_within births g who a object call k p =
    let below = (k.calls a.settled p.aim p.is).on in
    let count : length (births_in (lives_of births g)) ≡ length births = ap length (births_are 0 births g) in
    let on = p.on in omega arith

-- what comes of one wish
pub record Further (old new : Scheduled) (who : ℕ) (a : Acting) (wish : Wish) (answer : Heard) : Type 0 where
  pub ready : Ready new who (next_wish a answer)
  pub is : slice_get new.actors who ≡ Some (next_acting a answer)
  pub lower : rank (next_acting a answer) (next_wish a answer) < rank a wish

pub ready_more : (births : List Birth) (g : List Entered) (old new : Scheduled) (who : ℕ) (wish : Wish) (answer : Heard) (r : Ready old who wish) → rests wish ≡ false → old.hands.lives ≡ lives_of births g
    → (d : CarriedOut births old.hands new.hands who wish answer g) → AllLegal new.hands.lives → length new.hands.kept ≡ length old.hands.kept → new.actors ≡ slice_set old.actors who (next_acting r.acting answer)
    → new.done ≡ old.done → AsksFew answer → Further old new who r.acting wish answer
ready_more births g old new who wish answer r goes lives d legal kept actors done few =
    let a = r.acting in
    let mine = r.keeps.each who a r.is in
    let now : new.hands.lives ≡ lives_of births (d.made ++ g) = ap (λ (h : Handed). h.lives) d.is in
    let lawful : AllLegal (lives_of births (d.made ++ g)) = subst AllLegal now legal in
    let before : ActorKeeps (lives_of births g) who a = subst (λ (ls : List Life). ActorKeeps ls who a) lives mine in
    let on : (object : ℕ) (call : Call) → wish ≡ wishes.Act object call → object < length births = λ object call is. acts_within births g who a object call before (subst (λ (w : Wish). Pending a w) is r.pending) in
    let c = carried births d.made g a wish answer _ _ _ _ lawful r.pending goes (rw before.number d.carries) d.exact few on (λ aim is. (before.calls a.settled aim is).fit) before.holds in
    let within : who < length old.actors = slice_get_within old.actors who a r.is in
    record {
      ready = record {
        keeps = record {
          legal = legal;
          kept = kept ∙ r.keeps.kept ∙ sym (ap length actors ∙ length-set old.actors who (next_acting a answer));
          done = ap length done ∙ r.keeps.done ∙ sym (ap length actors ∙ length-set old.actors who (next_acting a answer));
          each = λ v b is.
              elim (who == v) as (λ t. (who == v) ≡ t → cond t (Some (next_acting a answer)) (slice_get old.actors v) ≡ Some b → ActorKeeps new.hands.lives v b) [
                | true ↦ λ q at. subst (λ (n : ℕ). ActorKeeps new.hands.lives n b) (nat_eq_true who v q)
                    (subst (λ (x : Acting). ActorKeeps new.hands.lives who x) (some_same (next_acting a answer) b at)
                    (subst (λ (ls : List Life). ActorKeeps ls who (next_acting a answer)) (sym now)
                    (keeps_actor births d.made g who a (next_acting a answer) before (next_who a answer) (next_kind a answer) (next_objects a answer) (next_doing a answer) c.holds)))
                | false ↦ λ q at. let k : ActorKeeps (lives_of births g) v b = subst (λ (ls : List Life). ActorKeeps ls v b) lives (r.keeps.each v b at) in
                    subst (λ (ls : List Life). ActorKeeps ls v b) (sym now)
                    (keeps_actor births d.made g v b b k refl refl refl refl
                    (holds_on births d.made g lawful b (λ t. others_all who b.who wish answer d.made (rw k.number q) d.carries t) k.holds))
              ] refl (sym (slice_get-set old.actors who (next_acting a answer) v within) ∙ ap (λ (xs : List Acting). slice_get xs v) (sym actors) ∙ is);
        };
        acting = next_acting a answer;
        is = ap (λ (xs : List Acting). slice_get xs who) actors ∙ slice_get-set old.actors who (next_acting a answer) who within ∙ rw (nat_eq-same who) refl;
        hand = ap (λ (h : Handed). h.hand) d.is ∙ c.after.hand;
        pending = c.after.pending;
        wants = refl;
        others = λ v b apart is. r.others v b apart
            (rw apart at (sym (slice_get-set old.actors who (next_acting a answer) v within) ∙ ap (λ (xs : List Acting). slice_get xs v) (sym actors) ∙ is));
      };
      is = ap (λ (xs : List Acting). slice_get xs who) actors ∙ slice_get-set old.actors who (next_acting a answer) who within ∙ rw (nat_eq-same who) refl;
      lower = c.after.lower;
    }
