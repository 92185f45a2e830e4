-- The worked scripts, line by line: the events of each line, and that they are one thread's.
use Rattle.std.proofs.Common.{◌≡◌, ℕ, ◌-◌, ◌&&◌, ◌||◌, ◌++◌, not, Bool, true, false, cond, None, List, [], ◌∷◌, reverse, take, sum, nat_le, refl, sym, ◌∙◌, inl, inr, arith}
use Rattle.up_num.specs.declared.answers.Code.TheVariants.{Io}
use Rattle.up_num.specs.declared.answers.Packet.TheVariants as packets
use Rattle.up_num.specs.declared.answers.Refusal.TheVariants as refusals
use Rattle.up_model.specs.declared.entry.Brought.{Brought}
use Rattle.up_model.specs.declared.entry.Brought.TheVariants.{Nothing, Frames, Scanned}
use Rattle.up_model.specs.declared.entry.Call.TheVariants as calls
use Rattle.up_model.specs.declared.entry.HintKind.TheVariants as hints
use Rattle.up_model.specs.declared.entry.Reply.TheVariants as replies
use Rattle.up_model.specs.declared.entry.Role.TheVariants as roles
use Rattle.up_claims.specs.declared.step.SiteReply.TheVariants as sites
use Rattle.up_evictor.specs.Levels.{age_limits}
use Rattle.up_evictor.specs.Relief.{Relieves, turns}
use Rattle.up_evictor.specs.declared.levels.Level.TheVariants.{Empty}
use Rattle.up_script.specs.declared.script.Action.TheVariants as actions
use Rattle.up_script.specs.declared.script.Line.{Line}
use Rattle.up_worker.specs.Courses.{Entered, Begins, Hears, OwnEvicts, is_evict, gives_pages, is_waiting, is_retry}
use Rattle.up_worker.specs.Thread.{reclaims_of}
use Rattle.up_worker.specs.Wishes.{settles}
use Rattle.up_worker.specs.declared.course.Doing.TheVariants.{OneLine}
use Rattle.up_worker.specs.declared.wish.Heard.TheVariants as heard
use Rattle.up_worker.specs.declared.wish.Wish.TheVariants as wishes
use Rattle.up_model.specs.Answered.{may_park}
use Rattle.up_steps.specs.Asked.{parks}
use Rattle.up_steps.specs.Steps.{Setting, Moment, AllAt}
use Rattle.up_steps.specs.OneThread.{ActorEvent, event_of, AllFair, IsCarried, OneThread, Ran}
use Rattle.up_steps.specs.Worked.{user, other, pager, evictor, with_frames, pages, page, piece, by, waits_lines, changes_lines, loans_lines, short_lines, WaitsAreSteps, ChangesAreSteps, LoansAreSteps, ReliefsAreSteps}
use Rattle.up_steps.proofs.LineBlocks.{steps_follow}

-- what is asked of an entry whose reply was heard
abbrev is_fair : Entered → Bool
is_fair x =
    (not (parks x.entry.reply) || may_park x.entry.call) && ((not (is_evict x.entry.call) || gives_pages x.entry.reply)
    && (not (is_waiting x.entry.reply) || is_retry x.entry.call))

both_left : (b c : Bool) → (b && c) ≡ true → b ≡ true
both_left true c is = refl
both_left false c is = absurd cc

both_right : (b c : Bool) → (b && c) ≡ true → c ≡ true
both_right true c is = is
both_right false c is = absurd cc

so : (b c : Bool) → (not b || c) ≡ true → b ≡ true → c ≡ true
so true c is held = is
so false c is held = absurd cc

acts : (s : Setting) (m : Moment) (x : Entered) (before : List Entered) → x.entry.epoch ≡ m.ages → is_fair x ≡ true
    → IsCarried s m x.entry.who (wishes.Act x.object x.entry.call) (heard.Replied x.entry.reply) (x ∷ []) before
acts s m x before at fair =
    let parking = both_left (not (parks x.entry.reply) || may_park x.entry.call) _ fair in
    let rest = both_right (not (parks x.entry.reply) || may_park x.entry.call) _ fair in
    let giving = both_left (not (is_evict x.entry.call) || gives_pages x.entry.reply) _ rest in
    let waits = both_right (not (is_evict x.entry.call) || gives_pages x.entry.reply) _ rest in
    record {
      carries = record { entry = x.entry; is = refl; by = refl; of_call = refl; told = refl; waits = so (is_waiting x.entry.reply) (is_retry x.entry.call) waits };
      exact = tt;
      epoch = (at, tt);
      fair = (record { parking = so (parks x.entry.reply) (may_park x.entry.call) parking; giving = so (is_evict x.entry.call) (gives_pages x.entry.reply) giving }, tt);
    }

resizes : (s : Setting) (m : Moment) (x : Entered) (before : List Entered) (count : ℕ) → x.entry.call ≡ calls.Resize count → x.entry.epoch ≡ m.ages
    → settles x.entry.reply ≡ true → is_fair x ≡ true
    → IsCarried s m x.entry.who (wishes.Resize x.object count) (heard.Site (sites.Resized x.entry.reply)) (x ∷ []) before
resizes s m x before count of_call at settled fair =
    let parking = both_left (not (parks x.entry.reply) || may_park x.entry.call) _ fair in
    let rest = both_right (not (parks x.entry.reply) || may_park x.entry.call) _ fair in
    let giving = both_left (not (is_evict x.entry.call) || gives_pages x.entry.reply) _ rest in
    record {
      carries = record { entry = x.entry; is = refl; by = refl; of_call = of_call; told = refl; settled = settled };
      exact = tt;
      epoch = (at, tt);
      fair = (record { parking = so (parks x.entry.reply) (may_park x.entry.call) parking; giving = so (is_evict x.entry.call) (gives_pages x.entry.reply) giving }, tt);
    }

-- so many frames are at home
gathers : (s : Setting) (m : Moment) (who count : ℕ) (before : List Entered) → nat_le count (s.home before) ≡ true
    → IsCarried s m who (wishes.Gather count) (heard.Brought (Frames count)) [] before
gathers s m who count before home = record {
  carries = record { brought = Frames count; told = refl; own = tt };
  exact = (Frames count, refl, record { brings = rw home refl; enough = λ e. refl; relieved = λ few. absurd (let wrong : true ≡ false = sym home ∙ few in cc) });
  epoch = tt;
  fair = tt;
}

-- frames are won first
wins : (s : Setting) (m : Moment) (who count : ℕ) (b : Brought) (made before : List Entered) → b ≡ cond (nat_le count (s.home (made ++ before))) (Frames count) Scanned
    → nat_le count (s.home before) ≡ false → OwnEvicts who made
    → Relieves (count - s.home before) (turns (age_limits Empty) s.objects) [] (reclaims_of made) → AllAt m.ages made → AllFair made
    → IsCarried s m who (wishes.Gather count) (heard.Brought b) made before
wins s m who count b made before is few own relieved at fair = record {
  carries = record { brought = b; told = refl; own = own };
  exact = (b, refl, record { brings = is; enough = λ home. absurd (let wrong : true ≡ false = sym home ∙ few in cc); relieved = λ _. relieved });
  epoch = at;
  fair = fair;
}

lends : (s : Setting) (m : Moment) (who : ℕ) (b : Brought) (before : List Entered) → b ≡ cond (nat_le 1 (s.loans (sum m.kept) before)) (Frames 1) Scanned
    → IsCarried s m who wishes.Loan (heard.Brought b) [] before
lends s m who b before is = record {
  carries = record { brought = b; told = refl; none = refl };
  exact = (b, refl, refl, is);
  epoch = tt;
  fair = tt;
}

-- all events up to a line
abbrev Stage : Setting → List Line → List ActorEvent → Type 0
Stage s lines history = OneThread s history × Ran s lines history

-- Reads and writes that wait: pieces, packets, a failure, a leave to get dirty, and a line that is put off.
waits_is_0 : Stage (with_frames 8 0 0 0) [] []
waits_is_0 = (tt, refl)

abbrev waits_1 : List ActorEvent
waits_1 =
    event_of user (Hears (heard.Replied (replies.Blocked 0)) (by user 0 (calls.Read (piece 4095 1) (page 1) Nothing) (replies.Blocked 0) ∷ []))
    ∷ event_of user (Begins (OneLine (actions.Read 0 4095 2)))
    ∷ []

waits_is_1 : Stage (with_frames 8 0 0 0) (reverse (take 1 waits_lines)) waits_1
waits_is_1 = (
  ((waits_is_0.0, refl), acts (with_frames 8 0 0 0) _ (by user 0 (calls.Read (piece 4095 1) (page 1) Nothing) (replies.Blocked 0)) _ refl refl),
  ([], waits_is_0.1, refl, refl, record { more = take 1 waits_1; is = refl; goes = (tt, refl, refl); answers = (refl, tt); rests = refl }),
)

waits_is_2 : Stage (with_frames 8 0 0 0) (reverse (take 2 waits_lines)) waits_1
waits_is_2 = (waits_is_1.0, (waits_1, waits_is_1.1, refl, refl, refl))

abbrev waits_3 : List ActorEvent
waits_3 =
    event_of pager (Hears (heard.Replied (replies.Packet (packets.Read (pages 0 1)))) (by pager 0 (calls.Packet) (replies.Packet (packets.Read (pages 0 1))) ∷ []))
    ∷ event_of pager (Begins (OneLine (actions.Act 0 calls.Packet)))
    ∷ waits_1

waits_is_3 : Stage (with_frames 8 0 0 0) (reverse (take 3 waits_lines)) waits_3
waits_is_3 = (
  ((waits_is_2.0, refl), acts (with_frames 8 0 0 0) _ (by pager 0 (calls.Packet) (replies.Packet (packets.Read (pages 0 1)))) _ refl refl),
  (waits_1, waits_is_2.1, refl, refl, record { more = take 1 waits_3; is = refl; goes = (tt, refl, refl); answers = (refl, tt); rests = refl }),
)

abbrev waits_4 : List ActorEvent
waits_4 =
    event_of pager (Hears (heard.Replied (replies.Took 1 (0 ∷ []))) (by pager 0 (calls.Supply (pages 0 1) [] (Frames 1)) (replies.Took 1 (0 ∷ [])) ∷ []))
    ∷ event_of pager (Hears (heard.Brought (Frames 1)) [])
    ∷ event_of pager (Begins (OneLine (actions.Act 0 (calls.Supply (pages 0 1) [] Nothing))))
    ∷ waits_3

waits_is_4 : Stage (with_frames 8 0 0 0) (reverse (take 4 waits_lines)) waits_4
waits_is_4 = (
  (((waits_is_3.0, refl), gathers (with_frames 8 0 0 0) _ pager 1 _ refl), acts (with_frames 8 0 0 0) _ (by pager 0 (calls.Supply (pages 0 1) [] (Frames 1)) (replies.Took 1 (0 ∷ []))) _ refl refl),
  (waits_3, waits_is_3.1, refl, refl, record { more = take 2 waits_4; is = refl; goes = ((tt, refl, refl), refl, refl); answers = (refl, (refl, tt)); rests = refl }),
)

abbrev waits_5 : List ActorEvent
waits_5 =
    event_of user (Hears (heard.Replied (replies.Blocked 1)) (by user 0 (calls.Read (piece 4096 1) (page 1) Nothing) (replies.Blocked 1) ∷ []))
    ∷ event_of user (Hears (heard.Replied (replies.Bytes (97 ∷ []))) (by user 0 (calls.Retry 0 Nothing) (replies.Bytes (97 ∷ [])) ∷ []))
    ∷ event_of user (Hears heard.Done [])
    ∷ waits_4

waits_is_5 : Stage (with_frames 8 0 0 0) (reverse (take 5 waits_lines)) waits_5
waits_is_5 = (
  (((waits_is_4.0, record { carries = record { told = refl; none = refl }; exact = tt; epoch = tt; fair = tt }), acts (with_frames 8 0 0 0) _ (by user 0 (calls.Retry 0 Nothing) (replies.Bytes (97 ∷ []))) _ refl refl), acts (with_frames 8 0 0 0) _ (by user 0 (calls.Read (piece 4096 1) (page 1) Nothing) (replies.Blocked 1)) _ refl refl),
  (waits_4, waits_is_4.1, refl, refl, record { more = take 2 waits_5; is = refl; goes = ((tt, refl, refl), refl, refl); rests = refl; later = OneLine (actions.Write 0 0 (65 ∷ [])) ∷ []; given = refl; all = λ free. absurd cc }),
)

abbrev waits_6 : List ActorEvent
waits_6 =
    event_of pager (Hears (heard.Replied (replies.Packet (packets.Read (pages 1 1)))) (by pager 0 (calls.Packet) (replies.Packet (packets.Read (pages 1 1))) ∷ []))
    ∷ event_of pager (Begins (OneLine (actions.Act 0 calls.Packet)))
    ∷ waits_5

waits_is_6 : Stage (with_frames 8 0 0 0) (reverse (take 6 waits_lines)) waits_6
waits_is_6 = (
  ((waits_is_5.0, refl), acts (with_frames 8 0 0 0) _ (by pager 0 (calls.Packet) (replies.Packet (packets.Read (pages 1 1)))) _ refl refl),
  (waits_5, waits_is_5.1, refl, refl, record { more = take 1 waits_6; is = refl; goes = (tt, refl, refl); answers = (refl, tt); rests = refl }),
)

abbrev waits_7 : List ActorEvent
waits_7 =
    event_of pager (Hears (heard.Replied (replies.Woke (1 ∷ []))) (by pager 0 (calls.Fail (pages 1 1) Io) (replies.Woke (1 ∷ [])) ∷ []))
    ∷ event_of pager (Begins (OneLine (actions.Act 0 (calls.Fail (pages 1 1) Io))))
    ∷ waits_6

waits_is_7 : Stage (with_frames 8 0 0 0) (reverse (take 7 waits_lines)) waits_7
waits_is_7 = (
  ((waits_is_6.0, refl), acts (with_frames 8 0 0 0) _ (by pager 0 (calls.Fail (pages 1 1) Io) (replies.Woke (1 ∷ []))) _ refl refl),
  (waits_6, waits_is_6.1, refl, refl, record { more = take 1 waits_7; is = refl; goes = (tt, refl, refl); answers = (refl, tt); rests = refl }),
)

abbrev waits_8 : List ActorEvent
waits_8 =
    event_of user (Hears (heard.Replied (replies.Blocked 2)) (by user 0 (calls.Write 0 (65 ∷ []) (page 0) Nothing) (replies.Blocked 2) ∷ []))
    ∷ event_of user (Begins (OneLine (actions.Write 0 0 (65 ∷ []))))
    ∷ event_of user (Hears (heard.Replied (replies.Refused (refusals.Pager Io))) (by user 0 (calls.Retry 1 Nothing) (replies.Refused (refusals.Pager Io)) ∷ []))
    ∷ event_of user (Hears heard.Done [])
    ∷ waits_7

waits_is_8 : Stage (with_frames 8 0 0 0) (reverse (take 8 waits_lines)) waits_8
waits_is_8 = (
  ((((waits_is_7.0, record { carries = record { told = refl; none = refl }; exact = tt; epoch = tt; fair = tt }), acts (with_frames 8 0 0 0) _ (by user 0 (calls.Retry 1 Nothing) (replies.Refused (refusals.Pager Io))) _ refl refl), refl), acts (with_frames 8 0 0 0) _ (by user 0 (calls.Write 0 (65 ∷ []) (page 0) Nothing) (replies.Blocked 2)) _ refl refl),
  (waits_7, waits_is_7.1, refl, refl, record { more = take 3 waits_8; is = refl; goes = (((tt, refl, refl), refl, refl), refl, refl); rests = refl; later = []; given = refl; all = λ free. refl }),
)

abbrev waits_9 : List ActorEvent
waits_9 =
    event_of pager (Hears (heard.Replied (replies.Packet (packets.Dirty (pages 0 1)))) (by pager 0 (calls.Packet) (replies.Packet (packets.Dirty (pages 0 1))) ∷ []))
    ∷ event_of pager (Begins (OneLine (actions.Act 0 calls.Packet)))
    ∷ waits_8

waits_is_9 : Stage (with_frames 8 0 0 0) (reverse (take 9 waits_lines)) waits_9
waits_is_9 = (
  ((waits_is_8.0, refl), acts (with_frames 8 0 0 0) _ (by pager 0 (calls.Packet) (replies.Packet (packets.Dirty (pages 0 1)))) _ refl refl),
  (waits_8, waits_is_8.1, refl, refl, record { more = take 1 waits_9; is = refl; goes = (tt, refl, refl); answers = (refl, tt); rests = refl }),
)

abbrev waits_10 : List ActorEvent
waits_10 =
    event_of pager (Hears (heard.Replied (replies.Woke (2 ∷ []))) (by pager 0 (calls.Dirty (pages 0 1) Nothing) (replies.Woke (2 ∷ [])) ∷ []))
    ∷ event_of pager (Begins (OneLine (actions.Act 0 (calls.Dirty (pages 0 1) Nothing))))
    ∷ waits_9

waits_is_10 : Stage (with_frames 8 0 0 0) (reverse (take 10 waits_lines)) waits_10
waits_is_10 = (
  ((waits_is_9.0, refl), acts (with_frames 8 0 0 0) _ (by pager 0 (calls.Dirty (pages 0 1) Nothing) (replies.Woke (2 ∷ []))) _ refl refl),
  (waits_9, waits_is_9.1, refl, refl, record { more = take 1 waits_10; is = refl; goes = (tt, refl, refl); answers = (refl, tt); rests = refl }),
)

abbrev waits_11 : List ActorEvent
waits_11 =
    event_of user (Hears (heard.Replied replies.Done) (by user 0 (calls.Retry 2 Nothing) replies.Done ∷ []))
    ∷ event_of user (Hears heard.Done [])
    ∷ waits_10

waits_is_11 : Stage (with_frames 8 0 0 0) (reverse (take 11 waits_lines)) waits_11
waits_is_11 = (
  ((waits_is_10.0, record { carries = record { told = refl; none = refl }; exact = tt; epoch = tt; fair = tt }), acts (with_frames 8 0 0 0) _ (by user 0 (calls.Retry 2 Nothing) replies.Done) _ refl refl),
  (waits_10, waits_is_10.1, refl, refl, record { more = take 1 waits_11; is = refl; goes = (tt, refl, refl); rests = refl; later = []; given = refl; all = λ free. refl }),
)

waits_is_12 : Stage (with_frames 8 0 0 0) (reverse (take 12 waits_lines)) waits_11
waits_is_12 = (waits_is_11.0, (waits_11, waits_is_11.1, refl, refl, refl))

pub waits_are_steps : WaitsAreSteps
waits_are_steps = steps_follow (with_frames 8 0 0 0) (reverse waits_lines) waits_11 waits_is_12.0 waits_is_12.1

-- What changes pages and tells of them: writeback, hints, pins, zeros, a resize, a write that needs a frame, and leaves.
changes_is_0 : Stage (with_frames 8 0 0 0) [] []
changes_is_0 = (tt, refl)

abbrev changes_1 : List ActorEvent
changes_1 =
    event_of pager (Hears (heard.Replied (replies.Took 2 [])) (by pager 0 (calls.Supply (pages 0 2) [] (Frames 2)) (replies.Took 2 []) ∷ []))
    ∷ event_of pager (Hears (heard.Brought (Frames 2)) [])
    ∷ event_of pager (Begins (OneLine (actions.Act 0 (calls.Supply (pages 0 2) [] Nothing))))
    ∷ []

changes_is_1 : Stage (with_frames 8 0 0 0) (reverse (take 1 changes_lines)) changes_1
changes_is_1 = (
  (((changes_is_0.0, refl), gathers (with_frames 8 0 0 0) _ pager 2 _ refl), acts (with_frames 8 0 0 0) _ (by pager 0 (calls.Supply (pages 0 2) [] (Frames 2)) (replies.Took 2 [])) _ refl refl),
  ([], changes_is_0.1, refl, refl, record { more = take 2 changes_1; is = refl; goes = ((tt, refl, refl), refl, refl); answers = (refl, (refl, tt)); rests = refl }),
)

abbrev changes_2 : List ActorEvent
changes_2 =
    event_of user (Hears (heard.Replied replies.Done) (by user 0 (calls.Write 0 (65 ∷ []) (page 0) Nothing) replies.Done ∷ []))
    ∷ event_of user (Begins (OneLine (actions.Write 0 0 (65 ∷ []))))
    ∷ changes_1

changes_is_2 : Stage (with_frames 8 0 0 0) (reverse (take 2 changes_lines)) changes_2
changes_is_2 = (
  ((changes_is_1.0, refl), acts (with_frames 8 0 0 0) _ (by user 0 (calls.Write 0 (65 ∷ []) (page 0) Nothing) replies.Done) _ refl refl),
  (changes_1, changes_is_1.1, refl, refl, record { more = take 1 changes_2; is = refl; goes = (tt, refl, refl); answers = (refl, tt); rests = refl }),
)

abbrev changes_3 : List ActorEvent
changes_3 =
    event_of pager (Hears (heard.Replied replies.Done) (by pager 0 (calls.Begin (pages 0 2) false) replies.Done ∷ []))
    ∷ event_of pager (Begins (OneLine (actions.Act 0 (calls.Begin (pages 0 2) false))))
    ∷ changes_2

changes_is_3 : Stage (with_frames 8 0 0 0) (reverse (take 3 changes_lines)) changes_3
changes_is_3 = (
  ((changes_is_2.0, refl), acts (with_frames 8 0 0 0) _ (by pager 0 (calls.Begin (pages 0 2) false) replies.Done) _ refl refl),
  (changes_2, changes_is_2.1, refl, refl, record { more = take 1 changes_3; is = refl; goes = (tt, refl, refl); answers = (refl, tt); rests = refl }),
)

abbrev changes_4 : List ActorEvent
changes_4 =
    event_of pager (Hears (heard.Replied (replies.Woke [])) (by pager 0 (calls.End (pages 0 2) None) (replies.Woke []) ∷ []))
    ∷ event_of pager (Begins (OneLine (actions.Act 0 (calls.End (pages 0 2) None))))
    ∷ changes_3

changes_is_4 : Stage (with_frames 8 0 0 0) (reverse (take 4 changes_lines)) changes_4
changes_is_4 = (
  ((changes_is_3.0, refl), acts (with_frames 8 0 0 0) _ (by pager 0 (calls.End (pages 0 2) None) (replies.Woke [])) _ refl refl),
  (changes_3, changes_is_3.1, refl, refl, record { more = take 1 changes_4; is = refl; goes = (tt, refl, refl); answers = (refl, tt); rests = refl }),
)

abbrev changes_5 : List ActorEvent
changes_5 =
    event_of pager (Hears (heard.Replied (replies.Ranges 0 [])) (by pager 0 (calls.Query (pages 0 2) 4) (replies.Ranges 0 []) ∷ []))
    ∷ event_of pager (Begins (OneLine (actions.Act 0 (calls.Query (pages 0 2) 4))))
    ∷ changes_4

changes_is_5 : Stage (with_frames 8 0 0 0) (reverse (take 5 changes_lines)) changes_5
changes_is_5 = (
  ((changes_is_4.0, refl), acts (with_frames 8 0 0 0) _ (by pager 0 (calls.Query (pages 0 2) 4) (replies.Ranges 0 [])) _ refl refl),
  (changes_4, changes_is_4.1, refl, refl, record { more = take 1 changes_5; is = refl; goes = (tt, refl, refl); answers = (refl, tt); rests = refl }),
)

abbrev changes_6 : List ActorEvent
changes_6 =
    event_of pager (Hears (heard.Replied (replies.Modified true)) (by pager 0 (calls.Stats true) (replies.Modified true) ∷ []))
    ∷ event_of pager (Begins (OneLine (actions.Act 0 (calls.Stats true))))
    ∷ changes_5

changes_is_6 : Stage (with_frames 8 0 0 0) (reverse (take 6 changes_lines)) changes_6
changes_is_6 = (
  ((changes_is_5.0, refl), acts (with_frames 8 0 0 0) _ (by pager 0 (calls.Stats true) (replies.Modified true)) _ refl refl),
  (changes_5, changes_is_5.1, refl, refl, record { more = take 1 changes_6; is = refl; goes = (tt, refl, refl); answers = (refl, tt); rests = refl }),
)

abbrev changes_7 : List ActorEvent
changes_7 =
    event_of user (Hears (heard.Replied replies.Done) (by user 0 (calls.Hint (pages 0 1) hints.Always) replies.Done ∷ []))
    ∷ event_of user (Begins (OneLine (actions.Act 0 (calls.Hint (pages 0 1) hints.Always))))
    ∷ changes_6

changes_is_7 : Stage (with_frames 8 0 0 0) (reverse (take 7 changes_lines)) changes_7
changes_is_7 = (
  ((changes_is_6.0, refl), acts (with_frames 8 0 0 0) _ (by user 0 (calls.Hint (pages 0 1) hints.Always) replies.Done) _ refl refl),
  (changes_6, changes_is_6.1, refl, refl, record { more = take 1 changes_7; is = refl; goes = (tt, refl, refl); answers = (refl, tt); rests = refl }),
)

abbrev changes_8 : List ActorEvent
changes_8 =
    event_of user (Hears (heard.Replied replies.Done) (by user 0 (calls.Pin (pages 0 1) Nothing) replies.Done ∷ []))
    ∷ event_of user (Begins (OneLine (actions.Act 0 (calls.Pin (pages 0 1) Nothing))))
    ∷ changes_7

changes_is_8 : Stage (with_frames 8 0 0 0) (reverse (take 8 changes_lines)) changes_8
changes_is_8 = (
  ((changes_is_7.0, refl), acts (with_frames 8 0 0 0) _ (by user 0 (calls.Pin (pages 0 1) Nothing) replies.Done) _ refl refl),
  (changes_7, changes_is_7.1, refl, refl, record { more = take 1 changes_8; is = refl; goes = (tt, refl, refl); answers = (refl, tt); rests = refl }),
)

abbrev changes_9 : List ActorEvent
changes_9 =
    event_of user (Hears (heard.Replied replies.Done) (by user 0 (calls.Unpin (pages 0 1)) replies.Done ∷ []))
    ∷ event_of user (Begins (OneLine (actions.Act 0 (calls.Unpin (pages 0 1)))))
    ∷ changes_8

changes_is_9 : Stage (with_frames 8 0 0 0) (reverse (take 9 changes_lines)) changes_9
changes_is_9 = (
  ((changes_is_8.0, refl), acts (with_frames 8 0 0 0) _ (by user 0 (calls.Unpin (pages 0 1)) replies.Done) _ refl refl),
  (changes_8, changes_is_8.1, refl, refl, record { more = take 1 changes_9; is = refl; goes = (tt, refl, refl); answers = (refl, tt); rests = refl }),
)

abbrev changes_10 : List ActorEvent
changes_10 =
    event_of user (Hears (heard.Replied replies.Done) (by user 0 (calls.Hint (pages 1 1) hints.Cold) replies.Done ∷ []))
    ∷ event_of user (Begins (OneLine (actions.Act 0 (calls.Hint (pages 1 1) hints.Cold))))
    ∷ changes_9

changes_is_10 : Stage (with_frames 8 0 0 0) (reverse (take 10 changes_lines)) changes_10
changes_is_10 = (
  ((changes_is_9.0, refl), acts (with_frames 8 0 0 0) _ (by user 0 (calls.Hint (pages 1 1) hints.Cold) replies.Done) _ refl refl),
  (changes_9, changes_is_9.1, refl, refl, record { more = take 1 changes_10; is = refl; goes = (tt, refl, refl); answers = (refl, tt); rests = refl }),
)

abbrev changes_11 : List ActorEvent
changes_11 =
    event_of user (Hears (heard.Replied (replies.Woke [])) (by user 0 (calls.Zero (pages 1 1)) (replies.Woke []) ∷ []))
    ∷ event_of user (Begins (OneLine (actions.Act 0 (calls.Zero (pages 1 1)))))
    ∷ changes_10

changes_is_11 : Stage (with_frames 8 0 0 0) (reverse (take 11 changes_lines)) changes_11
changes_is_11 = (
  ((changes_is_10.0, refl), acts (with_frames 8 0 0 0) _ (by user 0 (calls.Zero (pages 1 1)) (replies.Woke [])) _ refl refl),
  (changes_10, changes_is_10.1, refl, refl, record { more = take 1 changes_11; is = refl; goes = (tt, refl, refl); answers = (refl, tt); rests = refl }),
)

abbrev changes_12 : List ActorEvent
changes_12 =
    event_of user (Hears (heard.Site (sites.Resized (replies.Woke []))) (by user 0 (calls.Resize 4) (replies.Woke []) ∷ []))
    ∷ event_of user (Begins (OneLine (actions.Act 0 (calls.Resize 4))))
    ∷ changes_11

changes_is_12 : Stage (with_frames 8 0 0 0) (reverse (take 12 changes_lines)) changes_12
changes_is_12 = (
  ((changes_is_11.0, refl), resizes (with_frames 8 0 0 0) _ (by user 0 (calls.Resize 4) (replies.Woke [])) _ 4 refl refl refl refl),
  (changes_11, changes_is_11.1, refl, refl, record { more = take 1 changes_12; is = refl; goes = (tt, refl, refl); answers = (refl, tt); rests = refl }),
)

abbrev changes_13 : List ActorEvent
changes_13 =
    event_of user (Hears (heard.Replied replies.Done) (by user 0 (calls.Write 12288 (65 ∷ []) (page 3) (Frames 1)) replies.Done ∷ []))
    ∷ event_of user (Hears (heard.Brought (Frames 1)) [])
    ∷ event_of user (Hears (heard.Replied (replies.Needs 1)) (by user 0 (calls.Write 12288 (65 ∷ []) (page 3) Nothing) (replies.Needs 1) ∷ []))
    ∷ event_of user (Begins (OneLine (actions.Write 0 12288 (65 ∷ []))))
    ∷ changes_12

changes_is_13 : Stage (with_frames 8 0 0 0) (reverse (take 13 changes_lines)) changes_13
changes_is_13 = (
  ((((changes_is_12.0, refl), acts (with_frames 8 0 0 0) _ (by user 0 (calls.Write 12288 (65 ∷ []) (page 3) Nothing) (replies.Needs 1)) _ refl refl), gathers (with_frames 8 0 0 0) _ user 1 _ refl), acts (with_frames 8 0 0 0) _ (by user 0 (calls.Write 12288 (65 ∷ []) (page 3) (Frames 1)) replies.Done) _ refl refl),
  (changes_12, changes_is_12.1, refl, refl, record { more = take 3 changes_13; is = refl; goes = (((tt, refl, refl), refl, refl), refl, refl); answers = (refl, (refl, (refl, tt))); rests = refl }),
)

abbrev changes_14 : List ActorEvent
changes_14 =
    event_of other (Hears (heard.Replied (replies.Left 0)) (by other 0 (calls.Leave roles.User) (replies.Left 0) ∷ []))
    ∷ event_of other (Begins (OneLine (actions.Act 0 (calls.Leave roles.User))))
    ∷ changes_13

changes_is_14 : Stage (with_frames 8 0 0 0) (reverse (take 14 changes_lines)) changes_14
changes_is_14 = (
  ((changes_is_13.0, refl), acts (with_frames 8 0 0 0) _ (by other 0 (calls.Leave roles.User) (replies.Left 0)) _ refl refl),
  (changes_13, changes_is_13.1, refl, refl, record { more = take 1 changes_14; is = refl; goes = (tt, refl, refl); answers = (refl, tt); rests = refl }),
)

abbrev changes_15 : List ActorEvent
changes_15 =
    event_of pager (Hears (heard.Replied (replies.Woke [])) (by pager 0 (calls.Detach) (replies.Woke []) ∷ []))
    ∷ event_of pager (Begins (OneLine (actions.Act 0 calls.Detach)))
    ∷ changes_14

changes_is_15 : Stage (with_frames 8 0 0 0) (reverse (take 15 changes_lines)) changes_15
changes_is_15 = (
  ((changes_is_14.0, refl), acts (with_frames 8 0 0 0) _ (by pager 0 (calls.Detach) (replies.Woke [])) _ refl refl),
  (changes_14, changes_is_14.1, refl, refl, record { more = take 1 changes_15; is = refl; goes = (tt, refl, refl); answers = (refl, tt); rests = refl }),
)

abbrev changes_16 : List ActorEvent
changes_16 =
    event_of user (Hears (heard.Replied (replies.Left 0)) (by user 0 (calls.Leave roles.User) (replies.Left 0) ∷ []))
    ∷ event_of user (Begins (OneLine (actions.Act 0 (calls.Leave roles.User))))
    ∷ changes_15

changes_is_16 : Stage (with_frames 8 0 0 0) (reverse (take 16 changes_lines)) changes_16
changes_is_16 = (
  ((changes_is_15.0, refl), acts (with_frames 8 0 0 0) _ (by user 0 (calls.Leave roles.User) (replies.Left 0)) _ refl refl),
  (changes_15, changes_is_15.1, refl, refl, record { more = take 1 changes_16; is = refl; goes = (tt, refl, refl); answers = (refl, tt); rests = refl }),
)

abbrev changes_17 : List ActorEvent
changes_17 =
    event_of pager (Hears (heard.Replied (replies.Left 0)) (by pager 0 (calls.Leave roles.Pager) (replies.Left 0) ∷ []))
    ∷ event_of pager (Begins (OneLine (actions.Act 0 (calls.Leave roles.Pager))))
    ∷ changes_16

changes_is_17 : Stage (with_frames 8 0 0 0) (reverse (take 17 changes_lines)) changes_17
changes_is_17 = (
  ((changes_is_16.0, refl), acts (with_frames 8 0 0 0) _ (by pager 0 (calls.Leave roles.Pager) (replies.Left 0)) _ refl refl),
  (changes_16, changes_is_16.1, refl, refl, record { more = take 1 changes_17; is = refl; goes = (tt, refl, refl); answers = (refl, tt); rests = refl }),
)

pub changes_are_steps : ChangesAreSteps
changes_are_steps = steps_follow (with_frames 8 0 0 0) (reverse changes_lines) changes_17 changes_is_17.0 changes_is_17.1

-- Loaned frames: borrowed, called back and kept, lent again.
loans_is_0 : Stage (with_frames 8 2 0 0) [] []
loans_is_0 = (tt, refl)

abbrev loans_1 : List ActorEvent
loans_1 =
    event_of pager (Hears (heard.Replied (replies.Took 2 [])) (by pager 0 (calls.Supply (pages 0 2) [] (Frames 2)) (replies.Took 2 []) ∷ []))
    ∷ event_of pager (Hears (heard.Brought (Frames 2)) [])
    ∷ event_of pager (Begins (OneLine (actions.Act 0 (calls.Supply (pages 0 2) [] Nothing))))
    ∷ []

loans_is_1 : Stage (with_frames 8 2 0 0) (reverse (take 1 loans_lines)) loans_1
loans_is_1 = (
  (((loans_is_0.0, refl), gathers (with_frames 8 2 0 0) _ pager 2 _ refl), acts (with_frames 8 2 0 0) _ (by pager 0 (calls.Supply (pages 0 2) [] (Frames 2)) (replies.Took 2 [])) _ refl refl),
  ([], loans_is_0.1, refl, refl, record { more = take 2 loans_1; is = refl; goes = ((tt, refl, refl), refl, refl); answers = (refl, (refl, tt)); rests = refl }),
)

abbrev loans_2 : List ActorEvent
loans_2 =
    event_of user (Hears (heard.Replied replies.Done) (by user 0 (calls.Hint (pages 0 1) hints.Always) replies.Done ∷ []))
    ∷ event_of user (Begins (OneLine (actions.Act 0 (calls.Hint (pages 0 1) hints.Always))))
    ∷ loans_1

loans_is_2 : Stage (with_frames 8 2 0 0) (reverse (take 2 loans_lines)) loans_2
loans_is_2 = (
  ((loans_is_1.0, refl), acts (with_frames 8 2 0 0) _ (by user 0 (calls.Hint (pages 0 1) hints.Always) replies.Done) _ refl refl),
  (loans_1, loans_is_1.1, refl, refl, record { more = take 1 loans_2; is = refl; goes = (tt, refl, refl); answers = (refl, tt); rests = refl }),
)

abbrev loans_3 : List ActorEvent
loans_3 =
    event_of evictor (Hears (heard.Replied (replies.Borrowed true)) (by evictor 0 (calls.Borrow (page 0) (Frames 1)) (replies.Borrowed true) ∷ []))
    ∷ event_of evictor (Hears (heard.Brought (Frames 1)) [])
    ∷ event_of evictor (Hears (heard.Replied (replies.Needs 1)) (by evictor 0 (calls.Borrow (page 0) Nothing) (replies.Needs 1) ∷ []))
    ∷ event_of evictor (Begins (OneLine (actions.Act 0 (calls.Borrow (page 0) Nothing))))
    ∷ loans_2

loans_is_3 : Stage (with_frames 8 2 0 0) (reverse (take 3 loans_lines)) loans_3
loans_is_3 = (
  ((((loans_is_2.0, refl), acts (with_frames 8 2 0 0) _ (by evictor 0 (calls.Borrow (page 0) Nothing) (replies.Needs 1)) _ refl refl), lends (with_frames 8 2 0 0) _ evictor (Frames 1) _ refl), acts (with_frames 8 2 0 0) _ (by evictor 0 (calls.Borrow (page 0) (Frames 1)) (replies.Borrowed true)) _ refl refl),
  (loans_2, loans_is_2.1, refl, refl, record { more = take 3 loans_3; is = refl; goes = (((tt, refl, refl), refl, refl), refl, refl); answers = (refl, (refl, (refl, tt))); rests = refl }),
)

abbrev loans_4 : List ActorEvent
loans_4 =
    event_of evictor (Hears (heard.Replied (replies.Borrowed true)) (by evictor 0 (calls.Borrow (page 1) (Frames 1)) (replies.Borrowed true) ∷ []))
    ∷ event_of evictor (Hears (heard.Brought (Frames 1)) [])
    ∷ event_of evictor (Hears (heard.Replied (replies.Needs 1)) (by evictor 0 (calls.Borrow (page 1) Nothing) (replies.Needs 1) ∷ []))
    ∷ event_of evictor (Begins (OneLine (actions.Act 0 (calls.Borrow (page 1) Nothing))))
    ∷ loans_3

loans_is_4 : Stage (with_frames 8 2 0 0) (reverse (take 4 loans_lines)) loans_4
loans_is_4 = (
  ((((loans_is_3.0, refl), acts (with_frames 8 2 0 0) _ (by evictor 0 (calls.Borrow (page 1) Nothing) (replies.Needs 1)) _ refl refl), lends (with_frames 8 2 0 0) _ evictor (Frames 1) _ refl), acts (with_frames 8 2 0 0) _ (by evictor 0 (calls.Borrow (page 1) (Frames 1)) (replies.Borrowed true)) _ refl refl),
  (loans_3, loans_is_3.1, refl, refl, record { more = take 3 loans_4; is = refl; goes = (((tt, refl, refl), refl, refl), refl, refl); answers = (refl, (refl, (refl, tt))); rests = refl }),
)

abbrev loans_5 : List ActorEvent
loans_5 =
    event_of evictor (Hears (heard.Replied (replies.Borrowed false)) (by evictor 0 (calls.Borrow (page 0) Nothing) (replies.Borrowed false) ∷ []))
    ∷ event_of evictor (Begins (OneLine (actions.Act 0 (calls.Borrow (page 0) Nothing))))
    ∷ loans_4

loans_is_5 : Stage (with_frames 8 2 0 0) (reverse (take 5 loans_lines)) loans_5
loans_is_5 = (
  ((loans_is_4.0, refl), acts (with_frames 8 2 0 0) _ (by evictor 0 (calls.Borrow (page 0) Nothing) (replies.Borrowed false)) _ refl refl),
  (loans_4, loans_is_4.1, refl, refl, record { more = take 1 loans_5; is = refl; goes = (tt, refl, refl); answers = (refl, tt); rests = refl }),
)

abbrev loans_6 : List ActorEvent
loans_6 =
    event_of evictor (Hears heard.Done [])
    ∷ event_of evictor (Hears (heard.Replied (replies.Vacated (page 0 ∷ []) (page 1 ∷ []))) (by evictor 0 (calls.Vacate (Frames 1)) (replies.Vacated (page 0 ∷ []) (page 1 ∷ [])) ∷ []))
    ∷ event_of evictor (Hears (heard.Brought (Frames 1)) [])
    ∷ event_of evictor (Hears (heard.Replied (replies.Needs 1)) (by evictor 0 (calls.Vacate Nothing) (replies.Needs 1) ∷ []))
    ∷ event_of evictor (Begins (OneLine actions.Recall))
    ∷ loans_5

loans_is_6 : Stage (with_frames 8 2 0 0) (reverse (take 6 loans_lines)) loans_6
loans_is_6 = (
  (((((loans_is_5.0, refl), acts (with_frames 8 2 0 0) _ (by evictor 0 (calls.Vacate Nothing) (replies.Needs 1)) _ refl refl), gathers (with_frames 8 2 0 0) _ evictor 1 _ refl), acts (with_frames 8 2 0 0) _ (by evictor 0 (calls.Vacate (Frames 1)) (replies.Vacated (page 0 ∷ []) (page 1 ∷ []))) _ refl refl), record { carries = record { told = refl; none = refl }; exact = tt; epoch = tt; fair = tt }),
  (loans_5, loans_is_5.1, refl, refl, record { more = take 4 loans_6; is = refl; goes = ((((tt, refl, refl), refl, refl), refl, refl), refl, refl); answers = (refl, (refl, (refl, (refl, tt)))); rests = refl }),
)

abbrev loans_7 : List ActorEvent
loans_7 =
    event_of evictor (Hears (heard.Replied (replies.Refused refusals.NoFrames)) (by evictor 0 (calls.Borrow (page 0) Scanned) (replies.Refused refusals.NoFrames) ∷ []))
    ∷ event_of evictor (Hears (heard.Brought Scanned) [])
    ∷ event_of evictor (Hears (heard.Replied (replies.Needs 1)) (by evictor 0 (calls.Borrow (page 0) Nothing) (replies.Needs 1) ∷ []))
    ∷ event_of evictor (Begins (OneLine (actions.Act 0 (calls.Borrow (page 0) Nothing))))
    ∷ loans_6

loans_is_7 : Stage (with_frames 8 2 0 0) (reverse (take 7 loans_lines)) loans_7
loans_is_7 = (
  ((((loans_is_6.0, refl), acts (with_frames 8 2 0 0) _ (by evictor 0 (calls.Borrow (page 0) Nothing) (replies.Needs 1)) _ refl refl), lends (with_frames 8 2 0 0) _ evictor Scanned _ refl), acts (with_frames 8 2 0 0) _ (by evictor 0 (calls.Borrow (page 0) Scanned) (replies.Refused refusals.NoFrames)) _ refl refl),
  (loans_6, loans_is_6.1, refl, refl, record { more = take 3 loans_7; is = refl; goes = (((tt, refl, refl), refl, refl), refl, refl); answers = (refl, (refl, (refl, tt))); rests = refl }),
)

abbrev loans_8 : List ActorEvent
loans_8 =
    event_of evictor (Hears heard.Done [])
    ∷ event_of evictor (Begins (OneLine actions.Lend))
    ∷ loans_7

loans_is_8 : Stage (with_frames 8 2 0 0) (reverse (take 8 loans_lines)) loans_8
loans_is_8 = (
  ((loans_is_7.0, refl), record { carries = record { told = refl; none = refl }; exact = tt; epoch = tt; fair = tt }),
  (loans_7, loans_is_7.1, refl, refl, record { more = take 1 loans_8; is = refl; goes = (tt, refl, refl); answers = (refl, tt); rests = refl }),
)

abbrev loans_9 : List ActorEvent
loans_9 =
    event_of evictor (Hears (heard.Replied (replies.Borrowed true)) (by evictor 0 (calls.Borrow (page 0) (Frames 1)) (replies.Borrowed true) ∷ []))
    ∷ event_of evictor (Hears (heard.Brought (Frames 1)) [])
    ∷ event_of evictor (Hears (heard.Replied (replies.Needs 1)) (by evictor 0 (calls.Borrow (page 0) Nothing) (replies.Needs 1) ∷ []))
    ∷ event_of evictor (Begins (OneLine (actions.Act 0 (calls.Borrow (page 0) Nothing))))
    ∷ loans_8

loans_is_9 : Stage (with_frames 8 2 0 0) (reverse (take 9 loans_lines)) loans_9
loans_is_9 = (
  ((((loans_is_8.0, refl), acts (with_frames 8 2 0 0) _ (by evictor 0 (calls.Borrow (page 0) Nothing) (replies.Needs 1)) _ refl refl), lends (with_frames 8 2 0 0) _ evictor (Frames 1) _ refl), acts (with_frames 8 2 0 0) _ (by evictor 0 (calls.Borrow (page 0) (Frames 1)) (replies.Borrowed true)) _ refl refl),
  (loans_8, loans_is_8.1, refl, refl, record { more = take 3 loans_9; is = refl; goes = (((tt, refl, refl), refl, refl), refl, refl); answers = (refl, (refl, (refl, tt))); rests = refl }),
)

pub loans_are_steps : LoansAreSteps
loans_are_steps = steps_follow (with_frames 8 2 0 0) (reverse loans_lines) loans_9 loans_is_9.0 loans_is_9.1

-- Frames run short: watches and reliefs, evicts, supplies that gather with a relief, and one that hands in a scan.
short_is_0 : Stage (with_frames 4 0 2 1) [] []
short_is_0 = (tt, refl)

abbrev short_1 : List ActorEvent
short_1 =
    event_of pager (Hears (heard.Replied (replies.Took 3 [])) (by pager 0 (calls.Supply (pages 0 3) [] (Frames 3)) (replies.Took 3 []) ∷ []))
    ∷ event_of pager (Hears (heard.Brought (Frames 3)) [])
    ∷ event_of pager (Begins (OneLine (actions.Act 0 (calls.Supply (pages 0 3) [] Nothing))))
    ∷ []

short_is_1 : Stage (with_frames 4 0 2 1) (reverse (take 1 short_lines)) short_1
short_is_1 = (
  (((short_is_0.0, refl), gathers (with_frames 4 0 2 1) _ pager 3 _ refl), acts (with_frames 4 0 2 1) _ (by pager 0 (calls.Supply (pages 0 3) [] (Frames 3)) (replies.Took 3 [])) _ refl refl),
  ([], short_is_0.1, refl, refl, record { more = take 2 short_1; is = refl; goes = ((tt, refl, refl), refl, refl); answers = (refl, (refl, tt)); rests = refl }),
)

abbrev short_2 : List ActorEvent
short_2 =
    event_of evictor (Hears heard.Done (by evictor 0 (calls.Evict 4 1) (replies.Pages []) ∷ []))
    ∷ event_of evictor (Begins (OneLine actions.Watch))
    ∷ short_1

short_is_2 : Stage (with_frames 4 0 2 1) (reverse (take 2 short_lines)) short_2
short_is_2 = (
  ((short_is_1.0, refl), record { carries = (refl, (refl, refl, refl, tt)); exact = inr (omega arith, (0, omega arith, refl)); epoch = (refl, tt); fair = (record { parking = λ p. absurd cc; giving = λ e. refl }, tt) }),
  (short_1, short_is_1.1, refl, refl, record { more = take 1 short_2; is = refl; goes = (tt, refl, refl); answers = (refl, tt); rests = refl }),
)

abbrev short_3 : List ActorEvent
short_3 =
    event_of evictor (Hears heard.Done [])
    ∷ event_of evictor (Begins (OneLine actions.Age))
    ∷ short_2

short_is_3 : Stage (with_frames 4 0 2 1) (reverse (take 3 short_lines)) short_3
short_is_3 = (
  ((short_is_2.0, refl), record { carries = record { told = refl; none = refl }; exact = tt; epoch = tt; fair = tt }),
  (short_2, short_is_2.1, refl, refl, record { more = take 1 short_3; is = refl; goes = (tt, refl, refl); answers = (refl, tt); rests = refl }),
)

abbrev short_4 : List ActorEvent
short_4 =
    event_of evictor (Hears heard.Done [])
    ∷ event_of evictor (Begins (OneLine actions.Age))
    ∷ short_3

short_is_4 : Stage (with_frames 4 0 2 1) (reverse (take 4 short_lines)) short_4
short_is_4 = (
  ((short_is_3.0, refl), record { carries = record { told = refl; none = refl }; exact = tt; epoch = tt; fair = tt }),
  (short_3, short_is_3.1, refl, refl, record { more = take 1 short_4; is = refl; goes = (tt, refl, refl); answers = (refl, tt); rests = refl }),
)

abbrev short_5 : List ActorEvent
short_5 =
    event_of evictor (Hears heard.Done [])
    ∷ event_of evictor (Begins (OneLine actions.Age))
    ∷ short_4

short_is_5 : Stage (with_frames 4 0 2 1) (reverse (take 5 short_lines)) short_5
short_is_5 = (
  ((short_is_4.0, refl), record { carries = record { told = refl; none = refl }; exact = tt; epoch = tt; fair = tt }),
  (short_4, short_is_4.1, refl, refl, record { more = take 1 short_5; is = refl; goes = (tt, refl, refl); answers = (refl, tt); rests = refl }),
)

abbrev short_6 : List ActorEvent
short_6 =
    event_of evictor (Hears heard.Done [])
    ∷ event_of evictor (Begins (OneLine actions.Age))
    ∷ short_5

short_is_6 : Stage (with_frames 4 0 2 1) (reverse (take 6 short_lines)) short_6
short_is_6 = (
  ((short_is_5.0, refl), record { carries = record { told = refl; none = refl }; exact = tt; epoch = tt; fair = tt }),
  (short_5, short_is_5.1, refl, refl, record { more = take 1 short_6; is = refl; goes = (tt, refl, refl); answers = (refl, tt); rests = refl }),
)

abbrev short_7 : List ActorEvent
short_7 =
    event_of evictor (Hears heard.Done (by evictor 4 (calls.Evict 4 1) (replies.Pages (page 0 ∷ [])) ∷ []))
    ∷ event_of evictor (Begins (OneLine actions.Watch))
    ∷ short_6

short_is_7 : Stage (with_frames 4 0 2 1) (reverse (take 7 short_lines)) short_7
short_is_7 = (
  ((short_is_6.0, refl), record { carries = (refl, (refl, refl, refl, tt)); exact = inr (omega arith, (1, omega arith, refl)); epoch = (refl, tt); fair = (record { parking = λ p. absurd cc; giving = λ e. refl }, tt) }),
  (short_6, short_is_6.1, refl, refl, record { more = take 1 short_7; is = refl; goes = (tt, refl, refl); answers = (refl, tt); rests = refl }),
)

abbrev short_8 : List ActorEvent
short_8 =
    event_of evictor (Hears heard.Done [])
    ∷ event_of evictor (Begins (OneLine actions.Watch))
    ∷ short_7

short_is_8 : Stage (with_frames 4 0 2 1) (reverse (take 8 short_lines)) short_8
short_is_8 = (
  ((short_is_7.0, refl), record { carries = (refl, tt); exact = refl; epoch = tt; fair = tt }),
  (short_7, short_is_7.1, refl, refl, record { more = take 1 short_8; is = refl; goes = (tt, refl, refl); answers = (refl, tt); rests = refl }),
)

abbrev short_9 : List ActorEvent
short_9 =
    event_of evictor (Hears heard.Done (by evictor 4 (calls.Evict 4 2) (replies.Pages (page 1 ∷ page 2 ∷ [])) ∷ []))
    ∷ event_of evictor (Begins (OneLine (actions.Relieve 2)))
    ∷ short_8

short_is_9 : Stage (with_frames 4 0 2 1) (reverse (take 9 short_lines)) short_9
short_is_9 = (
  ((short_is_8.0, refl), record { carries = (refl, (refl, refl, refl, tt)); exact = inr (omega arith, (2, omega arith, inl (refl, refl))); epoch = (refl, tt); fair = (record { parking = λ p. absurd cc; giving = λ e. refl }, tt) }),
  (short_8, short_is_8.1, refl, refl, record { more = take 1 short_9; is = refl; goes = (tt, refl, refl); answers = (refl, tt); rests = refl }),
)

abbrev short_10 : List ActorEvent
short_10 =
    event_of pager (Hears (heard.Replied (replies.Took 4 [])) (by pager 4 (calls.Supply (pages 0 4) [] (Frames 4)) (replies.Took 4 []) ∷ []))
    ∷ event_of pager (Hears (heard.Brought (Frames 4)) [])
    ∷ event_of pager (Begins (OneLine (actions.Act 0 (calls.Supply (pages 0 4) [] Nothing))))
    ∷ short_9

short_is_10 : Stage (with_frames 4 0 2 1) (reverse (take 10 short_lines)) short_10
short_is_10 = (
  (((short_is_9.0, refl), gathers (with_frames 4 0 2 1) _ pager 4 _ refl), acts (with_frames 4 0 2 1) _ (by pager 4 (calls.Supply (pages 0 4) [] (Frames 4)) (replies.Took 4 [])) _ refl refl),
  (short_9, short_is_9.1, refl, refl, record { more = take 2 short_10; is = refl; goes = ((tt, refl, refl), refl, refl); answers = (refl, (refl, tt)); rests = refl }),
)

abbrev short_11 : List ActorEvent
short_11 =
    event_of evictor (Hears (heard.Replied (replies.Pages (page 0 ∷ []))) (by evictor 4 (calls.Evict 0 1) (replies.Pages (page 0 ∷ [])) ∷ []))
    ∷ event_of evictor (Begins (OneLine (actions.Act 0 (calls.Evict 0 1))))
    ∷ short_10

short_is_11 : Stage (with_frames 4 0 2 1) (reverse (take 11 short_lines)) short_11
short_is_11 = (
  ((short_is_10.0, refl), acts (with_frames 4 0 2 1) _ (by evictor 4 (calls.Evict 0 1) (replies.Pages (page 0 ∷ []))) _ refl refl),
  (short_10, short_is_10.1, refl, refl, record { more = take 1 short_11; is = refl; goes = (tt, refl, refl); answers = (refl, tt); rests = refl }),
)

abbrev short_12 : List ActorEvent
short_12 =
    event_of pager (Hears (heard.Replied (replies.Took 1 [])) (by pager 4 (calls.Supply (pages 0 1) [] (Frames 1)) (replies.Took 1 []) ∷ []))
    ∷ event_of pager (Hears (heard.Brought (Frames 1)) [])
    ∷ event_of pager (Begins (OneLine (actions.Act 0 (calls.Supply (pages 0 1) [] Nothing))))
    ∷ short_11

short_is_12 : Stage (with_frames 4 0 2 1) (reverse (take 12 short_lines)) short_12
short_is_12 = (
  (((short_is_11.0, refl), gathers (with_frames 4 0 2 1) _ pager 1 _ refl), acts (with_frames 4 0 2 1) _ (by pager 4 (calls.Supply (pages 0 1) [] (Frames 1)) (replies.Took 1 [])) _ refl refl),
  (short_11, short_is_11.1, refl, refl, record { more = take 2 short_12; is = refl; goes = ((tt, refl, refl), refl, refl); answers = (refl, (refl, tt)); rests = refl }),
)

abbrev short_13 : List ActorEvent
short_13 =
    event_of pager (Hears (heard.Replied (replies.Took 1 [])) (by pager 4 (calls.Supply (pages 4 1) [] (Frames 1)) (replies.Took 1 []) ∷ []))
    ∷ event_of pager (Hears (heard.Brought (Frames 1)) (by pager 4 (calls.Evict 0 1) (replies.Pages (page 1 ∷ [])) ∷ by pager 4 (calls.Evict 4 1) (replies.Pages []) ∷ []))
    ∷ event_of pager (Begins (OneLine (actions.Act 0 (calls.Supply (pages 4 1) [] Nothing))))
    ∷ short_12

short_is_13 : Stage (with_frames 4 0 2 1) (reverse (take 13 short_lines)) short_13
short_is_13 = (
  (((short_is_12.0, refl), wins (with_frames 4 0 2 1) _ pager 1 (Frames 1) (by pager 4 (calls.Evict 0 1) (replies.Pages (page 1 ∷ [])) ∷ by pager 4 (calls.Evict 4 1) (replies.Pages []) ∷ []) _ refl refl (refl, refl, refl, (refl, refl, refl, tt)) (inr (omega arith, (0, omega arith, inr (omega arith, (1, omega arith, refl))))) (refl, (refl, tt)) (record { parking = λ p. absurd cc; giving = λ e. refl }, (record { parking = λ p. absurd cc; giving = λ e. refl }, tt))), acts (with_frames 4 0 2 1) _ (by pager 4 (calls.Supply (pages 4 1) [] (Frames 1)) (replies.Took 1 [])) _ refl refl),
  (short_12, short_is_12.1, refl, refl, record { more = take 2 short_13; is = refl; goes = ((tt, refl, refl), refl, refl); answers = (refl, (refl, tt)); rests = refl }),
)

abbrev short_14 : List ActorEvent
short_14 =
    event_of user (Hears (heard.Replied replies.Done) (by user 4 (calls.Hint (pages 0 5) hints.Always) replies.Done ∷ []))
    ∷ event_of user (Begins (OneLine (actions.Act 0 (calls.Hint (pages 0 5) hints.Always))))
    ∷ short_13

short_is_14 : Stage (with_frames 4 0 2 1) (reverse (take 14 short_lines)) short_14
short_is_14 = (
  ((short_is_13.0, refl), acts (with_frames 4 0 2 1) _ (by user 4 (calls.Hint (pages 0 5) hints.Always) replies.Done) _ refl refl),
  (short_13, short_is_13.1, refl, refl, record { more = take 1 short_14; is = refl; goes = (tt, refl, refl); answers = (refl, tt); rests = refl }),
)

abbrev short_15 : List ActorEvent
short_15 =
    event_of pager (Hears (heard.Replied (replies.Refused refusals.NoFrames)) (by pager 4 (calls.Supply (pages 1 1) [] Scanned) (replies.Refused refusals.NoFrames) ∷ []))
    ∷ event_of pager (Hears (heard.Brought Scanned) (by pager 4 (calls.Evict 0 1) (replies.Pages []) ∷ by pager 4 (calls.Evict 4 1) (replies.Pages []) ∷ []))
    ∷ event_of pager (Begins (OneLine (actions.Act 0 (calls.Supply (pages 1 1) [] Nothing))))
    ∷ short_14

short_is_15 : Stage (with_frames 4 0 2 1) (reverse (take 15 short_lines)) short_15
short_is_15 = (
  (((short_is_14.0, refl), wins (with_frames 4 0 2 1) _ pager 1 Scanned (by pager 4 (calls.Evict 0 1) (replies.Pages []) ∷ by pager 4 (calls.Evict 4 1) (replies.Pages []) ∷ []) _ refl refl (refl, refl, refl, (refl, refl, refl, tt)) (inr (omega arith, (0, omega arith, inr (omega arith, (0, omega arith, refl))))) (refl, (refl, tt)) (record { parking = λ p. absurd cc; giving = λ e. refl }, (record { parking = λ p. absurd cc; giving = λ e. refl }, tt))), acts (with_frames 4 0 2 1) _ (by pager 4 (calls.Supply (pages 1 1) [] Scanned) (replies.Refused refusals.NoFrames)) _ refl refl),
  (short_14, short_is_14.1, refl, refl, record { more = take 2 short_15; is = refl; goes = ((tt, refl, refl), refl, refl); answers = (refl, (refl, tt)); rests = refl }),
)

pub reliefs_are_steps : ReliefsAreSteps
reliefs_are_steps = steps_follow (with_frames 4 0 2 1) (reverse short_lines) short_15 short_is_15.0 short_is_15.1
