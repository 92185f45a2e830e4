-- How a call ends, by what it wrote or why it didn't.
use Rattle.std.proofs.Common.{◌≡◌, ◌≤◌, ℕ, inl, inr, false, List, [], ◌∷◌, refl, sym, subst, arith, lit≤, lit<}
use Rattle.std.specs.Prelude.{◌≢◌, Contains, String, Result, Ok, Err, IfOk, OnErr, codes}
use Rattle.std.specs.Io.KnownBytes.{Appends}
use Rattle.up_outside.specs.Front.{AppendsFront}
use Rattle.up_outside.specs.declared.sink.Sink as sinks
use Rattle.up_outside.specs.declared.source.Source as sources
use Rattle.pagerd.specs.Commands.{Asks, AskNothing, reads}
use Rattle.pagerd.specs.Outputs.{CallsFor, by_words, status_with}
use Rattle.pagerd.specs.Outsides.{Call, call, told_before, told_now, Stands, Failed, IsUntouched}
use Rattle.pagerd.specs.Top.{Answered, wrote_journals, wrote_legal, wrote_summary, wrote_illegal, wrote_words, wrote_script_fault, wrote_unbuilt, wrote_journals_fault, source_failed, sink_failed, out_of_memory, Wrote, WroteFront, AnswersDue, Did}
use Rattle.pagerd.specs.declared.command.Command.{Command}
use Rattle.pagerd.specs.declared.output.Output.{Output}
use Rattle.pagerd.specs.declared.output.Output.TheVariants.{Journals, ScriptFault, Unbuilt, Legal, Illegal, JournalsFault, Summary, Words}
use Rattle.pagerd.proofs.Dues.{output_due}

-- an output that was written is the answer of its status
pub answered_with : {S K : Type 0} (call : Call S K) (output : Output) → Wrote call output →
    Answered call (status_with output)
answered_with call Journals wrote = wrote_journals wrote
answered_with call Legal wrote = wrote_legal wrote
answered_with call Summary wrote = wrote_summary wrote
answered_with call Illegal wrote = wrote_illegal wrote
answered_with call Words wrote = wrote_words wrote
answered_with call ScriptFault wrote = wrote_script_fault wrote
answered_with call Unbuilt wrote = wrote_unbuilt wrote
answered_with call JournalsFault wrote = wrote_journals_fault wrote

-- and no status of a failure
small_status : (output : Output) → status_with output ≤ 3
small_status Journals = lit≤ tt
small_status Legal = lit≤ tt
small_status Summary = lit≤ tt
small_status Illegal = lit≤ tt
small_status Words = lit≤ tt
small_status ScriptFault = lit≤ tt
small_status Unbuilt = lit≤ tt
small_status JournalsFault = lit≤ tt

pub no_failure : (output : Output) (status : ℕ) → status ≡ status_with output →
    (status ≢ 4) × (status ≢ 5) × (status ≢ 7)
no_failure output status is =
    let small : status_with output ≤ 3 = small_status output in
    (λ four. omega arith, λ five. omega arith, λ seven. omega arith)

pub status_listed : {S K : Type 0} (call : Call S K) (status : ℕ) → Answered call status →
    Contains (0 ∷ 1 ∷ 2 ∷ 3 ∷ 4 ∷ 5 ∷ 7 ∷ []) status
status_listed call _ (wrote_journals w) = (0, lit< tt, refl)
status_listed call _ (wrote_legal w) = (0, lit< tt, refl)
status_listed call _ (wrote_summary w) = (0, lit< tt, refl)
status_listed call _ (wrote_illegal w) = (1, lit< tt, refl)
status_listed call _ (wrote_words w) = (2, lit< tt, refl)
status_listed call _ (wrote_script_fault w) = (3, lit< tt, refl)
status_listed call _ (wrote_unbuilt w) = (3, lit< tt, refl)
status_listed call _ (wrote_journals_fault w) = (3, lit< tt, refl)
status_listed call _ (source_failed failed kept) = (4, lit< tt, refl)
status_listed call _ (sink_failed failed front) = (5, lit< tt, refl)
status_listed call _ (out_of_memory kept) = (6, lit< tt, refl)

-- where neither count rose, the status is the one that is due, or 7
pub answers_due : {S K : Type 0} (call : Call S K) (status : ℕ) → Answered call status →
    AnswersDue call status
answers_due call _ (wrote_journals w) due is none = inl (output_due call.input Journals w.text due w.is is)
answers_due call _ (wrote_legal w) due is none = inl (output_due call.input Legal w.text due w.is is)
answers_due call _ (wrote_summary w) due is none = inl (output_due call.input Summary w.text due w.is is)
answers_due call _ (wrote_illegal w) due is none = inl (output_due call.input Illegal w.text due w.is is)
answers_due call _ (wrote_words w) due is none = inl (output_due call.input Words w.text due w.is is)
answers_due call _ (wrote_script_fault w) due is none =
    inl (output_due call.input ScriptFault w.text due w.is is)
answers_due call _ (wrote_unbuilt w) due is none = inl (output_due call.input Unbuilt w.text due w.is is)
answers_due call _ (wrote_journals_fault w) due is none =
    inl (output_due call.input JournalsFault w.text due w.is is)
answers_due call _ (source_failed failed kept) due is none = absurd (none.0 failed)
answers_due call _ (sink_failed failed front) due is none = absurd (none.1 failed)
answers_due call _ (out_of_memory kept) due is none = inr refl

five_isnt_four : ◌≡◌ {A = ℕ} 5 4 → ⊥
five_isnt_four e = omega arith

seven_isnt_four : ◌≡◌ {A = ℕ} 7 4 → ⊥
seven_isnt_four e = omega arith

-- all that is promised, of a call whose words ask for a command
pub did_command : {S K : Type 0} (call : Call S K) (status : ℕ) (command : Command) →
    Asks call.input.words command → Answered call status →
    (reads command ≡ false → IsUntouched call.input.source × (status ≢ 4)) →
    (status ≢ 4 → Stands call.input.source) → (status ≢ 5 → Stands call.sink) → Did call status
did_command call status command asked did unread source sink = record {
  did = did;
  words = λ nothing. absurd (nothing command asked);
  unread = λ no_text. unread (no_text command asked);
  source = source;
  sink = sink;
  due = answers_due call status did;
}

-- it wrote what was called for
pub did_write : {S K : Type 0} (call : Call S K) (status : ℕ) (command : Command) (output : Output)
    (text : List ℕ) →
    Asks call.input.words command → CallsFor call.input output text →
    Appends (told_before call.sink) (told_now call.sink) text → status ≡ status_with output →
    (reads command ≡ false → IsUntouched call.input.source) → Stands call.input.source → Stands call.sink →
    Did call status
did_write call status command output text asked calls took is unread source sink =
    let other = no_failure output status is in
    let wrote : Wrote call output = record { text = text; is = calls; took = took } in
    did_command call status command asked (subst (Answered call) (sym is) (answered_with call output wrote))
    (λ none. (unread none, other.0)) (λ _. source) (λ _. sink)

-- the sink failed, and took a first part of it
pub did_front : {S K : Type 0} (call : Call S K) (command : Command) (output : Output) (text : List ℕ) →
    Asks call.input.words command → CallsFor call.input output text →
    AppendsFront (told_before call.sink) (told_now call.sink) text → Failed call.sink →
    (reads command ≡ false → IsUntouched call.input.source) → Stands call.input.source → Did call 5
did_front call command output text asked calls front failed unread source =
    let wrote : WroteFront call = record { text = text; front = front; output = output; is = calls } in
    did_command call 5 command asked (sink_failed failed wrote)
    (λ none. (unread none, λ four. five_isnt_four four)) (λ _. source) (λ other. absurd (other refl))

-- the source failed
pub did_fail : {S K : Type 0} (call : Call S K) (command : Command) → Asks call.input.words command →
    Failed call.input.source → IsUntouched call.sink → (reads command ≡ false → ⊥) → Stands call.sink →
    Did call 4
did_fail call command asked failed kept reads_it sink =
    did_command call 4 command asked (source_failed failed kept)
    (λ none. absurd (reads_it none)) (λ other. absurd (other refl)) (λ _. sink)

-- memory ran out
pub did_nothing : {S K : Type 0} (call : Call S K) (command : Command) → Asks call.input.words command →
    IsUntouched call.sink → (reads command ≡ false → IsUntouched call.input.source) →
    Stands call.input.source → Stands call.sink → Did call 7
did_nothing call command asked kept unread source sink =
    did_command call 7 command asked (out_of_memory kept)
    (λ none. (unread none, λ four. seven_isnt_four four)) (λ _. source) (λ _. sink)

-- of words that ask for nothing that was told, or a first part of it
pub told_words : {S K : Type 0} (call : Call S K) (status : ℕ) → AskNothing call.input.words →
    Appends (told_before call.sink) (told_now call.sink) (codes "words\n") →
    status ≡ 2 → Answered call status
told_words call status nothing took is =
    let is_so : CallsFor call.input Words (codes "words\n") = by_words nothing refl in
    let wrote : Wrote call Words = record { text = codes "words\n"; is = is_so; took = took } in
    subst (Answered call) (sym is) (wrote_words wrote)

pub told_front : {S K : Type 0} (call : Call S K) → AskNothing call.input.words →
    AppendsFront (told_before call.sink) (told_now call.sink) (codes "words\n") →
    Failed call.sink → Answered call 5
told_front call nothing front failed =
    let is_so : CallsFor call.input Words (codes "words\n") = by_words nothing refl in
    sink_failed failed (record { text = codes "words\n"; front = front; output = Words; is = is_so })

-- the same with the words as a list, and the status that the process ends with
pub did_at : {S K A : Type 0} (source : sources.Ghosts S) (sink : sinks.Ghosts K)
    (words listed : List (String A))
    (from to : S) (old new : K) (status ended : ℕ) → words ≡ listed → ended ≡ status →
    Did (call source sink words from to old new) status → Did (call source sink listed from to old new) ended
did_at {A = A} source sink words listed from to old new status ended same is did =
    subst (λ (ws : List (String A)). Did (call source sink ws from to old new) ended) same
    (subst (Did (call source sink words from to old new)) (sym is) did)

-- whether there was memory for the words or not
pub exit_listed : {T E : Type 0} (words : Result T E) (Is : T → Type 0) (Read Written : Type 0) (status : ℕ) →
    IfOk words Is → OnErr words ((status ≡ 7) × Read × Written) →
    ((found : T) → Is found → Contains (0 ∷ 1 ∷ 2 ∷ 3 ∷ 4 ∷ 5 ∷ 7 ∷ []) status) →
    Contains (0 ∷ 1 ∷ 2 ∷ 3 ∷ 4 ∷ 5 ∷ 7 ∷ []) status
exit_listed (Ok found) Is Read Written status is nothing listed = listed found is
exit_listed (Err error) Is Read Written status is nothing listed =
    subst (λ (n : ℕ). Contains (0 ∷ 1 ∷ 2 ∷ 3 ∷ 4 ∷ 5 ∷ 7 ∷ []) n) (sym nothing.0) (6, lit< tt, refl)
