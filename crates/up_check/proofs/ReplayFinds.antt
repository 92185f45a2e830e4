-- What replay finds of an entry, from what the object's step says.
use Rattle.std.proofs.Common.{◌≡◌, ◌≢◌, true, false, Some, None, List, ◌∷◌, sym, subst, ap, ◌∙◌}
use Rattle.up_model.specs.Reply.{proper, reply}
use Rattle.up_model.specs.declared.entry.Brought.{Brought}
use Rattle.up_model.specs.declared.entry.Call.{Call}
use Rattle.up_model.specs.declared.entry.Entry.{Entry}
use Rattle.up_model.specs.declared.entry.Reply.{Reply}
use Rattle.up_object.specs.Whole.{Whole, after}
use Rattle.up_model.specs.Bringing.{bringing}
use Rattle.up_core.specs.Enough.{SameButFrames}
use Rattle.up_check.specs.Replaying.{brought_again, again, Replays}
use Rattle.up_check.specs.declared.judging.Judged.TheVariants.{Right, Fault}
use Rattle.up_check.specs.declared.replay.MadeAgain.TheVariants.{Judged as JudgedAgain}
use Rattle.up_check.proofs.Replayed.{made, improper, right, wrong}

pub improper_told : (old : Whole) (h now : List Entry) (e : Entry) → SameButFrames old.journal h → false ≡ proper old.birth old.journal e.who e.call → Replays old.birth h e now (JudgedAgain (Fault None))
improper_told old h now e same is = improper old.birth old.journal h e same is

again_is : (old : Whole) (e : Entry) (call : Call) (brought : Brought) → brought ≡ brought_again old.birth old.journal e.call → call ≡ bringing brought e.call → call ≡ again old.birth old.journal e.call
again_is old e call brought is same = same ∙ ap (λ b. bringing b e.call) is

due_again : (old : Whole) (e : Entry) (call : Call) (told : Reply) → call ≡ again old.birth old.journal e.call → told ≡ reply old.birth old.journal e.who e.epoch call →
    told ≡ reply old.birth old.journal e.who e.epoch (again old.birth old.journal e.call)
due_again old e call told is due = due ∙ ap (reply old.birth old.journal e.who e.epoch) is

pub right_told : (old new : Whole) (h : List Entry) (e : Entry) (call : Call) (brought : Brought) (told : Reply) → SameButFrames old.journal h → true ≡ proper old.birth old.journal e.who e.call →
    brought ≡ brought_again old.birth old.journal e.call → call ≡ bringing brought e.call → told ≡ reply old.birth old.journal e.who e.epoch call → new ≡ after old e.who e.epoch call → e.reply ≡ told →
    Replays old.birth h e new.journal (JudgedAgain Right)
right_told old new h e call brought told same may is makes due stands one =
    let c = again_is old e call brought is makes in
    let journal : new.journal ≡ made old.birth old.journal e told ∷ old.journal =
    ap (λ (w : Whole). w.journal) stands ∙ (λ i. record { who = e.who; epoch = e.epoch; call = c i; reply = sym due i } ∷ old.journal) in
    subst (λ j. Replays old.birth h e j (JudgedAgain Right)) (sym journal) (right old.birth old.journal h e told same may (due_again old e call told c due) one)

pub wrong_told : (old new : Whole) (h : List Entry) (e : Entry) (call : Call) (brought : Brought) (told : Reply) → SameButFrames old.journal h → true ≡ proper old.birth old.journal e.who e.call →
    brought ≡ brought_again old.birth old.journal e.call → call ≡ bringing brought e.call → told ≡ reply old.birth old.journal e.who e.epoch call → e.reply ≢ told → Replays old.birth h e new.journal (JudgedAgain (Fault (Some told)))
wrong_told old new h e call brought told same may is makes due other = wrong old.birth old.journal h e told same may (due_again old e call told (again_is old e call brought is makes) due) other
