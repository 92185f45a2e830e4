use Rattle.std.proofs.Common.{◌≡◌, true, false, length, Some, refl, sym, ◌∙◌, slice_get}
use Rattle.std.proofs.lemmas.Option.{slice_get_read}
use Rattle.std.proofs.lemmas.Result.{IfOk-weaker}
use Rattle.up_steps.specs.Handed.{births_in}
use Rattle.up_stage.specs.Lines.{CatchesUp, DoesLine}
use Rattle.up_stage.proofs.AbleLines.{able_at, able_known}
use Rattle.up_stage.proofs.AllLines.{did_nothing, did_act, did_resume}
use Rattle.up_stage.proofs.ObjectJournals.{get_some}
use Rattle.up_stage.proofs.scheduler.Scheduler.line.Goals as goal

pub returns-then-not-parked : goal.returns-then-not-parked
returns-then-not-parked g c =
    let lines = c.args.lines.now in
    let old = c.args.self.now in
    let line = c.index-lines-at.result in
    let is : slice_get lines c.args.at ≡ Some line = slice_get_read lines (length lines) c.args.at line refl c.requires.within c.index-lines-at.is in
    let within = able_known (births_in old.hands.lives) (length old.actors) line (able_at (births_in old.hands.lives) (length old.actors) lines c.args.at line c.requires.sound is) in
    let a = get_some old.actors line.actor within in
    let go = sym c.is_go.ensures ∙ c.if-is_go.true in
    let free = sym c.is_parked-parked.ensures ∙ c.if-not-parked.true in
    did_nothing lines c.args.at line old a.0 c.requires.rest is a.1 (λ _. free) (λ other. absurd (let q : true ≡ false = sym go ∙ other in cc))

pub returns-then-is_go : goal.returns-then-is_go
returns-then-is_go g c =
    let lines = c.args.lines.now in
    let old = c.args.self.now in
    let line = c.index-lines-at.result in
    let is : slice_get lines c.args.at ≡ Some line = slice_get_read lines (length lines) c.args.at line refl c.requires.within c.index-lines-at.is in
    let within = able_known (births_in old.hands.lives) (length old.actors) line (able_at (births_in old.hands.lives) (length old.actors) lines c.args.at line c.requires.sound is) in
    let a = get_some old.actors line.actor within in
    let go = sym c.is_go.ensures ∙ c.if-is_go.true in
    let waits = sym c.is_parked-parked.ensures ∙ c.if-not-parked.false in
    IfOk-weaker c.catch_up.result (λ _. CatchesUp lines line.actor c.args.at c.resume.new.self c.catch_up.new.self) (λ _. DoesLine lines c.args.at old c.catch_up.new.self)
    (λ _ caught. did_resume lines c.args.at line old c.resume.new.self c.catch_up.new.self a.0 is a.1 c.requires.rest.keeps.done go waits c.in_ok-resume.ensures.shape c.in_ok-resume.ensures.done c.in_ok-resume.ensures.went caught)
    c.catch_up.ensures

pub returns-then-parked : goal.returns-then-parked
returns-then-parked g c =
    let lines = c.args.lines.now in
    let old = c.args.self.now in
    let line = c.index-lines-at.result in
    let is : slice_get lines c.args.at ≡ Some line = slice_get_read lines (length lines) c.args.at line refl c.requires.within c.index-lines-at.is in
    let within = able_known (births_in old.hands.lives) (length old.actors) line (able_at (births_in old.hands.lives) (length old.actors) lines c.args.at line c.requires.sound is) in
    let a = get_some old.actors line.actor within in
    let other = sym c.is_go.ensures ∙ c.if-is_go.false in
    let waits = sym c.is_parked-parked.ensures ∙ c.if-parked.true in
    did_nothing lines c.args.at line old a.0 c.requires.rest is a.1 (λ go. absurd (let q : true ≡ false = sym go ∙ other in cc)) (λ _. waits)

pub returns : goal.returns
returns g c =
    let lines = c.args.lines.now in
    let old = c.args.self.now in
    let line = c.index-lines-at.result in
    let is : slice_get lines c.args.at ≡ Some line = slice_get_read lines (length lines) c.args.at line refl c.requires.within c.index-lines-at.is in
    let within = able_known (births_in old.hands.lives) (length old.actors) line (able_at (births_in old.hands.lives) (length old.actors) lines c.args.at line c.requires.sound is) in
    let a = get_some old.actors line.actor within in
    let other = sym c.is_go.ensures ∙ c.if-is_go.false in
    let free = sym c.is_parked-parked.ensures ∙ c.if-parked.false in
    did_act lines c.args.at line old c.act.new.self a.0 is a.1 c.requires.rest.keeps.done other free c.in_ok-act.ensures.rest c.in_ok-act.ensures.shape c.in_ok-act.ensures.done c.in_ok-act.ensures.went
