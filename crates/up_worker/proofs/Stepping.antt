-- An actor in a line of steps waits for an answer.
use Rattle.std.proofs.Common.{◌≡◌, ℕ, true, Option, Some, None, is_some, Result, Ok, Err, OnOk, OnErr, refl, sym, subst}
use Rattle.up_claims.specs.declared.step.SiteReply.{SiteReply}
use Rattle.up_worker.specs.Acting.{Acting}
use Rattle.up_worker.specs.Playing.{Playing, is_waiting, PlaysOne}
use Rattle.up_worker.specs.Program.{line_on, frames_asked, sync_after, turn_goes, sync_goes, serve_goes, answered, hears_in}
use Rattle.up_worker.specs.Wishes.{wants_after}
use Rattle.up_worker.specs.declared.paging.Paging.{Paging}
use Rattle.up_worker.specs.declared.paging.SiteLine.{SiteLine}
use Rattle.up_worker.specs.declared.paging.SiteLine.TheVariants.{Turns, Syncs, Serves}
use Rattle.up_worker.specs.declared.task.Task.{Task}
use Rattle.up_worker.specs.declared.wish.Heard.{Heard}
use Rattle.up_worker.specs.declared.wish.Heard.TheVariants as heard
use Rattle.up_worker.specs.declared.wish.Wish.{Wish}
use Rattle.up_worker.specs.declared.wish.Wish.TheVariants as wishes

-- whatever is said, the line is over, or an answer is waited for
says_busy : (line : Option SiteLine) (wish : Wish) → is_some (line_on line wish) ≡ true
    → is_waiting (wants_after wish) ≡ true
says_busy line wishes.LineEnd on = absurd cc
says_busy line _ on = refl

abbrev Busy : Paging → Type 0
Busy p = is_some p.line ≡ true → is_waiting p.wants ≡ true

turn_busy : (asked : Option ℕ) (object : ℕ) (p : Paging) (answer : SiteReply)
    → Busy (turn_goes asked object p answer).paging
turn_busy (Some count) object p answer = says_busy p.line (turn_goes (Some count) object p answer).wish
turn_busy None object p answer = says_busy p.line (turn_goes None object p answer).wish

sync_busy : (next : Option Task) (object : ℕ) (p : Paging) (answer : SiteReply)
    → Busy (sync_goes next object p answer).paging
sync_busy None object p answer = says_busy p.line (sync_goes None object p answer).wish
sync_busy (Some task) object p answer = says_busy p.line (sync_goes (Some task) object p answer).wish

serve_busy : (asked : Option ℕ) (object : ℕ) (p : Paging) (answer : SiteReply)
    → Busy (serve_goes asked object p answer).paging
serve_busy (Some count) object p answer = says_busy p.line (serve_goes (Some count) object p answer).wish
serve_busy None object p answer = says_busy p.line (serve_goes None object p answer).wish

answered_busy : (line : SiteLine) (p : Paging) (answer : SiteReply) → Busy (answered line p answer).paging
answered_busy (Turns object) p answer = turn_busy (frames_asked answer) object p answer
answered_busy (Syncs object) p answer = sync_busy (sync_after answer) object p answer
answered_busy (Serves object) p answer = serve_busy (frames_asked answer) object p answer

hears_busy : (line : SiteLine) (p : Paging) (answer : Heard) → Busy (hears_in line p answer).paging
hears_busy line p (heard.Site answer) = answered_busy line p answer
hears_busy line p (heard.Brought b) = says_busy p.line (hears_in line p (heard.Brought b)).wish
hears_busy line p heard.Done = says_busy p.line (hears_in line p heard.Done).wish
hears_busy line p (heard.Replied reply) = says_busy p.line (hears_in line p (heard.Replied reply)).wish

abbrev playing : Acting → Paging → Playing
playing calls p = record { calls = calls; paging = p }

-- a step was heard, or memory was wanting and all is as it was
pub plays_on : {E : Type 0} (calls : Acting) (old new : Paging) (line : SiteLine) (answer : Heard)
    (result : Result Wish E)
    → PlaysOne (playing calls old) → old.line ≡ Some line
    → OnOk result (new ≡ (hears_in line old answer).paging)
    → OnErr result (new ≡ old) → PlaysOne (playing calls new)
plays_on calls old new line answer (Ok wish) plays on ok err = record {
  alone = λ _. plays.alone (rw on refl);
  busy = subst Busy (sym ok) (hears_busy line old answer);
}
plays_on calls old new line answer (Err memory) plays on ok err = subst (λ (p : Paging). PlaysOne
    (playing calls p)) (sym err) plays
