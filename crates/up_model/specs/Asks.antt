-- What an access that must wait asks of the pager, and which pages are asked for.
use Rattle.std.specs.Prelude.{ℕ, ◌+◌, ◌-◌, min, ◌&&◌, ◌||◌, not, Bool, false, cond, Option, None, option_map, List, [], ◌∷◌}
use Rattle.up_num.specs.Span.{covers}
pub use Rattle.up_num.specs.Asks.{Ask, same_kind, asks, is_waiting}
use Rattle.up_num.specs.declared.answers.AskKind.{AskKind}
use Rattle.up_num.specs.declared.answers.AskKind.TheVariants.{Read as ReadAsk, Dirty as DirtyAsk}
use Rattle.up_num.specs.declared.answers.Outcome.{Outcome}
use Rattle.up_num.specs.declared.answers.Outcome.TheVariants.{Waiting, Freed, Failed, Detached as DetachedOutcome, Shrunk}
use Rattle.up_model.specs.Attempts.{Access, page_of, accepts, is_blocked, attempt}
use Rattle.up_model.specs.Size.{size, asks_to_cut}
use Rattle.up_model.specs.Deeds.{named}
use Rattle.up_model.specs.Value.{there}
use Rattle.up_model.specs.States.{dirty, empty_at_end}
use Rattle.up_model.specs.Roles.{detaches}
use Rattle.up_model.specs.Pages.{run_of}
use Rattle.up_model.specs.declared.entry.Birth.{Birth}
use Rattle.up_model.specs.declared.entry.Entry.{Entry}
use Rattle.up_model.specs.declared.entry.Call.{Call}
use Rattle.up_model.specs.declared.entry.Call.TheVariants.{Supply, Fail, Dirty, End, Resize, Zero, Detach, Leave}

-- the page is one that an ask of this kind is for: not there, or there and not dirty
abbrev pub lacks : Birth → List Entry → AskKind → ℕ → Bool
lacks birth h ReadAsk p = not (there birth h p)
lacks birth h DirtyAsk p = there birth h p && not (dirty birth h p)

-- an access that waits wants its page read where that isn't there, else leave to make it dirty
abbrev pub kind_of : Birth → List Entry → Access → AskKind
kind_of birth h a = cond (there birth h (page_of a.off)) DirtyAsk ReadAsk

-- it asks from its page on, as far as the access goes and the pages lie within the object and lack the same
abbrev pub want : Birth → List Entry → Access → Ask
want birth h a = record {
  kind = kind_of birth h a;
  first = page_of a.off;
  count = run_of (lacks birth h (kind_of birth h a)) (page_of a.off) (min (a.last + 1) (size birth h) - page_of a.off);
}

-- what an entry asks for, after the entries before it: only one with the reply Blocked does
abbrev pub wanted : Birth → List Entry → Entry → Option Ask
wanted birth before e = cond (is_blocked e.reply) (option_map (want birth before) (attempt before e)) None

-- what an accepted call makes of those who wait for page p with a kind. A supply frees the readers; a dirty call, and an end
-- that empties the page, free those who wait to make it dirty. The rest concerns both: a zero call frees, a fail fails
-- with its code, a resize that cuts the page off, and a call that detaches the object. Waiting says: nothing.
abbrev pub resolves : Birth → List Entry → Call → AskKind → ℕ → Outcome
resolves birth h (Supply range bytes brought) ReadAsk p = cond (covers range p) Freed Waiting
resolves birth h (Dirty range brought) DirtyAsk p = cond (covers range p) Freed Waiting
resolves birth h (End range of) DirtyAsk p = cond (covers range p && empty_at_end birth h (named birth (End range of)) p) Freed Waiting
resolves birth h (Zero range) k p = cond (covers range p) Freed Waiting
resolves birth h (Fail range code) k p = cond (covers range p) (Failed code) Waiting
resolves birth h (Resize pages) k p = cond (asks_to_cut (Resize pages) (size birth h) p) Shrunk Waiting
resolves birth h Detach k p = cond (detaches birth h Detach) DetachedOutcome Waiting
resolves birth h (Leave role) k p = cond (detaches birth h (Leave role)) DetachedOutcome Waiting
resolves birth h _ k p = Waiting

-- what an entry makes of them: nothing where it wasn't accepted
abbrev pub resolved : Birth → List Entry → Entry → AskKind → ℕ → Outcome
resolved birth before e k p = cond (accepts e.reply) (resolves birth before e.call k p) Waiting

-- the page is asked for with this kind: of the entries that ask for it and those that resolve it the last one asks
abbrev pub asked : Birth → List Entry → AskKind → ℕ → Bool
asked birth [] k p = false
asked birth (e ∷ before) k p =
    is_waiting (resolved birth before e k p) && (asks (wanted birth before e) k p || asked birth before k p)
