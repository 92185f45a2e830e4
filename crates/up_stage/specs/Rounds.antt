-- The script that is generated from a seed.
use Rattle.std.specs.Prelude.{ℕ, ◌+◌, ◌*◌, ◌/◌, ◌%◌, ◌==◌, ◌++◌, false, cond, None, List, [], ◌∷◌, zero, suc, replicate, codes}
use Rattle.up_num.specs.Span.{Span}
use Rattle.up_model.specs.declared.entry.Birth.{Birth}
use Rattle.up_model.specs.declared.entry.Brought.TheVariants.{Nothing}
use Rattle.up_model.specs.declared.entry.Call.{Call}
use Rattle.up_model.specs.declared.entry.Call.TheVariants as calls
use Rattle.up_script.specs.declared.script.Action.{Action}
use Rattle.up_script.specs.declared.script.Action.TheVariants as actions
use Rattle.up_script.specs.declared.script.ActorLine.{ActorLine}
use Rattle.up_script.specs.declared.script.Kind.TheVariants.{User, Pager}
use Rattle.up_script.specs.declared.script.Line.{Line}
use Rattle.up_script.specs.declared.script.ObjectLine.{ObjectLine}
use Rattle.up_script.specs.declared.script.Script.{Script}

-- the sequence of numbers of a seed
abbrev pub number_at : ℕ → ℕ → ℕ
number_at seed zero = seed % 65537
number_at seed (suc round) = (75 * number_at seed round + 74) % 65537

-- an action of an actor
pub record OwnAction : Type 0 where
  pub actor : ℕ
  pub action : Action

-- the user has number 0, and the pager number 1
abbrev pub by_user : Action → OwnAction
by_user action = record { actor = 0; action = action }

abbrev pub by_pager : Call → OwnAction
by_pager call = record { actor = 1; action = actions.Act 0 call }

-- the page of a number, and a byte in it that changes with the round
abbrev pub page_in : ℕ → ℕ
page_in number = number % 256

abbrev pub byte_at : ℕ → ℕ → ℕ
byte_at number round = 4096 * page_in number + round % 4096

-- the page is supplied with bytes that all are its number
abbrev pub supplies : ℕ → OwnAction
supplies page = by_pager (calls.Supply (record { first = page; count = 1 }) (replicate 4096 page) Nothing)

-- a byte of it is written or read
abbrev pub accesses : ℕ → ℕ → OwnAction
accesses number round =
    by_user (cond (number / 256 % 2 == 0) (actions.Write 0 (byte_at number round) (round % 256 ∷ [])) (actions.Read 0 (byte_at number round) 1))

-- all pages are written back
abbrev pub all_pages : Span
all_pages = record { first = 0; count = 256 }

abbrev pub writes_back : List OwnAction
writes_back = by_pager (calls.Begin all_pages false) ∷ by_pager (calls.End all_pages None) ∷ []

abbrev pub round_of : ℕ → ℕ → List OwnAction
round_of number round = supplies (page_in number) ∷ accesses number round ∷ cond (round % 16 == 0) writes_back []

abbrev pub rounds : ℕ → ℕ → List OwnAction
rounds seed zero = []
rounds seed (suc round) = rounds seed round ++ round_of (number_at seed (suc round)) (suc round)

-- lines of a text, the first of this number
abbrev pub numbered : ℕ → List OwnAction → List Line
numbered n [] = []
numbered n (own ∷ rest) = record { number = n; actor = own.actor; action = own.action } ∷ numbered (n + 1) rest

abbrev pub generated_birth : Birth
generated_birth = record { pages = 256; limit = None; trap = false; users = 1; pagers = 1; image = false; numbered = false }

abbrev pub generated_object : ObjectLine
generated_object = record { number = 3; name = codes "g"; birth = generated_birth; image = None }

abbrev pub generated_user : ActorLine
generated_user = record { number = 4; name = codes "u"; kind = User; objects = 0 ∷ [] }

abbrev pub generated_pager : ActorLine
generated_pager = record { number = 5; name = codes "p"; kind = Pager; objects = 0 ∷ [] }

-- in version 1, 64 frames, an object of 256 pages with a user and a pager, and so many rounds, whose lines are those from the seventh on
abbrev pub generated : ℕ → ℕ → Script
generated seed count = record {
  version = 1;
  frames = 64;
  frames_line = 2;
  loan = 0;
  loan_line = 0;
  warn = 16;
  critical = 8;
  objects = generated_object ∷ [];
  actors = generated_user ∷ generated_pager ∷ [];
  lines = numbered 7 (rounds seed count);
}
