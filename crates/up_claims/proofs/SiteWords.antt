-- Words in which small journals of the sample pager are written down. Journals stand newest entry first. Actor 0 is a user, 1 and 2 are
-- workers, 3 is the evictor.
use Rattle.std.specs.Prelude.{◌≡◌, ℕ, ◌*◌, Bool, true, false, Option, Some, None, option_map, List, [], ◌∷◌}
use Rattle.up_num.specs.Span.{Span}
use Rattle.up_num.specs.declared.pages.PageNo.{PageNo}
use Rattle.up_span.specs.declared.run.Run.{Run}
use Rattle.up_model.specs.Positions.{first_of, entry_at}
use Rattle.up_model.specs.declared.entry.Birth.{Birth}
use Rattle.up_model.specs.declared.entry.Entry.{Entry}
use Rattle.up_model.specs.declared.entry.Brought.{Brought}
use Rattle.up_model.specs.declared.entry.Brought.TheVariants.{Nothing}
use Rattle.up_model.specs.declared.entry.Call.{Call}
use Rattle.up_model.specs.declared.entry.Call.TheVariants as calls
use Rattle.up_model.specs.declared.entry.Reply.{Reply}
use Rattle.up_model.specs.declared.entry.Reply.TheVariants as replies
use Rattle.up_model.specs.declared.entry.Told.{Told}
use Rattle.up_claims.specs.Claimed.{claim_of}
use Rattle.up_claims.specs.Sited.{Deed, Rests, Makes, Tells, tell_of, deed_of, answer_of}
use Rattle.up_claims.specs.declared.step.SiteStep.{SiteStep}
use Rattle.up_claims.specs.declared.step.SiteReply.{SiteReply}

abbrev pub page : ℕ → PageNo
page p = record { 0 = p }

abbrev pub range : ℕ → ℕ → Span
range first count = record { first = first; count = count }

abbrev pub run : ℕ → ℕ → Run
run first count = record { first = first; count = count }

-- births on a disk, with one user and two workers: for a free object, a trapping one, and a numbered one
abbrev pub born : ℕ → ℕ → Bool → Bool → Birth
born pages limit trap numbered =
    record { pages = pages; limit = Some limit; trap = trap; users = 1; pagers = 2; image = true; numbered = numbered }

abbrev pub on_disk : ℕ → ℕ → Birth
on_disk pages limit = born pages limit false false

abbrev pub trapping : ℕ → ℕ → Birth
trapping pages limit = born pages limit true false

abbrev pub numbered : ℕ → ℕ → Birth
numbered pages limit = born pages limit false true

-- an entry of the first epoch: who made the call, and what it answered
abbrev pub by : ℕ → Call → Reply → Entry
by who call reply = record { who = who; epoch = 0; call = call; reply = reply }

abbrev pub tells : ℕ → Told → Entry
tells who said = by who (calls.Tell said) replies.Noted

abbrev pub read_at : ℕ → Call
read_at off = calls.Read (record { off = off; len = 1 }) (page 0) Nothing

-- a write of one byte at the start of a page
abbrev pub write_in : ℕ → ℕ → Call
write_in p byte = calls.Write (4096 * p) (byte ∷ []) (page p) Nothing

-- the call of a deed, where what it tells went well or not
abbrev pub call_made : Bool → Deed → Option Call
call_made ok (Rests answer) = None
call_made ok (Makes call) = Some call
call_made ok (Tells fact) = Some (calls.Tell (tell_of fact ok))

-- the step of the actor that made the entry at a position gives the call of that entry
abbrev pub Made : Birth → List Entry → ℕ → Bool → Brought → List ℕ → SiteStep → Type 0
Made birth row k ok brought bytes step =
    option_map (λ (e : Entry). call_made ok (deed_of birth (first_of row k) e.who brought bytes step)) (entry_at row k)
    ≡ option_map (λ (e : Entry). Some e.call) (entry_at row k)

-- what is answered once the entry at a position is made
abbrev pub answer_at : Birth → List Entry → ℕ → Option SiteReply
answer_at birth row k =
    option_map (λ (e : Entry). answer_of birth (first_of row k) (claim_of (first_of row k) e.who) e.call e.reply) (entry_at row k)
