-- The text of a script: its declarations and lines in the grammar's words, each in the line that the script says. No comment stands in it, and no
-- empty line but those before a line whose number is higher than the next one.
use Rattle.std.specs.Prelude.{ℕ, ◌+◌, ◌-◌, ◌/◌, ◌==◌, ◌&&◌, ◌++◌, Bool, cond, List, [], ◌∷◌, Option, Some, None, codes, decimal, map, nat_lt, replicate}
use Rattle.std.specs.List.{fold}
use Rattle.up_num.specs.Span.{Span}
use Rattle.up_model.specs.declared.entry.Call.{Call}
use Rattle.up_model.specs.declared.entry.Call.TheVariants as calls
use Rattle.up_model.specs.declared.entry.HintKind.TheVariants as hints
use Rattle.up_words.specs.Words.{word_at}
use Rattle.up_words.specs.Runs.{bytes_text}
use Rattle.up_fields.specs.Text.{line_text, flag_text, code_text}
use Rattle.up_script.specs.Versions.{has_modes, first_line}
use Rattle.up_script.specs.declared.script.Action.{Action}
use Rattle.up_script.specs.declared.script.Action.TheVariants as actions
use Rattle.up_script.specs.declared.script.ActorLine.{ActorLine}
use Rattle.up_script.specs.declared.script.Kind.{Kind}
use Rattle.up_script.specs.declared.script.Kind.TheVariants.{User, Pager, Worker, Evictor}
use Rattle.up_script.specs.declared.script.Line.{Line}
use Rattle.up_script.specs.declared.script.ObjectLine.{ObjectLine}
use Rattle.up_script.specs.declared.script.Script.{Script}

-- the lines of a text so far: their bytes, and the number of the next line
pub record TextSoFar : Type 0 where
  pub next : ℕ
  pub bytes : List ℕ

-- One line more, of these words: the line of that number, with empty lines before it. Where the text is past that, it is the next line.
abbrev pub and_line : TextSoFar → ℕ → List (List ℕ) → TextSoFar
and_line text number words = record {
  next = text.next + (number - text.next) + 1;
  bytes = text.bytes ++ (replicate (number - text.next) 10 ++ line_text words);
}

-- the first line, of this version
abbrev pub header_written : ℕ → TextSoFar
header_written version = record { next = 2; bytes = first_line version ++ 10 ∷ [] }

-- frames N
abbrev pub frames_words : ℕ → List (List ℕ)
frames_words frames = codes "frames" ∷ decimal frames ∷ []

-- loan N
abbrev pub loan_words : ℕ → List (List ℕ)
loan_words loan = codes "loan" ∷ decimal loan ∷ []

-- levels W C
abbrev pub levels_words : ℕ → ℕ → List (List ℕ)
levels_words warn critical = codes "levels" ∷ decimal warn ∷ decimal critical ∷ []

-- the line of the loaned frames, where there are some
abbrev pub and_loan : TextSoFar → ℕ → ℕ → TextSoFar
and_loan text number loan = cond (nat_lt 0 loan) (and_line text number (loan_words loan)) text

-- the marks are a quarter and an eighth of the frames
abbrev pub are_usual : ℕ → ℕ → ℕ → Bool
are_usual frames warn critical = (warn == frames / 4) && (critical == frames / 8)

-- the line of the marks, where they aren't the usual ones: the next line
abbrev pub and_levels : TextSoFar → ℕ → ℕ → ℕ → TextSoFar
and_levels text frames warn critical = cond (are_usual frames warn critical) text (and_line text 0 (levels_words warn critical))

-- the lines before the objects, by the version, the frames and their line, the loaned frames and their line, and the marks
abbrev pub stock_written : ℕ → ℕ → ℕ → ℕ → ℕ → ℕ → ℕ → TextSoFar
stock_written version frames frames_line loan loan_line warn critical =
    and_levels (and_loan (and_line (header_written version) frames_line (frames_words frames)) loan_line loan) frames warn critical

-- the greatest number of pages, or - where the size is fixed
abbrev pub limit_text : Option ℕ → List ℕ
limit_text None = codes "-"
limit_text (Some limit) = decimal limit

-- the name of an image, or - where there is none
abbrev pub image_text : Option (List ℕ) → List ℕ
image_text None = codes "-"
image_text (Some name) = name

-- the mode of an object, where objects have one
abbrev pub mode_words : ℕ → Bool → List (List ℕ)
mode_words version numbered = cond (has_modes version) (flag_text (codes "numbered") (codes "ranged") numbered ∷ []) []

-- object NAME PAGES LIMIT TRAP IMAGE, in version 2 with MODE
abbrev pub object_words : ℕ → ObjectLine → List (List ℕ)
object_words version object =
    codes "object" ∷ object.name ∷ decimal object.birth.pages ∷ limit_text object.birth.limit ∷ flag_text (codes "trap") (codes "free") object.birth.trap
    ∷ image_text object.image ∷ mode_words version object.birth.numbered

abbrev pub and_object : ℕ → TextSoFar → ObjectLine → TextSoFar
and_object version text object = and_line text object.number (object_words version object)

abbrev pub objects_written : ℕ → TextSoFar → List ObjectLine → TextSoFar
objects_written version text objects = fold (and_object version) text objects

-- the first word of an actor's declaration
abbrev pub kind_text : Kind → List ℕ
kind_text User = codes "user"
kind_text Pager = codes "pager"
kind_text Worker = codes "worker"
kind_text Evictor = codes "evictor"

-- the names of these objects; none of an evictor's, which are all
abbrev pub bound_words : List (List ℕ) → Kind → List ℕ → List (List ℕ)
bound_words names Evictor objects = []
bound_words names _ objects = map (λ object. word_at names object) objects

-- user, pager or worker NAME OBJECT .., or evictor NAME
abbrev pub actor_words : List (List ℕ) → ActorLine → List (List ℕ)
actor_words names actor = kind_text actor.kind ∷ actor.name ∷ bound_words names actor.kind actor.objects

abbrev pub and_actor : List (List ℕ) → TextSoFar → ActorLine → TextSoFar
and_actor names text actor = and_line text actor.number (actor_words names actor)

abbrev pub actors_written : List (List ℕ) → TextSoFar → List ActorLine → TextSoFar
actors_written names text actors = fold (and_actor names) text actors

-- VERB OBJ F C, and what stands behind them
abbrev pub over_words : List ℕ → List ℕ → Span → List (List ℕ) → List (List ℕ)
over_words verb object range more = verb ∷ object ∷ decimal range.first ∷ decimal range.count ∷ more

-- the number of the begin that an end names, where it names one
abbrev pub number_words : Option ℕ → List (List ℕ)
number_words None = []
number_words (Some n) = decimal n ∷ []

-- a call's words behind its actor's name, with the name of its object. Calls that no line names have none
abbrev pub call_words : List ℕ → Call → List (List ℕ)
call_words object (calls.Supply range bytes brought) = over_words (codes "supply") object range (bytes_text bytes ∷ [])
call_words object (calls.Fail range code) = over_words (codes "fail") object range (code_text code ∷ [])
call_words object (calls.Dirty range brought) = over_words (codes "dirty") object range []
call_words object (calls.Begin range zero) = over_words (codes "begin") object range (flag_text (codes "zero") (codes "any") zero ∷ [])
call_words object (calls.End range of) = over_words (codes "end") object range (number_words of)
call_words object (calls.Query range room) = over_words (codes "query") object range (decimal room ∷ [])
call_words object (calls.Stats reset) = codes "stats" ∷ object ∷ flag_text (codes "reset") (codes "keep") reset ∷ []
call_words object (calls.Hint range hints.Always) = over_words (codes "always") object range []
call_words object (calls.Hint range hints.Cold) = over_words (codes "cold") object range []
call_words object (calls.Pin range brought) = over_words (codes "pin") object range []
call_words object (calls.Unpin range) = over_words (codes "unpin") object range []
call_words object (calls.Evict limit max) = codes "evict" ∷ object ∷ decimal limit ∷ decimal max ∷ []
call_words object (calls.Borrow page brought) = codes "borrow" ∷ object ∷ decimal page.0 ∷ []
call_words object (calls.Resize pages) = codes "resize" ∷ object ∷ decimal pages ∷ []
call_words object (calls.Zero range) = over_words (codes "zero") object range []
call_words object calls.Detach = codes "detach" ∷ object ∷ []
call_words object calls.Packet = codes "packet" ∷ object ∷ []
call_words object (calls.Leave role) = codes "leave" ∷ object ∷ []
call_words object _ = []

-- an action's words behind its actor's name, with the names of all objects
abbrev pub action_words : List (List ℕ) → Action → List (List ℕ)
action_words names actions.Go = codes "go" ∷ []
action_words names (actions.Read object off len) = codes "read" ∷ word_at names object ∷ decimal off ∷ decimal len ∷ []
action_words names (actions.Write object off bytes) = codes "write" ∷ word_at names object ∷ decimal off ∷ bytes_text bytes ∷ []
action_words names (actions.Act object call) = call_words (word_at names object) call
action_words names (actions.Sync object) = codes "sync" ∷ word_at names object ∷ []
action_words names (actions.Turn object steps) = codes "turn" ∷ word_at names object ∷ decimal steps ∷ []
action_words names actions.Age = codes "age" ∷ []
action_words names actions.Watch = codes "watch" ∷ []
action_words names (actions.Relieve frames) = codes "relieve" ∷ decimal frames ∷ []
action_words names actions.Recall = codes "recall" ∷ []
action_words names actions.Lend = codes "lend" ∷ []

-- a line's words, with the names of all objects and actors
abbrev pub line_words : List (List ℕ) → List (List ℕ) → Line → List (List ℕ)
line_words objects actors line = word_at actors line.actor ∷ action_words objects line.action

abbrev pub and_action : List (List ℕ) → List (List ℕ) → TextSoFar → Line → TextSoFar
and_action objects actors text line = and_line text line.number (line_words objects actors line)

abbrev pub lines_written : List (List ℕ) → List (List ℕ) → TextSoFar → List Line → TextSoFar
lines_written objects actors text lines = fold (and_action objects actors) text lines

abbrev pub object_names : List ObjectLine → List (List ℕ)
object_names objects = map (λ object. object.name) objects

abbrev pub actor_names : List ActorLine → List (List ℕ)
actor_names actors = map (λ actor. actor.name) actors

-- the declarations behind the lines of the frames
abbrev pub declared_written : ℕ → TextSoFar → List ObjectLine → List ActorLine → TextSoFar
declared_written version stock objects actors = actors_written (object_names objects) (objects_written version stock objects) actors

-- the line steps, the next one behind the declarations, and the lines of the actors behind it
abbrev pub acted_written : TextSoFar → List ObjectLine → List ActorLine → List Line → TextSoFar
acted_written declared objects actors lines =
    lines_written (object_names objects) (actor_names actors) (and_line declared 0 (codes "steps" ∷ [])) lines

abbrev pub script_text : Script → List ℕ
script_text script =
    let stock = stock_written script.version script.frames script.frames_line script.loan script.loan_line script.warn script.critical in
    let written = acted_written (declared_written script.version stock script.objects script.actors) script.objects script.actors script.lines in
    written.bytes
