-- What script a text spells, or its first fault.
use Rattle.std.specs.Prelude.{ℕ, ◌==◌, Bool, true, cond, List, [], ◌∷◌, Result, Ok, Err, codes, length, nat_le}
use Rattle.up_words.specs.ReadSteps.{◌>>=◌, check, or_why, lines_from}
use Rattle.up_words.specs.Words.{split, verb_is, words_in}
use Rattle.up_words.specs.declared.fault.Fault.{Fault}
use Rattle.up_words.specs.declared.fault.Why.{Why}
use Rattle.up_words.specs.declared.fault.Why.TheVariants as why
use Rattle.up_script.specs.Declarations.{nothing_declared, declaration_line, is_whole, with_all_counted}
use Rattle.up_script.specs.Actions.{act}
use Rattle.up_script.specs.Versions.{version_in}
use Rattle.up_script.specs.declared.declarations.Declared.{Declared}
use Rattle.up_script.specs.declared.played.Played.{Played}
use Rattle.up_script.specs.declared.reading.Section.{Section}
use Rattle.up_script.specs.declared.reading.Section.TheVariants.{Header, Declaring, Acting}
use Rattle.up_script.specs.declared.script.Script.{Script}

-- no line of an actor yet, and room for the bytes that all lines together may read, write and supply
abbrev pub nothing_played : Played
nothing_played = record { lines = []; room = 67108864; left = [] }

-- a line before the actions: the line steps ends the declarations
abbrev pub declaring : ℕ → Declared → List (List ℕ) → Result Section Why
declaring number declared words =
    cond (verb_is words 0 (codes "steps") 1)
    (check why.Missing (is_whole (with_all_counted declared)) >>= λ whole. Ok (Acting (with_all_counted declared) nothing_played))
    (declaration_line number declared words >>= λ more. Ok (Declaring more))

-- a line by its words and its place
abbrev pub section_step : ℕ → Section → List (List ℕ) → Result Section Why
section_step number Header words = Err why.Header
section_step number (Declaring declared) words = declaring number declared words
section_step number (Acting declared played) words = act declared number played words >>= λ more. Ok (Acting declared more)

-- empty lines and those that begin with # are skipped
abbrev pub is_skipped : List ℕ → Bool
is_skipped [] = true
is_skipped (byte ∷ bytes) = byte == 35

-- the first line says the version; the others are skipped, or made of words
abbrev pub content : ℕ → Section → List ℕ → Result Section Why
content number Header line = or_why why.Header (version_in line) >>= λ version. Ok (Declaring (nothing_declared version))
content number section line = cond (is_skipped line) (Ok section) (words_in line >>= λ words. section_step number section words)

-- a line with its number: not too long, not too many, and what it says
abbrev pub line_step : ℕ → Section → List ℕ → Result Section Why
line_step number section line = do
  short ← check why.Long (nat_le (length line) 4096)
  few ← check why.Limit (nat_le number 65536)
  content number section line

-- the frames, the objects, their actors and the lines
abbrev pub script_in : Declared → Played → Script
script_in declared played = record {
  version = declared.version;
  frames = declared.stock.frames;
  frames_line = declared.stock.frames_line;
  loan = declared.stock.loan;
  loan_line = declared.stock.loan_line;
  warn = declared.stock.warn;
  critical = declared.stock.critical;
  objects = declared.objects;
  actors = declared.actors;
  lines = played.lines;
}

-- the text ends after the line steps
abbrev pub ended : Section → Result Script Why
ended Header = Err why.Header
ended (Declaring declared) = Err why.Missing
ended (Acting declared played) = Ok (script_in declared played)

-- what stands behind the last newline: nothing. Else that line has none
abbrev pub last_step : ℕ → Section → List ℕ → Result Script Why
last_step number section [] = ended section
last_step number section (byte ∷ bytes) = do
  short ← check why.Long (nat_le (length (byte ∷ bytes)) 4096)
  few ← check why.Limit (nat_le number 65536)
  Err why.Cut

-- the script that a text spells, or the first fault
abbrev pub script_of : List ℕ → Result Script Fault
script_of bytes =
    cond (nat_le (length bytes) 4194304) (lines_from line_step last_step 1 Header (split 10 bytes))
    (Err (record { line = 0; why = why.Long }))
