-- The lines before the actions, each with its number in the text.
use Rattle.std.specs.Prelude.{ℕ, ◌/◌, ◌&&◌, ◌++◌, ◌||◌, Bool, true, false, cond, not, zero, suc, List, [], ◌∷◌, Option, Some, None, Result, Ok, Err, codes, drop, is_some, length, nat_le, nat_lt}
use Rattle.std.specs.List.{list_all}
use Rattle.std.specs.Str.{bytes_eq}
use Rattle.up_words.specs.ReadSteps.{◌>>=◌, check, or_why, each}
use Rattle.up_words.specs.Words.{word_at, word_is, verb_is}
use Rattle.up_words.specs.Numbers.{number_between}
use Rattle.up_words.specs.Names.{is_name}
use Rattle.up_words.specs.declared.fault.Why.{Why}
use Rattle.up_words.specs.declared.fault.Why.TheVariants as why
use Rattle.up_script.specs.Versions.{has_modes, object_size, is_mode_word}
use Rattle.up_script.specs.Objects.{object_named, actor_named, image_named, has_image, is_among, counted, is_served}
use Rattle.up_script.specs.declared.declarations.Declared.{Declared}
use Rattle.up_script.specs.declared.declarations.Last.{Last}
use Rattle.up_script.specs.declared.declarations.FrameCounts.{FrameCounts}
use Rattle.up_script.specs.declared.declarations.Last.TheVariants as last
use Rattle.up_script.specs.declared.script.ActorLine.{ActorLine}
use Rattle.up_script.specs.declared.script.Kind.{Kind}
use Rattle.up_script.specs.declared.script.Kind.TheVariants.{User, Pager, Worker, Evictor}
use Rattle.up_script.specs.declared.script.ObjectLine.{ObjectLine}

-- Declarations come in this order: frames, loan, levels, objects, actors. Each but the frames has them before it.
abbrev pub is_first : Last → Bool
is_first last.Nothing = true
is_first _ = false

abbrev pub may_loan : Last → Bool
may_loan last.Frames = true
may_loan _ = false

abbrev pub may_level : Last → Bool
may_level last.Frames = true
may_level last.Loan = true
may_level _ = false

abbrev pub may_object : Last → Bool
may_object last.Nothing = false
may_object last.Actor = false
may_object _ = true

-- nothing is declared yet, in a script of this version
abbrev pub nothing_declared : ℕ → Declared
nothing_declared version = record {
  version = version;
  last = last.Nothing;
  stock = record { frames = 0; frames_line = 0; loan = 0; loan_line = 0; warn = 0; critical = 0 };
  objects = [];
  actors = [];
}

-- the stock with so many loaned frames
abbrev pub with_loan : FrameCounts → ℕ → ℕ → FrameCounts
with_loan stock line loan =
    record { frames = stock.frames; frames_line = stock.frames_line; loan = loan; loan_line = line; warn = stock.warn; critical = stock.critical }

-- the stock with these marks
abbrev pub with_levels : FrameCounts → ℕ → ℕ → FrameCounts
with_levels stock warn critical =
    record { frames = stock.frames; frames_line = stock.frames_line; loan = stock.loan; loan_line = stock.loan_line; warn = warn; critical = critical }

-- frames N: so many ordinary frames, of which a quarter and an eighth are the marks
abbrev pub frames_line : ℕ → Declared → List (List ℕ) → Result Declared Why
frames_line line declared words = do
  frames ← number_between 1 16384 (word_at words 1)
  Ok (record {
    version = declared.version;
    last = last.Frames;
    stock = record { frames = frames; frames_line = line; loan = 0; loan_line = 0; warn = frames / 4; critical = frames / 8 };
    objects = declared.objects;
    actors = declared.actors;
  })

-- loan N: so many loaned frames
abbrev pub loan_line : ℕ → Declared → List (List ℕ) → Result Declared Why
loan_line line declared words = do
  loan ← number_between 1 4096 (word_at words 1)
  Ok (record { version = declared.version; last = last.Loan; stock = with_loan declared.stock line loan; objects = declared.objects; actors = declared.actors })

-- levels W C: the marks, of which none is above the one before it, and none above the frames
abbrev pub levels_line : Declared → List (List ℕ) → Result Declared Why
levels_line declared words = do
  warn ← number_between 0 declared.stock.frames (word_at words 1)
  critical ← number_between 0 warn (word_at words 2)
  Ok (record { version = declared.version; last = last.Levels; stock = with_levels declared.stock warn critical; objects = declared.objects; actors = declared.actors })

-- a name that neither an object nor an actor has
abbrev pub new_name : Declared → List ℕ → Result (List ℕ) Why
new_name declared word = do
  name ← check why.Name (is_name word)
  new ← check why.Name (not (is_some (object_named word declared.objects)) && not (is_some (actor_named word declared.actors)))
  Ok word

-- the greatest number of pages, - where the size is fixed
abbrev pub limit_in : ℕ → List ℕ → Result (Option ℕ) Why
limit_in pages word = cond (bytes_eq word (codes "-")) (Ok None) (number_between pages 65536 word >>= λ limit. Ok (Some limit))

-- the name of an image that no object has yet, - where there is none
abbrev pub image_in : Declared → List ℕ → Result (Option (List ℕ)) Why
image_in declared word =
    cond (bytes_eq word (codes "-")) (Ok None)
    (check why.Name (is_name word && not (image_named word declared.objects)) >>= λ new. Ok (Some word))

abbrev pub with_object : Declared → ObjectLine → Declared
with_object declared object = record { version = declared.version; last = last.Object; stock = declared.stock; objects = declared.objects ++ object ∷ []; actors = declared.actors }

-- the mode of an object is numbered; in version 1 all objects are ranged
abbrev pub says_numbered : ℕ → List (List ℕ) → Bool
says_numbered version words = has_modes version && word_is words 6 (codes "numbered")

-- object NAME PAGES LIMIT TRAP IMAGE, in version 2 with MODE: one object more, of 16. Its users and pagers are counted when all are declared
abbrev pub object_line : ℕ → Declared → List (List ℕ) → Result Declared Why
object_line line declared words = do
  name ← new_name declared (word_at words 1)
  pages ← number_between 0 65536 (word_at words 2)
  limit ← limit_in pages (word_at words 3)
  image ← image_in declared (word_at words 5)
  few ← check why.Limit (nat_lt (length declared.objects) 16)
  Ok (with_object declared (record {
    number = line;
    name = name;
    birth = record {
      pages = pages;
      limit = limit;
      trap = word_is words 4 (codes "trap");
      users = 0;
      pagers = 0;
      image = is_some image;
      numbered = says_numbered declared.version words;
    };
    image = image;
  }))

-- the object that a word names
abbrev pub object_in : Declared → List ℕ → Result ℕ Why
object_in declared word = or_why why.Name (object_named word declared.objects)

-- one object more that an actor acts on: none is named twice
abbrev pub bind_step : Declared → List ℕ → List ℕ → Result (List ℕ) Why
bind_step declared bound word = do
  object ← object_in declared word
  new ← check why.Name (not (is_among bound object))
  Ok (bound ++ object ∷ [])

-- a pager serves an object without image, a worker one with image
abbrev pub may_serve : Kind → List ObjectLine → ℕ → Bool
may_serve Pager objects object = not (has_image objects object)
may_serve Worker objects object = has_image objects object
may_serve _ objects object = true

-- one actor more, of 64
abbrev pub with_actor : Declared → ActorLine → Result Declared Why
with_actor declared actor = do
  few ← check why.Limit (nat_lt (length declared.actors) 64)
  Ok (record { version = declared.version; last = last.Actor; stock = declared.stock; objects = declared.objects; actors = declared.actors ++ actor ∷ [] })

-- user, pager or worker NAME OBJECT ..
abbrev pub bound_line : Kind → ℕ → Declared → List (List ℕ) → Result Declared Why
bound_line kind line declared words = do
  name ← new_name declared (word_at words 1)
  objects ← each (bind_step declared) [] (drop 2 words)
  role ← check why.Role (list_all (may_serve kind declared.objects) objects)
  with_actor declared (record { number = line; name = name; kind = kind; objects = objects })

-- the first n numbers
abbrev pub first_numbers : ℕ → List ℕ
first_numbers zero = []
first_numbers (suc n) = first_numbers n ++ n ∷ []

-- evictor NAME: acts on all objects
abbrev pub evictor_line : ℕ → Declared → List (List ℕ) → Result Declared Why
evictor_line line declared words = do
  name ← new_name declared (word_at words 1)
  with_actor declared (record { number = line; name = name; kind = Evictor; objects = first_numbers (length declared.objects) })

-- the line begins with this word, and names at least one object
abbrev pub binds : List (List ℕ) → List ℕ → Bool
binds words kind = word_is words 0 kind && nat_le 3 (length words)

-- a line that declares an actor
abbrev pub actor_line : ℕ → Declared → List (List ℕ) → Result Declared Why
actor_line line declared words =
    cond (binds words (codes "user")) (bound_line User line declared words)
    (cond (binds words (codes "pager")) (bound_line Pager line declared words)
    (cond (verb_is words 0 (codes "worker") 3) (bound_line Worker line declared words)
    (cond (verb_is words 0 (codes "evictor") 2) (evictor_line line declared words) (Err why.Word))))

abbrev pub is_trap_word : List ℕ → Bool
is_trap_word word = bytes_eq word (codes "trap") || bytes_eq word (codes "free")

-- the words of a line that declares an object: so many, with the fixed ones at their places
abbrev pub says_object : ℕ → List (List ℕ) → Bool
says_object version words =
    verb_is words 0 (codes "object") (object_size version) && is_trap_word (word_at words 4) && is_mode_word version (word_at words 6)

-- a line that declares frames or an object
abbrev pub declaration_line : ℕ → Declared → List (List ℕ) → Result Declared Why
declaration_line line declared words =
    cond (verb_is words 0 (codes "frames") 2 && is_first declared.last) (frames_line line declared words)
    (cond (verb_is words 0 (codes "loan") 2 && may_loan declared.last) (loan_line line declared words)
    (cond (verb_is words 0 (codes "levels") 3 && may_level declared.last) (levels_line declared words)
    (cond (says_object declared.version words && may_object declared.last) (object_line line declared words)
    (cond (is_first declared.last) (Err why.Word) (actor_line line declared words)))))

-- the declarations, with the counts of each object's users and pagers
abbrev pub with_all_counted : Declared → Declared
with_all_counted declared = record { version = declared.version; last = declared.last; stock = declared.stock; objects = counted declared.actors declared.objects; actors = declared.actors }

-- all is there that a script needs, once users and pagers are counted: frames, an object, and a user and a pager of each
abbrev pub is_whole : Declared → Bool
is_whole declared = not (is_first declared.last) && nat_lt 0 (length declared.objects) && list_all is_served declared.objects
