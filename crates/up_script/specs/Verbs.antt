-- The verbs of the lines of actors.
use Rattle.std.specs.Prelude.{ℕ, ◌&&◌, Bool, true, false, cond, not, List, Option, Some, None, codes}
use Rattle.up_words.specs.Refusals.{code_in}
use Rattle.up_num.specs.Span.{Span}
use Rattle.up_num.specs.declared.answers.Code.{Code}
use Rattle.up_model.specs.declared.entry.Brought.TheVariants.{Nothing}
use Rattle.up_model.specs.declared.entry.Call.{Call}
use Rattle.up_model.specs.declared.entry.Call.TheVariants as calls
use Rattle.up_model.specs.declared.entry.HintKind.TheVariants as hints
use Rattle.up_model.specs.declared.entry.Role.{Role}
use Rattle.up_model.specs.declared.entry.Role.TheVariants as roles
use Rattle.up_words.specs.Words.{word_at, word_is, verb_is}
use Rattle.up_script.specs.Versions.{has_modes}
use Rattle.up_script.specs.Objects.{is_user, is_pager, is_worker, is_evictor}
use Rattle.up_script.specs.declared.script.Kind.{Kind}
use Rattle.up_script.specs.declared.verbs.Lone.{Lone}
use Rattle.up_script.specs.declared.verbs.Lone.TheVariants as lone
use Rattle.up_script.specs.declared.verbs.On.{On}
use Rattle.up_script.specs.declared.verbs.On.TheVariants as on
use Rattle.up_script.specs.declared.verbs.Over.{Over}
use Rattle.up_script.specs.declared.verbs.Over.TheVariants as over
use Rattle.up_script.specs.declared.verbs.Verb.{Verb}
use Rattle.up_script.specs.declared.verbs.Verb.TheVariants.{Alone, OnObject}

-- a fail with the code that its word spells
abbrev pub fail_verb : Option Code → Option On
fail_verb None = None
fail_verb (Some code) = Some (on.Range (over.Fail code))

-- what users do: the verb, the number of words, and the words that are fixed
abbrev pub user_verb : List (List ℕ) → Option On
user_verb words =
    cond (verb_is words 1 (codes "read") 5) (Some on.Read)
    (cond (verb_is words 1 (codes "write") 5) (Some on.Write)
    (cond (verb_is words 1 (codes "always") 5) (Some (on.Range over.Always))
    (cond (verb_is words 1 (codes "cold") 5) (Some (on.Range over.Cold))
    (cond (verb_is words 1 (codes "pin") 5) (Some (on.Range over.Pin))
    (cond (verb_is words 1 (codes "unpin") 5) (Some (on.Range over.Unpin))
    (cond (verb_is words 1 (codes "resize") 4) (Some on.Resize)
    (cond (verb_is words 1 (codes "zero") 5) (Some (on.Range over.Zero))
    (cond (verb_is words 1 (codes "sync") 3) (Some on.Sync)
    (cond (verb_is words 1 (codes "leave") 3) (Some on.Leave) None)))))))))

-- what raw pagers do; from version 2 on an end may name its begin
abbrev pub pager_verb : ℕ → List (List ℕ) → Option On
pager_verb version words =
    cond (verb_is words 1 (codes "packet") 3) (Some on.Packet)
    (cond (verb_is words 1 (codes "supply") 6) (Some on.Supply)
    (cond (verb_is words 1 (codes "fail") 6) (fail_verb (code_in (word_at words 5)))
    (cond (verb_is words 1 (codes "dirty") 5) (Some (on.Range over.Dirty))
    (cond (verb_is words 1 (codes "begin") 6 && word_is words 5 (codes "any")) (Some (on.Range (over.Begin false)))
    (cond (verb_is words 1 (codes "begin") 6 && word_is words 5 (codes "zero")) (Some (on.Range (over.Begin true)))
    (cond (verb_is words 1 (codes "end") 5) (Some (on.Range over.End))
    (cond (verb_is words 1 (codes "end") 6 && has_modes version) (Some on.EndOf)
    (cond (verb_is words 1 (codes "query") 6) (Some on.Query)
    (cond (verb_is words 1 (codes "stats") 4 && word_is words 3 (codes "keep")) (Some (on.Stats false))
    (cond (verb_is words 1 (codes "stats") 4 && word_is words 3 (codes "reset")) (Some (on.Stats true))
    (cond (verb_is words 1 (codes "detach") 3) (Some on.Detach) None)))))))))))

-- what workers and evictors do on an object
abbrev pub other_verb : List (List ℕ) → Option On
other_verb words =
    cond (verb_is words 1 (codes "turn") 4) (Some on.Turn)
    (cond (verb_is words 1 (codes "evict") 5) (Some on.Evict)
    (cond (verb_is words 1 (codes "borrow") 4) (Some on.Borrow) None))

-- what is done on no object
abbrev pub lone_verb : List (List ℕ) → Option Lone
lone_verb words =
    cond (verb_is words 1 (codes "go") 2) (Some lone.Go)
    (cond (verb_is words 1 (codes "age") 2) (Some lone.Age)
    (cond (verb_is words 1 (codes "watch") 2) (Some lone.Watch)
    (cond (verb_is words 1 (codes "relieve") 3) (Some lone.Relieve)
    (cond (verb_is words 1 (codes "recall") 2) (Some lone.Recall)
    (cond (verb_is words 1 (codes "lend") 2) (Some lone.Lend) None)))))

-- the first of two that is there
abbrev pub or_on : Option On → Option On → Option On
or_on None second = second
or_on (Some verb) second = Some verb

abbrev pub or_lone : Option On → Option Lone → Option Verb
or_lone (Some verb) second = Some (OnObject verb)
or_lone None (Some verb) = Some (Alone verb)
or_lone None None = None

-- the verb of a line in a script of this version, by its second word, its number of words and its fixed words
abbrev pub verb_of : ℕ → List (List ℕ) → Option Verb
verb_of version words = or_lone (or_on (user_verb words) (or_on (pager_verb version words) (other_verb words))) (lone_verb words)

-- whose verbs these are
abbrev pub is_user_range : Over → Bool
is_user_range over.Always = true
is_user_range over.Cold = true
is_user_range over.Pin = true
is_user_range over.Unpin = true
is_user_range over.Zero = true
is_user_range _ = false

abbrev pub says_on : On → Kind → Bool
says_on on.Read kind = is_user kind
says_on on.Write kind = is_user kind
says_on on.Resize kind = is_user kind
says_on on.Sync kind = is_user kind
says_on on.Leave kind = not (is_evictor kind)
says_on (on.Range call) kind = cond (is_user_range call) (is_user kind) (is_pager kind)
says_on on.Turn kind = is_worker kind
says_on on.Evict kind = is_evictor kind
says_on on.Borrow kind = is_evictor kind
says_on _ kind = is_pager kind

abbrev pub says_alone : Lone → Kind → Bool
says_alone lone.Go kind = true
says_alone _ kind = is_evictor kind

abbrev pub says : Verb → Kind → Bool
says (Alone verb) kind = says_alone verb kind
says (OnObject verb) kind = says_on verb kind

-- the call over a range; it brings nothing yet
abbrev pub call_over : Over → Span → Call
call_over over.Always range = calls.Hint range hints.Always
call_over over.Cold range = calls.Hint range hints.Cold
call_over over.Pin range = calls.Pin range Nothing
call_over over.Unpin range = calls.Unpin range
call_over over.Zero range = calls.Zero range
call_over over.Dirty range = calls.Dirty range Nothing
call_over over.End range = calls.End range None
call_over (over.Fail code) range = calls.Fail range code
call_over (over.Begin zero) range = calls.Begin range zero

-- the role in which an actor leaves
abbrev pub role_of : Kind → Role
role_of kind = cond (is_user kind) roles.User roles.Pager
