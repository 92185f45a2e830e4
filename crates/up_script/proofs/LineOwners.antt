-- Whose a line is, by what it does.
use Rattle.std.proofs.Common.{◌≡◌, ℕ, ◌*◌, true, List, Result, Ok, Err, refl, subst}
use Rattle.up_num.specs.Span.{Span}
use Rattle.up_words.specs.ReadSteps.{◌>>=◌}
use Rattle.up_words.specs.Words.{word_at}
use Rattle.up_words.specs.Numbers.{number_between}
use Rattle.up_words.specs.Runs.{bytes_between}
use Rattle.up_words.specs.declared.fault.Why.{Why}
use Rattle.up_words.proofs.Decimals.{ok_is}
use Rattle.up_script.specs.Actions.{action_in, alone_of, fields_of, range_in, has_what_it_needs}
use Rattle.up_script.specs.Declarations.{object_in}
use Rattle.up_script.specs.Fit.{may_call, may_do, suits_object}
use Rattle.up_script.specs.Verbs.{says, says_on, says_alone, call_over}
use Rattle.up_script.specs.declared.declarations.Declared.{Declared}
use Rattle.up_script.specs.declared.script.Action.{Action}
use Rattle.up_script.specs.declared.script.Action.TheVariants as actions
use Rattle.up_script.specs.declared.script.Kind.{Kind}
use Rattle.up_script.specs.declared.verbs.Lone.{Lone}
use Rattle.up_script.specs.declared.verbs.Lone.TheVariants as lone
use Rattle.up_script.specs.declared.verbs.On.{On}
use Rattle.up_script.specs.declared.verbs.On.TheVariants as on
use Rattle.up_script.specs.declared.verbs.Over.{Over}
use Rattle.up_script.specs.declared.verbs.Over.TheVariants as over
use Rattle.up_script.specs.declared.verbs.Verb.{Verb}
use Rattle.up_script.specs.declared.verbs.Verb.TheVariants.{Alone, OnObject}

pub bind_ok : {X Y : Type 0} (r : Result X Why) (next : X → Result Y Why) (y : Y) → (r >>= next) ≡ Ok y → (x : X) × (r ≡ Ok x) × (next x ≡ Ok y)
bind_ok (Ok x) next y e = (x, refl, e)
bind_ok (Err reason) next y e = absurd cc

abbrev MayDo : Kind → Action → Type 0
MayDo kind action = may_do kind action ≡ true

-- a call over a range is its verb's
range_may : (verb : Over) (kind : Kind) (range : Span) → says_on (on.Range verb) kind ≡ true → may_call kind (call_over verb range) ≡ true
range_may over.Always kind range s = s
range_may over.Cold kind range s = s
range_may over.Pin kind range s = s
range_may over.Unpin kind range s = s
range_may over.Zero kind range s = s
range_may over.Dirty kind range s = s
range_may over.End kind range s = s
range_may (over.Fail code) kind range s = s
range_may (over.Begin zero) kind range s = s

fields_may : (kind : Kind) (verb : On) (object : ℕ) (words : List (List ℕ)) (action : Action) → fields_of kind verb object words ≡ Ok action → says_on verb kind ≡ true → MayDo kind action
fields_may kind on.Read object words action e s =
    let off = bind_ok (number_between 0 8796093022208 (word_at words 3)) _ action e in
    let len = bind_ok (number_between 1 65536 (word_at words 4)) _ action off.2 in
    subst (MayDo kind) (ok_is _ action len.2) s
fields_may kind on.Write object words action e s =
    let off = bind_ok (number_between 0 8796093022208 (word_at words 3)) _ action e in
    let bytes = bind_ok (bytes_between 1 65536 (word_at words 4)) _ action off.2 in
    subst (MayDo kind) (ok_is _ action bytes.2) s
fields_may kind on.Supply object words action e s =
    let first = bind_ok (number_between 0 2147483648 (word_at words 3)) _ action e in
    let count = bind_ok (number_between 1 16 (word_at words 4)) _ action first.2 in
    let bytes = bind_ok (bytes_between (count.0 * 4096) (count.0 * 4096) (word_at words 5)) _ action count.2 in
    subst (MayDo kind) (ok_is _ action bytes.2) s
fields_may kind (on.Range verb) object words action e s =
    let range = bind_ok (range_in words 3) _ action e in
    subst (MayDo kind) (ok_is _ action range.2) (range_may verb kind range.0 s)
fields_may kind on.EndOf object words action e s =
    let range = bind_ok (range_in words 3) _ action e in
    let of = bind_ok (number_between 0 18446744073709551615 (word_at words 5)) _ action range.2 in
    subst (MayDo kind) (ok_is _ action of.2) s
fields_may kind on.Query object words action e s =
    let range = bind_ok (range_in words 3) _ action e in
    let room = bind_ok (number_between 0 65536 (word_at words 5)) _ action range.2 in
    subst (MayDo kind) (ok_is _ action room.2) s
fields_may kind on.Resize object words action e s =
    let pages = bind_ok (number_between 0 65536 (word_at words 3)) _ action e in
    subst (MayDo kind) (ok_is _ action pages.2) s
fields_may kind on.Turn object words action e s =
    let steps = bind_ok (number_between 1 4096 (word_at words 3)) _ action e in
    subst (MayDo kind) (ok_is _ action steps.2) s
fields_may kind on.Evict object words action e s =
    let limit = bind_ok (number_between 0 8 (word_at words 3)) _ action e in
    let max = bind_ok (number_between 0 65536 (word_at words 4)) _ action limit.2 in
    subst (MayDo kind) (ok_is _ action max.2) s
fields_may kind on.Borrow object words action e s =
    let page = bind_ok (number_between 0 2147483648 (word_at words 3)) _ action e in
    subst (MayDo kind) (ok_is _ action page.2) s
fields_may kind on.Sync object words action e s = subst (MayDo kind) (ok_is _ action e) s
fields_may kind on.Packet object words action e s = subst (MayDo kind) (ok_is _ action e) s
fields_may kind on.Detach object words action e s = subst (MayDo kind) (ok_is _ action e) s
fields_may kind on.Leave object words action e s = subst (MayDo kind) (ok_is _ action e) s
fields_may kind (on.Stats reset) object words action e s = subst (MayDo kind) (ok_is _ action e) s

alone_may : (kind : Kind) (verb : Lone) (words : List (List ℕ)) (action : Action) → alone_of verb words ≡ Ok action → says_alone verb kind ≡ true → MayDo kind action
alone_may kind lone.Go words action e s = subst (MayDo kind) (ok_is _ action e) s
alone_may kind lone.Age words action e s = subst (MayDo kind) (ok_is _ action e) s
alone_may kind lone.Watch words action e s = subst (MayDo kind) (ok_is _ action e) s
alone_may kind lone.Recall words action e s = subst (MayDo kind) (ok_is _ action e) s
alone_may kind lone.Lend words action e s = subst (MayDo kind) (ok_is _ action e) s
alone_may kind lone.Relieve words action e s =
    let frames = bind_ok (number_between 1 16384 (word_at words 2)) _ action e in
    subst (MayDo kind) (ok_is _ action frames.2) s

-- what a line does is for its verb's actors
pub may_of : (declared : Declared) (kind : Kind) (verb : Verb) (words : List (List ℕ)) (action : Action) → action_in declared kind verb words ≡ Ok action → says verb kind ≡ true → may_do kind action ≡ true
may_of declared kind (Alone verb) words action e s = alone_may kind verb words action e s
may_of declared kind (OnObject verb) words action e s =
    let object = bind_ok (object_in declared (word_at words 2)) _ action e in
    fields_may kind verb object.0 words action object.2 s

-- what a line needs of its object
pub same_needs : (declared : Declared) (action : Action) → has_what_it_needs declared action ≡ suits_object declared.objects action
same_needs declared actions.Go = refl
same_needs declared (actions.Read object off len) = refl
same_needs declared (actions.Write object off bytes) = refl
same_needs declared (actions.Act object call) = refl
same_needs declared (actions.Sync object) = refl
same_needs declared (actions.Turn object steps) = refl
same_needs declared actions.Age = refl
same_needs declared actions.Watch = refl
same_needs declared (actions.Relieve frames) = refl
same_needs declared actions.Recall = refl
same_needs declared actions.Lend = refl
