use Rattle.std.proofs.Common.{◌≡◌, ℕ, length, slice_get, Some, None, refl, sym, ap, ◌∙◌, subst, ◌∷◌, [], ◌++◌, List, arith}
use Rattle.std.proofs.lemmas.Option.{slice_get_read}
use Rattle.up_text.specs.Versions.{Versioned}
use Rattle.up_text.specs.declared.journals.Named.{Named}
use Rattle.pagerd.specs.Journals.{name_one, named_from}
use Rattle.pagerd.proofs.NamedJournals.{named_more, named_no_more, get_past}
use Rattle.pagerd.proofs.journals.name_all.Goals as goal

abbrev in_version : ℕ → List Named → Versioned
in_version version journals = record { version = version; list = journals }

pub loop-entries-preserved-then-at-objects : goal.loop-entries-preserved-then-at-objects
loop-entries-preserved-then-at-objects c =
    let objects = c.args.objects.now in
    let object = c.index-objects-at.result in
    let e = c.in-Some.entries in
    let found : slice_get objects c.len-at.result ≡ Some object = slice_get_read objects (length objects) c.len-at.result object refl c.if-at-objects.true c.index-objects-at.is in
    let place : c.len-at.result ≡ length (named_from objects c.loop-entries.yielded) = c.len-at.ensures ∙ ap (λ (js : Versioned). length js.list) c.loop-entries.invariant in
    c.in_ok-journals.ensures ∙ ap (λ (js : Versioned). record js { list = js.list ++ name_one object e ∷ [] }) c.loop-entries.invariant
    ∙ ap (in_version c.args.version) (sym (named_more objects c.loop-entries.yielded e object (subst (λ (k : ℕ). slice_get objects k ≡ Some object) place found)))

pub loop-entries-preserved : goal.loop-entries-preserved
loop-entries-preserved c =
    let objects = c.args.objects.now in
    let past : slice_get objects c.len-at.result ≡ None = get_past objects c.len-at.result (omega arith) in
    let place : c.len-at.result ≡ length (named_from objects c.loop-entries.yielded) = c.len-at.ensures ∙ ap (λ (js : Versioned). length js.list) c.loop-entries.invariant in
    c.loop-entries.invariant ∙ ap (in_version c.args.version) (sym (named_no_more objects c.loop-entries.yielded c.in-Some.entries (subst (λ (k : ℕ). slice_get objects k ≡ None) place past)))
