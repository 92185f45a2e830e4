-- A script that keeps the limits is read from its text: all lines together.
use Rattle.std.proofs.Common.{◌≡◌, ℕ, ◌+◌, ◌<◌, ◌≤◌, Bool, true, ◌&&◌, leb, ltb, not, List, [], ◌∷◌, ◌++◌, length, map, Ok, refl, sym, ap, subst, ◌∙◌, append-nil, arith}
use Rattle.std.specs.Prelude.{codes}
use Rattle.std.specs.List.{list_all, list_any}
use Rattle.std.specs.Str.{bytes_eq}
use Rattle.std.proofs.lemmas.Bool.{and_parts, lt-ltb, le-leb, leb-true, not-true}
use Rattle.std.proofs.lemmas.List.{length-map}
use Rattle.std.proofs.lemmas.List.Folds.{list_any-append}
use Rattle.up_words.specs.Names.{is_name}
use Rattle.up_words.proofs.Decimals.{both}
use Rattle.up_words.proofs.ReadSteps.{lines_last}
use Rattle.up_script.specs.Declarations.{is_first, may_object, is_whole, with_all_counted}
use Rattle.up_script.specs.Fit.{are_unlike, images_of, is_fit_actor, binds_right}
use Rattle.up_script.specs.Laws.{ReadsItsText}
use Rattle.up_script.specs.Objects.{counted, is_served}
use Rattle.up_script.specs.Reading.{nothing_played, line_step, last_step}
use Rattle.up_script.specs.Sound.{is_within, is_fair_object, is_sound_object, are_sound_objects, are_sound_lines}
use Rattle.up_script.specs.Text.{and_loan, objects_written, actors_written, actor_words, lines_written, object_names, actor_names, script_text}
use Rattle.up_script.specs.Whole.{all_fit, frames_of, stock_in, declared_in, steps_in, HasText}
use Rattle.up_script.specs.declared.declarations.FrameCounts.{FrameCounts}
use Rattle.up_script.specs.declared.reading.Section.TheVariants as sections
use Rattle.up_script.specs.declared.script.ActorLine.{ActorLine}
use Rattle.up_script.specs.declared.script.ObjectLine.{ObjectLine}
use Rattle.up_script.specs.declared.script.Script.{Script}
use Rattle.up_script.proofs.ScriptLimits.{or_none, all_weaker, all_same, Alike, actor_alike, count_steps, fits_frames}
use Rattle.up_script.proofs.OwnBack.{Begun, Acted, fair_parts, fit_parts, next_reads, decl, stock_with, ok_section, played, frames_reads, loan_reads, stock_reads, object_later, bare, bare_names, bare_has, bare_counted, objects_read, actors_read, lines_read}
use Rattle.up_script.proofs.OwnText.{steps_branch}
use Rattle.up_script.proofs.Spelling.{Rest, Reads}

-- the items before, and those behind, are unlike too
unlike_front : {X : Type 0} (same : X → X → Bool) (xs ys : List X) → are_unlike same (xs ++ ys) ≡ true → are_unlike same xs ≡ true
unfolding are_unlike
unlike_front same [] ys e = refl
unlike_front same (x ∷ xs) ys e =
    let p = and_parts (not (list_any (same x) (xs ++ ys))) (are_unlike same (xs ++ ys)) e in
    let q = or_none (list_any (same x) xs) (list_any (same x) ys) (sym (list_any-append (same x) xs ys) ∙ not-true (list_any (same x) (xs ++ ys)) p.0) in
    both (not (list_any (same x) xs)) (are_unlike same xs) (ap not q.0) (unlike_front same xs ys p.1)

unlike_back : {X : Type 0} (same : X → X → Bool) (xs ys : List X) → are_unlike same (xs ++ ys) ≡ true → are_unlike same ys ≡ true
unfolding are_unlike
unlike_back same [] ys e = e
unlike_back same (x ∷ xs) ys e = unlike_back same xs ys (and_parts (not (list_any (same x) (xs ++ ys))) (are_unlike same (xs ++ ys)) e).1

sound_fair : (o : ObjectLine) → is_sound_object o ≡ true → is_fair_object o ≡ true
sound_fair o e = (and_parts (is_fair_object o) (is_within 1 64 o.birth.users) (and_parts (is_fair_object o && is_within 1 64 o.birth.users) (is_within 1 64 o.birth.pagers) e).0).0

sound_served : (o : ObjectLine) → is_sound_object o ≡ true → is_served o ≡ true
sound_served o e =
    let p = and_parts (is_fair_object o && is_within 1 64 o.birth.users) (is_within 1 64 o.birth.pagers) e in
    let q = and_parts (is_fair_object o) (is_within 1 64 o.birth.users) p.0 in
    let users = leb-true 1 o.birth.users (and_parts (leb 1 o.birth.users) (leb o.birth.users 64) q.1).0 in
    let pagers = leb-true 1 o.birth.pagers (and_parts (leb 1 o.birth.pagers) (leb o.birth.pagers 64) p.1).0 in
    both (ltb 0 o.birth.users) (ltb 0 o.birth.pagers) (lt-ltb 0 o.birth.users (omega arith)) (lt-ltb 0 o.birth.pagers (omega arith))

fair_name : (o : ObjectLine) → is_sound_object o ≡ true → is_name o.name ≡ true
fair_name o e = (fair_parts o (sound_fair o e)).name

names_sound : (os : List ObjectLine) → list_all is_sound_object os ≡ true → list_all is_name (object_names os) ≡ true
names_sound [] all = refl
names_sound (o ∷ os) all =
    let p = and_parts (is_sound_object o) (list_all is_sound_object os) all in
    both (is_name o.name) (list_all is_name (object_names os)) (fair_name o p.0) (names_sound os p.1)

names_fit : (objects : List ObjectLine) (actors : List ActorLine) → list_all (is_fit_actor objects) actors ≡ true → list_all is_name (actor_names actors) ≡ true
names_fit objects [] all = refl
names_fit objects (a ∷ actors) all =
    let p = and_parts (is_fit_actor objects a) (list_all (is_fit_actor objects) actors) all in
    both (is_name a.name) (list_all is_name (actor_names actors)) (fit_parts objects a p.0).name (names_fit objects actors p.1)

bare_alike : (os : List ObjectLine) → Alike (map bare os) os
bare_alike os = record { long = length-map os bare; image = λ place. sym (bare_has os place) }

module _ (script : Script) (t : HasText script) where
  abbrev stock : FrameCounts
  stock = stock_with script.frames script.frames_line script.loan script.loan_line script.warn script.critical

  abbrev v : ℕ
  v = script.version

  abbrev objects : List ObjectLine
  objects = script.objects

  abbrev bares : List ObjectLine
  bares = map bare script.objects

  abbrev actors : List ActorLine
  actors = script.actors

  record Parts : Type 0 where
    some : 0 < length objects
    few : length objects ≤ 16
    sound : list_all is_sound_object objects ≡ true
    several : length actors ≤ 64
    lines : are_sound_lines (length objects) (length actors) script.lines ≡ true

  parts : Parts
  parts =
      let p = and_parts (are_sound_objects objects && leb (length actors) 64) (are_sound_lines (length objects) (length actors) script.lines) t.sound in
      let q = and_parts (are_sound_objects objects) (leb (length actors) 64) p.0 in
      let r = and_parts (is_within 1 16 (length objects)) (list_all is_sound_object objects) q.0 in
      let s = and_parts (leb 1 (length objects)) (leb (length objects) 16) r.0 in
      record { some = leb-true 1 (length objects) s.0; few = leb-true (length objects) 16 s.1; sound = r.1; several = leb-true (length actors) 64 q.1; lines = p.1 }

  apart : are_unlike bytes_eq (object_names objects) ≡ true
  apart = unlike_front bytes_eq (object_names objects) (actor_names actors) t.fits.names

  named : list_all is_name (object_names objects) ≡ true
  named = names_sound objects parts.sound

  -- the objects
  objects_back : Begun v (objects_written v (stock_in script) objects) stock bares may_object
  unfolding images_of
  objects_back =
      let f = fits_frames script.frames script.loan script.warn script.critical t.fits.frames in
      let a = frames_reads v script.frames script.frames_line t.fits.version f.some f.few t.frames in
      let b = loan_reads v script.frames script.frames_line script.loan script.loan_line (frames_of script) f.loaned a t.loan in
      let c = stock_reads v script.frames script.frames_line script.loan script.loan_line script.warn script.critical (and_loan (frames_of script) script.loan_line script.loan) f.few f.warned f.lower b t.levels in
      objects_read v stock c.l (stock_in script) [] objects c.is c.reads t.objects t.fits.imaged t.fits.modes (all_weaker is_sound_object is_fair_object objects sound_fair parts.sound) apart t.fits.images (omega (arith, parts.few))

  -- the actors
  actors_back : Acted v (actors_written (object_names bares) (objects_written v (stock_in script) objects) actors) stock bares actors
  actors_back =
      let o = objects_back in
      let text = objects_written v (stock_in script) objects in
      let same : object_names objects ≡ object_names bares = sym (bare_names objects) in
      let long : length objects ≡ length bares = sym (length-map objects bare) in
      let fits = subst (λ ns. all_fit (λ (a : ActorLine). a.number) (actor_words ns) text actors ≡ true) same t.actors in
      let fit = all_same (is_fit_actor bares) (is_fit_actor objects) actors (λ actor. actor_alike bares objects actor (bare_alike objects)) ∙ t.fits.actors in
      let right = subst (λ n. list_all (λ (a : ActorLine). binds_right a.kind n a.objects) actors ≡ true) long t.fits.bound in
      let differ : are_unlike bytes_eq ((object_names bares ++ actor_names []) ++ actor_names actors) ≡ true =
      ap (λ ns. are_unlike bytes_eq (ns ++ actor_names actors)) (append-nil (object_names bares) ∙ sym same) ∙ t.fits.names in
      actors_read v stock o.l bares text [] actors (object_later o.l o.is) o.reads fits (subst (λ ns. list_all is_name ns ≡ true) same named) (subst (λ ns. are_unlike bytes_eq ns ≡ true) same apart) fit right differ (omega (arith, parts.several))

  counts : counted actors bares ≡ objects
  counts = count_steps actors [] bares ∙ bare_counted actors 0 objects ∙ sym (count_steps actors [] objects) ∙ t.fits.counts

  -- the line steps
  steps_back : Reads (steps_in script) (sections.Acting (decl v actors_back.l stock objects actors) nothing_played)
  steps_back =
      let l = actors_back.l in
      let d = decl v l stock bares actors in
      let declared = declared_in script in
      let words = codes "steps" ∷ [] in
      let reads : Reads declared (sections.Declaring d) = subst (λ ns. Reads (actors_written ns (objects_written v (stock_in script) objects) actors) (sections.Declaring d)) (bare_names objects) actors_back.reads in
      let served = all_weaker is_sound_object is_served objects sound_served parts.sound in
      let here : (not (is_first l) && ltb 0 (length objects) && list_all is_served objects) ≡ true = rw (actors_back.is, lt-ltb 0 (length objects) parts.some, served) refl in
      let whole : is_whole (with_all_counted d) ≡ true = subst (λ (xs : List ObjectLine). (not (is_first l) && ltb 0 (length xs) && list_all is_served xs) ≡ true) (sym counts) here in
      next_reads declared (sections.Declaring d) (sections.Acting (decl v l stock objects actors) nothing_played) words reads refl t.steps (record { some = omega arith; good = refl; shown = refl })
      (steps_branch declared.next d words refl whole ∙ ap (λ (xs : List ObjectLine). ok_section (sections.Acting (decl v l stock xs actors) nothing_played)) counts)

  whole_back : Rest 1 sections.Header (script_text script) ≡ Ok script
  whole_back =
      let d = decl v actors_back.l stock objects actors in
      let done = lines_read d (steps_in script) [] 67108864 [] script.lines t.fits.modes steps_back t.lines named (names_fit objects actors t.fits.actors) apart (unlike_back bytes_eq (object_names objects) (actor_names actors) t.fits.names) parts.lines t.bytes t.fits.leaves t.fits.lines t.fits.stays t.fits.bytes in
      let text = lines_written (object_names objects) (actor_names actors) (steps_in script) script.lines in
      ap (λ bytes. Rest 1 sections.Header bytes) (sym (append-nil text.bytes)) ∙ done.reads [] ∙ lines_last line_step last_step text.next (sections.Acting d (played script.lines done.room done.left)) []

-- a script that keeps the limits is read from its text
pub text_back : ReadsItsText
text_back script t = rw (le-leb (length (script_text script)) 4194304 t.short) (whole_back script t)
