-- Byte lists are read from the text of their runs, and from no other.
use Rattle.std.proofs.Common.{◌≡◌, ℕ, zero, suc, ◌+◌, ◌-◌, ◌<◌, ◌≤◌, min, not, true, false, eqb, List, [], ◌∷◌, ◌++◌, length, replicate, Result, Ok, Err, refl, sym, ap, ap₂, subst, ◌∙◌, ⊎_elim, append_assoc, append-nil, add-zero, zero-add, arith}
use Rattle.std.specs.List.{list_all, join_with_byte}
use Rattle.std.proofs.lemmas.Bool.{eqb-true, eqb-false, eq-eqb, ne_eqb, not-true, cases_Bool, and_parts, ltb-true}
use Rattle.std.proofs.lemmas.List.{replicate_more, length-append, length-replicate}
use Rattle.std.proofs.lemmas.List.Concat.{flat_map-append}
use Rattle.std.proofs.lemmas.List.Splits.{slice_split_none, slice_split_at, length-slice_split, join_with_byte-slice_split}
use Rattle.up_words.specs.ReadSteps.{◌>>=◌, each}
use Rattle.up_words.specs.Words.{split, is_byte}
use Rattle.up_words.specs.Runs.{too_many, run_in, run_step, no_runs, spread, run_text, text_from, bytes_text}
use Rattle.up_words.specs.Laws.{ReadsBytesText, ReadsOnlyBytesText}
use Rattle.up_words.specs.declared.fault.Why.{Why}
use Rattle.up_words.specs.declared.fault.Why.TheVariants as why
use Rattle.up_words.specs.declared.runs.ByteRun.{ByteRun}
use Rattle.up_words.specs.declared.runs.ByteRuns.{ByteRuns}
use Rattle.up_words.proofs.Decimals.{then_ok, ok_is}
use Rattle.up_words.proofs.Pieces.{run_again, run_takes, run_unparted}

-- the runs after one more
one_more : ByteRuns → ByteRun → ByteRuns
one_more s run = record { found = s.found ++ run ∷ []; last = run.byte; total = min (s.total + run.count) too_many }

-- one run more is read from its text, where its byte is another than the last
step_again : (s : ByteRuns) (b n : ℕ) → b < 256 → 0 < n → n ≤ too_many → (b ≡ s.last → ⊥) → run_step s (run_text b n) ≡ Ok (one_more s (record { byte = b; count = n }))
unfolding one_more
step_again s b n byte some le other = rw (run_again b n byte some le, ne_eqb b s.last other) refl

-- spread runs with one more are followed by its bytes
spread_more : (runs : List ByteRun) (run : ByteRun) → spread (runs ++ run ∷ []) ≡ spread runs ++ replicate run.count run.byte
spread_more runs run = flat_map-append (λ (r : ByteRun). replicate r.count r.byte) runs (run ∷ []) ∙ ap (λ bs. spread runs ++ bs) (append-nil (replicate run.count run.byte))

-- where the byte behind n times b is b too, it stands once more
replicate_next : (n b c : ℕ) (cs : List ℕ) → eqb c b ≡ true → replicate (n + 1) b ++ cs ≡ replicate n b ++ c ∷ cs
replicate_next n b c cs e = ap (λ bs. bs ++ cs) (sym (replicate_more n b)) ∙ append_assoc (replicate n b) (b ∷ []) cs ∙ ap (λ k. replicate n b ++ k ∷ cs) (sym (eqb-true c b e))

-- where the byte that stands n times stands once more, the text goes on with the same run
text_same : (b n c : ℕ) (cs : List ℕ) → eqb c b ≡ true → text_from b n (c ∷ cs) ≡ text_from b (n + 1) cs
unfolding text_from
text_same b n c cs e = rw e refl

-- where another byte follows, its run begins behind a plus sign
text_other : (b n c : ℕ) (cs : List ℕ) → eqb c b ≡ false → text_from b n (c ∷ cs) ≡ run_text b n ++ 43 ∷ text_from c 1 cs
unfolding text_from
text_other b n c cs e = rw e (append_assoc (run_text b n) (43 ∷ []) (text_from c 1 cs))

-- after the runs s the word is read as more runs, of these bytes
record ReadsAs (s : ByteRuns) (word bytes : List ℕ) : Type 0 where
  pub runs : ByteRuns
  pub read : each run_step s (split 43 word) ≡ Ok runs
  pub found : spread runs.found ≡ spread s.found ++ bytes
  pub total : runs.total ≡ s.total + length bytes

-- the text of one run is read as that run
one_reads : (s : ByteRuns) (b n : ℕ) → b < 256 → 0 < n → s.total + n < too_many → (b ≡ s.last → ⊥) → ReadsAs s (run_text b n) (replicate n b)
unfolding each one_more
one_reads s b n byte some fits other =
    let run : ByteRun = record { byte = b; count = n } in
    record {
      runs = one_more s run;
      read = rw (slice_split_none (λ x. eqb x 43) (run_text b n) (run_unparted b n (omega arith)), step_again s b n byte some (omega arith) other) refl;
      found = spread_more s.found run;
      total = omega (arith, length-replicate n b);
    }

-- the text of one run, with other runs behind a plus sign, is read as that run and these
more_reads : (s : ByteRuns) (b n : ℕ) (word bytes : List ℕ) → b < 256 → 0 < n → s.total + n < too_many → (b ≡ s.last → ⊥) → ReadsAs (one_more s (record { byte = b; count = n })) word bytes
    → ReadsAs s (run_text b n ++ 43 ∷ word) (replicate n b ++ bytes)
unfolding each one_more
more_reads s b n word bytes byte some fits other r =
    let run : ByteRun = record { byte = b; count = n } in
    record {
      runs = r.runs;
      read = rw (slice_split_at (λ x. eqb x 43) (run_text b n) 43 word (run_unparted b n (omega arith)) refl, step_again s b n byte some (omega arith) other) r.read;
      found = r.found ∙ ap (λ bs. bs ++ bytes) (spread_more s.found run) ∙ append_assoc (spread s.found) (replicate n b) bytes;
      total = omega (arith, r.total, length-append (replicate n b) bytes, length-replicate n b);
    }

-- the text of some bytes, before which b stood n times, is read as runs of them all
text_reads : (s : ByteRuns) (b n : ℕ) (bytes : List ℕ) → b < 256 → list_all is_byte bytes ≡ true → 0 < n → s.total + (n + length bytes) < too_many → (b ≡ s.last → ⊥) → ReadsAs s (text_from b n bytes) (replicate n b ++ bytes)
unfolding text_from one_more
text_reads s b n [] byte all some fits other = rw (append-nil (replicate n b)) (one_reads s b n byte some (omega arith) other)
text_reads s b n (c ∷ cs) byte all some fits other =
    let bytes = and_parts (is_byte c) (list_all is_byte cs) all in
    let run : ByteRun = record { byte = b; count = n } in
    let same : eqb c b ≡ true → ReadsAs s (text_from b n (c ∷ cs)) (replicate n b ++ c ∷ cs) =
    λ e. rw (text_same b n c cs e) (subst (λ bs. ReadsAs s (text_from b (n + 1) cs) bs) (replicate_next n b c cs e) (text_reads s b (n + 1) cs byte bytes.1 (omega arith) (omega arith) other)) in
    let differs : eqb c b ≡ false → ReadsAs s (text_from b n (c ∷ cs)) (replicate n b ++ c ∷ cs) =
    λ e. rw (text_other b n c cs e) (more_reads s b n (text_from c 1 cs) (c ∷ cs) byte some (omega arith) other
    (text_reads (one_more s run) c 1 cs (ltb-true c 256 bytes.0) bytes.1 (omega arith) (omega arith) (eqb-false c b e))) in
    ⊎_elim same differs (cases_Bool (eqb c b))

-- the text of some bytes is read as runs that spread to these bytes
pub back : ReadsBytesText
back [] some fits all = absurd (omega arith)
back (b ∷ bs) some fits all =
    let bytes = and_parts (is_byte b) (list_all is_byte bs) all in
    let byte = ltb-true b 256 bytes.0 in
    let r = text_reads no_runs b 1 bs byte bytes.1 (omega arith) (omega arith) (λ same. omega arith) in
    (r.runs, r.read, r.found, r.total ∙ zero-add (length (b ∷ bs)))

-- what went well before the next step
bind_ok : {X Y : Type 0} (r : Result X Why) (next : X → Result Y Why) (y : Y) → (r >>= next) ≡ Ok y → (x : X) × (r ≡ Ok x) × (next x ≡ Ok y)
bind_ok (Ok x) next y e = (x, refl, e)
bind_ok (Err reason) next y e = absurd cc

-- a piece that is read as one run more
record AddsRun (s t : ByteRuns) (piece : List ℕ) : Type 0 where
  pub run : ByteRun
  pub read : run_in piece ≡ Ok run
  pub other : run.byte ≡ s.last → ⊥
  pub added : one_more s run ≡ t

-- a piece that is a step from the runs s to the runs t adds one run to them
step_takes : (s t : ByteRuns) (piece : List ℕ) → run_step s piece ≡ Ok t → AddsRun s t piece
unfolding one_more
step_takes s t piece e =
    let run = bind_ok (run_in piece) _ t e in
    let other = then_ok why.Bytes (not (eqb run.0.byte s.last)) _ t run.2 in
    record {
      run = run.0;
      read = run.1;
      other = eqb-false run.0.byte s.last (not-true (eqb run.0.byte s.last) other.0);
      added = ok_is (one_more s run.0) t other.1;
    }

-- where b stands n times more, the text goes on with a run that is so much longer
text_run : (b k n : ℕ) (bytes : List ℕ) → text_from b k (replicate n b ++ bytes) ≡ text_from b (k + n) bytes
text_run b k zero bytes = rw add-zero refl
text_run b k (suc n) bytes =
    let next : k + 1 + n ≡ k + suc n = omega arith in
    text_same b k b (replicate n b ++ bytes) (eq-eqb b b refl) ∙ text_run b (k + 1) n bytes ∙ ap (λ m. text_from b m bytes) next

-- the word is the text of some bytes, at least one, which the runs t are read as behind the runs s
record IsTextOf (s t : ByteRuns) (word : List ℕ) : Type 0 where
  pub first : ℕ
  pub rest : List ℕ
  pub other : first ≡ s.last → ⊥
  pub text : word ≡ text_from first 1 rest
  pub found : spread t.found ≡ spread s.found ++ first ∷ rest
  pub total : t.total ≡ s.total + length (first ∷ rest)

-- the one piece is the text of its run
one_takes : (s : ByteRuns) (run : ByteRun) (piece : List ℕ) → run_in piece ≡ Ok run → (run.byte ≡ s.last → ⊥) → min (s.total + run.count) too_many < too_many → IsTextOf s (one_more s run) piece
unfolding one_more text_from
one_takes s run piece e other less =
    let p = run_takes piece run e (omega arith) in
    let m = run.count - 1 in
    let count : run.count ≡ suc m = omega (arith, p.1) in
    let counted : 1 + m ≡ run.count = omega (arith, p.1) in
    let whole : text_from run.byte 1 (replicate m run.byte) ≡ run_text run.byte run.count =
    ap (text_from run.byte 1) (sym (append-nil (replicate m run.byte))) ∙ text_run run.byte 1 m [] ∙ ap (run_text run.byte) counted in
    record {
      first = run.byte;
      rest = replicate m run.byte;
      other = other;
      text = p.0 ∙ sym whole;
      found = spread_more s.found run ∙ ap (λ k. spread s.found ++ replicate k run.byte) count;
      total = omega (arith, p.1, length-replicate m run.byte);
    }

-- the first of more pieces is the text of its run, and the others are the text of what stands behind it
more_takes : (s t : ByteRuns) (run : ByteRun) (piece word : List ℕ) → run_in piece ≡ Ok run → (run.byte ≡ s.last → ⊥) → IsTextOf (one_more s run) t word → t.total < too_many → IsTextOf s t (piece ++ 43 ∷ word)
unfolding one_more
more_takes s t run piece word e other r less =
    let p = run_takes piece run e (omega (arith, r.total)) in
    let m = run.count - 1 in
    let count : run.count ≡ suc m = omega (arith, p.1) in
    let counted : 1 + m ≡ run.count = omega (arith, p.1) in
    let behind = r.first ∷ r.rest in
    let joined : piece ++ 43 ∷ word ≡ run_text run.byte run.count ++ 43 ∷ text_from r.first 1 r.rest = ap₂ (λ front back. front ++ 43 ∷ back) p.0 r.text in
    record {
      first = run.byte;
      rest = replicate m run.byte ++ behind;
      other = other;
      text = joined ∙ sym (text_run run.byte 1 m behind ∙ ap (λ n. text_from run.byte n behind) counted ∙ text_other run.byte run.count r.first r.rest (ne_eqb r.first run.byte r.other));
      found = r.found ∙ ap (λ bs. bs ++ behind) (spread_more s.found run) ∙ append_assoc (spread s.found) (replicate run.count run.byte) behind ∙ ap (λ k. spread s.found ++ (replicate k run.byte ++ behind)) count;
      total = omega (arith, r.total, p.1, length-append (replicate m run.byte) behind, length-replicate m run.byte);
    }

-- pieces that are read as runs are, joined by plus signs, the text of what these spread to
pieces_take : (s t : ByteRuns) (pieces : List (List ℕ)) → 0 < length pieces → each run_step s pieces ≡ Ok t → t.total < too_many → IsTextOf s t (join_with_byte 43 pieces)
unfolding each one_more
pieces_take s t [] some e less = absurd (omega arith)
pieces_take s t (piece ∷ []) some e less =
    let step = bind_ok (run_step s piece) _ t e in
    let a = step_takes s step.0 piece step.1 in
    let same : one_more s a.run ≡ t = a.added ∙ ok_is step.0 t step.2 in
    subst (λ u. IsTextOf s u piece) same (one_takes s a.run piece a.read a.other (subst (λ (u : ByteRuns). u.total < too_many) (sym same) less))
pieces_take s t (piece ∷ next ∷ pieces) some e less =
    let step = bind_ok (run_step s piece) _ t e in
    let a = step_takes s step.0 piece step.1 in
    let word = join_with_byte 43 (next ∷ pieces) in
    more_takes s t a.run piece word a.read a.other (subst (λ u. IsTextOf u t word) (sym a.added) (pieces_take step.0 t (next ∷ pieces) (omega arith) step.2 less)) less

-- a word that is read as runs is the text of the bytes that they spread to
pub only : ReadsOnlyBytesText
only word runs e less =
    let r = pieces_take no_runs runs (split 43 word) (omega (arith, length-slice_split (λ x. eqb x 43) word)) e less in
    let text : word ≡ bytes_text (spread runs.found) = sym (join_with_byte-slice_split 43 word) ∙ r.text ∙ ap bytes_text (sym r.found) in
    (text, ap length r.found ∙ sym (r.total ∙ zero-add (length (r.first ∷ r.rest))))
