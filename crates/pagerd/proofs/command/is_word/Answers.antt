use Rattle.std.proofs.Common.{List, ℕ, [], ◌∷◌, sym, map, ap, ◌∙◌, arith, length, ◌<◌}
use Rattle.std.specs.Prelude.{string_bytes}
use Rattle.pagerd.proofs.GenWords.{one_item, one_word}
use Rattle.pagerd.proofs.command.is_word.Goals as goal

pub returns-in-len1 : goal.returns-in-len1
returns-in-len1 c =
    let words = c.args.words.now in
    let few : length words < 2 = omega arith in
    let some : 0 < length words = omega arith in
    one_word (map string_bytes words) c.as_str.result.now c.args.wanted.now c.eq.result
    (ap (map string_bytes) (one_item words c.word-item.result some few c.word-item.is)
    ∙ ap (λ (w : List ℕ). w ∷ []) (sym c.as_str.ensures.value)) c.eq.ensures
