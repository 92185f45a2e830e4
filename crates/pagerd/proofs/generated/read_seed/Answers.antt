use Rattle.std.proofs.Common.{rules, ◌≡◌, ℕ, ◌<◌, Some, List, [], ◌∷◌, length, map, ap, sym, ◌∙◌, arith}
use Rattle.std.specs.Prelude.{codes, string_bytes}
use Rattle.up_words.specs.Numbers.{number}
use Rattle.pagerd.proofs.GenWords.{three_items, same_word}
use Rattle.pagerd.proofs.generated.read_seed.Goals as goal

pub returns-in_ok-rounds-in-len3-clause-some : goal.returns-in_ok-rounds-in-len3-clause-some
returns-in_ok-rounds-in-len3-clause-some c =
    let words = c.args.words.now in
    let some : 2 < length words = omega arith in
    let few : length words < 4 = omega arith in
    let are = three_items words c.command-item.result c.seed-item.result c.rounds-item.result some few c.command-item.is c.seed-item.is c.rounds-item.is in
    let gen : c.as_str.result.now ≡ codes "gen" = same_word c.as_str.result.now (codes "gen") c.ne.result c.ne.ensures c.if-ne.false in
    let first : string_bytes c.seed-item.result ≡ c.as_bytes.result.now = search (rules, c.as_bytes.ensures.value) in
    let second : string_bytes c.rounds-item.result ≡ c.as_bytes-in-len3.result.now = search (rules, c.as_bytes-in-len3.ensures.value) in
    let seed : number 18446744073709551615 c.as_bytes.result.now ≡ Some c.in_ok-seed-in-len3.seed = search (rules, c.in_ok-seed-in-len3.ensures.value) in
    let rounds : number 12000 c.as_bytes-in-len3.result.now ≡ Some c.in_ok-rounds-in-len3.rounds = search (rules, c.in_ok-rounds-in-len3.ensures.value) in
    record {
      first = string_bytes c.seed-item.result;
      second = string_bytes c.rounds-item.result;
      are = ap (map string_bytes) are ∙ ap (λ (w : List ℕ). w ∷ string_bytes c.seed-item.result ∷ string_bytes c.rounds-item.result ∷ []) (sym c.as_str.ensures.value ∙ gen);
      is_seed = ap (number 18446744073709551615) first ∙ seed;
      is_count = ap (number 12000) second ∙ rounds;
    }
