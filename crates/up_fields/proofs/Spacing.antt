-- Words with a space before each.
use Rattle.std.proofs.Common.{◌≡◌, ℕ, List, [], ◌∷◌, ◌++◌, refl, sym, ap, ◌∙◌, append_assoc}
use Rattle.up_fields.specs.Text.{spaced}

-- words behind others
pub spaced_append : (first second : List (List ℕ)) → spaced (first ++ second) ≡ spaced first ++ spaced second
spaced_append [] second = refl
spaced_append (word ∷ words) second = ap (λ bytes. 32 ∷ word ++ bytes) (spaced_append words second) ∙ ap (λ bytes. 32 ∷ bytes) (sym (append_assoc word (spaced words) (spaced second)))
