-- Pages that become zeros one by one.
use Rattle.std.proofs.Common.{◌≡◌, ℕ, ap}
use Rattle.up_object.specs.Change.{Change, at_mark}

pub none_blanked : (change : Change) (first : ℕ) → change.done.mark ≡ first → change ≡ at_mark first change
none_blanked change first at = ap (λ (n : ℕ). at_mark n change) at
