-- Requests whose frames are of the banks of an object.
use Rattle.std.specs.Prelude.{List, [], ◌∷◌}
use Rattle.up_object.specs.Parts.{BankPair}
use Rattle.up_object.specs.Change.{AllOwn}
use Rattle.up_object.specs.OneCall.{frames_of}
use Rattle.up_core.specs.declared.requests.Request.{Request}

-- all frames of the requests are of the bank of their kind
abbrev pub AllHome : BankPair → List Request → Type 0
AllHome banks [] = Unit {0}
AllHome banks (request ∷ rest) = AllOwn banks (frames_of request.frames) × AllHome banks rest
