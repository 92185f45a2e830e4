-- How far a list of requests has come.
use Rattle.std.specs.Prelude.{◌≡◌, ℕ, ◌+◌, ◌<◌, List, ◌∷◌, ◌++◌, length, sum_by}
use Rattle.up_bank.specs.Standing.{Held as Frame}
use Rattle.up_bank.specs.declared.kind.FrameKind.{FrameKind}
use Rattle.up_bank.specs.declared.kind.FrameKind.TheVariants.{Ordinary, Loaned}
use Rattle.up_pages.specs.Frames.{count_kind}
use Rattle.up_object.specs.declared.step.Stepped.{Stepped}
use Rattle.up_object.specs.Parts.{bank_of}
use Rattle.up_object.specs.Change.{AllAre, AllOwn}
use Rattle.up_object.specs.Whole.{Whole, held}
use Rattle.up_object.specs.OneCall.{frames_of}
use Rattle.up_core.specs.declared.requests.Request.{Request}
use Rattle.up_core.specs.Requests.{kind_taken, after_all, replies_to, replies_in, handed, given_back, EachBalances, AllBackOwn, tried, done}

-- these requests were done, and this is what they answered
pub record Ran (old now : Whole) (ready : List Request) (replies : List Stepped) : Type 0 where
  pub stands : now ≡ after_all old ready
  pub told : replies_in replies ≡ replies_to old ready
  pub frames : (kind : FrameKind) → given_back kind replies + held now.birth now.journal kind ≡ handed kind ready + held old.birth old.journal kind
  pub each : EachBalances old ready replies
  pub own : AllBackOwn old.banks replies

-- after those that were done one met want of memory, and these are its frames
pub record Stopped (old now : Whole) (requests left : List Request) (replies : List Stepped) (back : List Frame) : Type 0 where
  pub ready : List Request
  pub met : Request
  pub split : requests ≡ ready ++ met ∷ left
  pub ran : Ran old now ready replies
  pub frames : back ≡ frames_of met.frames
  pub own : AllAre (bank_of old.banks (kind_taken met.call)) back

-- requests were tried and all of them but the last one done; the others are left, and these frames come back
pub record Ended (old now : Whole) (requests left : List Request) (back : List Frame) : Type 0 where
  pub met : length left < length requests
  pub all : tried requests left ++ left ≡ requests
  pub stands : now ≡ after_all old (done requests left)
  pub frames : (kind : FrameKind) → count_kind kind back + held now.birth now.journal kind ≡ handed kind (tried requests left) + held old.birth old.journal kind
  pub own : (old.banks.ordinary.kind ≡ Ordinary) × (old.banks.loaned.kind ≡ Loaned) → AllOwn old.banks back

-- how many frames, of both kinds, requests hand in, and come back
abbrev pub all_handed : List Request → ℕ
all_handed requests = sum_by (λ request. length (frames_of request.frames)) requests

abbrev pub all_back : List Stepped → ℕ
all_back replies = sum_by (λ stepped. length stepped.back.items) replies
