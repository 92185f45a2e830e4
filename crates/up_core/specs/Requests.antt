-- What a call owes, and what a list of requests makes of an object.
use Rattle.std.specs.Prelude.{◌≡◌, ℕ, ◌+◌, ◌-◌, MatchOption, List, [], ◌∷◌, length, map, take, sum_by, IsTrue}
use Rattle.up_bank.specs.declared.kind.FrameKind.{FrameKind}
use Rattle.up_bank.specs.declared.kind.FrameKind.TheVariants.{Ordinary, Loaned}
use Rattle.up_pages.specs.Frames.{count_kind}
use Rattle.up_model.specs.Reply.{proper, reply}
use Rattle.up_model.specs.declared.entry.Call.{Call}
use Rattle.up_model.specs.Bringing.{brought_in}
use Rattle.up_model.specs.declared.entry.Call.TheVariants.{Borrow}
use Rattle.up_model.specs.declared.entry.Reply.{Reply}
use Rattle.up_object.specs.declared.step.FramesIn.{FramesIn}
use Rattle.up_object.specs.declared.step.Stepped.{Stepped}
use Rattle.up_object.specs.Parts.{BankPair, bank_of}
use Rattle.up_object.specs.Change.{AllAre, AllOwn}
use Rattle.up_object.specs.Whole.{Whole, after, held}
use Rattle.up_object.specs.OneCall.{brought_of, frames_of}
use Rattle.up_core.specs.declared.requests.Request.{Request}

-- a call says what it brought, and one that takes no frames is handed none
abbrev pub Agrees : Call → FramesIn → Type 0
Agrees call frames = MatchOption (brought_in call) (frames_of frames ≡ []) (λ brought. brought ≡ brought_of frames)

-- which frames a call takes
abbrev pub kind_taken : Call → FrameKind
kind_taken (Borrow page brought) = Loaned
kind_taken _ = Ordinary

-- a call keeps the conditions that its caller owes
pub record Keeps (whole : Whole) (who : ℕ) (call : Call) (frames : FramesIn) : Type 0 where
  pub own : AllAre (bank_of whole.banks (kind_taken call)) (frames_of frames)
  pub agrees : Agrees call frames
  pub proper : IsTrue (proper whole.birth whole.journal who call)

-- the object after a request
abbrev pub after_one : Whole → Request → Whole
after_one whole request = after whole request.who request.epoch request.call

-- the object after requests, the first one done first
abbrev pub after_all : Whole → List Request → Whole
after_all whole [] = whole
after_all whole (request ∷ rest) = after_all (after_one whole request) rest

-- what the requests answer, each after those before it
abbrev pub replies_to : Whole → List Request → List Reply
replies_to whole [] = []
replies_to whole (request ∷ rest) =
    reply whole.birth whole.journal request.who request.epoch request.call ∷ replies_to (after_one whole request) rest

-- each request keeps its conditions at its moment
abbrev pub AllKeep : Whole → List Request → Type 0
AllKeep whole [] = Unit {0}
AllKeep whole (request ∷ rest) = Keeps whole request.who request.call request.frames × AllKeep (after_one whole request) rest

-- how many frames of a kind the requests hand in
abbrev pub handed : FrameKind → List Request → ℕ
handed kind requests = sum_by (λ request. count_kind kind (frames_of request.frames)) requests

-- how many frames of a kind come back
abbrev pub given_back : FrameKind → List Stepped → ℕ
given_back kind replies = sum_by (λ stepped. count_kind kind stepped.back.items) replies

abbrev pub replies_in : List Stepped → List Reply
replies_in replies = map (λ stepped. stepped.reply) replies

abbrev pub Balances : Whole → Request → Stepped → Type 0
Balances whole request stepped = (kind : FrameKind) →
    count_kind kind stepped.back.items + held (after_one whole request).birth (after_one whole request).journal kind
    ≡ count_kind kind (frames_of request.frames) + held whole.birth whole.journal kind

-- of each request, the frames that come back and those that are held after it are together those that it handed in and those that were held before it
abbrev pub EachBalances : Whole → List Request → List Stepped → Type 0
EachBalances whole [] replies = Unit {0}
EachBalances whole (request ∷ rest) [] = ⊥
EachBalances whole (request ∷ rest) (stepped ∷ others) = Balances whole request stepped × EachBalances (after_one whole request) rest others

-- all frames that come back are of the object's banks
abbrev pub AllBackOwn : BankPair → List Stepped → Type 0
AllBackOwn banks [] = Unit {0}
AllBackOwn banks (stepped ∷ rest) = AllOwn banks stepped.back.items × AllBackOwn banks rest

-- where some requests are left, the others were tried, and all of them but the last were done
abbrev pub tried : List Request → List Request → List Request
tried list left = take (length list - length left) list

abbrev pub done : List Request → List Request → List Request
done list left = take (length list - length left - 1) list
