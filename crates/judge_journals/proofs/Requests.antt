-- Requests that are appended and taken off, frames that come back, and what a call is handed.
use Rattle.std.proofs.Common.{◌≡◌, List, [], ◌∷◌, ◌++◌, IsTrue, refl, sym, ap, ◌∙◌, subst}
use Rattle.up_bank.specs.declared.kind.FrameKind.{FrameKind}
use Rattle.up_model.specs.Reply.{proper}
use Rattle.up_model.specs.declared.entry.Birth.{Birth}
use Rattle.up_model.specs.declared.entry.Brought.{Brought}
use Rattle.up_model.specs.declared.entry.Brought.TheVariants.{Nothing}
use Rattle.up_model.specs.declared.entry.Call.{Call}
use Rattle.up_model.specs.declared.entry.Call.TheVariants as calls
use Rattle.up_object.specs.declared.step.FramesIn.{FramesIn}
use Rattle.up_object.specs.declared.step.Stepped.{Stepped}
use Rattle.up_object.specs.Parts.{BankPair, bank_of}
use Rattle.up_object.specs.Change.{AllAre, AllOwn}
use Rattle.up_object.specs.Whole.{Whole}
use Rattle.up_object.specs.OneCall.{brought_of, frames_of}
use Rattle.up_core.specs.declared.requests.Request.{Request}
use Rattle.up_model.specs.Bringing.{bringing, brought_by}
use Rattle.up_core.specs.Requests.{Keeps, AllKeep, AllBackOwn, Agrees, kind_taken, after_one, after_all}
use Rattle.up_core.proofs.Listed.{banks_stay, backs_parts}
use Rattle.up_check.specs.Handed.{HandedIn}
use Rattle.judge_journals.specs.Homes.{AllHome}

-- a call that is given what it brought is that call
pub same_call : (c : Call) → bringing (brought_by c) c ≡ c
same_call (calls.Read piece last b) = refl
same_call (calls.Write off bytes last b) = refl
same_call (calls.Retry ticket b) = refl
same_call (calls.Supply range bytes b) = refl
same_call (calls.Dirty range b) = refl
same_call (calls.Pin range b) = refl
same_call (calls.Borrow page b) = refl
same_call (calls.Vacate b) = refl
same_call _ = refl

agrees_by : (c : Call) (frames : FramesIn) → brought_by c ≡ brought_of frames → (brought_by c ≡ Nothing → frames_of frames ≡ []) → Agrees c frames
agrees_by (calls.Read piece last b) frames told none = told
agrees_by (calls.Write off bytes last b) frames told none = told
agrees_by (calls.Retry ticket b) frames told none = told
agrees_by (calls.Supply range bytes b) frames told none = told
agrees_by (calls.Dirty range b) frames told none = told
agrees_by (calls.Pin range b) frames told none = told
agrees_by (calls.Borrow page b) frames told none = told
agrees_by (calls.Vacate b) frames told none = told
agrees_by _ frames told none = none refl

birth_stays : (whole : Whole) (xs : List Request) → (after_all whole xs).birth ≡ whole.birth
birth_stays whole [] = refl
birth_stays whole (x ∷ xs) = birth_stays (after_one whole x) xs

keeps_more : (whole : Whole) (xs : List Request) (r : Request) → AllKeep whole xs → Keeps (after_all whole xs) r.who r.call r.frames → AllKeep whole (xs ++ r ∷ [])
keeps_more whole [] r keeps one = (one, tt)
keeps_more whole (x ∷ xs) r keeps one = (keeps.0, keeps_more (after_one whole x) xs r keeps.1 one)

-- the request of a call, which is handed what it says that it brought, keeps its conditions after those before it
pub keeps_pushed : (whole : Whole) (xs ys : List Request) (r : Request) (banks : BankPair) (c : Call) (brought : Brought) (kind : FrameKind) → ys ≡ xs ++ r ∷ [] → whole.banks ≡ banks → AllKeep whole xs →
    brought ≡ brought_by c → r.call ≡ bringing brought c → kind ≡ kind_taken r.call → HandedIn banks kind brought r.frames → IsTrue (proper whole.birth (after_all whole xs).journal r.who c) → AllKeep whole ys
keeps_pushed whole xs ys r banks c brought kind e same keeps says made k handed may =
    let is : r.call ≡ c = made ∙ ap (λ (b : Brought). bringing b c) says ∙ same_call c in
    let told : brought_by c ≡ brought_of r.frames = sym says ∙ handed.told in
    subst (λ (rs : List Request). AllKeep whole rs) (sym e)
    (keeps_more whole xs r keeps
    (record {
      own = subst (λ (b : BankPair). AllAre (bank_of b (kind_taken r.call)) (frames_of r.frames)) (sym (banks_stay whole xs ∙ same)) (subst (λ (x : FrameKind). AllAre (bank_of banks x) (frames_of r.frames)) k handed.own);
      agrees = subst (λ (x : Call). Agrees x r.frames) (sym is) (agrees_by c r.frames told (λ none. handed.none (says ∙ none)));
      proper = ap (λ (b : Birth). proper b (after_all whole xs).journal r.who r.call) (birth_stays whole xs) ∙ ap (proper whole.birth (after_all whole xs).journal r.who) is ∙ may;
    }))

home_more : (banks : BankPair) (xs : List Request) (r : Request) → AllHome banks xs → AllOwn banks (frames_of r.frames) → AllHome banks (xs ++ r ∷ [])
home_more banks [] r home own = (own, tt)
home_more banks (x ∷ xs) r home own = (home.0, home_more banks xs r home.1 own)

pub home_pushed : (banks : BankPair) (xs ys : List Request) (r : Request) → ys ≡ xs ++ r ∷ [] → AllHome banks xs → AllOwn banks (frames_of r.frames) → AllHome banks ys
home_pushed banks xs ys r e home own = subst (λ (rs : List Request). AllHome banks rs) (sym e) (home_more banks xs r home own)

home_split : (banks : BankPair) (xs : List Request) (r : Request) → AllHome banks (xs ++ r ∷ []) → AllHome banks xs × AllOwn banks (frames_of r.frames)
home_split banks [] r home = (tt, home.0)
home_split banks (x ∷ xs) r home = let rest = home_split banks xs r home.1 in ((home.0, rest.0), rest.1)

pub home_rest : (banks : BankPair) (all rest : List Request) (r : Request) → all ≡ rest ++ r ∷ [] → AllHome banks all → AllHome banks rest
home_rest banks all rest r e home = (home_split banks rest r (subst (λ (rs : List Request). AllHome banks rs) e home)).0

pub home_own : (banks : BankPair) (all rest : List Request) (r : Request) → all ≡ rest ++ r ∷ [] → AllHome banks all → AllOwn banks (frames_of r.frames)
home_own banks all rest r e home = (home_split banks rest r (subst (λ (rs : List Request). AllHome banks rs) e home)).1

home_behind : (banks : BankPair) (xs ys : List Request) → AllHome banks (xs ++ ys) → AllHome banks ys
home_behind banks [] ys home = home
home_behind banks (x ∷ xs) ys home = home_behind banks xs ys home.1

pub home_left : (banks : BankPair) (all xs left : List Request) → xs ++ left ≡ all → AllHome banks all → AllHome banks left
home_left banks all xs left e home = home_behind banks xs left (subst (λ (rs : List Request). AllHome banks rs) (sym e) home)

pub back_rest : (banks : BankPair) (all rest : List Stepped) (stepped : Stepped) → all ≡ rest ++ stepped ∷ [] → AllBackOwn banks all → AllBackOwn banks rest
back_rest banks all rest stepped e own = (backs_parts banks rest stepped (subst (λ (ss : List Stepped). AllBackOwn banks ss) e own)).0

pub back_own : (banks : BankPair) (all rest : List Stepped) (stepped : Stepped) → all ≡ rest ++ stepped ∷ [] → AllBackOwn banks all → AllOwn banks stepped.back.items
back_own banks all rest stepped e own = (backs_parts banks rest stepped (subst (λ (ss : List Stepped). AllBackOwn banks ss) e own)).1
