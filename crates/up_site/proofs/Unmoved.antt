-- Calls that move no frame: a packet, a fail, what is told, a begin and an end.
use Rattle.std.proofs.Common.{◌≡◌, ℕ, ◌+◌, ◌&&◌, ◌||◌, not, Bool, true, false, cond, Option, List, [], ◌∷◌}
use Rattle.std.proofs.Common.{refl, sym, ap, ◌∙◌, arith}
use Rattle.std.proofs.lemmas.Bool.{false≢true}
use Rattle.std.proofs.lemmas.List.Sums.{sum_by-cons}
use Rattle.up_num.specs.Span.{Span, covers}
use Rattle.up_num.specs.declared.answers.Code.{Code}
use Rattle.up_bank.specs.Standing.{Held as Frame}
use Rattle.up_bank.specs.declared.kind.FrameKind.{FrameKind}
use Rattle.up_bank.specs.declared.kind.FrameKind.TheVariants.{Ordinary, Loaned}
use Rattle.up_pages.specs.Frames.{same_kind, count_kind}
use Rattle.up_span.specs.Pages.{count_pages}
use Rattle.up_model.specs.Attempts.{accepts}
use Rattle.up_model.specs.Size.{size}
use Rattle.up_model.specs.Deeds.{ends, named}
use Rattle.up_model.specs.Value.{there, marked, begun, begun_by, settled}
use Rattle.up_model.specs.Pins.{loaned}
use Rattle.up_model.specs.States.{closing, empties, unclean}
use Rattle.up_model.specs.Looks.{PageLook, Missing, Zeros, Framed, look_by, look_of, begun_look}
use Rattle.up_model.specs.Concerns.{concerns}
use Rattle.up_model.specs.declared.entry.Birth.{Birth}
use Rattle.up_model.specs.declared.entry.Entry.{Entry}
use Rattle.up_model.specs.declared.entry.Told.{Told}
use Rattle.up_model.specs.declared.entry.Call.{Call}
use Rattle.up_model.specs.declared.entry.Call.TheVariants.{Begin, End, Fail, Packet, Tell}
use Rattle.up_model.specs.declared.entry.Reply.{Reply}
use Rattle.up_model.proofs.Effects.{after_end}
use Rattle.up_model.proofs.UnconcernedPages.{quiet_by, quiet_look}
use Rattle.up_model.proofs.PagesTouched.{look_by_parts, begin_turns}
use Rattle.up_object.specs.Parts.{is_loan}
use Rattle.up_model.specs.Legal.{due}
use Rattle.up_object.specs.Whole.{Whole, life_of, after, is_framed_by, same_loan, held}
use Rattle.up_site.specs.Due.{HoldsSame}

-- whether a page has a frame of a kind, by its tests
framed_by : (kind : FrameKind) (here mark rest run loan : Bool) → is_framed_by kind (look_by here mark rest
    run loan) ≡ (here && (not mark && same_loan (is_loan kind) loan))
framed_by kind false m s b l = refl
framed_by kind true true s b l = refl
framed_by kind true false s b l = refl

begun_framed : (kind : FrameKind) (only : Bool) (look : PageLook) → is_framed_by kind (begun_look only
    look) ≡ is_framed_by kind look
begun_framed kind only Missing = refl
begun_framed kind only (Zeros state) = refl
begun_framed kind true (Framed state loan) = refl
begun_framed kind false (Framed state loan) = refl

ended_framed : (ends here mark rest lent : Bool) → ((not (ends && ((here && mark) && rest)) && here) &&
    (not mark && lent)) ≡ (here && (not mark && lent))
ended_framed e false m r l = ap (λ b. b && (not m && l)) (off (not (e && false)))
  where
    off : (b : Bool) → (b && false) ≡ false
    off true = refl
    off false = refl
ended_framed e true true r l = never (not (e && r) && true)
  where
    never : (b : Bool) → (b && false) ≡ false
    never true = refl
    never false = refl
ended_framed false true false r l = refl
ended_framed true true false r l = refl

left_true : (a b : Bool) → (a && b) ≡ true → a ≡ true
left_true true b both = refl
left_true false b both = absurd (false≢true both)

right_true : (a b : Bool) → (a && b) ≡ true → b ≡ true
right_true true b both = both
right_true false b both = absurd (false≢true both)

and_none : (a : Bool) → (a && false) ≡ false
and_none true = refl
and_none false = refl

-- the entry moves no frame
abbrev Unmoved : Birth → Entry → List Entry → Type 0
Unmoved birth e h = (kind : FrameKind) (p : ℕ) → is_framed_by kind (look_of birth (e ∷ h) p) ≡ is_framed_by
    kind (look_of birth h p)

unconcerned : (birth : Birth) (e : Entry) (h : List Entry) (kind : FrameKind) (p : ℕ) → concerns birth h e
    p ≡ false →
    is_framed_by kind (look_of birth (e ∷ h) p) ≡ is_framed_by kind (look_of birth h p)
unconcerned birth e h kind p off = ap (is_framed_by kind) (quiet_look birth e h p (quiet_by birth e h p off))

abbrev entry : ℕ → ℕ → Call → Reply → Entry
entry who epoch call said = record { who = who; epoch = epoch; call = call; reply = said }

begin_unmoved : (birth : Birth) (h : List Entry) (who epoch : ℕ) (range : Span) (only : Bool) (said :
    Reply) → Unmoved birth (entry who epoch (Begin range only) said) h
begin_unmoved birth h who epoch range only said kind p =
    elim (accepts said && covers range p) as (λ b. (accepts said && covers range p) ≡ b →
    is_framed_by kind (look_of birth (entry who epoch (Begin range only) said ∷ h) p) ≡ is_framed_by kind
    (look_of birth h p)) [
      | true ↦ λ both. ap (is_framed_by kind) (begin_turns birth (entry who epoch (Begin range only) said)
          h range only p refl (left_true (accepts said) _ both) (right_true (accepts said) _ both)).looks
          ∙ begun_framed kind only (look_of birth h p)
      | false ↦ λ off. unconcerned birth (entry who epoch (Begin range only) said) h kind p off
    ] refl

end_unmoved : (birth : Birth) (h : List Entry) (who epoch : ℕ) (range : Span) (of : Option ℕ) (said :
    Reply) → Unmoved birth (entry who epoch (End range of) said) h
end_unmoved birth h who epoch range of said kind p =
    let e : Entry = entry who epoch (End range of) said in
    elim (accepts said && covers range p) as (λ b. (accepts said && covers range p) ≡ b →
    is_framed_by kind (look_of birth (e ∷ h) p) ≡ is_framed_by kind (look_of birth h p)) [
      | true ↦ λ both. ap (is_framed_by kind) (look_by_parts birth (e ∷ h) p _ _ _ _ _ (after_end birth e h
          range of p refl (left_true (accepts said) _ both) (right_true (accepts said) _ both)) refl)
          ∙ framed_by kind (not (empties birth h e p) && there birth h p) (marked birth h p) (closing birth
          h range of p || settled birth h p) (begun birth h p) (loaned birth h p)
          ∙ ended_framed (ends e p) (there birth h p) (marked birth h p) (unclean birth h p && begun_by
          birth h (named birth e.call) p) (same_loan (is_loan kind) (loaned birth h p))
          ∙ sym (framed_by kind (there birth h p) (marked birth h p) (settled birth h p) (begun birth h p)
          (loaned birth h p))
      | false ↦ λ off. unconcerned birth e h kind p off
    ] refl

counts_same : (birth : Birth) (e : Entry) (h : List Entry) → Unmoved birth e h → size birth (e ∷ h) ≡ size
    birth h → (kind : FrameKind) → held birth (e ∷ h) kind ≡ held birth h kind
counts_same birth e h same sizes kind = λ i. count_pages (λ p. same kind p i) 0 (sizes i)

pub packet_holds : (old : Whole) (who epoch : ℕ) → HoldsSame old (after old who epoch Packet)
packet_holds old who epoch =
    let e : Entry = due (life_of old) who epoch Packet in
    counts_same old.birth e old.journal (λ kind p. unconcerned old.birth e old.journal kind p (and_none
    (accepts e.reply))) refl

pub tell_holds : (old : Whole) (who epoch : ℕ) (said : Told) → HoldsSame old (after old who epoch (Tell said))
tell_holds old who epoch said =
    let e : Entry = due (life_of old) who epoch (Tell said) in
    counts_same old.birth e old.journal (λ kind p. unconcerned old.birth e old.journal kind p refl) refl

pub fail_holds : (old : Whole) (who epoch : ℕ) (range : Span) (code : Code) → HoldsSame old (after old who
    epoch (Fail range code))
fail_holds old who epoch range code =
    let e : Entry = due (life_of old) who epoch (Fail range code) in
    counts_same old.birth e old.journal (λ kind p. unconcerned old.birth e old.journal kind p (and_none
    (accepts e.reply))) refl

pub begin_holds : (old : Whole) (who epoch : ℕ) (range : Span) (only : Bool) → HoldsSame old (after old who
    epoch (Begin range only))
begin_holds old who epoch range only =
    let e : Entry = due (life_of old) who epoch (Begin range only) in
    counts_same old.birth e old.journal (begin_unmoved old.birth old.journal who epoch range only e.reply)
    refl

pub end_holds : (old : Whole) (who epoch : ℕ) (range : Span) (of : Option ℕ) → HoldsSame old (after old who
    epoch (End range of))
end_holds old who epoch range of =
    let e : Entry = due (life_of old) who epoch (End range of) in
    counts_same old.birth e old.journal (end_unmoved old.birth old.journal who epoch range of e.reply) refl

-- a list without frames of either kind is empty
one_counts : (kind : FrameKind) (n : ℕ) → cond (same_kind kind kind) 1 0 + n ≡ 0 → ⊥
one_counts Ordinary n is = omega arith
one_counts Loaned n is = omega arith

pub none_back : (back : List Frame) → ((kind : FrameKind) → count_kind kind back ≡ 0) → back ≡ []
none_back [] none = refl
none_back (frame ∷ rest) none = absurd (one_counts frame.bank.kind (count_kind frame.bank.kind rest)
    (sym (sum_by-cons (λ (f : Frame). cond (same_kind frame.bank.kind f.bank.kind) 1 0) frame rest) ∙ none
    frame.bank.kind))
