-- What the events of a call say is what the definitions say of it.
use Rattle.std.proofs.Common.{◌≡◌, ℕ, Bool, true, false, cond, List, [], ◌∷◌, refl}
use Rattle.up_num.specs.Span.{Span, covers}
use Rattle.up_num.specs.declared.answers.AskKind.{AskKind}
use Rattle.up_num.specs.declared.answers.AskKind.TheVariants.{Read as ReadAsk, Dirty as DirtyAsk}
use Rattle.up_num.specs.declared.answers.Code.{Code}
use Rattle.up_num.specs.declared.answers.Outcome.TheVariants.{Waiting, Freed, Failed}
use Rattle.up_asks.specs.Asking.{events_of}
use Rattle.up_model.specs.Asks.{resolves}
use Rattle.up_model.specs.declared.entry.Birth.{Birth}
use Rattle.up_model.specs.declared.entry.Brought.{Brought}
use Rattle.up_model.specs.declared.entry.Call.TheVariants.{Supply, Fail}
use Rattle.up_model.specs.declared.entry.Entry.{Entry}
use Rattle.up_supply.specs.Calls.{supply_event, read_failed, dirty_failed}

freed_once : (b : Bool) (range : Span) (p : ℕ) → covers range p ≡ b → cond b Freed Waiting ≡ events_of (supply_event range ∷ []) ReadAsk p
freed_once true range p is = rw is refl
freed_once false range p is = rw is refl

pub supply_events : (birth : Birth) (h : List Entry) (range : Span) (bytes : List ℕ) (brought : Brought) (k : AskKind) (p : ℕ) →
    resolves birth h (Supply range bytes brought) k p ≡ events_of (supply_event range ∷ []) k p
supply_events birth h range bytes brought ReadAsk p = freed_once (covers range p) range p refl
supply_events birth h range bytes brought DirtyAsk p = refl

failed_read : (b : Bool) (range : Span) (code : Code) (p : ℕ) → covers range p ≡ b → cond b (Failed code) Waiting ≡ events_of (read_failed range code ∷ dirty_failed range code ∷ []) ReadAsk p
failed_read true range code p is = rw is refl
failed_read false range code p is = rw is refl

failed_dirty : (b : Bool) (range : Span) (code : Code) (p : ℕ) → covers range p ≡ b → cond b (Failed code) Waiting ≡ events_of (read_failed range code ∷ dirty_failed range code ∷ []) DirtyAsk p
failed_dirty true range code p is = rw is refl
failed_dirty false range code p is = rw is refl

pub fail_events : (birth : Birth) (h : List Entry) (range : Span) (code : Code) (k : AskKind) (p : ℕ) →
    resolves birth h (Fail range code) k p ≡ events_of (read_failed range code ∷ dirty_failed range code ∷ []) k p
fail_events birth h range code ReadAsk p = failed_read (covers range p) range code p refl
fail_events birth h range code DirtyAsk p = failed_dirty (covers range p) range code p refl
