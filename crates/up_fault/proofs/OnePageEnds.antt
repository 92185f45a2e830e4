-- What the end of a call on one page asks for: other pages and their places stay.
use Rattle.std.proofs.Common.{◌≡◌, ℕ, ◌+◌, ◌*◌, ◌%◌, ◌<◌, ◌==◌, ◌&&◌, ◌||◌, Bool, true, false, Some, None, Ok, List, ◌∷◌, refl, ap, sym, ◌∙◌, arith, nat_le, nat_lt}
use Rattle.std.proofs.lemmas.Bool.Decides.{nat_tests}
use Rattle.up_num.specs.declared.answers.AskKind.TheVariants.{Dirty as DirtyAsk}
use Rattle.up_model.specs.Attempts.{Access, page_of, accepts, is_bytes, attempt}
use Rattle.up_model.specs.Deeds.{reads}
use Rattle.up_model.specs.Size.{size}
use Rattle.up_model.specs.Asks.{Ask, asked, same_kind}
use Rattle.up_model.specs.Concerns.{concerns, call_concerns, in_page, is_touch}
use Rattle.up_model.specs.Changes.{Parks}
use Rattle.up_model.specs.declared.entry.Birth.{Birth}
use Rattle.up_model.specs.declared.entry.Entry.{Entry}
use Rattle.up_model.specs.declared.entry.Call.{Call}
use Rattle.up_model.specs.declared.entry.Call.TheVariants as calls
use Rattle.up_model.specs.declared.entry.Reply.{Reply}
use Rattle.up_model.proofs.Bools.{and_false}
use Rattle.up_model.proofs.Resolved.{parks_asked}
use Rattle.up_model.specs.Reply.{reply}
use Rattle.up_bank.specs.Standing.{Held as Frame}
use Rattle.up_bank.specs.declared.kind.FrameKind.{FrameKind}
use Rattle.up_pages.specs.Frames.{Stock, count_kind}
use Rattle.up_object.specs.Change.{CallProgress, Rests, Counts, of_kind, AllOwn}
use Rattle.up_object.specs.OneCall.{DoesCall}
use Rattle.up_object.specs.Whole.{Whole, with_entry, held}

off_page : (page p : ℕ) → (nat_le page p && nat_lt p (page + 1)) ≡ false → (page == p) ≡ false
off_page page p out = grind (arith, nat_tests)

-- an access is on no page but its own
touch_concerns_none : (call : Call) (n : ℕ) (r : Reply) (p : ℕ) → is_touch call ≡ true → call_concerns call n r p ≡ false
touch_concerns_none (calls.Read piece last brought) n r p is = refl
touch_concerns_none (calls.Write off bytes last brought) n r p is = refl
touch_concerns_none (calls.Retry ticket brought) n r p is = refl
touch_concerns_none _ n r p is = absurd cc

unconcerned : (a b c : Bool) → b ≡ false → c ≡ false → (a && (b || c)) ≡ false
unconcerned a b c q k = rw (q, k) (and_false a)

pub touched_pages : (birth : Birth) (h : List Entry) (e : Entry) (a : Access) (page : ℕ) → attempt h e ≡ Some a → is_touch e.call ≡ true → page_of a.off ≡ page →
    (p : ℕ) → (nat_le page p && nat_lt p (page + 1)) ≡ false → concerns birth h e p ≡ false
touched_pages birth h e a page attempted touch at p out =
    unconcerned (accepts e.reply) _ _ (ap (λ m. in_page m p) attempted ∙ ap (λ (n : ℕ). n == p) at ∙ off_page page p out) (touch_concerns_none e.call (size birth h) e.reply p touch)

-- An access that parks.

no_page : (m p : ℕ) → (nat_le m p && nat_lt p m) ≡ false
no_page m p = grind (arith, nat_tests)

asked_outside : (same within was : Bool) → within ≡ false → ((same && within) || was) ≡ was
asked_outside same within was out = rw (out, and_false same) refl

pub parked_places : (birth : Birth) (h : List Entry) (e : Entry) (a : Access) (ask : Ask) (done : CallProgress) → Parks birth e h a ask → done.mark ≡ done.first →
    (p : ℕ) → (nat_le ask.first p && nat_lt p (ask.first + ask.count)) ≡ false → Rests birth e h done p
parked_places birth h e a ask done parks none p out = record {
  undone = rw none (no_page done.first p);
  unasked = parks_asked birth e h a ask parks DirtyAsk p ∙ asked_outside (same_kind ask.kind DirtyAsk) (nat_le ask.first p && nat_lt p (ask.first + ask.count)) (asked birth h DirtyAsk p) out;
}

-- An access that is done.

own_page : (x : ℕ) → ((true && (x == x)) && true) ≡ true
own_page x = grind (arith, nat_tests)

pub reads_own : (h : List Entry) (e : Entry) (a : Access) → attempt h e ≡ Some a → a.bytes ≡ None → is_bytes e.reply ≡ true → reads h e (page_of a.off) ≡ true
reads_own h e a attempted none gives = rw (attempted, none, gives) (own_page (page_of a.off))

pub parts_of : (off : ℕ) → off ≡ 4096 * page_of off + off % 4096
parts_of off = omega arith

pub place_small : (off : ℕ) → off % 4096 < 4096
place_small off = omega arith

-- a call that was closed with the reply that is due
pub closed_steps : {E : Type 0} (old new : Whole) (back : Stock) (given : List Frame) (all : Counts) (who epoch : ℕ) (call : Call) (r : Reply) →
    new ≡ with_entry old (record { who = who; epoch = epoch; call = call; reply = r }) → reply old.birth old.journal who epoch call ≡ r →
    ((kind : FrameKind) → count_kind kind back.items + held old.birth (record { who = who; epoch = epoch; call = call; reply = r } ∷ old.journal) kind ≡ of_kind kind all) →
    ((kind : FrameKind) → of_kind kind all ≡ count_kind kind given + held old.birth old.journal kind) → AllOwn old.banks back.items →
    DoesCall {E = E} old new (Ok (record { reply = r; back = back })) who epoch call given
closed_steps old new back given all who epoch call r is due counts had own = record {
  ok = is ∙ (λ i. with_entry old (record { who = who; epoch = epoch; call = call; reply = sym due i }));
  due = sym due;
  frames = λ kind. ap (λ (v : Whole). count_kind kind back.items + held v.birth v.journal kind) is ∙ counts kind ∙ had kind;
  own = own;
  err = tt;
  back = tt;
}
