-- Nothing is unclean at the end.
use Rattle.std.proofs.Common.{◌≡◌, ℕ, ◌<◌, ◌≤◌, ◌&&◌, ◌||◌, not, Bool, true, false, cond, max, List, ◌∷◌, length, suc, nat_lt, refl, sym, arith}
use Rattle.std.proofs.lemmas.Bool.{false≢true, and_parts}
use Rattle.up_model.specs.Attempts.{page_of, accepts}
use Rattle.up_model.specs.Size.{size, range_fits}
use Rattle.up_model.specs.Deeds.{writes, supplies, over_supply, over_dirty, lets_dirty, ends, zeroes, drops}
use Rattle.up_model.specs.Size.{grows}
use Rattle.up_model.specs.Value.{there, settled}
use Rattle.up_model.specs.States.{unclean, closes, empties}
use Rattle.up_model.specs.Newest.{newest}
use Rattle.up_model.specs.Roles.{detached}
use Rattle.up_model.specs.Reply.{reply}
use Rattle.up_model.specs.Legal.{Legal}
use Rattle.up_model.specs.declared.entry.Birth.{Birth}
use Rattle.up_model.specs.declared.entry.Entry.{Entry}
use Rattle.up_model.specs.declared.entry.Call.{Call}
use Rattle.up_model.specs.declared.entry.Call.TheVariants.{Supply, Dirty}
use Rattle.up_model.proofs.Bools.{and_right}
use Rattle.up_model.proofs.Equations.{settled_is}
use Rattle.up_model.proofs.Passed.{past_where, past_accepts}
use Rattle.up_model.proofs.Presence.{there_is, accepted_reply}
use Rattle.up_coherence.specs.Coherent.{Coherent}
use Rattle.up_coherence.specs.Durable.{tour_at, stores, rests_within, reached}
use Rattle.up_coherence.specs.Promises.{LastRests, Calm}
use Rattle.up_coherence.proofs.Firmness.{false_by, apart_true}
use Rattle.up_coherence.proofs.Durability.{tour_within}
use Rattle.up_coherence.proofs.SyncPromise.{clean_rests}

pub last_none : (birth : Birth) (h : List Entry) (worker : ℕ) → LastRests birth h worker → (p : ℕ) → unclean birth h p ≡ false
last_none birth h worker rests p = false_by (unclean birth h p) (λ is.
    let other = rests.others p is in
    apart_true _ (rests.free other.0 p other.1) other.2)

-- a detached object refuses supplies and leave to make dirty
supply_apart : (birth : Birth) (h : List Entry) (who epoch : ℕ) (call : Call) (p : ℕ) → over_supply call p ≡ true → accepts (reply birth h who epoch call) ≡ true → detached birth h ≡ false
supply_apart birth h who epoch (Supply range bytes brought) p over is =
    let a = past_where accepts past_accepts (not (range_fits birth h range)) _ _ is in
    (past_where accepts past_accepts (detached birth h) _ _ a.1).0
supply_apart birth h who epoch _ p over is = absurd cc

leave_apart : (birth : Birth) (h : List Entry) (who epoch : ℕ) (call : Call) (p : ℕ) → over_dirty call p ≡ true → accepts (reply birth h who epoch call) ≡ true → detached birth h ≡ false
leave_apart birth h who epoch (Dirty range brought) p over is =
    let a = past_where accepts past_accepts (not (range_fits birth h range)) _ _ is in
    let b = past_where accepts past_accepts (not birth.trap) _ _ a.1 in
    (past_where accepts past_accepts (detached birth h) _ _ b.1).0
leave_apart birth h who epoch _ p over is = absurd cc

unsupplied : (birth : Birth) (e : Entry) (h : List Entry) → Legal birth (e ∷ h) → detached birth h ≡ true → (p : ℕ) → supplies e p ≡ false
unsupplied birth e h legal apart p = false_by (supplies e p) (λ is.
    let parts = and_parts (over_supply e.call p) (accepts e.reply) is in
    apart_true _ (supply_apart birth h e.who e.epoch e.call p parts.0 (accepted_reply birth e h legal parts.1)) apart)

unleft : (birth : Birth) (e : Entry) (h : List Entry) → Legal birth (e ∷ h) → detached birth h ≡ true → (p : ℕ) → lets_dirty e p ≡ false
unleft birth e h legal apart p = false_by (lets_dirty e p) (λ is.
    let parts = and_parts (over_dirty e.call p) (accepts e.reply) is in
    apart_true _ (leave_apart birth h e.who e.epoch e.call p parts.0 (accepted_reply birth e h legal parts.1)) apart)

clean_by : (write supply zero grow gone here leave end close rest : Bool) → write ≡ false → supply ≡ false → zero ≡ false → grow ≡ false → leave ≡ false → (here && not rest) ≡ false →
    (cond write true (cond supply true (cond (zero || grow) true (cond gone false here))) && not (cond (write || (leave || (zero || grow))) false (cond end (close || rest) rest))) ≡ false
clean_by true supply zero grow gone here leave end close rest a b c d f was = absurd (false≢true (sym a))
clean_by false true zero grow gone here leave end close rest a b c d f was = absurd (false≢true (sym b))
clean_by false false true grow gone here leave end close rest a b c d f was = absurd (false≢true (sym c))
clean_by false false false true gone here leave end close rest a b c d f was = absurd (false≢true (sym d))
clean_by false false false false gone here true end close rest a b c d f was = absurd (false≢true (sym f))
clean_by false false false false true here false end close rest a b c d f was = refl
clean_by false false false false false false false end close rest a b c d f was = refl
clean_by false false false false false true false true true rest a b c d f was = refl
clean_by false false false false false true false true false rest a b c d f was = was
clean_by false false false false false true false false close rest a b c d f was = was

pub stays_clean : (birth : Birth) (e : Entry) (h : List Entry) → Legal birth (e ∷ h) → detached birth h ≡ true → Calm birth e h →
    ((p : ℕ) → unclean birth h p ≡ false) → (p : ℕ) → unclean birth (e ∷ h) p ≡ false
stays_clean birth e h legal apart calm was p =
    rw (there_is birth e h legal p, settled_is birth e h p)
    (clean_by (writes h e p) (supplies e p) (zeroes e p) (grows birth h e p) (drops birth h e p || empties birth h e p) (there birth h p) (lets_dirty e p) (ends e p) (closes birth h e p) (settled birth h p)
    (calm.unwritten p) (unsupplied birth e h legal apart p) (calm.unzeroed p) (calm.ungrown p) (unleft birth e h legal apart p) (was p))

pub on_disk : (image : ℕ → ℕ) (birth : Birth) (h : List Entry) (disk : ℕ → ℕ) (hands : ℕ → ℕ → ℕ) → Coherent image birth h disk hands → ((p : ℕ) → unclean birth h p ≡ false) →
    (x : ℕ) → page_of x < size birth h → disk x ≡ newest image birth h x
on_disk image birth h disk hands was none x low =
    was.blocks x low (and_right (nat_lt (page_of x) (size birth h)) _ (clean_rests birth h was.firm.legal (page_of x) low (none (page_of x))))

stored_by : (store rest : Bool) (long tour old : ℕ) → tour ≤ long → store ≡ true → tour ≤ cond rest (suc long) (max (cond store tour 0) old)
stored_by true true long tour old less is = omega arith
stored_by true false long tour old less is = omega arith
stored_by false rest long tour old less is = absurd (false≢true is)

pub reached_stored : (birth : Birth) (e : Entry) (h : List Entry) (p : ℕ) → stores e.call p ≡ true → tour_at h e.who ≤ reached birth (e ∷ h) p
reached_stored birth e h p is = stored_by (stores e.call p) (rests_within birth (e ∷ h) p) (length h) (tour_at h e.who) (reached birth h p) (tour_within h e.who) is
