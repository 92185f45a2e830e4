-- How far a relief has come.
use Rattle.std.proofs.Common.{◌≡◌, ℕ, List, [], ◌∷◌, length, refl, ap, sym, ◌∙◌, subst}
use Rattle.up_num.specs.declared.pages.PageNo.{PageNo}
use Rattle.up_bank.specs.declared.kind.FrameKind.{FrameKind}
use Rattle.up_model.specs.declared.entry.Call.TheVariants.{Evict}
use Rattle.up_model.specs.declared.entry.Reply.TheVariants.{Pages}
use Rattle.up_evictor.specs.Relief.{reclaim_of, Relieves, turns, Relieved as RelievedBy}
use Rattle.up_evictor.specs.Levels.{age_limits}
use Rattle.up_evictor.specs.declared.herd.Reclaim.{Reclaim}
use Rattle.up_evictor.specs.declared.levels.Level.{Level}
use Rattle.up_evictor.specs.declared.passes.Relief.{Relief}
use Rattle.up_worker.specs.Courses.{Entered}
use Rattle.up_worker.specs.Thread.{reclaims_of}
use Rattle.up_hands.specs.Entering.{enter}
use Rattle.up_hands.specs.Machined.{Machined, owned, entry_by, Acted, Stays, ReliefMade, WentSoFar}

pub stays_same : (m : Machined) → Stays m m
stays_same m = record { ages = refl; banks = refl; births = refl }

pub stays_on : (a b c : Machined) → Stays a b → Stays b c → Stays a c
stays_on a b c one other = record { ages = other.ages ∙ one.ages; banks = other.banks ∙ one.banks; births = other.births ∙ one.births }

-- nothing was evicted yet
pub went_nowhere : (m : Machined) (who : ℕ) → WentSoFar (record { start = m; now = m; who = who; reclaims = [] })
went_nowhere m who =
    record {
      made = [];
      evicted = record { lives = refl; own = tt; epoch = tt; stays = stays_same m; owned = λ kind. refl };
      reclaimed = refl;
    }

-- one evict more
pub went_on : (old now next : Machined) (who object limit most given : ℕ) (pages : List PageNo) (reclaims reclaims' : List Reclaim) → WentSoFar (record { start = old; now = now; who = who; reclaims = reclaims }) →
    Acted now next object who (Evict limit most) (Pages pages) → Stays now next → ((kind : FrameKind) → owned kind next ≡ owned kind now) → given ≡ length pages →
    reclaims' ≡ reclaim_of object limit most given ∷ reclaims → WentSoFar (record { start = old; now = next; who = who; reclaims = reclaims' })
went_on old now next who object limit most given pages reclaims reclaims' went acted stays same count is =
    let x : Entered = entry_by now object who (Evict limit most) (Pages pages) in
    record {
      made = x ∷ went.made;
      evicted = record {
        lives = acted.lives ∙ ap (enter x) went.evicted.lives;
        own = (refl, refl, refl, went.evicted.own);
        epoch = (went.evicted.stays.ages, went.evicted.epoch);
        stays = stays_on old now next went.evicted.stays stays;
        owned = λ kind. same kind ∙ went.evicted.owned kind;
      };
      reclaimed = ap (λ (n : ℕ). reclaim_of object limit most n ∷ reclaims_of went.made) (sym count) ∙ ap (λ (cs : List Reclaim). reclaim_of object limit most given ∷ cs) went.reclaimed ∙ sym is;
    }

-- an evict that met want of memory
pub went_still : (old now next : Machined) (who : ℕ) (reclaims : List Reclaim) → WentSoFar (record { start = old; now = now; who = who; reclaims = reclaims }) →
    next.lives ≡ now.lives → Stays now next → ((kind : FrameKind) → owned kind next ≡ owned kind now) → WentSoFar (record { start = old; now = next; who = who; reclaims = reclaims })
went_still old now next who reclaims went lives stays same =
    record {
      made = went.made;
      evicted = record {
        lives = lives ∙ went.evicted.lives;
        own = went.evicted.own;
        epoch = went.evicted.epoch;
        stays = stays_on old now next went.evicted.stays stays;
        owned = λ kind. same kind ∙ went.evicted.owned kind;
      };
      reclaimed = went.reclaimed;
    }

pub relief_made : (old now : Machined) (who want : ℕ) (level : Level) (reclaims : List Reclaim) (relief : Relief) → WentSoFar (record { start = old; now = now; who = who; reclaims = reclaims }) →
    RelievedBy want level (length old.lives) [] reclaims relief → ReliefMade old now who want level
relief_made old now who want level reclaims relief went by =
    record {
      made = went.made;
      evicted = went.evicted;
      asked = subst (λ (cs : List Reclaim). Relieves want (turns (age_limits level) (length old.lives)) [] cs) (sym went.reclaimed) by.asked;
    }
