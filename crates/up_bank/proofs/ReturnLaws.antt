-- The laws over the rule, and over returns.
use Rattle.std.proofs.Common.{◌≡◌, ◌⊎◌, ℕ, ◌%◌, Bool, true, false, List, [], ◌∷◌, ◌++◌, sym, refl, ap, ◌∙◌, inl, inr, arith}
use mathlib.Core.Logic.{dite}
use native.Mathlib.Decide.{ℕ_discrete}
use Rattle.up_bank.specs.Bytes.{Given, Extends}
use Rattle.up_bank.specs.Banked.{Vault, home_bit}
use Rattle.up_bank.specs.Laws.{IsWithOne, Whereabouts, at_home, out, in_hand, HomeOrOut, FramesDiffer, OneHistory, LastReturnCounts}
use Rattle.up_bank.proofs.TableSteps.{not_one, newest, older}

-- a seat with a frame is a frame's own, or that of a call
placed : (number : ℕ) (s : Vault) (gives : List Given) (b : Bool) → IsWithOne number s b → Whereabouts number s gives
placed number s gives true w = out w
placed number s gives false w = in_hand w

pub home_or_out : HomeOrOut
home_or_out frames s r number inside = dite (ℕ_discrete (home_bit s.words number) 1)
    (λ (one : home_bit s.words number ≡ 1). at_home record {
      bit = one;
      bytes = r.home number inside one;
      nobody = λ j v there has. let gone = (r.each j v there number has).gone in absurd (omega arith);
    })
    (λ other. let gone : home_bit s.words number ≡ 0 = not_one _ (number % 64) other in let o = r.out number inside gone in placed number s r.gives (o.0).rests record {
      bit = gone;
      seat = r.owner number;
      view = o.0;
      there = o.1;
      has = o.2;
      state = refl;
      alone = λ j v there has. sym (r.each j v there number has).mine;
    })

pub frames_differ : FramesDiffer
frames_differ frames s r i j a b v w at there has own other same = other (sym (r.each i v at a has).mine ∙ (ap r.owner same ∙ (r.each j w there b own).mine))

-- of two ends of one list, one is an end of the other
two_ends : (x y a b : List Given) → x ++ a ≡ y ++ b → Extends a b ⊎ Extends b a
two_ends [] y a b e = inr record { newer = y; is = e }
two_ends (g ∷ x) [] a b e = inl record { newer = g ∷ x; is = sym e }
two_ends (g ∷ x) (h ∷ y) a b e = two_ends x y a b (cc)

pub one_history : OneHistory
one_history frames s r i j v w at there = let a = r.seen i v at in let b = r.seen j w there in two_ends a.newer b.newer v.gives w.gives (sym a.is ∙ b.is)

pub last_return_counts : LastReturnCounts
last_return_counts gives number bytes = (newest gives number bytes, λ other apart. older gives number other bytes apart)
