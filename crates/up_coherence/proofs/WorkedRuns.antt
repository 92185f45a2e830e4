-- Worked journals: three that the sample pager makes, reached step by step, and two that leave no site coherent.
use Rattle.std.proofs.Common.{◌≡◌, ℕ, ◌-◌, ◌*◌, ◌<◌, ◌==◌, ◌⊎◌, true, false, cond, Some, None, List, [], ◌∷◌, length, replicate, slice_get, refl, ap, sym, ◌∙◌, subst, arith, inl, inr}
use Rattle.std.proofs.lemmas.Bool.{false≢true}
use Rattle.std.proofs.lemmas.List.{get_or-replicate, length-replicate}
use Rattle.std.proofs.lemmas.Option.{slice_get-get_or}
use Rattle.up_num.specs.declared.answers.Packet.TheVariants.{Read as ReadPacket}
use Rattle.up_model.specs.Attempts.{page_of}
use Rattle.up_model.specs.Size.{size}
use Rattle.up_model.specs.Value.{value, there, settled, byte_or_zero}
use Rattle.up_model.specs.States.{unclean}
use Rattle.up_model.specs.Newest.{newest}
use Rattle.up_model.specs.Positions.{first_of}
use Rattle.up_model.specs.Legal.{Legal}
use Rattle.up_model.specs.declared.entry.Entry.{Entry}
use Rattle.up_model.specs.declared.entry.Brought.TheVariants.{Nothing, Frames}
use Rattle.up_model.specs.declared.entry.Told.TheVariants.{Fetched, Copied, Stored, Flushed}
use Rattle.up_model.specs.declared.entry.Call.TheVariants as calls
use Rattle.up_model.specs.declared.entry.Reply.TheVariants as replies
use Rattle.up_model.proofs.Bools.{nat_eq_true}
use Rattle.up_claims.specs.Claimed.{holds}
use Rattle.up_claims.proofs.SiteWords.{page, range, on_disk, numbered, by, tells, read_at, write_in}
use Rattle.up_coherence.specs.Coherent.{Coherent}
use Rattle.up_coherence.specs.Durable.{durable, reached}
use Rattle.up_coherence.specs.StepPremises.{Unheld}
use Rattle.up_coherence.specs.Histories.{Leaves, Left, IsBlock, IsAmong, QuietMade, SyncMade, ResizeMade, FetchMade, SupplyMade, BeginMade, CopyMade, StoreMade, EndMade, Ran, Starts, Goes}
use Rattle.up_coherence.proofs.CoherentSteps.{one_is}

-- the disk after the store of page 0
abbrev with_first : (ℕ → ℕ) → (ℕ → ℕ) → ℕ → ℕ
with_first disk hand x = cond (page_of x == 0) (hand x) (disk x)

-- one content alone may be left in each block, and it is that of the block
abbrev alone : (ℕ → ℕ) → Leaves
alone disk p = disk ∷ []

one_alone : (disk : ℕ → ℕ) (p : ℕ) (content : ℕ → ℕ) → Left (alone disk) p content → IsBlock disk p content
one_alone disk p content (inl is) = λ x within. ap (λ (f : ℕ → ℕ). f x) is
one_alone disk p content (inr none) = absurd none

-- after the store of page 0 its new block may be left, too
abbrev with_new : (ℕ → ℕ) → (ℕ → ℕ) → Leaves
with_new disk hand p = cond (p == 0) (hand ∷ disk ∷ []) (disk ∷ [])

new_or_old : (disk hand : ℕ → ℕ) (p : ℕ) (content : ℕ → ℕ) → Left (with_new disk hand) p content → Left (alone disk) p content ⊎ ((p ≡ 0) × IsBlock hand p content)
new_or_old disk hand p content = elim (p == 0) as (λ b. (p == 0) ≡ b → IsAmong content (cond b (hand ∷ disk ∷ []) (disk ∷ [])) → IsAmong content (disk ∷ []) ⊎ ((p ≡ 0) × IsBlock hand p content)) [
  | true ↦ λ here is. new_first here is
  | false ↦ λ away is. inl is
] refl
  where
    new_first : (p == 0) ≡ true → IsAmong content (hand ∷ disk ∷ []) → IsAmong content (disk ∷ []) ⊎ ((p ≡ 0) × IsBlock hand p content)
    new_first here (inl is) = inr (nat_eq_true p 0 here, λ x within. ap (λ (f : ℕ → ℕ). f x) is)
    new_first here (inr old) = inl old

puts_first : (disk hand : ℕ → ℕ) (x : ℕ) → page_of x ≡ 0 → with_first disk hand x ≡ hand x
puts_first disk hand x within = let is : (page_of x == 0) ≡ true = ap (λ (q : ℕ). q == 0) within in rw is refl

puts_elsewhere : (disk hand : ℕ → ℕ) (x : ℕ) → (page_of x == 0) ≡ false → with_first disk hand x ≡ disk x
puts_elsewhere disk hand x away = rw away refl

-- a page that has grown is written back, and the disk is synced: what a stop leaves has its bytes from moment 5 on
abbrev pub grown_and_stored : List Entry
grown_and_stored =
    tells 0 (Flushed true) ∷
    by 1 (calls.End (range 0 1) None) (replies.Woke []) ∷
    tells 1 (Stored (page 0) true) ∷
    tells 1 (Copied (range 0 1)) ∷
    by 1 (calls.Begin (range 0 1) true) replies.Done ∷
    by 0 (calls.Resize 1) (replies.Woke []) ∷ []

grown_and_stored-legal : Legal (on_disk 0 4) grown_and_stored
unfolding value
grown_and_stored-legal = ((((((tt, refl, refl), refl, refl), refl, refl), refl, refl), refl, refl), refl, refl)

grown_and_stored-unclean : unclean (on_disk 0 4) (first_of grown_and_stored 1) 0 ≡ true
unfolding value
grown_and_stored-unclean = refl

grown_and_stored-free : (p : ℕ) → Unheld (first_of grown_and_stored 1) p
grown_and_stored-free p who = elim (0 == who) as (λ b. holds (cond b None None) p ≡ false) [
  | true ↦ refl
  | false ↦ refl
]

-- what the worker copies
abbrev grown_and_stored-hand : ℕ → ℕ → ℕ
grown_and_stored-hand who x = byte_or_zero (value (on_disk 0 4) (first_of grown_and_stored 2) x)

abbrev grown_and_stored-disk : (ℕ → ℕ) → ℕ → ℕ
grown_and_stored-disk image = with_first image (grown_and_stored-hand 1)

grown_and_stored-begun : (image : ℕ → ℕ) → Ran image (on_disk 0 4) (first_of grown_and_stored 2) image grown_and_stored-hand (alone image)
grown_and_stored-begun image =
    let legal = grown_and_stored-legal in
    Goes _ _ image image grown_and_stored-hand grown_and_stored-hand (alone image) (alone image)
    (Goes _ _ image image grown_and_stored-hand grown_and_stored-hand (alone image) (alone image)
    (Starts grown_and_stored-hand (alone image) (one_alone image)) legal.0.0.0.0.0 (ResizeMade 0 0 1 (replies.Woke []) (λ who p has. absurd (false≢true has))))
    legal.0.0.0.0
    (BeginMade 1 0 (range 0 1) true replies.Done refl (λ p over. subst (λ (q : ℕ). unclean (on_disk 0 4) (first_of grown_and_stored 1) q ≡ true) (one_is 0 p over) grown_and_stored-unclean) (λ p over. grown_and_stored-free p))

abbrev grown_and_stored-leaves : (ℕ → ℕ) → Leaves
grown_and_stored-leaves image = with_new image (grown_and_stored-hand 1)

grown_and_stored-runs : (image : ℕ → ℕ) → Ran image (on_disk 0 4) grown_and_stored (grown_and_stored-disk image) grown_and_stored-hand (alone (grown_and_stored-disk image))
grown_and_stored-runs image =
    let legal = grown_and_stored-legal in
    Goes _ _ (grown_and_stored-disk image) (grown_and_stored-disk image) grown_and_stored-hand grown_and_stored-hand (grown_and_stored-leaves image) (alone (grown_and_stored-disk image))
    (Goes _ _ (grown_and_stored-disk image) (grown_and_stored-disk image) grown_and_stored-hand grown_and_stored-hand (grown_and_stored-leaves image) (grown_and_stored-leaves image)
    (Goes _ _ image (grown_and_stored-disk image) grown_and_stored-hand grown_and_stored-hand (alone image) (grown_and_stored-leaves image)
    (Goes _ _ image image grown_and_stored-hand grown_and_stored-hand (alone image) (alone image)
    (grown_and_stored-begun image) legal.0.0.0
    (CopyMade 1 0 (range 0 1) None replies.Noted grown_and_stored-hand refl (λ x over. refl) (λ other x differs. refl)))
    legal.0.0
    (StoreMade 1 0 (page 0) (range 0 1) None 0 replies.Noted (grown_and_stored-disk image) (grown_and_stored-leaves image) refl refl refl
    (puts_first image (grown_and_stored-hand 1)) (puts_elsewhere image (grown_and_stored-hand 1)) (new_or_old image (grown_and_stored-hand 1))))
    legal.0
    (EndMade 1 0 (range 0 1) None (replies.Woke []) refl))
    legal
    (SyncMade 0 0 replies.Noted (alone (grown_and_stored-disk image)) (one_alone (grown_and_stored-disk image)))

grown_and_stored-durable : (durable (on_disk 0 4) grown_and_stored 0 ≡ 5) × (reached (on_disk 0 4) grown_and_stored 0 ≡ 6)
unfolding value
grown_and_stored-durable = (refl, refl)

-- the same on a numbered object: the end names the begin
abbrev pub numbered_and_stored : List Entry
numbered_and_stored =
    tells 0 (Flushed true) ∷
    by 1 (calls.End (range 0 1) (Some 0)) (replies.Woke []) ∷
    tells 1 (Stored (page 0) true) ∷
    tells 1 (Copied (range 0 1)) ∷
    by 1 (calls.Begin (range 0 1) true) (replies.Began 0) ∷
    by 0 (calls.Resize 1) (replies.Woke []) ∷ []

numbered_and_stored-legal : Legal (numbered 0 4) numbered_and_stored
unfolding value
numbered_and_stored-legal = ((((((tt, refl, refl), refl, refl), refl, refl), refl, refl), refl, refl), refl, refl)

numbered_and_stored-unclean : unclean (numbered 0 4) (first_of numbered_and_stored 1) 0 ≡ true
unfolding value
numbered_and_stored-unclean = refl

numbered_and_stored-free : (p : ℕ) → Unheld (first_of numbered_and_stored 1) p
numbered_and_stored-free p who = elim (0 == who) as (λ b. holds (cond b None None) p ≡ false) [
  | true ↦ refl
  | false ↦ refl
]

-- what the worker copies
abbrev numbered_and_stored-hand : ℕ → ℕ → ℕ
numbered_and_stored-hand who x = byte_or_zero (value (numbered 0 4) (first_of numbered_and_stored 2) x)

abbrev numbered_and_stored-disk : (ℕ → ℕ) → ℕ → ℕ
numbered_and_stored-disk image = with_first image (numbered_and_stored-hand 1)

numbered_and_stored-begun : (image : ℕ → ℕ) → Ran image (numbered 0 4) (first_of numbered_and_stored 2) image numbered_and_stored-hand (alone image)
numbered_and_stored-begun image =
    let legal = numbered_and_stored-legal in
    Goes _ _ image image numbered_and_stored-hand numbered_and_stored-hand (alone image) (alone image)
    (Goes _ _ image image numbered_and_stored-hand numbered_and_stored-hand (alone image) (alone image)
    (Starts numbered_and_stored-hand (alone image) (one_alone image)) legal.0.0.0.0.0 (ResizeMade 0 0 1 (replies.Woke []) (λ who p has. absurd (false≢true has))))
    legal.0.0.0.0
    (BeginMade 1 0 (range 0 1) true (replies.Began 0) refl (λ p over. subst (λ (q : ℕ). unclean (numbered 0 4) (first_of numbered_and_stored 1) q ≡ true) (one_is 0 p over) numbered_and_stored-unclean) (λ p over. numbered_and_stored-free p))

abbrev numbered_and_stored-leaves : (ℕ → ℕ) → Leaves
numbered_and_stored-leaves image = with_new image (numbered_and_stored-hand 1)

numbered_and_stored-runs : (image : ℕ → ℕ) → Ran image (numbered 0 4) numbered_and_stored (numbered_and_stored-disk image) numbered_and_stored-hand (alone (numbered_and_stored-disk image))
numbered_and_stored-runs image =
    let legal = numbered_and_stored-legal in
    Goes _ _ (numbered_and_stored-disk image) (numbered_and_stored-disk image) numbered_and_stored-hand numbered_and_stored-hand (numbered_and_stored-leaves image) (alone (numbered_and_stored-disk image))
    (Goes _ _ (numbered_and_stored-disk image) (numbered_and_stored-disk image) numbered_and_stored-hand numbered_and_stored-hand (numbered_and_stored-leaves image) (numbered_and_stored-leaves image)
    (Goes _ _ image (numbered_and_stored-disk image) numbered_and_stored-hand numbered_and_stored-hand (alone image) (numbered_and_stored-leaves image)
    (Goes _ _ image image numbered_and_stored-hand numbered_and_stored-hand (alone image) (alone image)
    (numbered_and_stored-begun image) legal.0.0.0
    (CopyMade 1 0 (range 0 1) (Some 0) replies.Noted numbered_and_stored-hand refl (λ x over. refl) (λ other x differs. refl)))
    legal.0.0
    (StoreMade 1 0 (page 0) (range 0 1) (Some 0) 0 replies.Noted (numbered_and_stored-disk image) (numbered_and_stored-leaves image) refl refl refl
    (puts_first image (numbered_and_stored-hand 1)) (puts_elsewhere image (numbered_and_stored-hand 1)) (new_or_old image (numbered_and_stored-hand 1))))
    legal.0
    (EndMade 1 0 (range 0 1) (Some 0) (replies.Woke []) refl))
    legal
    (SyncMade 0 0 replies.Noted (alone (numbered_and_stored-disk image)) (one_alone (numbered_and_stored-disk image)))

numbered_and_stored-durable : (durable (numbered 0 4) numbered_and_stored 0 ≡ 5) × (reached (numbered 0 4) numbered_and_stored 0 ≡ 6)
unfolding value
numbered_and_stored-durable = (refl, refl)

-- a read blocks, its page is fetched and supplied, and the read goes on
abbrev pub fetched_and_read : List Entry
fetched_and_read =
    by 0 (calls.Retry 0 Nothing) (replies.Bytes (48 ∷ [])) ∷
    by 1 (calls.Supply (range 0 1) (replicate 4096 48) (Frames 1)) (replies.Took 1 (0 ∷ [])) ∷
    tells 1 (Fetched (page 0) true) ∷
    by 1 calls.Packet (replies.Packet (ReadPacket (range 0 1))) ∷
    by 0 (read_at 0) (replies.Blocked 0) ∷ []

fetched_and_read-legal : Legal (on_disk 2 4) fetched_and_read
unfolding value
fetched_and_read-legal = (((((tt, refl, refl), refl, refl), refl, refl), refl, refl), refl, refl)

fetched_and_read-absent : there (on_disk 2 4) (first_of fetched_and_read 2) 0 ≡ false
unfolding value
fetched_and_read-absent = refl

fetched_and_read-free : Unheld (first_of fetched_and_read 2) 0
fetched_and_read-free who = elim (1 == who) as (λ b. holds (cond b (cond (0 == who) None None) (cond (0 == who) None None)) 0 ≡ false) [
  | true ↦ elim (0 == who) as (λ b. holds (cond b None None) 0 ≡ false) [ true ↦ refl | false ↦ refl ]
  | false ↦ elim (0 == who) as (λ b. holds (cond b None None) 0 ≡ false) [ true ↦ refl | false ↦ refl ]
]

-- a disk whose every byte is 48
abbrev all_same : ℕ → ℕ
all_same x = 48

abbrev in_hand : ℕ → ℕ → ℕ
in_hand who x = 48

byte_of_many : (n x : ℕ) → x < n → slice_get {X = ℕ} (replicate n 48) x ≡ Some 48
byte_of_many n x low =
    let long : length (replicate {A = ℕ} n 48) ≡ n = length-replicate n 48 in
    let inside : x < length (replicate {A = ℕ} n 48) = omega arith in
    slice_get-get_or (replicate n 48) x 0 inside ∙ ap Some (get_or-replicate n x 48 0 low)

brings_all : (x : ℕ) → page_of x ≡ 0 → slice_get {X = ℕ} (replicate 4096 48) (x - 4096 * 0) ≡ Some 48
brings_all x within =
    let same : x - 4096 * 0 ≡ x = omega arith in
    let low : x < 4096 = omega arith in
    subst (λ (y : ℕ). slice_get {X = ℕ} (replicate 4096 48) y ≡ Some 48) (sym same) (byte_of_many 4096 x low)

fetched_and_read-runs : Ran all_same (on_disk 2 4) fetched_and_read all_same in_hand (alone all_same)
fetched_and_read-runs =
    let legal = fetched_and_read-legal in
    Goes _ _ all_same all_same in_hand in_hand (alone all_same) (alone all_same)
    (Goes _ _ all_same all_same in_hand in_hand (alone all_same) (alone all_same)
    (Goes _ _ all_same all_same in_hand in_hand (alone all_same) (alone all_same)
    (Goes _ _ all_same all_same in_hand in_hand (alone all_same) (alone all_same)
    (Goes _ _ all_same all_same in_hand in_hand (alone all_same) (alone all_same)
    (Starts in_hand (alone all_same) (one_alone all_same))
    legal.0.0.0.0 (QuietMade _ (alone all_same) refl refl (λ p content is. is)))
    legal.0.0.0 (QuietMade _ (alone all_same) refl refl (λ p content is. is)))
    legal.0.0 (FetchMade 1 0 (page 0) true replies.Noted in_hand (alone all_same) (omega arith) fetched_and_read-absent fetched_and_read-free (λ good x within. refl) (λ other x differs. refl) (λ p content is. is)))
    legal.0 (SupplyMade 1 0 (page 0) (replicate 4096 48) (Frames 1) (replies.Took 1 (0 ∷ [])) refl brings_all))
    legal (QuietMade _ (alone all_same) refl refl (λ p content is. is))

-- a writeback that ends before its store: whatever anyone has in hand, a site whose disk is as it was is not coherent
abbrev pub ended_too_early : List Entry
ended_too_early =
    by 1 (calls.End (range 0 1) None) (replies.Woke []) ∷
    tells 1 (Copied (range 0 1)) ∷
    by 1 (calls.Begin (range 0 1) false) replies.Done ∷
    by 0 (calls.Write 0 (65 ∷ []) (page 0) (Frames 1)) replies.Done ∷
    by 0 (calls.Resize 1) (replies.Woke []) ∷ []

ended_too_early-legal : Legal (on_disk 0 4) ended_too_early
unfolding value
ended_too_early-legal = (((((tt, refl, refl), refl, refl), refl, refl), refl, refl), refl, refl)

ended_too_early-settled : (settled (on_disk 0 4) ended_too_early 0 ≡ true) × (size (on_disk 0 4) ended_too_early ≡ 1)
unfolding value
ended_too_early-settled = (refl, refl)

early_newest : (image : ℕ → ℕ) → newest image (on_disk 0 4) ended_too_early 0 ≡ 65
early_newest image = refl

no_early_end : (image : ℕ → ℕ) (hands : ℕ → ℕ → ℕ) → (image 0 ≡ 65 → ⊥) → Coherent image (on_disk 0 4) ended_too_early image hands → ⊥
no_early_end image hands other was = other (was.blocks 0 (subst (λ (n : ℕ). 0 < n) (sym ended_too_early-settled.1) (omega arith)) ended_too_early-settled.0 ∙ early_newest image)

-- two writebacks of one page at a time, with a write between: the older copy is stored last
abbrev pub claimed_twice : List Entry
claimed_twice =
    by 1 (calls.End (range 0 1) None) (replies.Woke []) ∷
    tells 1 (Stored (page 0) true) ∷
    by 2 (calls.End (range 0 1) None) (replies.Woke []) ∷
    tells 2 (Stored (page 0) true) ∷
    tells 2 (Copied (range 0 1)) ∷
    by 2 (calls.Begin (range 0 1) false) replies.Done ∷
    by 0 (write_in 0 66) replies.Done ∷
    tells 1 (Copied (range 0 1)) ∷
    by 1 (calls.Begin (range 0 1) false) replies.Done ∷
    by 0 (calls.Write 0 (65 ∷ []) (page 0) (Frames 1)) replies.Done ∷
    by 0 (calls.Resize 1) (replies.Woke []) ∷ []

claimed_twice-legal : Legal (on_disk 0 4) claimed_twice
unfolding value
claimed_twice-legal = (((((((((((tt, refl, refl), refl, refl), refl, refl), refl, refl), refl, refl), refl, refl), refl, refl), refl, refl), refl, refl), refl, refl), refl, refl)

-- the byte that the first worker copied, and that its store puts last
older_copy : value (on_disk 0 4) (first_of claimed_twice 3) 0 ≡ Some 65
unfolding value
older_copy = refl

claimed_twice-settled : (settled (on_disk 0 4) claimed_twice 0 ≡ true) × (size (on_disk 0 4) claimed_twice ≡ 1)
unfolding value
claimed_twice-settled = (refl, refl)

twice_newest : (image : ℕ → ℕ) → newest image (on_disk 0 4) claimed_twice 0 ≡ 66
twice_newest image = refl

no_overlap : (image disk : ℕ → ℕ) (hands : ℕ → ℕ → ℕ) → disk 0 ≡ 65 → Coherent image (on_disk 0 4) claimed_twice disk hands → ⊥
no_overlap image disk hands older was =
    let wrong : ◌≡◌ {A = ℕ} 65 66 = sym older ∙ was.blocks 0 (subst (λ (n : ℕ). 0 < n) (sym claimed_twice-settled.1) (omega arith)) claimed_twice-settled.0 ∙ twice_newest image in
    omega arith
