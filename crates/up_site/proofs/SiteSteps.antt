-- Each step keeps what a site keeps true, over the site's value.
use Rattle.std.proofs.Common.{◌≡◌, ℕ, ◌+◌, ◌-◌, ◌*◌, ◌%◌, ◌<◌, ◌≤◌, ◌==◌, ◌&&◌, ◌⊎◌, Bool, true, false}
use Rattle.std.proofs.Common.{cond, Option, Some, None, is_some, List, [], ◌∷◌, length, get_or, slice_set}
use Rattle.std.proofs.Common.{suc, nat_lt, IsTrue, refl, sym, ap, ◌∙◌, subst, arith, le_trans, le_refl, inl}
use Rattle.std.proofs.Common.{inr}
use Rattle.std.proofs.lemmas.Bool.{false≢true}
use Rattle.std.proofs.lemmas.Bool.Decides.{nat_tests}
use Rattle.std.proofs.lemmas.Option.{slice_get-get_or}
use Rattle.std.proofs.lemmas.List.{get_or-set_same, get_or-set_other}
use Rattle.up_num.specs.Span.{Span, covers}
use Rattle.up_num.specs.Pages.{page_number}
use Rattle.up_num.specs.declared.pages.PageNo.{PageNo}
use Rattle.up_num.specs.declared.answers.Code.{Code}
use Rattle.up_num.specs.declared.answers.AskKind.TheVariants.{Read as ReadAsk}
use Rattle.up_disk.specs.Left.{IsOldOrWritten}
use Rattle.up_model.specs.Attempts.{page_of, accepts}
use Rattle.up_model.specs.Size.{size}
use Rattle.up_model.specs.Value.{there, settled, bytes_from}
use Rattle.up_model.specs.States.{unclean}
use Rattle.up_model.specs.Asks.{asked}
use Rattle.up_model.specs.Reply.{proper, reply, same_flag}
use Rattle.up_model.specs.Legal.{Legal, due}
use Rattle.up_model.specs.declared.entry.Birth.{Birth}
use Rattle.up_model.specs.declared.entry.Entry.{Entry}
use Rattle.up_model.specs.declared.entry.Brought.{Brought}
use Rattle.up_model.specs.declared.entry.Told.TheVariants as told
use Rattle.up_model.specs.declared.entry.Call.{Call}
use Rattle.up_model.specs.declared.entry.Call.TheVariants.{Supply, Fail, Begin, End, Resize, Tell}
use Rattle.up_model.proofs.Bools.{nat_eq_true, nat_eq-same}
use Rattle.up_model.proofs.Asked.{read_asked}
use Rattle.up_claims.specs.Claimed.{next_claim, without_fetch, with_copy, with_store, given_number}
use Rattle.up_claims.specs.Claimed.{claim_of, holds, in_back, has_copied, has_stored, one_page}
use Rattle.up_claims.specs.Listed.{claims_of, claimed}
use Rattle.up_claims.specs.declared.claim.Claim.{Claim}
use Rattle.up_claims.specs.declared.claim.Claim.TheVariants.{Fetch, Back}
use Rattle.up_claims.proofs.ClaimLists.{unclaimed}
use Rattle.up_coherence.specs.Coherent.{Firm, Coherent}
use Rattle.up_coherence.specs.Durable.{flushes, Lasting}
use Rattle.up_coherence.specs.Histories.{IsBlock}
use Rattle.up_coherence.specs.StepPremises.{is_quiet, BelowAll, StoresHand, StoresElsewhere}
use Rattle.up_coherence.proofs.Pages.{unclean_parts}
use Rattle.up_coherence.proofs.Firmness.{false_by, apart_true, own_claim, by_who, stored_back, back_holds}
use Rattle.up_coherence.proofs.Firmness.{quiet_claim, firm_quiet, firm_supply, firm_fail, firm_resize}
use Rattle.up_coherence.proofs.Firmness.{firm_copied, firm_stored, firm_end, firm_fetched, firm_begin}
use Rattle.up_coherence.proofs.CoherentSteps.{coherent_quiet, coherent_resize, coherent_fail}
use Rattle.up_coherence.proofs.CoherentSteps.{coherent_supply, coherent_fetched, coherent_begin}
use Rattle.up_coherence.proofs.CoherentSteps.{coherent_copied, coherent_stored, coherent_store_failed}
use Rattle.up_coherence.proofs.CoherentSteps.{coherent_end, hands_change}
use Rattle.up_coherence.proofs.NewestReads.{reads_newest}
use Rattle.up_coherence.proofs.Runs.{coherent_first, lasting_first}
use Rattle.up_site.proofs.Lastings.{AddsCopy, lasting_quiet, lasting_calm, lasting_gone, lasting_begun}
use Rattle.up_site.proofs.Lastings.{lasting_copied, lasting_stored, lasting_store_failed, lasting_unstored}
use Rattle.up_site.specs.Stages.{claim_in_some, held_in, stage_at, tours_with, tours_without, byte_in_hand}
use Rattle.up_site.specs.Stages.{hands, Shaped, AllShaped, IsWhole}
use Rattle.up_site.specs.Standing.{Tells, byte_in, most_pages, RoseFor, ReadFrom, part_of, AnswersNewest}
use Rattle.up_site.specs.Standing.{SiteStands, LeftSince, LeavesNoMore}
use Rattle.up_site.specs.Standing.{LeavesWritten}
use Rattle.up_site.specs.declared.stage.Stage.{Stage}
use Rattle.up_site.specs.declared.stage.Stage.TheVariants.{Fetched, Begun, Copied}
use Rattle.up_site.specs.declared.stage.Tour.{Tour}
use Rattle.up_site.proofs.Stagings.{claim_by_stage, stage_with_same, stage_with_other, stage_without_other}
use Rattle.up_site.proofs.Stagings.{shaped_with, shaped_without, shaped_at, ShapedAt, claims_stay}
use Rattle.up_site.proofs.Stagings.{claims_with, claims_without}
use Rattle.up_site.proofs.Reached.{within_block, byte_of, byte_read, copied_byte, byte_part, size_most}
use Rattle.up_site.proofs.Reached.{begin_accepts, begin_good, begin_numbers, unclean_within, rose_by}
use Rattle.up_site.proofs.Reached.{rose_first, next_covered}

-- the entry of a call with the reply that is due
abbrev pub entry_of : Birth → List Entry → ℕ → ℕ → Call → Entry
entry_of birth h who epoch call = due (record { birth = birth; journal = h }) who epoch call

-- what one more entry has to keep
record Keeps {D : Type 0} (disks : Tells D) (birth : Birth) (e : Entry) (h : List Entry) (start disk later
    : D) (tours next : List Tour) : Type 0 where
  firm : Firm birth (e ∷ h)
  claims : held_in next ≡ claims_of (e ∷ h)
  shaped : AllShaped birth next
  count : disks.count later ≡ disks.count disk
  coherent : disks.tells ≡ true → Coherent (byte_in (disks.blocks start)) birth h (byte_in (disks.blocks
      disk)) (hands tours) →
      Coherent (byte_in (disks.blocks start)) birth (e ∷ h) (byte_in (disks.blocks later)) (hands next)
  rose : RoseFor e.call (disks.faults disk) (disks.faults later)
  lasting : disks.tells ≡ true → disks.lasts ≡ true → Coherent (byte_in (disks.blocks start)) birth h
      (byte_in (disks.blocks disk)) (hands tours)
      → Coherent (byte_in (disks.blocks start)) birth (e ∷ h) (byte_in (disks.blocks later)) (hands next)
      → Lasting (byte_in (disks.blocks start)) birth h (byte_in (disks.blocks disk)) (hands tours)
      (LeftSince disks disk (disks.time disk))
      → Lasting (byte_in (disks.blocks start)) birth (e ∷ h) (byte_in (disks.blocks later)) (hands next)
      (LeftSince disks later (disks.time later))

site_more : {D : Type 0} (disks : Tells D) (birth : Birth) (e : Entry) (h : List Entry) (start disk later :
    D) (tours next : List Tour) →
    SiteStands disks birth h start disk tours → Keeps disks birth e h start disk later tours next →
    SiteStands disks birth (e ∷ h) start later next
site_more disks birth e h start disk later tours next was keeps = record {
  firm = keeps.firm;
  claims = keeps.claims;
  shaped = keeps.shaped;
  room = subst (λ (n : ℕ). most_pages birth ≤ n) (sym keeps.count) was.room;
  coherent = λ tells. keeps.coherent tells (was.coherent tells);
  reads = λ tells. (
    was.reads tells,
    reads_newest (byte_in (disks.blocks start)) birth e h (byte_in
        (disks.blocks disk)) (hands tours) keeps.firm.legal (was.coherent tells),
  );
  rose = rose_by e h (disks.faults start) (disks.faults disk) (disks.faults later) was.rose keeps.rose;
  told = was.told;
  lasting = λ lasts first. let tells : disks.tells ≡ true = was.told lasts in
      keeps.lasting tells lasts (was.coherent tells) (keeps.coherent tells (was.coherent tells))
      (was.lasting lasts first);
}

-- what is in hand where an actor's stage goes
drop_hands : (image : ℕ → ℕ) (birth : Birth) (e : Entry) (h : List Entry) (disk : ℕ → ℕ) (tours : List
    Tour) → next_claim e.call e.reply (claim_of h e.who) ≡ None →
    Coherent image birth (e ∷ h) disk (hands tours) → Coherent image birth (e ∷ h) disk (hands
    (tours_without e.who tours))
drop_hands image birth e h disk tours gone = hands_change image birth (e ∷ h) disk (hands tours) (hands
    (tours_without e.who tours))
    (λ who x held. by_who (hands (tours_without e.who tours) who x ≡ hands tours who x) e.who who
    (λ same. absurd (false≢true (ap (λ (c : Option Claim). holds c (page_of x)) (sym (own_claim e h who
    None gone same)) ∙ held)))
    (λ differs. ap (λ (s : Option Stage). byte_in_hand s x) (stage_without_other e.who who tours differs)))

-- what is in hand where an actor's stage changes and its bytes don't
keep_hands : (image : ℕ → ℕ) (birth : Birth) (h : List Entry) (disk : ℕ → ℕ) (who : ℕ) (stage : Stage)
    (tours : List Tour) →
    ((x : ℕ) → byte_in_hand (Some stage) x ≡ byte_in_hand (stage_at tours who) x) →
    Coherent image birth h disk (hands tours) → Coherent image birth h disk (hands (tours_with who stage
    tours))
keep_hands image birth h disk who stage tours same = hands_change image birth h disk (hands tours) (hands
    (tours_with who stage tours))
    (λ other x held. by_who (hands (tours_with who stage tours) other x ≡ hands tours other x) who other
    (λ is. let here : who ≡ other = nat_eq_true who other is in
    subst (λ (n : ℕ). hands (tours_with who stage tours) n x ≡ hands tours n x) here (ap (λ (s : Option
    Stage). byte_in_hand s x) (stage_with_same who stage tours) ∙ same x))
    (λ differs. ap (λ (s : Option Stage). byte_in_hand s x) (stage_with_other who other stage tours differs)))

-- what may be left after an entry that concerns no claim: what could be before, where it tells of no good
-- sync, or the blocks
abbrev pub QuietLeft : {D : Type 0} → Tells D → Call → D → D → Type 0
QuietLeft disks call disk later = disks.lasts ≡ true → (p : ℕ) (content : ℕ → ℕ) → LeftSince disks later
    (disks.time later) p content
    → ((flushes call ≡ false) × LeftSince disks disk (disks.time disk) p content) ⊎ IsBlock (byte_in
    (disks.blocks disk)) p content

pub left_still : {D : Type 0} (disks : Tells D) (call : Call) (disk : D) → flushes call ≡ false → QuietLeft
    disks call disk disk
left_still disks call disk none lasts p content left = inl (none, left)

-- an entry that concerns no claim
pub site_quiet : {D : Type 0} (disks : Tells D) (birth : Birth) (h : List Entry) (start disk later : D)
    (tours : List Tour) → SiteStands disks birth h start disk tours →
    (who epoch : ℕ) (call : Call) → is_quiet call ≡ true → IsTrue (proper birth h who call) → disks.count
    later ≡ disks.count disk →
    (disks.tells ≡ true → disks.blocks later ≡ disks.blocks disk) → RoseFor call (disks.faults disk)
    (disks.faults later) → QuietLeft disks call disk later →
    SiteStands disks birth (entry_of birth h who epoch call ∷ h) start later tours
site_quiet disks birth h start disk later tours was who epoch call quiet fine count blocks rose left =
    let e : Entry = entry_of birth h who epoch call in
    let legal : Legal birth (e ∷ h) = (was.firm.legal, fine, refl) in
    site_more disks birth e h start disk later tours tours was (record {
      firm = firm_quiet birth e h legal quiet was.firm;
      claims = was.claims ∙ sym (claims_stay e h (quiet_claim call e.reply (claim_of h who) quiet));
      shaped = was.shaped;
      count = count;
      coherent = λ tells now. subst (λ (b : List (List ℕ)). Coherent (byte_in (disks.blocks start)) birth
          (e ∷ h) (byte_in b) (hands tours)) (sym (blocks tells))
          (coherent_quiet (byte_in (disks.blocks start)) birth e h (byte_in (disks.blocks disk)) (hands
          tours) legal quiet now);
      rose = rose;
      lasting = λ tells lasts old now dated.
          subst (λ (b : List (List ℕ)). Lasting (byte_in (disks.blocks start)) birth (e ∷ h) (byte_in b)
          (hands tours) (LeftSince disks later (disks.time later))) (sym (blocks tells))
          (lasting_quiet (byte_in (disks.blocks start)) birth e h (byte_in (disks.blocks disk)) (hands
          tours) (LeftSince disks disk (disks.time disk)) (LeftSince disks later (disks.time later))
          old.firm dated
          (subst (λ (b : List (List ℕ)). Coherent (byte_in (disks.blocks start)) birth (e ∷ h) (byte_in b)
          (hands tours)) (blocks tells) now) quiet (left lasts));
    })

-- a resize that cuts off no claimed page
pub site_resized : {D : Type 0} (disks : Tells D) (birth : Birth) (h : List Entry) (start disk : D) (tours
    : List Tour) → SiteStands disks birth h start disk tours →
    (who epoch pages : ℕ) → BelowAll h pages → SiteStands disks birth (entry_of birth h who epoch (Resize
    pages) ∷ h) start disk tours
site_resized disks birth h start disk tours was who epoch pages below =
    let e : Entry = entry_of birth h who epoch (Resize pages) in
    let legal : Legal birth (e ∷ h) = (was.firm.legal, refl, refl) in
    site_more disks birth e h start disk disk tours tours was (record {
      firm = firm_resize birth h who epoch pages e.reply legal below was.firm;
      claims = was.claims ∙ sym (claims_stay e h refl);
      shaped = was.shaped;
      count = refl;
      coherent = λ tells now. coherent_resize (byte_in (disks.blocks start)) birth h (byte_in (disks.blocks
          disk)) (hands tours) who epoch pages e.reply legal below now;
      rose = le_refl (disks.faults disk);
      lasting = λ tells lasts old now dated. lasting_calm (byte_in (disks.blocks start)) birth e h (byte_in
          (disks.blocks disk)) (hands tours) (hands tours) (LeftSince disks disk (disks.time disk))
          (LeftSince disks disk (disks.time disk)) (claim_of h who)
          old.firm dated now refl refl (λ p. refl) refl (λ p is. is) (λ p is. is) (λ x is. refl) (λ p
          content left. left) (λ other x differs. refl);
    })

-- a page is denied by an actor without a claim
pub site_denied : {D : Type 0} (disks : Tells D) (birth : Birth) (h : List Entry) (start disk : D) (tours :
    List Tour) → SiteStands disks birth h start disk tours →
    (who epoch : ℕ) (range : Span) (code : Code) → stage_at tours who ≡ None → SiteStands disks birth
    (entry_of birth h who epoch (Fail range code) ∷ h) start disk tours
site_denied disks birth h start disk tours was who epoch range code free =
    let e : Entry = entry_of birth h who epoch (Fail range code) in
    let legal : Legal birth (e ∷ h) = (was.firm.legal, refl, refl) in
    let none : claim_of h who ≡ None = claim_by_stage h tours was.claims who ∙ ap claim_in_some free in
    site_more disks birth e h start disk disk tours tours was (record {
      firm = firm_fail birth h who epoch range code e.reply legal was.firm;
      claims = was.claims ∙ sym (claims_stay e h (ap without_fetch none ∙ sym none));
      shaped = was.shaped;
      count = refl;
      coherent = λ tells now. coherent_fail (byte_in (disks.blocks start)) birth h (byte_in (disks.blocks
          disk)) (hands tours) who epoch range code e.reply legal now;
      rose = le_refl (disks.faults disk);
      lasting = λ tells lasts old now dated. lasting_gone (byte_in (disks.blocks start)) birth e h (byte_in
          (disks.blocks disk)) (hands tours) (hands tours) (LeftSince disks disk (disks.time disk))
          (LeftSince disks disk (disks.time disk)) None
          old.firm dated now (ap without_fetch none) (λ p. refl) refl (λ p. refl) refl (λ p content left.
          left)
          (λ other x differs. refl);
    })

-- the page that was fetched is failed
pub site_failed : {D : Type 0} (disks : Tells D) (birth : Birth) (h : List Entry) (start disk : D) (tours :
    List Tour) → SiteStands disks birth h start disk tours →
    (who epoch : ℕ) (page : PageNo) (block : Option (List ℕ)) (code : Code) → stage_at tours who ≡ Some
    (Fetched page block) →
    SiteStands disks birth (entry_of birth h who epoch (Fail (one_page page.0) code) ∷ h) start disk
    (tours_without who tours)
site_failed disks birth h start disk tours was who epoch page block code at_stage =
    let e : Entry = entry_of birth h who epoch (Fail (one_page page.0) code) in
    let legal : Legal birth (e ∷ h) = (was.firm.legal, refl, refl) in
    let is : claim_of h who ≡ Some (Fetch page (is_some block)) = claim_by_stage h tours was.claims who ∙
    ap claim_in_some at_stage in
    let gone : next_claim e.call e.reply (claim_of h who) ≡ None = ap without_fetch is in
    site_more disks birth e h start disk disk tours (tours_without who tours) was (record {
      firm = firm_fail birth h who epoch (one_page page.0) code e.reply legal was.firm;
      claims = claims_without e h tours was.claims gone;
      shaped = shaped_without birth who tours was.shaped;
      count = refl;
      coherent = λ tells now. drop_hands (byte_in (disks.blocks start)) birth e h (byte_in (disks.blocks
          disk)) tours gone
          (coherent_fail (byte_in (disks.blocks start)) birth h (byte_in (disks.blocks disk)) (hands tours)
          who epoch (one_page page.0) code e.reply legal now);
      rose = le_refl (disks.faults disk);
      lasting = λ tells lasts old now dated. lasting_gone (byte_in (disks.blocks start)) birth e h (byte_in
          (disks.blocks disk)) (hands tours) (hands (tours_without who tours)) (LeftSince disks disk
          (disks.time disk)) (LeftSince disks disk (disks.time disk)) None
          old.firm dated now gone (λ p. refl) refl (λ p. refl) refl (λ p content left. left)
          (λ other x differs. ap (λ (s : Option Stage). byte_in_hand s x) (stage_without_other who other
          tours differs));
    })

-- the bytes that were read are supplied
pub site_supplied : {D : Type 0} (disks : Tells D) (birth : Birth) (h : List Entry) (start disk : D) (tours
    : List Tour) → SiteStands disks birth h start disk tours →
    (who epoch : ℕ) (page : PageNo) (block : List ℕ) (brought : Brought) → stage_at tours who ≡ Some
    (Fetched page (Some block)) →
    IsTrue (proper birth h who (Supply (one_page page.0) block brought)) →
    SiteStands disks birth (entry_of birth h who epoch (Supply (one_page page.0) block brought) ∷ h) start
    disk (tours_without who tours)
site_supplied disks birth h start disk tours was who epoch page block brought at_stage fine =
    let e : Entry = entry_of birth h who epoch (Supply (one_page page.0) block brought) in
    let legal : Legal birth (e ∷ h) = (was.firm.legal, fine, refl) in
    let is : claim_of h who ≡ Some (Fetch page true) = claim_by_stage h tours was.claims who ∙ ap
    claim_in_some at_stage in
    let gone : next_claim e.call e.reply (claim_of h who) ≡ None = ap without_fetch is in
    let long : length block ≡ 4096 = subst (ShapedAt birth) at_stage (shaped_at birth who tours was.shaped) in
    site_more disks birth e h start disk disk tours (tours_without who tours) was (record {
      firm = firm_supply birth h who epoch (one_page page.0) block brought e.reply legal was.firm;
      claims = claims_without e h tours was.claims gone;
      shaped = shaped_without birth who tours was.shaped;
      count = refl;
      coherent = λ tells now. drop_hands (byte_in (disks.blocks start)) birth e h (byte_in (disks.blocks
          disk)) tours gone
          (coherent_supply (byte_in (disks.blocks start)) birth h (byte_in (disks.blocks disk)) (hands
          tours) who epoch page block brought e.reply legal is
          (λ x within. slice_get-get_or block (x - 4096 * page.0) 0 (subst (λ (n : ℕ). x - 4096 * page.0 <
          n) (sym long) (within_block x page.0 within))
          ∙ ap (λ (s : Option Stage). Some (byte_in_hand s x)) (sym at_stage)) now);
      rose = le_refl (disks.faults disk);
      lasting = λ tells lasts old now dated. lasting_gone (byte_in (disks.blocks start)) birth e h (byte_in
          (disks.blocks disk)) (hands tours) (hands (tours_without who tours)) (LeftSince disks disk
          (disks.time disk)) (LeftSince disks disk (disks.time disk)) None
          old.firm dated now gone (λ p. refl) refl (λ p. refl) refl (λ p content left. left)
          (λ other x differs. ap (λ (s : Option Stage). byte_in_hand s x) (stage_without_other who other
          tours differs));
    })

-- a page that is asked for and that nobody claims is fetched
read_hand : (blocks : List (List ℕ)) (page : PageNo) (block : Option (List ℕ)) (x : ℕ) → is_some block ≡
    true → page_of x ≡ page.0 → ReadFrom blocks page.0 block →
    byte_in_hand (Some (Fetched page block)) x ≡ byte_in blocks x
read_hand blocks page None x good within read = absurd (false≢true good)
read_hand blocks page (Some block) x good within read = sym (byte_read blocks block x page.0 within read)

pub site_fetched : {D : Type 0} (disks : Tells D) (birth : Birth) (h : List Entry) (start disk later : D)
    (tours : List Tour) → SiteStands disks birth h start disk tours →
    (who epoch : ℕ) (page : PageNo) (block : Option (List ℕ)) → asked birth h ReadAsk page.0 ≡ true →
    claimed h page.0 ≡ false → IsWhole block →
    (disks.tells ≡ true → ReadFrom (disks.blocks disk) page.0 block) → disks.count later ≡ disks.count disk
    → (disks.tells ≡ true → disks.blocks later ≡ disks.blocks disk) →
    RoseFor (Tell (told.Fetched page (is_some block))) (disks.faults disk) (disks.faults later) →
    LeavesNoMore disks disk later →
    SiteStands disks birth (entry_of birth h who epoch (Tell (told.Fetched page (is_some block))) ∷ h)
    start later (tours_with who (Fetched page block) tours)
site_fetched disks birth h start disk later tours was who epoch page block wants free whole read count
    blocks rose left =
    let e : Entry = entry_of birth h who epoch (Tell (told.Fetched page (is_some block))) in
    let legal : Legal birth (e ∷ h) = (was.firm.legal, refl, refl) in
    let lacking = read_asked birth h was.firm.legal page.0 wants in
    site_more disks birth e h start disk later tours (tours_with who (Fetched page block) tours) was (record {
      firm = firm_fetched birth h who epoch page (is_some block) e.reply legal lacking.low (unclaimed h
          page.0 free) was.firm;
      claims = claims_with e h tours (Fetched page block) was.claims refl;
      shaped = shaped_with birth who (Fetched page block) tours whole was.shaped;
      count = count;
      coherent = λ tells now.
          subst (λ (b : List (List ℕ)). Coherent (byte_in (disks.blocks start)) birth (e ∷ h) (byte_in b)
          (hands (tours_with who (Fetched page block) tours))) (sym (blocks tells))
          (coherent_fetched (byte_in (disks.blocks start)) birth h (byte_in (disks.blocks disk)) (hands
          tours) (hands (tours_with who (Fetched page block) tours))
          who epoch page (is_some block) e.reply legal lacking.low lacking.gone (unclaimed h page.0 free)
          (λ good x within. ap (λ (s : Option Stage). byte_in_hand s x) (stage_with_same who (Fetched page
          block) tours)
          ∙ read_hand (disks.blocks disk) page block x good within (read tells))
          (λ other x differs. ap (λ (s : Option Stage). byte_in_hand s x) (stage_with_other who other
          (Fetched page block) tours differs)) now);
      rose = rose;
      lasting = λ tells lasts old now dated.
          subst (λ (b : List (List ℕ)). Lasting (byte_in (disks.blocks start)) birth (e ∷ h) (byte_in b)
          (hands (tours_with who (Fetched page block) tours)) (LeftSince disks later (disks.time
          later))) (sym (blocks tells))
          (lasting_gone (byte_in (disks.blocks start)) birth e h (byte_in (disks.blocks disk)) (hands
          tours) (hands (tours_with who (Fetched page block) tours)) (LeftSince disks disk (disks.time
          disk)) (LeftSince disks later (disks.time later)) (Some (Fetch page (is_some block)))
          old.firm dated
          (subst (λ (b : List (List ℕ)). Coherent (byte_in (disks.blocks start)) birth (e ∷ h) (byte_in b)
          (hands (tours_with who (Fetched page block) tours))) (blocks tells) now)
          refl (λ p. refl) refl (λ p. refl) refl (λ p content remains. (left lasts).1 (disks.time later) p
          content (left lasts).0 remains)
          (λ other x differs. ap (λ (s : Option Stage). byte_in_hand s x) (stage_with_other who other
          (Fetched page block) tours differs)));
    })

-- a writeback begins
pub site_begun : {D : Type 0} (disks : Tells D) (birth : Birth) (h : List Entry) (start disk : D) (tours :
    List Tour) → SiteStands disks birth h start disk tours →
    (who epoch : ℕ) (range : Span) (only : Bool) → 0 < range.count → stage_at tours who ≡ None →
    ((p : ℕ) → covers range p ≡ true → unclean birth h p ≡ true) → ((p : ℕ) → covers range p ≡ true →
    claimed h p ≡ false) →
    SiteStands disks birth (entry_of birth h who epoch (Begin range only) ∷ h) start disk (tours_with who
    (Begun range (given_number (reply birth h who epoch (Begin range only)))) tours)
site_begun disks birth h start disk tours was who epoch range only some none all free =
    let e : Entry = entry_of birth h who epoch (Begin range only) in
    let stage : Stage = Begun range (given_number e.reply) in
    let legal : Legal birth (e ∷ h) = (was.firm.legal, refl, refl) in
    let due_is : e.reply ≡ _ = begin_accepts birth h who epoch range only (unclean_within birth h
    was.firm.legal range some all) in
    let good : accepts e.reply ≡ true = ap accepts due_is ∙ begin_good birth h in
    site_more disks birth e h start disk disk tours (tours_with who stage tours) was (record {
      firm = firm_begin birth h who epoch range only e.reply legal all (λ p over. unclaimed h p (free p
          over)) was.firm;
      claims = claims_with e h tours stage was.claims (ap (λ (b : Bool). cond b (Some (Back range
          (given_number e.reply) false 0)) (claim_of h who)) good);
      shaped = shaped_with birth who stage tours (ap (λ r. same_flag birth.numbered (is_some (given_number
          r))) due_is ∙ begin_numbers birth h) was.shaped;
      count = refl;
      coherent = λ tells now. keep_hands (byte_in (disks.blocks start)) birth (e ∷ h) (byte_in
          (disks.blocks disk)) who stage tours
          (λ x. ap (λ (s : Option Stage). byte_in_hand s x) (sym none))
          (coherent_begin (byte_in (disks.blocks start)) birth h (byte_in (disks.blocks disk)) (hands
          tours) who epoch range only e.reply legal good all (λ p over. unclaimed h p (free p over))
          now);
      rose = le_refl (disks.faults disk);
      lasting = λ tells lasts old now dated. lasting_begun (byte_in (disks.blocks start)) birth h (byte_in
          (disks.blocks disk)) (hands tours) (hands (tours_with who stage tours)) (LeftSince disks disk
          (disks.time disk))
          who epoch range only e.reply old.firm dated now good (λ other x differs. ap (λ (s : Option
          Stage). byte_in_hand s x) (stage_with_other who other stage tours differs));
    })

-- its pages are copied
pub site_copied : {D : Type 0} (disks : Tells D) (birth : Birth) (h : List Entry) (start disk : D) (tours :
    List Tour) → SiteStands disks birth h start disk tours →
    (who epoch : ℕ) (range : Span) (number : Option ℕ) (bytes : List ℕ) → stage_at tours who ≡ Some (Begun
    range number) →
    bytes ≡ bytes_from birth h (4096 * range.first) (4096 * range.count) → length bytes ≡ 4096 * range.count →
    SiteStands disks birth (entry_of birth h who epoch (Tell (told.Copied range)) ∷ h) start disk
    (tours_with who (Copied range number bytes 0) tours)
site_copied disks birth h start disk tours was who epoch range number bytes at_stage are long =
    let e : Entry = entry_of birth h who epoch (Tell (told.Copied range)) in
    let stage : Stage = Copied range number bytes 0 in
    let legal : Legal birth (e ∷ h) = (was.firm.legal, refl, refl) in
    let is : claim_of h who ≡ Some (Back range number false 0) = claim_by_stage h tours was.claims who ∙ ap
    claim_in_some at_stage in
    let numbered : same_flag birth.numbered (is_some number) ≡ true = subst (ShapedAt birth) at_stage
    (shaped_at birth who tours was.shaped) in
    site_more disks birth e h start disk disk tours (tours_with who stage tours) was (record {
      firm = firm_copied birth h who epoch range e.reply legal was.firm;
      claims = claims_with e h tours stage was.claims (ap with_copy is);
      shaped = shaped_with birth who stage tours (numbered, long, omega arith) was.shaped;
      count = refl;
      coherent = λ tells now. coherent_copied (byte_in (disks.blocks start)) birth h (byte_in (disks.blocks
          disk)) (hands tours) (hands (tours_with who stage tours)) who epoch range number e.reply legal is
          (λ x over. ap (λ (s : Option Stage). byte_in_hand s x) (stage_with_same who stage tours) ∙ (ap (λ
          (b : List ℕ). get_or b (x - 4096 * range.first) 0) are ∙ copied_byte birth h range x over))
          (λ other x differs. ap (λ (s : Option Stage). byte_in_hand s x) (stage_with_other who other stage
          tours differs)) now;
      rose = le_refl (disks.faults disk);
      lasting = λ tells lasts old now dated. lasting_copied (byte_in (disks.blocks start)) birth h (byte_in
          (disks.blocks disk)) (hands tours) (hands (tours_with who stage tours)) (LeftSince disks disk
          (disks.time disk))
          who epoch range number e.reply old dated now is
          (λ x over. ap (λ (s : Option Stage). byte_in_hand s x) (stage_with_same who stage tours) ∙ (ap (λ
          (b : List ℕ). get_or b (x - 4096 * range.first) 0) are ∙ copied_byte birth h range x over))
          (λ other x differs. ap (λ (s : Option Stage). byte_in_hand s x) (stage_with_other who other stage
          tours differs));
    })

-- what a write of the next page leaves of all other blocks
pub away : (blocks : List (List ℕ)) (p x : ℕ) (block : List ℕ) → (page_of x == p) ≡ false → byte_in
    (slice_set blocks p block) x ≡ byte_in blocks x
away blocks p x block differs = ap (λ (b : List ℕ). get_or b (x % 4096) 0) (get_or-set_other blocks p
    (page_of x) block []
    (λ same. false≢true (sym differs ∙ subst (λ (q : ℕ). (page_of x == q) ≡ true) same (nat_eq-same
    (page_of x)))))

elsewhere : (old new : List (List ℕ)) (p : ℕ) (block : List ℕ) → IsOldOrWritten old new p block →
    StoresElsewhere (byte_in old) (byte_in new) p
elsewhere old new p block (inl same) x differs = ap (λ (b : List (List ℕ)). byte_in b x) same
elsewhere old new p block (inr wrote) x differs = ap (λ (b : List (List ℕ)). byte_in b x) wrote ∙ away old
    p x block differs

-- the page of a writeback has a block
block_there : {D : Type 0} (disks : Tells D) (birth : Birth) (h : List Entry) (start disk : D) (tours :
    List Tour) → SiteStands disks birth h start disk tours →
    (who : ℕ) (range : Span) (number : Option ℕ) (copied : Bool) (stored : ℕ) → claim_of h who ≡ Some (Back
    range number copied stored) → (p : ℕ) → covers range p ≡ true → p < disks.count disk
block_there disks birth h start disk tours was who range number copied stored is p over =
    let low : p < size birth h = was.firm.within who p (ap (λ (c : Option Claim). holds c p) is ∙ over) in
    le_trans low (le_trans (size_most birth h was.firm.legal) was.room)

-- the block that is written has the bytes in hand
stored_hand : {D : Type 0} (disks : Tells D) (disk later : D) (tours : List Tour) (who : ℕ) (range : Span)
    (number : Option ℕ) (bytes : List ℕ) (stored : ℕ) →
    stage_at tours who ≡ Some (Copied range number bytes stored) → range.first + stored < length
    (disks.blocks disk) →
    disks.blocks later ≡ slice_set (disks.blocks disk) (range.first + stored) (part_of bytes stored) →
    StoresHand (byte_in (disks.blocks later)) (hands tours who) (range.first + stored)
stored_hand disks disk later tours who range number bytes stored at_stage inside wrote x within =
    ap (λ (b : List (List ℕ)). byte_in b x) wrote
    ∙ (byte_of (slice_set (disks.blocks disk) (range.first + stored) (part_of bytes stored)) (part_of bytes
    stored) x (range.first + stored) within
    (get_or-set_same (disks.blocks disk) (range.first + stored) (part_of bytes stored) [] inside)
    ∙ (byte_part bytes range.first stored x within ∙ ap (λ (s : Option Stage). byte_in_hand s x) (sym
    at_stage)))

copy_left : {D : Type 0} (disks : Tells D) (disk later : D) (tours : List Tour) (who : ℕ) (range : Span)
    (number : Option ℕ) (bytes : List ℕ) (stored : ℕ) →
    stage_at tours who ≡ Some (Copied range number bytes stored) → (p : ℕ) (content : ℕ → ℕ) →
    LeftSince disks disk (disks.time disk) p content ⊎ ((p ≡ range.first + stored) × ((x : ℕ) → page_of x ≡
    p → content x ≡ get_or (part_of bytes stored) (x - 4096 * p) 0)) →
    LeftSince disks disk (disks.time disk) p content ⊎ ((p ≡ range.first + stored) × IsBlock (hands tours
    who) p content)
copy_left disks disk later tours who range number bytes stored at_stage p content (inl old) = inl old
copy_left disks disk later tours who range number bytes stored at_stage p content (inr new) = inr (
  new.0,
  λ
      x within.
      new.1 x within ∙ ap (λ (q : ℕ). get_or (part_of bytes stored) (x - 4096 * q) 0) new.0
      ∙ byte_part bytes range.first stored x (within ∙ new.0) ∙ ap (λ (s : Option Stage). byte_in_hand s x)
      (sym at_stage),
)

-- and is what may be left besides
adds_copy : {D : Type 0} (disks : Tells D) (disk later : D) (tours : List Tour) (who : ℕ) (range : Span)
    (number : Option ℕ) (bytes : List ℕ) (stored : ℕ) →
    stage_at tours who ≡ Some (Copied range number bytes stored) → disks.lasts ≡ true → LeavesWritten disks
    disk later (range.first + stored) (part_of bytes stored) →
    AddsCopy (LeftSince disks disk (disks.time disk)) (LeftSince disks later (disks.time later))
    (range.first + stored) (hands tours who)
adds_copy disks disk later tours who range number bytes stored at_stage lasts left p content remains =
    copy_left disks disk later tours who range number bytes stored at_stage p content ((left lasts).1
    (disks.time later) p content (left lasts).0 remains)

pub adds_copy_since : {D : Type 0} (disks : Tells D) (disk later : D) (tours : List Tour) (who : ℕ) (range
    : Span) (number : Option ℕ) (bytes : List ℕ) (stored : ℕ) →
    stage_at tours who ≡ Some (Copied range number bytes stored) → disks.lasts ≡ true → LeavesWritten disks
    disk later (range.first + stored) (part_of bytes stored) →
    AddsCopy (LeftSince disks disk (disks.time disk)) (LeftSince disks later (disks.time disk))
    (range.first + stored) (hands tours who)
adds_copy_since disks disk later tours who range number bytes stored at_stage lasts left p content remains =
    copy_left disks disk later tours who range number bytes stored at_stage p content ((left lasts).1
    (disks.time disk) p content (le_refl _) remains)

pub site_stored : {D : Type 0} (disks : Tells D) (birth : Birth) (h : List Entry) (start disk later : D)
    (tours : List Tour) → SiteStands disks birth h start disk tours →
    (disks.tells ≡ true → length (disks.blocks disk) ≡ disks.count disk) →
    (who epoch : ℕ) (range : Span) (number : Option ℕ) (bytes : List ℕ) (stored : ℕ) → stage_at tours who ≡
    Some (Copied range number bytes stored) → stored < range.count →
    disks.count later ≡ disks.count disk → (disks.tells ≡ true → disks.blocks later ≡ slice_set
    (disks.blocks disk) (range.first + stored) (part_of bytes stored)) →
    disks.faults disk ≤ disks.faults later → LeavesWritten disks disk later (range.first + stored) (part_of
    bytes stored) →
    SiteStands disks birth (entry_of birth h who epoch (Tell (told.Stored (page_number (range.first +
    stored)) true)) ∷ h) start later (tours_with who (Copied range number bytes (suc stored)) tours)
site_stored disks birth h start disk later tours was whole who epoch range number bytes stored at_stage low
    count blocks rose left =
    let p : ℕ = range.first + stored in
    let e : Entry = entry_of birth h who epoch (Tell (told.Stored (page_number p) true)) in
    let stage : Stage = Copied range number bytes (suc stored) in
    let legal : Legal birth (e ∷ h) = (was.firm.legal, refl, refl) in
    let is : claim_of h who ≡ Some (Back range number true stored) = claim_by_stage h tours was.claims who
    ∙ ap claim_in_some at_stage in
    let shape : Shaped birth (Copied range number bytes stored) = subst (ShapedAt birth) at_stage
    (shaped_at birth who tours was.shaped) in
    let over : covers range p ≡ true = next_covered range stored low in
    let inside : p < disks.count disk = block_there disks birth h start disk tours was who range number
    true stored is p over in
    site_more disks birth e h start disk later tours (tours_with who stage tours) was (record {
      firm = firm_stored birth h who epoch (page_number p) true e.reply legal was.firm;
      claims = claims_with e h tours stage was.claims (ap with_store is);
      shaped = shaped_with birth who stage tours (shape.0, shape.1, omega arith) was.shaped;
      count = count;
      coherent = λ tells now. keep_hands (byte_in (disks.blocks start)) birth (e ∷ h) (byte_in
          (disks.blocks later)) who stage tours
          (λ x. ap (λ (s : Option Stage). byte_in_hand s x) (sym at_stage))
          (coherent_stored (byte_in (disks.blocks start)) birth h (byte_in (disks.blocks disk)) (byte_in
          (disks.blocks later)) (hands tours) who epoch (page_number p) range number stored e.reply
          legal is refl over
          (λ x within. ap (λ (b : List (List ℕ)). byte_in b x) (blocks tells)
          ∙ (byte_of (slice_set (disks.blocks disk) p (part_of bytes stored)) (part_of bytes stored) x p
          within
          (get_or-set_same (disks.blocks disk) p (part_of bytes stored) [] (subst (λ (n : ℕ). p < n) (sym
          (whole tells)) inside))
          ∙ (byte_part bytes range.first stored x within ∙ ap (λ (s : Option Stage). byte_in_hand s x) (sym
          at_stage))))
          (elsewhere (disks.blocks disk) (disks.blocks later) p (part_of bytes stored) (inr (blocks
          tells))) now);
      rose = rose;
      lasting = λ tells lasts old now dated. lasting_stored (byte_in (disks.blocks start)) birth h (byte_in
          (disks.blocks disk)) (byte_in (disks.blocks later)) (hands tours) (hands (tours_with who stage
          tours)) (LeftSince disks disk (disks.time disk)) (LeftSince disks later (disks.time later))
          who epoch (page_number p) range number stored e.reply old.firm dated now is over
          (stored_hand disks disk later tours who range number bytes stored at_stage (subst (λ (n : ℕ). p <
          n) (sym (whole tells)) inside) (blocks tells))
          (elsewhere (disks.blocks disk) (disks.blocks later) p (part_of bytes stored) (inr (blocks tells)))
          (adds_copy disks disk later tours who range number bytes stored at_stage lasts left)
          (λ x. ap (λ (s : Option Stage). byte_in_hand s x) (stage_with_same who stage tours) ∙ ap (λ (s :
          Option Stage). byte_in_hand s x) (sym at_stage))
          (λ other x differs. ap (λ (s : Option Stage). byte_in_hand s x) (stage_with_other who other stage
          tours differs));
    })

-- the block of a store that failed has the bytes in hand, or is as it was
either_hand : {D : Type 0} (disks : Tells D) (disk later : D) (tours : List Tour) (who : ℕ) (range : Span)
    (number : Option ℕ) (bytes : List ℕ) (stored : ℕ) →
    stage_at tours who ≡ Some (Copied range number bytes stored) → range.first + stored < length
    (disks.blocks disk) →
    IsOldOrWritten (disks.blocks disk) (disks.blocks later) (range.first + stored) (part_of bytes stored) →
    StoresHand (byte_in (disks.blocks later)) (hands tours who) (range.first + stored) ⊎ StoresHand
    (byte_in (disks.blocks later)) (byte_in (disks.blocks disk)) (range.first + stored)
either_hand disks disk later tours who range number bytes stored at_stage inside (inl same) = inr (λ x
    within. ap (λ (b : List (List ℕ)). byte_in b x) same)
either_hand disks disk later tours who range number bytes stored at_stage inside (inr wrote) = inl
    (stored_hand disks disk later tours who range number bytes stored at_stage inside wrote)

-- its store fails: whatever stands in its block then
pub site_store_failed : {D : Type 0} (disks : Tells D) (birth : Birth) (h : List Entry) (start disk later :
    D) (tours : List Tour) → SiteStands disks birth h start disk tours →
    (disks.tells ≡ true → length (disks.blocks disk) ≡ disks.count disk) →
    (who epoch : ℕ) (range : Span) (number : Option ℕ) (bytes : List ℕ) (stored : ℕ) → stage_at tours who ≡
    Some (Copied range number bytes stored) → stored < range.count →
    disks.count later ≡ disks.count disk → (disks.tells ≡ true → IsOldOrWritten (disks.blocks disk)
    (disks.blocks later) (range.first + stored) (part_of bytes stored)) →
    RoseFor (Tell (told.Stored (page_number (range.first + stored)) false)) (disks.faults disk)
    (disks.faults later) → LeavesWritten disks disk later (range.first + stored) (part_of bytes stored)
    →
    SiteStands disks birth (entry_of birth h who epoch (Tell (told.Stored (page_number (range.first +
    stored)) false)) ∷ h) start later (tours_without who tours)
site_store_failed disks birth h start disk later tours was whole who epoch range number bytes stored
    at_stage low count blocks rose left =
    let p : ℕ = range.first + stored in
    let e : Entry = entry_of birth h who epoch (Tell (told.Stored (page_number p) false)) in
    let legal : Legal birth (e ∷ h) = (was.firm.legal, refl, refl) in
    let is : claim_of h who ≡ Some (Back range number true stored) = claim_by_stage h tours was.claims who
    ∙ ap claim_in_some at_stage in
    let over : covers range p ≡ true = next_covered range stored low in
    let inside : p < disks.count disk = block_there disks birth h start disk tours was who range number
    true stored is p over in
    site_more disks birth e h start disk later tours (tours_without who tours) was (record {
      firm = firm_stored birth h who epoch (page_number p) false e.reply legal was.firm;
      claims = claims_without e h tours was.claims refl;
      shaped = shaped_without birth who tours was.shaped;
      count = count;
      coherent = λ tells now. drop_hands (byte_in (disks.blocks start)) birth e h (byte_in (disks.blocks
          later)) tours refl
          (coherent_store_failed (byte_in (disks.blocks start)) birth h (byte_in (disks.blocks disk))
          (byte_in (disks.blocks later)) (hands tours) who epoch (page_number p) range number true
          stored e.reply legal is
          (next_covered range stored low) (elsewhere (disks.blocks disk) (disks.blocks later) p (part_of
          bytes stored) (blocks tells)) now);
      rose = rose;
      lasting = λ tells lasts old now dated. lasting_store_failed (byte_in (disks.blocks start)) birth h
          (byte_in (disks.blocks disk)) (byte_in (disks.blocks later)) (hands tours) (hands (tours_without
          who tours)) (LeftSince disks disk (disks.time disk)) (LeftSince disks later (disks.time later))
          who epoch (page_number p) range number stored e.reply old.firm dated now is over
          (either_hand disks disk later tours who range number bytes stored at_stage (subst (λ (n : ℕ). p <
          n) (sym (whole tells)) inside) (blocks tells))
          (elsewhere (disks.blocks disk) (disks.blocks later) p (part_of bytes stored) (blocks tells))
          (adds_copy disks disk later tours who range number bytes stored at_stage lasts left)
          (λ other x differs. ap (λ (s : Option Stage). byte_in_hand s x) (stage_without_other who other
          tours differs));
    })

-- the writeback ends
pub site_ended : {D : Type 0} (disks : Tells D) (birth : Birth) (h : List Entry) (start disk : D) (tours :
    List Tour) → SiteStands disks birth h start disk tours →
    (who epoch : ℕ) (range : Span) (number : Option ℕ) (bytes : List ℕ) → stage_at tours who ≡ Some (Copied
    range number bytes range.count) →
    SiteStands disks birth (entry_of birth h who epoch (End range number) ∷ h) start disk (tours_without
    who tours)
site_ended disks birth h start disk tours was who epoch range number bytes at_stage =
    let e : Entry = entry_of birth h who epoch (End range number) in
    let shape : Shaped birth (Copied range number bytes range.count) = subst (ShapedAt birth) at_stage
    (shaped_at birth who tours was.shaped) in
    let legal : Legal birth (e ∷ h) = (was.firm.legal, shape.0, refl) in
    let is : claim_of h who ≡ Some (Back range number true range.count) = claim_by_stage h tours was.claims
    who ∙ ap claim_in_some at_stage in
    site_more disks birth e h start disk disk tours (tours_without who tours) was (record {
      firm = firm_end birth h who epoch range number number true range.count e.reply legal is was.firm;
      claims = claims_without e h tours was.claims refl;
      shaped = shaped_without birth who tours was.shaped;
      count = refl;
      coherent = λ tells now. drop_hands (byte_in (disks.blocks start)) birth e h (byte_in (disks.blocks
          disk)) tours refl
          (coherent_end (byte_in (disks.blocks start)) birth h (byte_in (disks.blocks disk)) (hands tours)
          who epoch range number number e.reply legal is now);
      rose = le_refl (disks.faults disk);
      lasting = λ tells lasts old now dated. lasting_gone (byte_in (disks.blocks start)) birth e h (byte_in
          (disks.blocks disk)) (hands tours) (hands (tours_without who tours)) (LeftSince disks disk
          (disks.time disk)) (LeftSince disks disk (disks.time disk)) None
          old.firm dated now refl (λ p. refl) refl (λ p. refl) refl (λ p content left. left)
          (λ other x differs. ap (λ (s : Option Stage). byte_in_hand s x) (stage_without_other who other
          tours differs));
    })

-- a disk of which nothing changed but that its faults rose
pub site_same : {D : Type 0} (disks : Tells D) (birth : Birth) (h : List Entry) (start disk later : D)
    (tours : List Tour) → SiteStands disks birth h start disk tours →
    disks.count later ≡ disks.count disk → (disks.tells ≡ true → disks.blocks later ≡ disks.blocks disk) →
    disks.faults disk ≤ disks.faults later → LeavesNoMore disks disk later →
    SiteStands disks birth h start later tours
site_same disks birth h start disk later tours was count blocks rose left = record {
  firm = was.firm;
  claims = was.claims;
  shaped = was.shaped;
  room = subst (λ (n : ℕ). most_pages birth ≤ n) (sym count) was.room;
  coherent = λ tells. subst (λ (b : List (List ℕ)). Coherent (byte_in (disks.blocks start)) birth h
      (byte_in b) (hands tours)) (sym (blocks tells)) (was.coherent tells);
  reads = was.reads;
  rose = le_trans was.rose rose;
  told = was.told;
  lasting = λ lasts first. let dated = was.lasting lasts first in
      subst (λ (b : List (List ℕ)). Lasting (byte_in (disks.blocks start)) birth h (byte_in b) (hands
      tours) (LeftSince disks later (disks.time later))) (sym (blocks (was.told lasts))) (record {
        now = dated.now;
        left = λ p content remains. dated.left p content ((left lasts).1 (disks.time later) p content (left
            lasts).0 remains);
        copied = dated.copied;
        above = dated.above;
      });
}

-- a disk of which at most the block of the page that is to be stored next changed
pub site_unstored : {D : Type 0} (disks : Tells D) (birth : Birth) (h : List Entry) (start disk later : D)
    (tours : List Tour) → SiteStands disks birth h start disk tours →
    (disks.tells ≡ true → length (disks.blocks disk) ≡ disks.count disk) →
    (who : ℕ) (range : Span) (number : Option ℕ) (bytes : List ℕ) (stored : ℕ) → stage_at tours who ≡ Some
    (Copied range number bytes stored) → stored < range.count →
    disks.count later ≡ disks.count disk → (disks.tells ≡ true → IsOldOrWritten (disks.blocks disk)
    (disks.blocks later) (range.first + stored) (part_of bytes stored)) →
    disks.faults disk ≤ disks.faults later → LeavesWritten disks disk later (range.first + stored) (part_of
    bytes stored) → SiteStands disks birth h start later tours
site_unstored disks birth h start disk later tours was whole who range number bytes stored at_stage low
    count blocks rose left =
    let p : ℕ = range.first + stored in
    let is : claim_of h who ≡ Some (Back range number true stored) = claim_by_stage h tours was.claims who
    ∙ ap claim_in_some at_stage in
    let over : covers range p ≡ true = next_covered range stored low in
    let inside : p < disks.count disk = block_there disks birth h start disk tours was who range number
    true stored is p over in
    let mine : in_back (claim_of h who) p ≡ true = ap (λ (c : Option Claim). in_back c p) is ∙ next_covered
    range stored low in record {
      firm = was.firm;
      claims = was.claims;
      shaped = was.shaped;
      room = subst (λ (n : ℕ). most_pages birth ≤ n) (sym count) was.room;
      coherent = λ tells. disk_changes (byte_in (disks.blocks start)) birth h (byte_in (disks.blocks disk))
          (byte_in (disks.blocks later)) (hands tours) who range number stored is mine
          (elsewhere (disks.blocks disk) (disks.blocks later) p (part_of bytes stored) (blocks tells))
          (was.coherent tells);
      reads = was.reads;
      rose = le_trans was.rose rose;
      told = was.told;
      lasting = λ lasts first. let tells : disks.tells ≡ true = was.told lasts in
          lasting_unstored (byte_in (disks.blocks start)) birth h (byte_in (disks.blocks disk)) (byte_in
          (disks.blocks later)) (hands tours) (LeftSince disks disk (disks.time disk)) (LeftSince disks
          later (disks.time later)) (was.lasting lasts first)
          who p (ap (λ (c : Option Claim). has_copied c p) is ∙ over)
          (either_hand disks disk later tours who range number bytes stored at_stage (subst (λ (n : ℕ). p <
          n) (sym (whole tells)) inside) (blocks tells))
          (elsewhere (disks.blocks disk) (disks.blocks later) p (part_of bytes stored) (blocks tells))
          (adds_copy disks disk later tours who range number bytes stored at_stage lasts left);
    }
  where
    unstored : (range : Span) (stored q : ℕ) → (q == (range.first + stored)) ≡ true → (covers range q &&
        nat_lt q (range.first + stored)) ≡ true → ⊥
    unstored range stored q same has = grind (arith, nat_tests)

    disk_changes : (image : ℕ → ℕ) (birth : Birth) (h : List Entry) (old new : ℕ → ℕ) (hands : ℕ → ℕ → ℕ)
        (who : ℕ) (range : Span) (number : Option ℕ) (stored : ℕ) →
        claim_of h who ≡ Some (Back range number true stored) → in_back (claim_of h who) (range.first +
        stored) ≡ true → StoresElsewhere old new (range.first + stored) →
        Coherent image birth h old hands → Coherent image birth h new hands
    disk_changes image birth h old new hands who range number stored is mine same was =
        let p : ℕ = range.first + stored in record {
          firm = was.firm;
          bytes = was.bytes;
          blocks = λ x inside rests. same x (false_by (page_of x == p) (λ here. apart_true (settled birth h
              (page_of x))
              (subst (λ (q : ℕ). settled birth h q ≡ false) (sym (nat_eq_true (page_of x) p here))
              (unclean_parts (there birth h p) (settled birth h p) (was.firm.back who p mine)).1)
              rests))
              ∙ was.blocks x inside rests;
          fetch = was.fetch;
          copies = was.copies;
          stored = λ other x has begun_now. same x (false_by (page_of x == p) (λ here. by_who ⊥ who other
              (λ me. unstored range stored (page_of x) here (ap (λ (c : Option Claim). has_stored c
              (page_of x)) (sym (subst (λ (n : ℕ). claim_of h n ≡ Some (Back range number true stored))
              (nat_eq_true who other me) is)) ∙ has))
              (λ differs. apart_true _ (was.firm.apart who other p differs (back_holds (claim_of h who) p
              mine))
              (subst (λ (q : ℕ). holds (claim_of h other) q ≡ true) (nat_eq_true (page_of x) p here)
              (back_holds (claim_of h other) (page_of x) (stored_back (claim_of h other) (page_of x)
              has))))))
              ∙ was.stored other x has begun_now;
        }

-- an object without entries
pub site_first : {D : Type 0} (disks : Tells D) (birth : Birth) (disk : D) → (disks.lasts ≡ true →
    disks.tells ≡ true) → most_pages birth ≤ disks.count disk → SiteStands disks birth [] disk disk []
site_first disks birth disk told room =
    let first = coherent_first (byte_in (disks.blocks disk)) birth (hands []) in record {
      firm = first.firm;
      claims = refl;
      shaped = tt;
      room = room;
      coherent = λ tells. first;
      reads = λ tells. tt;
      rose = rose_first (disks.faults disk);
      told = told;
      lasting = λ lasts only. lasting_first (byte_in (disks.blocks disk)) birth (hands []) (LeftSince disks
          disk (disks.time disk))
          (λ p content left x within. left.2 x within ∙ ap (λ (b : List (List ℕ)). byte_in b x) (only
          left.0 left.1));
    }

-- bytes that are answered are the newest
pub answers_newest : {D : Type 0} (disks : Tells D) (birth : Birth) (h : List Entry) (start disk : D)
    (tours : List Tour) → SiteStands disks birth h start disk tours →
    (who epoch : ℕ) (call : Call) → IsTrue (proper birth h who call) → AnswersNewest disks birth h start
    call (reply birth h who epoch call)
answers_newest disks birth h start disk tours was who epoch call fine tells =
    reads_newest (byte_in (disks.blocks start)) birth (entry_of birth h who epoch call) h (byte_in
    (disks.blocks disk)) (hands tours) (was.firm.legal, fine, refl) (was.coherent tells)
