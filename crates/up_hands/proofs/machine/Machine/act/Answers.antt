use Rattle.std.proofs.Common.{◌≡◌, ◌+◌, length-set, map, min, slice_get, slice_set, IfOk, ap, sym, subst, ◌∙◌}
use Rattle.up_clock.specs.Known.{Known, last_age}
use Rattle.up_pages.specs.Frames.{count_kind}
use Rattle.up_core.specs.Requests.{kind_taken}
use Rattle.up_model.specs.Reply as replies
use Rattle.up_object.specs.Parts.{BankPair, bank_of}
use Rattle.up_object.specs.Change.{AllAre}
use Rattle.up_object.specs.OneCall.{frames_of}
use Rattle.up_object.specs.Whole.{life_of, after}
use Rattle.up_hands.specs.Machined.{Machined, owned, AllOf, Acted, Stays}
use Rattle.up_banks.specs.Pools.{banks_of, stored}
use Rattle.up_hands.proofs.OneObjectCalled.{found, life_at, acted, acted_frames, of_both}
use Rattle.up_hands.proofs.EntriesAdded.{banks_at, banks_set, legal_set, set_births}
use Rattle.up_hands.proofs.machine.Machine.act.Goals as goal

pub act_on-requires-clause-banks : goal.act_on-requires-clause-banks
act_on-requires-clause-banks c =
    let objects = c.self.inside.objects.items in
    let whole = c.index_mut.result.now in
    let is = found objects c.args.self.now.lives c.args.object whole (ap (λ (v : Machined). v.lives) c.self.view_is) c.requires.object c.index_mut.ensures.value in
    banks_at (banks_of c.self.inside.pool) objects c.args.object whole c.self.invariant.banks is

pub act_on-requires-clause-own : goal.act_on-requires-clause-own
act_on-requires-clause-own c =
    let objects = c.self.inside.objects.items in
    let whole = c.index_mut.result.now in
    let is = found objects c.args.self.now.lives c.args.object whole (ap (λ (v : Machined). v.lives) c.self.view_is) c.requires.object c.index_mut.ensures.value in
    let banks = banks_at (banks_of c.self.inside.pool) objects c.args.object whole c.self.invariant.banks is ∙ ap (λ (v : Machined). banks_of v.pool) c.self.view_is in
    subst (λ (pair : BankPair). AllAre (bank_of pair (kind_taken c.args.call)) (frames_of c.args.frames)) (sym banks) c.requires.own

pub act_on-requires-clause-proper : goal.act_on-requires-clause-proper
act_on-requires-clause-proper c =
    let objects = c.self.inside.objects.items in
    let whole = c.index_mut.result.now in
    let is = found objects c.args.self.now.lives c.args.object whole (ap (λ (v : Machined). v.lives) c.self.view_is) c.requires.object c.index_mut.ensures.value in
    c.requires.proper (life_of whole) (ap (λ (v : Machined). slice_get v.lives c.args.object) (sym c.self.view_is) ∙ life_at objects c.args.object whole is)

pub invariant_of-self : goal.invariant_of-self
invariant_of-self c =
    let objects = c.self.inside.objects.items in
    let whole = c.index_mut.result.now in
    let n = c.args.object in
    let new = c.act_on.new.object in
    let is = found objects c.args.self.now.lives n whole (ap (λ (v : Machined). v.lives) c.self.view_is) c.requires.object c.index_mut.ensures.value in
    let pair = banks_of c.act_on.new.pool in
    let banks : new.banks ≡ pair = c.act_on.ensures.kept.1 ∙ banks_at (banks_of c.self.inside.pool) objects n whole c.self.invariant.banks is ∙ sym c.act_on.ensures.banks in
    record {
      banks = banks_set pair objects n new (subst (λ (b : BankPair). AllOf b objects) (sym c.act_on.ensures.banks) c.self.invariant.banks) banks;
      legal = legal_set objects n new c.self.invariant.legal c.act_on.ensures.legal;
      few = rw (length-set objects n new) c.self.invariant.few;
      clock = ap (λ (k : Known). k.clock) c.now-epoch.ensures.seat ∙ c.self.invariant.clock;
      sole = ap (λ (k : Known). k.sole) c.now-epoch.ensures.seat ∙ c.self.invariant.sole;
      ordinary = ap (λ (b : BankPair). b.ordinary.kind) c.act_on.ensures.banks ∙ c.self.invariant.ordinary;
      loaned = ap (λ (b : BankPair). b.loaned.kind) c.act_on.ensures.banks ∙ c.self.invariant.loaned;
    }

pub returns-clause-acted : goal.returns-clause-acted
returns-clause-acted c =
    let objects = c.self.inside.objects.items in
    let whole = c.index_mut.result.now in
    let n = c.args.object in
    let new = c.act_on.new.object in
    let is = found objects c.args.self.now.lives n whole (ap (λ (v : Machined). v.lives) c.self.view_is) c.requires.object c.index_mut.ensures.value in
    let ages = min c.self.inside.seat.ages last_age in
    let later = min c.now-epoch.new.seat.ages last_age in
    let epoch = c.now-epoch.result in
    let now : Machined = record { lives = map life_of (slice_set objects n new); pool = c.act_on.new.pool; ages = later } in
    subst (λ (v : Machined). IfOk c.act_on.result (λ reply. Acted v now n c.args.who c.args.call reply)) c.self.view_is
    (of_both (λ reply. reply ≡ replies.reply whole.birth whole.journal c.args.who epoch c.args.call)
    (λ reply. Acted (record { lives = map life_of objects; pool = c.self.inside.pool; ages = ages }) now n c.args.who c.args.call reply)
    (new ≡ after whole c.args.who epoch c.args.call) c.act_on.result c.act_on.ensures.reply c.act_on.ensures.ok
    (λ reply due stands. acted objects c.self.inside.pool c.act_on.new.pool ages later epoch n c.args.who c.args.call whole new reply is (c.now-epoch.ensures.alone c.self.invariant.sole) stands due))

pub returns-clause-stays : goal.returns-clause-stays
returns-clause-stays c =
    let objects = c.self.inside.objects.items in
    let whole = c.index_mut.result.now in
    let n = c.args.object in
    let new = c.act_on.new.object in
    let is = found objects c.args.self.now.lives n whole (ap (λ (v : Machined). v.lives) c.self.view_is) c.requires.object c.index_mut.ensures.value in
    let now : Machined = record { lives = map life_of (slice_set objects n new); pool = c.act_on.new.pool; ages = min c.now-epoch.new.seat.ages last_age } in
    subst (λ (v : Machined). Stays v now) c.self.view_is (record {
      ages = ap (λ (k : Known). min k.ages last_age) c.now-epoch.ensures.seat;
      banks = c.act_on.ensures.banks;
      births = set_births objects n whole new is c.act_on.ensures.kept.0;
    })

pub returns-clause-frames : goal.returns-clause-frames
returns-clause-frames c = λ kind.
    let objects = c.self.inside.objects.items in
    let whole = c.index_mut.result.now in
    let n = c.args.object in
    let new = c.act_on.new.object in
    let is = found objects c.args.self.now.lives n whole (ap (λ (v : Machined). v.lives) c.self.view_is) c.requires.object c.index_mut.ensures.value in
    let now : Machined = record { lives = map life_of (slice_set objects n new); pool = c.act_on.new.pool; ages = min c.now-epoch.new.seat.ages last_age } in
    subst (λ (v : Machined). owned kind now ≡ owned kind v + count_kind kind (frames_of c.args.frames)) c.self.view_is
    (acted_frames kind objects n whole new (stored kind c.self.inside.pool).home (stored kind c.act_on.new.pool).home (count_kind kind (frames_of c.args.frames)) is (c.act_on.ensures.frames kind))
