use Rattle.std.proofs.Common.{◌≡◌, true, ◌∙◌, rules}
use Rattle.up_claims.specs.Claimed.{claim_of}
use Rattle.up_claims.specs.Sited.{fits}
use Rattle.up_claims.specs.declared.step.SiteStep.TheVariants as steps
use Rattle.up_model.specs.declared.entry.Brought.TheVariants.{Nothing}
use Rattle.up_site.proofs.Choices.{from_free, deny_free, copy_fits, store_fits, end_fits}
use Rattle.up_site.proofs.imaged.Imaged.bare_step.Goals as goal

pub pick_from-requires : goal.pick_from-requires
pick_from-requires g c =
    let fit : fits (steps.PickFrom c.in-PickFrom.set) (claim_of c.args.self.now.whole.journal
    c.args.by.who) c.args.brought ≡ true = search rules in
    record {
      none = from_free c.in-PickFrom.set (claim_of c.args.self.now.whole.journal c.args.by.who)
          c.args.brought fit;
    }

pub deny_page-requires : goal.deny_page-requires
deny_page-requires g c =
    let fit : fits (steps.Deny c.in-Deny.kind c.in-Deny.page) (claim_of c.args.self.now.whole.journal
    c.args.by.who) c.args.brought ≡ true = search rules in
    record {
      none = deny_free c.in-Deny.kind c.in-Deny.page (claim_of c.args.self.now.whole.journal
          c.args.by.who) c.args.brought fit;
    }

pub copy-requires : goal.copy-requires
copy-requires g c =
    let fit : fits steps.Copy (claim_of c.args.self.now.whole.journal c.args.by.who) c.args.brought ≡ true
    = search rules in
    record {
      fits = copy_fits (claim_of c.args.self.now.whole.journal c.args.by.who) Nothing c.args.brought
          ∙ fit;
    }

pub store-requires : goal.store-requires
store-requires g c =
    let fit : fits steps.Store (claim_of c.args.self.now.whole.journal c.args.by.who) c.args.brought ≡ true
    = search rules in
    record {
      fits = store_fits (claim_of c.args.self.now.whole.journal c.args.by.who) Nothing
          c.args.brought ∙ fit;
    }

pub finish-requires : goal.finish-requires
finish-requires g c =
    let fit : fits steps.End (claim_of c.args.self.now.whole.journal c.args.by.who) c.args.brought ≡ true =
    search rules in
    record {
      fits = end_fits (claim_of c.args.self.now.whole.journal c.args.by.who) Nothing c.args.brought
          ∙ fit;
    }
