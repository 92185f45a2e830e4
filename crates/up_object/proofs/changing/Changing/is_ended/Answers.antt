use Rattle.std.proofs.Common.{◌≡◌, ◌&&◌, true, is_some, ap, sym, subst, ◌∙◌}
use Rattle.up_model.specs.Deeds.{named_by}
use Rattle.up_model.specs.Value.{begun_by}
use Rattle.up_model.specs.States.{unclean}
use Rattle.up_model.specs.Reply.{same_flag}
use Rattle.up_model.proofs.NumberLaws.{counts_by_number}
use Rattle.up_pages.specs.Pages.{page_at, look_of as look_at}
use Rattle.up_object.specs.Change.{Change}
use Rattle.up_object.specs.Numbers.{ended_by}
use Rattle.up_object.specs.Parts.{shown, mark_at}
use Rattle.up_object.proofs.PageNumbers.{ended_is}
use Rattle.up_object.proofs.PageAtMark.{at_mark}
use Rattle.up_object.proofs.changing.Changing.is_ended.Goals as goal

pub returns : goal.returns
returns c =
    let s = c.self.invariant in
    let p = c.self.inside.mark in
    let stands = at_mark _ _ _ _ _ _ _ s.part in
    c.ended_by.ensures ∙ (λ i. ended_by (shown (c.look-look.ensures i)) (c.at.ensures i) c.self.inside.numbers.begins c.args.of p)
    ∙ ended_is c.self.inside.birth c.self.inside.log.entries p (shown (look_at (page_at c.self.inside.pages p))) (mark_at c.self.inside.marks p) c.self.inside.numbers.begins c.args.of
    (λ n. counts_by_number c.self.inside.birth c.self.inside.log.entries s.legal n p) stands.numbered s.others.numbered stands.looks
    (subst (λ (v : Change). same_flag v.birth.numbered (is_some c.args.of) ≡ true) (sym c.self.view_is) c.requires.proper)
    ∙ ap (λ (v : Change). unclean v.birth v.journal v.done.mark && begun_by v.birth v.journal (named_by v.birth.numbered c.args.of) v.done.mark) c.self.view_is
