use Rattle.up_worker.specs.Viewing.{acting_of}
use Rattle.up_worker.proofs.AnswersKeep.{sound_started, wants_started, end_wish, end_started, fits_at_end}
use Rattle.up_worker.specs.declared.course.Doing.TheVariants.{Leaving}
use Rattle.up_worker.proofs.actor.Actor.begin_end.Goals as goal

pub begins-requires : goal.begins-requires
begins-requires c =
    let f = c.self.inside in
    fits_at_end (acting_of f.who f.kind f.objects f.left f.doing f.at f.wants) c.in_ok-left.left c.self.invariant c.in_ok-left.ensures

pub invariant_of-self : goal.invariant_of-self
invariant_of-self c =
    let f = c.self.inside in
    let a = acting_of f.who f.kind f.objects f.left f.doing f.at f.wants in
    sound_started a (Leaving c.in_ok-left.left) _ c.self.invariant (fits_at_end a c.in_ok-left.left c.self.invariant c.in_ok-left.ensures)
    (wants_started a (Leaving c.in_ok-left.left) c.in_ok-wish.wish c.wanted-self-inside.result c.wanted-self-inside.ensures c.in_ok-wish.ensures)

pub returns-clause-wish : goal.returns-clause-wish
returns-clause-wish c =
    let f = c.self.inside in
    end_wish (acting_of f.who f.kind f.objects f.left f.doing f.at f.wants) c.args.self.now c.in_ok-left.left c.in_ok-wish.wish
    c.self.view_is c.in_ok-left.ensures c.in_ok-wish.ensures

pub returns-clause-ok : goal.returns-clause-ok
returns-clause-ok c =
    let f = c.self.inside in
    let a = acting_of f.who f.kind f.objects f.left f.doing f.at f.wants in
    end_started a c.args.self.now _ c.in_ok-left.left c.self.view_is c.in_ok-left.ensures
    (wants_started a (Leaving c.in_ok-left.left) c.in_ok-wish.wish c.wanted-self-inside.result c.wanted-self-inside.ensures c.in_ok-wish.ensures)
