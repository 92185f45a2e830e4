use Rattle.std.proofs.Common.{◌≡◌, ◌<◌, ◌-◌, ℕ, List, subst, arith}
use Rattle.up_bank.specs.declared.kind.FrameKind.TheVariants.{Ordinary}
use Rattle.up_evictor.specs.declared.levels.Level.TheVariants.{Empty}
use Rattle.up_model.specs.declared.entry.Birth.{Birth}
use Rattle.up_worker.specs.Courses.{Entered}
use Rattle.up_worker.specs.declared.wish.Wish.TheVariants as wishes
use Rattle.up_steps.specs.Handed.{Handed, lives_of}
use Rattle.up_steps.specs.Carried.{CarriedOut}
use Rattle.up_hands.specs.Keeping.{Eased, Taken, at_home}
use Rattle.up_hands.proofs.OneObjectCalled.{of_one}
use Rattle.up_hands.proofs.WishesDone.{carried_short}
use Rattle.up_hands.proofs.hands.Hands.gather.Goals as goal

pub returns-clause-done : goal.returns-clause-done
returns-clause-done c =
    let now = c.args.self.now in
    let mid = c.ease.new.self in
    let new = c.take_up-2.new.self in
    let who = c.args.who in
    let count = c.args.count in
    let free = c.free-free.ensures.value in
    let short = c.if-free-count.false in
    let few : at_home Ordinary now < count = omega arith in
    let eased : Eased now mid who (count - c.free-free.result) Empty = subst (λ (v : Handed). Eased v mid who (count - c.free-free.result) Empty) c.free-free.ensures.same c.in_ok-ease.ensures.eased in
    of_one (λ heard. Taken mid new Ordinary count heard)
    (λ heard. (births : List Birth) (g : List Entered) → now.lives ≡ lives_of births g → CarriedOut births now new who (wishes.Gather count) heard g) c.take_up-2.result c.take_up-2.ensures.taken
    (λ heard taken births g stood. carried_short births now mid new who count heard g stood few (subst (λ (n : ℕ). Eased now mid who (count - n) Empty) free eased) taken)
