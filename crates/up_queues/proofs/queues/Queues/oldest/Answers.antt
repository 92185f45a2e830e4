use Rattle.std.proofs.Common.{◌≡◌, map, take, filter, ◌∙◌, subst}
use Rattle.slab.specs.Slab.{get, slab_len}
use Rattle.up_queues.specs.Queue.{Queue, is_due}
use Rattle.up_queues.specs.Lists.{walk}
use Rattle.up_queues.proofs.Due.{due_both}
use Rattle.up_queues.proofs.queues.Queues.oldest.Goals as goal

pub returns : goal.returns
returns c =
    subst (λ (v : Queue). c.from_vec.result ≡ map (λ item. item.page) (take c.args.max (filter (is_due c.args.newest c.args.limit) v.items))) c.self.view_is
    (c.from_vec.ensures ∙ due_both c.args.newest c.args.limit c.args.max
    (walk (get c.self.inside.lists.entries) (slab_len c.self.inside.lists.entries) c.self.inside.lists.cold.first)
    (walk (get c.self.inside.lists.entries) (slab_len c.self.inside.lists.entries) c.self.inside.lists.others.first)
    c.new-pages.result.items c.push_due.new.pages.items c.push_due-2.new.pages.items c.new-pages.ensures.items c.in_ok-push_due.ensures.pages c.in_ok-push_due-2.ensures.pages)
