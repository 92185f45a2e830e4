use Rattle.std.proofs.Common.{◌≡◌, map, take, filter, ap, sym, ◌∙◌, subst}
use Rattle.std.specs.Prelude.{max, IfOk}
use Rattle.std.proofs.lemmas.Result.{IfOk-weaker}
use Rattle.up_num.specs.Pages.{page_number}
use Rattle.up_queues.specs.declared.queued.Queued.{Queued}
use Rattle.up_queues.specs.Queue.{is_due}
use Rattle.up_model.specs.Use.{newest_epoch}
use Rattle.up_model.specs.Order.{order}
use Rattle.up_object.specs.Whole.{Whole}
use Rattle.up_object.proofs.Reclaims.{due_is_order}
use Rattle.up_object.proofs.object.Object.oldest.Goals as goal

pub returns : goal.returns
returns c =
    let s = c.self.invariant in
    let birth = c.self.inside.birth in
    let h = c.self.inside.log.entries in
    let items = c.self.inside.queues.items in
    let newest : c.max.result ≡ max c.args.epoch (newest_epoch h) = c.max.ensures ∙ ap (max c.args.epoch) (sym s.epoch) in
    let all : map (λ (item : Queued). item.page) (take c.args.most (filter (is_due c.max.result c.args.limit) items)) ≡ map page_number (take c.args.most (order birth h (max c.args.epoch (newest_epoch h)) c.args.limit)) =
    due_is_order birth h s.legal c.max.result c.args.limit c.args.most items (record { ordered = c.len.ensures.ordered; pages = s.queued })
    ∙ ap (λ n. map page_number (take c.args.most (order birth h n c.args.limit))) newest in
    subst (λ (v : Whole). IfOk c.oldest.result (λ pages. pages ≡ map page_number (take c.args.most (order v.birth v.journal (max c.args.epoch (newest_epoch v.journal)) c.args.limit)))) c.self.view_is
    (IfOk-weaker c.oldest.result (λ pages. pages ≡ map (λ (item : Queued). item.page) (take c.args.most (filter (is_due c.max.result c.args.limit) items)))
    (λ pages. pages ≡ map page_number (take c.args.most (order birth h (max c.args.epoch (newest_epoch h)) c.args.limit))) (λ pages is. is ∙ all) c.oldest.ensures)
