use Rattle.std.proofs.Common.{◌+◌, ◌-◌, ◌≤◌, suc, None, length, ◌∙◌, arith}
use Rattle.up_pages.specs.declared.page.Page.TheVariants.{Absent}
use Rattle.up_pages.specs.Pages.{page_at}
use Rattle.up_queues.specs.Queue.{find_page}
use Rattle.up_object.proofs.DroppedPages.{puts_next, owns_left, owns_back, room_next}
use Rattle.up_object.proofs.evicting.take_pages.Goals as goal

pub loop-page-preserved : goal.loop-page-preserved
loop-page-preserved c =
    let was = c.loop-page.invariant in
    let room : length c.loop-page.back.items + suc (length c.args.list.now - (c.loop-page.page-index + 1)) ≤ c.loop-page.back.room = let enough = was.room in omega arith in record {
      ready = let ready = was.ready in omega arith;
      room = room_next c.loop-page.back.items c.take_page.new.back.items (page_at c.loop-page.pages _) c.loop-page.back.room c.take_page.new.back.room _ c.take_page.ensures.back c.take_page.ensures.room room;
      pages = λ p. puts_next c.args.list.now c.loop-page.page-index _ p Absent (page_at c.loop-page.pages p) (page_at c.take_page.new.pages p) _ (omega arith) (c.take_page.ensures.pages p) (was.pages p);
      size = c.take_page.ensures.size ∙ was.size;
      queue = λ p. puts_next c.args.list.now c.loop-page.page-index _ p None (find_page c.loop-page.queues.items p) (find_page c.take_page.new.queues.items p) _ (omega arith) (c.take_page.ensures.queue p) (was.queue p);
      places = c.take_page.ensures.places ∙ was.places;
      kinds = λ kind. c.take_page.ensures.kinds kind ∙ was.kinds kind;
      own = λ banks own had. let now = was.own banks own had in (
        owns_back banks (page_at c.loop-page.pages _) c.loop-page.back.items c.take_page.new.back.items (now.1 _) now.0 c.take_page.ensures.back,
        owns_left banks c.loop-page.pages c.take_page.new.pages _ c.take_page.ensures.pages now.1,
      );
    }
