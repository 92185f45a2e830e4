use Rattle.std.proofs.Common.{◌≡◌, ℕ, ◌+◌, ◌-◌, ◌≤◌, cond, None, length, drop}
use Rattle.up_bank.specs.declared.kind.FrameKind.{FrameKind}
use Rattle.up_pages.specs.Frames.{count_kind}
use Rattle.up_pages.specs.declared.page.Page.TheVariants.{Absent}
use Rattle.up_pages.specs.Pages.{page_at, size_of, held_by}
use Rattle.up_queues.specs.Queue.{find_page}
use Rattle.up_model.specs.Deeds.{has_page}
use Rattle.up_object.specs.Parts.{BankPair, HasOwn}
use Rattle.up_object.specs.Change.{AllOwn}
use Rattle.up_object.proofs.evicting.take_pages.Given as goal

abbrev pub invariant-loop-page : goal.invariant-loop-page
invariant-loop-page l = record {
  ready : length l.list - l.page-index ≤ l.pages.spare;
  room : length l.back.items + (length l.list - l.page-index) ≤ l.back.room;
  pages : (p : ℕ) → cond (has_page (drop l.page-index l.list) p) Absent (page_at l.pages p) ≡ cond (has_page l.list p) Absent (page_at l.fn.pages p);
  size : size_of l.pages ≡ size_of l.fn.pages;
  queue : (p : ℕ) → cond (has_page (drop l.page-index l.list) p) None (find_page l.queues.items p) ≡ cond (has_page l.list p) None (find_page l.fn.queues.items p);
  places : l.queues.room ≡ l.fn.queues.room;
  kinds : (kind : FrameKind) → count_kind kind l.back.items + held_by kind l.pages ≡ count_kind kind l.fn.back.items + held_by kind l.fn.pages;
  own : (banks : BankPair) → ((p : ℕ) → HasOwn banks (page_at l.fn.pages p)) → AllOwn banks l.fn.back.items → AllOwn banks l.back.items × ((p : ℕ) → HasOwn banks (page_at l.pages p));
}
