use Rattle.std.proofs.Common.{◌≡◌, ℕ, ◌+◌, ◌≤◌, ◌&&◌, take}
use Rattle.up_num.specs.Asks.{is_waiting}
use Rattle.up_num.specs.declared.answers.AskKind.{AskKind}
use Rattle.up_span.specs.Sets.{holds}
use Rattle.up_asks.specs.Asking.{pages_of, events_of}
use Rattle.up_asks.proofs.pages.Pages.take_all_out.Given as goal

abbrev pub invariant-loop-place : goal.invariant-loop-place
invariant-loop-place l = record {
  pages : (each : AskKind) (page : ℕ) → holds (pages_of l.self each).runs page ≡ (holds (pages_of l.fn.self each).runs page && is_waiting (events_of (take l.place l.events) each page));
  room : (each : AskKind) → (pages_of l.fn.self each).room ≤ (pages_of l.self each).room + l.place;
}
