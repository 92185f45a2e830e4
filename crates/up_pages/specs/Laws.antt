-- Laws over page lists and lists of frames.
use Rattle.std.specs.Prelude.{◌≡◌, ℕ, ◌+◌, ◌<◌, ◌≤◌, Some, List, ◌++◌, length, is_some, Contains}
use Rattle.up_span.specs.Pages.{count_pages}
use Rattle.up_bank.specs.Standing.{Held as Frame}
use Rattle.up_bank.specs.declared.kind.FrameKind.{FrameKind}
use Rattle.up_bank.specs.declared.kind.FrameKind.TheVariants.{Ordinary, Loaned}
use Rattle.up_pages.specs.Frames.{count_kind}
use Rattle.up_pages.specs.Pages.{PageMap, size_of, page_at, frame_of, frames_down}
use Rattle.up_pages.specs.declared.page.Page.{Page}

-- a page list is determined by its size, its pages and its spare changes
abbrev pub SamePages : Type 0
SamePages = (a b : PageMap) → size_of a ≡ size_of b → ((p : ℕ) → page_at a p ≡ page_at b p) → a.spare ≡ b.spare → a ≡ b

-- frames of two lists are counted one by one
abbrev pub KindsAddUp : Type 0
KindsAddUp = (kind : FrameKind) (a b : List Frame) → count_kind kind (a ++ b) ≡ count_kind kind a + count_kind kind b

-- each frame is of one kind
abbrev pub EachOfOneKind : Type 0
EachOfOneKind = (frames : List Frame) → count_kind Ordinary frames + count_kind Loaned frames ≡ length frames

-- each frame that comes back stood under a page of the range
abbrev pub FramesStood : Type 0
FramesStood = (page : ℕ → Page) (first n : ℕ) (frame : Frame) → Contains (frames_down page first n) frame
    → (p : ℕ) × (first ≤ p) × (p < first + n) × (frame_of (page p) ≡ Some frame)

-- the frame of each page of the range that is held comes back
abbrev pub FramesComeBack : Type 0
FramesComeBack = (page : ℕ → Page) (first n p : ℕ) (frame : Frame) → first ≤ p → p < first + n → frame_of (page p) ≡ Some frame
    → Contains (frames_down page first n) frame

-- as many frames come back as pages of the range are held
abbrev pub AsManyComeBack : Type 0
AsManyComeBack = (page : ℕ → Page) (first n : ℕ) → length (frames_down page first n) ≡ count_pages (λ p. is_some (frame_of (page p))) first n
