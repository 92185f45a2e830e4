-- Sets of pages as their maximal runs.
use Rattle.std.specs.Prelude.{◌&&◌, not, List}
use Rattle.up_num.specs.Span.{Span, covers}
use Rattle.up_span.specs.Runs.{runs}
use Rattle.up_span.specs.Sets.{holds, end_of}
use Rattle.up_span.specs.declared.run.Run.{Run}

-- the set without the pages of a range
abbrev pub without : List Run → Span → List Run
without set range = runs (λ p. holds set p && not (covers range p)) 0 0 (end_of 0 set)
