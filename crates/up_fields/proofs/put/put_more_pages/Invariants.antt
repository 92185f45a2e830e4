use Rattle.std.proofs.Common.{◌≡◌, ◌++◌, length}
use Rattle.up_fields.specs.Text.{more_text, page_text}
use Rattle.up_fields.proofs.put.put_more_pages.Given as goal

-- what was written and what is still to come make the whole
abbrev pub invariant-loop-rest : goal.invariant-loop-rest
invariant-loop-rest l = l.out.items ++ more_text page_text l.rest ≡ l.fn.out.items ++ more_text page_text l.pages

abbrev pub decreases-loop-rest : goal.decreases-loop-rest
decreases-loop-rest l = length l.rest
