use Rattle.std.proofs.Common.{ℕ, Some, ap, sym, ◌∙◌, arith, replicate, length, get_or}
use Rattle.std.proofs.lemmas.List.{get_or-replicate, length-replicate}
use Rattle.up_bank.specs.Standing.{Held as Frame}
use Rattle.std.specs.Option.{option_copied}
use Rattle.up_pages.specs.Pages.{page_at}
use Rattle.up_object.proofs.PageAtMark.{written_length, written_whole, blank_content}
use Rattle.up_object.proofs.frame_moves.copy_to.Goals as goal

pub returns-in-None-clause-whole : goal.returns-in-None-clause-whole
returns-in-None-clause-whole c =
    ap (λ (f : Frame). length f.bytes) c.set-in-None.ensures ∙ written_length c.args.frame.now.bytes (replicate 4096 0) 0 c.requires.whole (omega (arith, length-replicate {A = ℕ} 4096 0))

pub returns-in-None-clause-bytes : goal.returns-in-None-clause-bytes
returns-in-None-clause-bytes c = λ i lt.
    blank_content (page_at c.args.pages.now c.args.page.0) i c.requires.present (sym c.bytes.ensures.same ∙ ap option_copied c.in-None.is)
    ∙ ap (λ (b : ℕ). Some b) (sym (get_or-replicate 4096 i 0 0 lt) ∙ written_whole c.args.frame.now.bytes (replicate 4096 0) i c.requires.whole (length-replicate {A = ℕ} 4096 0) lt ∙ ap (λ (f : Frame). get_or f.bytes i 0) (sym c.set-in-None.ensures))
