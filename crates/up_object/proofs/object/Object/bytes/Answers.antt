use Rattle.std.proofs.Common.{◌≡◌, ℕ, ◌+◌, ◌-◌, ◌*◌, ◌/◌, ◌%◌, true, take, drop, Some, None, replicate, ap, sym, ◌∙◌, subst, arith}
use Rattle.std.specs.Prelude.{IfOk}
use Rattle.std.specs.Option.{option_copied}
use Rattle.std.proofs.lemmas.Result.{IfOk-weaker}
use Rattle.up_pages.specs.Pages.{page_at, bytes_in, look_of as look_at}
use Rattle.up_model.specs.Attempts.{page_of}
use Rattle.up_model.specs.Value.{there, bytes_from}
use Rattle.up_model.specs.Looks.{is_present}
use Rattle.up_object.specs.Whole.{Whole}
use Rattle.up_object.specs.Parts.{shown}
use Rattle.up_object.proofs.PageAtMark.{blank_content}
use Rattle.up_object.proofs.Contents.{bytes_read, zeros_read, content_of, present_is, piece_fits}
use Rattle.up_object.proofs.object.Object.bytes.Goals as goal

pub returns-in-Some : goal.returns-in-Some
returns-in-Some c =
    let s = c.self.invariant in
    let off = c.args.piece.now.off in
    let len = c.args.piece.now.len in
    let birth = c.self.inside.birth in
    let h = c.self.inside.log.entries in
    let bytes = c.in-Some.bytes.now in
    let is : Some bytes ≡ bytes_in (page_at c.self.inside.pages (off / 4096)) = c.in-Some.ensures.same in
    let whole : 4096 * (off / 4096) + off % 4096 ≡ off = omega arith in
    let part : take (off % 4096 + len - off % 4096) (drop (off % 4096) bytes) ≡ bytes_from birth h off len =
    ap (λ (n : ℕ). take n (drop (off % 4096) bytes)) (omega arith)
    ∙ bytes_read birth h (off / 4096) bytes c.in-Some.ensures.whole (λ i lt. (s.each (off / 4096)).bytes i lt ∙ content_of (page_at c.self.inside.pages (off / 4096)) bytes i is) len (off % 4096) (piece_fits off len c.requires.within)
    ∙ ap (λ (x : ℕ). bytes_from birth h x len) whole in
    subst (λ (v : Whole). IfOk c.from_slice.result (λ made. made ≡ bytes_from v.birth v.journal off len)) c.self.view_is
    (IfOk-weaker c.from_slice.result (λ made. made ≡ take (off % 4096 + len - off % 4096) (drop (off % 4096) bytes)) (λ made. made ≡ bytes_from birth h off len) (λ made same. same ∙ part) c.from_slice.ensures)

pub returns-in_ok-vec-in-None : goal.returns-in_ok-vec-in-None
returns-in_ok-vec-in-None c =
    let s = c.self.invariant in
    let off = c.args.piece.now.off in
    let len = c.args.piece.now.len in
    let birth = c.self.inside.birth in
    let h = c.self.inside.log.entries in
    let page = page_at c.self.inside.pages (off / 4096) in
    let none : bytes_in page ≡ None = sym c.bytes.ensures.same ∙ ap option_copied c.in-None.is in
    let here : there birth h (off / 4096) ≡ true = subst (λ (v : Whole). there v.birth v.journal (page_of off) ≡ true) (sym c.self.view_is) c.requires.present in
    let present : is_present (shown (look_at page)) ≡ true = ap is_present (sym (s.each (off / 4096)).looks) ∙ present_is birth h (off / 4096) ∙ here in
    let whole : 4096 * (off / 4096) + off % 4096 ≡ off = omega arith in
    let zeros : replicate len 0 ≡ bytes_from birth h off len =
    zeros_read birth h (off / 4096) (λ i lt. (s.each (off / 4096)).bytes i lt ∙ blank_content page i present none) len (off % 4096) (piece_fits off len c.requires.within)
    ∙ ap (λ (x : ℕ). bytes_from birth h x len) whole in
    c.from_vec.ensures ∙ c.in_ok-vec-in-None.ensures.items_if_clones_equal (λ y is. is) ∙ subst (λ (v : Whole). replicate len 0 ≡ bytes_from v.birth v.journal off len) c.self.view_is zeros
