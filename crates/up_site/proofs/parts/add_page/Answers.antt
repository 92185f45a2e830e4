use Rattle.std.proofs.Common.{◌≡◌, ◌*◌, ◌++◌, ◌∙◌, ap, List, ℕ, rules}
use Rattle.up_site.proofs.Reached.{page_added}
use Rattle.up_site.proofs.parts.add_page.Goals as goal

pub returns : goal.returns
returns c =
    let slice : c.as_slice.result.now ≡ c.in_ok-more.more = search rules in
    let grown : c.extend_from_slice.new.self.items ≡ c.args.bytes.now.items ++ c.as_slice.result.now =
    c.in_ok-extend_from_slice.ensures.items in
    let at : c.from-off.result ≡ c.args.page = search rules in
    page_added c.args.object.now.birth c.args.object.now.journal c.args.page (c.from-off.result * 4096)
    c.args.bytes.now.items c.extend_from_slice.new.self.items c.in_ok-more.more
    (ap (λ (n : ℕ). n * 4096) at) c.in_ok-more.ensures (grown ∙ ap (λ (l : List ℕ). c.args.bytes.now.items
    ++ l) slice)
