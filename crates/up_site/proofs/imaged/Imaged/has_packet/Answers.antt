use Rattle.std.proofs.Common.{◌≡◌, length, nat_lt, is_some, sym, ap, ◌∙◌, subst, rules}
use Rattle.up_model.specs.Packets.{sent, taken}
use Rattle.up_site.specs.Sited.{Sited}
use Rattle.up_site.proofs.Choices.{packet_left}
use Rattle.up_site.proofs.imaged.Imaged.has_packet.Goals as goal

pub returns : goal.returns
returns g c =
    let test : c.is_some.result ≡ is_some c.next_packet.result = search rules in
    subst (λ (v : Sited g.row.D.Denot). c.is_some.result ≡ nat_lt (taken v.whole.journal) (length (sent
    v.whole.birth v.whole.journal))) c.self.view_is
    (test ∙ (ap is_some c.next_packet.ensures ∙ sym (packet_left (sent c.self.inside.object.birth
    c.self.inside.object.journal) (taken c.self.inside.object.journal))))
