use Rattle.std.proofs.Common.{◌≡◌, [], ◌∷◌, ◌++◌, sym, ap, ◌∙◌}
use Rattle.rules.specs.Components.{type_of}
use Rattle.layouts.specs.Layout.{value_octets}
use Rattle.layouts.specs.Memory.{written}
use Rattle.layouts.proofs.components.ComponentInOctets.place.Goals as goal

pub returns-in-Ipv6-clause-after : goal.returns-in-Ipv6-clause-after
returns-in-Ipv6-clause-after c =
    let p = c.in-Ipv6.prefix in
    let kind = c.from-kind.ensures ∙ ap type_of c.kind.ensures in
    let value : c.octets_of.result ++ (p ∷ []) ≡ value_octets c.args.self.now = ap (λ l. l ++ (p ∷ [])) c.octets_of.ensures ∙ sym (ap value_octets c.in-Ipv6.is) in
    c.place-in-Ipv6.ensures.after ∙ (λ i. written c.args.at (kind i ∷ value i) c.args.memory.now)
