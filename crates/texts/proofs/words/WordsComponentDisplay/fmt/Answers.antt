use Rattle.std.proofs.Common.{◌++◌, codes, decimal, sym, ap, ◌∙◌}
use Rattle.std.proofs.Output.{has_written_of_eq}
use Rattle.texts.specs.Words.{component_words, groups}
use Rattle.texts.proofs.Wording.{dotted_four}
use Rattle.texts.proofs.words.WordsComponentDisplay.fmt.Goals as goal

pub returns-in-Ipv4-clause-writes : goal.returns-in-Ipv4-clause-writes
returns-in-Ipv4-clause-writes g c plain ok =
    has_written_of_eq g.W.Write.write_str_gives _ _ _ _
    ((λ i. codes "IPv4 " ++ (dotted_four _ _ c.from_bits.ensures i ++ (codes " mask " ++ dotted_four _ _ c.from_bits-in-Ipv4.ensures i))) ∙ sym (ap component_words c.in-Ipv4.is))
    (c.write.ensures.writes plain ok)

pub returns-in-Ipv6-clause-writes : goal.returns-in-Ipv6-clause-writes
returns-in-Ipv6-clause-writes g c plain ok =
    has_written_of_eq g.W.Write.write_str_gives _ _ _ _
    (ap (λ os. codes "IPv6 " ++ (groups 8 os ++ (codes "/" ++ decimal c.in-Ipv6.prefix))) c.octets_of.ensures ∙ sym (ap component_words c.in-Ipv6.is))
    (c.write-in-Ipv6.ensures.writes plain ok)
