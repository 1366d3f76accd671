-- Rules in words.
use Rattle.std.specs.Prelude.{ℕ, zero, suc, ◌*◌, Bool, true, false, List, [], ◌∷◌, ◌++◌, take, drop, Some, None, Option, codes, decimal}
use Rattle.std.specs.List.{flat_map}
use Rattle.texts.specs.Hexes.{hex_of}
use Rattle.octets.specs.Numbers.{be}
use Rattle.terms.specs.Accesses.{name_of}
use Rattle.rules.specs.declared.component.Component.{Component}
use Rattle.rules.specs.declared.component.Component.TheVariants.{MatchAll, Ipv4, Ipv6, Protocol, Port, PortRange, SecurityIndex, ServiceType, FlowLabel}
use Rattle.rules.specs.declared.descriptor.Functionality.{Functionality}
use Rattle.rules.specs.declared.descriptor.Functionality.TheVariants.{OnlyOne, Mptcp, AtsssLl}
use Rattle.rules.specs.declared.descriptor.Mode.{Mode}
use Rattle.rules.specs.declared.descriptor.Mode.TheVariants.{ActiveStandby, SmallestDelay, LoadBalancing, Priority}
use Rattle.rules.specs.Descriptors.{share}
use Rattle.rules.specs.Rules.{SteeringRule}

-- octets in decimal, with points between
abbrev pub dotted : List ℕ → List ℕ
dotted [] = []
dotted (x ∷ []) = decimal x
dotted (x ∷ (y ∷ ys)) = decimal x ++ (codes "." ++ dotted (y ∷ ys))

-- what stands before a group
abbrev pub colon : ℕ → List ℕ
colon zero = []
colon (suc n) = codes ":"

-- the first n groups of two octets in hexadecimal, with colons between
abbrev pub groups : ℕ → List ℕ → List ℕ
groups zero xs = []
groups (suc n) xs = groups n xs ++ (colon n ++ hex_of (take 2 (drop (2 * n) xs)))

abbrev pub component_words : Component → List ℕ
component_words MatchAll = codes "match all"
component_words (Ipv4 address mask) = codes "IPv4 " ++ (dotted (be 4 address) ++ (codes " mask " ++ dotted (be 4 mask)))
component_words (Ipv6 address prefix) = codes "IPv6 " ++ (groups 8 (be 16 address) ++ (codes "/" ++ decimal prefix))
component_words (Protocol number) = codes "protocol " ++ decimal number
component_words (Port number) = codes "port " ++ decimal number
component_words (PortRange low high) = codes "ports " ++ (decimal low ++ (codes " to " ++ decimal high))
component_words (SecurityIndex index) = codes "security parameter index " ++ hex_of (be 4 index)
component_words (ServiceType value mask) = codes "type of service " ++ (hex_of (value ∷ []) ++ (codes " mask " ++ hex_of (mask ∷ [])))
component_words (FlowLabel label) = codes "flow label " ++ hex_of (be 3 label)

abbrev pub functionality_words : Functionality → List ℕ
functionality_words OnlyOne = codes "the device's only functionality"
functionality_words Mptcp = codes "MPTCP"
functionality_words AtsssLl = codes "ATSSS-LL"

abbrev pub standby_words : Bool → List ℕ
standby_words true = codes "with standby"
standby_words false = codes "alone"

-- the share of a mode that splits; without one there are words too, though no sheet is read so
abbrev pub share_words : Option ℕ → List ℕ
share_words (Some p) = decimal p ++ codes " percent over 3GPP"
share_words None = codes "no share"

abbrev pub mode_words : Mode → List ℕ
mode_words (ActiveStandby active standby) = codes "active-standby, " ++ (name_of active ++ (codes " " ++ standby_words standby))
mode_words SmallestDelay = codes "smallest delay"
mode_words (LoadBalancing k) = codes "load balancing, " ++ share_words (share (LoadBalancing k))
mode_words (Priority first) = codes "priority based, " ++ (name_of first ++ codes " first")

-- each component behind a comma
abbrev pub components_words : List Component → List ℕ
components_words cs = flat_map (λ c. codes ", " ++ component_words c) cs

-- the precedence, the components, the mode and the functionality
abbrev pub rule_words : SteeringRule → List ℕ
rule_words r =
    (codes "precedence " ++ decimal r.precedence) ++ (components_words r.components
    ++ (codes "; " ++ (mode_words r.descriptor.mode ++ (codes "; " ++ functionality_words r.descriptor.functionality))))
