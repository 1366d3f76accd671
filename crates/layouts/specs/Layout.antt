-- How a rule is written.
use Rattle.std.specs.Prelude.{ℕ, ◌+◌, true, false, List, [], ◌∷◌, ◌++◌, length}
use Rattle.std.specs.List.{flat_map}
use Rattle.octets.specs.Numbers.{be}
use Rattle.terms.specs.Accesses.{code_of}
use Rattle.terms.specs.declared.access.Access.TheVariants.{ThreeGpp, NonThreeGpp}
use Rattle.rules.specs.Components.{type_of, kind_in}
use Rattle.rules.specs.Rules.{SteeringRule}
use Rattle.rules.specs.declared.component.Component.{Component}
use Rattle.rules.specs.declared.component.Component.TheVariants.{MatchAll, Ipv4, Ipv6, Protocol, Port, PortRange, SecurityIndex, ServiceType, FlowLabel}
use Rattle.rules.specs.declared.descriptor.Descriptor.{Descriptor}
use Rattle.rules.specs.Descriptors.{functionality_code}
use Rattle.rules.specs.declared.descriptor.Mode.{Mode}
use Rattle.rules.specs.declared.descriptor.Mode.TheVariants.{ActiveStandby, SmallestDelay, LoadBalancing, Priority}

-- the value of a component
abbrev pub value_octets : Component → List ℕ
value_octets MatchAll = []
value_octets (Ipv4 address mask) = be 4 address ++ be 4 mask
value_octets (Ipv6 address prefix) = be 16 address ++ (prefix ∷ [])
value_octets (Protocol number) = number ∷ []
value_octets (Port number) = be 2 number
value_octets (PortRange low high) = be 2 low ++ be 2 high
value_octets (SecurityIndex index) = be 4 index
value_octets (ServiceType value mask) = value ∷ (mask ∷ [])
value_octets (FlowLabel label) = be 3 label

-- a component: its type, then its value
abbrev pub component_octets : Component → List ℕ
component_octets c = type_of (kind_in c) ∷ value_octets c

abbrev pub components_octets : List Component → List ℕ
components_octets cs = flat_map component_octets cs

abbrev pub mode_code : Mode → ℕ
mode_code (ActiveStandby active standby) = 1
mode_code SmallestDelay = 2
mode_code (LoadBalancing k) = 3
mode_code (Priority first) = 4

abbrev pub information : Mode → List ℕ
information (ActiveStandby ThreeGpp false) = 1 ∷ []
information (ActiveStandby ThreeGpp true) = 2 ∷ []
information (ActiveStandby NonThreeGpp false) = 3 ∷ []
information (ActiveStandby NonThreeGpp true) = 4 ∷ []
information SmallestDelay = []
information (LoadBalancing k) = k ∷ []
information (Priority first) = code_of first ∷ []

-- an access descriptor; the first octet counts all of it
abbrev pub descriptor_octets : Descriptor → List ℕ
descriptor_octets d = (3 + length (information d.mode)) ∷ (functionality_code d.functionality ∷ (mode_code d.mode ∷ information d.mode))

-- a rule without its length, which stands first and counts these octets
abbrev pub rule_body : SteeringRule → List ℕ
rule_body r = r.precedence ∷ (be 2 (length (components_octets r.components)) ++ (components_octets r.components ++ descriptor_octets r.descriptor))

abbrev pub rule_octets : SteeringRule → List ℕ
rule_octets r = be 2 (length (rule_body r)) ++ rule_body r
