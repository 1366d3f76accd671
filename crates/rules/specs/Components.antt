-- Components: the type of each, and which values it may have.
use Rattle.std.specs.Prelude.{ℕ, ◌^◌, Bool, true, false, cond, ◌&&◌, ◌==◌, List, [], ◌∷◌, Some, None, Option, nat_eq, nat_le, nat_lt}
use Rattle.rules.specs.Lists.{none_of}
use Rattle.rules.specs.declared.at_most.AtMost.{AtMost}
use Rattle.rules.specs.declared.component.Kind.{Kind}
use Rattle.rules.specs.declared.component.Kind.TheVariants as kind
use Rattle.rules.specs.declared.component.Component.{Component}
use Rattle.rules.specs.declared.component.Component.TheVariants.{MatchAll, Ipv4, Ipv6, Protocol, Port, PortRange, SecurityIndex, ServiceType, FlowLabel}

-- the octet by which a sheet names a type
abbrev pub type_of : Kind → ℕ
type_of kind.MatchAll = 0x01
type_of kind.Ipv4 = 0x10
type_of kind.Ipv6 = 0x21
type_of kind.Protocol = 0x30
type_of kind.Port = 0x50
type_of kind.PortRange = 0x51
type_of kind.SecurityIndex = 0x60
type_of kind.ServiceType = 0x70
type_of kind.FlowLabel = 0x80

-- the first that passes a test
abbrev pub first : {A : Type 0} → (A → Bool) → List A → Option A
first f [] = None
first f (x ∷ xs) = cond (f x) (Some x) (first f xs)

abbrev pub kinds : List Kind
kinds = kind.MatchAll ∷ (kind.Ipv4 ∷ (kind.Ipv6 ∷ (kind.Protocol ∷ (kind.Port ∷ (kind.PortRange ∷ (kind.SecurityIndex ∷ (kind.ServiceType ∷ (kind.FlowLabel ∷ []))))))))

-- the kind that has this type octet
abbrev pub kind_of : ℕ → Option Kind
kind_of t = first (λ k. nat_eq (type_of k) t) kinds

abbrev pub kind_in : Component → Kind
kind_in MatchAll = kind.MatchAll
kind_in (Ipv4 address mask) = kind.Ipv4
kind_in (Ipv6 address prefix) = kind.Ipv6
kind_in (Protocol number) = kind.Protocol
kind_in (Port number) = kind.Port
kind_in (PortRange low high) = kind.PortRange
kind_in (SecurityIndex index) = kind.SecurityIndex
kind_in (ServiceType value mask) = kind.ServiceType
kind_in (FlowLabel label) = kind.FlowLabel

-- n is a number of k octets
abbrev pub holds : ℕ → ℕ → Bool
holds k n = nat_lt n (256 ^ k)

-- the value is one that a sheet may give
abbrev pub is_allowed : Component → Bool
is_allowed MatchAll = true
is_allowed (Ipv4 address mask) = holds 4 address && holds 4 mask
is_allowed (Ipv6 address prefix) = holds 16 address && nat_le prefix 128
is_allowed (Protocol number) = holds 1 number
is_allowed (Port number) = holds 2 number
is_allowed (PortRange low high) = holds 2 low && (holds 2 high && nat_le low high)
is_allowed (SecurityIndex index) = holds 4 index
is_allowed (ServiceType value mask) = holds 1 value && holds 1 mask
is_allowed (FlowLabel label) = nat_lt label (2 ^ 20)

-- whether two components are the same, in type and value
abbrev pub same_component : Component → Component → Bool
same_component MatchAll MatchAll = true
same_component (Ipv4 a m) (Ipv4 b n) = a == b && m == n
same_component (Ipv6 a m) (Ipv6 b n) = a == b && m == n
same_component (Protocol a) (Protocol b) = a == b
same_component (Port a) (Port b) = a == b
same_component (PortRange a m) (PortRange b n) = a == b && m == n
same_component (SecurityIndex a) (SecurityIndex b) = a == b
same_component (ServiceType a m) (ServiceType b n) = a == b && m == n
same_component (FlowLabel a) (FlowLabel b) = a == b
same_component _ _ = false

-- no component, as a rule that is not there has them
abbrev pub no_components : AtMost Component 8
no_components = none_of MatchAll
