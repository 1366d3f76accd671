-- What octets are read as, and which refusal comes first.
use Rattle.std.specs.Prelude.{ℕ, zero, suc, ◌+◌, ◌-◌, Bool, true, false, cond, not, ◌&&◌, ◌||◌, List, [], ◌∷◌, ◌++◌, length, take, drop, Some, None, Ok, Option, Result, ◌==◌, nat_le, nat_lt, slice_index}
use Rattle.std.specs.Int.Digits.{number_from_digits}
use Rattle.terms.specs.Replies.{refuse_if, after, found_or}
use Rattle.terms.specs.declared.access.Access.TheVariants.{ThreeGpp, NonThreeGpp}
use Rattle.terms.specs.declared.refusal.Refusal.{Refusal}
use Rattle.terms.specs.declared.refusal.Refusal.TheVariants as refusal
use Rattle.rules.specs.Components.{type_of, kind_of, kind_in, is_allowed}
use Rattle.rules.specs.Descriptors.{functionality_from}
use Rattle.rules.specs.Rules.{SteeringRule, types_in}
use Rattle.rules.specs.declared.component.Kind.{Kind}
use Rattle.rules.specs.declared.component.Kind.TheVariants as kind
use Rattle.rules.specs.declared.component.Component.{Component}
use Rattle.rules.specs.declared.component.Component.TheVariants.{MatchAll, Ipv4, Ipv6, Protocol, Port, PortRange, SecurityIndex, ServiceType, FlowLabel}
use Rattle.rules.specs.declared.descriptor.Descriptor.{Descriptor}
use Rattle.rules.specs.declared.descriptor.Functionality.{Functionality}
use Rattle.rules.specs.declared.descriptor.Mode.{Mode}
use Rattle.rules.specs.declared.descriptor.Mode.TheVariants.{ActiveStandby, SmallestDelay, LoadBalancing, Priority}

-- the number that w octets from place i on write
abbrev pub field : ℕ → ℕ → List ℕ → ℕ
field i w xs = number_from_digits 256 (take w (drop i xs))

-- how many octets the value has
abbrev pub size_of : Kind → ℕ
size_of kind.MatchAll = 0
size_of kind.Ipv4 = 8
size_of kind.Ipv6 = 17
size_of kind.Protocol = 1
size_of kind.Port = 2
size_of kind.PortRange = 4
size_of kind.SecurityIndex = 4
size_of kind.ServiceType = 2
size_of kind.FlowLabel = 3

abbrev pub value_from : Kind → List ℕ → Component
value_from kind.MatchAll v = MatchAll
value_from kind.Ipv4 v = Ipv4 (field 0 4 v) (field 4 4 v)
value_from kind.Ipv6 v = Ipv6 (field 0 16 v) (slice_index v 16)
value_from kind.Protocol v = Protocol (slice_index v 0)
value_from kind.Port v = Port (field 0 2 v)
value_from kind.PortRange v = PortRange (field 0 2 v) (field 2 2 v)
value_from kind.SecurityIndex v = SecurityIndex (field 0 4 v)
value_from kind.ServiceType v = ServiceType (slice_index v 0) (slice_index v 1)
value_from kind.FlowLabel v = FlowLabel (field 0 3 v)

-- two types clash if they are one, or if either is match-all
abbrev pub clash : ℕ → ℕ → Bool
clash t s = t == s || (t == 0x01 || s == 0x01)

abbrev pub clashes : ℕ → List ℕ → Bool
clashes t [] = false
clashes t (s ∷ ss) = clash t s || clashes t ss

-- a component of type t behind those of the types ts: type, room, clash, value
abbrev pub component_from : List ℕ → ℕ → List ℕ → Result Component Refusal
component_from ts t xs =
    after (found_or (kind_of t) refusal.ComponentType) (λ k.
    refuse_if (nat_lt (length xs) (size_of k)) refusal.Frame (
    refuse_if (clashes (type_of k) ts) refusal.Components (
    refuse_if (not (is_allowed (value_from k (take (size_of k) xs)))) refusal.Value (
    Ok (value_from k (take (size_of k) xs))))))

-- the components from here on, behind those read so far; n octets of the last value are still to pass
abbrev pub components_from : List Component → ℕ → List ℕ → Result (List Component) Refusal
components_from cs n [] = Ok cs
components_from cs (suc n) (x ∷ xs) = components_from cs n xs
components_from cs zero (t ∷ xs) = after (component_from (types_in cs) t xs) (λ c. components_from (cs ++ (c ∷ [])) (size_of (kind_in c)) xs)

-- all components of a rule, of which there is at least one
abbrev pub components_in : List ℕ → Result (List Component) Refusal
components_in xs = after (components_from [] 0 xs) (λ cs. refuse_if (length cs == 0) refusal.Components (Ok cs))

abbrev pub active_from : ℕ → Option Mode
active_from i =
    cond (i == 1) (Some (ActiveStandby ThreeGpp false)) (
    cond (i == 2) (Some (ActiveStandby ThreeGpp true)) (
    cond (i == 3) (Some (ActiveStandby NonThreeGpp false)) (
    cond (i == 4) (Some (ActiveStandby NonThreeGpp true)) None)))

abbrev pub priority_from : ℕ → Option Mode
priority_from i = cond (i == 1) (Some (Priority ThreeGpp)) (cond (i == 2) (Some (Priority NonThreeGpp)) None)

-- the mode of a code and its information
abbrev pub mode_from : ℕ → List ℕ → Option Mode
mode_from m [] = cond (m == 2) (Some SmallestDelay) None
mode_from m (i ∷ []) =
    cond (m == 1) (active_from i) (
    cond (m == 3) (cond (nat_le 1 i && nat_le i 11) (Some (LoadBalancing i)) None) (
    cond (m == 4) (priority_from i) None))
mode_from m (i ∷ (j ∷ is)) = None

abbrev pub descriptor_of : Option Functionality → Option Mode → Option Descriptor
descriptor_of None m = None
descriptor_of (Some f) None = None
descriptor_of (Some f) (Some m) = Some (record { functionality = f; mode = m })

-- a descriptor that says its own length
abbrev pub descriptor_from : List ℕ → Option Descriptor
descriptor_from xs =
    cond (nat_le 3 (length xs) && slice_index xs 0 == length xs)
    (descriptor_of (functionality_from (slice_index xs 1)) (mode_from (slice_index xs 2) (drop 3 xs))) None

-- the frame of a rule: its precedence, how many octets its components have, and how many it has in all
pub record FrameFields : Type 0 where
  pub precedence : ℕ
  pub components : ℕ
  pub size : ℕ

-- the length, which counts what follows it; the components and a descriptor of 3 or 4 octets fill that
abbrev pub frame_from : List ℕ → Result FrameFields Refusal
frame_from xs =
    refuse_if (nat_lt (length xs) 2) refusal.Frame (
    refuse_if (nat_lt (field 0 2 xs) 3 || nat_lt (length xs) (2 + field 0 2 xs)) refusal.Frame (
    refuse_if (not (field 0 2 xs == field 3 2 xs + 6 || field 0 2 xs == field 3 2 xs + 7)) refusal.Frame (
    Ok (record { precedence = slice_index xs 2; components = field 3 2 xs; size = 2 + field 0 2 xs }))))

-- one rule at the front of the octets, and how many it takes; a precedence that was met is refused
abbrev pub rule_from : (ℕ → Bool) → List ℕ → Result (SteeringRule × ℕ) Refusal
rule_from met xs =
    after (frame_from xs) (λ f.
    after (components_in (take f.components (drop 5 xs))) (λ cs.
    after (found_or (descriptor_from (take (f.size - (5 + f.components)) (drop (5 + f.components) xs))) refusal.Descriptor) (λ d.
    refuse_if (met f.precedence) refusal.Precedence (
    Ok (record { precedence = f.precedence; components = cs; descriptor = d }, f.size)))))
