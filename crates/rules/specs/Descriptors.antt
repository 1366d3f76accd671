-- Access descriptors.
use Rattle.std.specs.Prelude.{ℕ, ◌-◌, ◌*◌, Bool, true, false, cond, ◌&&◌, ◌==◌, Some, None, Option, nat_le}
use Rattle.std.specs.Bool.{beq}
use Rattle.terms.specs.Accesses.{code_of}
use Rattle.rules.specs.declared.descriptor.Functionality.{Functionality}
use Rattle.rules.specs.declared.descriptor.Functionality.TheVariants.{OnlyOne, Mptcp, AtsssLl}
use Rattle.rules.specs.declared.descriptor.Mode.{Mode}
use Rattle.rules.specs.declared.descriptor.Descriptor.{Descriptor}
use Rattle.rules.specs.declared.descriptor.Mode.TheVariants.{ActiveStandby, SmallestDelay, LoadBalancing, Priority}

-- the octet by which a sheet names a functionality
abbrev pub functionality_code : Functionality → ℕ
functionality_code OnlyOne = 1
functionality_code Mptcp = 2
functionality_code AtsssLl = 3

-- the functionality that has this octet
abbrev pub functionality_from : ℕ → Option Functionality
functionality_from f = cond (f == 1) (Some OnlyOne) (cond (f == 2) (Some Mptcp) (cond (f == 3) (Some AtsssLl) None))

-- load balancing has one of eleven shares
abbrev pub is_allowed_mode : Mode → Bool
is_allowed_mode (ActiveStandby active standby) = true
is_allowed_mode SmallestDelay = true
is_allowed_mode (LoadBalancing k) = nat_le 1 k && nat_le k 11
is_allowed_mode (Priority first) = true

-- the percentage of a rule's octets that 3GPP is to carry, where the mode splits
abbrev pub share : Mode → Option ℕ
share (ActiveStandby active standby) = None
share SmallestDelay = None
share (LoadBalancing k) = cond (is_allowed_mode (LoadBalancing k)) (Some (110 - 10 * k)) None
share (Priority first) = Some 50

-- whether two descriptors are the same: their functionalities are, and their modes with what these carry
abbrev pub same_functionality : Functionality → Functionality → Bool
same_functionality OnlyOne OnlyOne = true
same_functionality Mptcp Mptcp = true
same_functionality AtsssLl AtsssLl = true
same_functionality _ _ = false

abbrev pub same_mode : Mode → Mode → Bool
same_mode (ActiveStandby a s) (ActiveStandby b t) = code_of a == code_of b && beq s t
same_mode SmallestDelay SmallestDelay = true
same_mode (LoadBalancing k) (LoadBalancing l) = k == l
same_mode (Priority a) (Priority b) = code_of a == code_of b
same_mode _ _ = false

abbrev pub same_descriptor : Descriptor → Descriptor → Bool
same_descriptor x y = same_functionality x.functionality y.functionality && same_mode x.mode y.mode
