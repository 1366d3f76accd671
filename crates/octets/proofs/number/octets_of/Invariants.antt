use Rattle.std.proofs.Common.{◌≡◌, ◌++◌, length, drop}
use Rattle.octets.specs.Numbers.{be}
use Rattle.octets.proofs.number.octets_of.Given as goal

-- what is left of the number stands before what is written
abbrev pub invariant-loop-i : goal.invariant-loop-i
invariant-loop-i g l = (length l.octets ≡ g.row.N) × (be l.i l.rest ++ drop l.i l.octets ≡ be g.row.N l.initial.rest)
