use Rattle.std.proofs.Common.{length}
use Rattle.layouts.proofs.Rows.{Found}
use Rattle.layouts.proofs.components.read_components.Given as goal

abbrev pub invariant-loop-rest : goal.invariant-loop-rest
invariant-loop-rest l = Found l.found l.rest l.octets

abbrev pub decreases-loop-rest : goal.decreases-loop-rest
decreases-loop-rest l = length l.rest
