use Rattle.layouts.proofs.Joins.{Placed}
use Rattle.layouts.proofs.memory.AtMostInOctets.place.Given as goal

-- the items so far are written
abbrev pub invariant-loop-item : goal.invariant-loop-item
invariant-loop-item g l = Placed g.T.InOctets.octets l.item-items l.at l.initial.memory l.item-index l.end l.memory
