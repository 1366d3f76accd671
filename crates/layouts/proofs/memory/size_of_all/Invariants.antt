use Rattle.std.proofs.Common.{◌≡◌, ◌*◌, ◌≤◌, length, take}
use Rattle.std.specs.List.{flat_map}
use Rattle.layouts.proofs.memory.size_of_all.Given as goal

-- the size of the items so far
abbrev pub invariant-loop-item : goal.invariant-loop-item
invariant-loop-item g l = (l.size ≡ length (flat_map g.T.InOctets.octets (take l.item-index l.items))) × (l.size ≤ g.T.Measured.most * l.item-index)
