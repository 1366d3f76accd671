use Rattle.std.proofs.Common.{◌≡◌, ◌%◌, ◌^◌, take}
use Rattle.std.specs.Int.Digits.{number_from_digits}
use Rattle.octets.proofs.number.number_of.Given as goal

-- what has been read so far
abbrev pub invariant-loop-octet : goal.invariant-loop-octet
invariant-loop-octet l = l.number ≡ number_from_digits 256 (take l.octet-index l.octets) % 2 ^ 128
