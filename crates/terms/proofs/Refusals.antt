-- Refusals by their numbers.
use Rattle.std.proofs.Common.{◌≡◌, ◌==◌, Decides, arith}
use Rattle.std.proofs.lemmas.Bool.Decides.{nat_tests}
use Rattle.terms.specs.Refusals.{number_of}
use Rattle.terms.specs.declared.refusal.Refusal.{Refusal}

-- the numbers are equal exactly where the refusals are
pub number_of-Decides : (x y : Refusal) → Decides (number_of x == number_of y) (x ≡ y)
number_of-Decides x y = grind (arith, nat_tests)
