-- Laws of `==`: refusals are equal exactly where their numbers are, and where they are the same.
use Rattle.std.proofs.Common.{◌≡◌, ◌==◌, IsTrue, ◌↔◌, Decides, arith}
use Rattle.std.proofs.lemmas.Bool.Decides.{nat_tests}
use Rattle.terms.specs.Refusals.{number_of}
use Rattle.terms.specs.contracts.refusal.RefusalPartialEq.TheImpl as RefusalPartialEq
use Rattle.terms.specs.declared.refusal.Refusal.{Refusal}

-- the derived `==` compares the numbers
pub refusal_eq : (x y : Refusal) → RefusalPartialEq.ghosts.eq x y ≡ (number_of x == number_of y)
refusal_eq x y = grind (arith, nat_tests)

-- `==` of refusals is true exactly where the two are the same
abbrev pub RefusalEqIsExact : Type 0
RefusalEqIsExact = (x y : Refusal) → IsTrue (RefusalPartialEq.ghosts.eq x y) ↔ (x ≡ y)

pub refusal_eq-Decides : (x y : Refusal) → Decides (RefusalPartialEq.ghosts.eq x y) (x ≡ y)
refusal_eq-Decides x y = grind (arith, nat_tests)
