-- The code and the name of each access.
use Rattle.std.specs.Prelude.{◌≡◌, ℕ, List, codes, MatchResult, Result, ◌≢◌}
use Rattle.terms.specs.declared.refusal.Refusal.{Refusal}
use Rattle.terms.specs.declared.refusal.Refusal.TheVariants.{Unknown}
use Rattle.terms.specs.declared.access.Access.{Access}
use Rattle.terms.specs.declared.access.Access.TheVariants.{ThreeGpp, NonThreeGpp}

abbrev pub code_of : Access → ℕ
code_of ThreeGpp = 1
code_of NonThreeGpp = 2

abbrev pub name_of : Access → List ℕ
name_of ThreeGpp = codes "3GPP"
name_of NonThreeGpp = codes "non-3GPP"

-- a code is read as the access that has it; one that no access has is refused as unknown
abbrev pub HasCode : ℕ → Result Access Refusal → Type 0
HasCode code r = MatchResult r (λ a. code ≡ code_of a) (λ e. (e ≡ Unknown) × ((a : Access) → code ≢ code_of a))
