-- Lists of bounded length.
use Rattle.std.specs.Prelude.{◌≡◌, ℕ, List, [], ◌∷◌, ◌++◌, length, take, replicate, Ok, Err, MatchBool, Result, nat_lt}
use Rattle.terms.specs.declared.refusal.Refusal.{Refusal}
use Rattle.rules.specs.declared.at_most.AtMost.{AtMost}

module _ {T : Type 0} {n : ℕ} where
  -- what an array with a count holds
  abbrev pub listed : AtMost T n → List T
  listed xs = take xs.count xs.array

  -- no item, with x in every place
  abbrev pub none_of : T → AtMost T n
  none_of x = record { array = replicate n x; count = 0 }

  -- what adding an item gives: it stands behind the others; to as many as there is room for none is added, and they are as they were
  abbrev pub Pushes : Refusal → AtMost T n → T → Result (Unit {0}) Refusal → AtMost T n → Type 0
  Pushes full xs x r xs' = MatchBool (nat_lt (length (listed xs)) n) ((r ≡ Ok tt) × (listed xs' ≡ listed xs ++ (x ∷ []))) ((r ≡ Err full) × (xs' ≡ xs))
