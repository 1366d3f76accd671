-- Octets written into memory.
use Rattle.std.specs.Prelude.{◌≡◌, ℕ, ◌+◌, List, ◌++◌, length, take, drop, Ok, Err, MatchBool, Result, nat_le}
use Rattle.terms.specs.declared.refusal.Refusal.{Refusal}
use Rattle.terms.specs.declared.refusal.Refusal.TheVariants.{Memory}

-- the memory with these octets from place i on, and all else as it was
abbrev pub written : ℕ → List ℕ → List ℕ → List ℕ
written i xs m = take i m ++ (xs ++ drop (i + length xs) m)

-- what writing octets from place i on gives, and what the memory holds then: all of them, or none
abbrev pub Writes : ℕ → List ℕ → List ℕ → Result ℕ Refusal → List ℕ → Type 0
Writes i xs m r m' = MatchBool (nat_le (i + length xs) (length m)) ((r ≡ Ok (i + length xs)) × (m' ≡ written i xs m)) ((r ≡ Err Memory) × (m' ≡ m))
