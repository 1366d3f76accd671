-- The octets of a number, the highest first.
use Rattle.std.specs.Prelude.{ℕ, zero, suc, ◌/◌, ◌%◌, ◌<◌, List, [], ◌∷◌, ◌++◌, slice_index}

-- numbers below 256
abbrev pub Octets : List ℕ → Type 0
Octets xs = (i : ℕ) → slice_index xs i < 256

-- the last k octets of n
abbrev pub be : ℕ → ℕ → List ℕ
be zero n = []
be (suc k) n = be k (n / 256) ++ (n % 256 ∷ [])
