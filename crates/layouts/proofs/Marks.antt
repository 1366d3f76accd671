-- The set of precedences that has none.
use Rattle.std.proofs.Common.{◌≡◌, ℕ, zero, suc, false, get_or, replicate, refl}
use Rattle.layouts.specs.Precedence.{has, empty}

no_mark : (n p : ℕ) → get_or (replicate n false) p false ≡ false
no_mark zero p = refl
no_mark (suc n) zero = refl
no_mark (suc n) (suc p) = no_mark n p

pub none_has : (p : ℕ) → has empty p ≡ false
none_has p = no_mark 256 p
