-- What writing a sheet gives, and what the memory holds then.
use Rattle.std.specs.Prelude.{◌≡◌, ℕ, ◌&&◌, List, ◌++◌, length, drop, Ok, Err, MatchBool, Result, MatchResult, nat_le}
use Rattle.terms.specs.declared.refusal.Refusal.{Refusal}
use Rattle.terms.specs.declared.refusal.Refusal.TheVariants.{Memory}
use Rattle.rules.specs.Rules.{SteeringRule}
use Rattle.sheets.specs.Layout.{sheet_octets}
use Rattle.sheets.specs.Reading.{sheet_from}

-- the sheet stands at the front of the memory m and all behind it is as it was;
-- where it passes the limit or the memory, nothing is written
abbrev pub WritesSheet : List ℕ → List SteeringRule → List ℕ → Result ℕ Refusal → List ℕ → Type 0
WritesSheet heading rs m r m' =
    MatchBool (nat_le (length (sheet_octets heading rs)) 16384 && nat_le (length (sheet_octets heading rs)) (length m))
    ((r ≡ Ok (length (sheet_octets heading rs))) × (m' ≡ sheet_octets heading rs ++ drop (length (sheet_octets heading rs)) m))
    ((r ≡ Err Memory) × (m' ≡ m))

-- octets that are a sheet stand at the front of the memory m again, octet for octet, and all behind them is as it was;
-- octets that are none, or that pass the memory, leave it as it was
abbrev pub Rewrites : List ℕ → List ℕ → Result (ℕ × List SteeringRule) Refusal → List ℕ → Type 0
Rewrites xs m r m' =
    MatchResult (sheet_from xs)
    (λ s. MatchBool (nat_le (length xs) (length m)) ((r ≡ Ok s) × (m' ≡ xs ++ drop (length xs) m)) ((r ≡ Err Memory) × (m' ≡ m)))
    (λ e. (r ≡ Err e) × (m' ≡ m))
