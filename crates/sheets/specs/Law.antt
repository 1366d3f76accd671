-- Which octets are a sheet, said without the reader.
use Rattle.std.specs.Prelude.{◌≡◌, ℕ, ◌≤◌, true, List, length, take, Ok, Err, Result}
use Rattle.terms.specs.declared.refusal.Refusal.{Refusal}
use Rattle.rules.specs.Rules.{SteeringRule, sound}
use Rattle.sheets.specs.Layout.{sheet_octets}

-- the octets are the writing of a sound set under a heading, within the limit
pub record Written (xs heading : List ℕ) (rs : List SteeringRule) : Type 0 where
  pub sound_set : sound rs ≡ true
  pub layout : xs ≡ sheet_octets heading rs
  pub limit : length xs ≤ 16384

-- octets are accepted exactly where they are the writing of a sound set under some heading,
-- and they are read as that heading and that set, the only ones that they are the writing of
abbrev pub Lawful : List ℕ → Result (ℕ × List SteeringRule) Refusal → Type 0
Lawful xs (Ok x) = (x.0 ≤ length xs) × Written xs (take x.0 xs) x.1 × ((heading : List ℕ) (rs : List SteeringRule) → Written xs heading rs → (length heading ≡ x.0) × (rs ≡ x.1))
Lawful xs (Err e) = (heading : List ℕ) (rs : List SteeringRule) → Written xs heading rs → ⊥
