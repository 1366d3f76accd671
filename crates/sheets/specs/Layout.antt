-- How a sheet is written.
use Rattle.std.specs.Prelude.{ℕ, List, ◌∷◌, ◌++◌, length}
use Rattle.std.specs.List.{flat_map}
use Rattle.octets.specs.Numbers.{be}
use Rattle.rules.specs.Rules.{SteeringRule}
use Rattle.layouts.specs.Layout.{rule_octets}

abbrev pub rules_octets : List SteeringRule → List ℕ
rules_octets rs = flat_map rule_octets rs

-- the trailer: how many rules there are, and how many octets they take
abbrev pub trailer : List SteeringRule → List ℕ
trailer rs = length rs ∷ be 2 (length (rules_octets rs))

-- A sheet: steering rules as octets, one behind the other, closed by a trailer from which the
-- first of them is found. What stands before the rules is the heading, which means nothing.
abbrev pub sheet_octets : List ℕ → List SteeringRule → List ℕ
sheet_octets heading rs = heading ++ (rules_octets rs ++ trailer rs)
