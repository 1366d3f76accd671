-- Sheets in words.
use Rattle.std.specs.Prelude.{ℕ, suc, List, [], ◌∷◌, ◌++◌, length, codes, decimal}
use Rattle.rules.specs.Rules.{SteeringRule}
use Rattle.texts.specs.Hexes.{hex_of}
use Rattle.texts.specs.Words.{rule_words}

-- the row of the rule at position i
abbrev pub rule_row : ℕ → SteeringRule → List ℕ
rule_row i r = codes " rule " ++ (decimal i ++ (codes ": " ++ (rule_words r ++ codes "\n")))

-- the rows of rules that stand from position i on
abbrev pub rows_from : ℕ → List SteeringRule → List ℕ
rows_from i [] = []
rows_from i (r ∷ rs) = rule_row i r ++ rows_from (suc i) rs

-- the heading, each rule, and the octets written back
abbrev pub sheet_words : List ℕ → List SteeringRule → List ℕ → List ℕ
sheet_words heading rs written =
    (codes "ok\n heading [" ++ (hex_of heading ++ (codes "], length " ++ (decimal (length heading) ++ codes "\n"))))
    ++ (rows_from 0 rs ++ (codes " written back [" ++ (hex_of written ++ codes "], the same octets")))
