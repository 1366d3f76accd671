-- What octets are read as, and which refusal comes first.
use Rattle.std.specs.Prelude.{ℕ, zero, suc, ◌-◌, ◌||◌, List, [], ◌∷◌, ◌++◌, map, length, take, drop, Ok, Result, ◌==◌, nat_lt, slice_index}
use Rattle.terms.specs.Replies.{refuse_if, after}
use Rattle.terms.specs.declared.refusal.Refusal.{Refusal}
use Rattle.terms.specs.declared.refusal.Refusal.TheVariants.{SheetSize, RuleCount, Distance, Surplus}
use Rattle.rules.specs.Rules.{SteeringRule, elem}
use Rattle.layouts.specs.Reading.{field, rule_from}

abbrev pub precedences : List SteeringRule → List ℕ
precedences rs = map (λ r. r.precedence) rs

-- n rules from here on, behind those read so far, and nothing behind them
abbrev pub rules_from : ℕ → List SteeringRule → List ℕ → Result (List SteeringRule) Refusal
rules_from zero before xs = refuse_if (nat_lt 0 (length xs)) Surplus (Ok before)
rules_from (suc n) before xs = after (rule_from (λ p. elem p (precedences before)) xs) (λ x. rules_from n (before ++ (x.0 ∷ [])) (drop x.1 xs))

-- the trailer is the last three octets
abbrev pub count_in : List ℕ → ℕ
count_in xs = slice_index xs (length xs - 3)

abbrev pub distance_in : List ℕ → ℕ
distance_in xs = field (length xs - 2) 2 xs

-- how many octets stand before the first rule
abbrev pub heading_in : List ℕ → ℕ
heading_in xs = (length xs - 3) - distance_in xs

-- the length of the heading, and the rules
abbrev pub sheet_from : List ℕ → Result (ℕ × List SteeringRule) Refusal
sheet_from xs =
    refuse_if (nat_lt (length xs) 3 || nat_lt 16384 (length xs)) SheetSize (
    refuse_if (count_in xs == 0 || nat_lt 128 (count_in xs)) RuleCount (
    refuse_if (nat_lt (length xs - 3) (distance_in xs)) Distance (
    after (rules_from (count_in xs) [] (take (distance_in xs) (drop (heading_in xs) xs))) (λ rs. Ok (heading_in xs, rs)))))
