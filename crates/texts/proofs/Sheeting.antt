-- Laws of sheets in words.
use Rattle.std.proofs.Common.{◌≡◌, ℕ, zero, suc, ◌+◌, ◌<◌, List, [], ◌∷◌, ◌++◌, map, length, get_or, take, sym, ap, ◌∙◌, append_assoc, append-nil, add-one, le_of_suc-le-suc, not-suc-le-zero, arith}
use Rattle.rules.specs.Rules.{rule_of}
use Rattle.rules.specs.declared.rule.Rule.{Rule}
use Rattle.texts.specs.Sheets.{rule_row, rows_from}

-- one row more, where the rows stand from position k on
row_more : (k : ℕ) (rules : List Rule) (i : ℕ) (d : Rule) → i < length rules → rows_from k (map rule_of (take i rules)) ++ rule_row (k + i) (rule_of (get_or rules i d)) ≡ rows_from k (map rule_of (take (suc i) rules))
row_more k [] i d h = absurd (not-suc-le-zero h)
row_more k (r ∷ rs) zero d h = let e : k + 0 ≡ k = omega arith in rw e (sym (append-nil (rule_row k (rule_of r))))
row_more k (r ∷ rs) (suc i) d h =
    let e : k + suc i ≡ suc k + i = omega arith in
    let first = rule_row k (rule_of r) in
    append_assoc first (rows_from (suc k) (map rule_of (take i rs))) _ ∙ ap (λ l. first ++ l) (rw e (row_more (suc k) rs i d (le_of_suc-le-suc h)))

pub rows_more : (rules : List Rule) (i : ℕ) (d : Rule) → i < length rules → rows_from 0 (map rule_of (take i rules)) ++ rule_row i (rule_of (get_or rules i d)) ≡ rows_from 0 (map rule_of (take (i + 1) rules))
rows_more rules i d h = let e : 0 + i ≡ i = omega arith in rw add-one (rw e at (row_more 0 rules i d h))
