-- What a rule set and a sheet that was read say.
use Rattle.std.specs.Prelude.{◌≡◌, ℕ, ◌<◌, ◌≤◌, List, length, Ok, Err, Result, slice_index_or}
use Rattle.std.specs.Borrow.{Bor}
use Rattle.terms.specs.declared.refusal.Refusal.{Refusal}
use Rattle.terms.specs.declared.refusal.Refusal.TheVariants.{Unknown}
use Rattle.rules.specs.Rules.{SteeringRule, rule_of}
use Rattle.rules.specs.declared.rule.Rule.{Rule}
use Rattle.sheets.specs.Tables.{rules_in}
use Rattle.sheets.specs.declared.rule_set.RuleSet.{RuleSet}
use Rattle.sheets.specs.declared.rule_set.reading.SheetRead.{SheetRead}

-- the rules, in the order of the sheet
abbrev pub rules_of : RuleSet → List SteeringRule
rules_of s = rules_in s.table

-- the length of the heading, and the rules
abbrev pub heading_and_rules : SheetRead → ℕ × List SteeringRule
heading_and_rules s = (s.heading, rules_of s.rules)

-- what asking for the rule at a position gives
abbrev pub At : List SteeringRule → ℕ → Result (Bor Rule) Refusal → Type 0
At rs i (Ok r) = (i < length rs) × (rule_of r.now ≡ slice_index_or rs i (rule_of r.now))
At rs i (Err e) = (length rs ≤ i) × (e ≡ Unknown)
