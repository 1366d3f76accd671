-- What the rules of a sheet say.
use Rattle.std.specs.Prelude.{List, map}
use Rattle.rules.specs.Lists.{listed}
use Rattle.rules.specs.Rules.{SteeringRule, rule_of}
use Rattle.rules.specs.declared.at_most.AtMost.{AtMost}
use Rattle.rules.specs.declared.rule.Rule.{Rule}

abbrev pub rules_in : AtMost Rule 128 → List SteeringRule
rules_in t = map rule_of (listed t)
