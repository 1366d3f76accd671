-- What is read of a rule, by what it says, and how rules are written.
use Rattle.std.specs.Prelude.{ℕ, List}
use Rattle.std.specs.List.{flat_map}
use Rattle.rules.specs.Rules.{SteeringRule, rule_of}
use Rattle.rules.specs.declared.rule.Rule.{Rule}
use Rattle.layouts.specs.Layout.{rule_octets}
use Rattle.layouts.specs.Reading.{FrameFields}
use Rattle.layouts.specs.declared.rule.Frame.{Frame}
use Rattle.layouts.specs.declared.rule.RuleRead.{RuleRead}

abbrev pub frame_of : Frame → FrameFields
frame_of f = record { precedence = f.precedence; components = f.components; size = f.size }

abbrev pub rule_and_size : RuleRead → SteeringRule × ℕ
rule_and_size r = (rule_of r.rule, r.size)

-- rules one behind the other, each by what it says
abbrev pub octets_of_rules : List Rule → List ℕ
octets_of_rules rs = flat_map (λ r. rule_octets (rule_of r)) rs
