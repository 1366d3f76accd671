use Rattle.std.proofs.Common.{◌≡◌, Decides, rules}
use Rattle.std.proofs.lemmas.Bool.Decides.{same_from_decides}
use Rattle.std.proofs.lemmas.Slice.Eq.{slice_eq-Decides}
use Rattle.rules.specs.Rules.{rule_of}
use Rattle.rules.specs.Same.{component_eq-Decides, same_rule-Decides}
use Rattle.rules.proofs.Says.{same_said}
use Rattle.rules.proofs.rule.RulePartialEq.eq.Goals as goal

pub returns : goal.returns
returns c =
    let x = c.args.self.now in
    let y = c.args.other.now in
    let d : x.descriptor ≡ y.descriptor = search rules in
    let decides : Decides c.eq.result (rule_of x ≡ rule_of y)
    = same_said (rule_of x) (rule_of y) c.eq.result _ _ c.as_slice.ensures.value c.as_slice-2.ensures.value c.if-self-other.false d
    (slice_eq-Decides component_eq-Decides _ _ _ c.eq.ensures) in
    record { value = same_from_decides _ _ decides (same_rule-Decides (rule_of x) (rule_of y)); decides = decides }
