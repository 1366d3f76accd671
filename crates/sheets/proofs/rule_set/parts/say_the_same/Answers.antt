use Rattle.std.proofs.Common.{◌≡◌, map, sym, ◌∙◌}
use Rattle.std.proofs.lemmas.Slice.Eq.{slice_eq-Decides}
use Rattle.std.specs.Cmp.Derive.Mapped.{pointwise-map}
use Rattle.std.specs.Cmp.Lexicographic.{pointwise}
use Rattle.rules.specs.Rules.{rule_of, same_rule}
use Rattle.rules.specs.Same.{same_rule-Decides}
use Rattle.sheets.proofs.rule_set.parts.say_the_same.Goals as goal

pub returns : goal.returns
returns c =
    let left = map rule_of c.args.left.now in
    let right = map rule_of c.args.right.now in
    let value : c.eq.result ≡ pointwise same_rule left right = c.eq.ensures ∙ sym (pointwise-map rule_of same_rule c.args.left.now c.args.right.now) in
    record { value = value; decides = slice_eq-Decides same_rule-Decides left right c.eq.result value }
