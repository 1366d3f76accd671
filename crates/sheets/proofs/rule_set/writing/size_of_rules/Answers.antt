use Rattle.std.proofs.Common.{ap, length, sym, ◌∙◌}
use Rattle.layouts.specs.Layout.{rule_octets}
use Rattle.std.proofs.lemmas.List.Folds.{flat_map-map}
use Rattle.rules.specs.Lists.{listed}
use Rattle.rules.specs.Rules.{rule_of}
use Rattle.sheets.proofs.rule_set.writing.size_of_rules.Goals as goal

pub returns-clause-value : goal.returns-clause-value
returns-clause-value c = c.rules_size.ensures.value ∙ ap length (sym (flat_map-map rule_octets rule_of (listed c.args.set.now.table)))
