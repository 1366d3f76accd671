use Rattle.std.proofs.Common.{sym, subst}
use Rattle.layouts.specs.Layout.{rule_octets}
use Rattle.layouts.specs.Memory.{Writes}
use Rattle.std.proofs.lemmas.List.Folds.{flat_map-map}
use Rattle.rules.specs.Lists.{listed}
use Rattle.rules.specs.Rules.{rule_of}
use Rattle.sheets.proofs.rule_set.writing.place_rules.Goals as goal

pub returns : goal.returns
returns c = subst (λ xs. Writes c.args.at xs c.args.memory.now c.write_rules.result c.write_rules.new.memory) (sym (flat_map-map rule_octets rule_of (listed c.args.set.now.table))) c.write_rules.ensures
