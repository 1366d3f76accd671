use Rattle.sheets.proofs.Rows.{Found}
use Rattle.sheets.proofs.rule_set.reading.read_rules.Given as goal

abbrev pub invariant-loop : goal.invariant-loop
invariant-loop l = Found l.rules l.met l.count l.counter l.rest l.octets
