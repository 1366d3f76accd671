use Rattle.std.proofs.Common.{map, take}
use Rattle.std.specs.Fmt.{IsPlainFormatter, HasWritten}
use Rattle.rules.specs.Rules.{rule_of}
use Rattle.texts.specs.Sheets.{rows_from}
use Rattle.texts.proofs.sheet.WordsRefSliceRuleDisplay.fmt.Given as goal

-- the rows so far are written
abbrev pub invariant-loop-i : goal.invariant-loop-i
invariant-loop-i g l = IsPlainFormatter l.initial.f → HasWritten g.W.Write.write_str_gives l.initial.f (rows_from 0 (map rule_of (take l.i-counter l.fn.self.0.now))) l.f
