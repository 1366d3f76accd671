use Rattle.std.proofs.Common.{◌≡◌, ◌*◌, ◌≤◌, drop}
use Rattle.std.specs.Fmt.{IsPlainFormatter, HasWritten}
use Rattle.std.specs.Iterator.Adapters.{enumerate_count, enumerate_source}
use Rattle.std.specs.Slice.Iter.{chunks_rest, chunks_size}
use Rattle.texts.specs.Words.{groups}
use Rattle.texts.proofs.words.GroupedDisplay.fmt.Given as goal

-- the groups so far are written, and the octets behind them are left
abbrev pub invariant-loop-i : goal.invariant-loop-i
invariant-loop-i g l =
    (goal.iterator-loop-i g).can_next l.i-iterator
    × (goal.iterator-loop-i g).is_finite l.i-iterator
    × (chunks_size (enumerate_source l.i-iterator) ≡ 2)
    × (enumerate_count l.i-iterator ≤ 8)
    × (chunks_rest (enumerate_source l.i-iterator) ≡ drop (2 * enumerate_count l.i-iterator) l.fn.self.0)
    × (IsPlainFormatter l.initial.f → HasWritten g.W.Write.write_str_gives l.initial.f (groups (enumerate_count l.i-iterator) l.fn.self.0) l.f)
