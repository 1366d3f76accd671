use Rattle.std.proofs.Common.{◌≡◌}
use Rattle.std.specs.Iterator.Adapters.{enumerate_count, enumerate_source}
use Rattle.std.specs.Slice.Iter.{chunks_exact_rest, chunks_exact_size}
use Rattle.texts.proofs.Hexes.{Filled}
use Rattle.texts.proofs.hex.fill.Given as goal

abbrev pub invariant-loop-i : goal.invariant-loop-i
invariant-loop-i l =
    goal.iterator-loop-i.can_next l.i-iterator
    × goal.iterator-loop-i.is_finite l.i-iterator
    × (chunks_exact_size (enumerate_source l.i-iterator) ≡ 2)
    × Filled l.fn.text l.initial.memory (enumerate_count l.i-iterator) (chunks_exact_rest (enumerate_source l.i-iterator)) l.memory
