-- The precedences in a set.
use Rattle.std.specs.Prelude.{ℕ, Bool, false, replicate, slice_index_or}
use Rattle.layouts.specs.declared.precedences.Precedences.{Precedences}

abbrev pub has : Precedences → ℕ → Bool
has s p = slice_index_or s.marks p false

-- the set that has none of them
abbrev pub empty : Precedences
empty = record { marks = replicate 256 false }
