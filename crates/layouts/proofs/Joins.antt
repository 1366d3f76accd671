-- Laws of octets that are joined from those of each element of a list.
use Rattle.std.proofs.Common.{◌≡◌, ℕ, ◌+◌, ◌<◌, ◌≤◌, List, [], ◌++◌, length, get_or, take, sym, ap, ◌∙◌, arith}
use Rattle.std.specs.List.{flat_map}
use Rattle.std.proofs.lemmas.List.{flat_map_more, length-append, take_more}
use Rattle.std.proofs.lemmas.List.Folds.{length-flat_map-take}
use Rattle.layouts.specs.Memory.{written}
use Rattle.layouts.proofs.Writes.{written_then}

-- the octets of the first i elements stand in the memory from a place on, up to `end`
pub record Placed {X : Type 0} (f : X → List ℕ) (xs : List X) (at : ℕ) (m₀ : List ℕ) (i end : ℕ) (m : List ℕ) : Type 0 where
  pub end_is : end ≡ at + length (flat_map f (take i xs))
  pub memory_is : m ≡ written at (flat_map f (take i xs)) m₀

module _ {X : Type 0} (f : X → List ℕ) (xs : List X) (at : ℕ) (m₀ : List ℕ) (room : at + length (flat_map f xs) ≤ length m₀) where
  module _ (i end : ℕ) (m : List ℕ) (d : X) (within : i < length xs) (so_far : Placed f xs at m₀ i end m) where
    pub placed_room : end + length (f (get_or xs i d)) ≤ length m₀
    placed_room = omega (arith, so_far.end_is, length-flat_map-take f xs i d within)

    pub placed_more : (end' : ℕ) (m' : List ℕ) → end' ≡ end + length (f (get_or xs i d)) → m' ≡ written end (f (get_or xs i d)) m → Placed f xs at m₀ (i + 1) end' m'
    placed_more end' m' p q =
        let y = f (get_or xs i d) in
        let ys = flat_map f (take i xs) in
        let step : flat_map f (take (i + 1) xs) ≡ ys ++ y = ap (flat_map f) (take_more xs i d within) ∙ sym (flat_map_more f [] (take i xs) (get_or xs i d)) in
        record {
          end_is = omega (arith, p, so_far.end_is, ap length step, length-append ys y);
          memory_is =
              q ∙ (λ j. written (so_far.end_is j) y (so_far.memory_is j))
              ∙ written_then at ys y m₀ (omega (arith, length-flat_map-take f xs i d within)) ∙ ap (λ l. written at l m₀) (sym step);
        }
