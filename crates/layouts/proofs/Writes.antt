-- Laws of octets written into memory.
use Rattle.std.proofs.Common.{◌≡◌, ℕ, ◌+◌, ◌≤◌, List, ◌++◌, length, take, drop, sym, ap, ◌∙◌, append_assoc, arith}
use Rattle.std.proofs.lemmas.List.{drop_at, drop-drop, length-append, length-drop, length-take-le, take_at}
use Rattle.layouts.specs.Memory.{written}

-- one after another
module _ (i : ℕ) (xs ys m : List ℕ) (room : i + length xs ≤ length m) where
  front : length (take i m ++ xs) ≡ i + length xs
  front = length-append (take i m) xs ∙ ap (λ n. n + length xs) (length-take-le i m (omega arith))

  rest : List ℕ
  rest = drop (i + length xs) m

  parts : written i xs m ≡ (take i m ++ xs) ++ rest
  unfolding rest
  parts = sym (append_assoc (take i m) xs rest)

  pub written_then : written (i + length xs) ys (written i xs m) ≡ written i (xs ++ ys) m
  unfolding rest
  written_then =
      let before : take (i + length xs) (written i xs m) ≡ take i m ++ xs = ap (take (i + length xs)) parts ∙ take_at (take i m ++ xs) rest _ front in
      let behind : drop (i + length xs + length ys) (written i xs m) ≡ drop (i + length (xs ++ ys)) m
      = sym (drop-drop (length ys) (i + length xs) (written i xs m))
      ∙ ap (drop (length ys)) (ap (drop (i + length xs)) parts ∙ drop_at (take i m ++ xs) rest _ front)
      ∙ drop-drop (length ys) (i + length xs) m
      ∙ ap (λ n. drop n m) (omega (arith, length-append xs ys)) in
      rw (before, behind) (append_assoc (take i m) xs (ys ++ drop (i + length (xs ++ ys)) m) ∙ ap (λ l. take i m ++ l) (sym (append_assoc xs ys (drop (i + length (xs ++ ys)) m))))

pub length-written : (i : ℕ) (xs m : List ℕ) → i + length xs ≤ length m → length (written i xs m) ≡ length m
length-written i xs m room =
    length-append (take i m) (xs ++ drop (i + length xs) m)
    ∙ omega (arith, length-append xs (drop (i + length xs) m), length-take-le i m (omega arith), length-drop (i + length xs) m)

-- three writes in a row
pub written_three : (i : ℕ) (xs ys zs m : List ℕ) (a₁ a₂ : ℕ) (m₁ m₂ m₃ : List ℕ) → i + (length xs + (length ys + length zs)) ≤ length m
    → a₁ ≡ i + length xs → m₁ ≡ written i xs m → a₂ ≡ a₁ + length ys → m₂ ≡ written a₁ ys m₁ → m₃ ≡ written a₂ zs m₂
    → m₃ ≡ written i (xs ++ (ys ++ zs)) m
written_three i xs ys zs m a₁ a₂ m₁ m₂ m₃ room p₁ q₁ p₂ q₂ q₃ =
    let long : length m₁ ≡ length m = ap length q₁ ∙ length-written i xs m (omega arith) in
    q₃ ∙ (λ j. written (p₂ j) zs (q₂ j)) ∙ written_then a₁ ys zs m₁ (omega arith)
    ∙ (λ j. written (p₁ j) (ys ++ zs) (q₁ j)) ∙ written_then i xs (ys ++ zs) m (omega arith)
