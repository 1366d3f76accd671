-- Laws of lists.
use Rattle.std.proofs.Common.{◌≡◌, ℕ, ◌<◌, ◌≤◌, min, List, length, take, sym, ap, ◌∙◌, ⊎_elim, arith}
use Rattle.std.proofs.lemmas.List.{take_all}
use Rattle.std.proofs.lemmas.Bool.{cases_lt}

-- a front that is cut off at the list's length; nothing cites it, and it stands since a page of docs/ names it
pub take_min : {A : Type 0} (n m : ℕ) (xs : List A) → length xs ≡ m → take (min n m) xs ≡ take n xs
take_min n m xs l =
    ⊎_elim
    (λ (h : n < m). let e : min n m ≡ n = omega arith in ap (λ k. take k xs) e)
    (λ (h : m ≤ n). take_all (min n m) xs (omega arith) ∙ sym (take_all n xs (omega arith)))
    (cases_lt n m)
