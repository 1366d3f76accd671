-- Laws of numbers as octets.
use Rattle.std.proofs.Common.{◌≡◌, ℕ, zero, suc, ◌+◌, ◌*◌, ◌/◌, ◌%◌, ◌^◌, ◌<◌, ◌≤◌, List, [], ◌∷◌, ◌++◌, length, get_or, take, drop, sym, refl, ap, ◌∙◌, lt_of_lt_of_le, zero-lt-suc, add-one, arith}
use native.Mathlib.Nat.{pow-le-pow_right}
use Rattle.std.specs.Int.Digits.{number_from_digits, AllBelowBase}
use Rattle.std.proofs.lemmas.Int.Digits.{number_lt, number_push}
use Rattle.std.proofs.lemmas.List.{get_or-drop, length_push, length-take-le, nil_from_length, take_all, take_more}
use Rattle.octets.specs.Numbers.{Octets, be}

pub octets_cons : (x : ℕ) (xs : List ℕ) → x < 256 → Octets xs → Octets (x ∷ xs)
octets_cons x xs h t zero = h
octets_cons x xs h t (suc i) = t i

pub octets_drop : (n : ℕ) (xs : List ℕ) → Octets xs → Octets (drop n xs)
octets_drop n xs o i = rw (get_or-drop n xs i 0) (o (n + i))

pub octets_take : (n : ℕ) (xs : List ℕ) → Octets xs → Octets (take n xs)
octets_take zero xs o i = omega arith
octets_take (suc n) [] o i = omega arith
octets_take (suc n) (x ∷ xs) o zero = o zero
octets_take (suc n) (x ∷ xs) o (suc i) = octets_take n xs (λ j. o (suc j)) i

pub length-be : (k n : ℕ) → length (be k n) ≡ k
length-be zero n = refl
length-be (suc k) n = length_push (be k (n / 256)) (n % 256) ∙ rw (length-be k (n / 256), add-one)

-- the number that the octets write is the number, where they are enough
pub number_be : (k n : ℕ) → n < 256 ^ k → number_from_digits 256 (be k n) ≡ n
number_be zero n h = omega arith
number_be (suc k) n h =
    let less : n / 256 < 256 ^ k = omega arith in
    number_push 256 (be k (n / 256)) (n % 256) ∙ rw (number_be k (n / 256) less) (omega arith)

-- octets are those of the number that they write
pub be_number : (k : ℕ) (xs : List ℕ) → length xs ≡ k → Octets xs → be k (number_from_digits 256 xs) ≡ xs
be_number zero xs l o = sym (nil_from_length xs l)
be_number (suc k) xs l o =
    let parts : xs ≡ take k xs ++ (get_or xs k 0 ∷ []) = sym (take_all (k + 1) xs (omega arith)) ∙ take_more xs k 0 (omega arith) in
    let value : number_from_digits 256 xs ≡ number_from_digits 256 (take k xs) * 256 + get_or xs k 0 = ap (number_from_digits 256) parts ∙ number_push 256 (take k xs) (get_or xs k 0) in
    let byte : get_or xs k 0 < 256 = o k in
    let high : number_from_digits 256 xs / 256 ≡ number_from_digits 256 (take k xs) = omega arith in
    let low : number_from_digits 256 xs % 256 ≡ get_or xs k 0 = omega arith in
    rw (high, low, be_number k (take k xs) (length-take-le k xs (omega arith)) (octets_take k xs o)) (sym parts)

pub under_octets : (xs : List ℕ) → Octets xs → AllBelowBase 256 xs
under_octets [] o = tt
under_octets (x ∷ xs) o = (o 0, under_octets xs (λ i. o (suc i)))

-- k octets are enough for the number
pub number_small : (k : ℕ) (xs : List ℕ) → length xs ≤ k → Octets xs → number_from_digits 256 xs < 256 ^ k
number_small k xs l o = lt_of_lt_of_le (number_lt 256 xs (under_octets xs o)) (pow-le-pow_right (zero-lt-suc 255) l)
