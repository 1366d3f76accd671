-- Laws of octets as text.
use Rattle.std.proofs.Common.{◌≡◌, ℕ, suc, ◌+◌, ◌*◌, ◌/◌, ◌%◌, ◌-◌, ◌^◌, ◌<◌, Some, true, false, ◌&&◌, List, [], ◌∷◌, ◌++◌, length, get_or, take, drop, sym, refl, ap, ◌∙◌, arith}
use Rattle.std.specs.List.{list_all}
use Rattle.std.specs.Fmt.{digits, digits_output, format_spec, styled_digits_output}
use Rattle.std.proofs.lemmas.Fmt.{hex_byte}
use Rattle.std.proofs.lemmas.List.{take_more}
use Rattle.std.proofs.lemmas.Bool.{and_from, and_parts, false≢true}
use Rattle.std.proofs.lemmas.Bool.Decides.{nat_tests}
use Rattle.octets.specs.Numbers.{Octets}
use Rattle.octets.proofs.Numbers.{octets_cons}
use Rattle.texts.specs.Hexes.{Stands, digit, hex_of, is_digit, all_digits, value, paired}

hex_append : (xs ys : List ℕ) → hex_of (xs ++ ys) ≡ hex_of xs ++ hex_of ys
hex_append [] ys = refl
hex_append (x ∷ xs) ys = ap (λ l. digit (x / 16) ∷ (digit (x % 16) ∷ l)) (hex_append xs ys)

-- what `{:02X}` writes of an octet
pub two_digits : (n : ℕ) (d : _) (s : _) → n < 256 → digits_output d ≡ Some (digits 16 true n) → s ≡ format_spec 32 0 4 2 (2 ^ 64 - 1) → styled_digits_output d s ≡ Some (digit (n / 16) ∷ (digit (n % 16) ∷ []))
two_digits n d s byte e f = rw (e, f) (ap Some (hex_byte true n byte))

-- one octet more
pub hex_more : (xs : List ℕ) (i : ℕ) → i < length xs → hex_of (take i xs) ++ (digit (get_or xs i 0 / 16) ∷ (digit (get_or xs i 0 % 16) ∷ [])) ≡ hex_of (take (i + 1) xs)
hex_more xs i h = sym (ap hex_of (take_more xs i 0 h) ∙ hex_append (take i xs) (get_or xs i 0 ∷ []))

pub digits_all : (xs : List ℕ) → list_all is_digit xs ≡ all_digits xs
digits_all [] = refl
digits_all (x ∷ xs) = ap (λ b. is_digit x && b) (digits_all xs)

-- the first n octets of the memory m are those of the text before the rest; behind them it is as it was
pub record Filled (text m₀ : List ℕ) (n : ℕ) (rest m : List ℕ) : Type 0 where
  pub digits : all_digits rest ≡ true
  pub left : length rest + 2 * n ≡ length text
  pub front : take n m ++ paired rest ≡ paired text
  pub behind : drop n m ≡ drop n m₀

digit_value : (c : ℕ) → is_digit c ≡ true → (digit (value c) ≡ c) × (value c < 16)
digit_value c e = (grind (arith, nat_tests), grind (arith, nat_tests))

digit_is : (d : ℕ) → d < 16 → is_digit (digit d) ≡ true
digit_is d h = grind (arith, nat_tests)

-- digits in pairs are the text of the octets that they make
hex_paired : (text : List ℕ) → length text % 2 ≡ 0 → all_digits text ≡ true → (hex_of (paired text) ≡ text) × Octets (paired text) × (length (paired text) ≡ length text / 2)
hex_paired [] even all = (refl, (λ i. omega arith), refl)
hex_paired (a ∷ []) even all = absurd (omega arith)
hex_paired (a ∷ (b ∷ t)) even all =
    let p = and_parts (is_digit a) (is_digit b && all_digits t) all in
    let q = and_parts (is_digit b) (all_digits t) p.1 in
    let high = digit_value a p.0 in
    let low = digit_value b q.0 in
    let rest = hex_paired t (omega arith) q.1 in
    let x = value a * 16 + value b in
    let up : x / 16 ≡ value a = omega arith in
    let down : x % 16 ≡ value b = omega arith in
    (rw (up, down, high.0, low.0, rest.0), octets_cons x (paired t) (omega arith) rest.1, omega arith)

pub length_hex : (xs : List ℕ) → length (hex_of xs) ≡ 2 * length xs
length_hex [] = refl
length_hex (x ∷ xs) = omega (arith, length_hex xs)

hex_digits : (xs : List ℕ) → Octets xs → all_digits (hex_of xs) ≡ true
hex_digits [] o = refl
hex_digits (x ∷ xs) o =
    let byte : x < 256 = o 0 in
    and_from _ _ (digit_is (x / 16) (omega arith)) (and_from _ _ (digit_is (x % 16) (omega arith)) (hex_digits xs (λ i. o (suc i))))

-- what is no text of octets
pub odd_no_hex : (text : List ℕ) → (length text % 2 ≡ 0 → ⊥) → (xs : List ℕ) → Octets xs → text ≡ hex_of xs → ⊥
odd_no_hex text odd xs o e = odd (let l : length text ≡ 2 * length xs = ap length e ∙ length_hex xs in omega arith)

pub other_no_hex : (text : List ℕ) → false ≡ all_digits text → (xs : List ℕ) → Octets xs → text ≡ hex_of xs → ⊥
other_no_hex text other xs o e = false≢true (other ∙ ap all_digits e ∙ hex_digits xs o)

value_digit : (d : ℕ) → d < 16 → value (digit d) ≡ d
value_digit d h = grind (arith, nat_tests)

paired_hex : (xs : List ℕ) → Octets xs → paired (hex_of xs) ≡ xs
paired_hex [] o = refl
paired_hex (x ∷ xs) o =
    let byte : x < 256 = o 0 in
    let whole : value (digit (x / 16)) * 16 + value (digit (x % 16)) ≡ x
    = omega (arith, value_digit (x / 16) (omega arith), value_digit (x % 16) (omega arith)) in
    rw (whole, paired_hex xs (λ i. o (suc i)))

-- an even number of digits stands for octets
pub stands : (text : List ℕ) → length text % 2 ≡ 0 → all_digits text ≡ true → Stands text (paired text) × (length (paired text) ≡ length text / 2)
stands text even all =
    let p = hex_paired text even all in
    (record { octets = p.1; written = sym p.0; only = λ ys o e. sym (paired_hex ys o) ∙ ap paired (sym e) }, p.2)

-- octets are told by their text
pub hex_same : (xs ys : List ℕ) → Octets xs → Octets ys → hex_of xs ≡ hex_of ys → xs ≡ ys
hex_same xs ys o p e = sym (paired_hex xs o) ∙ ap paired e ∙ paired_hex ys p
