-- Octets as text in hexadecimal.
use Rattle.std.specs.Prelude.{◌≡◌, ℕ, ◌+◌, ◌-◌, ◌*◌, ◌/◌, ◌%◌, ◌<◌, Bool, true, cond, ◌&&◌, ◌||◌, List, [], ◌∷◌, ◌++◌, length, drop, Ok, Err, Result, ◌≢◌, nat_le, nat_lt}
use Rattle.octets.specs.Numbers.{Octets}
use Rattle.texts.specs.declared.hex.HexFault.{HexFault}
use Rattle.texts.specs.declared.hex.HexFault.TheVariants.{NotHex, NoRoom}

-- `0` to `9`, then `A` to `F`
abbrev pub digit : ℕ → ℕ
digit d = cond (nat_lt d 10) (48 + d) (55 + d)

-- two digits for each octet
abbrev pub hex_of : List ℕ → List ℕ
hex_of [] = []
hex_of (x ∷ xs) = digit (x / 16) ∷ (digit (x % 16) ∷ hex_of xs)

-- the text stands for these octets and no others
pub record Stands (text xs : List ℕ) : Type 0 where
  pub octets : Octets xs
  pub written : text ≡ hex_of xs
  pub only : (ys : List ℕ) → Octets ys → text ≡ hex_of ys → ys ≡ xs

-- what reading a text into memory gives, and what the memory holds then
abbrev pub ReadsHex : List ℕ → List ℕ → Result ℕ HexFault → List ℕ → Type 0
ReadsHex text m (Ok n) m' = (xs : List ℕ) × Stands text xs × (length xs ≡ n) × (m' ≡ xs ++ drop n m)
ReadsHex text m (Err NotHex) m' = ((xs : List ℕ) → Octets xs → text ≢ hex_of xs) × (m' ≡ m)
ReadsHex text m (Err NoRoom) m' = (xs : List ℕ) × Stands text xs × (length m < length xs) × (m' ≡ m)

-- a character that is a digit, and the number that it stands for
abbrev pub is_digit : ℕ → Bool
is_digit c = (nat_le 48 c && nat_le c 57) || (nat_le 65 c && nat_le c 70)

abbrev pub all_digits : List ℕ → Bool
all_digits [] = true
all_digits (c ∷ cs) = is_digit c && all_digits cs

abbrev pub value : ℕ → ℕ
value c = cond (nat_lt c 65) (c - 48) (c - 55)

-- an octet for each two digits
abbrev pub paired : List ℕ → List ℕ
paired [] = []
paired (a ∷ []) = []
paired (a ∷ (b ∷ cs)) = (value a * 16 + value b) ∷ paired cs
