-- Writing rules and sheets.
use Rattle.std.proofs.Common.{◌≡◌, ℕ, ◌+◌, ◌≤◌, Bool, true, ◌&&◌, leb, List, ◌++◌, length, take, drop, IfOk, Ok, MatchBool, Result, sym, refl, ap, ◌∙◌, subst, zero-add, arith, length-append}
use Rattle.std.proofs.lemmas.List.{take_at}
use Rattle.std.proofs.lemmas.Bool.{and_from, le-leb}
use Rattle.std.proofs.lemmas.Bool.Decides.{when_true}
use Rattle.terms.specs.declared.refusal.Refusal.{Refusal}
use Rattle.rules.specs.Rules.{SteeringRule, sound}
use Rattle.layouts.specs.Memory as memory
use Rattle.layouts.proofs.Writes.{written_three, length-written}
use Rattle.sheets.specs.Layout.{rules_octets, trailer, sheet_octets}
use Rattle.sheets.specs.Reading.{sheet_from}
use Rattle.sheets.specs.Writing.{WritesSheet}
use Rattle.sheets.proofs.Trips.{sheet_written}

-- where there is room, octets are written
pub writes_ok : (i : ℕ) (xs m : List ℕ) (r : Result ℕ Refusal) (m' : List ℕ) → i + length xs ≤ length m → memory.Writes i xs m r m' → (r ≡ Ok (i + length xs)) × (m' ≡ memory.written i xs m)
writes_ok i xs m r m' room w = when_true _ _ (le-leb (i + length xs) (length m) room) w

pub same_ok : {r : Result ℕ Refusal} {n k : ℕ} → r ≡ Ok n → r ≡ Ok k → k ≡ n
same_ok p q = cc

-- ---- a whole sheet

pub length_sheet : (h : List ℕ) (rs : List SteeringRule) → length (sheet_octets h rs) ≡ length h + length (rules_octets rs) + 3
length_sheet h rs = length-append h (rules_octets rs ++ trailer rs) ∙ omega (arith, length-append (rules_octets rs) (trailer rs))

when_from : {b : Bool} (P Q : Type 0) → b ≡ true → P → MatchBool b P Q
when_from P Q e p = subst (λ t. MatchBool t P Q) (sym e) p

made_from : {r : Result ℕ Refusal} {n : ℕ} (P : ℕ → Type 0) → r ≡ Ok n → P n → IfOk r P
made_from P e p = subst (λ x. IfOk x P) (sym e) p

-- three writes in a row are the sheet
pub sheet_done : (h : List ℕ) (rs : List SteeringRule) (m ts : List ℕ) (a₁ a₂ : ℕ) (m₁ m₂ m₃ : List ℕ) (r : Result ℕ Refusal)
    → ts ≡ trailer rs → length (sheet_octets h rs) ≤ 16384 → length (sheet_octets h rs) ≤ length m
    → memory.Writes 0 h m (Ok a₁) m₁ → memory.Writes a₁ (rules_octets rs) m₁ (Ok a₂) m₂ → memory.Writes a₂ ts m₂ r m₃
    → sound rs ≡ true
    → WritesSheet h rs m r m₃ × IfOk r (λ k. sheet_from (take k m₃) ≡ Ok (length h, rs))
sheet_done h rs m ts a₁ a₂ m₁ m₂ m₃ r trails limit room w₁ w₂ w₃ sounds =
    let xs = sheet_octets h rs in
    let long = length_sheet h rs in
    let first = writes_ok 0 h m (Ok a₁) m₁ (omega (arith, room, long)) w₁ in
    let at₁ : a₁ ≡ 0 + length h = same_ok first.0 refl in
    let as₁ : length m₁ ≡ length m = ap length first.1 ∙ length-written 0 h m (omega (arith, room, long)) in
    let second = writes_ok a₁ (rules_octets rs) m₁ (Ok a₂) m₂ (omega (arith, room, long, at₁, as₁)) w₂ in
    let at₂ : a₂ ≡ a₁ + length (rules_octets rs) = same_ok second.0 refl in
    let as₂ : length m₂ ≡ length m = ap length second.1 ∙ length-written a₁ (rules_octets rs) m₁ (omega (arith, room, long, at₁, as₁)) ∙ as₁ in
    let three : length ts ≡ 3 = ap length trails in
    let last = writes_ok a₂ ts m₂ r m₃ (omega (arith, room, long, at₁, at₂, as₂, three)) w₃ in
    let total : a₂ + length ts ≡ length xs = omega (arith, long, at₁, at₂, three) in
    let gives : r ≡ Ok (length xs) = last.0 ∙ ap (λ k. Ok k) total in
    let all : m₃ ≡ xs ++ drop (length xs) m
    = written_three 0 h (rules_octets rs) ts m a₁ a₂ m₁ m₂ m₃ (omega (arith, room, long, three)) at₁ first.1 at₂ second.1 last.1
    ∙ ap (λ l. (h ++ (rules_octets rs ++ l)) ++ drop (0 + length (h ++ (rules_octets rs ++ l))) m) trails
    ∙ ap (λ k. xs ++ drop k m) (zero-add (length xs)) in
    let yes : (leb (length xs) 16384 && leb (length xs) (length m)) ≡ true = and_from _ _ (le-leb (length xs) 16384 (omega (arith, limit))) (le-leb (length xs) (length m) (omega (arith, room))) in
    let back : sheet_from (take (length xs) m₃) ≡ Ok (length h, rs)
    = ap (λ l. sheet_from (take (length xs) l)) all ∙ ap sheet_from (take_at xs (drop (length xs) m) _ refl) ∙ sheet_written h rs sounds (omega (arith, limit)) in
    (when_from _ _ yes (gives, all), made_from (λ k. sheet_from (take k m₃) ≡ Ok (length h, rs)) gives back)
