-- Laws of commands.
use Rattle.std.proofs.Common.{◌≡◌, ℕ, true, nat_eq, List, ◌++◌, length, drop, codes, sym, ap, arith}
use Rattle.std.proofs.lemmas.Bool.{eqb-true}
use Rattle.texts.specs.Commands.{SheetCommand}
use Rattle.texts.specs.Hexes.{hex_of}
use Rattle.texts.proofs.Hexes.{length_hex}

-- no sheet is handed in with no text
pub no_text : (text : List ℕ) → true ≡ nat_eq (length text) 0 → (xs : List ℕ) → SheetCommand (codes "S " ++ text) xs → ⊥
no_text text none xs s =
    let e : codes "S " ++ text ≡ codes "S " ++ hex_of xs = s.written in
    let same : text ≡ hex_of xs = ap (drop 2) e in
    omega (arith, eqb-true (length text) 0 (sym none), ap length same, length_hex xs, s.some)
