-- Commands.
use Rattle.std.specs.Prelude.{◌≡◌, ℕ, ◌<◌, List, ◌++◌, length, drop, Ok, Err, codes, Result, ◌≢◌}
use Rattle.octets.specs.Numbers.{Octets}
use Rattle.texts.specs.Hexes.{hex_of}
use Rattle.texts.specs.declared.command.CommandFault.{CommandFault}
use Rattle.texts.specs.declared.command.CommandFault.TheVariants.{NoCommand, Hex}
use Rattle.texts.specs.declared.hex.HexFault.TheVariants.{NotHex, NoRoom}

-- the text that hands in octets as a sheet: one octet or more
pub record SheetCommand (text xs : List ℕ) : Type 0 where
  pub octets : Octets xs
  pub some : 0 < length xs
  pub written : text ≡ codes "S " ++ hex_of xs

-- what reading a command into memory gives, and what the memory holds then
abbrev pub ReadsCommand : List ℕ → List ℕ → Result ℕ CommandFault → List ℕ → Type 0
ReadsCommand text m (Ok n) m' = (xs : List ℕ) × SheetCommand text xs × (length xs ≡ n) × (m' ≡ xs ++ drop n m)
ReadsCommand text m (Err NoCommand) m' = ((rest : List ℕ) → text ≢ codes "S " ++ rest) × (m' ≡ m)
ReadsCommand text m (Err (Hex NotHex)) m' = (rest : List ℕ) × (text ≡ codes "S " ++ rest) × ((xs : List ℕ) → SheetCommand text xs → ⊥) × (m' ≡ m)
ReadsCommand text m (Err (Hex NoRoom)) m' = (xs : List ℕ) × SheetCommand text xs × (length m < length xs) × (m' ≡ m)
