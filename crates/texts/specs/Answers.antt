-- What is answered to a command: a value, and its words.
use Rattle.std.specs.Prelude.{◌≡◌, ℕ, List, ◌++◌, take, Ok, Err, codes, decimal, Result, ◌≢◌}
use Rattle.terms.specs.Refusals.{number_of, words_of}
use Rattle.terms.specs.declared.refusal.Refusal.{Refusal}
use Rattle.terms.specs.declared.refusal.Refusal.TheVariants.{SheetSize}
use Rattle.rules.specs.Lists.{listed}
use Rattle.rules.specs.Rules.{SteeringRule}
use Rattle.sheets.specs.Reading.{sheet_from}
use Rattle.sheets.specs.Sets.{rules_of}
use Rattle.texts.specs.Commands.{SheetCommand}
use Rattle.texts.specs.Sheets.{sheet_words}
use Rattle.texts.specs.declared.answer.Accepted.{Accepted}
use Rattle.texts.specs.declared.answer.NotAccepted.{NotAccepted}
use Rattle.texts.specs.declared.answer.NotAccepted.TheVariants as reason
use Rattle.texts.specs.declared.command.CommandFault.{CommandFault}
use Rattle.texts.specs.declared.command.CommandFault.TheVariants.{NoCommand, Hex}
use Rattle.texts.specs.declared.hex.HexFault.TheVariants.{NotHex, NoRoom}

-- what an answer tells: the octets of a sheet as they were written again, the length of its heading
-- and its rules; a refusal; that the text hands in no octets; or that it does not begin as a command does
pub data Told : Type 0 where
  accepted : List ℕ → ℕ → List SteeringRule → Told
  refused : Refusal → Told
  bad_hex : Told
  bad_command : Told

-- what was written
abbrev pub written_in : Accepted → List ℕ
written_in a = listed a.written

-- the heading in it
abbrev pub heading_written : Accepted → List ℕ
heading_written a = take a.found.heading (written_in a)

-- the rules that were read
abbrev pub rules_found : Accepted → List SteeringRule
rules_found a = rules_of a.found.rules

abbrev pub told_of : Result Accepted NotAccepted → Told
told_of (Ok a) = accepted (written_in a) a.found.heading (rules_found a)
told_of (Err (reason.Refused e)) = refused e
told_of (Err reason.NoHex) = bad_hex
told_of (Err reason.NoCommand) = bad_command

-- to octets handed in as a sheet: the same octets with what they are read as, or the refusal
abbrev pub sheet_told : List ℕ → Result (ℕ × List SteeringRule) Refusal → Told
sheet_told xs (Ok s) = accepted xs s.0 s.1
sheet_told xs (Err e) = refused e

-- to a text that is not read into memory for as many octets as a sheet has
abbrev pub fault_told : CommandFault → Told
fault_told NoCommand = bad_command
fault_told (Hex NotHex) = bad_hex
fault_told (Hex NoRoom) = refused SheetSize

-- to a text that hands in a sheet, to another text that begins like one, and to any other
pub record Answers (text : List ℕ) (told : Told) : Type 0 where
  pub to_sheet : (xs : List ℕ) → SheetCommand text xs → told ≡ sheet_told xs (sheet_from xs)
  pub to_other : (rest : List ℕ) → text ≡ codes "S " ++ rest → ((xs : List ℕ) → SheetCommand text xs → ⊥) → told ≡ bad_hex
  pub to_unknown : ((rest : List ℕ) → text ≢ codes "S " ++ rest) → told ≡ bad_command

-- a refusal in words: its number first
abbrev pub refusal_words : Refusal → List ℕ
refusal_words e = codes "no " ++ (decimal (number_of e) ++ (codes " " ++ words_of e))

-- an answer in words
abbrev pub told_words : Told → List ℕ
told_words (accepted xs heading rs) = sheet_words (take heading xs) rs xs
told_words (refused e) = refusal_words e
told_words bad_hex = codes "no hex: two of the digits 0-9 and A-F for each octet, one octet or more"
told_words bad_command = codes "no command: S, one space and a sheet in hex"
