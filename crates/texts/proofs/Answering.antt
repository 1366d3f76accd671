-- Laws of the answers to commands.
use Rattle.std.proofs.Common.{◌≡◌, ℕ, ◌≤◌, List, ◌++◌, length, take, drop, Ok, Err, codes, sym, ap, ◌∙◌, subst, inr, arith, length-append}
use Rattle.std.proofs.lemmas.List.{take_at}
use Rattle.terms.specs.declared.refusal.Refusal.{Refusal}
use Rattle.rules.specs.Rules.{SteeringRule}
use Rattle.sheets.specs.Reading.{sheet_from}
use Rattle.sheets.specs.Writing.{Rewrites}
use Rattle.sheets.proofs.Refused.{size_refused}
use Rattle.texts.specs.Answers.{Answers, Told, accepted, refused, sheet_told, fault_told}
use Rattle.texts.specs.Commands.{SheetCommand, ReadsCommand}
use Rattle.texts.specs.Hexes.{hex_of}
use Rattle.texts.specs.declared.command.CommandFault.{CommandFault}
use Rattle.texts.specs.declared.command.CommandFault.TheVariants.{NoCommand, Hex}
use Rattle.texts.specs.declared.hex.HexFault.TheVariants.{NotHex, NoRoom}
use Rattle.texts.proofs.Hexes.{hex_same}

-- what a sheet that was written again was read as
rewrites_ok : (xs m : List ℕ) (s : ℕ × List SteeringRule) (m' : List ℕ) → Rewrites xs m (Ok s) m' → (Ok s ≡ sheet_from xs) × (m' ≡ xs ++ drop (length xs) m)
rewrites_ok xs m s m' w = (grind arith, grind arith)

-- and why it was refused, where there is room for it
rewrites_err : (xs m : List ℕ) (e : Refusal) (m' : List ℕ) → length xs ≤ length m → Rewrites xs m (Err e) m' → Err e ≡ sheet_from xs
rewrites_err xs m e m' room w = grind arith

-- only one sheet is handed in by a text
only : (text xs ys : List ℕ) → SheetCommand text xs → SheetCommand text ys → xs ≡ ys
only text xs ys p q = hex_same xs ys p.octets q.octets (let e : codes "S " ++ hex_of xs ≡ codes "S " ++ hex_of ys = sym p.written ∙ q.written in ap (drop 2) e)

-- the answer to these octets is that to the text that hands them in
handing : (text xs : List ℕ) (told : Told) → SheetCommand text xs → told ≡ sheet_told xs (sheet_from xs) → Answers text told
handing text xs told s is =
    record {
      to_sheet = λ ys q. is ∙ ap (λ l. sheet_told l (sheet_from l)) (only text xs ys s q);
      to_other = λ rest e none. absurd (none xs s);
      to_unknown = λ none. absurd (none (hex_of xs) s.written);
    }

-- octets that a text hands in, and that are written again or refused
module _ (text m : List ℕ) (n : ℕ) (m' w w' : List ℕ) (r : ReadsCommand text m (Ok n) m') where
  abbrev xs : List ℕ
  xs = r.0

  front : take n m' ≡ xs
  front = ap (take n) r.3 ∙ take_at xs (drop n m) n r.2

  pub accepted_answered : (s : ℕ × List SteeringRule) → Rewrites (take n m') w (Ok s) w' → Answers text (accepted (take n w') s.0 s.1)
  accepted_answered s again =
      let (read, written) = rewrites_ok xs w s w' (subst (λ l. Rewrites l w (Ok s) w') front again) in
      let back : take n w' ≡ xs = ap (take n) written ∙ take_at xs (drop (length xs) w) n r.2 in
      handing text xs _ r.1 (ap (λ l. accepted l s.0 s.1) back ∙ ap (sheet_told xs) read)

  pub refused_answered : (e : Refusal) → length m' ≤ length w → Rewrites (take n m') w (Err e) w' → Answers text (refused e)
  refused_answered e room again =
      let fits : length xs ≤ length w = omega (arith, room, ap length r.3, length-append xs (drop n m)) in
      handing text xs _ r.1 (ap (sheet_told xs) (rewrites_err xs w e w' fits (subst (λ l. Rewrites l w (Err e) w') front again)))

-- a text that hands in no octets, or more than a sheet has
pub fault_answered : (text m : List ℕ) (fault : CommandFault) (m' : List ℕ) (told : Told) → length m ≡ 16384 → ReadsCommand text m (Err fault) m' → told ≡ fault_told fault → Answers text told
fault_answered text m NoCommand m' told long (none, same) is =
    record {
      to_sheet = λ xs s. absurd (none (hex_of xs) s.written);
      to_other = λ rest e n. absurd (none rest e);
      to_unknown = λ _. is;
    }
fault_answered text m (Hex NotHex) m' told long (rest, begins, none, same) is =
    record {
      to_sheet = λ xs s. absurd (none xs s);
      to_other = λ _ e n. is;
      to_unknown = λ n. absurd (n rest begins);
    }
fault_answered text m (Hex NoRoom) m' told long (xs, s, over, same) is =
    handing text xs told s (is ∙ ap (sheet_told xs) (sym (size_refused xs (inr (omega arith, omega arith)))))
