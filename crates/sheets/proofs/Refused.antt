-- Where a sheet is refused, and where it is read.
use Rattle.std.proofs.Common.{◌≡◌, ℕ, ◌-◌, ◌<◌, ◌≤◌, true, false, ◌||◌, eqb, ltb, ◌⊎◌, List, [], length, take, drop, Ok, Err, ◌∙◌, ⊎_elim}
use Rattle.std.proofs.lemmas.Bool.{le-ltb, lt-ltb, ne_eqb, or_from, or_left, or_right}
use Rattle.terms.specs.declared.refusal.Refusal.{Refusal}
use Rattle.terms.specs.declared.refusal.Refusal.TheVariants.{SheetSize}
use Rattle.terms.proofs.Replies.{after_ok, after_err, refuse_not, refuse_so}
use Rattle.rules.specs.Rules.{SteeringRule}
use Rattle.sheets.specs.Reading.{rules_from, count_in, distance_in, heading_in, sheet_from}

pub size_refused : (ys : List ℕ) → (length ys < 3) ⊎ ((3 ≤ length ys) × (16384 < length ys)) → sheet_from ys ≡ Err SheetSize
size_refused ys h =
    let so : (ltb (length ys) 3 || ltb 16384 (length ys)) ≡ true
    = ⊎_elim (λ l. or_left (ltb (length ys) 3) _ (lt-ltb (length ys) 3 l)) (λ l. or_right (ltb (length ys) 3) _ (lt-ltb 16384 (length ys) l.1)) h in
    refuse_so _ _ so

module _ (ys : List ℕ) (three : 3 ≤ length ys) (limit : length ys ≤ 16384) where
  sized : (ltb (length ys) 3 || ltb 16384 (length ys)) ≡ false
  sized = or_from _ _ (le-ltb (length ys) 3 three) (le-ltb 16384 (length ys) limit)

  module _ (some : count_in ys ≡ 0 → ⊥) (few : count_in ys ≤ 128) where
    counted : (eqb (count_in ys) 0 || ltb 128 (count_in ys)) ≡ false
    counted = or_from _ _ (ne_eqb (count_in ys) 0 some) (le-ltb 128 (count_in ys) few)

    module _ (inside : distance_in ys ≤ length ys - 3) where
      distanced : ltb (length ys - 3) (distance_in ys) ≡ false
      distanced = le-ltb (length ys - 3) (distance_in ys) inside

      pub rules_refused : (e : Refusal) → rules_from (count_in ys) [] (take (distance_in ys) (drop (heading_in ys) ys)) ≡ Err e → sheet_from ys ≡ Err e
      rules_refused e r = refuse_not _ _ sized ∙ refuse_not _ _ counted ∙ refuse_not _ _ distanced ∙ after_err _ r

      pub accepted : (rs : List SteeringRule) → rules_from (count_in ys) [] (take (distance_in ys) (drop (heading_in ys) ys)) ≡ Ok rs → sheet_from ys ≡ Ok (heading_in ys, rs)
      accepted rs r = refuse_not _ _ sized ∙ refuse_not _ _ counted ∙ refuse_not _ _ distanced ∙ after_ok _ r
