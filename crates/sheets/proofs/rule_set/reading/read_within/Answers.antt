use Rattle.std.proofs.Common.{◌≡◌, ◌-◌, ◌≤◌, [], length, take, drop, sym, ap, ◌∙◌, arith}
use Rattle.std.proofs.lemmas.Result.{err_from_is_err_and}
use Rattle.octets.specs.Numbers.{Octets}
use Rattle.octets.proofs.Numbers.{octets_take, octets_drop}
use Rattle.terms.specs.Replies.{seen_as}
use Rattle.sheets.specs.Reading.{rules_from, count_in, distance_in, heading_in}
use Rattle.sheets.specs.Tables.{rules_in}
use Rattle.sheets.proofs.Refused.{rules_refused}
use Rattle.sheets.proofs.Trips.{rules_sound}
use Rattle.sheets.proofs.rule_set.reading.read_within.Goals as goal
use Rattle.sheets.proofs.rule_set.reading.read_within.Goals.{After-read_rules}

module _ (c : After-read_rules) where
  some : count_in c.args.octets.now ≡ 0 → ⊥
  some z = c.if-count-eq0.false (c.from-count.ensures ∙ z)

  few : count_in c.args.octets.now ≤ 128
  few = omega (arith, c.from-count.ensures)

  inside : distance_in c.args.octets.now ≤ length c.args.octets.now - 3
  inside = omega (arith, c.distance_in-distance.ensures)

  read : rules_from (count_in c.args.octets.now) [] (take (distance_in c.args.octets.now) (drop (heading_in c.args.octets.now) c.args.octets.now)) ≡ seen_as rules_in c.read_rules.result
  read =
      let xs = c.args.octets.now in
      let d = c.distance_in-distance.result in
      let distance : d ≡ distance_in xs = c.distance_in-distance.ensures in
      let heading : (length xs - 3) - d ≡ heading_in xs = ap (λ n. (length xs - 3) - n) distance in
      let cut : (length xs - 3) - ((length xs - 3) - d) ≡ distance_in xs = omega (arith, distance, inside) in
      sym (c.read_rules.ensures ∙ (λ i. rules_from (c.from-count.ensures i) [] (take (cut i) (drop (heading i) xs))))

pub returns-in_err-table : goal.returns-in_err-table
returns-in_err-table c =
    let b = (goal.at.returns-in_err-table c).After-read_rules in
    let xs = c.args.octets.now in
    let p = err_from_is_err_and c.from_residual.result c.from_residual.ensures.1 in
    rw (p.1, p.2) (sym (rules_refused xs c.requires.least c.requires.most (some b) (few b) (inside b) _ (read b ∙ ap (seen_as rules_in) c.in_err-table.was)))

pub invariant_of-result : goal.invariant_of-result
invariant_of-result c =
    let b = (goal.at.invariant_of-result c).After-read_rules in
    let xs = c.args.octets.now in
    let o : Octets xs = λ i. (c.type_inv.octets i).fits in
    let positive : 1 ≤ count_in xs = omega (arith, some b) in
    record {
      sound = rules_sound (count_in xs) (take (distance_in xs) (drop (heading_in xs) xs)) (rules_in c.in_ok-table.table) (octets_take (distance_in xs) (drop (heading_in xs) xs) (octets_drop (heading_in xs) xs o))
          positive (few b) (read b ∙ ap (seen_as rules_in) c.in_ok-table.was);
    }
