use Rattle.std.proofs.Common.{◌≡◌, [], ◌∷◌, length, get_or, sym, ap, ◌∙◌}
use Rattle.std.proofs.lemmas.List.{length-map}
use Rattle.octets.specs.Numbers.{be}
use Rattle.rules.specs.Rules.{rule_of}
use Rattle.sheets.specs.Layout.{trailer}
use Rattle.sheets.specs.Sets.{rules_of}
use Rattle.sheets.proofs.Writes.{sheet_done}
use Rattle.sheets.proofs.rule_set.writing.write_fitting.Goals as goal

pub returns : goal.returns
returns c =
    let rs = rules_of c.args.set.now in
    let rules = c.rules.result.now in
    let os = c.octets_of.ensures ∙ ap (be 2) c.size_of_rules.ensures.value in
    let count : length rules ≡ length rs = sym (length-map rules rule_of) ∙ ap length c.rules.ensures.value in
    let trails : length rules ∷ (get_or c.octets_of.result 0 0 ∷ (get_or c.octets_of.result 1 0 ∷ [])) ≡ trailer rs
    = λ i. count i ∷ (get_or (os i) 0 0 ∷ (get_or (os i) 1 0 ∷ [])) in
    let all = sheet_done c.args.heading.now rs c.args.memory.now _ c.in_ok-at.at c.in_ok-at-2.at _ _ _ c.write_octets-2.result trails
    c.requires.limit c.requires.room c.in_ok-at.ensures c.in_ok-at-2.ensures c.write_octets-2.ensures c.args.set.now.sound in
    record { value = all.0; back = all.1 }
