use Rattle.std.proofs.Common.{◌≡◌, ℕ, ◌+◌, ◌<◌, length, get_or, drop, Ok, sym, ap, ◌∙◌, arith, rules}
use Rattle.std.proofs.lemmas.List.{take_rest}
use Rattle.rules.specs.Lists.{listed}
use Rattle.rules.specs.Rules.{types_in}
use Rattle.layouts.specs.Reading.{size_of, component_from}
use Rattle.layouts.proofs.Rows.{front_of, found_room, found_more}
use Rattle.layouts.proofs.components.read_components.Goals as goal
use Rattle.layouts.proofs.components.read_components.Goals.{After-push}

-- what was read at this turn
module _ (c : After-push) where
  some : 0 < length c.loop-rest.rest.now
  some = search rules

  read : front_of (listed c.loop-rest.found) c.loop-rest.rest.now ≡ Ok c.in_ok-component.component
  read =
      let ys = c.loop-rest.rest.now in
      sym (c.read_component.ensures ∙ (λ j. component_from (types_in (c.as_slice.ensures.value j)) (get_or ys 0 0) (drop 1 ys))) ∙ c.in_ok-component.was

pub returns-in_err-push : goal.returns-in_err-push
returns-in_err-push c =
    let b = (goal.at.returns-in_err-push c).After-push in
    let done = found_room c.loop-rest.found c.loop-rest.rest.now c.args.octets.now c.in_ok-component.component (some b) c.loop-rest.invariant (read b) _ c.push.new.self c.in_err-push.ensures in
    absurd (let z : ◌≡◌ {A = ℕ} 0 1 = (let e = done.0 in cc) in omega arith)

pub loop-rest-preserved : goal.loop-rest-preserved
loop-rest-preserved c =
    let b = (goal.at.loop-rest-preserved c).After-push in
    let ys = c.loop-rest.rest.now in
    let done = found_room c.loop-rest.found ys c.args.octets.now c.in_ok-component.component (some b) c.loop-rest.invariant (read b) _ c.push.new.self c.in_ok-push.ensures in
    found_more c.loop-rest.found ys c.args.octets.now c.in_ok-component.component (some b) c.loop-rest.invariant (read b) c.push.new.self _ done.1
    (take_rest ys _ ∙ ap (λ n. drop (1 + n) ys) (c.size_of.ensures.value ∙ ap size_of c.kind.ensures))
