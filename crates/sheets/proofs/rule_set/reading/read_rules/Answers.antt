use Rattle.std.proofs.Common.{sym, ap, ◌∙◌}
use Rattle.std.proofs.lemmas.List.{take_rest}
use Rattle.std.proofs.lemmas.Result.{err_from_is_err_and}
use Rattle.terms.specs.Replies.{seen_as}
use Rattle.layouts.specs.Rule.{rule_and_size}
use Rattle.sheets.proofs.Rows.{found_none, found_room, found_more, found_stop}
use Rattle.sheets.proofs.rule_set.reading.read_rules.Goals as goal

pub returns-in_err-rule : goal.returns-in_err-rule
returns-in_err-rule c =
    let here = c.loop in
    let p = err_from_is_err_and c.from_residual.result c.from_residual.ensures.1 in
    rw (p.1, p.2)
    (sym (found_stop here.rules here.met c.args.count here.counter here.rest.now c.args.octets.now c.loop-test.true here.invariant _
    (sym c.read_rule.ensures.value ∙ ap (seen_as rule_and_size) c.in_err-rule.was)))

pub loop-init : goal.loop-init
loop-init c = found_none c.none-rules.result c.none-met.result c.args.count c.args.octets.now c.none-rules.ensures c.none-met.ensures

pub loop-preserved : goal.loop-preserved
loop-preserved c =
    let here = c.loop in
    let ys = here.rest.now in
    let push = found_room here.rules here.met c.args.count here.counter ys c.args.octets.now c.loop-test.true here.invariant _ _ c.push.new.self c.requires c.in_ok-push.ensures in
    found_more here.rules here.met c.args.count here.counter ys c.args.octets.now c.loop-test.true here.invariant c.push.new.self c.insert.new.self _ _ _
    (sym c.read_rule.ensures.value ∙ ap (seen_as rule_and_size) c.in_ok-rule.was) push.1 c.insert.ensures (take_rest ys _)
