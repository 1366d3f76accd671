use Rattle.std.proofs.Common.{◌≡◌, ◌+◌, ◌-◌, take, drop, sym, ap, ◌∙◌, arith}
use Rattle.std.proofs.lemmas.Result.{err_from_is_err_and}
use Rattle.terms.specs.Replies.{seen_as}
use Rattle.rules.specs.Lists.{listed}
use Rattle.layouts.specs.Precedence.{has}
use Rattle.layouts.specs.Reading.{FrameFields, components_in}
use Rattle.layouts.specs.Rule.{frame_of}
use Rattle.layouts.proofs.Accepts.{components_part, rule_stops}
use Rattle.layouts.proofs.rule.read_framed.Goals as goal

pub returns-in_err-components-clause-value : goal.returns-in_err-components-clause-value
returns-in_err-components-clause-value c =
    let frame : FrameFields = frame_of c.args.frame in
    let n = frame.components in
    let cut : n ≡ (5 + n) - 5 = omega arith in
    let components : components_in (components_part frame c.args.octets.now) ≡ seen_as listed c.read_components.result
    = ap (λ m. components_in (take m (drop 5 c.args.octets.now))) cut ∙ sym c.read_components.ensures in
    let p = err_from_is_err_and c.from_residual.result c.from_residual.ensures.1 in
    rw (p.1, p.2) (sym (rule_stops (has c.args.met.now) c.args.octets.now frame c.requires.framed _ (components ∙ ap (seen_as listed) c.in_err-components.was)))
