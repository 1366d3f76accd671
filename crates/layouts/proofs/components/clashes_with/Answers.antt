use Rattle.std.proofs.Common.{◌∙◌, rules, tests}
use Rattle.std.proofs.lemmas.Iterator.{YieldsList-from_slice}
use Rattle.std.proofs.lemmas.Iterator.Search.{any_from_yields_List}
use Rattle.rules.specs.Components.{type_of, kind_in}
use Rattle.layouts.specs.Reading.{clash}
use Rattle.layouts.proofs.Clashes.{clashes_any}
use Rattle.layouts.proofs.components.clashes_with.Goals as goal

pub returns : goal.returns
returns c =
    let t = type_of c.args.kind in
    any_from_yields_List (λ x. clash t (type_of (kind_in x))) _ _ _ c.any.ensures.ran (YieldsList-from_slice c.args.before.now cc) (λ x b q k. search (rules, tests))
    ∙ clashes_any t c.args.before.now
