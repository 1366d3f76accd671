use Rattle.std.proofs.Common.{◌∙◌, rules}
use Rattle.std.proofs.lemmas.Iterator.{YieldsList-from_slice}
use Rattle.std.proofs.lemmas.Iterator.Search.{all_from_yields_List}
use Rattle.texts.specs.Hexes.{is_digit}
use Rattle.texts.proofs.Hexes.{digits_all}
use Rattle.texts.proofs.hex.is_hex.Goals as goal

pub returns : goal.returns
returns c = all_from_yields_List is_digit _ _ c.all.result c.all.ensures.ran (YieldsList-from_slice c.args.text.now cc) (λ x b q k. search rules) ∙ digits_all c.args.text.now
