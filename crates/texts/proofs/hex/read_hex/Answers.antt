use Rattle.std.proofs.Common.{refl}
use Rattle.texts.proofs.Hexes.{odd_no_hex, other_no_hex}
use Rattle.texts.proofs.hex.read_hex.Goals as goal
use Rattle.texts.proofs.hex.read_hex.Goals.{then-text-ne0-via-then-text-ne0, then-text-ne0-via-else-text-ne0+then-not-is_hex}

pub returns-then-text-ne0 : goal.returns-then-text-ne0
returns-then-text-ne0 c =
    let text = c.args.text.now in
    elim c.then-text-ne0.branch [
      | then-text-ne0-via-then-text-ne0 w ↦ (odd_no_hex text w.if-text-ne0.true, refl)
      | then-text-ne0-via-else-text-ne0+then-not-is_hex w ↦ (other_no_hex text w.if-not-is_hex.ensures, refl)
    ]
