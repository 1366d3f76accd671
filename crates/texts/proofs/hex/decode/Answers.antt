use Rattle.std.proofs.Common.{refl, arith}
use Rattle.texts.specs.Hexes.{paired}
use Rattle.texts.proofs.Hexes.{stands}
use Rattle.texts.proofs.hex.decode.Goals as goal

pub returns-then-memory-count : goal.returns-then-memory-count
returns-then-memory-count c =
    let text = c.args.text.now in
    let p = stands text c.requires.even c.requires.digits in
    (paired text, p.0, omega (arith, p.1), refl)

pub returns : goal.returns
returns c =
    let text = c.args.text.now in
    let p = stands text c.requires.even c.requires.digits in
    (paired text, p.0, p.1, c.fill.ensures)
