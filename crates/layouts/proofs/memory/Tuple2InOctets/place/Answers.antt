use Rattle.std.proofs.Common.{◌∙◌, length-append, arith}
use Rattle.layouts.specs.Memory.{written}
use Rattle.layouts.proofs.Writes.{written_then}
use Rattle.layouts.proofs.memory.Tuple2InOctets.place.Goals as goal

pub returns-clause-after : goal.returns-clause-after
returns-clause-after g c =
    let xs = g.A.InOctets.octets c.args.self.now.0 in
    let ys = g.B.InOctets.octets c.args.self.now.1 in
    let m = c.args.memory.now in
    c.place.ensures.after ∙ (λ j. written (c.place-at.ensures.value j) ys (c.place-at.ensures.after j))
    ∙ written_then c.args.at xs ys m (omega (arith, c.requires, length-append xs ys))
