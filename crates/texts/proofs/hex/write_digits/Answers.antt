use Rattle.std.proofs.Common.{IfSome, subst, is_ok, ap, rules}
use Rattle.std.specs.Fmt.{WritesOnOk}
use Rattle.std.proofs.lemmas.Grind.{put_two}
use Rattle.texts.proofs.Hexes.{hex_more, two_digits}
use Rattle.texts.proofs.hex.write_digits.Goals as goal

pub loop-octet-preserved : goal.loop-octet-preserved
loop-octet-preserved g c plain =
    let took = g.W.Write.write_str_gives in
    let so_far = c.loop-octet.invariant plain in
    let two = two_digits _ c.in_radix.result _ (search rules) c.in_radix.ensures c.laid_out.ensures in
    let written = subst (λ o. IfSome o (λ bs. WritesOnOk took c.loop-octet.f c.write.result bs c.write.new.self)) two c.write.ensures.writes in
    put_two took _ _ _ _ _ _ so_far (written so_far.plain (ap is_ok c.in_ok-write.was)) (hex_more c.args.octets.now c.loop-octet.octet-index c.loop-octet-test.true)
