use Rattle.std.proofs.Common.{is_ok, ap}
use Rattle.std.proofs.lemmas.Grind.{put_two}
use Rattle.texts.proofs.Sheeting.{rows_more}
use Rattle.texts.proofs.sheet.WordsRefSliceRuleDisplay.fmt.Goals as goal

pub loop-i-preserved : goal.loop-i-preserved
loop-i-preserved g c plain =
    let so_far = c.loop-i.invariant plain in
    put_two g.W.Write.write_str_gives _ _ _ _ _ _ so_far (c.writeln.ensures.writes so_far.plain (ap is_ok c.in_ok-writeln.was))
    (rows_more c.args.self.now.0.now c.loop-i.i-counter _ c.loop-i-test.true)
