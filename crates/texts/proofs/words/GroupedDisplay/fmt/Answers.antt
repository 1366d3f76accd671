use Rattle.std.proofs.Common.{◌≡◌, ◌*◌, length, rules, arith, is_ok, ap, ◌∙◌, length-drop}
use Rattle.std.specs.Iterator.Adapters.{enumerate_count}
use Rattle.texts.specs.Words.{groups}
use Rattle.std.proofs.Output.{has_written_of_eq}
use Rattle.std.proofs.lemmas.Grind.{put_two}
use Rattle.texts.proofs.Wording.{group_step, group_more}
use Rattle.texts.proofs.words.GroupedDisplay.fmt.Goals as goal

pub loop-i-preserved : goal.loop-i-preserved
loop-i-preserved g c =
    let all : length c.args.self.now.0 ≡ 16 = search rules in
    let t = c.in-Some.ensures.steps in
    let v = c.loop-i.invariant in
    let (within, behind, group) = group_step c.args.self.now.0 _ c.in-Some.group.now _ _ all v.4 t.0.1.0 (rw v.2 at t.0.1.1) t.0.1.2 in (
      search rules,
      tt,
      t.0.0 ∙ v.2,
      rw t.2 within,
      rw t.2 behind,
      λ plain.
          let so_far = v.5 plain in
          put_two g.W.Write.write_str_gives _ _ _ _ _ _ so_far (c.write.ensures.writes so_far.plain (ap is_ok c.in_ok-write.was))
          (group_more c.args.self.now.0 c.in-Some.group.now _ _ c.in-Some.i _ c.before_group.ensures t.1 t.2 group),
    )

pub returns-clause-writes : goal.returns-clause-writes
returns-clause-writes g c plain ok =
    let v = c.loop-i.invariant in
    let all : length c.args.self.now.0 ≡ 16 = search rules in
    let n = enumerate_count c.loop-i.i-iterator in
    let done : n ≡ 8 = omega (arith, v.3, c.in-None.ensures.steps.0.1.0, ap length v.4, length-drop (2 * n) c.args.self.now.0, all) in
    has_written_of_eq g.W.Write.write_str_gives _ _ _ _ (ap (λ k. groups k c.args.self.now.0) done) (v.5 plain)
