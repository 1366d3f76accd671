use Rattle.std.proofs.Common.{◌+◌, ◌≤◌, length, ap, ◌∙◌, arith}
use Rattle.std.specs.List.{flat_map}
use Rattle.layouts.specs.Memory.{written}
use Rattle.layouts.proofs.Joins.{placed_room, placed_more}
use Rattle.layouts.proofs.memory.AtMostInOctets.place.Goals as goal

pub place-end-requires : goal.place-end-requires
place-end-requires g c =
    let f = g.T.InOctets.octets in
    let items = c.as_slice-item-items.result.now in
    let room : c.args.at + length (flat_map f items) ≤ length c.args.memory.now = rw c.as_slice-item-items.ensures.value c.requires in
    let here = c.loop-item in
    omega (
      arith,
      here.auto.memory,
      ap (λ x. length (f x)) c.item-item.is,
      placed_room f items c.args.at c.args.memory.now room here.item-index here.end here.memory c.item-item.result c.loop-item-test.true here.invariant,
    )

pub loop-item-preserved : goal.loop-item-preserved
loop-item-preserved g c =
    let f = g.T.InOctets.octets in
    let items = c.as_slice-item-items.result.now in
    let room : c.args.at + length (flat_map f items) ≤ length c.args.memory.now = rw c.as_slice-item-items.ensures.value c.requires in
    let here = c.loop-item in
    placed_more f items c.args.at c.args.memory.now room here.item-index here.end here.memory c.item-item.result c.loop-item-test.true here.invariant
    _ _ (c.place-end.ensures.value ∙ ap (λ x. here.end + length (f x)) c.item-item.is) (c.place-end.ensures.after ∙ ap (λ x. written here.end (f x) here.memory) c.item-item.is)
