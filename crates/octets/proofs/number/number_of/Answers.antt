use Rattle.std.proofs.Common.{◌≡◌, ◌%◌, ◌^◌, length, le_refl, arith}
use Rattle.std.specs.Int.Digits.{number_from_digits}
use Rattle.std.proofs.lemmas.Int.Digits.{number_more}
use Rattle.std.proofs.lemmas.List.{take_all}
use Rattle.octets.specs.Numbers.{Octets}
use Rattle.octets.proofs.Numbers.{number_small}
use Rattle.octets.proofs.number.number_of.Goals as goal

pub loop-octet-preserved : goal.loop-octet-preserved
loop-octet-preserved c =
    let i = c.loop-octet.octet-index in
    let xs = c.args.octets.now in
    omega (arith, number_more 256 xs i c.loop-octet-test.true, c.from.ensures)

pub returns : goal.returns
returns c =
    let xs = c.args.octets.now in
    let value : c.loop-octet.number ≡ number_from_digits 256 xs % 2 ^ 128 = rw (take_all _ _ c.loop-octet-test.false) at c.loop-octet.invariant in
    let octets : Octets xs = λ i. (c.type_inv.octets i).fits in
    record {
      value = value;
      exact = λ short. omega (arith, value, number_small 16 xs short octets);
      bound = omega (arith, value, number_small (length xs) xs (le_refl (length xs)) octets);
    }
