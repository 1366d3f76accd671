use Rattle.std.proofs.Common.{refl}
use Rattle.texts.proofs.Commands.{no_text}
use Rattle.texts.proofs.command.read_octets.Goals as goal

pub returns-then-is_empty : goal.returns-then-is_empty
returns-then-is_empty c = (c.args.text.now, refl, no_text c.args.text.now c.if-is_empty.ensures, refl)
