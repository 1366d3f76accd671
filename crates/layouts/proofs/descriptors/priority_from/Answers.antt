use Rattle.std.proofs.Common.{sym}
use Rattle.layouts.proofs.Descriptions.{priority_none}
use Rattle.layouts.proofs.descriptors.priority_from.Goals as goal

pub returns-in-Err : goal.returns-in-Err
returns-in-Err c = sym (priority_none c.args.information c.in-Err.ensures.1)
