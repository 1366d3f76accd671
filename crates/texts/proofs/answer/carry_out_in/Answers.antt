use Rattle.std.proofs.Common.{◌≡◌, length, replicate, ap, ◌∙◌, arith, rules}
use Rattle.std.proofs.lemmas.Result.{err_from_is_err_and}
use Rattle.sheets.specs.Sets.{heading_and_rules}
use Rattle.texts.specs.Answers.{told_of}
use Rattle.texts.proofs.Answering.{accepted_answered, refused_answered, fault_answered}
use Rattle.texts.proofs.answer.carry_out_in.Goals as goal

pub returns-in_err-size : goal.returns-in_err-size
returns-in_err-size c =
    let p = err_from_is_err_and c.from_residual.result c.from_residual.ensures.1 in
    fault_answered c.args.text.now c.args.memory.now _ c.read_command.new.memory _ (search rules) c.in_err-size.ensures (ap told_of p.1 ∙ p.2)

pub returns-in_err-found : goal.returns-in_err-found
returns-in_err-found c =
    let p = err_from_is_err_and c.from_residual-in_err-found.result c.from_residual-in_err-found.ensures.1 in
    let long : length c.args.memory.now ≡ 16384 = search rules in
    rw (p.1, p.2) (refused_answered c.args.text.now c.args.memory.now c.in_ok-size.size c.read_command.new.memory (replicate 16384 0) c.rewrite.new.memory c.in_ok-size.ensures _ (omega (arith, c.read_command.auto.memory, long)) c.in_err-found.ensures)

pub returns : goal.returns
returns c =
    accepted_answered c.args.text.now c.args.memory.now c.in_ok-size.size c.read_command.new.memory (replicate 16384 0) c.rewrite.new.memory c.in_ok-size.ensures (heading_and_rules c.in_ok-found.found) c.in_ok-found.ensures
