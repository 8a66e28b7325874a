use Rattle.std.proofs.Common.{ap, sym, ◌∙◌}
use Rattle.gft_command.specs.Telnet.{past_signals, undoubled}
use Rattle.gft_command.proofs.QuitLemmas.{line_read, quit_plain}
use Rattle.gft_command.proofs.command.parse.Goals as goal

pub returns-then-is_plain-clause-quit : goal.returns-then-is_plain-clause-quit
returns-then-is_plain-clause-quit c =
    let same = c.is_plain.ensures.same c.if-is_plain.true in
    (line_read c.args.line.now _ c.parse_text.result (sym same.1 ∙ ap undoubled c.past_signals-line.ensures) c.parse_text.ensures).1

pub returns-in_err-text-clause-quit : goal.returns-in_err-text-clause-quit
returns-in_err-text-clause-quit c = λ is.
    let lacks = quit_plain (past_signals c.args.line.now) is in
    let plain = c.is_plain.ensures.plain.1 (rw (← c.past_signals-line.ensures) at lacks) in
    absurd (cc (plain, c.if-is_plain.false))

pub returns-clause-refused : goal.returns-clause-refused
returns-clause-refused c =
    (line_read c.args.line.now _ c.parse_text-2.result (c.deref.ensures.value ∙ c.in_ok-text.ensures ∙ ap undoubled c.past_signals-line.ensures) c.parse_text-2.ensures).0

pub returns-clause-quit : goal.returns-clause-quit
returns-clause-quit c =
    (line_read c.args.line.now _ c.parse_text-2.result (c.deref.ensures.value ∙ c.in_ok-text.ensures ∙ ap undoubled c.past_signals-line.ensures) c.parse_text-2.ensures).1
