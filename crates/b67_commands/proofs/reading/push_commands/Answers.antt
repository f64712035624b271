use Rattle.std.proofs.Common.{◌≡◌, ◌∙◌, subst, ℕ, length, Option, Some}
use Rattle.b67_commands.specs.declared.command.Command.{Command}
use Rattle.b67_commands.specs.Commands.{MayStandNext}
use Rattle.b67_commands.proofs.Lines.{stands_first, stands_more}
use Rattle.b67_commands.proofs.reading.push_commands.Goals as goal

pub lines-init : goal.lines-init
lines-init c = stands_first c.args.bytes.now c.args.commands.now.items c.requires.none

pub lines-preserved : goal.lines-preserved
lines-preserved c =
    let found : c.in_ok-command.field-0 ≡ Some c.in-Some.command = c.in-Some.is in
    let size : c.len.result ≡ length c.lines.commands.items = c.len.ensures ∙ c.lines.commands.ok.0 in
    let may : MayStandNext c.first_line.result.0.now (length c.lines.commands.items) (Some c.in-Some.command) =
    subst (λ (n : ℕ). MayStandNext c.first_line.result.0.now n (Some c.in-Some.command)) size
    (subst (λ (o : Option Command). MayStandNext c.first_line.result.0.now c.len.result o) found c.in_ok-command.ensures) in
    stands_more c.args.bytes.now c.lines.rest.now c.first_line.result.0.now c.first_line.result.1.now c.lines.commands.items c.push.new.self.items c.in-Some.command c.lines.invariant
    c.first_line.ensures may c.in_ok-push-in-Some.ensures.items
