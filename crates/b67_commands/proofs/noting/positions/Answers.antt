use Rattle.std.proofs.Common.{◌≡◌, sym, subst, arith, ℕ, ◌+◌, ◌<◌, ◌≤◌, List, ◌++◌, length, drop, get_or}
use Rattle.std.proofs.lemmas.Option.{slice_get-get_or}
use Rattle.b67_commands.specs.declared.command.Command.{Command}
use Rattle.b67_commands.specs.declared.command.Command.TheVariants.{Show}
use Rattle.b67_commands.specs.Positions.{position_moved, positions}
use Rattle.b67_commands.proofs.Moving.{within_all}
use Rattle.b67_commands.proofs.Leading.{one_more}
use Rattle.b67_commands.proofs.noting.positions.Goals as goal

pub commands-preserved : goal.commands-preserved
commands-preserved c = λ stored is size.
    let kept = c.commands.invariant stored is size in
    let d : Command = Show in
    let command : Command = get_or c.args.commands.now c.commands.place d in
    let within : c.commands.place < length c.args.commands.now = omega (arith, c.commands-test.true) in
    let moves : c.moved-k.result ≡ position_moved stored c.commands.k command =
    c.moved-k.ensures command stored (slice_get-get_or c.args.commands.now c.commands.place d within) is size kept.0 in
    let least : position_moved stored c.commands.k command ≤ length stored = within_all stored c.commands.k command (omega (arith, kept.0, size)) in
    let few : c.moved-k.result ≤ c.args.all = omega (arith, moves, least, size) in (
      few,
      subst (λ (xs : List ℕ). xs ++ positions stored c.moved-k.result (drop (c.commands.place + 1) c.args.commands.now) ≡ positions stored 0 c.args.commands.now)
          (sym c.in_ok-push.ensures.items)
          (one_more c.args.commands.now stored c.commands.at.items c.commands.place c.commands.k c.moved-k.result d within kept.1 moves),
    )
