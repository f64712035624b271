use Rattle.std.proofs.Common.{◌≡◌, drop}
use Rattle.b67_commands.specs.Noting.{looked_for, looked_from}
use Rattle.b67_commands.proofs.noting.looked_for.Given as goal

abbrev pub invariant-commands : goal.invariant-commands
invariant-commands l = record {
  found : looked_for l.commands l.name ≡ looked_from l.place (drop l.command-index l.commands) l.name;
  place : l.place ≡ l.command-index;
}
