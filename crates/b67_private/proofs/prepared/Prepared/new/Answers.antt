use Rattle.b67_private.proofs.PlacedRows.{decoded_held}
use Rattle.b67_private.proofs.prepared.Prepared.new.Goals as goal

pub add_rows-requires-clause-held : goal.add_rows-requires-clause-held
add_rows-requires-clause-held c =
    decoded_held c.args.code.now c.args.segment c.args.level c.in_ok-operators.operators c.requires.level c.in_ok-operators.ensures
