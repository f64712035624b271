use Rattle.std.proofs.Common.{◌≡◌, length}
use Rattle.b67_private.specs.Prepared.{AreRows}
use Rattle.b67_private.proofs.prepared.add_rows.Given as goal

abbrev pub invariant-rows : goal.invariant-rows
invariant-rows l = record {
  size : length l.rows.items ≡ l.index;
  are : AreRows l.fn.operators l.rows.items;
}
