use Rattle.algol_paths.proofs.Making.{arrays_are_made_in_order as arrays_are_made_in_order_lem}
use Rattle.algol_paths.proofs.arrays_are_made_in_order.Goals as goal

pub returns : goal.returns
returns c = arrays_are_made_in_order_lem
