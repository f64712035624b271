use Rattle.algol_paths.proofs.Making.{all_is_made_in_order as all_is_made_in_order_lem}
use Rattle.algol_paths.proofs.all_is_made_in_order.Goals as goal

pub returns : goal.returns
returns c = all_is_made_in_order_lem
