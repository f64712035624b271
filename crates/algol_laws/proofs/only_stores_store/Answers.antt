use Rattle.algol_laws.proofs.Storing.{only_stores}
use Rattle.algol_laws.proofs.only_stores_store.Goals as goal

pub returns : goal.returns
returns c = only_stores
