use Rattle.std.proofs.Common.{◌∙◌, Option, subst}
use Rattle.std.specs.Prelude.{OnOk}
use Rattle.algol_tree.specs.declared.token.Spot.{Spot}
use Rattle.algol_paths.specs.Arrays.{Lows}
use Rattle.algol_lows.specs.Lows.{LowsAdd}
use Rattle.algol_lows.proofs.LowerBounds.{arrays_made}
use Rattle.algol_lows.proofs.bounds.add_made.Goals as goal

pub returns-in-Arrays : goal.returns-in-Arrays
returns-in-Arrays c =
    let a = c.in-Arrays in
    subst (λ (found : Spot → Option Lows). OnOk c.add_names.result (LowsAdd c.args.table.now c.add_names.new.table found))
    (arrays_made c.args.scopes.now c.args.d.now a.field-0 a.ns a.pairs c.as_slice.result.now c.as_slice-in-Arrays.result.now a.is (c.as_slice.ensures.value ∙ c.items.ensures) (c.as_slice-in-Arrays.ensures.value ∙ c.items-in-Arrays.ensures))
    c.add_names.ensures
