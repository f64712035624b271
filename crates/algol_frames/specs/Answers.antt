-- What the scopes answer.
use Rattle.std.specs.Prelude.{ℕ, List, Option, slice_get}
use Rattle.std.specs.BTreeMap.{get}
use Rattle.algol_tree.specs.declared.token.Spot.{Spot}
use Rattle.algol_tree.specs.contracts.token.SpotOrd.TheImpl.{ghosts}
use Rattle.algol_sorts.specs.declared.sort.Sort.{Sort}
use Rattle.algol_frames.specs.declared.scopes.Couple.{Couple}
use Rattle.algol_frames.specs.declared.scopes.Declared.{Declared}
use Rattle.algol_frames.specs.declared.scopes.Scopes.{Scopes}
use Rattle.algol_frames.specs.ByLine.{placed_in}

abbrev pub declaration_of : Scopes → Spot → Option Declared
declaration_of s spot = placed_in s.declared spot

abbrev pub actual_of : Scopes → Spot → Option Couple
actual_of s spot = get ghosts.cmp s.actuals spot

abbrev pub result_couple_of : Scopes → Spot → Option Couple
result_couple_of s spot = get ghosts.cmp s.results spot

abbrev pub level_in : Scopes → ℕ → Option ℕ
level_in s block = slice_get s.levels.items block

abbrev pub parameters_of : Scopes → Spot → Option (List Sort)
parameters_of s spot = get ghosts.cmp s.parameters spot

abbrev pub block_number_of : Scopes → Spot → Option ℕ
block_number_of s spot = get ghosts.cmp s.numbers spot
