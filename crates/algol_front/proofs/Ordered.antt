-- The places in the tree of a source are in the order of its text, as is known from the mere fact that there is such a text.
use Rattle.std.proofs.Common.{ℕ, List, [], ◌∷◌}
use Rattle.std.proofs.Props.{props}
use Rattle.std.proofs.Math.Logic.{∥∥₁_elim}
use Rattle.std.specs.Coded.{×_prop, Unit-prop}
use Rattle.algol_tree.specs.declared.token.Spot.{Spot}
use Rattle.algol_tree.specs.Ascending.{IsAhead, Ascends, IsInOrder, spots_of}
use Rattle.algol_tree.specs.First.{Source}
use Rattle.algol_tree.specs.Plain.{PProgram}
use Rattle.algol_lexer.proofs.LexOrder.{tokens_ascend}
use Rattle.algol_grammar.proofs.InOrder.{in_order}

-- some text is this source
abbrev pub IsSource : PProgram → Type 0
IsSource p = ∥ ((bytes : List ℕ) × Source bytes p) ∥₁

-- there is one proof at most
ahead_once : (spot : Spot) (spots : List Spot) → IsProp (IsAhead spot spots)
ahead_once spot [] = Unit-prop
ahead_once spot (next ∷ spots) = Prim.hlevel props

ascends_once : (spots : List Spot) → IsProp (Ascends spots)
ascends_once [] = Unit-prop
ascends_once (spot ∷ spots) = ×_prop (ahead_once spot spots) (ascends_once spots)

pub source_in_order : (p : PProgram) → IsSource p → IsInOrder p
source_in_order p some = ∥∥₁_elim some (ascends_once (spots_of p)) (λ s. in_order s.1.tokens p (tokens_ascend s.0 s.1.tokens s.1.lexes) s.1.reads)
