-- What is known around a place, as the walk over a tree keeps it.
use Rattle.std.specs.Prelude.{ℕ, ◌+◌, ◌==◌, ◌&&◌, min, Bool, false, List, [], ◌∷◌, length, reverse, slice_get, Option, Some, None}
use Rattle.algol_tree.specs.declared.token.Spot.{Spot}
use Rattle.algol_tree.specs.declared.tree.Kind.{Kind}
use Rattle.algol_sorts.specs.declared.sort.Sort.{Sort}
use Rattle.algol_sorts.specs.declared.sort.Sort.TheVariants as sort
use Rattle.algol_tree.specs.Blocks.{same_spot}
use Rattle.algol_known.specs.declared.known.Class.{Class}
use Rattle.algol_known.specs.declared.known.Entry.{Entry}
use Rattle.algol_known.specs.declared.known.Names.{Names}
use Rattle.algol_known.specs.declared.known.Seen.{Seen}
use Rattle.algol_known.specs.declared.known.Seen.TheVariants as seen
use Rattle.algol_known.specs.declared.around.Around.{Around}
use Rattle.algol_known.specs.declared.around.Procedure.{Procedure}
use Rattle.algol_known.specs.Naming.{or_else, seen_under}

-- which declaration a use of a name sees, the innermost block first
abbrev pub looked_up : List Names → Seen → List ℕ → Option Entry
looked_up [] sees name = None
looked_up (b ∷ bs) sees name = or_else (seen_under b.declared b.parameters sees name) (looked_up bs seen.All name)

abbrev pub open_blocks : Around → List Names
open_blocks k = k.innermost ∷ reverse k.outer.items

abbrev pub modes_of : Option Procedure → List Sort
modes_of None = []
modes_of (Some p) = p.modes.items

-- the class of what is no procedure, and of the procedure with this number and a result of this type
abbrev pub plain_class : Sort → Class
plain_class s = record { sort = s; procedure = 0 }

abbrev pub typed_class : Option Kind → ℕ → Class
typed_class kind number = record { sort = sort.Procedure kind; procedure = number }

abbrev pub procedure_class : ℕ → Class
procedure_class number = typed_class None number

abbrev modes_by : List Procedure → Sort → ℕ → List Sort
modes_by ps (sort.Procedure kind) number = modes_of (slice_get ps number)
modes_by ps _ number = []

-- what the parameters of what is declared so are declared as
abbrev pub modes_in : List Procedure → Class → List Sort
modes_in ps c = modes_by ps c.sort c.procedure

abbrev pub told_of : Option Procedure → Option (List Sort)
told_of None = None
told_of (Some p) = Some p.modes.items

abbrev told_by : List Procedure → Sort → ℕ → Option (List Sort)
told_by ps (sort.Procedure kind) number = told_of (slice_get ps number)
told_by ps _ number = None

-- the same where it is a procedure
abbrev pub parameter_sorts_in : List Procedure → Class → Option (List Sort)
parameter_sorts_in ps c = told_by ps c.sort c.procedure

-- the level of the innermost block, as far as a byte can say it
abbrev pub level_within : Around → ℕ
level_within k = min (length k.outer.items + 2) 255

-- what is found is the FORWARD, in this block, of the heading whose name stands there
abbrev pub is_announced : Option Entry → ℕ → Spot → Bool
is_announced None block spot = false
is_announced (Some e) block spot = (e.block == block) && same_spot e.spot spot

-- what a parameter is in its procedure
abbrev pub class_for : Option Sort → Class
class_for None = plain_class sort.Unspecified
class_for (Some s) = plain_class s
