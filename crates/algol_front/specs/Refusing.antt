-- What a refusal says of a text. Want of memory says nothing.
use Rattle.std.specs.Prelude.{◌≡◌, ℕ, List}
use Rattle.algol_tree.specs.declared.token.Spot.{Spot}
use Rattle.algol_tree.specs.declared.refusal.Code.{Code}
use Rattle.algol_tree.specs.declared.refusal.Refusal.{Refusal}
use Rattle.algol_tree.specs.declared.refusal.Refusal.TheVariants.{At, NoMemory}
use Rattle.algol_tree.specs.Plain.{PProgram}
use Rattle.algol_tree.specs.First.{Source, First}

-- The text is refused there first, for that reason.
abbrev pub RefusesFirst : List ℕ → Refusal → Type 0
RefusesFirst bytes (At spot code) = First bytes spot code
RefusesFirst bytes NoMemory = Unit {0}

-- The text is no accepted source.
abbrev pub NoSource : List ℕ → Refusal → Type 0
NoSource bytes (At spot code) = (tree : PProgram) → Source bytes tree → ⊥
NoSource bytes NoMemory = Unit {0}

-- An accepted source is refused nowhere.
abbrev pub SourcesNotRefused : Type 0
SourcesNotRefused = (bytes : List ℕ) (tree : PProgram) (spot : Spot) (code : Code) → Source bytes tree → First bytes spot code → ⊥

-- A text is refused at one place and for one reason at most.
abbrev pub OneRefusal : Type 0
OneRefusal = (bytes : List ℕ) (spot other : Spot) (code reason : Code) → First bytes spot code → First bytes other reason → (spot ≡ other) × (code ≡ reason)
