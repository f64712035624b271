-- What resolving a tree comes to.
use Rattle.std.specs.Prelude.{◌≡◌, ℕ, ◌+◌, if◌then◌else◌, List, [], ◌∷◌, Option, Some, None}
use Rattle.std.specs.Option.{option_or}
use Rattle.std.specs.List.{flat_map}
use Rattle.algol_tree.specs.declared.token.Spot.{Spot}
use Rattle.algol_tree.specs.declared.refusal.Refusal.{Refusal}
use Rattle.algol_tree.specs.declared.refusal.Refusal.TheVariants as refusals
use Rattle.algol_tree.specs.Plain.{PProgram}
use Rattle.algol_tree.specs.Sorts as sorts
use Rattle.algol_tree.specs.Blocks.{Block, blocks_of_program, same_spot}
use Rattle.algol_tree.specs.Cells as cells
use Rattle.algol_tree.specs.Couples as couples
use Rattle.algol_tree.specs.Couples.{Known, declaration_at, result_at, actual_at, level_of_block, known_at, known_there}
use Rattle.algol_tree.specs.Accepted.{scope_faults, first_fault, sites_of}
use Rattle.algol_sorts.specs.declared.sort.Sort.{Sort}
use Rattle.algol_sorts.specs.Sorts.{sort_of}
use Rattle.algol_frames.specs.declared.scopes.Couple.{Couple}
use Rattle.algol_frames.specs.declared.scopes.Declared.{Declared}
use Rattle.algol_frames.specs.declared.scopes.Scopes.{Scopes}
use Rattle.algol_scope.specs.Noting.{parameters_here}
pub use Rattle.algol_frames.specs.Answers.{declaration_of, actual_of, result_couple_of, level_in, block_number_of, parameters_of}

abbrev pub couple : Option Couple → Option cells.Couple
couple None = None
couple (Some c) = Some (record { level = c.level; index = c.index })

abbrev pub located : Option Declared → Option couples.Located
located None = None
located (Some d) = Some (record { spot = d.spot; level = d.level; couple = couple d.couple })

-- What a name means, beside where its declaration lies: the number of the block that declares it, and what it is declared as.
pub record Meaning : Type 0 where
  pub block : ℕ
  pub sort : Sort

abbrev pub meaning : Option Declared → Option Meaning
meaning None = None
meaning (Some d) = Some (record { block = d.block; sort = d.sort })

abbrev pub meant : Option sorts.Declared → Option Meaning
meant None = None
meant (Some d) = Some (record { block = d.block; sort = sort_of d })

-- what the name that is used or declared there means
unfoldable pub meaning_at : PProgram → Spot → Option Meaning
meaning_at p spot = meant (known_there (flat_map (known_at (blocks_of_program p)) (sites_of p)) spot)

-- what the parameters of the procedure that is declared there are declared as
abbrev pub parameters_among : List Known → Spot → Option (List Sort)
parameters_among [] spot = None
parameters_among (k ∷ ks) spot = option_or (if same_spot k.spot spot then parameters_here k.spot k.declared else None) (parameters_among ks spot)

unfoldable pub parameters_at : PProgram → Spot → Option (List Sort)
parameters_at p spot = parameters_among (flat_map (known_at (blocks_of_program p)) (sites_of p)) spot

-- the number of the first of these blocks that begins there, where they have the numbers from n on
abbrev pub number_among : ℕ → List Block → Spot → Option ℕ
number_among n [] spot = None
number_among n (b ∷ bs) spot = option_or (if same_spot b.spot spot then Some n else None) (number_among (n + 1) bs spot)

unfoldable pub number_of_block : PProgram → Spot → Option ℕ
number_of_block p spot = number_among 0 (blocks_of_program p) spot

-- The tree is refused by the first rule of names and limits that it breaks.
abbrev pub TreeIsRefused : PProgram → Refusal → Type 0
TreeIsRefused p (refusals.At spot code) = first_fault (scope_faults p) ≡ Some (record { spot = spot; code = code })
TreeIsRefused p refusals.NoMemory = Unit {0}

-- The tree breaks no rule of names and limits, and these are its scopes.
pub record AreOf (p : PProgram) (s : Scopes) : Type 0 where
  pub unbroken : scope_faults p ≡ []
  pub declarations : (spot : Spot) → located (declaration_of s spot) ≡ declaration_at p spot
  pub meanings : (spot : Spot) → meaning (declaration_of s spot) ≡ meaning_at p spot
  pub results : (spot : Spot) → couple (result_couple_of s spot) ≡ result_at p spot
  pub actuals : (spot : Spot) → couple (actual_of s spot) ≡ actual_at p spot
  pub levels : (block : ℕ) → level_in s block ≡ level_of_block p block
  pub parameters : (spot : Spot) → parameters_of s spot ≡ parameters_at p spot
  pub numbers : (spot : Spot) → block_number_of s spot ≡ number_of_block p spot
