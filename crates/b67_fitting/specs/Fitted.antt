-- An accepted program has code: its trees fit.
use Rattle.std.specs.Prelude.{◌≡◌, ℕ, ◌<◌, if◌then◌else◌, false, map, length, Option, Some, None}
use Rattle.std.specs.List.{flat_map}
use Rattle.algol_tree.specs.declared.token.Spot.{Spot}
use Rattle.algol_tree.specs.Plain.{PProgram}
use Rattle.algol_tree.specs.Accepted.{Accepted}
use Rattle.algol_tree.specs.Ascending.{IsInOrder}
use Rattle.algol_tree.specs.Blocks.{block_numbered, blocks_of_program}
use Rattle.algol_tree.specs.Cells as cells
use Rattle.algol_tree.specs.Cells.{level_at, level_of, formal_is_by_name}
use Rattle.algol_tree.specs.Classes as class
use Rattle.algol_tree.specs.Classes.{Class, Formal, is_label}
use Rattle.algol_tree.specs.Couples.{Located, declaration_at, result_at, actual_at, known_at, known_there}
use Rattle.algol_tree.specs.Scopes.{Scopes, scopes_of}
use Rattle.algol_tree.specs.Sites.{sites_by}
use Rattle.algol_tree.specs.Sorts as sort
use Rattle.algol_tree.specs.Sorts.{Sort, Declared, formals_of}
use Rattle.algol_paths.specs.Arrays.{Lows, lows_at}
use Rattle.algol_paths.specs.Segments.{segment_of}
use Rattle.b67_ops.specs.declared.Couple.{Couple}
use Rattle.b67_templates.specs.Labels.{label_number, table_place}
use Rattle.b67_templates.specs.Fitting.{Meant, a_variable, a_name, a_procedure, an_event, another, Target, Told, DeclsFit, StmtsFit}
use Rattle.b67_fitting.specs.Texts.{HasPlainTexts}
use Rattle.b67_fitting.specs.Wholes.{HasWholeNumbers}

-- the couple of a name by its place is that of the cell that its declaration has
abbrev pub AreCouples : PProgram → (Spot → Option Couple) → Type 0
AreCouples p known =
    (spot : Spot) (d : Located) (c : cells.Couple) → declaration_at p spot ≡ Some d → d.couple ≡ Some c →
    known spot ≡ Some (record { level = c.level; index = c.index })

abbrev pub spelled : Option cells.Couple → Option Couple
spelled None = None
spelled (Some c) = Some (record { level = c.level; index = c.index })

-- .. and that of the result is the one that the procedure has whose heading with the body is the name's declaration, if it is typed
abbrev pub AreResults : PProgram → (Spot → Option Couple) → Type 0
AreResults p results = (spot : Spot) (d : Located) → declaration_at p spot ≡ Some d → results spot ≡ spelled (result_at p d.spot)

-- .. and the lower bounds are those of the array whose name is declared where the name's declaration stands; what is no array has none
abbrev pub AreLows : PProgram → (Spot → Option Lows) → Type 0
AreLows p lows = (spot : Spot) (d : Located) → declaration_at p spot ≡ Some d → lows spot ≡ lows_at (scopes_of p).blocks d.spot

-- the declaration of the name that is used or declared there
unfoldable pub declared_at : PProgram → Spot → Option Declared
declared_at p spot = known_there (flat_map (known_at (blocks_of_program p)) (sites_by p (blocks_of_program p))) spot

-- what a name is that is declared as this: of a procedure it is told which of its parameters are by name, of an event whether it is a parameter
abbrev pub meant_as : Class → Sort → Meant
meant_as (class.simple kind) s = if sort.is_by_name s then a_name else a_variable
meant_as (class.procedure h) s = a_procedure (map (λ (f : Formal). formal_is_by_name (Some f)) (formals_of h))
meant_as class.event s = an_event (sort.is_formal s)
meant_as class.task s = an_event false
meant_as _ s = another

abbrev pub AreMeant : PProgram → (Spot → Meant) → Type 0
AreMeant p meant = (spot : Spot) (d : Declared) → declared_at p spot ≡ Some d → meant spot ≡ meant_as d.class d.sort

-- where a label leads that has this number in its segment
abbrev pub target_numbered : ℕ → ℕ → Option ℕ → Option Target
target_numbered level segment None = None
target_numbered level segment (Some number) = Some (record { level = level; segment = segment; entry = table_place number })

-- .. that is declared as this, where it is one
abbrev pub target_of : Scopes → Declared → Option Target
target_of sc d = if is_label d.class then target_numbered (level_at d.depth) (segment_of sc.blocks d.block) (label_number sc d.block d.name) else None

abbrev pub AreTargets : PProgram → (Spot → Option Target) → Type 0
AreTargets p labels = (spot : Spot) (d : Declared) → declared_at p spot ≡ Some d → labels spot ≡ target_of (scopes_of p) d

-- .. and the couple of each actual that has a cell, by the place where it begins
abbrev pub AreActuals : PProgram → (Spot → Option Couple) → Type 0
AreActuals p actuals = (spot : Spot) (c : cells.Couple) → actual_at p spot ≡ Some c → actuals spot ≡ Some (record { level = c.level; index = c.index })

-- this is told of the names of a program
pub record IsToldOf (p : PProgram) (told : Told) : Type 0 where
  pub couples : AreCouples p told.couples
  pub results : AreResults p told.results
  pub lows : AreLows p told.lows
  pub meant : AreMeant p told.meant
  pub labels : AreTargets p told.labels
  pub actuals : AreActuals p told.actuals

-- the declarations and the statements of a block
pub record BlockFits (p : PProgram) (told : Told) (j : ℕ) : Type 0 where
  pub decls : DeclsFit (scopes_of p) told (level_of (block_numbered ((scopes_of p).blocks) j)) j ((block_numbered ((scopes_of p).blocks) j).decls)
  pub stmts : StmtsFit (scopes_of p) told (level_of (block_numbered ((scopes_of p).blocks) j)) j ((block_numbered ((scopes_of p).blocks) j).stmts)

-- each block fits its level
abbrev pub AcceptedProgramsFit : Type 0
AcceptedProgramsFit =
    (p : PProgram) (told : Told) → Accepted p → IsInOrder p → HasWholeNumbers p → HasPlainTexts p → IsToldOf p told → (j : ℕ) → j < length (scopes_of p).blocks →
    BlockFits p told j
