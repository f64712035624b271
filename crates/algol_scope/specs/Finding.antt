-- What is found in a whole program.
use Rattle.std.specs.Prelude.{◌≡◌, ℕ, List, [], ◌++◌, map, None}
use Rattle.std.specs.List.{flat_map}
use Rattle.std.specs.declared.alloc.Global.{Global}
use Rattle.std.specs.declared.vec.Vec.{Vec}
use Rattle.std.specs.BTreeMap.{BTreeMap}
use Rattle.algol_tree.specs.declared.TheConstants.{MOST_PROCEDURES}
use Rattle.algol_tree.specs.declared.refusal.Code.TheVariants as codes
use Rattle.algol_tree.specs.declared.refusal.Fault.{Fault}
use Rattle.algol_tree.specs.Plain.{PProgram}
use Rattle.algol_tree.specs.Blocks.{blocks_of_program}
use Rattle.algol_tree.specs.Cells.{cells_at}
use Rattle.algol_tree.specs.Couples.{known_at}
use Rattle.algol_tree.specs.Names.{place_beyond, program_segment}
use Rattle.algol_tree.specs.Accepted.{broken, noted_all, sites_of}
use Rattle.algol_tree.specs.Surroundings.{outermost}
use Rattle.algol_known.specs.declared.known.Seen.{Seen}
use Rattle.algol_known.specs.Seeing as names
use Rattle.algol_known.specs.Seeing.{Sees}
use Rattle.algol_frames.specs.declared.found.Cell.{Cell}
use Rattle.algol_frames.specs.declared.found.Block.{Block}
use Rattle.algol_scope.specs.declared.resolver.Resolver.{Resolver}
use Rattle.algol_frames.specs.Framing.{beyond_from, deep_place, procedure_place}
use Rattle.algol_scope.specs.Noting.{noted_cell_of, faults_at, long_segment, use_of}
use Rattle.algol_scope.specs.Stating.{stated_block_of}

-- The walk has found what there is in the whole program.
pub record WalkHolds (r : Resolver) (p : PProgram) : Type 0 where
  pub faults : r.findings.faults.first ≡ noted_all None (flat_map (faults_at (blocks_of_program p)) (sites_of p))
  pub cells : r.findings.cells.items ≡ map noted_cell_of (flat_map (cells_at (blocks_of_program p)) (sites_of p))
  pub uses : r.findings.uses.items ≡ map use_of (flat_map (known_at (blocks_of_program p)) (sites_of p))
  pub blocks : r.blocks.items ≡ map stated_block_of (blocks_of_program p)

-- Before the outer block nothing is known, and nothing is found.
pub record IsNew (r : Resolver) : Type 0 where
  pub sees : (seen : Seen) → Sees r.around seen outermost
  pub holds : names.KnownHolds r.around outermost
  pub typed : r.around.innermost.typed ≡ None
  pub outer : r.around.outer.items ≡ []
  pub faults : r.findings.faults.first ≡ None
  pub cells : r.findings.cells.items ≡ []
  pub uses : r.findings.uses.items ≡ []
  pub blocks : r.blocks.items ≡ []

-- The faults by limits: too many levels, too many cells, too many procedures, and the program's own text too long.
abbrev pub limit_faults : PProgram → List Block → BTreeMap ℕ (Vec Cell Global) → List Fault
limit_faults p blocks table =
    broken codes.TooManyLevels (flat_map deep_place blocks) ++
    (broken codes.TooManyCells (beyond_from table 0 blocks) ++
    (broken codes.TooManyProcedures (place_beyond MOST_PROCEDURES (flat_map procedure_place blocks)) ++
    broken codes.SegmentTooLong (long_segment (program_segment p))))
