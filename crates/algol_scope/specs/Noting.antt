-- What the walk finds at the parts of a tree.
use Rattle.std.specs.Prelude.{◌≡◌, if◌then◌else◌, List, [], ◌∷◌, ◌++◌, map, min, nat_lt, Option, Some, None}
use Rattle.std.specs.List.{flat_map}
use Rattle.algol_tree.specs.declared.TheConstants.{MOST_SEGMENT_TOKENS}
use Rattle.algol_tree.specs.declared.token.Spot.{Spot}
use Rattle.algol_tree.specs.declared.refusal.Code.TheVariants as codes
use Rattle.algol_tree.specs.declared.refusal.Fault.{Fault}
use Rattle.algol_tree.specs.declared.tree.Named.{Named}
use Rattle.algol_tree.specs.declared.tree.EventName.{EventName}
use Rattle.algol_tree.specs.Plain.{PExprs}
use Rattle.algol_tree.specs.Classes as class
use Rattle.algol_tree.specs.Classes.{Class, Formal}
use Rattle.algol_tree.specs.Sorts.{Declared, formals_of}
use Rattle.algol_tree.specs.Blocks.{Block, same_spot}
use Rattle.algol_tree.specs.Surroundings.{Surroundings, formals_at}
use Rattle.algol_tree.specs.Sites as site
use Rattle.algol_tree.specs.Sites.{Site, inside_actuals}
use Rattle.algol_tree.specs.Cells as cells
use Rattle.algol_tree.specs.Cells.{cells_at, level_at}
use Rattle.algol_tree.specs.Couples.{Known, known_at}
use Rattle.algol_tree.specs.Names.{Segment, if_so, unknown_names, declared_twice, deep_actuals, segments_of_part}
use Rattle.algol_tree.specs.Accepted.{broken, noted_all}
use Rattle.algol_sorts.specs.declared.sort.Sort.{Sort}
use Rattle.algol_sorts.specs.Sorts.{sort_of}
use Rattle.algol_known.specs.declared.known.Seen.{Seen}
use Rattle.algol_known.specs.declared.known.Seen.TheVariants as seens
use Rattle.algol_known.specs.declared.around.Around.{Around}
use Rattle.algol_frames.specs.declared.found.Content.{Content}
use Rattle.algol_frames.specs.declared.found.Content.TheVariants as content
use Rattle.algol_frames.specs.declared.found.Cell.{Cell}
use Rattle.algol_frames.specs.declared.found.Use.{Use}
use Rattle.algol_scope.specs.declared.findings.Findings.{Findings}
use Rattle.algol_known.specs.Seeing.{Sees, mode_of}

abbrev pub long_segment : Segment → List Spot
long_segment s = if_so (nat_lt MOST_SEGMENT_TOKENS s.tokens) s.spot

-- the segments of this part that are too long
abbrev pub long_at : Site → List Spot
long_at x = flat_map long_segment (segments_of_part x.part)

-- the rules of names, of an actual's level and of a segment's length that a part breaks
abbrev pub faults_at : List Block → Site → List Fault
faults_at blocks x =
    broken codes.UnknownName (unknown_names x) ++
    (broken codes.DeclaredTwice (declared_twice blocks x) ++ (broken codes.TooManyLevels (deep_actuals x) ++ broken codes.SegmentTooLong (long_at x)))

abbrev pub content_of : cells.Content → Content
content_of cells.parameter = content.Parameter
content_of cells.result = content.Result
content_of cells.variable = content.Variable
content_of cells.procedure = content.Procedure
content_of cells.actual = content.Actual
content_of cells.made = content.Made

abbrev pub noted_cell_of : cells.Cell → Cell
noted_cell_of c = record { block = c.block; spot = c.spot; content = content_of c.content }

-- what the parameters are declared as, of what is a procedure
abbrev pub parameters_by : Class → Option (List Sort)
parameters_by (class.procedure h) = Some (map mode_of (formals_of h))
parameters_by _ = None

-- the same where the name is that of the heading which declares it
abbrev pub parameters_here : Spot → Declared → Option (List Sort)
parameters_here spot d = if same_spot spot d.spot then parameters_by d.class else None

abbrev pub use_of : Known → Use
use_of k =
    record {
      spot = k.spot;
      declared = k.declared.spot;
      block = k.declared.block;
      level = min (level_at k.declared.depth) 255;
      sort = sort_of k.declared;
      parameters = parameters_here k.spot k.declared;
    }

-- These faults are noted, and these cells and names are added.
pub record FindingsAdd (old : Findings) (fs : List Fault) (cs : List cells.Cell) (us : List Known) (new : Findings) : Type 0 where
  pub faults : new.faults.first ≡ noted_all old.faults.first fs
  pub cells : new.cells.items ≡ old.cells.items ++ map noted_cell_of cs
  pub uses : new.uses.items ≡ old.uses.items ++ map use_of us

-- What there is at these parts is found.
abbrev pub ScopeFinds : List Block → Findings → List Site → Findings → Type 0
ScopeFinds blocks old parts new =
    FindingsAdd old (flat_map (faults_at blocks) parts) (flat_map (cells_at blocks) parts) (flat_map (known_at blocks) parts) new

-- The walk finds what there is at parts that stand in these surroundings.
pub record ScopeWalks (k : Around) (seen : Seen) (old new : Findings) (parts : Surroundings → List Site) : Type 0 where
  pub finds : (blocks : List Block) (a : Surroundings) → Sees k seen a → ScopeFinds blocks old (parts a) new

-- The same of actuals, for such parameters.
pub record ActualsPass (k : Around) (seen : Seen) (old new : Findings) (modes : List Sort) (es : PExprs) : Type 0 where
  pub finds : (blocks : List Block) (a : Surroundings) (fs : List Formal) → Sees k seen a → modes ≡ map mode_of fs →
      ScopeFinds blocks old (inside_actuals es fs a) new

-- a name where it is used
abbrev pub at_name : Named → Surroundings → Site
at_name n a = record { part = site.name n; around = a }

-- the names of events, one after the other
abbrev pub at_events : List EventName → Surroundings → List Site
at_events es a = map (λ (e : EventName). at_name e.name a) es

-- Names are added that are known there.
pub record Knows (k : Around) (old new : Findings) (names : Surroundings → List Known) : Type 0 where
  pub knows : (a : Surroundings) → Sees k seens.All a → FindingsAdd old [] [] (names a) new

-- ---- PROCESS

abbrev pub task_parts : Option Named → Surroundings → List Site
task_parts None a = []
task_parts (Some n) a = at_name n a ∷ []

-- the names first, and then what is in the actuals
abbrev pub process_parts : Named → Option Named → PExprs → Surroundings → List Site
process_parts n task es a = at_name n a ∷ (task_parts task a ++ inside_actuals es (formals_at a n) a)
