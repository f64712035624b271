-- A code that is faithful to a source: for every list of choices it does what the source does.
use Rattle.std.specs.Prelude.{◌≡◌, ◌⊎◌, ℕ, ◌+◌, ◌*◌, ◌≤◌, max, List, [], ◌∷◌, ◌++◌, length, sum, filter, Some, slice_get}
use Rattle.algol_tree.specs.Plain.{PProgram}
use Rattle.algol_tree.specs.Scopes.{scopes_of}
use Rattle.algol_paths.specs.Segments.{is_procedure, segment_tokens}
use Rattle.b67_segment.specs.declared.code.Code.{Code}
use Rattle.b67_segment.specs.declared.code.Segment.{Segment}
use Rattle.algol_meaning.specs.Run.{Legal}
use Rattle.b67_table.specs.Outcome.{limit}
use Rattle.b67_table.specs.Image.{Image}
use Rattle.b67_table.specs.Table.{table}
use Rattle.b67_table.specs.Runs.{Plains, TableRun}
use Rattle.b67_table.specs.Sound.{Sound}
use Rattle.b67_listing.specs.Listings.{IsListable}
use Rattle.b67_faithful.specs.Agreement.{WorldAgrees}
use Rattle.b67_letters.specs.Entries.{letters, all_released, all_started}
use Rattle.b67_faithful.specs.Correspondence.{source_actions, source_released, source_started}
use Rattle.b67_faithful.specs.Lines.{formats_for, lines_of}

-- after entries of the schedule the process of the next one comes to the stack limit before its next action is done
pub record ComesToLimit (code : Code) (schedule : List ℕ) : Type 0 where
  pub before : List ℕ
  pub next : ℕ
  pub later : List ℕ
  pub split : schedule ≡ before ++ next ∷ later
  pub image : Image
  pub run : TableRun code before [] image
  pub plain : ℕ
  pub quiet : Image
  pub plains : Plains code next image plain quiet
  pub stops : table code quiet next ≡ limit

-- a segment has at most 24 syllables for each token of its text, and 48 more
abbrev pub IsShortSegment : PProgram → Code → Type 0
IsShortSegment tree code = (k : ℕ) (segment : Segment) → slice_get code.segments k ≡ Some segment → 6 * length segment.words ≤ 24 * segment_tokens tree k + 48

-- the syllables of the longest of these segments
abbrev pub longest : List Segment → ℕ
longest [] = 0
longest (segment ∷ segments) = max (6 * length segment.words) (longest segments)

-- what runs of the code have to do with the source
pub record CodeFollows (tree : PProgram) (code : Code) : Type 0 where
  -- no operator of a run is ill-tagged, or reads or writes what is another process's own
  pub sound : Sound code
  -- each run of the code has a legal schedule of the source, with its output, end and able processes, on stacks within their weights
  pub legal : (schedule tails : List ℕ) (image : Image) → TableRun code schedule tails image → WorldAgrees tree code schedule image
  -- the operator of each entry has the letter of that entry's action in the source, releases whom that releases, in the same order, and starts
  -- whom that starts
  pub actions : (schedule tails : List ℕ) (image : Image) → (r : TableRun code schedule tails image) → letters r.runs ≡ source_actions tree r.history
  pub released : (schedule tails : List ℕ) (image : Image) → (r : TableRun code schedule tails image) → all_released r.runs ≡ source_released tree r.history
  pub started : (schedule tails : List ℕ) (image : Image) → (r : TableRun code schedule tails image) → all_started r.runs ≡ source_started tree r.history
  -- each legal schedule of the source has a run of the code, or comes to the stack limit
  pub whole : (schedule : List ℕ) → Legal tree schedule → ((image : Image) × TableRun code schedule [] image) ⊎ ComesToLimit code schedule

-- the code has a segment for the program's text, and one for each procedure with a body
abbrev pub HasSegments : PProgram → Code → Type 0
HasSegments tree code = length code.segments ≡ 1 + length (filter is_procedure (scopes_of tree).blocks)

-- the formats of the code are those of the program's lines, one for each, in the order of its segments
abbrev pub HasFormats : PProgram → Code → Type 0
HasFormats tree code = code.formats ≡ formats_for (lines_of tree)

-- A code that does what the source does, has its segments and its formats, is short and can be listed, so that its listing tells it.
pub record Faithful (tree : PProgram) (code : Code) : Type 0 where
  pub follows : CodeFollows tree code
  pub segments : HasSegments tree code
  pub formats : HasFormats tree code
  pub short : IsShortSegment tree code
  pub listable : IsListable code
  -- for each entry and for each tail at most as many operators are performed as the longest segment has syllables
  pub few : (schedule tails : List ℕ) (image : Image) → (r : TableRun code schedule tails image) →
      sum r.counts + sum tails ≤ (length schedule + length tails) * longest code.segments
