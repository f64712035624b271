-- Where the labels lead that GO TO names: by the place where a label is declared the level of its block, the number of its text, and the place
-- of its branch in the table of that text.
use Rattle.std.specs.Prelude.{◌≡◌, ℕ, ◌+◌, ◌≤◌, if◌then◌else◌, List, [], ◌∷◌, length, Option, Some, None, slice_get}
use Rattle.std.specs.BTreeMap.{BTreeMap, get}
use Rattle.algol_tree.specs.declared.TheConstants.{MOST_SEGMENT_TOKENS}
use Rattle.algol_tree.specs.declared.token.Spot.{Spot}
use Rattle.algol_tree.specs.contracts.token.SpotOrd.TheImpl.{ghosts}
use Rattle.algol_tree.specs.Blocks.{same_spot}
use Rattle.b67_emitter.specs.declared.names.Target.{Target}
use Rattle.b67_templates.specs.Labels.{table_place}
use Rattle.b67_emit_text.specs.Entries.{DeclaredLabel, AllLow, entries_of}
use Rattle.b67_emit_text.specs.Texts.{Text}

abbrev pub or_target : Option Target → Option Target → Option Target
or_target None otherwise = otherwise
or_target (Some t) otherwise = Some t

-- one that is declared there
abbrev pub target_there : Spot → Target → Spot → Option Target
target_there at target spot = if same_spot at spot then Some target else None

-- that of an entry with this number in the table of that text
abbrev pub target_at : ℕ → ℕ → DeclaredLabel → Target
target_at text number e = record { level = e.level; segment = text; entry = table_place number }

-- those of entries, the first of which has this number
abbrev pub targets_from : ℕ → ℕ → List DeclaredLabel → Spot → Option Target
targets_from text number [] spot = None
targets_from text number (e ∷ es) spot = or_target (target_there e.name.spot (target_at text number e) spot) (targets_from text (number + 1) es spot)

-- those of texts, the first of which has this number
abbrev pub targets_in : ℕ → List Text → Spot → Option Target
targets_in text [] spot = None
targets_in text (t ∷ ts) spot = or_target (targets_from text 0 (entries_of t.level t.decls t.stmts) spot) (targets_in (text + 1) ts spot)

-- what a table has under a place
abbrev pub target_under : BTreeMap Spot Target → Spot → Option Target
target_under table spot = get ghosts.cmp table spot

-- the second table has also what is found at a place where the first has nothing
abbrev pub TargetAdds : BTreeMap Spot Target → BTreeMap Spot Target → (Spot → Option Target) → Type 0
TargetAdds old new found = (spot : Spot) → target_under new spot ≡ or_target (target_under old spot) (found spot)

-- the table has those of these texts, and no other
abbrev pub AreTargets : List Text → BTreeMap Spot Target → Type 0
AreTargets ts table = (spot : Spot) → target_under table spot ≡ targets_in 0 ts spot

-- the blocks of each text have levels that the machine has, and no more labels than a segment may have tokens
abbrev pub IsSmallText : Text → Type 0
IsSmallText t = AllLow t.level t.stmts × (length (entries_of t.level t.decls t.stmts) ≤ MOST_SEGMENT_TOKENS)

abbrev pub AreSmall : List Text → Type 0
AreSmall ts = (number : ℕ) (t : Text) → slice_get ts number ≡ Some t → IsSmallText t
