-- Labels: how they are numbered in the text of a segment, and the code by which GO TO comes to the statements after them.
use Rattle.std.specs.Prelude.{◌≡◌, ℕ, zero, suc, ◌+◌, ◌*◌, ◌≤◌, nat_eq, if◌then◌else◌, pos, List, [], ◌∷◌, ◌++◌, length, Option, Some, None}
use Rattle.algol_tree.specs.declared.tree.Named.{Named}
use Rattle.algol_tree.specs.Plain as tree
use Rattle.algol_tree.specs.Plain.{PStmt, PStmts, PDecls}
use Rattle.algol_tree.specs.Sorts as sort
use Rattle.algol_tree.specs.Sorts.{same_name}
use Rattle.algol_tree.specs.Blocks.{Block, block_numbered}
use Rattle.algol_tree.specs.Scopes.{Scopes, use_of}
use Rattle.algol_meaning.specs.Statements.{is_labelled}
use Rattle.algol_paths.specs.Segments.{segment_of}
use Rattle.b67_ops.specs.declared.Operator.TheVariants as ops
use Rattle.b67_ops.specs.declared.PlainKind.TheVariants as kinds
use Rattle.b67_ops.specs.declared.BranchKind.TheVariants.{Brun}
use Rattle.b67_ops.specs.declared.TheConstants.{OUTER_LEVEL}
use Rattle.b67_ops.specs.declared.intrinsic.Intrinsic.TheVariants.{GoTo}
use Rattle.b67_segment.specs.Operators.{Placed}
use Rattle.b67_templates.specs.Contexts.{Context}
use Rattle.b67_templates.specs.Fragments.{Has, NumberAt, BranchAt, IntrinsicAt}

-- ---- their numbers

-- the labels that declarations have, in their order
abbrev pub labels_in : PDecls → List Named
labels_in tree.no_decls = []
labels_in (tree.decls (tree.labels ns) ds) = ns ++ labels_in ds
labels_in (tree.decls d ds) = labels_in ds

-- how many labels the blocks before the one with this number declare whose text stands in this segment
abbrev pub labels_before : Scopes → ℕ → ℕ → ℕ
labels_before sc segment zero = 0
labels_before sc segment (suc j) =
    labels_before sc segment j + (if nat_eq (segment_of sc.blocks j) segment then length (labels_in (block_numbered sc.blocks j).decls) else 0)

-- the number of the first label of that name among these, the first of which has this number
abbrev pub label_from : ℕ → List Named → List ℕ → Option ℕ
label_from k [] name = None
label_from k (n ∷ ns) name = if same_name n.name name then Some k else label_from (k + 1) ns name

-- The labels of a segment are numbered block by block. This is the number of the label of that name of the block with this number.
abbrev pub label_number : Scopes → ℕ → List ℕ → Option ℕ
label_number sc j name = label_from (labels_before sc (segment_of sc.blocks j) j) (labels_in (block_numbered sc.blocks j).decls) name

-- The code of a segment with labels begins with a branch over a table of branches, one for each label. Each of them has three syllables.
abbrev pub table_place : ℕ → ℕ
table_place number = 3 + 3 * number

-- At a text of this level the name is that of a label of a block of the level `target`, whose branch stands in the table of this segment, at
-- this place.
pub record IsLabel (sc : Scopes) (level : ℕ) (n : Named) (target segment entry : ℕ) : Type 0 where
  pub sort_is : (use_of sc n).sort ≡ sort.label
  pub number : ℕ
  pub there : label_number sc ((use_of sc n).block) n.name ≡ Some number
  pub outer : OUTER_LEVEL ≤ target
  pub level_is : target + (use_of sc n).up ≡ level
  pub segment_is : segment ≡ segment_of sc.blocks ((use_of sc n).block)
  pub entry_is : entry ≡ table_place number

-- ---- where they stand

-- the label of that name before a statement
abbrev pub label_before : PStmt → List ℕ → Option Named
label_before (tree.label n s) name = if same_name n.name name then Some n else label_before s name
label_before _ name = None

-- .. in a list
abbrev pub label_in : PStmts → List ℕ → Option Named
label_in tree.no_stmts name = None
label_in (tree.stmts s ss) name = if is_labelled s name then label_before s name else label_in ss name

module _ (sc : Scopes) (context : Context) (ps : List Placed) (level : ℕ) where
  -- The branch in the table for the block's label of that name leads to the statement before which the label stands.
  pub record LabelAt (b : Block) (name : List ℕ) (number : ℕ) : Type 0 where
    pub label : Named
    pub stands : label_in b.stmts name ≡ Some label
    pub target : ℕ
    pub next : ℕ
    pub place : context.labels label.spot ≡ Some target
    pub branch : BranchAt ps level Brun (table_place number) target next

  -- GO TO: a mark, the reference of the intrinsic, the level of the label's block, the segment and the place of the label's branch, the entry
  pub record GoToAt (n : Named) (f t : ℕ) : Type 0 where
    pub target : ℕ
    pub segment : ℕ
    pub entry : ℕ
    pub label : IsLabel sc context.level n target segment entry
    pub named : ℕ
    pub leveled : ℕ
    pub segmented : ℕ
    pub placed : ℕ
    pub intrinsic : IntrinsicAt ps level GoTo f named
    pub level_stands : NumberAt ps level (pos target) named leveled
    pub segment_stands : NumberAt ps level (pos segment) leveled segmented
    pub entry_stands : NumberAt ps level (pos entry) segmented placed
    pub enter : Has ps level placed (ops.Plain kinds.Entr) t
