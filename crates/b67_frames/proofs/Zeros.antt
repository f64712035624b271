-- The cells of a new instance are zeros.
use Rattle.std.proofs.Common.{◌≡◌, refl, ap, ℕ, suc, List, [], ◌∷◌, ◌++◌, length, Option, Some, None, arith}
use Rattle.b67_frames.proofs.Prelude.{pos, replicate, Block, PDecls, Kind, Named, initial_value, NamedCell, Word, Simple, zero_cells, HasKind, ValueIs, CellsAre}
use Rattle.algol_tree.specs.declared.tree.Kind.TheVariants as types
use Rattle.algol_tree.specs.Plain as tree
use Rattle.algol_meaning.specs.Instances.{result_cells, initial_cells, variable_cells}
use Rattle.b67_word.specs.Word as words
use Rattle.b67_templates.specs.Cells.{of_kind, result_cells_of, variables, value}

abbrev pub zero_word : Word
zero_word = words.operand (pos 0)

pub zero_is : (kind : Kind) → HasKind kind (initial_value kind) × ValueIs (initial_value kind) zero_word
unfolding words.operand
zero_is types.Number = (omega arith, record { is = refl; whole = omega arith })
zero_is types.Truth = (tt, record { tag = refl; bits = omega arith; lowest = refl })

abbrev AreZeroCells : List Simple → List NamedCell → Type 0
AreZeroCells ss cells = CellsAre ss cells (replicate (length ss) zero_word)

named_zeros : (kind : Kind) (ns : List Named) (ss : List Simple) (cells : List NamedCell) → AreZeroCells ss cells → AreZeroCells (of_kind kind ns ++ ss) (initial_cells kind ns ++ cells)
named_zeros kind [] ss cells are = are
named_zeros kind (n ∷ ns) ss cells are = (refl, zero_is kind, named_zeros kind ns ss cells are)

declared_zeros : (ds : PDecls) → AreZeroCells (variables ds) (variable_cells ds)
declared_zeros tree.no_decls = tt
declared_zeros (tree.decls (tree.simple kind ns) ds) = named_zeros kind ns (variables ds) (variable_cells ds) (declared_zeros ds)
declared_zeros (tree.decls (tree.files ns) ds) = declared_zeros ds
declared_zeros (tree.decls (tree.events ns) ds) = declared_zeros ds
declared_zeros (tree.decls (tree.tasks ns) ds) = declared_zeros ds
declared_zeros (tree.decls (tree.labels ns) ds) = declared_zeros ds
declared_zeros (tree.decls (tree.arrays kind ns pairs) ds) = declared_zeros ds
declared_zeros (tree.decls (tree.forward h) ds) = declared_zeros ds
declared_zeros (tree.decls (tree.procedure h s) ds) = declared_zeros ds

result_zeros : (o : Option Kind) (name : List ℕ) (ss : List Simple) (cells : List NamedCell) → AreZeroCells ss cells → AreZeroCells (result_cells_of o name ++ ss) (result_cells o name ++ cells)
result_zeros None name ss cells are = are
result_zeros (Some kind) name ss cells are = (refl, zero_is kind, are)

-- the result and the variables of a block are zeros at first
pub block_zeros : (b : Block) → AreZeroCells (zero_cells b) (result_cells b.result b.name ++ variable_cells b.decls)
block_zeros b = result_zeros b.result b.name (variables b.decls) (variable_cells b.decls) (declared_zeros b.decls)

pub cells_length : (ss : List Simple) (cells : List NamedCell) (ws : List Word) → CellsAre ss cells ws → length cells ≡ length ss
cells_length [] [] [] are = refl
cells_length [] [] (w ∷ ws) are = absurd are
cells_length [] (c ∷ cells) ws are = absurd are
cells_length (s ∷ ss) [] ws are = absurd are
cells_length (s ∷ ss) (c ∷ cells) [] are = absurd are
cells_length (s ∷ ss) (c ∷ cells) (w ∷ ws) are = ap suc (cells_length ss cells ws are.2)

-- ---- kinds

-- each of these cells has a kind
abbrev pub HaveKinds : List Simple → Type 0
HaveKinds [] = Unit {0}
HaveKinds (s ∷ ss) = ((kind : Kind) × (s.wanted ≡ value kind)) × HaveKinds ss

named_kinds : (kind : Kind) (ns : List Named) (ss : List Simple) → HaveKinds ss → HaveKinds (of_kind kind ns ++ ss)
named_kinds kind [] ss have = have
named_kinds kind (n ∷ ns) ss have = ((kind, refl), named_kinds kind ns ss have)

declared_kinds : (ds : PDecls) → HaveKinds (variables ds)
declared_kinds tree.no_decls = tt
declared_kinds (tree.decls (tree.simple kind ns) ds) = named_kinds kind ns (variables ds) (declared_kinds ds)
declared_kinds (tree.decls (tree.files ns) ds) = declared_kinds ds
declared_kinds (tree.decls (tree.events ns) ds) = declared_kinds ds
declared_kinds (tree.decls (tree.tasks ns) ds) = declared_kinds ds
declared_kinds (tree.decls (tree.labels ns) ds) = declared_kinds ds
declared_kinds (tree.decls (tree.arrays kind ns pairs) ds) = declared_kinds ds
declared_kinds (tree.decls (tree.forward h) ds) = declared_kinds ds
declared_kinds (tree.decls (tree.procedure h s) ds) = declared_kinds ds

result_kinds : (o : Option Kind) (name : List ℕ) (ss : List Simple) → HaveKinds ss → HaveKinds (result_cells_of o name ++ ss)
result_kinds None name ss have = have
result_kinds (Some kind) name ss have = ((kind, refl), have)

-- the result of a block and its variables have
pub block_kinds : (b : Block) → HaveKinds (zero_cells b)
block_kinds b = result_kinds b.result b.name (variables b.decls) (declared_kinds b.decls)
