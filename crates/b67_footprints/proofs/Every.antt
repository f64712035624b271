-- Every operator asks and writes only what it may.
use Rattle.std.proofs.Common.{refl, ℕ, Bool, true, false, cond}
use Rattle.std.specs.Prelude.{nat_lt}
use Rattle.b67_control.specs.declared.Registers.{Registers}
use Rattle.b67_ops.specs.declared.BranchKind.{BranchKind}
use Rattle.b67_ops.specs.declared.Operator.{Operator}
use Rattle.b67_ops.specs.declared.Operator.TheVariants as ops
use Rattle.b67_ops.specs.declared.PlainKind.{PlainKind}
use Rattle.b67_ops.specs.declared.PlainKind.TheVariants as kinds
use Rattle.b67_segment.specs.declared.code.Code.{Code}
use Rattle.b67_table.specs.Image.{Image}
use Rattle.b67_table.specs.PrivateRows.{branch}
use Rattle.b67_table.specs.Rows.{private_part, acts, branch_turn, plain_row, row}
use Rattle.b67_footprints.specs.Keeping.{RowKeeps}
use Rattle.b67_footprints.specs.Laws.{OperatorsKeep}
use Rattle.b67_footprints.proofs.Operators.{turn_kept, value_call_kept, load_value_kept, load_through_kept, evaluate_kept, index_kept, index_and_load_kept, index_mother_kept, store_kept, exit_kept, return_value_kept}
use Rattle.b67_footprints.proofs.Entering.{enter_kept}

module _ (code : Code) (img : Image) (p : ℕ) (r : Registers) (next : ℕ) where
  plain_kept : (kind : PlainKind) → RowKeeps (plain_row kind) code img (ops.Plain kind) p r next
  plain_kept kinds.Add = tt
  plain_kept kinds.Subt = tt
  plain_kept kinds.Mult = tt
  plain_kept kinds.Divd = tt
  plain_kept kinds.Idiv = tt
  plain_kept kinds.Rdiv = tt
  plain_kept kinds.Less = tt
  plain_kept kinds.Greq = tt
  plain_kept kinds.Grtr = tt
  plain_kept kinds.Lseq = tt
  plain_kept kinds.Equl = tt
  plain_kept kinds.Neql = tt
  plain_kept kinds.Chsn = tt
  plain_kept kinds.Land = tt
  plain_kept kinds.Lor = tt
  plain_kept kinds.Lnot = tt
  plain_kept kinds.Leqv = tt
  plain_kept kinds.Exit = exit_kept img (ops.Plain kinds.Exit) r p next
  plain_kept kinds.Nxln = index_mother_kept img (ops.Plain kinds.Nxln) r p next refl tt
  plain_kept kinds.Indx = index_kept img (ops.Plain kinds.Indx) r p next refl tt
  plain_kept kinds.Retn = return_value_kept img (ops.Plain kinds.Retn) r p next
  plain_kept kinds.Entr = enter_kept img r p code next
  plain_kept kinds.Eval = evaluate_kept img (ops.Plain kinds.Eval) r p next refl tt
  plain_kept kinds.Nxlv = index_and_load_kept img (ops.Plain kinds.Nxlv) r p next refl tt
  plain_kept kinds.Mkst = tt
  plain_kept kinds.Stff = tt
  plain_kept kinds.Zero = tt
  plain_kept kinds.One = tt
  plain_kept kinds.Push = tt
  plain_kept kinds.Dlet = tt
  plain_kept kinds.Exch = tt
  plain_kept kinds.Dupl = tt
  plain_kept kinds.Stod = store_kept img (ops.Plain kinds.Stod) r p next refl tt false
  plain_kept kinds.Ston = store_kept img (ops.Plain kinds.Ston) r p next refl tt true
  plain_kept kinds.Lodt = load_through_kept img (ops.Plain kinds.Lodt) r p next refl
  plain_kept kinds.Load = load_value_kept img (ops.Plain kinds.Load) r p next refl tt
  plain_kept kinds.Noop = tt

  branch_kept : (op : Operator) (kind : BranchKind) (target : ℕ) (b : Bool) → RowKeeps (cond b (private_part (branch kind target)) (acts (branch_turn kind target))) code img op p r next
  branch_kept op kind target true = tt
  branch_kept op kind target false = turn_kept img op r p next kind target

pub operators_keep : OperatorsKeep
unfolding row
operators_keep code img p r (ops.Valc couple) here next = value_call_kept img (ops.Valc couple) r p next couple refl
operators_keep code img p r (ops.Namc couple) here next = tt
operators_keep code img p r (ops.Lt8 n) here next = tt
operators_keep code img p r (ops.Lt16 n) here next = tt
operators_keep code img p r (ops.Lt48 n) here next = tt
operators_keep code img p r (ops.Mpcw n) here next = tt
operators_keep code img p r (ops.Branch kind target) here next = branch_kept code img p r next (ops.Branch kind target) kind target (nat_lt here target)
operators_keep code img p r (ops.Plain kind) here next = plain_kept code img p r next kind
