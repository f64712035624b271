-- Every private operator makes of the private part of a valid image again such a part, as long as its stack is not too long.
use Rattle.std.proofs.Common.{◌≡◌, subst, ℕ, ◌^◌, ◌<◌, ◌≤◌, Bool, true, false, pos, cond, arith}
use Rattle.std.specs.Prelude.{nat_lt, bit_and, bit_or}
use Rattle.b67_num.specs.declared.Calculation.TheVariants.{Sum, Difference, Product, WholeQuotient, TruncatedQuotient, Remainder}
use Rattle.b67_num.specs.declared.Relation.TheVariants.{Less, LessOrEqual, Equal, NotEqual, GreaterOrEqual, Greater}
use Rattle.b67_num.specs.Whole.{related, calculated}
use Rattle.b67_num.proofs.WholeLaws.{calculated_fits}
use Rattle.b67_word.specs.Word.{word, operand}
use Rattle.b67_ops.specs.declared.BranchKind.{BranchKind}
use Rattle.b67_ops.specs.declared.Operator.{Operator}
use Rattle.b67_ops.specs.declared.Operator.TheVariants as ops
use Rattle.b67_ops.specs.declared.PlainKind.{PlainKind}
use Rattle.b67_ops.specs.declared.PlainKind.TheVariants as kinds
use Rattle.b67_ops.specs.Spelling.{Fits}
use Rattle.b67_store.specs.Store.{stack_limit}
use Rattle.b67_table.specs.declared.Private.{Private}
use Rattle.b67_table.specs.Effect.{gives}
use Rattle.b67_table.specs.PrivateRows.{arithmetic, relation, negated, logic, agreement, complemented, dropped, exchanged, doubled, stuff, mark, make_cells, branch, reference}
use Rattle.b67_table.specs.Rows.{TableRow, private_part, row, plain_row, acts, branch_turn}
use Rattle.b67_table.specs.Table.{part_by, private_op}
use Rattle.b67_table.proofs.Keeping.{Gives}
use Rattle.b67_table.proofs.Wordly.{literal_is_word, tagged_is_word, and_fits, or_fits, agreement_fits, reference_is_word}
use Rattle.b67_table.proofs.PrivateKept.{IsPart, onward_kept, arithmetic_kept, relation_kept, negated_kept, logic_kept, complemented_kept, mark_kept, stuff_kept, word_kept, cells_kept, dropped_kept, exchanged_kept, doubled_kept, branch_kept, given, Left}

module _ (base : ℕ) where
  plain_kept : (kind : PlainKind) (next : ℕ) (m : Private) → next < 2 ^ 16 → IsPart base m → Gives (Left base) (part_by (plain_row kind) next m)
  plain_kept kinds.Add next m h k = onward_kept base (arithmetic (calculated Sum)) next m h (arithmetic_kept base (calculated Sum) (calculated_fits Sum) m k)
  plain_kept kinds.Subt next m h k = onward_kept base (arithmetic (calculated Difference)) next m h (arithmetic_kept base (calculated Difference) (calculated_fits Difference) m k)
  plain_kept kinds.Mult next m h k = onward_kept base (arithmetic (calculated Product)) next m h (arithmetic_kept base (calculated Product) (calculated_fits Product) m k)
  plain_kept kinds.Divd next m h k = onward_kept base (arithmetic (calculated WholeQuotient)) next m h (arithmetic_kept base (calculated WholeQuotient) (calculated_fits WholeQuotient) m k)
  plain_kept kinds.Idiv next m h k = onward_kept base (arithmetic (calculated TruncatedQuotient)) next m h (arithmetic_kept base (calculated TruncatedQuotient) (calculated_fits TruncatedQuotient) m k)
  plain_kept kinds.Rdiv next m h k = onward_kept base (arithmetic (calculated Remainder)) next m h (arithmetic_kept base (calculated Remainder) (calculated_fits Remainder) m k)
  plain_kept kinds.Less next m h k = onward_kept base (relation (related Less)) next m h (relation_kept base (related Less) m k)
  plain_kept kinds.Greq next m h k = onward_kept base (relation (related GreaterOrEqual)) next m h (relation_kept base (related GreaterOrEqual) m k)
  plain_kept kinds.Grtr next m h k = onward_kept base (relation (related Greater)) next m h (relation_kept base (related Greater) m k)
  plain_kept kinds.Lseq next m h k = onward_kept base (relation (related LessOrEqual)) next m h (relation_kept base (related LessOrEqual) m k)
  plain_kept kinds.Equl next m h k = onward_kept base (relation (related Equal)) next m h (relation_kept base (related Equal) m k)
  plain_kept kinds.Neql next m h k = onward_kept base (relation (related NotEqual)) next m h (relation_kept base (related NotEqual) m k)
  plain_kept kinds.Chsn next m h k = onward_kept base negated next m h (negated_kept base m k)
  plain_kept kinds.Land next m h k = onward_kept base (logic bit_and) next m h (logic_kept base bit_and and_fits m k)
  plain_kept kinds.Lor next m h k = onward_kept base (logic bit_or) next m h (logic_kept base bit_or or_fits m k)
  plain_kept kinds.Lnot next m h k = onward_kept base complemented next m h (complemented_kept base m k)
  plain_kept kinds.Leqv next m h k = onward_kept base (logic agreement) next m h (logic_kept base agreement agreement_fits m k)
  plain_kept kinds.Exit next m h k = tt
  plain_kept kinds.Nxln next m h k = tt
  plain_kept kinds.Indx next m h k = tt
  plain_kept kinds.Retn next m h k = tt
  plain_kept kinds.Entr next m h k = tt
  plain_kept kinds.Eval next m h k = tt
  plain_kept kinds.Nxlv next m h k = tt
  plain_kept kinds.Mkst next m h k = onward_kept base mark next m h (mark_kept base m k)
  plain_kept kinds.Stff next m h k = onward_kept base stuff next m h (stuff_kept base m k)
  plain_kept kinds.Zero next m h k = word_kept base (operand (pos 0)) next m (literal_is_word 0 (omega arith)) h k
  plain_kept kinds.One next m h k = word_kept base (operand (pos 1)) next m (literal_is_word 1 (omega arith)) h k
  plain_kept kinds.Push next m h k = onward_kept base make_cells next m h (cells_kept base m k)
  plain_kept kinds.Dlet next m h k = onward_kept base dropped next m h (dropped_kept base m k)
  plain_kept kinds.Exch next m h k = onward_kept base exchanged next m h (exchanged_kept base m k)
  plain_kept kinds.Dupl next m h k = onward_kept base doubled next m h (doubled_kept base m k)
  plain_kept kinds.Stod next m h k = tt
  plain_kept kinds.Ston next m h k = tt
  plain_kept kinds.Lodt next m h k = tt
  plain_kept kinds.Load next m h k = tt
  plain_kept kinds.Noop next m h k = onward_kept base gives next m h (given base m k)

  forward_kept : (b : Bool) (kind : BranchKind) (target next : ℕ) (program : TableRow) (m : Private) → Gives (Left base) (branch kind target next m)
      → Gives (Left base) (part_by program next m) → Gives (Left base) (part_by (cond b (private_part (branch kind target)) program) next m)
  forward_kept true kind target next program m f e = f
  forward_kept false kind target next program m f e = e

  op_kept : (op : Operator) (at next level : ℕ) (m : Private) → level < 32 → Fits level op → next < 2 ^ 16 → IsPart base m
      → Gives (Left base) (private_op op at next m)
  unfolding private_op row
  op_kept (ops.Valc couple) at next level m l f h k = tt
  op_kept (ops.Namc couple) at next level m l f h k =
      word_kept base (reference couple) next m (reference_is_word level couple f.level_seen l f.index_fits) h k
  op_kept (ops.Lt8 n) at next level m l f h k = word_kept base (operand (pos n)) next m (literal_is_word n (omega (arith, f))) h k
  op_kept (ops.Lt16 n) at next level m l f h k = word_kept base (operand (pos n)) next m (literal_is_word n f) h k
  op_kept (ops.Lt48 n) at next level m l f h k = word_kept base (word 0 n) next m (tagged_is_word 0 n (omega arith) f) h k
  op_kept (ops.Mpcw n) at next level m l f h k = word_kept base (word 7 n) next m (tagged_is_word 7 n (omega arith) f) h k
  op_kept (ops.Branch kind target) at next level m l f h k =
      forward_kept (nat_lt at target) kind target next (acts (branch_turn kind target)) m (branch_kept base kind target next m f h k) tt
  op_kept (ops.Plain kind) at next level m l f h k = plain_kept kind next m h k

  pub private_op_kept : (op : Operator) (at next level : ℕ) (m new : Private) → level < 32 → Fits level op → next < 2 ^ 16 → IsPart base m
      → private_op op at next m ≡ gives new → new.regs.s ≤ stack_limit → IsPart base new
  unfolding Left
  private_op_kept op at next level m new l f h k e = subst (Gives (Left base)) e (op_kept op at next level m l f h k)
