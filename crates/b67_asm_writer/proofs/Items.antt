-- The lines of segments, read back.
use Rattle.std.proofs.Common.{◌≡◌, ℕ, ◌≤◌, ◌<◌, ◌&&◌, List, [], ◌∷◌, ◌++◌, codes, Option, Some, None, refl, sym, ap, subst, arith, ◌∙◌, append-nil}
use Rattle.std.specs.Prelude.{nat_le}
use Rattle.std.specs.Str.{bytes_eq}
use Rattle.std.specs.Fmt.{decimal}
use Rattle.std.proofs.lemmas.Bool.{and_from, cond-true, cond-false, le-leb}
use Rattle.b67_ops.specs.declared.TheConstants.{OUTER_LEVEL, MOST_LEVEL}
use Rattle.b67_ops.specs.declared.Operator.{Operator as Op}
use Rattle.b67_ops.specs.declared.Operator.TheVariants as ops
use Rattle.b67_ops.specs.declared.PlainKind.{PlainKind}
use Rattle.b67_ops.specs.declared.table.OperatorKind.{OperatorKind}
use Rattle.b67_ops.specs.declared.table.OperatorKind.TheVariants as kinds
use Rattle.b67_ops.specs.Codes.{name_of}
use Rattle.b67_ops.specs.Spelling.{Fits, kind_of}
use Rattle.b67_listing.specs.Operators.{operator_text}
use Rattle.b67_asm_text.specs.declared.item.Written.{Written}
use Rattle.b67_asm_text.specs.declared.item.Written.TheVariants.{Whole}
use Rattle.b67_asm_text.specs.declared.item.Reading.TheVariants.{NoItem, Segment, Level, Operator}
use Rattle.b67_asm_text.specs.Mnemonics.{kind_named}
use Rattle.b67_asm_text.specs.Numbers.{number_in}
use Rattle.b67_asm_text.specs.Operands.{written_in}
use Rattle.b67_asm_text.specs.Phrases.{phrases_in}
use Rattle.b67_asm_text.specs.Items.{alone, label_in, labelled, level_item, operator_item, plain_item, with_operand, written_item}
use Rattle.b67_asm_writer.proofs.Quiet.{IsReadAs, one_word, two_words}
use Rattle.b67_asm_writer.proofs.Names.{name_high, name_known, name_no_format, name_no_label, name_no_level, name_no_segment, name_some}
use Rattle.b67_asm_writer.proofs.Numbers.{decimal_high, decimal_some, number_back}
use Rattle.b67_asm_writer.proofs.Operands.{HasOperand, IsOperand, none, one, operand_of}

-- ---- SEGMENT

segment_no_format : phrases_in (codes "SEGMENT") ≡ None
unfolding phrases_in
segment_no_format = refl

segment_is : alone (codes "SEGMENT") ≡ Segment
unfolding alone
segment_is = refl

pub segment_back : IsReadAs (codes "SEGMENT") Segment
segment_back = subst (IsReadAs (codes "SEGMENT")) segment_is (one_word (codes "SEGMENT") (omega arith) refl segment_no_format)

-- ---- a level

level_no_format : (rest : List ℕ) → phrases_in (codes "LEVEL" ++ rest) ≡ None
unfolding phrases_in
level_no_format rest = refl

level_is : (level : ℕ) → OUTER_LEVEL ≤ level → level ≤ MOST_LEVEL → with_operand (codes "LEVEL") (decimal level) ≡ Level level
unfolding with_operand
level_is level least most =
    ap level_item (number_back level (omega (arith, most)))
    ∙ cond-true (nat_le OUTER_LEVEL level && nat_le level MOST_LEVEL) (Level level) NoItem
    (and_from (nat_le OUTER_LEVEL level) (nat_le level MOST_LEVEL) (le-leb OUTER_LEVEL level least) (le-leb level MOST_LEVEL most))

pub level_back : (level : ℕ) → OUTER_LEVEL ≤ level → level ≤ MOST_LEVEL → IsReadAs (codes "LEVEL " ++ decimal level) (Level level)
level_back level least most =
    let small : level < 65536 = omega (arith, most) in
    subst (IsReadAs (codes "LEVEL " ++ decimal level)) (level_is level least most)
    (two_words (codes "LEVEL") (decimal level) (omega arith) refl (decimal_some level small) (decimal_high level small) (level_no_format (32 ∷ decimal level)))

-- ---- an operator

plain_is : (kind : PlainKind) → alone (name_of (kinds.Plain kind)) ≡ Operator (Whole (ops.Plain kind))
unfolding alone
plain_is kind =
    let name = name_of (kinds.Plain kind) in
    cond-false (bytes_eq name (codes "SEGMENT")) Segment (labelled (label_in name) name) (name_no_segment (kinds.Plain kind))
    ∙ ap (λ (o : Option (List ℕ)). labelled o name) (name_no_label (kinds.Plain kind))
    ∙ ap plain_item (name_known (kinds.Plain kind))

plain_back : (kind : PlainKind) → IsReadAs (operator_text (ops.Plain kind)) (Operator (Whole (ops.Plain kind)))
plain_back kind =
    let name = name_of (kinds.Plain kind) in
    let all : name ++ [] ≡ name = append-nil name in
    let none_here : phrases_in name ≡ None = subst (λ (t : List ℕ). phrases_in t ≡ None) all (name_no_format (kinds.Plain kind) []) in
    subst (λ (t : List ℕ). IsReadAs t (Operator (Whole (ops.Plain kind)))) (sym all)
    (subst (IsReadAs name) (plain_is kind) (one_word name (name_some (kinds.Plain kind)) (name_high (kinds.Plain kind)) none_here))

operand_is : (kind : OperatorKind) (operand : List ℕ) (written : Written) → written_in kind operand ≡ Some written → with_operand (name_of kind) operand ≡ Operator written
unfolding with_operand
operand_is kind operand written back =
    cond-false (bytes_eq (name_of kind) (codes "LEVEL")) (level_item (number_in operand)) (operator_item (kind_named (name_of kind)) operand) (name_no_level kind)
    ∙ ap (λ (o : Option OperatorKind). operator_item o operand) (name_known kind)
    ∙ ap written_item back

operand_back : (op : Op) (operand : List ℕ) → IsOperand op operand → IsReadAs (operator_text op) (Operator (Whole op))
operand_back op operand is =
    let kind = kind_of op in
    let name = name_of kind in
    subst (λ (t : List ℕ). IsReadAs (name ++ t) (Operator (Whole op))) (sym is.text)
    (subst (IsReadAs (name ++ 32 ∷ operand)) (operand_is kind operand (Whole op) is.back)
    (two_words name operand (name_some kind) (name_high kind) is.some is.high (name_no_format kind (32 ∷ operand))))

has_back : (op : Op) → HasOperand op → IsReadAs (operator_text op) (Operator (Whole op))
has_back _ (none kind) = plain_back kind
has_back _ (one op operand is) = operand_back op operand is

pub operator_back : (level : ℕ) (op : Op) → level ≤ MOST_LEVEL → Fits level op → IsReadAs (operator_text op) (Operator (Whole op))
operator_back level op most fits = has_back op (operand_of level op most fits)
