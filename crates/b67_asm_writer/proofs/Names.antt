-- The names of the operators, as words of a line.
use Rattle.std.proofs.Common.{◌≡◌, ℕ, ◌≤◌, leb, true, false, List, [], ◌∷◌, ◌++◌, length, codes, Some, None, refl, ap, ◌∙◌}
use Rattle.std.specs.Str.{bytes_eq}
use Rattle.std.proofs.lemmas.Bool.{leb-true}
use Rattle.b67_ops.specs.declared.BranchKind.TheVariants as branches
use Rattle.b67_ops.specs.declared.PlainKind.TheVariants as plains
use Rattle.b67_ops.specs.declared.table.OperatorKind.{OperatorKind}
use Rattle.b67_ops.specs.declared.table.OperatorKind.TheVariants as kinds
use Rattle.b67_ops.specs.Codes.{kind_with, name_of}
use Rattle.b67_asm_text.specs.Mnemonics.{kind_named, named_among, operators, operators_below}
use Rattle.b67_asm_text.specs.Items.{label_in}
use Rattle.b67_asm_text.specs.Phrases.{phrases_in}
use Rattle.b67_asm_writer.proofs.Quiet.{are_high}

-- the operators, in the order of their codes
all : List OperatorKind
all =
    kinds.Valc ∷ kinds.Namc ∷ kinds.Plain plains.Add ∷ kinds.Plain plains.Subt ∷ kinds.Plain plains.Mult ∷ kinds.Plain plains.Divd
    ∷ kinds.Plain plains.Idiv ∷ kinds.Plain plains.Rdiv ∷ kinds.Plain plains.Less ∷ kinds.Plain plains.Greq ∷ kinds.Plain plains.Grtr
    ∷ kinds.Plain plains.Lseq ∷ kinds.Plain plains.Equl ∷ kinds.Plain plains.Neql ∷ kinds.Plain plains.Chsn ∷ kinds.Plain plains.Land
    ∷ kinds.Plain plains.Lor ∷ kinds.Plain plains.Lnot ∷ kinds.Plain plains.Leqv ∷ kinds.Branch branches.Brfl ∷ kinds.Branch branches.Brtr
    ∷ kinds.Branch branches.Brun ∷ kinds.Plain plains.Exit ∷ kinds.Plain plains.Nxln ∷ kinds.Plain plains.Indx ∷ kinds.Plain plains.Retn
    ∷ kinds.Plain plains.Entr ∷ kinds.Plain plains.Eval ∷ kinds.Plain plains.Nxlv ∷ kinds.Plain plains.Mkst ∷ kinds.Plain plains.Stff
    ∷ kinds.Plain plains.Zero ∷ kinds.Plain plains.One ∷ kinds.Lt8 ∷ kinds.Lt16 ∷ kinds.Plain plains.Push ∷ kinds.Plain plains.Dlet
    ∷ kinds.Plain plains.Exch ∷ kinds.Plain plains.Dupl ∷ kinds.Plain plains.Stod ∷ kinds.Plain plains.Ston ∷ kinds.Plain plains.Lodt
    ∷ kinds.Plain plains.Load ∷ kinds.Lt48 ∷ kinds.Mpcw ∷ kinds.Plain plains.Noop ∷ []

in_order : operators ≡ all
unfolding operators operators_below kind_with all
in_order = refl

among : (kind : OperatorKind) → named_among (name_of kind) all ≡ Some kind
unfolding name_of all
among kinds.Valc = refl
among kinds.Namc = refl
among kinds.Lt8 = refl
among kinds.Lt16 = refl
among kinds.Lt48 = refl
among kinds.Mpcw = refl
among (kinds.Branch branches.Brfl) = refl
among (kinds.Branch kind) = refl
among (kinds.Plain plains.Add) = refl
among (kinds.Plain kind) = refl

-- a name is that of its operator
pub name_known : (kind : OperatorKind) → kind_named (name_of kind) ≡ Some kind
unfolding kind_named
name_known kind = ap (named_among (name_of kind)) in_order ∙ among kind

pub name_high : (kind : OperatorKind) → are_high (name_of kind) ≡ true
unfolding name_of
name_high kinds.Valc = refl
name_high kinds.Namc = refl
name_high kinds.Lt8 = refl
name_high kinds.Lt16 = refl
name_high kinds.Lt48 = refl
name_high kinds.Mpcw = refl
name_high (kinds.Branch branches.Brfl) = refl
name_high (kinds.Branch kind) = refl
name_high (kinds.Plain plains.Add) = refl
name_high (kinds.Plain kind) = refl

is_some : (kind : OperatorKind) → leb 1 (length (name_of kind)) ≡ true
unfolding name_of
is_some kinds.Valc = refl
is_some kinds.Namc = refl
is_some kinds.Lt8 = refl
is_some kinds.Lt16 = refl
is_some kinds.Lt48 = refl
is_some kinds.Mpcw = refl
is_some (kinds.Branch branches.Brfl) = refl
is_some (kinds.Branch kind) = refl
is_some (kinds.Plain plains.Add) = refl
is_some (kinds.Plain kind) = refl

pub name_some : (kind : OperatorKind) → 1 ≤ length (name_of kind)
name_some kind = leb-true 1 (length (name_of kind)) (is_some kind)

-- it begins no format, and is no other word of a line
pub name_no_format : (kind : OperatorKind) → (rest : List ℕ) → phrases_in (name_of kind ++ rest) ≡ None
unfolding name_of phrases_in
name_no_format kinds.Valc rest = refl
name_no_format kinds.Namc rest = refl
name_no_format kinds.Lt8 rest = refl
name_no_format kinds.Lt16 rest = refl
name_no_format kinds.Lt48 rest = refl
name_no_format kinds.Mpcw rest = refl
name_no_format (kinds.Branch branches.Brfl) rest = refl
name_no_format (kinds.Branch kind) rest = refl
name_no_format (kinds.Plain plains.Add) rest = refl
name_no_format (kinds.Plain kind) rest = refl

pub name_no_level : (kind : OperatorKind) → bytes_eq (name_of kind) (codes "LEVEL") ≡ false
unfolding name_of
name_no_level kinds.Valc = refl
name_no_level kinds.Namc = refl
name_no_level kinds.Lt8 = refl
name_no_level kinds.Lt16 = refl
name_no_level kinds.Lt48 = refl
name_no_level kinds.Mpcw = refl
name_no_level (kinds.Branch branches.Brfl) = refl
name_no_level (kinds.Branch kind) = refl
name_no_level (kinds.Plain plains.Add) = refl
name_no_level (kinds.Plain kind) = refl

pub name_no_segment : (kind : OperatorKind) → bytes_eq (name_of kind) (codes "SEGMENT") ≡ false
unfolding name_of
name_no_segment kinds.Valc = refl
name_no_segment kinds.Namc = refl
name_no_segment kinds.Lt8 = refl
name_no_segment kinds.Lt16 = refl
name_no_segment kinds.Lt48 = refl
name_no_segment kinds.Mpcw = refl
name_no_segment (kinds.Branch branches.Brfl) = refl
name_no_segment (kinds.Branch kind) = refl
name_no_segment (kinds.Plain plains.Add) = refl
name_no_segment (kinds.Plain kind) = refl

pub name_no_label : (kind : OperatorKind) → label_in (name_of kind) ≡ None
unfolding name_of
name_no_label kinds.Valc = refl
name_no_label kinds.Namc = refl
name_no_label kinds.Lt8 = refl
name_no_label kinds.Lt16 = refl
name_no_label kinds.Lt48 = refl
name_no_label kinds.Mpcw = refl
name_no_label (kinds.Branch branches.Brfl) = refl
name_no_label (kinds.Branch kind) = refl
name_no_label (kinds.Plain plains.Add) = refl
name_no_label (kinds.Plain kind) = refl
