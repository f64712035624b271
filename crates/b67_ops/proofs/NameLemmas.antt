-- A name belongs to one operator.
use Rattle.std.proofs.Common.{◌≡◌, ℕ, ◌&&◌, eqb, Bool, true, false, cond, List, [], ◌∷◌, Option, Some, None, refl, sym, ap, ◌∙◌}
use Rattle.b67_ops.specs.declared.PlainKind.TheVariants as plains
use Rattle.b67_ops.specs.declared.BranchKind.TheVariants as branches
use Rattle.b67_ops.specs.declared.table.OperatorKind.{OperatorKind}
use Rattle.b67_ops.specs.declared.table.OperatorKind.TheVariants.{Valc, Namc, Lt8, Lt16, Lt48, Mpcw, Branch, Plain}
use Rattle.b67_ops.specs.declared.table.TheConstants.{TABLE}
use Rattle.b67_ops.specs.Codes.{CodeRow, name_of}

-- two texts are one
abbrev same_text : List ℕ → List ℕ → Bool
same_text [] [] = true
same_text (x ∷ xs) (y ∷ ys) = eqb x y && same_text xs ys
same_text _ _ = false

-- the operator of the first row that has this name
abbrev first_named : List ℕ → List (CodeRow (record { now : List ℕ })) → Option OperatorKind
first_named name [] = None
first_named name (row ∷ more) = cond (same_text row.2.now name) (Some row.0) (first_named name more)

named_name : (kind : OperatorKind) → first_named (name_of kind) TABLE ≡ Some kind
unfolding name_of
named_name Valc = refl
named_name Namc = refl
named_name Lt8 = refl
named_name Lt16 = refl
named_name Lt48 = refl
named_name Mpcw = refl
named_name (Branch branches.Brfl) = refl
named_name (Branch kind) = refl
named_name (Plain plains.Add) = refl
named_name (Plain kind) = refl

-- no two operators have one name
pub name_of_one : (a b : OperatorKind) → name_of a ≡ name_of b → a ≡ b
name_of_one a b h =
    let same : Some a ≡ Some b = sym (named_name a) ∙ ap (λ name. first_named name TABLE) h ∙ named_name b in
    cc
