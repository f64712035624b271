-- How many syllables an operator has, and which operators can stand at a level.
use Rattle.std.proofs.Common.{◌≡◌, ℕ, ◌+◌, ◌^◌, true, List, [], ◌∷◌, ◌++◌, length, Option, Some, None, Result, Ok, Err, refl, sym, ap, ◌∙◌, inl, inr, arith}
use Rattle.std.specs.Prelude.{nat_le, nat_lt}
use Rattle.std.proofs.lemmas.Bool.{and_parts, cases_Bool, cond-true, cond-false, ltb-true, leb-true}
use Rattle.b67_ops.specs.declared.BranchKind.{BranchKind}
use Rattle.b67_ops.specs.declared.Couple.{Couple}
use Rattle.b67_ops.specs.declared.Operator.{Operator as Op}
use Rattle.b67_ops.specs.declared.Operator.TheVariants as ops
use Rattle.b67_ops.specs.declared.table.OperatorKind.TheVariants as kinds
use Rattle.b67_ops.specs.Spelling.{filling, kind_of, spelling, index_bits, CoupleIsSeen, Fits}
use Rattle.b67_ops.proofs.Laws.{length_word}
use Rattle.b67_segment.specs.Operators.{Placed, size}
use Rattle.b67_segment.proofs.Among.{size_append}
use Rattle.b67_asm_text.specs.declared.item.Written.{Written}
use Rattle.b67_asm_text.specs.declared.item.Written.TheVariants.{Whole, ToLabel, TooGreat}
use Rattle.b67_asm.specs.declared.label.Standing.{Standing}
use Rattle.b67_asm.specs.declared.refusal.Rule.{Rule}
use Rattle.b67_asm.specs.declared.refusal.Rule.TheVariants.{Range}
use Rattle.b67_asm.specs.Labels.{kind_written, place_after, width_of}
use Rattle.b67_asm.specs.Rules.{branch_to, fits, if_fits, is_seen, resolved}

pub length_spelled : (at level : ℕ) (operator : Op) → length (spelling at level operator) ≡ width_of at (kind_of operator)
length_spelled at level (ops.Valc couple) = refl
length_spelled at level (ops.Namc couple) = refl
length_spelled at level (ops.Lt8 n) = refl
length_spelled at level (ops.Lt16 n) = refl
length_spelled at level (ops.Lt48 n) = omega (arith, length_word (filling at) n)
length_spelled at level (ops.Mpcw n) = omega (arith, length_word (filling at) n)
length_spelled at level (ops.Branch kind place) = refl
length_spelled at level (ops.Plain kind) = refl

-- ---- what is resolved

fits_only : (level : ℕ) (operator other : Op) → if_fits level operator ≡ Ok other → (operator ≡ other) × (fits level operator ≡ true)
fits_only level operator other h =
    elim (cases_Bool (fits level operator)) [
      | inl can ↦ (let same : ◌≡◌ {A = Result Op Rule} (Ok operator) (Ok other) = sym (cond-true (fits level operator) (Ok operator) (Err Range) can) ∙ h in cc, can)
      | inr never ↦ absurd (let clash : ◌≡◌ {A = Result Op Rule} (Err Range) (Ok other) = sym (cond-false (fits level operator) (Ok operator) (Err Range) never) ∙ h in cc)
    ]

branch_only : (level : ℕ) (kind : BranchKind) (label : Option Standing) (other : Op) → branch_to level kind label ≡ Ok other →
    (kinds.Branch kind ≡ kind_of other) × (fits level other ≡ true)
branch_only level kind None other h = absurd cc
branch_only level kind (Some s) other h =
    let p = fits_only level (ops.Branch kind s.place) other h in
    (ap kind_of p.0, ap (fits level) (sym p.0) ∙ p.1)

-- an operator that is resolved is of the kind that is written, and can stand there
pub resolved_is : (labels : List ℕ → Option Standing) (level : ℕ) (written : Written) (operator : Op) → resolved labels level written ≡ Ok operator →
    (kind_written written ≡ kind_of operator) × (fits level operator ≡ true)
resolved_is labels level (Whole other) operator h =
    let p = fits_only level other operator h in
    (ap kind_of p.0, ap (fits level) (sym p.0) ∙ p.1)
resolved_is labels level (ToLabel kind name) operator h = branch_only level kind (labels name) operator h
resolved_is labels level (TooGreat kind) operator h = absurd cc

seen_is : (level : ℕ) (couple : Couple) → is_seen level couple ≡ true → CoupleIsSeen level couple
seen_is level couple h =
    let p = and_parts (nat_le couple.level level) (nat_lt couple.index (2 ^ index_bits level)) h in
    record { level_seen = leb-true couple.level level p.0; index_fits = ltb-true couple.index (2 ^ index_bits level) p.1 }

pub fits_is : (level : ℕ) (operator : Op) → fits level operator ≡ true → Fits level operator
fits_is level (ops.Valc couple) h = seen_is level couple h
fits_is level (ops.Namc couple) h = seen_is level couple h
fits_is level (ops.Lt8 n) h = ltb-true _ _ h
fits_is level (ops.Lt16 n) h = ltb-true _ _ h
fits_is level (ops.Lt48 n) h = ltb-true _ _ h
fits_is level (ops.Mpcw n) h = ltb-true _ _ h
fits_is level (ops.Branch kind place) h = ltb-true _ _ h
fits_is level (ops.Plain kind) h = tt

-- ---- places

-- the syllables of a resolved operator end where the written one does
pub width_resolved : (labels : List ℕ → Option Standing) (level : ℕ) (written : Written) (operator : Op) (at : ℕ) → resolved labels level written ≡ Ok operator →
    at + length (spelling at level operator) ≡ place_after at written
width_resolved labels level written operator at h =
    ap (λ (k : ℕ). at + k) (length_spelled at level operator ∙ ap (width_of at) (sym (resolved_is labels level written operator h).0))

pub size_resolved : (labels : List ℕ → Option Standing) (level : ℕ) (written : Written) (operator : Op) (old new : List Placed) → resolved labels level written ≡ Ok operator →
    new ≡ old ++ record { level = level; operator = operator } ∷ [] → size new ≡ place_after (size old) written
size_resolved labels level written operator old new h e =
    ap size e ∙ size_append old (record { level = level; operator = operator }) ∙ width_resolved labels level written operator (size old) h
