-- The rows of a segment's operators, place by place.
use Rattle.std.proofs.Common.{◌≡◌, refl, sym, subst, ℕ, zero, suc, ◌<◌, ◌≤◌, [], ◌∷◌, ◌++◌, length, Option, Some, None, Result, length-append, ⊎_elim, arith}
use Rattle.std.specs.Prelude.{IfSome, is_ok}
use Rattle.std.proofs.Math.Nat.{eq-or-lt_of_le}
use Rattle.std.proofs.lemmas.Bool.{cases_lt}
use Rattle.b67_control.specs.Display.{levels}
use Rattle.b67_ops.specs.declared.TheConstants.{MOST_LEVEL}
use Rattle.b67_ops.specs.declared.Operator.{Operator}
use Rattle.b67_ops.specs.Spelling.{Fits, FitsAs}
use Rattle.b67_segment.specs.declared.code.Code.{Code}
use Rattle.b67_segment.specs.Decoded.{found, at_place, AreDecoded}
use Rattle.b67_table.specs.declared.Private.{Private}
use Rattle.b67_table.specs.Outcome.{limited}
use Rattle.b67_private.specs.declared.Stop.{Stop}
use Rattle.b67_private.specs.declared.flat.FlatRow.{FlatRow}
use Rattle.b67_private.specs.declared.operators.Row.{Row}
use Rattle.b67_private.specs.Operating.{IsHeldCouple, effect_by}
use Rattle.b67_private.specs.Parts.{length_of, own_next}
use Rattle.b67_private.specs.Performing.{PrivatePerforms, Steps}
use Rattle.b67_private.specs.Prepared.{Operators, AreHeld, Rows, row_at, IsRowOf, IsFlatRowOf, AreRows}
use Rattle.b67_private.proofs.Stepping.{held_operand, fits_found, performed, steps_found}

-- ---- rows that are made one after another

at_front : (rows more : Rows) (place : ℕ) → place < length rows → row_at (rows ++ more) place ≡ row_at rows place
at_front [] more place h = absurd (omega (arith, h))
at_front (r ∷ rows) more zero h = refl
at_front (r ∷ rows) more (suc place) h = at_front rows more place (omega (arith, h))

at_seam : (rows : Rows) (r : Option (FlatRow × ℕ)) → row_at (rows ++ r ∷ []) (length rows) ≡ r
at_seam [] None = refl
at_seam [] (Some r) = refl
at_seam (q ∷ rows) r = at_seam rows r

past_rows : (rows : Rows) (place : ℕ) → length rows ≤ place → row_at rows place ≡ None
past_rows [] place h = refl
past_rows (r ∷ rows) zero h = absurd (omega (arith, h))
past_rows (r ∷ rows) (suc place) h = past_rows rows place (omega (arith, h))

pub none_yet : (operators : Operators) → AreRows operators []
none_yet operators place = tt

pub row_more : (operators : Operators) (rows : Rows) (r : Option (FlatRow × ℕ)) → AreRows operators rows
    → IfSome r (λ q. IsFlatRowOf (length rows) (at_place operators (length rows)) q) → AreRows operators (rows ++ r ∷ [])
row_more operators rows r are e place =
    ⊎_elim before (λ (l : length rows ≤ place). ⊎_elim here past (eq-or-lt_of_le l)) (cases_lt place (length rows))
  where
    before : place < length rows → IfSome (row_at (rows ++ r ∷ []) place) (λ q. IsFlatRowOf place (at_place operators place) q)
    before l = subst (λ (o : Option (FlatRow × ℕ)). IfSome o (λ q. IsFlatRowOf place (at_place operators place) q)) (sym (at_front rows (r ∷ []) place l)) (are place)

    here : length rows ≡ place → IfSome (row_at (rows ++ r ∷ []) place) (λ q. IsFlatRowOf place (at_place operators place) q)
    here i =
        subst (λ (n : ℕ). IfSome (row_at (rows ++ r ∷ []) n) (λ q. IsFlatRowOf n (at_place operators n) q)) i
        (subst (λ (o : Option (FlatRow × ℕ)). IfSome o (λ q. IsFlatRowOf (length rows) (at_place operators (length rows)) q)) (sym (at_seam rows r)) e)

    past : length rows < place → IfSome (row_at (rows ++ r ∷ []) place) (λ q. IsFlatRowOf place (at_place operators place) q)
    past l =
        subst (λ (o : Option (FlatRow × ℕ)). IfSome o (λ q. IsFlatRowOf place (at_place operators place) q))
        (sym (past_rows (rows ++ r ∷ []) place (omega (arith, l, length-append rows (r ∷ []))))) tt

-- ---- operators that were decoded

held_found : (level : ℕ) (o : Option (Operator × ℕ)) → level < levels → IfSome o (λ f. Fits level f.0) → IfSome o (λ f. FitsAs IsHeldCouple f.0)
held_found level None l h = tt
held_found level (Some f) l h = held_operand level f.0 l h

pub decoded_held : (code : Code) (segment level : ℕ) (operators : Operators) → level ≤ MOST_LEVEL → AreDecoded code segment level operators → AreHeld operators
decoded_held code segment level operators l decoded place =
    held_found level (at_place operators place) (omega (arith, l)) (fits_found code segment level place l (at_place operators place) (decoded place))

-- ---- one operator by its row

by_row : (size : ℕ) (code : Code) (old new : Private) (r : Row) (next : ℕ) (result : Result (Unit {0}) Stop) (o : Option (Operator × ℕ))
    → found code old.regs.segment old.regs.ll old.regs.place ≡ o → IsRowOf old.regs.place o (r, next) → PrivatePerforms size (limited length_of (effect_by r next old)) old result new
    → Steps size (own_next code old) old (is_ok result) new
by_row size code old new r next result None e k done = absurd k
by_row size code old new r next result (Some f) e k done =
    steps_found size code old new f result e
    (performed size f.0 f.1 r old new result k.0 (subst (λ (n : ℕ). PrivatePerforms size (limited length_of (effect_by r n old)) old result new) k.1 done))

pub steps_by_row : (size : ℕ) (code : Code) (old new : Private) (r : Row) (next : ℕ) (result : Result (Unit {0}) Stop)
    → IsRowOf old.regs.place (found code old.regs.segment old.regs.ll old.regs.place) (r, next) → PrivatePerforms size (limited length_of (effect_by r next old)) old result new
    → Steps size (own_next code old) old (is_ok result) new
steps_by_row size code old new r next result k done = by_row size code old new r next result (found code old.regs.segment old.regs.ll old.regs.place) refl k done
