use Rattle.std.specs.Prelude.{not, IfSome}
use Rattle.std.proofs.Common.{◌≡◌, ◌∙◌, sym, ap, subst, ℕ, Bool, true, false, cond, [], ◌∷◌, ◌++◌, length, length-append, Option, is_ok, arith}
use Rattle.b67_ops.specs.declared.Operator.{Operator}
use Rattle.b67_ops.specs.Spelling.{FitsAs}
use Rattle.b67_segment.specs.Decoded.{at_place}
use Rattle.b67_private.specs.Operating.{IsHeldCouple}
use Rattle.b67_private.specs.Prepared.{Rows, AreRows, IsFlatRowOf}
use Rattle.b67_private.proofs.PlacedRows.{none_yet, row_more}
use Rattle.b67_private.proofs.prepared.add_rows.Goals as goal

pub rows-init : goal.rows-init
rows-init c = record {
  size = ap length c.requires.none;
  are = subst (λ (xs : Rows). AreRows c.args.operators.now xs) (sym c.requires.none) (none_yet c.args.operators.now);
}

pub row_by-requires : goal.row_by-requires
row_by-requires c = subst (λ (o : Option (Operator × ℕ)). IfSome o (λ f. FitsAs IsHeldCouple f.0)) (sym c.at.ensures) (c.requires.held c.rows.index)

pub rows-preserved : goal.rows-preserved
rows-preserved c =
    let ops = c.args.operators.now in
    let rows = c.rows.rows.items in
    let r = c.row_by.result in
    let place = c.rows.index in
    let ok : is_ok c.push.result ≡ true = c.is_err.ensures.negation ∙ ap not c.if-is_err.false in
    let pushed : c.push.new.self.items ≡ rows ++ r ∷ [] = c.push.ensures.items ∙ ap (λ (b : Bool). cond b (rows ++ r ∷ []) rows) ok in
    let found : IfSome r (λ q. IsFlatRowOf place (at_place ops place) q) =
    subst (λ (o : Option (Operator × ℕ)). IfSome r (λ q. IsFlatRowOf place o q)) c.at.ensures c.row_by.ensures in
    let here : IfSome r (λ q. IsFlatRowOf (length rows) (at_place ops (length rows)) q) =
    subst (λ (n : ℕ). IfSome r (λ q. IsFlatRowOf n (at_place ops n) q)) (sym c.rows.invariant.size) found in
    record {
      size = omega (arith, ap length pushed, length-append rows (r ∷ []), c.rows.invariant.size);
      are = subst (λ (xs : Rows). AreRows ops xs) (sym pushed) (row_more ops rows r c.rows.invariant.are here);
    }

pub returns-then-is_err : goal.returns-then-is_err
returns-then-is_err c =
    let rows = c.rows.rows.items in
    let ok : is_ok c.push.result ≡ false = c.is_err.ensures.negation ∙ ap not c.if-is_err.true in
    let stays : c.push.new.self.items ≡ rows = c.push.ensures.items ∙ ap (λ (b : Bool). cond b (rows ++ c.row_by.result ∷ []) rows) ok in
    subst (λ (xs : Rows). AreRows c.args.operators.now xs) (sym stays) c.rows.invariant.are

pub returns : goal.returns
returns c = c.rows.invariant.are
