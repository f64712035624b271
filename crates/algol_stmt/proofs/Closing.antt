-- Declarations that are closed by a symbol.
use Rattle.std.proofs.Common.{◌≡◌, List, [], ◌∷◌, Result, Ok, Err, IfErr, ap}
use Rattle.std.specs.Result.{IfOk}
use Rattle.algol_tree.specs.declared.token.Token.{Token}
use Rattle.algol_tree.specs.declared.refusal.Refusal.{Refusal}
use Rattle.algol_tree.specs.Plain.{PDecl, PDecls}
use Rattle.algol_tree.specs.Due.{Due, declared}
use Rattle.algol_tree.specs.DueStmt.{decl_behind}
use Rattle.algol_tree.specs.Found.{IsRest, TokenPasses, ReaderRefuses}
use Rattle.algol_expr.proofs.Chain.{Reaches, past, if_err, rest_of}
use Rattle.algol_part.specs.Brings.{PartAdds, AddsNone}
use Rattle.algol_part.proofs.Chains.{added, refusing, valued}

module _ {T : Type 0} (r : Result T Refusal) where
  pub closes_refused : {from : List Due} {tokens mid : List Token} {s : Due} {d : PDecl} →
      ((xs : PDecls) → Reaches from (declared xs ∷ []) tokens (s ∷ []) (declared (decl_behind xs d) ∷ []) mid) → IfErr r (λ e. ReaderRefuses (s ∷ []) [] mid e) →
      IfErr r (λ e. AddsNone from declared tokens e)
  closes_refused {d = d} a h = if_err r _ _ (λ e f xs. refusing {ws = declared (decl_behind xs d) ∷ []} (a xs) f) h

pub closes_found : {T : Type 0} (r : Result T Refusal) (decl : T → PDecl) (end : T → List Token) {from : List Due} {tokens mid : List Token} {s : Due} {d : PDecl} →
    ((xs : PDecls) → Reaches from (declared xs ∷ []) tokens (s ∷ []) (declared (decl_behind xs d) ∷ []) mid) → IsRest tokens mid →
    IfOk r (λ x. TokenPasses s mid (end x)) → IfOk r (λ x. decl x ≡ d) → IfOk r (λ x. PartAdds from declared tokens (λ ds. decl_behind ds (decl x)) (end x))
closes_found (Ok x) decl end {d = d} a b p q =
    added (λ xs. valued {ws = []} (past {ws = declared (decl_behind xs d) ∷ []} (a xs) p) (ap (λ e. declared (decl_behind xs e)) q)) (rest_of b p.behind)
closes_found (Err e) decl end a b p q = tt
