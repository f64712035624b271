-- What is found in one part of a tree, and then what is found in another.
use Rattle.std.proofs.Common.{arith, suc, ◌≡◌, ℕ, ◌+◌, ◌<◌, List, ◌∷◌, [], ◌++◌, Option, length, drop, get_or, drop-cons, Result, OnOk, sym, ap, ◌∙◌, append_assoc, refl}
use Rattle.std.proofs.lemmas.Result.{on_ok_weaker}
use Rattle.algol_tree.specs.declared.tree.Call.{Call}
use Rattle.algol_tree.specs.declared.tree.Expr.{Expr}
use Rattle.algol_tree.specs.declared.tree.Named.{Named}
use Rattle.algol_tree.specs.declared.tree.Pair.{Pair}
use Rattle.algol_tree.specs.declared.tree.Variable.{Variable}
use Rattle.algol_tree.specs.Image.{call, expr, exprs, pairs, variable}
use Rattle.algol_tree.specs.Plain.{PExpr}
use Rattle.algol_tree.proofs.Images.{call_is, variable_is}
use Rattle.algol_names.specs.declared.found.Found.{Found}
use Rattle.algol_names.specs.Found.{at, at_left, in_assignment, in_call, in_expr, in_exprs, in_pairs, in_process, in_task}

pub added : {A : Type 0} (old middle new x y all : List A) → all ≡ x ++ y → middle ≡ old ++ x → new ≡ middle ++ y → new ≡ old ++ all
added {A} old middle new x y all e m n = n ∙ ap (λ (z : List A). z ++ y) m ∙ append_assoc old x y ∙ ap (λ (z : List A). old ++ z) (sym e)

pub then_added : {A T E : Type 0} (r : Result T E) (old middle new x y all : List A) → all ≡ x ++ y → middle ≡ old ++ x → OnOk r (new ≡ middle ++ y) → OnOk r (new ≡ old ++ all)
then_added r old middle new x y all e m h = on_ok_weaker r (added old middle new x y all e m) h

-- one more part of a list
pub list_step : {A B : Type 0} (found : List A → List B) (one : A → List B) (each : (x : A) (xs : List A) → found (x ∷ xs) ≡ one x ++ found xs) (xs : List A) (i : ℕ) (x : A)
    (old new all : List B) → i < length xs → x ≡ get_or xs i x → new ≡ old ++ one x → old ++ found (drop i xs) ≡ all → new ++ found (drop (i + 1) xs) ≡ all
list_step {A} {B} found one each xs i x old new all h e m w =
    let next : suc i ≡ i + 1 = omega arith in
    let split : drop i xs ≡ x ∷ drop (i + 1) xs = drop-cons xs i x h ∙ ap (λ (y : A). y ∷ drop (suc i) xs) (sym e) ∙ ap (λ (j : ℕ). x ∷ drop j xs) next in
    ap (λ (z : List B). z ++ found (drop (i + 1) xs)) m ∙ append_assoc old (one x) (found (drop (i + 1) xs))
    ∙ ap (λ (z : List B). old ++ z) (sym (each x (drop (i + 1) xs))) ∙ ap (λ (ys : List A). old ++ found ys) (sym split) ∙ w

-- ---- statements

pub assigned : (v : Variable) (subs : List Expr) (e : PExpr) (k : ℕ) → subs ≡ v.subs → in_assignment (variable v) e k ≡ (at_left v.name k ∷ in_exprs (exprs subs) k) ++ in_expr e k
assigned v subs e k s = ap (λ p. in_assignment p e k) (variable_is v) ∙ ap (λ (es : List Expr). at_left v.name k ∷ (in_exprs (exprs es) k ++ in_expr e k)) (sym s)

pub called : (c : Call) (actuals : List Expr) (k : ℕ) → actuals ≡ c.actuals → in_call (call c) k ≡ (at c.name k ∷ []) ++ in_exprs (exprs actuals) k
called c actuals k s = ap (λ p. in_call p k) (call_is c) ∙ ap (λ (es : List Expr). at c.name k ∷ in_exprs (exprs es) k) (sym s)

pub processed : (c : Call) (task : Option Named) (actuals : List Expr) (k : ℕ) → actuals ≡ c.actuals →
    in_process (call c) task k ≡ (at c.name k ∷ in_task task k) ++ in_exprs (exprs actuals) k
processed c task actuals k s = ap (λ p. in_process p task k) (call_is c) ∙ ap (λ (es : List Expr). at c.name k ∷ (in_task task k ++ in_exprs (exprs es) k)) (sym s)

-- ---- the bounds of arrays

pub pairs_step : (ps : List Pair) (i : ℕ) (p : Pair) (k : ℕ) (old middle all : List Found) → i < length ps → p ≡ get_or ps i p → middle ≡ old ++ in_expr (expr p.high) k →
    old ++ in_pairs (pairs (drop i ps)) k ≡ all → middle ++ in_pairs (pairs (drop (i + 1) ps)) k ≡ all
pairs_step ps i p k old middle all h e m w =
    list_step (λ (qs : List Pair). in_pairs (pairs qs) k) (λ (q : Pair). in_expr (expr q.high) k) (λ q qs. refl) ps i p old middle all h e m w
