-- Laws of the actuals of a call.
use Rattle.std.proofs.Common.{arith, ◌≡◌, refl, ℕ, zero, suc, ◌+◌, Bool, Option, List, [], ◌∷◌, ◌++◌, drop, length, ap, ◌∙◌, slice_get, Some, None}
use Rattle.std.proofs.lemmas.List.{length-append}
use Rattle.algol_tree.specs.Plain as tree
use Rattle.algol_tree.specs.Plain.{PExpr, PExprs}
use Rattle.algol_tree.specs.Scopes.{Scopes}
use Rattle.algol_tree.specs.Sorts.{Sort, is_variable, variable}
use Rattle.algol_tree.specs.declared.tree.Named.{Named}
use Rattle.algol_meaning.specs.Rest as rest
use Rattle.algol_meaning.specs.Rest.{Half, given}
use Rattle.algol_meaning.specs.Settle.{settle_actuals, first_actual_of, actual_of, callee, sorts_of}
use Rattle.algol_rest_expr.specs.SeenExpression.{done, all_done, sorts_from}
use Rattle.algol_cells.specs.SeenScope.{by_value_or_none}
use Rattle.algol_rest_expr.specs.declared.part.Given.{Given}

-- actuals beyond the parameters are none
pub no_more_sorts : (sc : Scopes) (es : PExprs) (gs : List rest.Given) → settle_actuals sc es [] gs ≡ given gs
no_more_sorts sc tree.none gs = refl
no_more_sorts sc (tree.more e es) gs = no_more_sorts sc es gs

pub all_done_append : (gs : List Given) (g : Given) → all_done (gs ++ g ∷ []) ≡ all_done gs ++ done g ∷ []
all_done_append [] g = refl
all_done_append (h ∷ gs) g = ap (λ (x : _). done h ∷ x) (all_done_append gs g)

pub length_append_one : (gs : List Given) (g : Given) → length (gs ++ g ∷ []) ≡ length gs + 1
length_append_one gs g = length-append gs (g ∷ [])

pub drop_here : (xs : List Sort) (k : ℕ) (s : Sort) → slice_get xs k ≡ Some s → drop k xs ≡ s ∷ drop (suc k) xs
drop_here [] zero s e = cc
drop_here [] (suc k) s e = cc
drop_here (x ∷ xs) zero s e = cc
drop_here (x ∷ xs) (suc k) s e = drop_here xs k s e

pub drop_next : (xs : List Sort) (k : ℕ) (s : Sort) → slice_get xs k ≡ Some s → drop k xs ≡ s ∷ drop (k + 1) xs
drop_next xs k s e = let q : k + 1 ≡ suc k = omega (arith) in rw q (drop_here xs k s e)

pub drop_past : (xs : List Sort) (k : ℕ) → slice_get xs k ≡ None → drop k xs ≡ []
drop_past [] zero e = refl
drop_past [] (suc k) e = refl
drop_past (x ∷ xs) zero e = cc
drop_past (x ∷ xs) (suc k) e = drop_past xs k e

pub ruleset supply_laws = (all_done_append, length_append_one)

none_here : (o : Option Sort) → None ≡ by_value_or_none o → o ≡ None
none_here None e = refl
none_here (Some s) e = absurd (let clash : None ≡ Some (is_variable s) = e in cc)

-- the sort that is there
abbrev the_sort : Option Sort → Sort
the_sort None = variable
the_sort (Some s) = s

one_here : (o : Option Sort) (b : Bool) → Some b ≡ by_value_or_none o → o ≡ Some (the_sort o)
one_here None b e = absurd (let clash : Some b ≡ None = e in cc)
one_here (Some s) b e = refl

its_value : (o : Option Sort) (b : Bool) → Some b ≡ by_value_or_none o → is_variable (the_sort o) ≡ b
its_value None b e = absurd (let clash : Some b ≡ None = e in cc)
its_value (Some s) b e = let same : Some b ≡ Some (is_variable s) = e in cc

module _ (sc : Scopes) (n : Named) (k : ℕ) (e : PExpr) (settled : Half) (gs : List rest.Given) (es : PExprs) where
  -- the sort of the parameter of that number
  abbrev there : Option Sort
  there = slice_get (sorts_of ((callee sc n).parameters)) k

  -- the procedure has no parameter of that number
  pub none_takes :
      None ≡ by_value_or_none (slice_get (sorts_of ((callee sc n).parameters)) k)
      → first_actual_of sc (sorts_from sc n k) e settled gs es (settle_actuals sc es) ≡ given gs
  none_takes p =
      ap (λ (sorts : List Sort). first_actual_of sc sorts e settled gs es (settle_actuals sc es)) (drop_past (sorts_of ((callee sc n).parameters)) k (none_here there p))
      ∙ no_more_sorts sc es gs

  -- .. has one that is by value, or not
  pub one_takes :
      (b : Bool) → Some b ≡ by_value_or_none (slice_get (sorts_of ((callee sc n).parameters)) k)
      → first_actual_of sc (sorts_from sc n k) e settled gs es (settle_actuals sc es)
      ≡ actual_of sc b e settled gs (sorts_from sc n (k + 1)) es (settle_actuals sc es (sorts_from sc n (k + 1)))
  one_takes b p =
      ap (λ (sorts : List Sort). first_actual_of sc sorts e settled gs es (settle_actuals sc es))
      (drop_next (sorts_of ((callee sc n).parameters)) k (the_sort there) (one_here there b p))
      ∙ ap (λ (v : Bool). actual_of sc v e settled gs (sorts_from sc n (k + 1)) es (settle_actuals sc es (sorts_from sc n (k + 1)))) (its_value there b p)
