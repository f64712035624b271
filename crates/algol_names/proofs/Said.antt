-- What a heading says of its parameters is what these are declared as.
use Rattle.std.proofs.Common.{◌≡◌, ℕ, ◌+◌, ◌<◌, Bool, true, false, List, [], ◌∷◌, ◌++◌, length, map, drop, get_or, refl, ap, sym, ◌∙◌, append_assoc, arith, suc, drop-cons, if◌then◌else◌}
use Rattle.algol_tree.specs.declared.tree.Heading.{Heading}
use Rattle.algol_tree.specs.declared.tree.Named.{Named}
use Rattle.algol_tree.specs.declared.tree.Spec.{Spec}
use Rattle.algol_tree.specs.declared.tree.Spec.TheVariants as specs
use Rattle.algol_tree.specs.Classes as class
use Rattle.algol_tree.specs.Sorts as plain
use Rattle.algol_tree.specs.Sorts.{class_in, is_named_in, simple_sort, sort_in}
use Rattle.algol_sorts.specs.Sorts.{parameter_by}
use Rattle.algol_sorts.specs.Specified as said
use Rattle.algol_cells.specs.SeenScope.{lows_specified, parameter, sort_as}
use Rattle.algol_cells.specs.declared.scope.Parameter.{Parameter}

-- by the specifications, and by value or not
specified : (ss : List Spec) (value : Bool) (name : List ℕ) →
    sort_as (parameter_by (class_in ss name) value) (lows_specified ss name) 0 ≡ sort_in ss value name
specified [] value name = refl
specified (specs.Simple kind ns ∷ ss) value name = decide (is_named_in ns name) value (specified ss value name)
  where
    decide : (b v : Bool) → sort_as (parameter_by (class_in ss name) v) (lows_specified ss name) 0 ≡ sort_in ss v name →
        sort_as (parameter_by (if b then class.simple kind else class_in ss name) v) (if b then [] else lows_specified ss name) 0
        ≡ (if b then simple_sort v else sort_in ss v name)
    decide true true h = refl
    decide true false h = refl
    decide false v h = h
specified (specs.Events ns ∷ ss) value name = decide (is_named_in ns name) (specified ss value name)
  where
    decide : (b : Bool) → sort_as (parameter_by (class_in ss name) value) (lows_specified ss name) 0 ≡ sort_in ss value name →
        sort_as (parameter_by (if b then class.event else class_in ss name) value) (if b then [] else lows_specified ss name) 0
        ≡ (if b then plain.formal_event else sort_in ss value name)
    decide true h = refl
    decide false h = h
specified (specs.Arrays kind ns lows ∷ ss) value name = decide (is_named_in ns name) (specified ss value name)
  where
    decide : (b : Bool) → sort_as (parameter_by (class_in ss name) value) (lows_specified ss name) 0 ≡ sort_in ss value name →
        sort_as (parameter_by (if b then class.array kind (length lows) else class_in ss name) value) (if b then lows else lows_specified ss name) 0
        ≡ (if b then plain.formal_array lows else sort_in ss value name)
    decide true h = refl
    decide false h = h

-- ---- one by one

abbrev pub parameter_in : Heading → Named → plain.Parameter
parameter_in h n = record { name = n.name; sort = sort_in h.specs (is_named_in h.values n.name) n.name }

abbrev made : List ℕ → plain.Sort → plain.Parameter
made name sort = record { name = name; sort = sort }

parameter_is : (h : Heading) (n : Named) (p : Parameter) → p.name.now ≡ n.name → p.heading.now ≡ h → p.sort ≡ said.parameter_in h n.name → parameter p ≡ parameter_in h n
parameter_is h n p e g s =
    ap (λ (name : List ℕ). made name (sort_as p.sort (lows_specified p.heading.now.specs name) 0)) e
    ∙ ap (λ (k : Heading). made n.name (sort_as p.sort (lows_specified k.specs n.name) 0)) g
    ∙ ap (λ x. made n.name (sort_as x (lows_specified h.specs n.name) 0)) s
    ∙ ap (made n.name) (specified h.specs (is_named_in h.values n.name) n.name)

appended : (old : List Parameter) (p : Parameter) → map parameter (old ++ p ∷ []) ≡ map parameter old ++ parameter p ∷ []
appended [] p = refl
appended (x ∷ old) p = ap (λ (qs : List plain.Parameter). parameter x ∷ qs) (appended old p)

pub parameter_pushed : (h : Heading) (n : Named) (old new : List Parameter) (p : Parameter) → new ≡ old ++ p ∷ [] → p.name.now ≡ n.name → p.heading.now ≡ h →
    p.sort ≡ said.parameter_in h n.name → map parameter new ≡ map parameter old ++ parameter_in h n ∷ []
parameter_pushed h n old new p e name heading sort =
    ap (map parameter) e ∙ appended old p ∙ ap (λ (q : plain.Parameter). map parameter old ++ q ∷ []) (parameter_is h n p name heading sort)

-- one more parameter
pub parameters_step : (h : Heading) (ns : List Named) (i : ℕ) (n : Named) (old new : List plain.Parameter) → i < length ns → n ≡ get_or ns i n → new ≡ old ++ parameter_in h n ∷ [] →
    new ++ map (parameter_in h) (drop (i + 1) ns) ≡ old ++ map (parameter_in h) (drop i ns)
parameters_step h ns i n old new p e k =
    let next : suc i ≡ i + 1 = omega arith in
    let split : drop i ns ≡ n ∷ drop (i + 1) ns = drop-cons ns i n p ∙ ap (λ (m : Named). m ∷ drop (suc i) ns) (sym e) ∙ ap (λ (j : ℕ). n ∷ drop j ns) next in
    ap (λ (z : List plain.Parameter). z ++ map (parameter_in h) (drop (i + 1) ns)) k
    ∙ append_assoc old (parameter_in h n ∷ []) (map (parameter_in h) (drop (i + 1) ns))
    ∙ ap (λ (ms : List Named). old ++ map (parameter_in h) ms) (sym split)
