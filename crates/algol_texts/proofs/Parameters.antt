-- The parameters of a block by their names: the sort of each, and that of a name which is none of them.
use Rattle.std.proofs.Common.{◌≡◌, ℕ, ℤ, Bool, true, false, List, [], ◌∷◌, ◌++◌, map, length, is_some, Option, Some, None, refl, sym, ap, ◌∙◌, subst, if◌then◌else◌}
use Rattle.std.proofs.lemmas.List.Elements.{Contains-append_right}
use Rattle.std.specs.List.{AllByRecursion, Contains}
use Rattle.algol_tree.specs.declared.tree.Heading.{Heading}
use Rattle.algol_tree.specs.declared.tree.Kind.{Kind}
use Rattle.algol_tree.specs.declared.tree.Named.{Named}
use Rattle.algol_tree.specs.declared.tree.Spec.{Spec}
use Rattle.algol_tree.specs.declared.tree.Spec.TheVariants as spec
use Rattle.algol_tree.specs.Blocks.{Block}
use Rattle.algol_tree.specs.Classes as class
use Rattle.algol_tree.specs.Classes.{Class, is_unspecified}
use Rattle.algol_tree.specs.Plain as tree
use Rattle.algol_tree.specs.Plain.{PDecl, PDecls}
use Rattle.algol_tree.specs.Names.{if_so, name_is_one_of, repeated, result_names, specified, twice_in_heading}
use Rattle.algol_tree.specs.Sorts as sort
use Rattle.algol_tree.specs.Sorts.{Sort, is_formal, is_by_name, Declared, Parameter, same_name, is_named_in, sort_by, sort_in, class_by, class_in, specified_by, parameters_of}
use Rattle.algol_tree.proofs.Names.{same_name_is, same_name_itself}
use Rattle.algol_tree.proofs.Spots.{not_so}
use Rattle.algol_calls.specs.Fits.{parameter_sort, has_parameter, has_result, has_variable, has_simple}
use Rattle.algol_calls.proofs.Simple.{by_first}
use Rattle.algol_told.proofs.Lists.{contains_first, all_weaker, false_not_true}
use Rattle.algol_told.proofs.Parameters.{each_is_named}
use Rattle.b67_list.proofs.Lists.{append_none_left, append_none_right}
use Rattle.b67_list.proofs.Truths.{either_so}

-- ---- sorts by names

-- both stand for something else, or none does, and so with expressions
pub record IsSame (s t : Sort) : Type 0 where
  pub formal : is_formal s ≡ is_formal t
  pub by_name : is_by_name s ≡ is_by_name t

pub is_same : (s t : Sort) → s ≡ t → IsSame s t
is_same s t e = record { formal = ap is_formal e; by_name = ap is_by_name e }

pub no_name : (s : Sort) → is_formal s ≡ false → is_by_name s ≡ false
no_name sort.by_name h = h
no_name s h = refl

pub no_parameter : (ps : List Parameter) (name : List ℕ) → has_parameter ps name ≡ false → parameter_sort ps name ≡ sort.variable
no_parameter [] name e = refl
no_parameter (p ∷ ps) name e = by (same_name p.name name) (no_parameter ps name) e
  where
    by : (b : Bool) → (has_parameter ps name ≡ false → parameter_sort ps name ≡ sort.variable) → (if b then true else has_parameter ps name) ≡ false →
        (if b then p.sort else parameter_sort ps name) ≡ sort.variable
    by true later f = absurd (false_not_true (sym f))
    by false later f = later f

-- The parameter of the block k is among what is known.
pub record HasParameter (known : List Declared) (k : ℕ) (p : Parameter) : Type 0 where
  pub declared : Declared
  pub there : Contains known declared
  pub block_is : declared.block ≡ k
  pub name_is : declared.name ≡ p.name
  pub sort_is : declared.sort ≡ p.sort

pub more_known : (new known : List Declared) (k : ℕ) (p : Parameter) → HasParameter known k p → HasParameter (new ++ known) k p
more_known new known k p h =
    record {
      declared = h.declared;
      there = Contains-append_right new known h.declared h.there;
      block_is = h.block_is;
      name_is = h.name_is;
      sort_is = h.sort_is;
    }

-- What is declared in a block whose parameters are all known, and which declares no name twice, has the sort of its name among them.
module _ (known : List Declared) (d : Declared) (once : (e : Declared) → Contains known e → d.block ≡ e.block → d.name ≡ e.name → d ≡ e) where
  pub same_sort : (ps : List Parameter) → AllByRecursion (HasParameter known d.block) ps → (is_formal d.sort ≡ true → has_parameter ps d.name ≡ true) →
      IsSame (parameter_sort ps d.name) d.sort
  same_sort [] h f = by (is_formal d.sort) refl f
    where
      by : (b : Bool) → is_formal d.sort ≡ b → (b ≡ true → false ≡ true) → IsSame sort.variable d.sort
      by true e g = absurd (false_not_true (g refl))
      by false e g = record { formal = sym e; by_name = sym (no_name d.sort e) }
  same_sort (p ∷ ps) h f = by (same_name p.name d.name) refl (same_sort ps h.1) f
    where
      by : (b : Bool) → same_name p.name d.name ≡ b → ((is_formal d.sort ≡ true → has_parameter ps d.name ≡ true) → IsSame (parameter_sort ps d.name) d.sort) →
          (is_formal d.sort ≡ true → (if b then true else has_parameter ps d.name) ≡ true) → IsSame (if b then p.sort else parameter_sort ps d.name) d.sort
      by true e later g =
          let its = h.0 in
          let one : d ≡ its.declared = once its.declared its.there (sym its.block_is) (sym (its.name_is ∙ same_name_is p.name d.name e)) in
          is_same p.sort d.sort (sym its.sort_is ∙ ap (λ (z : Declared). z.sort) (sym one))
      by false e later g = later g

-- ---- the parameters of a heading

-- what a parameter is declared as, where it is specified
pub data IsGiven : Sort → Class → Type 0 where
  given_value : (kind : Kind) → IsGiven sort.variable (class.simple kind)
  given_name : (kind : Kind) → IsGiven sort.by_name (class.simple kind)
  given_array : (lows : List ℤ) (kind : Kind) → IsGiven (sort.formal_array lows) (class.array kind (length lows))
  given_event : IsGiven sort.formal_event class.event

given_by : (s : Spec) (by_value : Bool) → IsGiven (sort_by s by_value) (class_by s)
given_by (spec.Simple kind ns) true = given_value kind
given_by (spec.Simple kind ns) false = given_name kind
given_by (spec.Events ns) v = given_event
given_by (spec.Arrays kind ns lows) v = given_array lows kind

pub given : (ss : List Spec) (by_value : Bool) (name : List ℕ) → is_unspecified (class_in ss name) ≡ false → IsGiven (sort_in ss by_value name) (class_in ss name)
given [] v name e = absurd (false_not_true (sym e))
given (s ∷ ss) v name e = by (specified_by s name) (given ss v name) e
  where
    by : (b : Bool) → (is_unspecified (class_in ss name) ≡ false → IsGiven (sort_in ss v name) (class_in ss name)) →
        is_unspecified (if b then class_by s else class_in ss name) ≡ false → IsGiven (if b then sort_by s v else sort_in ss v name) (if b then class_by s else class_in ss name)
    by true later f = given_by s v
    by false later f = later f

module _ (h : Heading) where
  abbrev pub parameter : Named → Parameter
  parameter n = record { name = n.name; sort = sort_in h.specs (is_named_in h.values n.name) n.name }

  pub each_named : (ns : List Named) → AllByRecursion (λ (n : Named). has_parameter (map parameter ns) n.name ≡ true) ns
  each_named [] = tt
  each_named (n ∷ ns) = (
    ap (λ (b : Bool). if b then true else has_parameter (map parameter ns) n.name) (same_name_itself n.name),
    all_weaker (λ (m : Named). has_parameter (map parameter ns) m.name ≡ true) (λ (m : Named). has_parameter (map parameter (n ∷ ns)) m.name ≡ true)
        (λ m e. either_so (same_name n.name m.name) (has_parameter (map parameter ns) m.name) e) ns (each_named ns),
  )

  -- a name that is seen already is none of a list that repeats no name
  none_named : (seen : List (List ℕ)) (ns : List Named) (name : List ℕ) → name_is_one_of seen name ≡ true → repeated seen ns ≡ [] → has_parameter (map parameter ns) name ≡ false
  none_named seen [] name s e = refl
  none_named seen (n ∷ ns) name s e =
      by (same_name n.name name) refl
      (none_named (n.name ∷ seen) ns name (either_so (same_name n.name name) (name_is_one_of seen name) s) (append_none_right (if_so (name_is_one_of seen n.name) n.spot) (repeated (n.name ∷ seen) ns) e))
    where
      by : (b : Bool) → same_name n.name name ≡ b → has_parameter (map parameter ns) name ≡ false → (if b then true else has_parameter (map parameter ns) name) ≡ false
      by true f later =
          let other : name_is_one_of seen n.name ≡ false = not_so (name_is_one_of seen n.name) n.spot (append_none_left (if_so (name_is_one_of seen n.name) n.spot) (repeated (n.name ∷ seen) ns) e) in
          sym s ∙ ap (name_is_one_of seen) (sym (same_name_is n.name name f)) ∙ other
      by false f later = later

  -- no parameter of a typed procedure has its name
  pub result_clear : twice_in_heading h ≡ [] → is_some h.kind ≡ true → has_parameter (parameters_of h) h.name.name ≡ false
  result_clear e typed =
      none_named (h.name.name ∷ []) h.params h.name.name (ap (λ (b : Bool). if b then true else false) (same_name_itself h.name.name))
      (subst (λ (b : Bool). repeated (if b then h.name.name ∷ [] else []) h.params ≡ []) typed
      (append_none_left (repeated (result_names h) h.params) (repeated [] (specified h)) e))

  -- as the body of the procedure knows them
  module _ (k depth : ℕ) where
    abbrev pub parameter_known : Named → Declared
    parameter_known n =
        record {
          name = n.name;
          spot = n.spot;
          block = k;
          depth = depth;
          sort = sort_in h.specs (is_named_in h.values n.name) n.name;
          class = class_in h.specs n.name;
        }

    pub each_parameter : (ns : List Named) (rest : List Declared) → AllByRecursion (HasParameter (map parameter_known ns ++ rest) k) (map parameter ns)
    each_parameter [] rest = tt
    each_parameter (n ∷ ns) rest =
        let known : List Declared = map parameter_known ns ++ rest in (
          record { declared = parameter_known n; there = contains_first (parameter_known n) known; block_is = refl; name_is = refl; sort_is = refl },
          all_weaker (HasParameter known k) (HasParameter (parameter_known n ∷ known) k) (more_known (parameter_known n ∷ []) known k) (map parameter ns) (each_parameter ns rest),
        )

-- ---- the cells that a block has from its entry on

-- those of a declaration, and those of the declarations after it
pub own_variables : (kind : Kind) (ns : List Named) (ds : PDecls) → AllByRecursion (λ (n : Named). has_variable (tree.decls (tree.simple kind ns) ds) n.name ≡ true) ns
own_variables kind ns ds =
    all_weaker (λ (n : Named). is_named_in ns n.name ≡ true) (λ (n : Named). has_variable (tree.decls (tree.simple kind ns) ds) n.name ≡ true)
    (λ n e. by_first (is_named_in ns n.name) (has_variable ds n.name) e) ns (each_is_named ns)

pub later_variable : (d : PDecl) (ds : PDecls) (name : List ℕ) → has_variable ds name ≡ true → has_variable (tree.decls d ds) name ≡ true
later_variable (tree.simple kind ns) ds name e = either_so (is_named_in ns name) (has_variable ds name) e
later_variable (tree.files ns) ds name e = e
later_variable (tree.events ns) ds name e = e
later_variable (tree.tasks ns) ds name e = e
later_variable (tree.labels ns) ds name e = e
later_variable (tree.arrays kind ns pairs) ds name e = e
later_variable (tree.forward h) ds name e = e
later_variable (tree.procedure h t) ds name e = e

pub variable_simple : (b : Block) (name : List ℕ) → has_variable b.decls name ≡ true → has_simple b name ≡ true
variable_simple b name e =
    either_so (has_parameter b.parameters name) (if has_result b.result b.name name then true else has_variable b.decls name)
    (either_so (has_result b.result b.name name) (has_variable b.decls name) e)

pub result_simple : (b : Block) (name : List ℕ) → is_some b.result ≡ true → b.name ≡ name → has_simple b name ≡ true
result_simple b name typed named =
    either_so (has_parameter b.parameters name) (if has_result b.result b.name name then true else has_variable b.decls name)
    (by_first (has_result b.result b.name name) (has_variable b.decls name) (by b.result typed))
  where
    by : (o : Option Kind) → is_some o ≡ true → has_result o b.name name ≡ true
    by None e = absurd (false_not_true e)
    by (Some kind) e = ap (λ (m : List ℕ). same_name m name) named ∙ same_name_itself name
