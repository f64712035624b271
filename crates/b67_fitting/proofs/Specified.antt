-- The parameters of a heading: each is simple and has a kind, or is an array with the lower bounds of its specification, or an event.
use Rattle.std.proofs.Common.{◌≡◌, ◌⊎◌, inl, inr, ℕ, Bool, true, false, List, [], ◌∷◌, length, Some, None, refl, ap, ◌∙◌, subst, if◌then◌else◌}
use Rattle.std.specs.List.{AllByRecursion}
use Rattle.std.proofs.lemmas.List.Elements.{recursion_from_All}
use Rattle.algol_tree.specs.declared.tree.Heading.{Heading}
use Rattle.algol_tree.specs.declared.tree.Kind.{Kind}
use Rattle.algol_tree.specs.declared.tree.Named.{Named}
use Rattle.algol_tree.specs.declared.tree.Spec.{Spec}
use Rattle.algol_tree.specs.declared.tree.Spec.TheVariants as spec
use Rattle.algol_tree.specs.Classes as class
use Rattle.algol_tree.specs.Classes.{is_simple, is_array, is_event}
use Rattle.algol_tree.specs.Sorts as sort
use Rattle.algol_tree.specs.Sorts.{is_named_in, specified_by, sort_by, sort_in, class_by, class_in}
use Rattle.algol_paths.specs.Arrays.{Shape, shape_by, shape_in}
use Rattle.b67_fitting.specs.Wholes.{HaveDimensions, SpecWhole}
use Rattle.b67_fitting.specs.Typing.{HeadingSpecified}

-- ---- specifications

-- a name that is specified as a simple one
record IsSimpleIn (ss : List Spec) (name : List ℕ) : Type 0 where
  pub kind : Kind
  pub class_is : class_in ss name ≡ class.simple kind
  pub sort_is : sort_in ss true name ≡ sort.variable
  pub name_is : sort_in ss false name ≡ sort.by_name

simple_by : (s : Spec) (ss : List Spec) (name : List ℕ) → specified_by s name ≡ true → is_simple (class_by s) ≡ true → IsSimpleIn (s ∷ ss) name
simple_by (spec.Simple kind ns) ss name e g =
    record {
      kind = kind;
      class_is = ap (λ (b : Bool). if b then class.simple kind else class_in ss name) e;
      sort_is = ap (λ (b : Bool). if b then sort.variable else sort_in ss true name) e;
      name_is = ap (λ (b : Bool). if b then sort.by_name else sort_in ss false name) e;
    }
simple_by (spec.Events ns) ss name e g = absurd (let clash : false ≡ true = g in cc)
simple_by (spec.Arrays kind ns lows) ss name e g = absurd (let clash : false ≡ true = g in cc)

simple_in : (ss : List Spec) (name : List ℕ) → is_simple (class_in ss name) ≡ true → IsSimpleIn ss name
simple_in [] name h = absurd (let clash : false ≡ true = h in cc)
simple_in (s ∷ ss) name h = by (specified_by s name) refl (simple_in ss name) h
  where
    by : (b : Bool) → specified_by s name ≡ b → (is_simple (class_in ss name) ≡ true → IsSimpleIn ss name) → is_simple (if b then class_by s else class_in ss name) ≡ true → IsSimpleIn (s ∷ ss) name
    by false e later g =
        let r = later g in
        record {
          kind = r.kind;
          class_is = ap (λ (b : Bool). if b then class_by s else class_in ss name) e ∙ r.class_is;
          sort_is = ap (λ (b : Bool). if b then sort_by s true else sort_in ss true name) e ∙ r.sort_is;
          name_is = ap (λ (b : Bool). if b then sort_by s false else sort_in ss false name) e ∙ r.name_is;
        }
    by true e later g = simple_by s ss name e g

-- .. as an array
record IsArrayIn (ss : List Spec) (name : List ℕ) : Type 0 where
  pub shape : Shape
  pub class_is : class_in ss name ≡ class.array shape.kind (length shape.lows)
  pub shape_is : shape_in ss name ≡ Some shape
  pub sort_is : (by_value : Bool) → sort_in ss by_value name ≡ sort.formal_array shape.lows

arrayed_by : (s : Spec) (ss : List Spec) (name : List ℕ) → specified_by s name ≡ true → is_array (class_by s) ≡ true → IsArrayIn (s ∷ ss) name
arrayed_by (spec.Arrays kind ns lows) ss name e g =
    record {
      shape = record { kind = kind; lows = lows };
      class_is = ap (λ (b : Bool). if b then class.array kind (length lows) else class_in ss name) e;
      shape_is = ap (λ (b : Bool). if b then Some (record { kind = kind; lows = lows }) else shape_in ss name) e;
      sort_is = λ v. ap (λ (b : Bool). if b then sort.formal_array lows else sort_in ss v name) e;
    }
arrayed_by (spec.Simple kind ns) ss name e g = absurd (let clash : false ≡ true = g in cc)
arrayed_by (spec.Events ns) ss name e g = absurd (let clash : false ≡ true = g in cc)

arrayed_in : (ss : List Spec) (name : List ℕ) → is_array (class_in ss name) ≡ true → IsArrayIn ss name
arrayed_in [] name h = absurd (let clash : false ≡ true = h in cc)
arrayed_in (s ∷ ss) name h = by (specified_by s name) refl (arrayed_in ss name) h
  where
    by : (b : Bool) → specified_by s name ≡ b → (is_array (class_in ss name) ≡ true → IsArrayIn ss name) → is_array (if b then class_by s else class_in ss name) ≡ true → IsArrayIn (s ∷ ss) name
    by false e later g =
        let r = later g in
        record {
          shape = r.shape;
          class_is = ap (λ (b : Bool). if b then class_by s else class_in ss name) e ∙ r.class_is;
          shape_is = ap (λ (b : Bool). if b then shape_by s else shape_in ss name) e ∙ r.shape_is;
          sort_is = λ v. ap (λ (b : Bool). if b then sort_by s v else sort_in ss v name) e ∙ r.sort_is v;
        }
    by true e later g = arrayed_by s ss name e g

-- .. as an event
record IsEventIn (ss : List Spec) (name : List ℕ) : Type 0 where
  pub class_is : class_in ss name ≡ class.event
  pub shape_is : shape_in ss name ≡ None
  pub sort_is : (by_value : Bool) → sort_in ss by_value name ≡ sort.formal_event

event_by : (s : Spec) (ss : List Spec) (name : List ℕ) → specified_by s name ≡ true → is_event (class_by s) ≡ true → IsEventIn (s ∷ ss) name
event_by (spec.Events ns) ss name e g =
    record {
      class_is = ap (λ (b : Bool). if b then class.event else class_in ss name) e;
      shape_is = ap (λ (b : Bool). if b then None else shape_in ss name) e;
      sort_is = λ v. ap (λ (b : Bool). if b then sort.formal_event else sort_in ss v name) e;
    }
event_by (spec.Simple kind ns) ss name e g = absurd (let clash : false ≡ true = g in cc)
event_by (spec.Arrays kind ns lows) ss name e g = absurd (let clash : false ≡ true = g in cc)

event_in : (ss : List Spec) (name : List ℕ) → is_event (class_in ss name) ≡ true → IsEventIn ss name
event_in [] name h = absurd (let clash : false ≡ true = h in cc)
event_in (s ∷ ss) name h = by (specified_by s name) refl (event_in ss name) h
  where
    by : (b : Bool) → specified_by s name ≡ b → (is_event (class_in ss name) ≡ true → IsEventIn ss name) → is_event (if b then class_by s else class_in ss name) ≡ true → IsEventIn (s ∷ ss) name
    by false e later g =
        let r = later g in
        record {
          class_is = ap (λ (b : Bool). if b then class_by s else class_in ss name) e ∙ r.class_is;
          shape_is = ap (λ (b : Bool). if b then shape_by s else shape_in ss name) e ∙ r.shape_is;
          sort_is = λ v. ap (λ (b : Bool). if b then sort_by s v else sort_in ss v name) e ∙ r.sort_is v;
        }
    by true e later g = event_by s ss name e g

-- ---- headings

-- a parameter by value or by name, an array, or an event
pub data IsSpecified (h : Heading) (n : Named) : Type 0 where
  as_value : (kind : Kind) → class_in h.specs n.name ≡ class.simple kind → is_named_in h.values n.name ≡ true → sort_in h.specs (is_named_in h.values n.name) n.name ≡ sort.variable → IsSpecified h n
  as_name : (kind : Kind) → class_in h.specs n.name ≡ class.simple kind → is_named_in h.values n.name ≡ false → sort_in h.specs (is_named_in h.values n.name) n.name ≡ sort.by_name → IsSpecified h n
  as_array : (shape : Shape) → class_in h.specs n.name ≡ class.array shape.kind (length shape.lows) → shape_in h.specs n.name ≡ Some shape →
      sort_in h.specs (is_named_in h.values n.name) n.name ≡ sort.formal_array shape.lows → IsSpecified h n
  as_event : class_in h.specs n.name ≡ class.event → shape_in h.specs n.name ≡ None → sort_in h.specs (is_named_in h.values n.name) n.name ≡ sort.formal_event → IsSpecified h n

abbrev pub AreSpecified : Heading → List Named → Type 0
AreSpecified h ns = AllByRecursion (IsSpecified h) ns

module _ (h : Heading) where
  abbrev IsOne : Named → Type 0
  IsOne n = (is_simple (class_in h.specs n.name) ≡ true) ⊎ ((is_array (class_in h.specs n.name) ≡ true) ⊎ (is_event (class_in h.specs n.name) ≡ true))

  simple_specified : (n : Named) → IsSimpleIn h.specs n.name → IsSpecified h n
  simple_specified n r = by (is_named_in h.values n.name) refl
    where
      by : (b : Bool) → is_named_in h.values n.name ≡ b → IsSpecified h n
      by true e = as_value r.kind r.class_is e (ap (λ (z : Bool). sort_in h.specs z n.name) e ∙ r.sort_is)
      by false e = as_name r.kind r.class_is e (ap (λ (z : Bool). sort_in h.specs z n.name) e ∙ r.name_is)

  one_specified : (n : Named) → IsOne n → IsSpecified h n
  one_specified n (inl p) = simple_specified n (simple_in h.specs n.name p)
  one_specified n (inr (inl p)) =
      let r = arrayed_in h.specs n.name p in
      as_array r.shape r.class_is r.shape_is (r.sort_is (is_named_in h.values n.name))
  one_specified n (inr (inr p)) =
      let r = event_in h.specs n.name p in
      as_event r.class_is r.shape_is (r.sort_is (is_named_in h.values n.name))

  all_specified : (ns : List Named) → AllByRecursion IsOne ns → AreSpecified h ns
  all_specified [] p = tt
  all_specified (n ∷ ns) p = (one_specified n p.0, all_specified ns p.1)

  pub specified : HeadingSpecified h → AreSpecified h h.params
  specified b = all_specified h.params (recursion_from_All IsOne h.params b)

-- ---- the lower bounds of arrays

no_shape_by : (s : Spec) (kind : Kind) → class_by s ≡ class.simple kind → shape_by s ≡ None
no_shape_by (spec.Simple own ns) kind e = refl
no_shape_by (spec.Events ns) kind e = refl
no_shape_by (spec.Arrays own ns lows) kind e = absurd (let clash : class.array own (length lows) ≡ class.simple kind = e in cc)

-- a simple parameter has none
pub no_shape : (ss : List Spec) (name : List ℕ) (kind : Kind) → class_in ss name ≡ class.simple kind → shape_in ss name ≡ None
no_shape [] name kind e = refl
no_shape (s ∷ ss) name kind e = by (specified_by s name) (no_shape ss name kind) e
  where
    by : (b : Bool) → (class_in ss name ≡ class.simple kind → shape_in ss name ≡ None) → (if b then class_by s else class_in ss name) ≡ class.simple kind →
        (if b then shape_by s else shape_in ss name) ≡ None
    by true later g = no_shape_by s kind g
    by false later g = later g

dimensions_by : (s : Spec) (shape : Shape) → SpecWhole s → shape_by s ≡ Some shape → HaveDimensions shape.lows
dimensions_by (spec.Arrays kind ns lows) shape w e =
    let same : record { kind = kind; lows = lows } ≡ shape = cc in
    subst (λ (z : Shape). HaveDimensions z.lows) same w
dimensions_by (spec.Simple kind ns) shape w e = absurd (let clash : None ≡ Some shape = e in cc)
dimensions_by (spec.Events ns) shape w e = absurd (let clash : None ≡ Some shape = e in cc)

-- they are whole, and there are one or two
pub dimensions_in : (ss : List Spec) (name : List ℕ) (shape : Shape) → AllByRecursion SpecWhole ss → shape_in ss name ≡ Some shape → HaveDimensions shape.lows
dimensions_in [] name shape w e = absurd (let clash : None ≡ Some shape = e in cc)
dimensions_in (s ∷ ss) name shape w e = by (specified_by s name) (dimensions_in ss name shape w.1) e
  where
    by : (b : Bool) → (shape_in ss name ≡ Some shape → HaveDimensions shape.lows) → (if b then shape_by s else shape_in ss name) ≡ Some shape → HaveDimensions shape.lows
    by true later g = dimensions_by s shape w.0 g
    by false later g = later g
