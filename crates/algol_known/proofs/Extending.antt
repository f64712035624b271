-- Names and parameters that are declared, one after the other.
use Rattle.std.proofs.Common.{◌≡◌, ℕ, ◌+◌, ◌-◌, ◌<◌, ◌≤◌, Bool, true, false, List, [], ◌∷◌, ◌++◌, map, length, drop, get_or, Some, refl, ap, sym, ◌∙◌, subst, arith, zero, suc, add-one, append-nil, slice_get}
use Rattle.std.specs.Prelude.{is_some, if◌then◌else◌}
use Rattle.algol_tree.specs.declared.tree.Heading.{Heading}
use Rattle.algol_tree.specs.declared.tree.Named.{Named}
use Rattle.algol_tree.specs.declared.tree.Spec.{Spec}
use Rattle.algol_tree.specs.declared.tree.Spec.TheVariants as specs
use Rattle.algol_sorts.specs.declared.sort.Sort as said
use Rattle.algol_sorts.specs.Sorts.{parameter_by, sort_by}
use Rattle.algol_sorts.proofs.Sorts.{parameter_declared}
use Rattle.algol_tree.specs.Classes as classes
use Rattle.algol_tree.specs.Classes.{Formal}
use Rattle.algol_tree.specs.Sorts.{Declared, Sort, class_in, formals_of, is_named_in, sort_in}
use Rattle.algol_tree.specs.Surroundings.{Surroundings, declared_as, formals_of_class}
use Rattle.b67_list.proofs.Lists.{drop_read_or}
use Rattle.algol_known.specs.declared.known.Class.{Class}
use Rattle.algol_known.specs.declared.known.Entry.{Entry}
use Rattle.algol_known.specs.declared.known.Seen.TheVariants as seens
use Rattle.algol_known.specs.declared.around.Around.{Around}
use Rattle.algol_known.specs.declared.around.Procedure.{Procedure}
use Rattle.algol_known.specs.Naming.{IsBare}
use Rattle.algol_known.specs.Looking.{class_for, level_within, modes_in, plain_class, procedure_class}
use Rattle.algol_known.specs.Seeing.{Declares, Introduces, IsClass, IsEntry, Sees, mode_of}
use Rattle.algol_known.specs.Widening.{Admits, SortStandsFor, Widens, declaring, parameters_so}
use Rattle.algol_known.proofs.Widening.{level_here, widens_one, widens_then}

pub same_at : {A : Type 0} (xs : List A) (i : ℕ) (x y : A) → i < length xs → get_or xs i x ≡ get_or xs i y
same_at [] i x y h = absurd (omega arith)
same_at (z ∷ zs) zero x y h = refl
same_at (z ∷ zs) (suc i) x y h = same_at zs i x y (omega arith)

-- ---- names of one class, the last first

names_step : (k l m : Around) (sort : Sort) (c : classes.Class) (so : said.Sort) (x : Named) (rest : List Named) (name : List ℕ) (entry : Entry) → SortStandsFor so sort c →
    name ≡ x.name → entry ≡ record { spot = x.spot; block = l.innermost.block; level = level_within l; class = plain_class so } → Widens k l (declaring sort c rest) →
    Declares l m name entry → m.outer ≡ l.outer → m.procedures ≡ l.procedures → m.innermost.typed ≡ l.innermost.typed →
    ((a : Surroundings) → Sees l seens.BeforeDeclarations a → Sees m seens.BeforeDeclarations a) → Widens k m (declaring sort c (x ∷ rest))
names_step k l m sort c so x rest name entry stands n e w d o p t before =
    let one : Surroundings → Declared = λ a. record { name = x.name; spot = x.spot; block = a.block; depth = a.depth; sort = sort; class = c } in
    widens_then k l m (declaring sort c rest) (λ a. record a { known = one a ∷ a.known }) w
    (widens_one l m name entry one d o p t before (λ a. sym n) (λ a. refl)
    (λ a s.
    record {
      spot = ap (λ (z : Entry). z.spot) e;
      block = ap (λ (z : Entry). z.block) e ∙ s.block;
      level = ap (λ (z : Entry). z.level) e ∙ level_here l seens.All a s;
      class = (let P : Class → Type 0 = λ z. IsClass l.procedures.items z c in subst P (sym (ap (λ (z : Entry). z.class) e)) (stands.0 l.procedures.items));
      sort = ap (λ (z : Entry). z.class.sort) e ∙ stands.1;
    }))

pub names_back : (k l m : Around) (sort : Sort) (c : classes.Class) (so : said.Sort) (ns : List Named) (at : ℕ) (n o : Named) (name : List ℕ) (entry : Entry) → 0 < at →
    at ≤ length ns → SortStandsFor so sort c → name ≡ (get_or ns (at - 1) o).name →
    entry ≡ record { spot = (get_or ns (at - 1) n).spot; block = l.innermost.block; level = level_within l; class = plain_class so } →
    Widens k l (declaring sort c (drop at ns)) → Declares l m name entry → m.outer ≡ l.outer → m.procedures ≡ l.procedures →
    m.innermost.typed ≡ l.innermost.typed → ((a : Surroundings) → Sees l seens.BeforeDeclarations a → Sees m seens.BeforeDeclarations a) →
    Widens k m (declaring sort c (drop (at - 1) ns))
names_back k l m sort c so ns at n o name entry low high stands r e w d p q t before =
    let i = at - 1 in
    let next : at ≡ i + 1 = omega (arith, low) in
    let h : i < length ns = omega (arith, low, high) in
    let P : ℕ → Type 0 = λ z. Widens k l (declaring sort c (drop z ns)) in
    let Q : List Named → Type 0 = λ z. Widens k m (declaring sort c z) in
    subst Q (sym (drop_read_or ns i n h))
    (names_step k l m sort c so (get_or ns i n) (drop (i + 1) ns) name entry stands (r ∙ ap (λ (z : Named). z.name) (same_at ns i o n h)) e
    (subst P next w) d p q t before)

pub names_all : (k m : Around) (sort : Sort) (c : classes.Class) (ns : List Named) (at : ℕ) → at ≤ 0 → Widens k m (declaring sort c (drop at ns)) →
    Widens k m (declaring sort c ns)
names_all k m sort c ns at h w =
    let e : at ≡ 0 = omega (arith, h) in
    let P : ℕ → Type 0 = λ z. Widens k m (declaring sort c (drop z ns)) in subst P e w

-- ---- parameters, the last first

no_formals : (ss : List Spec) (q : List ℕ) → formals_of_class (class_in ss q) ≡ []
no_formals [] q = refl
no_formals (specs.Simple kind ns ∷ ss) q = step (is_named_in ns q) (no_formals ss q)
  where
    step : (b : Bool) → formals_of_class (class_in ss q) ≡ [] → formals_of_class (if b then classes.simple kind else class_in ss q) ≡ []
    step true h = refl
    step false h = h
no_formals (specs.Events ns ∷ ss) q = step (is_named_in ns q) (no_formals ss q)
  where
    step : (b : Bool) → formals_of_class (class_in ss q) ≡ [] → formals_of_class (if b then classes.event else class_in ss q) ≡ []
    step true h = refl
    step false h = h
no_formals (specs.Arrays kind ns lows ∷ ss) q = step (is_named_in ns q) (no_formals ss q)
  where
    step : (b : Bool) → formals_of_class (class_in ss q) ≡ [] → formals_of_class (if b then classes.array kind (length lows) else class_in ss q) ≡ []
    step true h = refl
    step false h = h

class_told : (ps : List Procedure) (c : classes.Class) (value : Bool) → formals_of_class c ≡ [] → IsClass ps (plain_class (parameter_by c value)) c
class_told ps (classes.simple kind) true f = record { simple = refl; modes = refl; within = tt }
class_told ps (classes.simple kind) false f = record { simple = refl; modes = refl; within = tt }
class_told ps _ value f = record { simple = refl; modes = sym (ap (map mode_of) f); within = tt }

abbrev formal_at : Heading → Named → Formal
formal_at h n = record { class = class_in h.specs n.name; by_value = is_named_in h.values n.name }

mode_at : (h : Heading) (ns : List Named) (i : ℕ) (n : Named) → i < length ns →
    slice_get (map mode_of (formals_of (record h { params = ns }))) i ≡ Some (mode_of (formal_at h (get_or ns i n)))
mode_at h [] i n l = absurd (omega arith)
mode_at h (x ∷ xs) zero n l = refl
mode_at h (x ∷ xs) (suc i) n l = mode_at h xs i n (omega arith)

admits_step : (k l m : Around) (h : Heading) (x : Named) (rest : List Named) (name : List ℕ) (entry : Entry) → name ≡ x.name →
    entry.spot ≡ x.spot → entry.block ≡ l.innermost.block → entry.level ≡ level_within l → IsClass l.procedures.items entry.class (class_in h.specs x.name) →
    entry.class.sort ≡ sort_by (class_in h.specs x.name) (sort_in h.specs (is_named_in h.values x.name) x.name) →
    Admits k l (parameters_so (record h { params = rest })) → Introduces l m name entry → m.outer ≡ l.outer → m.procedures ≡ l.procedures →
    m.innermost.typed ≡ l.innermost.typed → m.innermost.declared ≡ l.innermost.declared → Admits k m (parameters_so (record h { params = x ∷ rest }))
admits_step k l m h x rest name entry n spot block level class sort w i o p t d =
    let one : Surroundings → Declared =
    λ a.
    record {
      name = x.name;
      spot = x.spot;
      block = a.block;
      depth = a.depth;
      sort = sort_in h.specs (is_named_in h.values x.name) x.name;
      class = class_in h.specs x.name;
    } in
    let f = parameters_so (record h { params = rest }) in
    let is : (a : Surroundings) → Sees l seens.All a → IsEntry l.procedures.items entry (one a) =
    λ a s. record { spot = spot; block = block ∙ s.block; level = level ∙ level_here l seens.All a s; class = class; sort = sort } in
    let bare : IsBare k.innermost.declared → IsBare l.innermost.declared = λ b. let P = IsBare in subst P (sym w.declared) b in
    record {
      outer = o ∙ w.outer;
      procedures = p ∙ w.procedures;
      typed = t ∙ w.typed;
      declared = d ∙ w.declared;
      sees = λ sees a b s u. i.sees sees (f a) (one a) (bare b) (w.sees sees a b s u) (sym n) (is (f a) (w.sees seens.All a b s s));
      holds = λ a b s u. i.holds (f a) (one a) (bare b) (w.holds a b s u) (sym n) refl (is (f a) (w.sees seens.All a b s s));
    }

pub admits_back : (k l m : Around) (h : Heading) (procedure : ℕ) (ns : List Named) (at : ℕ) (n o : Named) (name : List ℕ) (found : Class) (entry : Entry) → 0 < at →
    at ≤ length ns → ns ≡ h.params → name ≡ (get_or ns (at - 1) o).name →
    modes_in k.procedures.items (procedure_class procedure) ≡ map mode_of (formals_of h) →
    found ≡ class_for (slice_get (modes_in l.procedures.items (procedure_class procedure)) (at - 1)) →
    entry ≡ record { spot = (get_or ns (at - 1) n).spot; block = l.innermost.block; level = level_within l; class = found } →
    Admits k l (parameters_so (record h { params = drop at ns })) → Introduces l m name entry → m.outer ≡ l.outer → m.procedures ≡ l.procedures →
    m.innermost.typed ≡ l.innermost.typed → m.innermost.declared ≡ l.innermost.declared →
    Admits k m (parameters_so (record h { params = drop (at - 1) ns }))
admits_back k l m h procedure ns at n o name found entry low high of r modes told e w d p q t u =
    let i = at - 1 in
    let next : at ≡ i + 1 = omega (arith, low) in
    let lt : i < length ns = omega (arith, low, high) in
    let x : Named = get_or ns i n in
    let same : l.procedures.items ≡ k.procedures.items = (let v = w.procedures in cc) in
    let mode_is : slice_get (modes_in l.procedures.items (procedure_class procedure)) i ≡ Some (mode_of (formal_at h x)) =
    ap (λ z. slice_get (modes_in z (procedure_class procedure)) i) same ∙ ap (λ z. slice_get z i) modes
    ∙ ap (λ z. slice_get (map mode_of (formals_of (record h { params = z }))) i) (sym of) ∙ mode_at h ns i n lt in
    let class_is : found ≡ class_for (Some (mode_of (formal_at h x))) = told ∙ ap class_for mode_is in
    let P : ℕ → Type 0 = λ z. Admits k l (parameters_so (record h { params = drop z ns })) in
    let Q : List Named → Type 0 = λ z. Admits k m (parameters_so (record h { params = z })) in
    let R : Class → Type 0 = λ z. IsClass l.procedures.items z (class_in h.specs x.name) in
    subst Q (sym (drop_read_or ns i n lt))
    (admits_step k l m h x (drop (i + 1) ns) name entry (r ∙ ap (λ (z : Named). z.name) (same_at ns i o n lt)) (ap (λ (z : Entry). z.spot) e)
    (ap (λ (z : Entry). z.block) e) (ap (λ (z : Entry). z.level) e)
    (subst R (sym (ap (λ (z : Entry). z.class) e ∙ class_is))
    (class_told l.procedures.items (class_in h.specs x.name) (is_named_in h.values x.name) (no_formals h.specs x.name)))
    (ap (λ (z : Entry). z.class.sort) e ∙ ap (λ (z : Class). z.sort) class_is ∙ parameter_declared h.specs (is_named_in h.values x.name) x.name)
    (subst P next w) d p q t u)

pub admits_all : (k m : Around) (h : Heading) (ns : List Named) (at : ℕ) → at ≤ 0 → ns ≡ h.params → Admits k m (parameters_so (record h { params = drop at ns })) →
    Admits k m (parameters_so h)
admits_all k m h ns at l of w =
    let e : at ≡ 0 = omega (arith, l) in
    let P : ℕ → Type 0 = λ z. Admits k m (parameters_so (record h { params = drop z ns })) in
    let Q : List Named → Type 0 = λ z. Admits k m (parameters_so (record h { params = z })) in subst Q of (subst P e w)
