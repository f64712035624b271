-- A name that a block has from its entry on is that of a simple cell of its frame.
use Rattle.std.proofs.Common.{◌≡◌, ℕ, ◌+◌, Bool, true, false, List, [], ◌∷◌, ◌++◌, Option, Some, None, refl, sym, ap, if◌then◌else◌}
use Rattle.b67_scenes.proofs.Prelude.{Block, Scopes, Parameter, same_name, Kind, Named, has_simple, Simple, Found, found_from, result_cells_of, variables, parameter_cells, simple_cells, AreTold}
use Rattle.algol_tree.specs.Plain as tree
use Rattle.algol_tree.specs.Plain.{PDecls}
use Rattle.algol_tree.specs.Sorts.{is_named_in}
use Rattle.algol_calls.specs.Fits.{has_parameter, has_result, has_variable}
use Rattle.algol_standing.proofs.Lists.{false_true}
use Rattle.b67_templates.specs.Cells.{of_kind}
use Rattle.b67_templates.specs.Nested.{AreParameters}

abbrev has_cell : List Simple → List ℕ → Bool
has_cell [] name = false
has_cell (c ∷ cells) name = if same_name c.name name then true else has_cell cells name

found_if : (k : ℕ) (cells : List Simple) (name : List ℕ) → has_cell cells name ≡ true → (f : Found) × (found_from k cells name ≡ Some f)
found_if k [] name e = false_true e
found_if k (c ∷ cells) name e = by (same_name c.name name) (λ f. found_if (k + 1) cells name f) e
  where
    by : (t : Bool) → (has_cell cells name ≡ true → (f : Found) × (found_from (k + 1) cells name ≡ Some f)) → (if t then true else has_cell cells name) ≡ true →
        (f : Found) × ((if t then Some (record { number = k; cell = c }) else found_from (k + 1) cells name) ≡ Some f)
    by true later f = (record { number = k; cell = c }, refl)
    by false later f = later f

has_front : (xs ys : List Simple) (name : List ℕ) → has_cell xs name ≡ true → has_cell (xs ++ ys) name ≡ true
has_front [] ys name e = false_true e
has_front (c ∷ xs) ys name e = by (same_name c.name name) (λ f. has_front xs ys name f) e
  where
    by : (t : Bool) → (has_cell xs name ≡ true → has_cell (xs ++ ys) name ≡ true) → (if t then true else has_cell xs name) ≡ true → (if t then true else has_cell (xs ++ ys) name) ≡ true
    by true later f = refl
    by false later f = later f

or_later : (t s : Bool) → s ≡ true → (if t then true else s) ≡ true
or_later true s e = refl
or_later false s e = e

has_back : (xs ys : List Simple) (name : List ℕ) → has_cell ys name ≡ true → has_cell (xs ++ ys) name ≡ true
has_back [] ys name e = e
has_back (c ∷ xs) ys name e = or_later (same_name c.name name) (has_cell (xs ++ ys) name) (has_back xs ys name e)

module _ (name : List ℕ) where
  has_told : (ps : List Parameter) (cells : List Simple) → AreTold ps cells → has_parameter ps name ≡ true → has_cell cells name ≡ true
  has_told [] [] h e = false_true e
  has_told [] (c ∷ cells) h e = absurd h
  has_told (p ∷ ps) [] h e = absurd h
  has_told (p ∷ ps) (c ∷ cells) h e = by (same_name p.name name) (same_name c.name name) (ap (λ m. same_name m name) h.0) (λ f. has_told ps cells h.2 f) e
    where
      by : (s t : Bool) → s ≡ t → (has_parameter ps name ≡ true → has_cell cells name ≡ true) → (if s then true else has_parameter ps name) ≡ true →
          (if t then true else has_cell cells name) ≡ true
      by s true same later f = refl
      by true false same later f = false_true (sym same)
      by false false same later f = later f

  has_own_result : (o : Option Kind) (own : List ℕ) → has_result o own name ≡ true → has_cell (result_cells_of o own) name ≡ true
  has_own_result None own e = false_true e
  has_own_result (Some kind) own e = ap (λ (t : Bool). if t then true else false) e

  has_named : (kind : Kind) (ns : List Named) → is_named_in ns name ≡ true → has_cell (of_kind kind ns) name ≡ true
  has_named kind [] e = false_true e
  has_named kind (n ∷ ns) e = by (same_name n.name name) (λ f. has_named kind ns f) e
    where
      by : (t : Bool) → (is_named_in ns name ≡ true → has_cell (of_kind kind ns) name ≡ true) → (if t then true else is_named_in ns name) ≡ true →
          (if t then true else has_cell (of_kind kind ns) name) ≡ true
      by true later f = refl
      by false later f = later f

  has_own_variable : (ds : PDecls) → has_variable ds name ≡ true → has_cell (variables ds) name ≡ true
  has_own_variable tree.no_decls e = false_true e
  has_own_variable (tree.decls (tree.simple kind ns) ds) e = by (is_named_in ns name) refl (λ f. has_own_variable ds f) e
    where
      by : (t : Bool) → is_named_in ns name ≡ t → (has_variable ds name ≡ true → has_cell (variables ds) name ≡ true) → (if t then true else has_variable ds name) ≡ true →
          has_cell (of_kind kind ns ++ variables ds) name ≡ true
      by true f later g = has_front (of_kind kind ns) (variables ds) name (has_named kind ns f)
      by false f later g = has_back (of_kind kind ns) (variables ds) name (later g)
  has_own_variable (tree.decls d ds) e = has_own_variable ds e

  pub simple_found : (sc : Scopes) (b : Block) → AreParameters sc b → has_simple b name ≡ true → (f : Found) × (found_from 0 (simple_cells sc b) name ≡ Some f)
  simple_found sc b h e = found_if 0 (simple_cells sc b) name (by (has_parameter b.parameters name) refl (has_result b.result b.name name) refl e)
    where
      by : (s : Bool) → has_parameter b.parameters name ≡ s → (t : Bool) → has_result b.result b.name name ≡ t → (if s then true else if t then true else has_variable b.decls name) ≡ true →
          has_cell (parameter_cells sc b ++ result_cells_of b.result b.name ++ variables b.decls) name ≡ true
      by true f t g k =
          has_front (parameter_cells sc b ++ result_cells_of b.result b.name) (variables b.decls) name
          (has_front (parameter_cells sc b) (result_cells_of b.result b.name) name (has_told b.parameters (parameter_cells sc b) h.told f))
      by false f true g k =
          has_front (parameter_cells sc b ++ result_cells_of b.result b.name) (variables b.decls) name
          (has_back (parameter_cells sc b) (result_cells_of b.result b.name) name (has_own_result b.result b.name g))
      by false f false g k = has_back (parameter_cells sc b ++ result_cells_of b.result b.name) (variables b.decls) name (has_own_variable b.decls k)
