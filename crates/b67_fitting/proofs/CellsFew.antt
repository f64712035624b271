-- The cells of a block among those of the parts of a tree: its variables, its procedures, its actuals, its arrays, events and tasks and its
-- result are no more than these.
use Rattle.std.proofs.Common.{arith, ◌≡◌, ℕ, ◌+◌, ◌==◌, ◌≤◌, Bool, false, List, [], ◌∷◌, ◌++◌, filter, length, is_some, Option, Some, None, refl, ap, ◌∙◌, if◌then◌else◌, suc}
use Rattle.std.proofs.lemmas.List.{length-append, length-map}
use Rattle.std.proofs.lemmas.List.Concat.{flat_map-append}
use Rattle.std.proofs.lemmas.List.Elements.{filter-append}
use Rattle.std.specs.List.{flat_map}
use Rattle.algol_tree.specs.declared.token.Spot.{Spot}
use Rattle.algol_tree.specs.declared.tree.Heading.{Heading}
use Rattle.algol_tree.specs.declared.tree.Kind.{Kind}
use Rattle.algol_tree.specs.declared.tree.Named.{Named}
use Rattle.algol_tree.specs.Blocks.{Block, of_procedure, decls_of, stmts_of, number_at}
use Rattle.algol_tree.specs.Cells as cells
use Rattle.algol_tree.specs.Cells.{Cell, Content, cells_for, result_cells, cells_at, cells_of}
use Rattle.algol_tree.specs.Plain as tree
use Rattle.algol_tree.specs.Plain.{PStmt, PDecls}
use Rattle.algol_tree.specs.Scopes.{Scopes}
use Rattle.algol_tree.specs.Sites as site
use Rattle.algol_tree.specs.Sites.{Site, sites_in_pairs, here_stmt, inside_stmt, sites_in_stmts, sites_in_decls, has_decls}
use Rattle.algol_tree.specs.Sorts.{Declared}
use Rattle.algol_tree.specs.Surroundings.{Surroundings, knowing, knowing_all, inside_procedure}
use Rattle.algol_paths.specs.Arrays.{DeclaredArray, Made, an_array, arrays_in, made_in, an_event}
use Rattle.b67_templates.specs.Cells.{Simple, value, parameter_cells, simple_cells, of_kind, result_cells_of, variables, procedures, made_of, events_in, actuals_in_pairs, actuals_in_decls, actuals_in_stmts}
use Rattle.b67_list.proofs.Numbers.{number_itself}
use Rattle.b67_fitting.proofs.Headings.{DeclsSpecified, StmtSpecified}
use Rattle.b67_templates.specs.Nested.{AreParameters}
use Rattle.b67_fitting.proofs.ParametersTold.{told_many}

pub cells_both : (blocks : List Block) (xs ys : List Site) (k : ℕ) →
    length (cells_of blocks (xs ++ ys) k) ≡ length (cells_of blocks xs k) + length (cells_of blocks ys k)
cells_both blocks xs ys k =
    let own : Cell → Bool = λ c. c.block == k in
    let front = flat_map (cells_at blocks) xs in
    let back = flat_map (cells_at blocks) ys in
    ap (λ z. length (filter own z)) (flat_map-append (cells_at blocks) xs ys) ∙ ap length (filter-append own front back) ∙ length-append (filter own front) (filter own back)

-- what a block has a cell for is a cell of the block
own_cells : (k : ℕ) (content : Content) (ns : List Named) → length (filter (λ (c : Cell). c.block == k) (cells_for k content ns)) ≡ length ns
own_cells k content [] = refl
own_cells k content (n ∷ ns) =
    let rest = filter (λ (c : Cell). c.block == k) (cells_for k content ns) in
    ap (λ (b : Bool). length (if b then record { block = k; spot = n.spot; content = content } ∷ rest else rest)) (number_itself k) ∙ ap suc (own_cells k content ns)

one_there : (k : ℕ) (spot : Spot) (content : Content) (cs : List Cell) →
    length (filter (λ (c : Cell). c.block == k) (record { block = k; spot = spot; content = content } ∷ cs)) ≡ suc (length (filter (λ (c : Cell). c.block == k) cs))
one_there k spot content cs =
    let rest = filter (λ (c : Cell). c.block == k) cs in
    ap (λ (b : Bool). length (if b then record { block = k; spot = spot; content = content } ∷ rest else rest)) (number_itself k)

-- ---- variables, procedures and arrays

module _ (blocks : List Block) where
  -- the parts of a procedure: its declaration, and its body
  abbrev pub declaring : Heading → PStmt → PDecls → Surroundings → Site
  declaring h t ds a = record { part = site.declaration (tree.procedure h t) ds; around = a }

  abbrev pub body_sites : PStmt → Surroundings → List Site
  body_sites t a = here_stmt t false a ∷ inside_stmt blocks t of_procedure false a

module _ (sc : Scopes) where
  abbrev blocks : List Block
  blocks = sc.blocks

  -- the actuals in bounds are no more than the cells of actuals in them
  abbrev pub FewBounds : Surroundings → List Declared → PDecls → Type 0
  FewBounds a first tree.no_decls = Unit {0}
  FewBounds a first (tree.decls (tree.arrays kind ns pairs) ds) =
      (length (actuals_in_pairs sc pairs) ≤ length (cells_of sc.blocks (sites_in_pairs pairs (record a { known = first })) a.block))
      × FewBounds (knowing sc.blocks (tree.arrays kind ns pairs) ds a) first ds
  FewBounds a first (tree.decls d ds) = FewBounds (knowing sc.blocks d ds a) first ds

  pub as_many : (ds : PDecls) (a : Surroundings) (first : List Declared) → DeclsSpecified ds → FewBounds a first ds →
      length (variables ds) + length (procedures ds) + length (made_of ds) + length (actuals_in_decls sc ds) ≤ length (cells_of blocks (sites_in_decls blocks ds a first) a.block)
  as_many tree.no_decls a first s f = omega arith
  as_many (tree.decls (tree.simple kind ns) ds) a first s f =
      let k = a.block in
      let own : Cell → Bool = λ c. c.block == k in
      let its : List Cell = cells_for k cells.variable ns in
      let after : Surroundings = knowing blocks (tree.simple kind ns) ds a in
      let more : List Cell = flat_map (cells_at blocks) (sites_in_decls blocks ds after first) in
      omega (
        arith,
        length-append (of_kind kind ns) (variables ds),
        length-map {B = Simple} ns (λ (n : Named). record { name = n.name; wanted = value kind }),
        ap length (filter-append own its more),
        length-append (filter own its) (filter own more),
        own_cells k cells.variable ns,
        as_many ds after first s.1 f,
      )
  as_many (tree.decls (tree.files ns) ds) a first s f = as_many ds (knowing blocks (tree.files ns) ds a) first s.1 f
  as_many (tree.decls (tree.arrays kind ns pairs) ds) a first s f =
      let k = a.block in
      let own : Cell → Bool = λ c. c.block == k in
      let its : List Cell = cells_for k cells.made ns in
      let after : Surroundings = knowing blocks (tree.arrays kind ns pairs) ds a in
      let bounds : List Site = sites_in_pairs pairs (record after { known = first }) in
      let later : List Site = sites_in_decls blocks ds after first in
      let more : List Cell = flat_map (cells_at blocks) (bounds ++ later) in
      omega (
        arith,
        length-append (made_in kind ns pairs) (made_of ds),
        length-map {B = Made} (arrays_in kind ns pairs) an_array,
        length-map {B = DeclaredArray} ns (λ (n : Named). record { name = n.name; kind = kind; pairs = pairs }),
        ap length (filter-append own its more),
        length-append (filter own its) (filter own more),
        own_cells k cells.made ns,
        cells_both blocks bounds later k,
        length-append (actuals_in_pairs sc pairs) (actuals_in_decls sc ds),
        f.0,
        as_many ds after first s.1 f.1,
      )
  as_many (tree.decls (tree.forward h) ds) a first s f = as_many ds (knowing blocks (tree.forward h) ds a) first s.1 f
  as_many (tree.decls (tree.procedure h t) ds) a first s f =
      let k = a.block in
      let after : Surroundings = knowing blocks (tree.procedure h t) ds a in
      let c : Surroundings = inside_procedure blocks h after in
      let own = number_at blocks h.name.spot in
      let its : List Site = declaring blocks h t ds a ∷ body_sites blocks t c in
      let more : List Cell = (result_cells blocks h ++ cells_for own cells.parameter h.params) ++ flat_map (cells_at blocks) (body_sites blocks t c) in
      let first_one : length (cells_of blocks its k) ≡ suc (length (filter (λ (z : Cell). z.block == k) more)) = one_there k h.name.spot cells.procedure more in
      omega (arith, cells_both blocks its (sites_in_decls blocks ds after first) k, first_one, as_many ds after first s.1 f)
  as_many (tree.decls (tree.events ns) ds) a first s f =
      let k = a.block in
      let own : Cell → Bool = λ c. c.block == k in
      let its : List Cell = cells_for k cells.made ns in
      let after : Surroundings = knowing blocks (tree.events ns) ds a in
      let more : List Cell = flat_map (cells_at blocks) (sites_in_decls blocks ds after first) in
      omega (
        arith,
        length-append (events_in ns) (made_of ds),
        length-map {B = Made} ns (λ (n : Named). an_event n.name),
        ap length (filter-append own its more),
        length-append (filter own its) (filter own more),
        own_cells k cells.made ns,
        as_many ds after first s.1 f,
      )
  as_many (tree.decls (tree.tasks ns) ds) a first s f =
      let k = a.block in
      let own : Cell → Bool = λ c. c.block == k in
      let its : List Cell = cells_for k cells.made ns in
      let after : Surroundings = knowing blocks (tree.tasks ns) ds a in
      let more : List Cell = flat_map (cells_at blocks) (sites_in_decls blocks ds after first) in
      omega (
        arith,
        length-append (events_in ns) (made_of ds),
        length-map {B = Made} ns (λ (n : Named). an_event n.name),
        ap length (filter-append own its more),
        length-append (filter own its) (filter own more),
        own_cells k cells.made ns,
        as_many ds after first s.1 f,
      )
  as_many (tree.decls (tree.labels ns) ds) a first s f = as_many ds (knowing blocks (tree.labels ns) ds a) first s.1 f

  -- ---- a procedure

  -- those of its own declarations
  -- and its statements have so few actuals
  abbrev pub FewInBody : PStmt → Surroundings → Type 0
  FewInBody (tree.block (tree.body spot ds ss)) a =
      FewBounds a a.known ds × (length (actuals_in_stmts sc ss) ≤ length (cells_of sc.blocks (sites_in_stmts sc.blocks ss (has_decls ds) (knowing_all sc.blocks ds a)) a.block))
  FewInBody t a = length (actuals_in_stmts sc (stmts_of t)) ≤ length (cells_of sc.blocks (body_sites sc.blocks t a) a.block)

  body_many : (t : PStmt) (a : Surroundings) → StmtSpecified t → FewInBody t a →
      length (variables (decls_of t)) + length (procedures (decls_of t)) + length (made_of (decls_of t)) + length (actuals_in_decls sc (decls_of t)) + length (actuals_in_stmts sc (stmts_of t))
      ≤ length (cells_of blocks (body_sites blocks t a) a.block)
  body_many (tree.block (tree.body spot ds ss)) a b f =
      let declared = sites_in_decls blocks ds a a.known in
      omega (arith, as_many ds a a.known b.0 f.0, f.1, cells_both blocks declared (sites_in_stmts blocks ss (has_decls ds) (knowing_all blocks ds a)) a.block)
  body_many t a b f = omega (arith, f)

  result_many : (o : Option Kind) (k : ℕ) (n : Named) →
      length (result_cells_of o n.name) ≤ length (filter (λ (c : Cell). c.block == k) (if is_some o then cells_for k cells.result (n ∷ []) else []))
  result_many None k n = omega arith
  result_many (Some kind) k n = omega (arith, own_cells k cells.result (n ∷ []))

  -- its parameters and its result, whose cells stand in the block around
  pub procedure_many : (h : Heading) (t : PStmt) (ds : PDecls) (a : Surroundings) (c : Surroundings) → c.block ≡ number_at blocks h.name.spot → StmtSpecified t → FewInBody t c →
      length h.params + (length (result_cells_of h.kind h.name.name) + (length (variables (decls_of t)) + length (procedures (decls_of t)) + length (made_of (decls_of t)))) + length (actuals_in_decls sc (decls_of t)) + length (actuals_in_stmts sc (stmts_of t))
      ≤ length (cells_of blocks (declaring blocks h t ds a ∷ body_sites blocks t c) (number_at blocks h.name.spot))
  procedure_many h t ds a c e b f =
      let k = number_at blocks h.name.spot in
      let own : Cell → Bool = λ z. z.block == k in
      let named : Cell = record { block = a.block; spot = h.name.spot; content = cells.procedure } in
      let result : List Cell = result_cells blocks h in
      let params : List Cell = cells_for k cells.parameter h.params in
      omega (
        arith,
        cells_both blocks (declaring blocks h t ds a ∷ []) (body_sites blocks t c) k,
        ap length (filter-append own (named ∷ (result ++ params)) []),
        length-append (filter own (named ∷ (result ++ params))) [],
        ap length (filter-append own (named ∷ []) (result ++ params)),
        length-append (filter own (named ∷ [])) (filter own (result ++ params)),
        ap length (filter-append own result params),
        length-append (filter own result) (filter own params),
        result_many h.kind k h.name,
        own_cells k cells.parameter h.params,
        body_many t c b f,
        ap (λ (i : ℕ). length (cells_of blocks (body_sites blocks t c) i)) e,
      )

-- ---- a block

-- the cells that it has from its entry on
pub simple_many : (sc : Scopes) (b : Block) → length (simple_cells sc b) ≡ length (parameter_cells sc b) + (length (result_cells_of b.result b.name) + length (variables b.decls))
simple_many sc b =
    omega (
      arith,
      length-append (parameter_cells sc b ++ result_cells_of b.result b.name) (variables b.decls),
      length-append (parameter_cells sc b) (result_cells_of b.result b.name),
    )

-- a cell for each parameter
pub parameters_many : (sc : Scopes) (b : Block) → AreParameters sc b → length (parameter_cells sc b) ≡ length b.parameters
parameters_many sc b v = told_many b.parameters (parameter_cells sc b) v.told
