-- The cells that declarations have, and how they lie in a frame.
use Rattle.std.proofs.Common.{arith, ◌≡◌, ℕ, ◌+◌, ◌==◌, not, Bool, true, false, cond, List, [], ◌∷◌, ◌++◌, filter, length, Option, Some, None, refl, sym, ap, ◌∙◌, append-nil, append_assoc, if◌then◌else◌}
use Rattle.std.proofs.lemmas.Bool.{eq-eqb, eqb-true}
use Rattle.std.proofs.lemmas.List.{length-map}
use Rattle.std.specs.List.{AllByRecursion}
use Rattle.algol_tree.specs.declared.token.Spot.{Spot}
use Rattle.algol_tree.specs.declared.tree.Kind.{Kind}
use Rattle.algol_tree.specs.declared.tree.Named.{Named}
use Rattle.algol_tree.specs.Blocks.{Block, same_spot, block_numbered, number_at}
use Rattle.algol_tree.specs.Cells as cells
use Rattle.algol_tree.specs.Cells.{Content, Cell, cells_for, content_number, holding, layout}
use Rattle.algol_tree.specs.Plain as tree
use Rattle.algol_tree.specs.Plain.{PDecls}
use Rattle.b67_templates.specs.Cells.{Simple, parameters_in, parameters_declared, parameters_around}
use Rattle.b67_list.proofs.Lists.{each_both}
use Rattle.b67_fitting.proofs.Wanting.{wanted_of}
use Rattle.b67_fitting.proofs.Lists.{each_of, filter_none, filter_every}

-- ---- the cells of declarations: those of variables, those of procedures, those of arrays, events and tasks, and all in the order of the text

abbrev pub variable_cells : ℕ → PDecls → List Cell
variable_cells block tree.no_decls = []
variable_cells block (tree.decls (tree.simple kind ns) ds) = cells_for block cells.variable ns ++ variable_cells block ds
variable_cells block (tree.decls d ds) = variable_cells block ds

abbrev pub control_cell : ℕ → Spot → Cell
control_cell block spot = record { block = block; spot = spot; content = cells.procedure }

abbrev pub control_cells : ℕ → PDecls → List Cell
control_cells block tree.no_decls = []
control_cells block (tree.decls (tree.procedure h s) ds) = control_cell block h.name.spot ∷ control_cells block ds
control_cells block (tree.decls d ds) = control_cells block ds

abbrev pub made_cells : ℕ → PDecls → List Cell
made_cells block tree.no_decls = []
made_cells block (tree.decls (tree.arrays kind ns pairs) ds) = cells_for block cells.made ns ++ made_cells block ds
made_cells block (tree.decls (tree.events ns) ds) = cells_for block cells.made ns ++ made_cells block ds
made_cells block (tree.decls (tree.tasks ns) ds) = cells_for block cells.made ns ++ made_cells block ds
made_cells block (tree.decls d ds) = made_cells block ds

abbrev pub decl_cells : ℕ → PDecls → List Cell
decl_cells block tree.no_decls = []
decl_cells block (tree.decls (tree.simple kind ns) ds) = cells_for block cells.variable ns ++ decl_cells block ds
decl_cells block (tree.decls (tree.arrays kind ns pairs) ds) = cells_for block cells.made ns ++ decl_cells block ds
decl_cells block (tree.decls (tree.events ns) ds) = cells_for block cells.made ns ++ decl_cells block ds
decl_cells block (tree.decls (tree.tasks ns) ds) = cells_for block cells.made ns ++ decl_cells block ds
decl_cells block (tree.decls (tree.procedure h s) ds) = control_cell block h.name.spot ∷ decl_cells block ds
decl_cells block (tree.decls d ds) = decl_cells block ds

-- ---- the names of parameters

-- those of the heading whose name stands there
abbrev pub named_declared : PDecls → Spot → List Named
named_declared tree.no_decls spot = []
named_declared (tree.decls (tree.procedure h s) ds) spot = if same_spot h.name.spot spot then h.params else named_declared ds spot
named_declared (tree.decls d ds) spot = named_declared ds spot

abbrev pub named_around : List Block → List Spot → Spot → List Named
named_around blocks [] spot = []
named_around blocks (outer ∷ outers) spot = named_declared ((block_numbered blocks (number_at blocks outer)).decls) spot

abbrev pub named_of : List Block → Block → List Named
named_of blocks b = named_around blocks b.outer b.spot

-- there are as many as cells
declared_long : (ds : PDecls) (spot : Spot) → length (named_declared ds spot) ≡ length (parameters_declared ds spot)
declared_long tree.no_decls spot = refl
declared_long (tree.decls (tree.procedure h s) ds) spot = by (same_spot h.name.spot spot) (declared_long ds spot)
  where
    by : (b : Bool) → length (named_declared ds spot) ≡ length (parameters_declared ds spot) →
        length (if b then h.params else named_declared ds spot) ≡ length (if b then parameters_in h else parameters_declared ds spot)
    by true later = sym (length-map {B = Simple} h.params (λ (n : Named). record { name = n.name; wanted = wanted_of h n }))
    by false later = later
declared_long (tree.decls d ds) spot = declared_long ds spot

around_long : (blocks : List Block) (outer : List Spot) (spot : Spot) → length (named_around blocks outer spot) ≡ length (parameters_around blocks outer spot)
around_long blocks [] spot = refl
around_long blocks (o ∷ outer) spot = declared_long ((block_numbered blocks (number_at blocks o)).decls) spot

pub named_long : (blocks : List Block) (b : Block) → length (named_of blocks b) ≡ length (parameters_around blocks b.outer b.spot)
named_long blocks b = around_long blocks b.outer b.spot

-- the cell of a result
abbrev pub result_cell : Option Kind → ℕ → Spot → List Cell
result_cell None block spot = []
result_cell (Some kind) block spot = record { block = block; spot = spot; content = cells.result } ∷ []

-- those of the heading: the result and the parameters with these names
abbrev pub front_cells : ℕ → List Named → Block → List Cell
front_cells block ns b = result_cell b.result block b.spot ++ cells_for block cells.parameter ns

-- all that a block has
abbrev pub cells_of_block : ℕ → List Named → Block → List Cell
cells_of_block block ns b = front_cells block ns b ++ decl_cells block b.decls

-- ---- their blocks

abbrev pub IsOwn : ℕ → Cell → Type 0
IsOwn block c = c.block ≡ block

pub each_own_for : (block : ℕ) (k : Content) (ns : List Named) → AllByRecursion (IsOwn block) (cells_for block k ns)
each_own_for block k [] = tt
each_own_for block k (n ∷ ns) = (refl, each_own_for block k ns)

pub result_own : (o : Option Kind) (block : ℕ) (spot : Spot) → AllByRecursion (IsOwn block) (result_cell o block spot)
result_own None block spot = tt
result_own (Some kind) block spot = (refl, tt)

pub front_own : (block : ℕ) (ns : List Named) (b : Block) → AllByRecursion (IsOwn block) (front_cells block ns b)
front_own block ns b = each_both (IsOwn block) (result_cell b.result block b.spot) (cells_for block cells.parameter ns) (result_own b.result block b.spot) (each_own_for block cells.parameter ns)

-- the cells of this block
abbrev pub only : ℕ → List Cell → List Cell
only block cs = filter (λ (c : Cell). c.block == block) cs

pub only_own : (block : ℕ) (cs : List Cell) → AllByRecursion (IsOwn block) cs → only block cs ≡ cs
only_own block cs h =
    filter_every (λ (c : Cell). c.block == block) cs (each_of (IsOwn block) (λ (c : Cell). (c.block == block) ≡ true) cs (λ c g. eq-eqb c.block block g) h)

pub only_other : (block other : ℕ) (cs : List Cell) → (other == block) ≡ false → AllByRecursion (IsOwn other) cs → only block cs ≡ []
only_other block other cs e h =
    filter_none (λ (c : Cell). c.block == block) cs
    (each_of (IsOwn other) (λ (c : Cell). (c.block == block) ≡ false) cs (λ c g. ap (λ (n : ℕ). n == block) g ∙ e) h)

-- ---- those that are no actual's

abbrev pub plain : List Cell → List Cell
plain cs = filter (λ (c : Cell). not (content_number c.content == content_number cells.actual)) cs

-- what holds something else is among them
held_plain : (x : Content) (cs : List Cell) → (content_number cells.actual == content_number x) ≡ false → holding x (plain cs) ≡ holding x cs
held_plain x [] e = refl
held_plain x (c ∷ cs) e = by (content_number c.content == content_number cells.actual) refl (held_plain x cs e)
  where
    by : (b : Bool) → (content_number c.content == content_number cells.actual) ≡ b → holding x (plain cs) ≡ holding x cs →
        holding x (cond (not b) (c ∷ plain cs) (plain cs)) ≡ cond (content_number c.content == content_number x) (c ∷ holding x cs) (holding x cs)
    by false f later = ap (λ z. cond (content_number c.content == content_number x) (c ∷ z) z) later
    by true f later =
        let other : (content_number c.content == content_number x) ≡ false =
        ap (λ (n : ℕ). n == content_number x) (eqb-true (content_number c.content) (content_number cells.actual) f) ∙ e in
        later ∙ sym (ap (λ (t : Bool). cond t (c ∷ holding x cs) (holding x cs)) other)

-- there are as many as those and those of actuals
pub as_many : (cs : List Cell) → length cs ≡ length (plain cs) + length (holding cells.actual cs)
as_many [] = refl
as_many (c ∷ cs) = by (content_number c.content == content_number cells.actual) (as_many cs)
  where
    by : (b : Bool) → length cs ≡ length (plain cs) + length (holding cells.actual cs) →
        length (c ∷ cs) ≡ length (cond (not b) (c ∷ plain cs) (plain cs)) + length (cond b (c ∷ holding cells.actual cs) (holding cells.actual cs))
    by true later = omega (arith, later)
    by false later = omega (arith, later)

-- ---- their layout

module _ (block : ℕ) where
  -- the cells of names in front are kept, or passed over
  kept : (x : Content) (ns : List Named) (cs : List Cell) → (content_number x == content_number x) ≡ true → holding x (cells_for block x ns ++ cs) ≡ cells_for block x ns ++ holding x cs
  kept x [] cs e = refl
  kept x (n ∷ ns) cs e =
      ap (λ (b : Bool). cond b (record { block = block; spot = n.spot; content = x } ∷ holding x (cells_for block x ns ++ cs)) (holding x (cells_for block x ns ++ cs))) e
      ∙ ap (λ z. record { block = block; spot = n.spot; content = x } ∷ z) (kept x ns cs e)

  passed : (x k : Content) (ns : List Named) (cs : List Cell) → (content_number x == content_number k) ≡ false → holding k (cells_for block x ns ++ cs) ≡ holding k cs
  passed x k [] cs e = refl
  passed x k (n ∷ ns) cs e =
      ap (λ (b : Bool). cond b (record { block = block; spot = n.spot; content = x } ∷ holding k (cells_for block x ns ++ cs)) (holding k (cells_for block x ns ++ cs))) e
      ∙ passed x k ns cs e

  held : (ds : PDecls) → holding cells.variable (decl_cells block ds) ≡ variable_cells block ds
  held tree.no_decls = refl
  held (tree.decls (tree.simple kind ns) ds) = kept cells.variable ns (decl_cells block ds) refl ∙ ap (λ z. cells_for block cells.variable ns ++ z) (held ds)
  held (tree.decls (tree.arrays kind ns pairs) ds) = passed cells.made cells.variable ns (decl_cells block ds) refl ∙ held ds
  held (tree.decls (tree.events ns) ds) = passed cells.made cells.variable ns (decl_cells block ds) refl ∙ held ds
  held (tree.decls (tree.tasks ns) ds) = passed cells.made cells.variable ns (decl_cells block ds) refl ∙ held ds
  held (tree.decls (tree.procedure h s) ds) = held ds
  held (tree.decls d ds) = held ds

  controlled : (ds : PDecls) → holding cells.procedure (decl_cells block ds) ≡ control_cells block ds
  controlled tree.no_decls = refl
  controlled (tree.decls (tree.simple kind ns) ds) = passed cells.variable cells.procedure ns (decl_cells block ds) refl ∙ controlled ds
  controlled (tree.decls (tree.arrays kind ns pairs) ds) = passed cells.made cells.procedure ns (decl_cells block ds) refl ∙ controlled ds
  controlled (tree.decls (tree.events ns) ds) = passed cells.made cells.procedure ns (decl_cells block ds) refl ∙ controlled ds
  controlled (tree.decls (tree.tasks ns) ds) = passed cells.made cells.procedure ns (decl_cells block ds) refl ∙ controlled ds
  controlled (tree.decls (tree.procedure h s) ds) = ap (λ z. control_cell block h.name.spot ∷ z) (controlled ds)
  controlled (tree.decls d ds) = controlled ds

  made : (ds : PDecls) → holding cells.made (decl_cells block ds) ≡ made_cells block ds
  made tree.no_decls = refl
  made (tree.decls (tree.simple kind ns) ds) = passed cells.variable cells.made ns (decl_cells block ds) refl ∙ made ds
  made (tree.decls (tree.arrays kind ns pairs) ds) = kept cells.made ns (decl_cells block ds) refl ∙ ap (λ z. cells_for block cells.made ns ++ z) (made ds)
  made (tree.decls (tree.events ns) ds) = kept cells.made ns (decl_cells block ds) refl ∙ ap (λ z. cells_for block cells.made ns ++ z) (made ds)
  made (tree.decls (tree.tasks ns) ds) = kept cells.made ns (decl_cells block ds) refl ∙ ap (λ z. cells_for block cells.made ns ++ z) (made ds)
  made (tree.decls (tree.procedure h s) ds) = made ds
  made (tree.decls d ds) = made ds

  no_parameter : (ds : PDecls) → holding cells.parameter (decl_cells block ds) ≡ []
  no_parameter tree.no_decls = refl
  no_parameter (tree.decls (tree.simple kind ns) ds) = passed cells.variable cells.parameter ns (decl_cells block ds) refl ∙ no_parameter ds
  no_parameter (tree.decls (tree.arrays kind ns pairs) ds) = passed cells.made cells.parameter ns (decl_cells block ds) refl ∙ no_parameter ds
  no_parameter (tree.decls (tree.events ns) ds) = passed cells.made cells.parameter ns (decl_cells block ds) refl ∙ no_parameter ds
  no_parameter (tree.decls (tree.tasks ns) ds) = passed cells.made cells.parameter ns (decl_cells block ds) refl ∙ no_parameter ds
  no_parameter (tree.decls (tree.procedure h s) ds) = no_parameter ds
  no_parameter (tree.decls d ds) = no_parameter ds

  no_result : (ds : PDecls) → holding cells.result (decl_cells block ds) ≡ []
  no_result tree.no_decls = refl
  no_result (tree.decls (tree.simple kind ns) ds) = passed cells.variable cells.result ns (decl_cells block ds) refl ∙ no_result ds
  no_result (tree.decls (tree.arrays kind ns pairs) ds) = passed cells.made cells.result ns (decl_cells block ds) refl ∙ no_result ds
  no_result (tree.decls (tree.events ns) ds) = passed cells.made cells.result ns (decl_cells block ds) refl ∙ no_result ds
  no_result (tree.decls (tree.tasks ns) ds) = passed cells.made cells.result ns (decl_cells block ds) refl ∙ no_result ds
  no_result (tree.decls (tree.procedure h s) ds) = no_result ds
  no_result (tree.decls d ds) = no_result ds

  joined : (p r v c x m : List Cell) → p ++ r ++ v ++ c ++ x ++ m ≡ p ++ (r ++ (v ++ (c ++ (x ++ m))))
  joined p r v c x m =
      append_assoc (p ++ r ++ v ++ c) x m ∙ append_assoc (p ++ r ++ v) c (x ++ m) ∙ append_assoc (p ++ r) v (c ++ (x ++ m)) ∙ append_assoc p r (v ++ (c ++ (x ++ m)))

  module _ (ns : List Named) (ds : PDecls) where
    abbrev params : List Cell
    params = cells_for block cells.parameter ns

    abbrev behind : List Cell
    behind = params ++ decl_cells block ds

    -- what lies after the result, with these cells of actuals
    abbrev others : List Cell → List Cell
    others acts = variable_cells block ds ++ (control_cells block ds ++ (acts ++ made_cells block ds))

    -- those of a content
    abbrev kept_of : Content → Option Kind → Spot → List Cell
    kept_of x o spot = holding x (result_cell o block spot ++ behind)

    lies : (o : Option Kind) (spot : Spot) (acts : List Cell) →
        kept_of cells.parameter o spot ++ kept_of cells.result o spot ++ kept_of cells.variable o spot ++ kept_of cells.procedure o spot ++ acts ++ kept_of cells.made o spot
        ≡ params ++ (result_cell o block spot ++ others acts)
    lies o spot acts = by o
      where
        ps : holding cells.parameter behind ≡ params
        ps = kept cells.parameter ns (decl_cells block ds) refl ∙ ap (λ z. params ++ z) (no_parameter ds) ∙ append-nil params

        rs : holding cells.result behind ≡ []
        rs = passed cells.parameter cells.result ns (decl_cells block ds) refl ∙ no_result ds

        vs : holding cells.variable behind ≡ variable_cells block ds
        vs = passed cells.parameter cells.variable ns (decl_cells block ds) refl ∙ held ds

        cs : holding cells.procedure behind ≡ control_cells block ds
        cs = passed cells.parameter cells.procedure ns (decl_cells block ds) refl ∙ controlled ds

        ms : holding cells.made behind ≡ made_cells block ds
        ms = passed cells.parameter cells.made ns (decl_cells block ds) refl ∙ made ds

        by : (o : Option Kind) →
            kept_of cells.parameter o spot ++ kept_of cells.result o spot ++ kept_of cells.variable o spot ++ kept_of cells.procedure o spot ++ acts ++ kept_of cells.made o spot
            ≡ params ++ (result_cell o block spot ++ others acts)
        by None = rw (ps, rs, vs, cs, ms) (joined params [] (variable_cells block ds) (control_cells block ds) acts (made_cells block ds))
        by (Some kind) =
            rw (ps, rs, vs, cs, ms) (joined params (record { block = block; spot = spot; content = cells.result } ∷ []) (variable_cells block ds) (control_cells block ds) acts (made_cells block ds))

  -- first the parameters, then the result, then the variables, then the procedures, then the actuals, then the arrays
  pub laid_out : (ns : List Named) (b : Block) (cs : List Cell) → plain cs ≡ cells_of_block block ns b →
      layout cs ≡ cells_for block cells.parameter ns ++ (result_cell b.result block b.spot ++ (variable_cells block b.decls ++ (control_cells block b.decls ++ (holding cells.actual cs ++ made_cells block b.decls))))
  laid_out ns b cs e =
      let whole = e ∙ append_assoc (result_cell b.result block b.spot) (cells_for block cells.parameter ns) (decl_cells block b.decls) in
      let same : (x : Content) → (content_number cells.actual == content_number x) ≡ false → holding x cs ≡ kept_of ns b.decls x b.result b.spot =
      λ x f. sym (held_plain x cs f) ∙ ap (holding x) whole in
      let acts = holding cells.actual cs in
      ap (λ z. z ++ holding cells.result cs ++ holding cells.variable cs ++ holding cells.procedure cs ++ acts ++ holding cells.made cs) (same cells.parameter refl)
      ∙ ap (λ z. kept_of ns b.decls cells.parameter b.result b.spot ++ z ++ holding cells.variable cs ++ holding cells.procedure cs ++ acts ++ holding cells.made cs) (same cells.result refl)
      ∙ ap (λ z. kept_of ns b.decls cells.parameter b.result b.spot ++ kept_of ns b.decls cells.result b.result b.spot ++ z ++ holding cells.procedure cs ++ acts ++ holding cells.made cs)
      (same cells.variable refl)
      ∙ ap
      (λ z. kept_of ns b.decls cells.parameter b.result b.spot ++ kept_of ns b.decls cells.result b.result b.spot ++ kept_of ns b.decls cells.variable b.result b.spot ++ z ++ acts ++ holding cells.made cs)
      (same cells.procedure refl)
      ∙ ap
      (λ z.
      kept_of ns b.decls cells.parameter b.result b.spot ++ kept_of ns b.decls cells.result b.result b.spot ++ kept_of ns b.decls cells.variable b.result b.spot
      ++ kept_of ns b.decls cells.procedure b.result b.spot ++ acts ++ z)
      (same cells.made refl)
      ∙ lies ns b.decls b.result b.spot acts
