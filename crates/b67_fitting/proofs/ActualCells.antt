-- The cells of the actuals in a text, in its order.
use Rattle.std.proofs.Common.{◌≡◌, ℕ, ◌==◌, Bool, true, false, cond, not, List, [], ◌∷◌, ◌++◌, Option, refl, ap, ◌∙◌, append-nil, if◌then◌else◌}
use Rattle.std.proofs.lemmas.List.Elements.{filter-append}
use Rattle.std.specs.List.{AllByRecursion}
use Rattle.algol_tree.specs.declared.tree.Named.{Named}
use Rattle.algol_tree.specs.Blocks.{Block}
use Rattle.algol_tree.specs.Cells as cells
use Rattle.algol_tree.specs.Cells.{Cell, Content, cells_for, content_number, holding, first_spot, has_cell}
use Rattle.algol_tree.specs.Classes.{Formal}
use Rattle.algol_tree.specs.Plain as tree
use Rattle.algol_tree.specs.Plain.{PExpr, PExprs, PPair, PStmt, PStmts, PDecls}
use Rattle.algol_tree.specs.Sites.{first_formal, other_formals}
use Rattle.algol_tree.specs.Sorts.{Declared}
use Rattle.algol_tree.specs.Surroundings.{Surroundings, formals_at, knowing}
use Rattle.b67_list.proofs.Lists.{each_both}
use Rattle.b67_fitting.proofs.Frames.{plain, control_cell, decl_cells}
use Rattle.b67_fitting.proofs.Lists.{each_of, filter_none, filter_every}

abbrev pub actual_cell : ℕ → PExpr → Cell
actual_cell block e = record { block = block; spot = first_spot e; content = cells.actual }

module _ (a : Surroundings) where
  -- of an actual itself
  abbrev pub cell_given : PExpr → Option Formal → List Cell
  cell_given e f = if has_cell e f a then actual_cell a.block e ∷ [] else []

  abbrev mutual
    pub cells_in : PExpr → List Cell
    cells_in (tree.variable (tree.subscripted n es)) = cells_among es
    cells_in (tree.call (tree.called n es)) = cells_given es (formals_at a n)
    cells_in (tree.paren e spot) = cells_in e
    cells_in (tree.plus e spot) = cells_in e
    cells_in (tree.neg e spot) = cells_in e
    cells_in (tree.not e spot) = cells_in e
    cells_in (tree.two op x y) = cells_in x ++ cells_in y
    cells_in (tree.if c x y spot) = cells_in c ++ cells_in x ++ cells_in y
    cells_in _ = []

    -- in subscripts, and in items
    pub cells_among : PExprs → List Cell
    cells_among tree.none = []
    cells_among (tree.more e es) = cells_in e ++ cells_among es

    -- of the actuals of a call, and in them
    pub cells_given : PExprs → List Formal → List Cell
    cells_given tree.none fs = []
    cells_given (tree.more e es) fs = cell_given e (first_formal fs) ++ cells_in e ++ cells_given es (other_formals fs)

  abbrev pub cells_in_pairs : List PPair → List Cell
  cells_in_pairs [] = []
  cells_in_pairs (p ∷ pairs) = cells_in p.high ++ cells_in_pairs pairs

  -- in the text of a block; what stands in an inner block is that block's
  abbrev mutual
    pub cells_in_stmt : PStmt → List Cell
    cells_in_stmt (tree.label n s) = cells_in_stmt s
    cells_in_stmt (tree.assign (tree.subscripted n es) e) = cells_among es ++ cells_in e
    cells_in_stmt (tree.call_of (tree.called n es)) = cells_given es (formals_at a n)
    cells_in_stmt (tree.block (tree.body spot tree.no_decls ss)) = cells_in_stmts ss
    cells_in_stmt (tree.if_then c x) = cells_in c ++ cells_in_stmt x
    cells_in_stmt (tree.if_else c x y) = cells_in c ++ cells_in_stmt x ++ cells_in_stmt y
    cells_in_stmt (tree.while c b) = cells_in c ++ cells_in_stmt b
    cells_in_stmt (tree.until b c) = cells_in_stmt b ++ cells_in c
    cells_in_stmt (tree.for v x s l b) = cells_in x ++ cells_in s ++ cells_in l ++ cells_in_stmt b
    cells_in_stmt (tree.thru e b) = cells_in e ++ cells_in_stmt b
    cells_in_stmt (tree.case e ss) = cells_in e ++ cells_in_stmts ss
    cells_in_stmt (tree.process (tree.called n es) task) = cells_given es (formals_at a n)
    cells_in_stmt (tree.write n spot phrases es) = cells_among es
    cells_in_stmt _ = []

    pub cells_in_stmts : PStmts → List Cell
    cells_in_stmts tree.no_stmts = []
    cells_in_stmts (tree.stmts s ss) = cells_in_stmt s ++ cells_in_stmts ss

-- all cells of declarations, those of the actuals in bounds among them; and these only
module _ (blocks : List Block) where
  abbrev pub cells_in_decls : Surroundings → List Declared → PDecls → List Cell
  cells_in_decls a first tree.no_decls = []
  cells_in_decls a first (tree.decls (tree.simple kind ns) ds) = cells_for a.block cells.variable ns ++ cells_in_decls (knowing blocks (tree.simple kind ns) ds a) first ds
  cells_in_decls a first (tree.decls (tree.arrays kind ns pairs) ds) =
      (cells_for a.block cells.made ns ++ cells_in_pairs (record a { known = first }) pairs) ++ cells_in_decls (knowing blocks (tree.arrays kind ns pairs) ds a) first ds
  cells_in_decls a first (tree.decls (tree.procedure h s) ds) = control_cell a.block h.name.spot ∷ cells_in_decls (knowing blocks (tree.procedure h s) ds a) first ds
  cells_in_decls a first (tree.decls (tree.events ns) ds) = cells_for a.block cells.made ns ++ cells_in_decls (knowing blocks (tree.events ns) ds a) first ds
  cells_in_decls a first (tree.decls (tree.tasks ns) ds) = cells_for a.block cells.made ns ++ cells_in_decls (knowing blocks (tree.tasks ns) ds a) first ds
  cells_in_decls a first (tree.decls d ds) = cells_in_decls (knowing blocks d ds a) first ds

  -- the bounds are seen from the begin of the block
  abbrev pub cells_in_bounds : Surroundings → PDecls → List Cell
  cells_in_bounds begin tree.no_decls = []
  cells_in_bounds begin (tree.decls (tree.arrays kind ns pairs) ds) = cells_in_pairs begin pairs ++ cells_in_bounds begin ds
  cells_in_bounds begin (tree.decls d ds) = cells_in_bounds begin ds

-- ---- they are of actuals

abbrev pub IsOfActual : Cell → Type 0
IsOfActual c = c.content ≡ cells.actual

abbrev pub AreOfActuals : List Cell → Type 0
AreOfActuals cs = AllByRecursion IsOfActual cs

both : (xs ys : List Cell) → AreOfActuals xs → AreOfActuals ys → AreOfActuals (xs ++ ys)
both xs ys g h = each_both IsOfActual xs ys g h

module _ (a : Surroundings) where
  of_given : (b : Bool) (e : PExpr) → AreOfActuals (if b then actual_cell a.block e ∷ [] else [])
  of_given true e = (refl, tt)
  of_given false e = tt

  mutual
    of_expr : (e : PExpr) → AreOfActuals (cells_in a e)
    of_expr (tree.variable (tree.subscripted n es)) = of_list es
    of_expr (tree.call (tree.called n es)) = of_actuals es (formals_at a n)
    of_expr (tree.paren e spot) = of_expr e
    of_expr (tree.plus e spot) = of_expr e
    of_expr (tree.neg e spot) = of_expr e
    of_expr (tree.not e spot) = of_expr e
    of_expr (tree.two op x y) = both (cells_in a x) (cells_in a y) (of_expr x) (of_expr y)
    of_expr (tree.if c x y spot) = both (cells_in a c ++ cells_in a x) (cells_in a y) (both (cells_in a c) (cells_in a x) (of_expr c) (of_expr x)) (of_expr y)
    of_expr _ = tt

    of_list : (es : PExprs) → AreOfActuals (cells_among a es)
    of_list tree.none = tt
    of_list (tree.more e es) = both (cells_in a e) (cells_among a es) (of_expr e) (of_list es)

    of_actuals : (es : PExprs) (fs : List Formal) → AreOfActuals (cells_given a es fs)
    of_actuals tree.none fs = tt
    of_actuals (tree.more e es) fs =
        both (cell_given a e (first_formal fs) ++ cells_in a e) (cells_given a es (other_formals fs))
        (both (cell_given a e (first_formal fs)) (cells_in a e) (of_given (has_cell e (first_formal fs) a) e) (of_expr e)) (of_actuals es (other_formals fs))

  of_pairs : (pairs : List PPair) → AreOfActuals (cells_in_pairs a pairs)
  of_pairs [] = tt
  of_pairs (p ∷ pairs) = both (cells_in a p.high) (cells_in_pairs a pairs) (of_expr p.high) (of_pairs pairs)

  mutual
    of_stmt : (s : PStmt) → AreOfActuals (cells_in_stmt a s)
    of_stmt (tree.label n s) = of_stmt s
    of_stmt (tree.assign (tree.subscripted n es) e) = both (cells_among a es) (cells_in a e) (of_list es) (of_expr e)
    of_stmt (tree.call_of (tree.called n es)) = of_actuals es (formals_at a n)
    of_stmt (tree.block (tree.body spot tree.no_decls ss)) = of_stmts ss
    of_stmt (tree.block (tree.body spot (tree.decls d ds) ss)) = tt
    of_stmt (tree.if_then c x) = both (cells_in a c) (cells_in_stmt a x) (of_expr c) (of_stmt x)
    of_stmt (tree.if_else c x y) =
        both (cells_in a c ++ cells_in_stmt a x) (cells_in_stmt a y) (both (cells_in a c) (cells_in_stmt a x) (of_expr c) (of_stmt x)) (of_stmt y)
    of_stmt (tree.while c b) = both (cells_in a c) (cells_in_stmt a b) (of_expr c) (of_stmt b)
    of_stmt (tree.until b c) = both (cells_in_stmt a b) (cells_in a c) (of_stmt b) (of_expr c)
    of_stmt (tree.for v x s l b) =
        both (cells_in a x ++ cells_in a s ++ cells_in a l) (cells_in_stmt a b)
        (both (cells_in a x ++ cells_in a s) (cells_in a l) (both (cells_in a x) (cells_in a s) (of_expr x) (of_expr s)) (of_expr l)) (of_stmt b)
    of_stmt (tree.thru e b) = both (cells_in a e) (cells_in_stmt a b) (of_expr e) (of_stmt b)
    of_stmt (tree.case e ss) = both (cells_in a e) (cells_in_stmts a ss) (of_expr e) (of_stmts ss)
    of_stmt (tree.process (tree.called n es) task) = of_actuals es (formals_at a n)
    of_stmt (tree.write n spot phrases es) = of_list es
    of_stmt _ = tt

    of_stmts : (ss : PStmts) → AreOfActuals (cells_in_stmts a ss)
    of_stmts tree.no_stmts = tt
    of_stmts (tree.stmts s ss) = both (cells_in_stmt a s) (cells_in_stmts a ss) (of_stmt s) (of_stmts ss)

is_same : (c : Cell) → IsOfActual c → (content_number c.content == content_number cells.actual) ≡ true
is_same c e = ap (λ (k : Content). content_number k == content_number cells.actual) e

none_plain : (cs : List Cell) → AreOfActuals cs → plain cs ≡ []
none_plain cs h =
    filter_none (λ (c : Cell). not (content_number c.content == content_number cells.actual)) cs
    (each_of IsOfActual (λ (c : Cell). not (content_number c.content == content_number cells.actual) ≡ false) cs (λ c e. ap not (is_same c e)) h)

all_held : (cs : List Cell) → AreOfActuals cs → holding cells.actual cs ≡ cs
all_held cs h =
    filter_every (λ (c : Cell). content_number c.content == content_number cells.actual) cs
    (each_of IsOfActual (λ (c : Cell). (content_number c.content == content_number cells.actual) ≡ true) cs is_same h)

-- ---- apart from the others

plain_both : (xs ys zs vs : List Cell) → plain xs ≡ zs → plain ys ≡ vs → plain (xs ++ ys) ≡ zs ++ vs
plain_both xs ys zs vs g h =
    filter-append (λ (c : Cell). not (content_number c.content == content_number cells.actual)) xs ys ∙ ap (λ z. z ++ plain ys) g ∙ ap (λ z. zs ++ z) h

held_both : (xs ys zs vs : List Cell) → holding cells.actual xs ≡ zs → holding cells.actual ys ≡ vs → holding cells.actual (xs ++ ys) ≡ zs ++ vs
held_both xs ys zs vs g h =
    filter-append (λ (c : Cell). content_number c.content == content_number cells.actual) xs ys ∙ ap (λ z. z ++ holding cells.actual ys) g ∙ ap (λ z. zs ++ z) h

-- the cells of names
names_plain : (block : ℕ) (k : Content) (ns : List Named) → (content_number k == content_number cells.actual) ≡ false → plain (cells_for block k ns) ≡ cells_for block k ns
names_plain block k [] e = refl
names_plain block k (n ∷ ns) e =
    let c : Cell = record { block = block; spot = n.spot; content = k } in
    ap (λ (b : Bool). cond (not b) (c ∷ plain (cells_for block k ns)) (plain (cells_for block k ns))) e ∙ ap (λ z. c ∷ z) (names_plain block k ns e)

names_held : (block : ℕ) (k : Content) (ns : List Named) → (content_number k == content_number cells.actual) ≡ false → holding cells.actual (cells_for block k ns) ≡ []
names_held block k [] e = refl
names_held block k (n ∷ ns) e =
    let c : Cell = record { block = block; spot = n.spot; content = k } in
    ap (λ (b : Bool). cond b (c ∷ holding cells.actual (cells_for block k ns)) (holding cells.actual (cells_for block k ns))) e ∙ names_held block k ns e

module _ (blocks : List Block) where
  decls_plain : (a : Surroundings) (first : List Declared) (ds : PDecls) → plain (cells_in_decls blocks a first ds) ≡ decl_cells a.block ds
  decls_plain a first tree.no_decls = refl
  decls_plain a first (tree.decls (tree.simple kind ns) ds) =
      let after = knowing blocks (tree.simple kind ns) ds a in
      plain_both (cells_for a.block cells.variable ns) (cells_in_decls blocks after first ds) (cells_for a.block cells.variable ns) (decl_cells a.block ds)
      (names_plain a.block cells.variable ns refl) (decls_plain after first ds)
  decls_plain a first (tree.decls (tree.arrays kind ns pairs) ds) =
      let after = knowing blocks (tree.arrays kind ns pairs) ds a in
      let made = cells_for a.block cells.made ns in
      let bounds = cells_in_pairs (record a { known = first }) pairs in
      plain_both (made ++ bounds) (cells_in_decls blocks after first ds) made (decl_cells a.block ds)
      (plain_both made bounds made [] (names_plain a.block cells.made ns refl) (none_plain bounds (of_pairs (record a { known = first }) pairs)) ∙ append-nil made) (decls_plain after first ds)
  decls_plain a first (tree.decls (tree.procedure h s) ds) =
      ap (λ z. control_cell a.block h.name.spot ∷ z) (decls_plain (knowing blocks (tree.procedure h s) ds a) first ds)
  decls_plain a first (tree.decls (tree.files ns) ds) = decls_plain (knowing blocks (tree.files ns) ds a) first ds
  decls_plain a first (tree.decls (tree.events ns) ds) =
      let after = knowing blocks (tree.events ns) ds a in
      plain_both (cells_for a.block cells.made ns) (cells_in_decls blocks after first ds) (cells_for a.block cells.made ns) (decl_cells a.block ds)
      (names_plain a.block cells.made ns refl) (decls_plain after first ds)
  decls_plain a first (tree.decls (tree.tasks ns) ds) =
      let after = knowing blocks (tree.tasks ns) ds a in
      plain_both (cells_for a.block cells.made ns) (cells_in_decls blocks after first ds) (cells_for a.block cells.made ns) (decl_cells a.block ds)
      (names_plain a.block cells.made ns refl) (decls_plain after first ds)
  decls_plain a first (tree.decls (tree.labels ns) ds) = decls_plain (knowing blocks (tree.labels ns) ds a) first ds
  decls_plain a first (tree.decls (tree.forward h) ds) = decls_plain (knowing blocks (tree.forward h) ds a) first ds

  decls_held : (a : Surroundings) (first : List Declared) (ds : PDecls) → holding cells.actual (cells_in_decls blocks a first ds) ≡ cells_in_bounds blocks (record a { known = first }) ds
  decls_held a first tree.no_decls = refl
  decls_held a first (tree.decls (tree.simple kind ns) ds) =
      let after = knowing blocks (tree.simple kind ns) ds a in
      held_both (cells_for a.block cells.variable ns) (cells_in_decls blocks after first ds) [] (cells_in_bounds blocks (record a { known = first }) ds)
      (names_held a.block cells.variable ns refl) (decls_held after first ds)
  decls_held a first (tree.decls (tree.arrays kind ns pairs) ds) =
      let after = knowing blocks (tree.arrays kind ns pairs) ds a in
      let begin : Surroundings = record a { known = first } in
      let made = cells_for a.block cells.made ns in
      let bounds = cells_in_pairs begin pairs in
      held_both (made ++ bounds) (cells_in_decls blocks after first ds) bounds (cells_in_bounds blocks begin ds)
      (held_both made bounds [] bounds (names_held a.block cells.made ns refl) (all_held bounds (of_pairs begin pairs))) (decls_held after first ds)
  decls_held a first (tree.decls (tree.procedure h s) ds) = decls_held (knowing blocks (tree.procedure h s) ds a) first ds
  decls_held a first (tree.decls (tree.files ns) ds) = decls_held (knowing blocks (tree.files ns) ds a) first ds
  decls_held a first (tree.decls (tree.events ns) ds) =
      let after = knowing blocks (tree.events ns) ds a in
      held_both (cells_for a.block cells.made ns) (cells_in_decls blocks after first ds) [] (cells_in_bounds blocks (record a { known = first }) ds)
      (names_held a.block cells.made ns refl) (decls_held after first ds)
  decls_held a first (tree.decls (tree.tasks ns) ds) =
      let after = knowing blocks (tree.tasks ns) ds a in
      held_both (cells_for a.block cells.made ns) (cells_in_decls blocks after first ds) [] (cells_in_bounds blocks (record a { known = first }) ds)
      (names_held a.block cells.made ns refl) (decls_held after first ds)
  decls_held a first (tree.decls (tree.labels ns) ds) = decls_held (knowing blocks (tree.labels ns) ds a) first ds
  decls_held a first (tree.decls (tree.forward h) ds) = decls_held (knowing blocks (tree.forward h) ds a) first ds

  -- the cells of a text: its declarations' and those of its actuals
  pub text_plain : (a : Surroundings) (first : List Declared) (ds : PDecls) (w : Surroundings) (ss : PStmts) → plain (cells_in_decls blocks a first ds ++ cells_in_stmts w ss) ≡ decl_cells a.block ds
  text_plain a first ds w ss =
      plain_both (cells_in_decls blocks a first ds) (cells_in_stmts w ss) (decl_cells a.block ds) [] (decls_plain a first ds) (none_plain (cells_in_stmts w ss) (of_stmts w ss))
      ∙ append-nil (decl_cells a.block ds)

  pub text_held : (a : Surroundings) (first : List Declared) (ds : PDecls) (w : Surroundings) (ss : PStmts) →
      holding cells.actual (cells_in_decls blocks a first ds ++ cells_in_stmts w ss) ≡ cells_in_bounds blocks (record a { known = first }) ds ++ cells_in_stmts w ss
  text_held a first ds w ss =
      held_both (cells_in_decls blocks a first ds) (cells_in_stmts w ss) (cells_in_bounds blocks (record a { known = first }) ds) (cells_in_stmts w ss) (decls_held a first ds)
      (all_held (cells_in_stmts w ss) (of_stmts w ss))
