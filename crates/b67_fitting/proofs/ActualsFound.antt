-- The actuals of a block that have cells are those that its text gives by name, in its order.
use Rattle.std.proofs.Common.{◌≡◌, inl, inr, ℕ, ◌&&◌, not, Bool, true, false, is_some, List, [], ◌∷◌, ◌++◌, map, Some, refl, sym, ap, ◌∙◌, subst, if◌then◌else◌}
use Rattle.std.proofs.lemmas.List.{map-append}
use Rattle.std.specs.List.{AllByRecursion}
use Rattle.algol_tree.specs.declared.tree.Heading.{Heading}
use Rattle.algol_tree.specs.declared.tree.Kind.{Kind}
use Rattle.algol_tree.specs.declared.tree.Kind.TheVariants as types
use Rattle.algol_tree.specs.declared.tree.Named.{Named}
use Rattle.algol_tree.specs.Blocks.{Block, of_statement}
use Rattle.algol_tree.specs.Cells.{Cell, is_simple_name}
use Rattle.algol_tree.specs.Classes as class
use Rattle.algol_tree.specs.Classes.{Class, is_simple}
use Rattle.algol_tree.specs.Plain as tree
use Rattle.algol_tree.specs.Plain.{name_alone, PExpr, PExprs, PPair, PStmt, PStmts, PDecls}
use Rattle.algol_tree.specs.Scopes.{Scopes, use_of}
use Rattle.algol_tree.specs.Sites.{Part, Site, here, sites, actual_part, is_of_value, inside_expr, inside_list, inside_actuals, here_stmt, inside_stmt, inside_decl, sites_in_pairs, sites_in_stmts, sites_in_decls}
use Rattle.algol_tree.specs.Sorts.{Declared, procedure_in, is_named_in, formals_of}
use Rattle.algol_tree.specs.Surroundings.{Surroundings, class_of, formals_of_class, formals_at, knowing}
use Rattle.algol_tree.specs.Types.{taken_by}
use Rattle.b67_templates.specs.Cells.{Wanted, by_name, Actual, own_actual, wants_of, actuals_in, actuals_among, actuals_given, actuals_in_pairs, actuals_in_decls, actuals_in_stmt, actuals_in_stmts}
use Rattle.b67_list.proofs.Lists.{each_back, each_front}
use Rattle.b67_fitting.specs.Typing.{TypedStmt, TypedStmts, TypedDecls, IsOf, TypedExpr, TypedActual, TypedActuals, TypedLine, TypedPairs}
use Rattle.b67_fitting.proofs.ActualCells.{actual_cell, cell_given, cells_in, cells_among, cells_given, cells_in_pairs, cells_in_stmt, cells_in_stmts, cells_in_bounds}
use Rattle.b67_fitting.proofs.Given.{wants_in}
use Rattle.b67_fitting.proofs.Listed.{reads_in}
use Rattle.b67_fitting.proofs.Specified.{IsSpecified, as_value, as_name, as_array, as_event, AreSpecified, specified}
use Rattle.b67_fitting.proofs.Typed.{as_formal, actual_part_is}
use Rattle.b67_fitting.proofs.Wanting.{wanted_of, wanted_value, wanted_name, wanted_array, wanted_event}

module _ (blocks : List Block) (sc : Scopes) where
  -- what a procedure of that name wants, and whether the name is that of a procedure
  pub record IsTelling (a : Surroundings) (n : Named) : Type 0 where
    pub called : (h : Heading) → class_of a n ≡ class.procedure h → wants_of sc n ≡ wants_in h h.params
    pub procedure : (h : Heading) → class_of a n ≡ class.procedure h → is_some (procedure_in ((use_of sc n).sort)) ≡ true
    pub simple : (k : Kind) → IsOf a k n → is_some (procedure_in ((use_of sc n).sort)) ≡ false

  abbrev pub SiteTells : Site → Type 0
  SiteTells x = AllByRecursion (IsTelling x.around) (reads_in x.part)

  abbrev pub cells_for : ℕ → List Actual → List Cell
  cells_for block xs = map (λ (x : Actual). actual_cell block x.expr) xs

  pub joined : (block : ℕ) (cs ds : List Cell) (xs ys : List Actual) → cs ≡ cells_for block xs → ds ≡ cells_for block ys → cs ++ ds ≡ cells_for block (xs ++ ys)
  joined block cs ds xs ys g h =
      ap (λ z. z ++ ds) g ∙ ap (λ z. cells_for block xs ++ z) h ∙ sym (map-append (λ (x : Actual). actual_cell block x.expr) xs ys)

  module _ (a : Surroundings) where
    abbrev Are : List Cell → List Actual → Type 0
    Are cs xs = cs ≡ cells_for a.block xs

    abbrev Tell : List Site → Type 0
    Tell xs = AllByRecursion SiteTells xs

    abbrev cell_if : Bool → PExpr → List Cell
    cell_if named e = if named && not (is_simple_name (name_alone e) a) then actual_cell a.block e ∷ [] else []

    -- what is given by name has a cell, unless it is a variable or a parameter by name
    own_by : (k m : Kind) (e : PExpr) → TypedExpr a m e → SiteTells (here e a) → cell_if true e ≡ cells_for a.block (own_actual sc (by_name k) e)
    own_by k m (tree.variable (tree.subscripted n tree.none)) (inl o) g =
        let e = tree.variable (tree.subscripted n tree.none) in
        ap (λ (c : Class). if true && not (is_simple c) then actual_cell a.block e ∷ [] else []) o
        ∙ sym (ap (λ (b : Bool). cells_for a.block (if b then record { expr = e; kind = k } ∷ [] else [])) (g.0.simple m o))
    own_by k m (tree.variable (tree.subscripted n tree.none)) (inr f) g =
        let e = tree.variable (tree.subscripted n tree.none) in
        ap (λ (c : Class). if true && not (is_simple c) then actual_cell a.block e ∷ [] else []) f.1
        ∙ sym (ap (λ (b : Bool). cells_for a.block (if b then record { expr = e; kind = k } ∷ [] else [])) (g.0.procedure f.0 f.1))
    own_by k m (tree.variable (tree.subscripted n (tree.more e es))) t g = refl
    own_by k m (tree.number z spot) t g = refl
    own_by k m (tree.truth z spot) t g = refl
    own_by k m (tree.call c) t g = refl
    own_by k m (tree.tested x es spot) t g = refl
    own_by k m (tree.paren e spot) t g = refl
    own_by k m (tree.plus e spot) t g = refl
    own_by k m (tree.neg e spot) t g = refl
    own_by k m (tree.not e spot) t g = refl
    own_by k m (tree.two op x y) t g = refl
    own_by k m (tree.if c x y spot) t g = refl

    abbrev AreOwn : Heading → Named → PExpr → Type 0
    AreOwn h n e = Are (cell_given a e (Some (as_formal h n))) (own_actual sc (wanted_of h n) e)

    one_given : (h : Heading) (n : Named) → IsSpecified h n → (e : PExpr) → TypedActual a (as_formal h n) e → SiteTells (record { part = actual_part e (Some (as_formal h n)); around = a }) →
        AreOwn h n e
    one_given h n (as_value k c v s) e t g =
        ap (λ (b : Bool). cell_if b e) (ap (λ (z : Class). is_simple z && not (is_named_in h.values n.name)) c ∙ ap not v)
        ∙ sym (ap (λ (w : Wanted). cells_for a.block (own_actual sc w e)) (wanted_value h n k c v))
    one_given h n (as_array shape c d s) e t g =
        ap (λ (b : Bool). cell_if b e) (ap (λ (z : Class). is_simple z && not (is_named_in h.values n.name)) c)
        ∙ sym (ap (λ (w : Wanted). cells_for a.block (own_actual sc w e)) (wanted_array h n shape c d))
    one_given h n (as_event c d s) e t g =
        ap (λ (b : Bool). cell_if b e) (ap (λ (z : Class). is_simple z && not (is_named_in h.values n.name)) c)
        ∙ sym (ap (λ (w : Wanted). cells_for a.block (own_actual sc w e)) (wanted_event h n c))
    one_given h n (as_name k c v s) e (inl t) g =
        let own : SiteTells (here e a) = subst (λ (p : Part). SiteTells (record { part = p; around = a })) (actual_part_is e (Some (as_formal h n)) (ap is_of_value c)) g in
        ap (λ (b : Bool). cell_if b e) (ap (λ (z : Class). is_simple z && not (is_named_in h.values n.name)) c ∙ ap not v) ∙ own_by k t.0 e t.2 own
        ∙ sym (ap (λ (w : Wanted). cells_for a.block (own_actual sc w e)) (wanted_name h n k c v))
    one_given h n (as_name k c v s) (tree.variable (tree.subscripted m tree.none)) (inr (inl t)) g = absurd (let clash : class.simple k ≡ class.array t.0 t.1 = sym c ∙ t.2 in cc)
    one_given h n (as_name k c v s) (tree.variable (tree.subscripted m tree.none)) (inr (inr t)) g = absurd (let clash : class.simple k ≡ class.event = sym c ∙ t.0 in cc)
    one_given h n (as_name k c v s) e (inr (inl t)) g = absurd t
    one_given h n (as_name k c v s) e (inr (inr t)) g = absurd t

    inside_call : (n : Named) (es : PExprs) (h : Heading) → class_of a n ≡ class.procedure h → Tell (inside_actuals es (formals_at a n) a) → Tell (inside_actuals es (formals_of h) a)
    inside_call n es h e g = subst (λ (c : Class). Tell (inside_actuals es (formals_of_class c) a)) e g

    acts_call : (n : Named) (es : PExprs) (h : Heading) → class_of a n ≡ class.procedure h → Are (cells_given a es (formals_of h)) (actuals_given sc (wants_in h h.params) es) → IsTelling a n →
        Are (cells_given a es (formals_at a n)) (actuals_given sc (wants_of sc n) es)
    acts_call n es h e acts own =
        ap (λ (c : Class). cells_given a es (formals_of_class c)) e ∙ acts ∙ sym (ap (λ (ws : List Wanted). cells_for a.block (actuals_given sc ws es)) (own.called h e))

    acts_actual : (h : Heading) (n : Named) (e : PExpr) → TypedActual a (as_formal h n) e → SiteTells (record { part = actual_part e (Some (as_formal h n)); around = a }) →
        ((k : Kind) → TypedExpr a k e → SiteTells (here e a) → Are (cells_in a e) (actuals_in sc e)) → Are (cells_in a e) (actuals_in sc e)
    acts_actual h n e (inl t) own valued =
        valued t.0 t.2 (subst (λ (p : Part). SiteTells (record { part = p; around = a })) (actual_part_is e (Some (as_formal h n)) (ap is_of_value t.1)) own)
    acts_actual h n (tree.variable (tree.subscripted m tree.none)) (inr t) own valued = refl
    acts_actual h n e (inr (inl t)) own valued = absurd t
    acts_actual h n e (inr (inr t)) own valued = absurd t

    mutual
      acts_expr : (m : Kind) (e : PExpr) → TypedExpr a m e → Tell (sites e a) → Are (cells_in a e) (actuals_in sc e)
      acts_expr m (tree.number z spot) t g = refl
      acts_expr m (tree.truth b spot) t g = refl
      acts_expr m (tree.variable (tree.subscripted n tree.none)) t g = refl
      acts_expr m (tree.variable (tree.subscripted n (tree.more e es))) t g = acts_line (tree.more e es) t.1 g.1
      acts_expr m (tree.call (tree.called n es)) t g = acts_call n es t.0 t.1 (acts_given t.0 t.0.params (specified t.0 t.2) es t.4 (inside_call n es t.0 t.1 g.1)) g.0.0
      acts_expr m (tree.tested x es spot) t g = refl
      acts_expr m (tree.paren e spot) t g = acts_expr m e t g.1
      acts_expr m (tree.plus e spot) t g = acts_expr types.Number e t.1 g.1
      acts_expr m (tree.neg e spot) t g = acts_expr types.Number e t.1 g.1
      acts_expr m (tree.not e spot) t g = acts_expr types.Truth e t.1 g.1
      acts_expr m (tree.two op x y) t g =
          joined a.block (cells_in a x) (cells_in a y) (actuals_in sc x) (actuals_in sc y) (acts_expr (taken_by op) x t.1 (each_front SiteTells (sites x a) (sites y a) g.1))
          (acts_expr (taken_by op) y t.2 (each_back SiteTells (sites x a) (sites y a) g.1))
      acts_expr m (tree.if c x y spot) t g =
          let front = each_front SiteTells (sites c a ++ sites x a) (sites y a) g.1 in
          joined a.block (cells_in a c ++ cells_in a x) (cells_in a y) (actuals_in sc c ++ actuals_in sc x) (actuals_in sc y)
          (joined a.block (cells_in a c) (cells_in a x) (actuals_in sc c) (actuals_in sc x) (acts_expr types.Truth c t.0 (each_front SiteTells (sites c a) (sites x a) front))
          (acts_expr m x t.1 (each_back SiteTells (sites c a) (sites x a) front)))
          (acts_expr m y t.2 (each_back SiteTells (sites c a ++ sites x a) (sites y a) g.1))

      acts_given : (h : Heading) (ns : List Named) → AreSpecified h ns → (es : PExprs) → TypedActuals a (map (as_formal h) ns) es → Tell (inside_actuals es (map (as_formal h) ns) a) →
          Are (cells_given a es (map (as_formal h) ns)) (actuals_given sc (wants_in h ns) es)
      acts_given h [] v tree.none t g = refl
      acts_given h [] v (tree.more e es) t g = absurd t
      acts_given h (n ∷ ns) v tree.none t g = absurd t
      acts_given h (n ∷ ns) v (tree.more e es) t g =
          let rest = inside_actuals es (map (as_formal h) ns) a in
          joined a.block (cell_given a e (Some (as_formal h n)) ++ cells_in a e) (cells_given a es (map (as_formal h) ns)) (own_actual sc (wanted_of h n) e ++ actuals_in sc e) (actuals_given sc (wants_in h ns) es)
          (joined a.block (cell_given a e (Some (as_formal h n))) (cells_in a e) (own_actual sc (wanted_of h n) e) (actuals_in sc e) (one_given h n v.0 e t.0 g.1.0)
          (acts_actual h n e t.0 g.1.0 (λ k typed own. acts_expr k e typed (own, each_front SiteTells (inside_expr e a) rest g.1.1))))
          (acts_given h ns v.1 es t.1 (each_back SiteTells (inside_expr e a) rest g.1.1))

      acts_line : (es : PExprs) → TypedLine a es → Tell (inside_list es a) → Are (cells_among a es) (actuals_among sc es)
      acts_line tree.none t g = refl
      acts_line (tree.more e es) t g =
          joined a.block (cells_in a e) (cells_among a es) (actuals_in sc e) (actuals_among sc es) (acts_expr types.Number e t.0 (each_front SiteTells (sites e a) (inside_list es a) g))
          (acts_line es t.1 (each_back SiteTells (sites e a) (inside_list es a) g))

    acts_pairs : (ps : List PPair) → TypedPairs a ps → Tell (sites_in_pairs ps a) → Are (cells_in_pairs a ps) (actuals_in_pairs sc ps)
    acts_pairs [] t g = refl
    acts_pairs (p ∷ ps) t g =
        joined a.block (cells_in a p.high) (cells_in_pairs a ps) (actuals_in sc p.high) (actuals_in_pairs sc ps)
        (acts_expr types.Number p.high t.1 (each_front SiteTells (sites p.high a) (sites_in_pairs ps a) g.1)) (acts_pairs ps t.2 (each_back SiteTells (sites p.high a) (sites_in_pairs ps a) g.1))

    abbrev stmt_sites : PStmt → Bool → List Site
    stmt_sites s listed = here_stmt s listed a ∷ inside_stmt blocks s of_statement listed a

    mutual
      acts_stmt : (s : PStmt) (listed : Bool) → TypedStmt blocks of_statement a s → Tell (stmt_sites s listed) → Are (cells_in_stmt a s) (actuals_in_stmt sc s)
      acts_stmt tree.empty l t g = refl
      acts_stmt (tree.label n s) l t g = acts_stmt s l t.1 g.1
      acts_stmt (tree.assign (tree.subscripted n tree.none) e) l t g = acts_expr t.0 e t.2 g.1
      acts_stmt (tree.assign (tree.subscripted n (tree.more e es)) v) l t g =
          let these = inside_list (tree.more e es) a in
          joined a.block (cells_among a (tree.more e es)) (cells_in a v) (actuals_among sc (tree.more e es)) (actuals_in sc v) (acts_line (tree.more e es) t.2 (each_front SiteTells these (sites v a) g.1))
          (acts_expr t.0 v t.3 (each_back SiteTells these (sites v a) g.1))
      acts_stmt (tree.call_of (tree.called n es)) l t g = acts_call n es t.0 t.1 (acts_given t.0 t.0.params (specified t.0 t.2) es t.3 (inside_call n es t.0 t.1 g.1)) g.0.0
      acts_stmt (tree.go_to n) l t g = refl
      acts_stmt (tree.block (tree.body spot tree.no_decls ss)) l t g = acts_stmts ss false t.1 g.1
      acts_stmt (tree.block (tree.body spot (tree.decls d ds) ss)) l t g = refl
      acts_stmt (tree.if_then c x) l t g =
          joined a.block (cells_in a c) (cells_in_stmt a x) (actuals_in sc c) (actuals_in_stmt sc x) (acts_expr types.Truth c t.0 (each_front SiteTells (sites c a) (stmt_sites x false) g.1))
          (acts_stmt x false t.1 (each_back SiteTells (sites c a) (stmt_sites x false) g.1))
      acts_stmt (tree.if_else c x y) l t g =
          let front = each_front SiteTells (sites c a ++ stmt_sites x false) (stmt_sites y false) g.1 in
          joined a.block (cells_in a c ++ cells_in_stmt a x) (cells_in_stmt a y) (actuals_in sc c ++ actuals_in_stmt sc x) (actuals_in_stmt sc y)
          (joined a.block (cells_in a c) (cells_in_stmt a x) (actuals_in sc c) (actuals_in_stmt sc x) (acts_expr types.Truth c t.0 (each_front SiteTells (sites c a) (stmt_sites x false) front))
          (acts_stmt x false t.1 (each_back SiteTells (sites c a) (stmt_sites x false) front)))
          (acts_stmt y false t.2 (each_back SiteTells (sites c a ++ stmt_sites x false) (stmt_sites y false) g.1))
      acts_stmt (tree.while c z) l t g =
          joined a.block (cells_in a c) (cells_in_stmt a z) (actuals_in sc c) (actuals_in_stmt sc z) (acts_expr types.Truth c t.0 (each_front SiteTells (sites c a) (stmt_sites z false) g.1))
          (acts_stmt z false t.1 (each_back SiteTells (sites c a) (stmt_sites z false) g.1))
      acts_stmt (tree.until z c) l t g =
          joined a.block (cells_in_stmt a z) (cells_in a c) (actuals_in_stmt sc z) (actuals_in sc c) (acts_stmt z false t.0 (each_front SiteTells (stmt_sites z false) (sites c a) g.1))
          (acts_expr types.Truth c t.1 (each_back SiteTells (stmt_sites z false) (sites c a) g.1))
      acts_stmt (tree.for v x s m z) l t g =
          let three = each_front SiteTells (sites x a ++ sites s a ++ sites m a) (stmt_sites z false) g.1 in
          let two = each_front SiteTells (sites x a ++ sites s a) (sites m a) three in
          joined a.block (cells_in a x ++ cells_in a s ++ cells_in a m) (cells_in_stmt a z) (actuals_in sc x ++ actuals_in sc s ++ actuals_in sc m) (actuals_in_stmt sc z)
          (joined a.block (cells_in a x ++ cells_in a s) (cells_in a m) (actuals_in sc x ++ actuals_in sc s) (actuals_in sc m)
          (joined a.block (cells_in a x) (cells_in a s) (actuals_in sc x) (actuals_in sc s) (acts_expr types.Number x t.1 (each_front SiteTells (sites x a) (sites s a) two))
          (acts_expr types.Number s t.2 (each_back SiteTells (sites x a) (sites s a) two)))
          (acts_expr types.Number m t.3 (each_back SiteTells (sites x a ++ sites s a) (sites m a) three)))
          (acts_stmt z false t.4 (each_back SiteTells (sites x a ++ sites s a ++ sites m a) (stmt_sites z false) g.1))
      acts_stmt (tree.thru e z) l t g =
          joined a.block (cells_in a e) (cells_in_stmt a z) (actuals_in sc e) (actuals_in_stmt sc z) (acts_expr types.Number e t.0 (each_front SiteTells (sites e a) (stmt_sites z false) g.1))
          (acts_stmt z false t.1 (each_back SiteTells (sites e a) (stmt_sites z false) g.1))
      acts_stmt (tree.case e ss) l t g =
          joined a.block (cells_in a e) (cells_in_stmts a ss) (actuals_in sc e) (actuals_in_stmts sc ss) (acts_expr types.Number e t.0 (each_front SiteTells (sites e a) (sites_in_stmts blocks ss false a) g.1))
          (acts_stmts ss false t.1 (each_back SiteTells (sites e a) (sites_in_stmts blocks ss false a) g.1))
      acts_stmt (tree.process (tree.called n es) task) l t g = acts_call n es t.0 t.1 (acts_given t.0 t.0.params (specified t.0 t.2) es t.3 (inside_call n es t.0 t.1 g.1)) g.0.0
      acts_stmt (tree.event act e) l t g = refl
      acts_stmt (tree.write n spot phrases es) l t g = acts_line es t.2 g.1

      pub acts_stmts : (ss : PStmts) (listed : Bool) → TypedStmts blocks a ss → Tell (sites_in_stmts blocks ss listed a) → Are (cells_in_stmts a ss) (actuals_in_stmts sc ss)
      acts_stmts tree.no_stmts l t g = refl
      acts_stmts (tree.stmts s ss) l t g =
          joined a.block (cells_in_stmt a s) (cells_in_stmts a ss) (actuals_in_stmt sc s) (actuals_in_stmts sc ss) (acts_stmt s l t.0 (each_front SiteTells (stmt_sites s l) (sites_in_stmts blocks ss l a) g))
          (acts_stmts ss l t.1 (each_back SiteTells (stmt_sites s l) (sites_in_stmts blocks ss l a) g))

  -- those in the bounds of declarations
  pub acts_decls : (a : Surroundings) (first : List Declared) (ds : PDecls) → TypedDecls blocks a first ds → AllByRecursion SiteTells (sites_in_decls blocks ds a first) →
      cells_in_bounds blocks (record a { known = first }) ds ≡ cells_for a.block (actuals_in_decls sc ds)
  acts_decls a first tree.no_decls t g = refl
  acts_decls a first (tree.decls (tree.arrays kind ns pairs) ds) t g =
      let begin : Surroundings = record a { known = first } in
      let behind = knowing blocks (tree.arrays kind ns pairs) ds a in
      let own = sites_in_pairs pairs begin in
      let others = sites_in_decls blocks ds behind first in
      joined a.block (cells_in_pairs begin pairs) (cells_in_bounds blocks begin ds) (actuals_in_pairs sc pairs) (actuals_in_decls sc ds)
      (acts_pairs begin pairs t.1.1 (each_front SiteTells own others g.1)) (acts_decls behind first ds t.2 (each_back SiteTells own others g.1))
  acts_decls a first (tree.decls (tree.simple kind ns) ds) t g = acts_decls (knowing blocks (tree.simple kind ns) ds a) first ds t.2 g.1
  acts_decls a first (tree.decls (tree.files ns) ds) t g = acts_decls (knowing blocks (tree.files ns) ds a) first ds t.2 g.1
  acts_decls a first (tree.decls (tree.events ns) ds) t g = acts_decls (knowing blocks (tree.events ns) ds a) first ds t.2 g.1
  acts_decls a first (tree.decls (tree.tasks ns) ds) t g = acts_decls (knowing blocks (tree.tasks ns) ds a) first ds t.2 g.1
  acts_decls a first (tree.decls (tree.labels ns) ds) t g = acts_decls (knowing blocks (tree.labels ns) ds a) first ds t.2 g.1
  acts_decls a first (tree.decls (tree.forward h) ds) t g = acts_decls (knowing blocks (tree.forward h) ds a) first ds t.2 g.1
  acts_decls a first (tree.decls (tree.procedure h s) ds) t g =
      let behind = knowing blocks (tree.procedure h s) ds a in
      acts_decls behind first ds t.2 (each_back SiteTells (inside_decl blocks (tree.procedure h s) behind first) (sites_in_decls blocks ds behind first) g.1)
