-- The parts of a program are listed.
use Rattle.std.proofs.Common.{◌≡◌, inl, inr, ℕ, ◌+◌, Bool, false, true, List, [], ◌∷◌, ◌++◌, refl, sym, ap, ◌∙◌, subst, append-nil}
use Rattle.algol_tree.specs.declared.token.Spot.{Spot}
use Rattle.algol_tree.specs.declared.tree.Heading.{Heading}
use Rattle.algol_tree.specs.declared.tree.Kind.TheVariants as types
use Rattle.algol_tree.specs.declared.tree.Named.{Named}
use Rattle.algol_tree.specs.Ascending.{spots_of_names, spots_of_expr, spots_of_exprs, spots_of_task, spots_of_heading, spots_of_stmt, spots_of_stmts, spots_of_decl, spots_of_decls}
use Rattle.algol_tree.specs.Blocks.{Block, of_statement, of_procedure, stmts_of, procedure_block, number_at, blocks_of, blocks_in_decl, blocks_in_stmts, blocks_in_decls}
use Rattle.algol_tree.specs.Cells as cells
use Rattle.algol_tree.specs.Cells.{cells_for, holding}
use Rattle.algol_tree.specs.Names.{specified}
use Rattle.algol_tree.specs.Plain as tree
use Rattle.algol_tree.specs.Plain.{PStmt, PStmts, PDecls}
use Rattle.algol_tree.specs.Sites as parts
use Rattle.algol_tree.specs.Sites.{Site, has_decls, here_stmt, inside_stmt, sites_in_stmts, sites_in_decls}
use Rattle.algol_tree.specs.Sorts.{Declared, formals_of}
use Rattle.algol_tree.specs.Surroundings.{Surroundings, knowing, knowing_all, inside_procedure}
use Rattle.b67_list.proofs.Lists.{each_front}
use Rattle.b67_fitting.specs.Typing.{TypedStmt, TypedStmts, TypedDecls}
use Rattle.b67_fitting.proofs.ActualCells.{cells_in, cells_in_stmt, cells_in_stmts, cells_in_decls, cells_in_bounds, text_plain, text_held}
use Rattle.b67_fitting.proofs.Apart.{IsIn, in_front, in_back, IsApart, Apart, apart_front, apart_back, apart_across}
use Rattle.b67_fitting.proofs.Among.{skip, keep, join, apart_among}
use Rattle.b67_fitting.proofs.Bare.{IsBare, bare}
use Rattle.b67_fitting.proofs.Declares.{begun, listed_expr, listed_call, listed_actuals, listed_line, listed_pairs, fair_stmt, fair_element, declares_simple, declares_arrays, declares_events, declares_tasks, declares_labels, declares_files, declares_forward, declares_procedure, callees, behind_decls}
use Rattle.b67_fitting.proofs.Frames.{plain, control_cell, named_of, decl_cells}
use Rattle.b67_fitting.proofs.Given.{AreWhole}
use Rattle.b67_fitting.proofs.Declaring.{names_of}
use Rattle.b67_fitting.proofs.Passing.{leading, front_among, given_passed}
use Rattle.b67_fitting.proofs.Known.{given_cells, given_places, Stands, stands_inner, stands_procedure}
use Rattle.b67_fitting.proofs.Listed.{AllThere, IsProcedure, IsBlock, Listed, over, passed, turned, site, left, declared, both, block, procedure}
use Rattle.b67_templates.specs.Cells.{Simple, parameters_in}
use Rattle.b67_fitting.proofs.Started.{HasCallees, Passed, none_passed, IsStarted, start, step}
use Rattle.b67_fitting.proofs.UsesOnce.{task_places}

there_front : (blocks bs cs : List Block) → AllThere blocks (bs ++ cs) → AllThere blocks bs
there_front blocks bs cs f b i = f b (in_front b bs cs i)

there_back : (blocks bs cs : List Block) → AllThere blocks (bs ++ cs) → AllThere blocks cs
there_back blocks bs cs f b i = f b (in_back b bs cs i)

-- the places of a procedure's name, its parameters and its declarations
heading_apart : (h : Heading) (spot : Spot) (ds : PDecls) (ss : PStmts) → Apart (spots_of_heading h ++ (spot ∷ (spots_of_decls ds ++ spots_of_stmts ss))) →
    Apart (h.name.spot ∷ (spots_of_names h.params ++ spots_of_decls ds))
heading_apart h spot ds ss p =
    apart_among (keep h.name.spot (join (leading (spots_of_names h.params) (spots_of_names h.values) (spots_of_names (specified h))) (skip spot (front_among (spots_of_decls ds) (spots_of_stmts ss))))) p

-- .. without declarations
names_apart : (h : Heading) (body : PStmt) → Apart (spots_of_heading h ++ spots_of_stmt body) → Apart (h.name.spot ∷ spots_of_names h.params)
names_apart h body p =
    apart_among (keep h.name.spot (leading (spots_of_names h.params) (spots_of_names h.values) (spots_of_names (specified h)))) (apart_front (spots_of_heading h) (spots_of_stmt body) p)

abbrev behind_name : Heading → List Spot
behind_name h = spots_of_names h.params ++ spots_of_names h.values ++ spots_of_names (specified h)

module _ (blocks : List Block) (whole : AreWhole blocks) where
  -- a procedure whose body is no BEGIN
  procedure_bare : (k : ℕ) (x : Site) (outer : List Spot) (h : Heading) (s : PStmt) (a : Surroundings) → IsBare blocks s → Apart (h.name.spot ∷ spots_of_names h.params) → named_of blocks (procedure_block h s outer) ≡ h.params →
      IsProcedure blocks k x (procedure_block h s outer) (behind_name h) → Stands blocks (procedure_block h s outer) a → TypedStmt blocks of_procedure a s →
      AllThere blocks (blocks_of s of_statement (h.name.spot ∷ outer)) →
      Listed blocks (number_at blocks h.name.spot) (spots_of_stmt s) (cells_in_stmt a s) (blocks_of s of_statement (h.name.spot ∷ outer)) (here_stmt s false a ∷ inside_stmt blocks s of_statement false a) →
      Listed blocks k (spots_of_heading h ++ spots_of_stmt s) (control_cell k h.name.spot ∷ []) (procedure_block h s outer ∷ blocks_of s of_procedure (h.name.spot ∷ outer))
      (x ∷ here_stmt s false a ∷ inside_stmt blocks s of_procedure false a)
  procedure_bare k x outer h s a r e m p g t f l =
      subst
      (λ (bs : List Block). Listed blocks k (spots_of_heading h ++ spots_of_stmt s) (control_cell k h.name.spot ∷ []) (procedure_block h s outer ∷ bs) (x ∷ here_stmt s false a ∷ inside_stmt blocks s of_procedure false a))
      (sym (r.blocks_are (h.name.spot ∷ outer)))
      (subst
      (λ (xs : List Site). Listed blocks k (spots_of_heading h ++ spots_of_stmt s) (control_cell k h.name.spot ∷ []) (procedure_block h s outer ∷ blocks_of s of_statement (h.name.spot ∷ outer)) (x ∷ here_stmt s false a ∷ xs))
      (sym (r.inside_are false a)) (procedure k x (procedure_block h s outer) (behind_name h) p is_block l))
    where
      -- its text is the statement
      text : cells_in_stmts a (stmts_of s) ≡ cells_in_stmt a s
      text = ap (cells_in_stmts a) r.stmts_are ∙ append-nil (cells_in_stmt a s)

      is_block : IsBlock blocks (procedure_block h s outer) (cells_in_stmt a s) (here_stmt s false a ∷ inside_stmt blocks s of_statement false a)
      is_block =
          record {
            there = g.there;
            apart =
                subst (λ (ds : PDecls). Apart (h.name.spot ∷ (spots_of_names (named_of blocks (procedure_block h s outer)) ++ spots_of_decls ds))) (sym r.decls_are)
                (subst (λ (ns : List Named). Apart (h.name.spot ∷ (spots_of_names ns ++ []))) (sym m)
                (subst (λ (z : List Spot). Apart (h.name.spot ∷ z)) (sym (append-nil (spots_of_names h.params))) e));
            own_is =
                subst (λ (ds : PDecls). plain (cells_in_stmt a s) ≡ decl_cells (number_at blocks h.name.spot) ds) (sym r.decls_are)
                (ap plain (sym text) ∙ text_plain blocks a a.known tree.no_decls a (stmts_of s));
            begin = a;
            begins = g;
            declares = subst (λ (ds : PDecls). TypedDecls blocks a a.known ds) (sym r.decls_are) tt;
            callees = subst (HasCallees blocks (procedure_block h s outer)) (sym r.decls_are) (λ g i. absurd i);
            around = a;
            stands = g;
            typed = subst (λ (ss : PStmts). TypedStmts blocks a ss) (sym r.stmts_are) (r.typed a t, tt);
            inner =
                subst (λ (ss : PStmts). AllThere blocks (blocks_in_stmts ss (h.name.spot ∷ outer))) (sym r.stmts_are)
                (subst (AllThere blocks) (sym (append-nil (blocks_of s of_statement (h.name.spot ∷ outer)))) f);
            actuals_are =
                subst (λ (ds : PDecls). holding cells.actual (cells_in_stmt a s) ≡ cells_in_bounds blocks a ds ++ cells_in_stmts a (stmts_of s)) (sym r.decls_are)
                (ap (holding cells.actual) (sym text) ∙ text_held blocks a a.known tree.no_decls a (stmts_of s));
            front = [];
            listed = false;
            sites_are =
                subst (λ (ds : PDecls). here_stmt s false a ∷ inside_stmt blocks s of_statement false a ≡ sites_in_decls blocks ds a a.known ++ sites_in_stmts blocks (stmts_of s) false a) (sym r.decls_are)
                (subst (λ (ss : PStmts). here_stmt s false a ∷ inside_stmt blocks s of_statement false a ≡ sites_in_stmts blocks ss false a) (sym r.stmts_are)
                (ap (λ z. here_stmt s false a ∷ z) (sym (append-nil (inside_stmt blocks s of_statement false a)))));
          }

  -- a procedure whose body is a BEGIN
  procedure_begin : (k : ℕ) (x : Site) (outer : List Spot) (h : Heading) (spot : Spot) (ds : PDecls) (ss : PStmts) (a : Surroundings) → named_of blocks (procedure_block h (tree.block (tree.body spot ds ss)) outer) ≡ h.params →
      IsProcedure blocks k x (procedure_block h (tree.block (tree.body spot ds ss)) outer) (behind_name h) → Stands blocks (procedure_block h (tree.block (tree.body spot ds ss)) outer) a →
      TypedDecls blocks a a.known ds → HasCallees blocks (procedure_block h (tree.block (tree.body spot ds ss)) outer) ds →
      Stands blocks (procedure_block h (tree.block (tree.body spot ds ss)) outer) (knowing_all blocks ds a) → TypedStmts blocks (knowing_all blocks ds a) ss →
      Apart (spots_of_heading h ++ (spot ∷ (spots_of_decls ds ++ spots_of_stmts ss))) → AllThere blocks (blocks_in_stmts ss (h.name.spot ∷ outer)) →
      Listed blocks a.block (spots_of_decls ds) (cells_in_decls blocks a a.known ds) (blocks_in_decls ds (h.name.spot ∷ outer)) (sites_in_decls blocks ds a a.known) →
      Listed blocks (number_at blocks h.name.spot) (spots_of_stmts ss) (cells_in_stmts (knowing_all blocks ds a) ss) (blocks_in_stmts ss (h.name.spot ∷ outer)) (sites_in_stmts blocks ss (has_decls ds) (knowing_all blocks ds a)) →
      Listed blocks k (spots_of_heading h ++ (spot ∷ (spots_of_decls ds ++ spots_of_stmts ss))) (control_cell k h.name.spot ∷ [])
      (procedure_block h (tree.block (tree.body spot ds ss)) outer ∷ (blocks_in_decls ds (h.name.spot ∷ outer) ++ blocks_in_stmts ss (h.name.spot ∷ outer)))
      (x ∷ here_stmt (tree.block (tree.body spot ds ss)) false a ∷ (sites_in_decls blocks ds a a.known ++ sites_in_stmts blocks ss (has_decls ds) (knowing_all blocks ds a)))
  procedure_begin k x outer h spot ds ss a e q g d inner behind t p f these those =
      let s = tree.block (tree.body spot ds ss) in
      let c = procedure_block h s outer in
      let number = number_at blocks h.name.spot in
      let names = spots_of_decls ds in
      procedure k x c (behind_name h) q
      (record {
        there = g.there;
        apart = subst (λ (ns : List Named). Apart (h.name.spot ∷ (spots_of_names ns ++ names))) (sym e) (heading_apart h spot ds ss p);
        own_is = text_plain blocks a a.known ds (knowing_all blocks ds a) ss ∙ ap (λ (n : ℕ). decl_cells n ds) g.block_is;
        begin = a;
        begins = g;
        declares = d;
        callees = inner;
        around = knowing_all blocks ds a;
        stands = behind;
        typed = t;
        inner = f;
        actuals_are = text_held blocks a a.known ds (knowing_all blocks ds a) ss;
        front = here_stmt s false a ∷ [];
        listed = has_decls ds;
        sites_are = refl;
      })
      (site number (here_stmt s false a) (fair_stmt blocks number c a g g.block_is s false refl refl refl)
      (passed number spot
      (both number
      (subst (λ (n : ℕ). Listed blocks n names (cells_in_decls blocks a a.known ds) (blocks_in_decls ds (h.name.spot ∷ outer)) (sites_in_decls blocks ds a a.known)) g.block_is these) those)))

  mutual
    listed_stmt : (k : ℕ) (b : Block) (a : Surroundings) → Stands blocks b a → a.block ≡ k → (s : PStmt) (listed : Bool) → TypedStmt blocks of_statement a s → Apart (spots_of_stmt s) →
        AllThere blocks (blocks_of s of_statement (b.spot ∷ b.outer)) →
        Listed blocks k (spots_of_stmt s) (cells_in_stmt a s) (blocks_of s of_statement (b.spot ∷ b.outer)) (here_stmt s listed a ∷ inside_stmt blocks s of_statement listed a)
    listed_stmt k b a g i tree.empty l t p f = site k (here_stmt tree.empty l a) (fair_stmt blocks k b a g i tree.empty l refl refl refl) (over k)
    listed_stmt k b a g i (tree.label n s) l t p f =
        site k (here_stmt (tree.label n s) l a) (fair_stmt blocks k b a g i (tree.label n s) l refl refl refl) (listed_stmt k b a g i s l t.1 p.1 f)
    listed_stmt k b a g i (tree.assign (tree.subscripted n tree.none) e) l t p f = left k a n e l b g (listed_expr blocks k b a g i t.0 e t.2)
    listed_stmt k b a g i (tree.assign (tree.subscripted n (tree.more e es)) v) l t p f =
        site k (here_stmt (tree.assign (tree.subscripted n (tree.more e es)) v) l a) (fair_element blocks k b a g i n e es v t.0 l t.1)
        (both k (listed_line blocks k b a g i (tree.more e es) t.2) (listed_expr blocks k b a g i t.0 v t.3))
    listed_stmt k b a g i (tree.call_of (tree.called n es)) l t p f =
        site k (here_stmt (tree.call_of (tree.called n es)) l a) (fair_stmt blocks k b a g i (tree.call_of (tree.called n es)) l refl refl refl)
        (listed_call blocks k b a g i n es t.0 t.1 (listed_actuals blocks k b a g i (formals_of t.0) es t.3))
    listed_stmt k b a g i (tree.go_to n) l t p f = site k (here_stmt (tree.go_to n) l a) (fair_stmt blocks k b a g i (tree.go_to n) l refl refl refl) (over k)
    listed_stmt k b a g i (tree.block (tree.body spot tree.no_decls ss)) l t p f =
        site k (here_stmt (tree.block (tree.body spot tree.no_decls ss)) l a) (fair_stmt blocks k b a g i (tree.block (tree.body spot tree.no_decls ss)) l refl refl refl)
        (passed k spot (listed_stmts k b a g i ss false t.1 p.1 f))
    listed_stmt k b a g i (tree.block (tree.body spot (tree.decls d ds) ss)) l t p f =
        let c = begun spot (b.spot ∷ b.outer) (tree.decls d ds) ss in
        let there : IsIn c blocks = f c (inl refl) in
        let begin : Surroundings = record { block = number_at blocks spot; depth = a.depth + 1; known = a.known } in
        let within = knowing_all blocks (tree.decls d ds) begin in
        let names = spots_of_decls (tree.decls d ds) in
        let decl_blocks = blocks_in_decls (tree.decls d ds) (spot ∷ b.spot ∷ b.outer) in
        let stmt_blocks = blocks_in_stmts ss (spot ∷ b.spot ∷ b.outer) in
        let in_decls : AllThere blocks decl_blocks = λ e i. f e (inr (in_front e decl_blocks stmt_blocks i)) in
        let in_stmts : AllThere blocks stmt_blocks = λ e i. f e (inr (in_back e decl_blocks stmt_blocks i)) in
        let begins = stands_inner blocks b c a g there refl in
        let called = callees blocks (tree.decls d ds) begin a.known c t.0 in_decls (whole.numbered c there) (apart_front names (spots_of_stmts ss) p.1) (λ s i. refl) (λ s i. refl) (λ s i. refl) in
        let started = start blocks c begin begins called
        (none_passed (names_of begin.block begin.known) names (given_cells blocks c) (number_at blocks spot) (named_of blocks c) (whole.no_cells c there refl) (whole.no_names c there refl)) in
        let behind = behind_decls blocks c begin a.known (tree.decls d ds) started t.0 (apart_front names (spots_of_stmts ss) p.1) in
        let inner =
        both (number_at blocks spot) (listed_decls c begin a.known begins (tree.decls d ds) started t.0 (apart_front names (spots_of_stmts ss) p.1) in_decls)
        (listed_stmts (number_at blocks spot) c within behind behind.block_is ss true t.1 (apart_back names (spots_of_stmts ss) p.1) in_stmts) in
        site k (here_stmt (tree.block (tree.body spot (tree.decls d ds) ss)) l a) (fair_stmt blocks k b a g i (tree.block (tree.body spot (tree.decls d ds) ss)) l refl refl refl)
        (block k c (refl, whole.no_names c there refl)
        (record {
          there = there;
          apart =
              subst (λ (ns : List Named). Apart (spot ∷ (spots_of_names ns ++ names))) (sym (whole.no_names c there refl))
              (each_front (IsApart spot) names (spots_of_stmts ss) p.0, apart_front names (spots_of_stmts ss) p.1);
          own_is = text_plain blocks begin a.known (tree.decls d ds) within ss;
          begin = begin;
          begins = begins;
          declares = t.0;
          callees = called;
          around = within;
          stands = behind;
          typed = t.1;
          inner = in_stmts;
          actuals_are = text_held blocks begin a.known (tree.decls d ds) within ss;
          front = [];
          listed = true;
          sites_are = refl;
        })
        inner)
    listed_stmt k b a g i (tree.if_then c x) l t p f =
        site k (here_stmt (tree.if_then c x) l a) (fair_stmt blocks k b a g i (tree.if_then c x) l refl refl refl)
        (both k (listed_expr blocks k b a g i types.Truth c t.0) (listed_stmt k b a g i x false t.1 (apart_back (spots_of_expr c) (spots_of_stmt x) p) f))
    listed_stmt k b a g i (tree.if_else c x y) l t p f =
        let these = blocks_of x of_statement (b.spot ∷ b.outer) in
        let those = blocks_of y of_statement (b.spot ∷ b.outer) in
        let front = apart_front (spots_of_expr c ++ spots_of_stmt x) (spots_of_stmt y) p in
        let back = apart_back (spots_of_expr c ++ spots_of_stmt x) (spots_of_stmt y) p in
        site k (here_stmt (tree.if_else c x y) l a) (fair_stmt blocks k b a g i (tree.if_else c x y) l refl refl refl)
        (both k
        (both k (listed_expr blocks k b a g i types.Truth c t.0)
        (listed_stmt k b a g i x false t.1 (apart_back (spots_of_expr c) (spots_of_stmt x) front) (there_front blocks these those f)))
        (listed_stmt k b a g i y false t.2 back (there_back blocks these those f)))
    listed_stmt k b a g i (tree.while c z) l t p f =
        site k (here_stmt (tree.while c z) l a) (fair_stmt blocks k b a g i (tree.while c z) l refl refl refl)
        (both k (listed_expr blocks k b a g i types.Truth c t.0) (listed_stmt k b a g i z false t.1 (apart_back (spots_of_expr c) (spots_of_stmt z) p) f))
    listed_stmt k b a g i (tree.until z c) l t p f =
        subst (λ (bs : List Block). Listed blocks k (spots_of_stmt z ++ spots_of_expr c) (cells_in_stmt a z ++ cells_in a c) bs (here_stmt (tree.until z c) l a ∷ inside_stmt blocks (tree.until z c) of_statement l a))
        (append-nil (blocks_of z of_statement (b.spot ∷ b.outer)))
        (site k (here_stmt (tree.until z c) l a) (fair_stmt blocks k b a g i (tree.until z c) l refl refl refl)
        (both k (listed_stmt k b a g i z false t.0 (apart_front (spots_of_stmt z) (spots_of_expr c) p) f) (listed_expr blocks k b a g i types.Truth c t.1)))
    listed_stmt k b a g i (tree.for v x s m z) l t p f =
        site k (here_stmt (tree.for v x s m z) l a) (fair_stmt blocks k b a g i (tree.for v x s m z) l refl refl refl)
        (both k (both k (both k (listed_expr blocks k b a g i types.Number x t.1) (listed_expr blocks k b a g i types.Number s t.2)) (listed_expr blocks k b a g i types.Number m t.3))
        (listed_stmt k b a g i z false t.4 (apart_back (spots_of_expr x ++ spots_of_expr s ++ spots_of_expr m) (spots_of_stmt z) p.1) f))
    listed_stmt k b a g i (tree.thru e z) l t p f =
        site k (here_stmt (tree.thru e z) l a) (fair_stmt blocks k b a g i (tree.thru e z) l refl refl refl)
        (both k (listed_expr blocks k b a g i types.Number e t.0) (listed_stmt k b a g i z false t.1 (apart_back (spots_of_expr e) (spots_of_stmt z) p) f))
    listed_stmt k b a g i (tree.case e ss) l t p f =
        site k (here_stmt (tree.case e ss) l a) (fair_stmt blocks k b a g i (tree.case e ss) l refl refl refl)
        (both k (listed_expr blocks k b a g i types.Number e t.0) (listed_stmts k b a g i ss false t.1 (apart_back (spots_of_expr e) (spots_of_stmts ss) p) f))
    listed_stmt k b a g i (tree.process (tree.called n es) task) l t p f =
        let s = tree.process (tree.called n es) task in
        turned k n.spot (spots_of_task task) (spots_of_exprs es)
        (subst (λ (z : List Spot). Listed blocks k (n.spot ∷ (z ++ spots_of_exprs es)) (cells_in_stmt a s) [] (here_stmt s l a ∷ inside_stmt blocks s of_statement l a)) (task_places task)
        (site k (here_stmt s l a) (fair_stmt blocks k b a g i s l refl refl refl)
        (listed_call blocks k b a g i n es t.0 t.1 (listed_actuals blocks k b a g i (formals_of t.0) es t.3))))
    listed_stmt k b a g i (tree.event act e) l t p f = site k (here_stmt (tree.event act e) l a) (fair_stmt blocks k b a g i (tree.event act e) l refl refl refl) (over k)
    listed_stmt k b a g i (tree.write n spot phrases es) l t p f =
        site k (here_stmt (tree.write n spot phrases es) l a) (fair_stmt blocks k b a g i (tree.write n spot phrases es) l refl refl refl) (listed_line blocks k b a g i es t.2)

    pub listed_stmts : (k : ℕ) (b : Block) (a : Surroundings) → Stands blocks b a → a.block ≡ k → (ss : PStmts) (listed : Bool) → TypedStmts blocks a ss → Apart (spots_of_stmts ss) →
        AllThere blocks (blocks_in_stmts ss (b.spot ∷ b.outer)) → Listed blocks k (spots_of_stmts ss) (cells_in_stmts a ss) (blocks_in_stmts ss (b.spot ∷ b.outer)) (sites_in_stmts blocks ss listed a)
    listed_stmts k b a g i tree.no_stmts l t p f = over k
    listed_stmts k b a g i (tree.stmts s ss) l t p f =
        let these = blocks_of s of_statement (b.spot ∷ b.outer) in
        let those = blocks_in_stmts ss (b.spot ∷ b.outer) in
        both k (listed_stmt k b a g i s l t.0 (apart_front (spots_of_stmt s) (spots_of_stmts ss) p) (there_front blocks these those f))
        (listed_stmts k b a g i ss l t.1 (apart_back (spots_of_stmt s) (spots_of_stmts ss) p) (there_back blocks these those f))

    -- at the begin of the block the first ones are known
    pub listed_decls : (b : Block) (a : Surroundings) (first : List Declared) → Stands blocks b (record a { known = first }) → (ds : PDecls) → IsStarted blocks b a ds → TypedDecls blocks a first ds → Apart (spots_of_decls ds) →
        AllThere blocks (blocks_in_decls ds (b.spot ∷ b.outer)) →
        Listed blocks a.block (spots_of_decls ds) (cells_in_decls blocks a first ds) (blocks_in_decls ds (b.spot ∷ b.outer)) (sites_in_decls blocks ds a first)
    listed_decls b a first g tree.no_decls s t p f = over a.block
    listed_decls b a first g (tree.decls (tree.simple kind ns) ds) s t p f =
        let d = tree.simple kind ns in
        declared a.block (record { part = parts.declaration d ds; around = a }) (spots_of_names ns) (cells_for a.block cells.variable ns) (declares_simple blocks a kind ns ds)
        (listed_decls b (knowing blocks d ds a) first g ds (step blocks b a first d ds s t p) t.2 (apart_back (spots_of_decl d) (spots_of_decls ds) p) f)
    listed_decls b a first g (tree.decls (tree.files ns) ds) s t p f =
        let d = tree.files ns in
        declared a.block (record { part = parts.declaration d ds; around = a }) (spots_of_names ns) [] (declares_files blocks a ns ds)
        (listed_decls b (knowing blocks d ds a) first g ds (step blocks b a first d ds s t p) t.2 (apart_back (spots_of_decl d) (spots_of_decls ds) p) f)
    listed_decls b a first g (tree.decls (tree.labels ns) ds) s t p f =
        let d = tree.labels ns in
        declared a.block (record { part = parts.declaration d ds; around = a }) (spots_of_names ns) [] (declares_labels blocks a ns ds)
        (listed_decls b (knowing blocks d ds a) first g ds (step blocks b a first d ds s t p) t.2 (apart_back (spots_of_decl d) (spots_of_decls ds) p) f)
    listed_decls b a first g (tree.decls (tree.events ns) ds) s t p f =
        let d = tree.events ns in
        declared a.block (record { part = parts.declaration d ds; around = a }) (spots_of_names ns) (cells_for a.block cells.made ns) (declares_events blocks a ns ds)
        (listed_decls b (knowing blocks d ds a) first g ds (step blocks b a first d ds s t p) t.2 (apart_back (spots_of_decl d) (spots_of_decls ds) p) f)
    listed_decls b a first g (tree.decls (tree.tasks ns) ds) s t p f =
        let d = tree.tasks ns in
        declared a.block (record { part = parts.declaration d ds; around = a }) (spots_of_names ns) (cells_for a.block cells.made ns) (declares_tasks blocks a ns ds)
        (listed_decls b (knowing blocks d ds a) first g ds (step blocks b a first d ds s t p) t.2 (apart_back (spots_of_decl d) (spots_of_decls ds) p) f)
    listed_decls b a first g (tree.decls (tree.arrays kind ns pairs) ds) s t p f =
        let d = tree.arrays kind ns pairs in
        let begin : Surroundings = record a { known = first } in
        let x : Site = record { part = parts.declaration d ds; around = a } in
        let made = cells_for a.block cells.made ns in
        both a.block (declared a.block x (spots_of_names ns) made (declares_arrays blocks a kind ns pairs ds) (listed_pairs blocks a.block b begin g refl pairs t.1.1))
        (listed_decls b (knowing blocks d ds a) first g ds (step blocks b a first d ds s t p) t.2 (apart_back (spots_of_decl d) (spots_of_decls ds) p) f)
    listed_decls b a first g (tree.decls (tree.forward h) ds) s t p f =
        let d = tree.forward h in
        declared a.block (record { part = parts.declaration d ds; around = a }) (spots_of_heading h) [] (declares_forward blocks a h ds)
        (listed_decls b (knowing blocks d ds a) first g ds (step blocks b a first d ds s t p) t.2 (apart_back (spots_of_decl d) (spots_of_decls ds) p) f)
    listed_decls b a first g (tree.decls (tree.procedure h (tree.block (tree.body spot es ss))) ds) s t p f =
        let body = tree.block (tree.body spot es ss) in
        let d = tree.procedure h body in
        let next = step blocks b a first d ds s t p in
        let behind = knowing blocks d ds a in
        let inner = inside_procedure blocks h behind in
        let those = blocks_in_decl d (b.spot ∷ b.outer) in
        let others = blocks_in_decls ds (b.spot ∷ b.outer) in
        let in_those : AllThere blocks those = there_front blocks those others f in
        let c = procedure_block h body (b.spot ∷ b.outer) in
        let decl_blocks = blocks_in_decls es (h.name.spot ∷ b.spot ∷ b.outer) in
        let stmt_blocks = blocks_in_stmts ss (h.name.spot ∷ b.spot ∷ b.outer) in
        let in_decls : AllThere blocks decl_blocks = λ e i. in_those e (inr (in_front e decl_blocks stmt_blocks i)) in
        let in_stmts : AllThere blocks stmt_blocks = λ e i. in_those e (inr (in_back e decl_blocks stmt_blocks i)) in
        let mine : Apart (spots_of_decl d) = apart_front (spots_of_decl d) (spots_of_decls ds) p in
        let inside : Apart (spot ∷ (spots_of_decls es ++ spots_of_stmts ss)) = apart_back (spots_of_heading h) (spots_of_stmt body) mine in
        let q = s.callees h (s.owned h (inl refl)) in
        let stands = stands_procedure blocks b h body behind next.stands t.1.0 t.1.2 (s.owned h (inl refl)) q.lows_are (names_apart h body mine).1 q.cells_are q.named_are (in_those c (inl refl)) in
        let k = number_at blocks h.name.spot in
        let passed : Passed (names_of k inner.known) (spots_of_decls es) (given_cells blocks c) (given_places blocks c) =
        subst (λ (xs : List Simple). Passed (names_of k inner.known) (spots_of_decls es) xs (given_places blocks c)) (sym q.cells_are)
        (subst (λ (ns : List Named). Passed (names_of k inner.known) (spots_of_decls es) (parameters_in h) (cells_for k cells.parameter ns)) (sym q.named_are)
        (given_passed k (behind.depth + 1) h behind.known (spots_of_decls es) (apart_across (spots_of_names h.params) (spots_of_decls es) (heading_apart h spot es ss mine).1))) in
        let called =
        callees blocks es inner inner.known c t.1.1.0 in_decls (whole.numbered c (in_those c (inl refl))) (apart_front (spots_of_decls es) (spots_of_stmts ss) inside.1) (λ s i. refl) (λ s i. refl) (λ s i. refl) in
        let started = start blocks c inner stands called passed in
        let after = behind_decls blocks c inner inner.known es started t.1.1.0 (apart_front (spots_of_decls es) (spots_of_stmts ss) inside.1) in
        both a.block
        (procedure_begin a.block (record { part = parts.declaration d ds; around = a }) (b.spot ∷ b.outer) h spot es ss inner q.named_are
        (declares_procedure blocks a h body ds (b.spot ∷ b.outer) q.named_are) stands t.1.1.0 called after t.1.1.1 mine in_stmts
        (listed_decls c inner inner.known stands es started t.1.1.0 (apart_front (spots_of_decls es) (spots_of_stmts ss) inside.1) in_decls)
        (listed_stmts (number_at blocks h.name.spot) c (knowing_all blocks es inner) after after.block_is ss (has_decls es) t.1.1.1 (apart_back (spots_of_decls es) (spots_of_stmts ss) inside.1) in_stmts))
        (listed_decls b behind first g ds next t.2 (apart_back (spots_of_decl d) (spots_of_decls ds) p) (there_back blocks those others f))
    listed_decls b a first g (tree.decls (tree.procedure h body) ds) s t p f =
        let d = tree.procedure h body in
        let next = step blocks b a first d ds s t p in
        let behind = knowing blocks d ds a in
        let inner = inside_procedure blocks h behind in
        let those = blocks_in_decl d (b.spot ∷ b.outer) in
        let others = blocks_in_decls ds (b.spot ∷ b.outer) in
        let in_those : AllThere blocks those = there_front blocks those others f in
        let c = procedure_block h body (b.spot ∷ b.outer) in
        let q = s.callees h (s.owned h (inl refl)) in
        let own = names_apart h body (apart_front (spots_of_decl d) (spots_of_decls ds) p) in
        let stands = stands_procedure blocks b h body behind next.stands t.1.0 t.1.2 (s.owned h (inl refl)) q.lows_are own.1 q.cells_are q.named_are (in_those c (inl refl)) in
        let r = bare blocks body tt in
        let in_body : AllThere blocks (blocks_of body of_statement (h.name.spot ∷ b.spot ∷ b.outer)) =
        λ e i. in_those e (inr (subst (λ (bs : List Block). IsIn e bs) (sym (r.blocks_are (h.name.spot ∷ b.spot ∷ b.outer))) i)) in
        both a.block
        (procedure_bare a.block (record { part = parts.declaration d ds; around = a }) (b.spot ∷ b.outer) h body inner r own q.named_are
        (declares_procedure blocks a h body ds (b.spot ∷ b.outer) q.named_are) stands t.1.1 in_body
        (listed_stmt (number_at blocks h.name.spot) c inner stands stands.block_is body false (r.typed inner t.1.1) (apart_back (spots_of_heading h) (spots_of_stmt body) (apart_front (spots_of_decl d) (spots_of_decls ds) p)) in_body))
        (listed_decls b behind first g ds next t.2 (apart_back (spots_of_decl d) (spots_of_decls ds) p) (there_back blocks those others f))
