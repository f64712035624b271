-- A block has no more actuals that have cells than cells of actuals stand in its text.
use Rattle.std.proofs.Common.{arith, ◌≡◌, ℕ, ◌≤◌, ◌<◌, ◌==◌, ◌&&◌, not, Bool, true, false, is_some, List, [], ◌∷◌, ◌++◌, map, filter, length, Option, Some, None, refl, sym, ap, ◌∙◌, subst, if◌then◌else◌}
use Rattle.std.proofs.lemmas.Bool.Decides.{nat_tests}
use Rattle.std.proofs.lemmas.List.{length-append}
use Rattle.std.specs.List.{flat_map, AllByRecursion}
use Rattle.algol_tree.specs.declared.token.Spot.{Spot}
use Rattle.algol_tree.specs.declared.tree.Heading.{Heading}
use Rattle.algol_tree.specs.declared.tree.Named.{Named}
use Rattle.algol_tree.specs.Blocks.{of_statement, of_procedure, block_numbered, number_at}
use Rattle.algol_tree.specs.Cells as cells
use Rattle.algol_tree.specs.Cells.{Cell, cells_of, has_cell, is_simple_name}
use Rattle.algol_tree.specs.Classes.{Class, Formal, is_simple}
use Rattle.algol_tree.specs.Names.{if_so}
use Rattle.algol_tree.specs.Plain as tree
use Rattle.algol_tree.specs.Plain.{name_alone, PExpr, PExprs, PPair, PStmt, PStmts, PDecls}
use Rattle.algol_tree.specs.Scopes.{Scopes, Use, use_by, used, if_named, use_of}
use Rattle.algol_tree.specs.Sites as parts
use Rattle.algol_tree.specs.Sites.{Site, here, sites, first_formal, other_formals, actual_part, inside_expr, inside_list, inside_actuals, here_stmt, inside_stmt, sites_in_pairs, sites_in_stmts, sites_in_decls}
use Rattle.algol_tree.specs.Sorts as sort
use Rattle.algol_tree.specs.Sorts.{Sort, Declared, Parameter, is_named_in, procedure_in, formals_of}
use Rattle.algol_tree.specs.Surroundings.{Surroundings, class_of, class_of_declared, formals_of_class, formals_at, declared_as, knowing, inside_procedure}
use Rattle.algol_tree.proofs.Trees.{use_is}
use Rattle.algol_meaning.specs.Settle.{block_of_sort}
use Rattle.b67_templates.specs.Cells.{Simple, Wanted, value, by_name, array, event, other, parameter_cells, parameter_wants, parameters_around, Actual, own_actual, wants_of, actuals_in, actuals_among, actuals_given, actuals_in_pairs, actuals_in_stmt, actuals_in_stmts}
use Rattle.b67_templates.specs.Fitting.{wanted_by_name}
use Rattle.b67_list.proofs.Lists.{append_none_left, each_back, each_both, each_front}
use Rattle.b67_fitting.proofs.Headings.{DeclsSpecified, StmtSpecified, StmtsSpecified}
use Rattle.b67_templates.specs.Nested as told
use Rattle.b67_templates.specs.Nested.{CellIsTold, AreTold, AreParameters}
use Rattle.b67_fitting.proofs.ActualCells.{actual_cell}
use Rattle.b67_fitting.proofs.Callees.{IsCallee}
use Rattle.b67_fitting.proofs.CellsFew.{cells_both, FewBounds}
use Rattle.b67_fitting.proofs.Numbering.{IsThere}
use Rattle.b67_fitting.proofs.ParametersTold.{as_parameter}
use Rattle.b67_fitting.proofs.Specified.{IsSpecified, as_value, as_name, as_array, as_event, AreSpecified, specified}
use Rattle.b67_fitting.proofs.Surrounded.{Means, a_variable, a_name, a_file, an_array, a_formal, a_procedure, an_event, a_formal_event, a_task, a_label, IsAround, the_use, known_as, IsGood, AreGood, actual_good}
use Rattle.b67_fitting.proofs.Typed.{as_formal}

-- ---- what procedures want by name

-- where something is wanted by name, the parameter is by name
abbrev pub AreNamed : List Wanted → List Formal → Type 0
AreNamed [] fs = Unit {0}
AreNamed (w ∷ wanted) fs = (wanted_by_name w ≡ true → cells.formal_is_by_name (first_formal fs) ≡ true) × AreNamed wanted (other_formals fs)

one_named : (h : Heading) (n : Named) (c : Simple) → IsSpecified h n → CellIsTold (as_parameter h n) c → wanted_by_name c.wanted ≡ true → cells.formal_is_by_name (Some (as_formal h n)) ≡ true
one_named h n c s (told.by_value kind w v) e = absurd (let clash : false ≡ true = sym (ap wanted_by_name w) ∙ e in cc)
one_named h n c s (told.an_array shape w v) e = absurd (let clash : false ≡ true = sym (ap wanted_by_name w) ∙ e in cc)
one_named h n c s (told.an_event w v) e = absurd (let clash : false ≡ true = sym (ap wanted_by_name w) ∙ e in cc)
one_named h n c (as_event d v s) (told.by_name k w x) e = absurd (let clash : sort.formal_event ≡ sort.by_name = sym s ∙ x in cc)
one_named h n c (as_value kind d v s) (told.by_name k w x) e = absurd (let clash : sort.variable ≡ sort.by_name = sym s ∙ x in cc)
one_named h n c (as_array shape d v s) (told.by_name k w x) e = absurd (let clash : sort.formal_array shape.lows ≡ sort.by_name = sym s ∙ x in cc)
one_named h n c (as_name kind d v s) (told.by_name k w x) e = ap (λ (z : Class). is_simple z && not (is_named_in h.values n.name)) d ∙ ap not v

all_named : (h : Heading) (ns : List Named) (cs : List Simple) → AreSpecified h ns → AreTold (map (as_parameter h) ns) cs → AreNamed (map (λ (c : Simple). c.wanted) cs) (map (as_formal h) ns)
all_named h [] [] s t = tt
all_named h (n ∷ ns) (c ∷ cs) s t = (one_named h n c s.0 t.1, all_named h ns cs s.1 t.2)
all_named h [] (c ∷ cs) s t = absurd t
all_named h (n ∷ ns) [] s t = absurd t

-- `each`: the blocks have the cells of their parameters; `first`: no block is around the outermost
module _ (sc : Scopes) (each : (k : ℕ) → k < length sc.blocks → AreParameters sc (block_numbered sc.blocks k)) (first : (block_numbered sc.blocks 0).outer ≡ []) where
  abbrev many : List Site → ℕ → ℕ
  many xs k = length (cells_of sc.blocks xs k)

  callee_named : (j : ℕ) (h : Heading) → IsCallee sc.blocks j h → AreNamed (parameter_wants sc (number_at sc.blocks h.name.spot)) (formals_of h)
  callee_named j h c =
      let k = number_at sc.blocks h.name.spot in
      all_named h h.params (parameter_cells sc (block_numbered sc.blocks k)) (specified h c.built)
      (subst (λ (ps : List Parameter). AreTold ps (parameter_cells sc (block_numbered sc.blocks k))) c.parameters_are (each k c.some).told)

  nothing_wanted : parameter_wants sc 0 ≡ []
  nothing_wanted = ap (λ (outer : List Spot). map (λ (c : Simple). c.wanted) (parameters_around sc.blocks outer (block_numbered sc.blocks 0).spot)) first

  module _ (j : ℕ) (outer : List Spot) (a : Surroundings) (r : IsAround sc.blocks j outer a) where
    -- what a name means that is known there
    pub record IsMeant (n : Named) : Type 0 where
      pub declared : Declared
      pub is : declared_as a n ≡ Some declared
      pub used_is : use_of sc n ≡ the_use sc j outer a r n declared
      pub means : Means sc.blocks declared.block declared.sort declared.class

    meant_by : (n : Named) (o : Option Declared) → declared_as a n ≡ o → if_so (not (is_some o)) n.spot ++ [] ≡ [] → AllByRecursion (IsThere sc.uses) (use_by a n o ++ []) → IsMeant n
    meant_by n None e k t = absurd (let clash : n.spot ∷ [] ≡ [] = k in cc)
    meant_by n (Some d) e k t =
        record { declared = d; is = e; used_is = use_is sc n (the_use sc j outer a r n d) t.0; means = (known_as sc j outer a r n d e).means }

    meant : (n : Named) → IsGood sc (here (tree.variable (tree.subscripted n tree.none)) a) → IsMeant n
    meant n g = meant_by n (declared_as a n) refl g.known g.there

    -- a procedure's name is no variable's
    no_variable : (s : Sort) (c : Class) (k : ℕ) → Means sc.blocks k s c → is_some (procedure_in s) ≡ true → is_simple c ≡ false
    no_variable s c k (a_variable kind) e = absurd (let clash : false ≡ true = e in cc)
    no_variable s c k (a_name kind) e = absurd (let clash : false ≡ true = e in cc)
    no_variable s c k a_file e = refl
    no_variable s c k an_event e = refl
    no_variable s c k a_formal_event e = refl
    no_variable s c k a_task e = refl
    no_variable s c k a_label e = refl
    no_variable s c k (an_array kind count) e = refl
    no_variable s c k (a_formal lows kind count) e = refl
    no_variable s c k (a_procedure h i) e = refl

    -- what is wanted by name of a call's actuals is for parameters by name
    wants_as : (s : Sort) (c : Class) (k : ℕ) → Means sc.blocks k s c → AreNamed (parameter_wants sc (block_of_sort s)) (formals_of_class c)
    wants_as s c k (a_procedure h i) = callee_named k h i
    wants_as s c k (a_variable kind) = subst (λ (ws : List Wanted). AreNamed ws []) (sym nothing_wanted) tt
    wants_as s c k (a_name kind) = subst (λ (ws : List Wanted). AreNamed ws []) (sym nothing_wanted) tt
    wants_as s c k a_file = subst (λ (ws : List Wanted). AreNamed ws []) (sym nothing_wanted) tt
    wants_as s c k an_event = subst (λ (ws : List Wanted). AreNamed ws []) (sym nothing_wanted) tt
    wants_as s c k a_formal_event = subst (λ (ws : List Wanted). AreNamed ws []) (sym nothing_wanted) tt
    wants_as s c k a_task = subst (λ (ws : List Wanted). AreNamed ws []) (sym nothing_wanted) tt
    wants_as s c k a_label = subst (λ (ws : List Wanted). AreNamed ws []) (sym nothing_wanted) tt
    wants_as s c k (an_array kind count) = subst (λ (ws : List Wanted). AreNamed ws []) (sym nothing_wanted) tt
    wants_as s c k (a_formal lows kind count) = subst (λ (ws : List Wanted). AreNamed ws []) (sym nothing_wanted) tt

    call_named : (n : Named) → IsMeant n → AreNamed (wants_of sc n) (formals_at a n)
    call_named n m =
        subst (λ (u : Use). AreNamed (parameter_wants sc (block_of_sort u.sort)) (formals_at a n)) (sym m.used_is)
        (subst (λ (o : Option Declared). AreNamed (parameter_wants sc (block_of_sort m.declared.sort)) (formals_of_class (class_of_declared o))) (sym m.is)
        (wants_as m.declared.sort m.declared.class m.declared.block m.means))

    -- ---- one actual

    -- what is no name by itself has a cell
    named : (e : PExpr) (f : Option Formal) → cells.formal_is_by_name f ≡ true → is_simple_name (name_alone e) a ≡ false → has_cell e f a ≡ true
    named e f h p = ap (λ (b : Bool). b && not (is_simple_name (name_alone e) a)) h ∙ ap not p

    is_own : (a.block == a.block) ≡ true
    is_own = grind (arith, nat_tests)

    abbrev given_site : PExpr → Option Formal → Site
    given_site e f = record { part = parts.actual e f; around = a }

    has_one : (e : PExpr) (f : Option Formal) → has_cell e f a ≡ true → many (given_site e f ∷ []) a.block ≡ 1
    has_one e f h =
        ap (λ (b : Bool). length (filter (λ (c : Cell). c.block == a.block) ((if b then actual_cell a.block e ∷ [] else []) ++ []))) h
        ∙ ap (λ (b : Bool). length (if b then actual_cell a.block e ∷ [] else [])) is_own

    abbrev Named_of : PExpr → Type 0
    Named_of e = IsGood sc (here e a)

    one_few : (w : Wanted) (e : PExpr) (f : Option Formal) → (wanted_by_name w ≡ true → cells.formal_is_by_name f ≡ true) → Named_of e → length (own_actual sc w e) ≤ many (given_site e f ∷ []) a.block
    one_few (value k) e f h g = omega arith
    one_few (array s) e f h g = omega arith
    one_few event e f h g = omega arith
    one_few other e f h g = omega arith
    one_few (by_name k) (tree.variable (tree.subscripted n tree.none)) f h g = by (is_some (procedure_in ((use_of sc n).sort))) refl
      where
        e : PExpr
        e = tree.variable (tree.subscripted n tree.none)

        m : IsMeant n
        m = meant n g

        by : (b : Bool) → is_some (procedure_in ((use_of sc n).sort)) ≡ b → length {A = Actual} (if b then record { expr = e; kind = k } ∷ [] else []) ≤ many (given_site e f ∷ []) a.block
        by false p = omega arith
        by true p =
            let sort_is : is_some (procedure_in m.declared.sort) ≡ true = ap (λ (u : Use). is_some (procedure_in u.sort)) (sym m.used_is) ∙ p in
            let other_class : is_simple (class_of a n) ≡ false =
            ap (λ (o : Option Declared). is_simple (class_of_declared o)) m.is ∙ no_variable m.declared.sort m.declared.class m.declared.block m.means sort_is in
            let celled : has_cell e f a ≡ true = ap (λ (b : Bool). b && not (is_simple (class_of a n))) (h refl) ∙ ap not other_class in
            omega (arith, has_one e f celled)
    one_few (by_name k) (tree.variable (tree.subscripted n (tree.more e es))) f h g = omega (arith, has_one (tree.variable (tree.subscripted n (tree.more e es))) f (named (tree.variable (tree.subscripted n (tree.more e es))) f (h refl) refl))
    one_few (by_name k) (tree.number z spot) f h g = omega (arith, has_one (tree.number z spot) f (named (tree.number z spot) f (h refl) refl))
    one_few (by_name k) (tree.truth z spot) f h g = omega (arith, has_one (tree.truth z spot) f (named (tree.truth z spot) f (h refl) refl))
    one_few (by_name k) (tree.call c) f h g = omega (arith, has_one (tree.call c) f (named (tree.call c) f (h refl) refl))
    one_few (by_name k) (tree.tested x es spot) f h g = omega (arith, has_one (tree.tested x es spot) f (named (tree.tested x es spot) f (h refl) refl))
    one_few (by_name k) (tree.paren e spot) f h g = omega (arith, has_one (tree.paren e spot) f (named (tree.paren e spot) f (h refl) refl))
    one_few (by_name k) (tree.plus e spot) f h g = omega (arith, has_one (tree.plus e spot) f (named (tree.plus e spot) f (h refl) refl))
    one_few (by_name k) (tree.neg e spot) f h g = omega (arith, has_one (tree.neg e spot) f (named (tree.neg e spot) f (h refl) refl))
    one_few (by_name k) (tree.not e spot) f h g = omega (arith, has_one (tree.not e spot) f (named (tree.not e spot) f (h refl) refl))
    one_few (by_name k) (tree.two op x y) f h g = omega (arith, has_one (tree.two op x y) f (named (tree.two op x y) f (h refl) refl))
    one_few (by_name k) (tree.if c x y spot) f h g = omega (arith, has_one (tree.if c x y spot) f (named (tree.if c x y spot) f (h refl) refl))

    -- ---- expressions

    abbrev Good : List Site → Type 0
    Good xs = AreGood sc xs

    mutual
      few_expr : (e : PExpr) → Good (sites e a) → length (actuals_in sc e) ≤ many (inside_expr e a) a.block
      few_expr (tree.number z spot) g = omega arith
      few_expr (tree.truth z spot) g = omega arith
      few_expr (tree.variable (tree.subscripted n es)) g = few_list es g.1
      few_expr (tree.call (tree.called n es)) g = few_given (wants_of sc n) (formals_at a n) (call_named n (meant n (record { there = g.0.there; known = g.0.known }))) es g.1
      few_expr (tree.tested x es spot) g = omega arith
      few_expr (tree.paren e spot) g = few_expr e g.1
      few_expr (tree.plus e spot) g = few_expr e g.1
      few_expr (tree.neg e spot) g = few_expr e g.1
      few_expr (tree.not e spot) g = few_expr e g.1
      few_expr (tree.two op x y) g =
          omega (
            arith,
            length-append (actuals_in sc x) (actuals_in sc y),
            cells_both sc.blocks (sites x a) (sites y a) a.block,
            few_expr x (each_front (IsGood sc) (sites x a) (sites y a) g.1),
            few_expr y (each_back (IsGood sc) (sites x a) (sites y a) g.1),
          )
      few_expr (tree.if c x y spot) g =
          let two = each_front (IsGood sc) (sites c a ++ sites x a) (sites y a) g.1 in
          omega (
            arith,
            length-append (actuals_in sc c ++ actuals_in sc x) (actuals_in sc y),
            length-append (actuals_in sc c) (actuals_in sc x),
            cells_both sc.blocks (sites c a ++ sites x a) (sites y a) a.block,
            cells_both sc.blocks (sites c a) (sites x a) a.block,
            few_expr c (each_front (IsGood sc) (sites c a) (sites x a) two),
            few_expr x (each_back (IsGood sc) (sites c a) (sites x a) two),
            few_expr y (each_back (IsGood sc) (sites c a ++ sites x a) (sites y a) g.1),
          )

      few_list : (es : PExprs) → Good (inside_list es a) → length (actuals_among sc es) ≤ many (inside_list es a) a.block
      few_list tree.none g = omega arith
      few_list (tree.more e es) g =
          omega (
            arith,
            length-append (actuals_in sc e) (actuals_among sc es),
            cells_both sc.blocks (sites e a) (inside_list es a) a.block,
            few_expr e (each_front (IsGood sc) (sites e a) (inside_list es a) g),
            few_list es (each_back (IsGood sc) (sites e a) (inside_list es a) g),
          )

      few_given : (wanted : List Wanted) (fs : List Formal) → AreNamed wanted fs → (es : PExprs) → Good (inside_actuals es fs a) → length (actuals_given sc wanted es) ≤ many (inside_actuals es fs a) a.block
      few_given wanted fs h tree.none g = omega arith
      few_given [] fs h (tree.more e es) g =
          let f = first_formal fs in
          let part : Site = record { part = actual_part e f; around = a } in
          let later = inside_actuals es (other_formals fs) a in
          omega (
            arith,
            length-append (actuals_in sc e) (actuals_given sc [] es),
            cells_both sc.blocks (given_site e f ∷ part ∷ []) (inside_expr e a ++ later) a.block,
            cells_both sc.blocks (inside_expr e a) later a.block,
            few_expr e (actual_good sc e f a g.1.0, each_front (IsGood sc) (inside_expr e a) later g.1.1),
            few_given [] (other_formals fs) tt es (each_back (IsGood sc) (inside_expr e a) later g.1.1),
          )
      few_given (w ∷ wanted) fs h (tree.more e es) g =
          let f = first_formal fs in
          let part : Site = record { part = actual_part e f; around = a } in
          let later = inside_actuals es (other_formals fs) a in
          omega (
            arith,
            length-append (own_actual sc w e ++ actuals_in sc e) (actuals_given sc wanted es),
            length-append (own_actual sc w e) (actuals_in sc e),
            cells_both sc.blocks (given_site e f ∷ []) (part ∷ (inside_expr e a ++ later)) a.block,
            cells_both sc.blocks (part ∷ []) (inside_expr e a ++ later) a.block,
            cells_both sc.blocks (inside_expr e a) later a.block,
            one_few w e f h.0 (actual_good sc e f a g.1.0),
            few_expr e (actual_good sc e f a g.1.0, each_front (IsGood sc) (inside_expr e a) later g.1.1),
            few_given wanted (other_formals fs) h.1 es (each_back (IsGood sc) (inside_expr e a) later g.1.1),
          )

    few_pairs : (ps : List PPair) → Good (sites_in_pairs ps a) → length (actuals_in_pairs sc ps) ≤ many (sites_in_pairs ps a) a.block
    few_pairs [] g = omega arith
    few_pairs (p ∷ ps) g =
        omega (
          arith,
          length-append (actuals_in sc p.high) (actuals_in_pairs sc ps),
          cells_both sc.blocks (sites p.high a) (sites_in_pairs ps a) a.block,
          few_expr p.high (each_front (IsGood sc) (sites p.high a) (sites_in_pairs ps a) g.1),
          few_pairs ps (each_back (IsGood sc) (sites p.high a) (sites_in_pairs ps a) g.1),
        )

    -- ---- statements

    abbrev stmt_sites : PStmt → Bool → List Site
    stmt_sites s listed = here_stmt s listed a ∷ inside_stmt sc.blocks s of_statement listed a

    abbrev these : PStmt → Bool → List Site
    these s listed = inside_stmt sc.blocks s of_statement listed a

    -- the procedure of a PROCESS is the first of its names
    started_good : (n : Named) (es : PExprs) (task : Option Named) (l : Bool) → IsGood sc (here_stmt (tree.process (tree.called n es) task) l a) →
        IsGood sc (here (tree.variable (tree.subscripted n tree.none)) a)
    started_good n es task l g =
        record {
          there = each_both (IsThere sc.uses) (used a n) [] (each_front (IsThere sc.uses) (used a n) (flat_map (used a) (if_named task)) g.there) tt;
          known = ap (λ (z : List Spot). z ++ []) (append_none_left (if_so (not (is_some (declared_as a n))) n.spot) _ g.known);
        }

    mutual
      pub few_stmt : (s : PStmt) (listed : Bool) → StmtSpecified s → Good (stmt_sites s listed) → length (actuals_in_stmt sc s) ≤ many (these s listed) a.block
      few_stmt tree.empty l b g = omega arith
      few_stmt (tree.label n s) l b g = few_stmt s l b g.1
      few_stmt (tree.assign (tree.subscripted n es) e) l b g =
          omega (
            arith,
            length-append (actuals_among sc es) (actuals_in sc e),
            cells_both sc.blocks (inside_list es a) (sites e a) a.block,
            few_list es (each_front (IsGood sc) (inside_list es a) (sites e a) g.1),
            few_expr e (each_back (IsGood sc) (inside_list es a) (sites e a) g.1),
          )
      few_stmt (tree.call_of (tree.called n es)) l b g = few_given (wants_of sc n) (formals_at a n) (call_named n (meant n (record { there = g.0.there; known = g.0.known }))) es g.1
      few_stmt (tree.go_to n) l b g = omega arith
      few_stmt (tree.block (tree.body spot tree.no_decls ss)) l b g = few_stmts ss false b.1 g.1
      few_stmt (tree.block (tree.body spot (tree.decls d ds) ss)) l b g = omega arith
      few_stmt (tree.if_then c x) l b g =
          omega (
            arith,
            length-append (actuals_in sc c) (actuals_in_stmt sc x),
            cells_both sc.blocks (sites c a) (stmt_sites x false) a.block,
            few_expr c (each_front (IsGood sc) (sites c a) (stmt_sites x false) g.1),
            few_stmt x false b (each_back (IsGood sc) (sites c a) (stmt_sites x false) g.1),
          )
      few_stmt (tree.if_else c x y) l b g =
          let two = each_front (IsGood sc) (sites c a ++ stmt_sites x false) (stmt_sites y false) g.1 in
          omega (
            arith,
            length-append (actuals_in sc c ++ actuals_in_stmt sc x) (actuals_in_stmt sc y),
            length-append (actuals_in sc c) (actuals_in_stmt sc x),
            cells_both sc.blocks (sites c a ++ stmt_sites x false) (stmt_sites y false) a.block,
            cells_both sc.blocks (sites c a) (stmt_sites x false) a.block,
            few_expr c (each_front (IsGood sc) (sites c a) (stmt_sites x false) two),
            few_stmt x false b.0 (each_back (IsGood sc) (sites c a) (stmt_sites x false) two),
            few_stmt y false b.1 (each_back (IsGood sc) (sites c a ++ stmt_sites x false) (stmt_sites y false) g.1),
          )
      few_stmt (tree.while c x) l b g =
          omega (
            arith,
            length-append (actuals_in sc c) (actuals_in_stmt sc x),
            cells_both sc.blocks (sites c a) (stmt_sites x false) a.block,
            few_expr c (each_front (IsGood sc) (sites c a) (stmt_sites x false) g.1),
            few_stmt x false b (each_back (IsGood sc) (sites c a) (stmt_sites x false) g.1),
          )
      few_stmt (tree.until x c) l b g =
          omega (
            arith,
            length-append (actuals_in_stmt sc x) (actuals_in sc c),
            cells_both sc.blocks (stmt_sites x false) (sites c a) a.block,
            few_stmt x false b (each_front (IsGood sc) (stmt_sites x false) (sites c a) g.1),
            few_expr c (each_back (IsGood sc) (stmt_sites x false) (sites c a) g.1),
          )
      few_stmt (tree.for v x s m z) l b g =
          let three = each_front (IsGood sc) (sites x a ++ sites s a ++ sites m a) (stmt_sites z false) g.1 in
          let two = each_front (IsGood sc) (sites x a ++ sites s a) (sites m a) three in
          omega (
            arith,
            length-append (actuals_in sc x ++ actuals_in sc s ++ actuals_in sc m) (actuals_in_stmt sc z),
            length-append (actuals_in sc x ++ actuals_in sc s) (actuals_in sc m),
            length-append (actuals_in sc x) (actuals_in sc s),
            cells_both sc.blocks (sites x a ++ sites s a ++ sites m a) (stmt_sites z false) a.block,
            cells_both sc.blocks (sites x a ++ sites s a) (sites m a) a.block,
            cells_both sc.blocks (sites x a) (sites s a) a.block,
            few_expr x (each_front (IsGood sc) (sites x a) (sites s a) two),
            few_expr s (each_back (IsGood sc) (sites x a) (sites s a) two),
            few_expr m (each_back (IsGood sc) (sites x a ++ sites s a) (sites m a) three),
            few_stmt z false b (each_back (IsGood sc) (sites x a ++ sites s a ++ sites m a) (stmt_sites z false) g.1),
          )
      few_stmt (tree.thru e x) l b g =
          omega (
            arith,
            length-append (actuals_in sc e) (actuals_in_stmt sc x),
            cells_both sc.blocks (sites e a) (stmt_sites x false) a.block,
            few_expr e (each_front (IsGood sc) (sites e a) (stmt_sites x false) g.1),
            few_stmt x false b (each_back (IsGood sc) (sites e a) (stmt_sites x false) g.1),
          )
      few_stmt (tree.case e ss) l b g =
          omega (
            arith,
            length-append (actuals_in sc e) (actuals_in_stmts sc ss),
            cells_both sc.blocks (sites e a) (sites_in_stmts sc.blocks ss false a) a.block,
            few_expr e (each_front (IsGood sc) (sites e a) (sites_in_stmts sc.blocks ss false a) g.1),
            few_stmts ss false b (each_back (IsGood sc) (sites e a) (sites_in_stmts sc.blocks ss false a) g.1),
          )
      few_stmt (tree.process (tree.called n es) task) l b g =
          few_given (wants_of sc n) (formals_at a n) (call_named n (meant n (started_good n es task l g.0))) es g.1
      few_stmt (tree.event act e) l b g = omega arith
      few_stmt (tree.write n spot phrases es) l b g = few_list es g.1

      pub few_stmts : (ss : PStmts) (listed : Bool) → StmtsSpecified ss → Good (sites_in_stmts sc.blocks ss listed a) → length (actuals_in_stmts sc ss) ≤ many (sites_in_stmts sc.blocks ss listed a) a.block
      few_stmts tree.no_stmts l b g = omega arith
      few_stmts (tree.stmts s ss) l b g =
          omega (
            arith,
            length-append (actuals_in_stmt sc s) (actuals_in_stmts sc ss),
            cells_both sc.blocks (stmt_sites s l) (sites_in_stmts sc.blocks ss l a) a.block,
            few_stmt s l b.0 (each_front (IsGood sc) (stmt_sites s l) (sites_in_stmts sc.blocks ss l a) g),
            few_stmts ss l b.1 (each_back (IsGood sc) (stmt_sites s l) (sites_in_stmts sc.blocks ss l a) g),
          )

  -- ---- declarations, and the body of a procedure

  -- `begun`: what is known at the begin of the block
  pub few_bounds : (j : ℕ) (outer : List Spot) (a : Surroundings) (known : List Declared) (ds : PDecls) → IsAround sc.blocks j outer (record a { known = known }) → DeclsSpecified ds →
      AreGood sc (sites_in_decls sc.blocks ds a known) → FewBounds sc a known ds
  few_bounds j outer a known tree.no_decls r b g = tt
  few_bounds j outer a known (tree.decls (tree.simple kind ns) ds) r b g = few_bounds j outer (knowing sc.blocks (tree.simple kind ns) ds a) known ds r b.1 g.1
  few_bounds j outer a known (tree.decls (tree.files ns) ds) r b g = few_bounds j outer (knowing sc.blocks (tree.files ns) ds a) known ds r b.1 g.1
  few_bounds j outer a known (tree.decls (tree.events ns) ds) r b g = few_bounds j outer (knowing sc.blocks (tree.events ns) ds a) known ds r b.1 g.1
  few_bounds j outer a known (tree.decls (tree.tasks ns) ds) r b g = few_bounds j outer (knowing sc.blocks (tree.tasks ns) ds a) known ds r b.1 g.1
  few_bounds j outer a known (tree.decls (tree.labels ns) ds) r b g = few_bounds j outer (knowing sc.blocks (tree.labels ns) ds a) known ds r b.1 g.1
  few_bounds j outer a known (tree.decls (tree.arrays kind ns pairs) ds) r b g =
      let after : Surroundings = knowing sc.blocks (tree.arrays kind ns pairs) ds a in
      let at : Surroundings = record a { known = known } in
      let its : List Site = sites_in_pairs pairs at in
      let later : List Site = sites_in_decls sc.blocks ds after known in
      (few_pairs j outer at r pairs (each_front (IsGood sc) its later g.1), few_bounds j outer after known ds r b.1 (each_back (IsGood sc) its later g.1))
  few_bounds j outer a known (tree.decls (tree.forward h) ds) r b g = few_bounds j outer (knowing sc.blocks (tree.forward h) ds a) known ds r b.1 g.1
  few_bounds j outer a known (tree.decls (tree.procedure h t) ds) r b g =
      let after : Surroundings = knowing sc.blocks (tree.procedure h t) ds a in
      let c : Surroundings = inside_procedure sc.blocks h after in
      let its : List Site = here_stmt t false c ∷ inside_stmt sc.blocks t of_procedure false c in
      few_bounds j outer after known ds r b.1 (each_back (IsGood sc) its (sites_in_decls sc.blocks ds after known) g.1)
