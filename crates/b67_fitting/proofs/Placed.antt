-- Typed trees fit, where each name that they use has its couple, and each inner block keeps to the limits.
use Rattle.algol_tree.specs.declared.tree.EventName.{EventName}
use Rattle.std.proofs.Common.{arith, ◌≡◌, ◌⊎◌, inl, inr, ℕ, ◌+◌, ◌≤◌, ℤ, Bool, false, true, is_some, List, [], ◌∷◌, ◌++◌, map, length, slice_get, Option, Some, None, refl, sym, ap, ◌∙◌, subst, if◌then◌else◌}
use Rattle.std.specs.List.{AllByRecursion}
use Rattle.algol_tree.specs.declared.TheConstants as limits
use Rattle.algol_tree.specs.declared.token.Spot.{Spot}
use Rattle.algol_tree.specs.declared.tree.Heading.{Heading}
use Rattle.algol_tree.specs.declared.tree.Kind.{Kind}
use Rattle.algol_tree.specs.declared.tree.Kind.TheVariants as types
use Rattle.algol_tree.specs.declared.tree.Named.{Named}
use Rattle.algol_tree.specs.Blocks.{Block, of_statement, block_numbered, number_at, blocks_of, blocks_in_stmts, blocks_in_decls}
use Rattle.algol_tree.specs.Cells.{Cell, first_spot, level_of}
use Rattle.algol_tree.specs.Classes as class
use Rattle.algol_tree.specs.Classes.{Class, Formal}
use Rattle.algol_tree.specs.Counted.{exprs_count}
use Rattle.algol_tree.specs.Plain as tree
use Rattle.algol_tree.specs.Plain.{PExpr, PExprs, PPair, PStmt, PStmts, PDecls}
use Rattle.algol_tree.specs.Scopes.{Scopes, if_named, use_of}
use Rattle.algol_tree.specs.Sites.{Part, name, Site, here, sites, is_of_value, actual_part, inside_expr, inside_actuals, here_stmt, inside_list, inside_stmt, inside_decl, sites_in_pairs, sites_in_stmts, sites_in_decls}
use Rattle.algol_tree.specs.Sorts as sort
use Rattle.algol_tree.specs.Sorts.{Sort, Declared, Parameter, is_variable, is_named_in, sort_in, class_in, parameters_of, formals_of, procedure_in}
use Rattle.algol_tree.specs.Surroundings.{Surroundings, class_of, formals_of_class, formals_at, knowing, knowing_all}
use Rattle.algol_tree.specs.Types.{taken_by}
use Rattle.algol_tree.proofs.Trees.{same_depth}
use Rattle.algol_meaning.specs.Settle.{sorts_of, block_of_sort}
use Rattle.algol_meaning.specs.Statements.{alone}
use Rattle.b67_ops.specs.declared.Couple.{Couple}
use Rattle.b67_ops.specs.declared.TheConstants.{MOST_LEVEL, OUTER_LEVEL}
use Rattle.algol_paths.specs.Arrays.{Shape, shape_in}
use Rattle.b67_templates.specs.Cells.{Simple, Wanted, by_name, parameters_in, parameter_cells, parameter_wants, variables, procedures, made_of, Actual, own_actual, wants_of, actuals_in, actuals_among, actuals_given, actuals_in_pairs, actuals_in_decls, actuals_in_stmt, actuals_in_stmts, actuals_in_block, actuals_of, actual_base}
use Rattle.b67_templates.specs.Fitting.{Told, meant_is_event, EventFits, LabelFits, TaskFits, ReadFits, PlaceFits, NameActualFits, names, ProcedureFits, CallFits, ArrayFits, ExprFits, SubscriptsFit, ActualsFit, LineFits, ElementAssignFits, BoundsFit, DeclsFit, StmtFits, StmtsFit}
use Rattle.b67_list.proofs.Lists.{each_back, each_both, each_front}
use Rattle.b67_fitting.specs.Wholes.{HaveDimensions}
use Rattle.b67_fitting.specs.Typing.{HeadingSpecified, IsArrayActual, IsEventActual, IsEventful, TypedPairs, IsResult, IsLeftSide, TypedStmt, TypedStmts, TypedDecls, AreEventful, IsOf, IsFunction, IsTasked, TypedExpr, TypedActual, TypedActuals, TypedLine}
use Rattle.b67_fitting.proofs.Actuals.{name_alone, event_name}
use Rattle.b67_fitting.proofs.Apart.{IsIn, in_front, in_back}
use Rattle.b67_fitting.proofs.Declares.{begun}
use Rattle.b67_fitting.proofs.Listed as listing
use Rattle.b67_fitting.proofs.Listed.{AllThere, reads_in, lefts_in, IsBlock, Listed, over, passed, turned, site, declared, both, block, procedure}
use Rattle.b67_fitting.proofs.Lists.{map_none}
use Rattle.b67_fitting.proofs.Typed.{as_formal, actual_part_is}
use Rattle.b67_fitting.proofs.Wanting.{wanted_of, wanted_value, wanted_name, wanted_array, wanted_event}
use Rattle.b67_fitting.proofs.Given.{wants_in}
use Rattle.b67_fitting.proofs.Specified.{IsSpecified, as_value, as_name, as_array, as_event, AreSpecified, specified}

-- .. and so is its number
pub same_number : (blocks : List Block) (ds : PDecls) (a : Surroundings) → (knowing_all blocks ds a).block ≡ a.block
same_number blocks tree.no_decls a = refl
same_number blocks (tree.decls d ds) a = same_number blocks ds (knowing blocks d ds a)

-- the blocks keep to the limits
abbrev pub Keep : Scopes → List Block → Type 0
Keep sc blocks =
    (b : Block) → IsIn b blocks →
    (level_of b ≤ MOST_LEVEL) × (length (variables b.decls) + length (procedures b.decls) + length (actuals_in_block sc b.decls b.stmts) + length (made_of b.decls) ≤ limits.MOST_BLOCK_CELLS)

-- in the block with this number, of this level, an actual that has a cell has the couple of it
pub record IsCelled (sc : Scopes) (told : Told) (level j : ℕ) (x : Actual) : Type 0 where
  pub couple : Couple
  pub told_is : told.actuals (first_spot x.expr) ≡ Some couple
  pub number : ℕ
  pub there : slice_get (actuals_of sc (block_numbered sc.blocks j)) number ≡ Some x
  pub outer : OUTER_LEVEL ≤ couple.level
  pub level_is : couple.level ≡ level
  pub index_is : couple.index ≡ actual_base sc (block_numbered sc.blocks j) + number

abbrev pub AreCelled : Scopes → Told → ℕ → ℕ → List Actual → Type 0
AreCelled sc told level j xs = AllByRecursion (IsCelled sc told level j) xs

-- A procedure that is called has its couple, and its block is that of its heading.
pub record CalleeFits (sc : Scopes) (told : Told) (level : ℕ) (n : Named) (h : Heading) : Type 0 where
  pub callee : ℕ
  pub fits : ProcedureFits sc told level n callee
  pub result_is : (block_numbered sc.blocks callee).result ≡ h.kind
  pub parameters_are : (block_numbered sc.blocks callee).parameters ≡ parameters_of h
  pub cells_are : parameter_cells sc (block_numbered sc.blocks callee) ≡ parameters_in h

-- A simple variable or parameter is read, is assigned, and is given for a parameter by name. It is known to be no event.
pub record IsSimpleFor (sc : Scopes) (told : Told) (level : ℕ) (k : Kind) (n : Named) : Type 0 where
  pub reads : ReadFits sc told level k n
  pub place : PlaceFits sc told level k n
  pub given : (j : ℕ) → NameActualFits sc told level j k (alone n)
  pub no_event : meant_is_event (told.meant n.spot) ≡ false

-- An array, or a parameter that stands for one, has its couple, and the lower bounds that are known are its own.
pub record RowFits (sc : Scopes) (told : Told) (level : ℕ) (n : Named) (kind : Kind) (rank : ℕ) : Type 0 where
  pub shape : Shape
  pub fits : ArrayFits sc told level n shape
  pub kind_is : shape.kind ≡ kind
  pub rank_is : length shape.lows ≡ rank
  pub dimensions : HaveDimensions shape.lows

abbrev pub sorts_in : Heading → List Named → List Sort
sorts_in h ns = sorts_of (map (λ (n : Named). record { name = n.name; sort = sort_in h.specs (is_named_in h.values n.name) n.name }) ns)

module _ (blocks : List Block) (sc : Scopes) (told : Told) where
  -- A name that is read or called has its couple. Lower bounds are known of arrays only.
  pub record IsPlaced (a : Surroundings) (n : Named) : Type 0 where
    pub simple : (k : Kind) (level : ℕ) → a.depth + 2 ≡ level → IsOf a k n → IsSimpleFor sc told level k n
    pub array : (k : Kind) (rank level : ℕ) → a.depth + 2 ≡ level → class_of a n ≡ class.array k rank → RowFits sc told level n k rank
    pub called : (h : Heading) (level : ℕ) → a.depth + 2 ≡ level → class_of a n ≡ class.procedure h → CalleeFits sc told level n h
    pub evented : (level : ℕ) → a.depth + 2 ≡ level → IsEventful (class_of a n) → EventFits sc told level n
    pub tasked : (level : ℕ) → a.depth + 2 ≡ level → class_of a n ≡ class.task → TaskFits sc told level (Some n)
    pub labelled : (level : ℕ) → a.depth + 2 ≡ level → class_of a n ≡ class.label → LabelFits sc told level n
    pub simple_alone : (k : Kind) → IsOf a k n → told.lows n.spot ≡ None
    pub called_alone : (h : Heading) → class_of a n ≡ class.procedure h → told.lows n.spot ≡ None
    -- whether the name is that of a procedure
    pub is_simple : (k : Kind) → IsOf a k n → is_some (procedure_in ((use_of sc n).sort)) ≡ false
    pub is_called : (h : Heading) → class_of a n ≡ class.procedure h → is_some (procedure_in ((use_of sc n).sort)) ≡ true

  -- and so has a name on the left
  pub record IsLeftPlaced (a : Surroundings) (n : Named) : Type 0 where
    pub simple : (k : Kind) (level : ℕ) → a.depth + 2 ≡ level → IsOf a k n → PlaceFits sc told level k n
    pub result : (k : Kind) (level : ℕ) → a.depth + 2 ≡ level → IsResult blocks a k n → PlaceFits sc told level k n

  abbrev pub SitePlaced : Site → Type 0
  SitePlaced x = AllByRecursion (IsPlaced x.around) (reads_in x.part) × AllByRecursion (IsLeftPlaced x.around) (lefts_in x.part)

  module _ (a : Surroundings) (level : ℕ) (at : a.depth + 2 ≡ level) where
    fits_name : (k : Kind) (n : Named) → IsPlaced a n → IsOf a k n ⊎ IsFunction a k n →
        (ReadFits sc told level k n ⊎ CallFits sc told level k n) × (told.lows n.spot ≡ None) × (meant_is_event (told.meant n.spot) ≡ false)
    fits_name k n g (inl o) =
        let s = g.simple k level at o in
        (inl s.reads, g.simple_alone k o, s.no_event)
    fits_name k n g (inr f) =
        let c = g.called f.0 level at f.1 in
        (inr (c.callee, c.fits, ap (map (λ (z : Simple). z.wanted)) (c.cells_are ∙ map_none _ f.0.params f.3), c.result_is ∙ f.2), g.called_alone f.0 f.1, ap meant_is_event c.fits.modes)

    fits_left : (k : Kind) (n : Named) → IsLeftPlaced a n → IsLeftSide blocks a k n → PlaceFits sc told level k n
    fits_left k n g (inl o) = g.simple k level at o
    fits_left k n g (inr r) = g.result k level at r

    fits_actuals_of : (n : Named) (es : PExprs) (h : Heading) → (c : CalleeFits sc told level n h) → ActualsFit sc told level a.block (sorts_in h h.params) (wants_in h h.params) es →
        ActualsFit sc told level a.block (sorts_of ((block_numbered sc.blocks c.callee).parameters)) (parameter_wants sc c.callee) es
    fits_actuals_of n es h c f =
        subst (λ (ps : List Parameter). ActualsFit sc told level a.block (sorts_of ps) (parameter_wants sc c.callee) es) (sym c.parameters_are)
        (subst (λ (cs : List Simple). ActualsFit sc told level a.block (sorts_in h h.params) (map (λ (z : Simple). z.wanted) cs) es) (sym c.cells_are) f)

    inside_call : (n : Named) (es : PExprs) (h : Heading) → class_of a n ≡ class.procedure h → AllByRecursion SitePlaced (inside_actuals es (formals_at a n) a) →
        AllByRecursion SitePlaced (inside_actuals es (formals_of h) a)
    inside_call n es h e g = subst (λ (c : Class). AllByRecursion SitePlaced (inside_actuals es (formals_of_class c) a)) e g

    -- a subscript for each lower bound
    fits_subscripts : (ls : List ℤ) → HaveDimensions ls → (es : PExprs) → length ls ≡ exprs_count es → LineFits sc told level a.block es → SubscriptsFit sc told level a.block ls es
    fits_subscripts [] d es c f = absurd d
    fits_subscripts (l ∷ []) d tree.none c f = absurd (omega (arith, c))
    fits_subscripts (l ∷ []) d (tree.more e tree.none) c f = (d, f.0)
    fits_subscripts (l ∷ []) d (tree.more e (tree.more e' es)) c f = absurd (omega (arith, c))
    fits_subscripts (l ∷ m ∷ []) d tree.none c f = absurd (omega (arith, c))
    fits_subscripts (l ∷ m ∷ []) d (tree.more e tree.none) c f = absurd (omega (arith, c))
    fits_subscripts (l ∷ m ∷ []) d (tree.more e (tree.more e' tree.none)) c f = (d.0, f.0, d.1, f.1.0)
    fits_subscripts (l ∷ m ∷ []) d (tree.more e (tree.more e' (tree.more e'' es))) c f = absurd (omega (arith, c))
    fits_subscripts (l ∷ m ∷ k ∷ ls) d es c f = absurd d

    abbrev Celled : List Actual → Type 0
    Celled xs = AreCelled sc told level a.block xs

    celled_front : (xs ys : List Actual) → Celled (xs ++ ys) → Celled xs
    celled_front xs ys h = each_front (IsCelled sc told level a.block) xs ys h

    celled_back : (xs ys : List Actual) → Celled (xs ++ ys) → Celled ys
    celled_back xs ys h = each_back (IsCelled sc told level a.block) xs ys h

    -- the actual of an array parameter is the name of such an array
    fits_array : (h : Heading) (n : Named) (ns : List Named) (shape : Shape) → class_in h.specs n.name ≡ class.array shape.kind (length shape.lows) → shape_in h.specs n.name ≡ Some shape →
        sort_in h.specs (is_named_in h.values n.name) n.name ≡ sort.formal_array shape.lows → (e : PExpr) (es : PExprs) → IsArrayActual a (as_formal h n) e →
        SitePlaced (record { part = actual_part e (Some (as_formal h n)); around = a }) → ActualsFit sc told level a.block (sorts_in h ns) (wants_in h ns) es →
        ActualsFit sc told level a.block (sorts_in h (n ∷ ns)) (wants_in h (n ∷ ns)) (tree.more e es)
    fits_array h n ns shape c s o (tree.variable (tree.subscripted m tree.none)) es t g f =
        let own : SitePlaced (record { part = name m; around = a }) = subst (λ (p : Part). SitePlaced (record { part = p; around = a })) (name_alone m (as_formal h n) t.0 t.1 t.2) g in
        let r = own.0.0.array t.0 t.1 level at t.3 in
        let same : class.array t.0 t.1 ≡ class.array shape.kind (length shape.lows) = sym t.2 ∙ c in
        let kind : t.0 ≡ shape.kind = cc in
        let rank : t.1 ≡ length shape.lows = cc in
        subst (λ (w : Wanted). ActualsFit sc told level a.block (sorts_in h (n ∷ ns)) (w ∷ wants_in h ns) (tree.more (tree.variable (tree.subscripted m tree.none)) es))
        (sym (wanted_array h n shape c s)) (ap is_variable o, (r.shape, r.fits, (r.kind_is ∙ kind, r.rank_is ∙ rank)), f)
    fits_array h n ns shape c s o e es t g f = absurd t

    -- that of an event parameter is the name of an event
    fits_event : (h : Heading) (n : Named) (ns : List Named) → class_in h.specs n.name ≡ class.event → sort_in h.specs (is_named_in h.values n.name) n.name ≡ sort.formal_event → (e : PExpr) (es : PExprs) →
        IsEventActual a (as_formal h n) e → SitePlaced (record { part = actual_part e (Some (as_formal h n)); around = a }) → ActualsFit sc told level a.block (sorts_in h ns) (wants_in h ns) es →
        ActualsFit sc told level a.block (sorts_in h (n ∷ ns)) (wants_in h (n ∷ ns)) (tree.more e es)
    fits_event h n ns c o (tree.variable (tree.subscripted m tree.none)) es t g f =
        let own : SitePlaced (record { part = name m; around = a }) = subst (λ (p : Part). SitePlaced (record { part = p; around = a })) (event_name m (as_formal h n) t.0) g in
        subst (λ (w : Wanted). ActualsFit sc told level a.block (sorts_in h (n ∷ ns)) (w ∷ wants_in h ns) (tree.more (tree.variable (tree.subscripted m tree.none)) es))
        (sym (wanted_event h n c)) (ap is_variable o, own.0.0.evented level at (inl t.1), f)
    fits_event h n ns c o e es t g f = absurd t

    -- an actual is of one parameter only
    no_name : (k : Kind) (f : Formal) → f.class ≡ class.simple k → (e : PExpr) → IsArrayActual a f e ⊎ IsEventActual a f e → ⊥
    no_name k f c (tree.variable (tree.subscripted m tree.none)) (inl t) = (let clash : class.simple k ≡ class.array t.0 t.1 = sym c ∙ t.2 in cc)
    no_name k f c (tree.variable (tree.subscripted m tree.none)) (inr t) = (let clash : class.simple k ≡ class.event = sym c ∙ t.0 in cc)
    no_name k f c e (inl t) = absurd t
    no_name k f c e (inr t) = absurd t

    no_array : (f : Formal) → f.class ≡ class.event → (e : PExpr) → IsArrayActual a f e → ⊥
    no_array f c (tree.variable (tree.subscripted m tree.none)) t = (let clash : class.event ≡ class.array t.0 t.1 = sym c ∙ t.2 in cc)
    no_array f c e t = absurd t

    no_event : (k : Kind) (rank : ℕ) (f : Formal) → f.class ≡ class.array k rank → (e : PExpr) → IsEventActual a f e → ⊥
    no_event k rank f c (tree.variable (tree.subscripted m tree.none)) t = (let clash : class.array k rank ≡ class.event = sym c ∙ t.0 in cc)
    no_event k rank f c e t = absurd t

    -- an actual that has a cell
    celled_fits : (k : Kind) (e : PExpr) → own_actual sc (by_name k) e ≡ record { expr = e; kind = k } ∷ [] → IsCelled sc told level a.block (record { expr = e; kind = k }) →
        NameActualFits sc told level a.block k e
    celled_fits k e own c =
        names c.couple c.told_is (record { own = own; number = c.number; there = c.there; outer = c.outer; level_is = c.level_is; index_is = c.index_is })

    -- what is given for a parameter by name
    named_fits : (k : Kind) (e : PExpr) → TypedExpr a k e → SitePlaced (here e a) → Celled (own_actual sc (by_name k) e) → NameActualFits sc told level a.block k e
    named_fits k (tree.variable (tree.subscripted n tree.none)) (inl o) g c = (g.0.0.simple k level at o).given a.block
    named_fits k (tree.variable (tree.subscripted n tree.none)) (inr f) g c =
        let e = tree.variable (tree.subscripted n tree.none) in
        let own : own_actual sc (by_name k) e ≡ record { expr = e; kind = k } ∷ [] = ap (λ (b : Bool). if b then record { expr = e; kind = k } ∷ [] else []) (g.0.0.is_called f.0 f.1) in
        celled_fits k e own ((subst Celled own c).0)
    named_fits k (tree.variable (tree.subscripted n (tree.more e es))) t g c = celled_fits k (tree.variable (tree.subscripted n (tree.more e es))) refl c.0
    named_fits k (tree.number z spot) t g c = celled_fits k (tree.number z spot) refl c.0
    named_fits k (tree.truth z spot) t g c = celled_fits k (tree.truth z spot) refl c.0
    named_fits k (tree.call d) t g c = celled_fits k (tree.call d) refl c.0
    named_fits k (tree.tested x es spot) t g c = celled_fits k (tree.tested x es spot) refl c.0
    named_fits k (tree.paren e spot) t g c = celled_fits k (tree.paren e spot) refl c.0
    named_fits k (tree.plus e spot) t g c = celled_fits k (tree.plus e spot) refl c.0
    named_fits k (tree.neg e spot) t g c = celled_fits k (tree.neg e spot) refl c.0
    named_fits k (tree.not e spot) t g c = celled_fits k (tree.not e spot) refl c.0
    named_fits k (tree.two op x y) t g c = celled_fits k (tree.two op x y) refl c.0
    named_fits k (tree.if d x y spot) t g c = celled_fits k (tree.if d x y spot) refl c.0

    -- the kind of an actual is the one that is wanted
    kind_of_actual : (k m : Kind) (e : PExpr) (f : Class) → f ≡ class.simple k → f ≡ class.simple m → TypedExpr a m e → TypedExpr a k e
    kind_of_actual k m e f c d t =
        let same : m ≡ k = (let e : class.simple m ≡ class.simple k = sym d ∙ c in cc) in
        subst (λ (z : Kind). TypedExpr a z e) same t

    -- an actual in front of the others
    fits_actual : (h : Heading) (n : Named) (ns : List Named) → IsSpecified h n → (e : PExpr) (es : PExprs) → TypedActual a (as_formal h n) e →
        SitePlaced (record { part = actual_part e (Some (as_formal h n)); around = a }) → Celled (own_actual sc (wanted_of h n) e) →
        ((k : Kind) → TypedExpr a k e → SitePlaced (here e a) → ExprFits sc told level a.block k e) → ActualsFit sc told level a.block (sorts_in h ns) (wants_in h ns) es →
        ActualsFit sc told level a.block (sorts_in h (n ∷ ns)) (wants_in h (n ∷ ns)) (tree.more e es)
    fits_actual h n ns (as_value k c v s) e es (inl t) g own_celled valued f =
        let own : SitePlaced (here e a) = subst (λ (p : Part). SitePlaced (record { part = p; around = a })) (actual_part_is e (Some (as_formal h n)) (ap is_of_value t.1)) g in
        subst (λ (w : Wanted). ActualsFit sc told level a.block (sorts_in h (n ∷ ns)) (w ∷ wants_in h ns) (tree.more e es)) (sym (wanted_value h n k c v))
        (ap is_variable s, valued k (kind_of_actual k t.0 e (class_in h.specs n.name) c t.1 t.2) own, f)
    fits_actual h n ns (as_name k c v s) e es (inl t) g own_celled valued f =
        let own : SitePlaced (here e a) = subst (λ (p : Part). SitePlaced (record { part = p; around = a })) (actual_part_is e (Some (as_formal h n)) (ap is_of_value t.1)) g in
        let typed = kind_of_actual k t.0 e (class_in h.specs n.name) c t.1 t.2 in
        subst (λ (w : Wanted). ActualsFit sc told level a.block (sorts_in h (n ∷ ns)) (w ∷ wants_in h ns) (tree.more e es)) (sym (wanted_name h n k c v))
        (ap is_variable s, named_fits k e typed own (subst (λ (w : Wanted). Celled (own_actual sc w e)) (wanted_name h n k c v) own_celled), valued k typed own, f)
    fits_actual h n ns (as_value k c v s) e es (inr t) g own_celled valued f = absurd (no_name k (as_formal h n) c e t)
    fits_actual h n ns (as_name k c v s) e es (inr t) g own_celled valued f = absurd (no_name k (as_formal h n) c e t)
    fits_actual h n ns (as_array shape c s o) e es (inl t) g own_celled valued f = absurd (let clash : class.simple t.0 ≡ class.array shape.kind (length shape.lows) = sym t.1 ∙ c in cc)
    fits_actual h n ns (as_array shape c s o) e es (inr (inl t)) g own_celled valued f = fits_array h n ns shape c s o e es t g f
    fits_actual h n ns (as_array shape c s o) e es (inr (inr t)) g own_celled valued f = absurd (no_event shape.kind (length shape.lows) (as_formal h n) c e t)
    fits_actual h n ns (as_event c s o) e es (inl t) g own_celled valued f = absurd (let clash : class.simple t.0 ≡ class.event = sym t.1 ∙ c in cc)
    fits_actual h n ns (as_event c s o) e es (inr (inl t)) g own_celled valued f = absurd (no_array (as_formal h n) c e t)
    fits_actual h n ns (as_event c s o) e es (inr (inr t)) g own_celled valued f = fits_event h n ns c o e es t g f

    -- what the procedure of that name wants
    called_wants : (n : Named) (es : PExprs) (h : Heading) (c : CalleeFits sc told level n h) → Celled (actuals_given sc (wants_of sc n) es) → Celled (actuals_given sc (wants_in h h.params) es)
    called_wants n es h c x =
        let callee : block_of_sort ((use_of sc n).sort) ≡ c.callee = ap block_of_sort c.fits.procedure.sort_is in
        subst (λ (cs : List Simple). Celled (actuals_given sc (map (λ (z : Simple). z.wanted) cs) es)) c.cells_are
        (subst (λ (k : ℕ). Celled (actuals_given sc (parameter_wants sc k) es)) callee x)

    fits_events : (ns : List Named) → AllByRecursion (IsPlaced a) ns → AreEventful a ns → AllByRecursion (EventFits sc told level) ns
    fits_events [] g t = tt
    fits_events (n ∷ ns) g t = (g.0.evented level at t.0, fits_events ns g.1 t.1)

    mutual
      fits_expr : (k : Kind) (e : PExpr) → TypedExpr a k e → AllByRecursion SitePlaced (sites e a) → Celled (actuals_in sc e) → ExprFits sc told level a.block k e
      fits_expr k (tree.number z spot) t g x = t
      fits_expr k (tree.truth b spot) t g x = t
      fits_expr k (tree.variable (tree.subscripted n tree.none)) t g x = fits_name k n g.0.0.0 t
      fits_expr k (tree.variable (tree.subscripted n (tree.more e es))) t g x =
          let r = g.0.0.0.array k (exprs_count (tree.more e es)) level at t.0 in
          (r.shape, r.fits, r.kind_is, fits_subscripts r.shape.lows r.dimensions (tree.more e es) r.rank_is (fits_line (tree.more e es) t.1 g.1 x))
      fits_expr k (tree.call (tree.called n es)) t g x =
          let c = g.0.0.0.called t.0 level at t.1 in
          (c.callee, c.fits, fits_actuals_of n es t.0 c (fits_actuals t.0 t.0.params (specified t.0 t.2) es t.4 (inside_call n es t.0 t.1 g.1) (called_wants n es t.0 c x)), c.result_is ∙ t.3)
      fits_expr k (tree.tested z es spot) t g x = (t.0, t.1, fits_events (map (λ (e : EventName). e.name) es) g.0.0 t.2)
      fits_expr k (tree.paren e spot) t g x = fits_expr k e t g.1 x
      fits_expr k (tree.plus e spot) t g x = (t.0, fits_expr types.Number e t.1 g.1 x)
      fits_expr k (tree.neg e spot) t g x = (t.0, fits_expr types.Number e t.1 g.1 x)
      fits_expr k (tree.not e spot) t g x = (t.0, fits_expr types.Truth e t.1 g.1 x)
      fits_expr k (tree.two op y z) t g x = (
        t.0,
        fits_expr (taken_by op) y t.1 (each_front SitePlaced (sites y a) (sites z a) g.1) (celled_front (actuals_in sc y) (actuals_in sc z) x),
        fits_expr (taken_by op) z t.2 (each_back SitePlaced (sites y a) (sites z a) g.1) (celled_back (actuals_in sc y) (actuals_in sc z) x),
      )
      fits_expr k (tree.if c y z spot) t g x =
          let front = each_front SitePlaced (sites c a ++ sites y a) (sites z a) g.1 in
          let two = celled_front (actuals_in sc c ++ actuals_in sc y) (actuals_in sc z) x in (
            fits_expr types.Truth c t.0 (each_front SitePlaced (sites c a) (sites y a) front) (celled_front (actuals_in sc c) (actuals_in sc y) two),
            fits_expr k y t.1 (each_back SitePlaced (sites c a) (sites y a) front) (celled_back (actuals_in sc c) (actuals_in sc y) two),
            fits_expr k z t.2 (each_back SitePlaced (sites c a ++ sites y a) (sites z a) g.1) (celled_back (actuals_in sc c ++ actuals_in sc y) (actuals_in sc z) x),
          )

      fits_actuals : (h : Heading) (ns : List Named) → AreSpecified h ns → (es : PExprs) → TypedActuals a (map (as_formal h) ns) es →
          AllByRecursion SitePlaced (inside_actuals es (map (as_formal h) ns) a) → Celled (actuals_given sc (wants_in h ns) es) → ActualsFit sc told level a.block (sorts_in h ns) (wants_in h ns) es
      fits_actuals h [] v tree.none t g x = tt
      fits_actuals h [] v (tree.more e es) t g x = absurd t
      fits_actuals h (n ∷ ns) v tree.none t g x = absurd t
      fits_actuals h (n ∷ ns) v (tree.more e es) t g x =
          let rest = inside_actuals es (map (as_formal h) ns) a in
          let own = own_actual sc (wanted_of h n) e in
          let later = actuals_given sc (wants_in h ns) es in
          let two = celled_front (own ++ actuals_in sc e) later x in
          fits_actual h n ns v.0 e es t.0 g.1.0 (celled_front own (actuals_in sc e) two)
          (λ k typed own_placed. fits_expr k e typed (own_placed, each_front SitePlaced (inside_expr e a) rest g.1.1) (celled_back own (actuals_in sc e) two))
          (fits_actuals h ns v.1 es t.1 (each_back SitePlaced (inside_expr e a) rest g.1.1) (celled_back (own ++ actuals_in sc e) later x))

      fits_line : (es : PExprs) → TypedLine a es → AllByRecursion SitePlaced (inside_list es a) → Celled (actuals_among sc es) → LineFits sc told level a.block es
      fits_line tree.none t g x = tt
      fits_line (tree.more e es) t g x =
          (fits_expr types.Number e t.0 (each_front SitePlaced (sites e a) (inside_list es a) g) (celled_front (actuals_in sc e) (actuals_among sc es) x), fits_line es t.1 (each_back SitePlaced (sites e a) (inside_list es a) g) (celled_back (actuals_in sc e) (actuals_among sc es) x))

    fits_call : (n : Named) (es : PExprs) (h : Heading) → class_of a n ≡ class.procedure h → HeadingSpecified h → TypedActuals a (formals_of h) es → (c : CalleeFits sc told level n h) →
        AllByRecursion SitePlaced (inside_actuals es (formals_at a n) a) → Celled (actuals_given sc (wants_of sc n) es) →
        ActualsFit sc told level a.block (sorts_of ((block_numbered sc.blocks c.callee).parameters)) (parameter_wants sc c.callee) es
    fits_call n es h e b t c g x = fits_actuals_of n es h c (fits_actuals h h.params (specified h b) es t (inside_call n es h e g) (called_wants n es h c x))

    -- the task of a process
    fits_task : (task : Option Named) → IsTasked a task → AllByRecursion (IsPlaced a) (if_named task) → TaskFits sc told level task
    fits_task None t g = tt
    fits_task (Some m) t g = g.0.tasked level at t

    -- the value of an element has the kind of the array
    fits_element : (k : Kind) (n : Named) (es : PExprs) (v : PExpr) → RowFits sc told level n k (exprs_count es) → LineFits sc told level a.block es →
        ExprFits sc told level a.block k v → ElementAssignFits sc told level a.block n es v
    fits_element k n es v r f w =
        (r.shape, r.fits, fits_subscripts r.shape.lows r.dimensions es r.rank_is f, subst (λ (m : Kind). ExprFits sc told level a.block m v) (sym r.kind_is) w)

    fits_pairs : (ps : List PPair) → TypedPairs a ps → AllByRecursion SitePlaced (sites_in_pairs ps a) → Celled (actuals_in_pairs sc ps) → BoundsFit sc told level a.block ps
    fits_pairs [] t g x = tt
    fits_pairs (p ∷ ps) t g x = (
      t.0,
      fits_expr types.Number p.high t.1 (each_front SitePlaced (sites p.high a) (sites_in_pairs ps a) g.1) (celled_front (actuals_in sc p.high) (actuals_in_pairs sc ps) x),
      fits_pairs ps t.2 (each_back SitePlaced (sites p.high a) (sites_in_pairs ps a) g.1) (celled_back (actuals_in sc p.high) (actuals_in_pairs sc ps) x),
    )

  -- the bounds of the arrays, at the block's own level
  fits_decls : (a : Surroundings) (first : List Declared) (level : ℕ) → a.depth + 2 ≡ level → (ds : PDecls) → TypedDecls blocks a first ds →
      AllByRecursion SitePlaced (sites_in_decls blocks ds a first) → AreCelled sc told level a.block (actuals_in_decls sc ds) → DeclsFit sc told level a.block ds
  fits_decls a first level at tree.no_decls t g x = tt
  fits_decls a first level at (tree.decls (tree.arrays kind ns pairs) ds) t g x =
      let d = tree.arrays kind ns pairs in
      let begin : Surroundings = record a { known = first } in
      let behind = knowing blocks d ds a in
      let own = sites_in_pairs pairs begin in
      let others = sites_in_decls blocks ds behind first in
      let mine = actuals_in_pairs sc pairs in
      let later = actuals_in_decls sc ds in (
        t.1.0,
        fits_pairs begin level at pairs t.1.1 (each_front SitePlaced own others g.1) (each_front (IsCelled sc told level a.block) mine later x),
        fits_decls behind first level at ds t.2 (each_back SitePlaced own others g.1) (each_back (IsCelled sc told level a.block) mine later x),
        t.1.2,
      )
  fits_decls a first level at (tree.decls (tree.simple kind ns) ds) t g x = fits_decls (knowing blocks (tree.simple kind ns) ds a) first level at ds t.2 g.1 x
  fits_decls a first level at (tree.decls (tree.files ns) ds) t g x = fits_decls (knowing blocks (tree.files ns) ds a) first level at ds t.2 g.1 x
  fits_decls a first level at (tree.decls (tree.events ns) ds) t g x = fits_decls (knowing blocks (tree.events ns) ds a) first level at ds t.2 g.1 x
  fits_decls a first level at (tree.decls (tree.tasks ns) ds) t g x = fits_decls (knowing blocks (tree.tasks ns) ds a) first level at ds t.2 g.1 x
  fits_decls a first level at (tree.decls (tree.labels ns) ds) t g x = fits_decls (knowing blocks (tree.labels ns) ds a) first level at ds t.2 g.1 x
  fits_decls a first level at (tree.decls (tree.forward h) ds) t g x = fits_decls (knowing blocks (tree.forward h) ds a) first level at ds t.2 g.1 x
  fits_decls a first level at (tree.decls (tree.procedure h s) ds) t g x =
      let behind = knowing blocks (tree.procedure h s) ds a in
      fits_decls behind first level at ds t.2 (each_back SitePlaced (inside_decl blocks (tree.procedure h s) behind first) (sites_in_decls blocks ds behind first) g.1) x

  -- In each block the actuals that have cells have their couples.
  abbrev pub Actuals : List Block → Type 0
  Actuals bs = (b : Block) → IsIn b bs → AreCelled sc told (level_of b) (number_at blocks b.spot) (actuals_of sc b)

  module _ (same_blocks : sc.blocks ≡ blocks) (keeps : Keep sc blocks) (celled : Actuals blocks) where
    abbrev stmt_sites : Surroundings → PStmt → Bool → List Site
    stmt_sites a s listed = here_stmt s listed a ∷ inside_stmt blocks s of_statement listed a

    -- of statements in that block
    abbrev CelledIn : ℕ → ℕ → List Actual → Type 0
    CelledIn level j xs = AreCelled sc told level j xs

    front_of : (level j : ℕ) (xs ys : List Actual) → CelledIn level j (xs ++ ys) → CelledIn level j xs
    front_of level j xs ys h = each_front (IsCelled sc told level j) xs ys h

    back_of : (level j : ℕ) (xs ys : List Actual) → CelledIn level j (xs ++ ys) → CelledIn level j ys
    back_of level j xs ys h = each_back (IsCelled sc told level j) xs ys h

    mutual
      fits_stmt : (b : Block) (a : Surroundings) (level : ℕ) → a.depth ≡ length b.outer → a.depth + 2 ≡ level → (s : PStmt) (listed : Bool) → TypedStmt blocks of_statement a s →
          AllThere blocks (blocks_of s of_statement (b.spot ∷ b.outer)) → AllByRecursion SitePlaced (stmt_sites a s listed) → CelledIn level a.block (actuals_in_stmt sc s) →
          StmtFits sc told level a.block s
      fits_stmt b a level d at tree.empty l t f g x = tt
      fits_stmt b a level d at (tree.label n s) l t f g x = (g.0.0.0.labelled level at t.0, fits_stmt b a level d at s l t.1 f g.1 x)
      fits_stmt b a level d at (tree.assign (tree.subscripted n tree.none) e) l t f g x = (t.0, fits_left a level at t.0 n g.0.1.0 t.1, fits_expr a level at t.0 e t.2 g.1 x)
      fits_stmt b a level d at (tree.assign (tree.subscripted n (tree.more e es)) v) l t f g x =
          let r = g.0.0.0.array t.0 (exprs_count (tree.more e es)) level at t.1 in
          let these = inside_list (tree.more e es) a in
          let mine = actuals_among sc (tree.more e es) in
          fits_element a level at t.0 n (tree.more e es) v r (fits_line a level at (tree.more e es) t.2 (each_front SitePlaced these (sites v a) g.1) (front_of level a.block mine (actuals_in sc v) x))
          (fits_expr a level at t.0 v t.3 (each_back SitePlaced these (sites v a) g.1) (back_of level a.block mine (actuals_in sc v) x))
      fits_stmt b a level d at (tree.call_of (tree.called n es)) l t f g x =
          let c = g.0.0.0.called t.0 level at t.1 in
          (c.callee, c.fits, fits_call a level at n es t.0 t.1 t.2 t.3 c g.1 x)
      fits_stmt b a level d at (tree.go_to n) l t f g x = g.0.0.0.labelled level at t
      fits_stmt b a level d at (tree.block (tree.body spot tree.no_decls ss)) l t f g x = fits_stmts b a level d at ss false t.1 f g.1 x
      fits_stmt b a level d at (tree.block (tree.body spot (tree.decls e es) ss)) l t f g x =
          let c = begun spot (b.spot ∷ b.outer) (tree.decls e es) ss in
          let begin : Surroundings = record { block = number_at blocks spot; depth = a.depth + 1; known = a.known } in
          let within = knowing_all blocks (tree.decls e es) begin in
          let decl_blocks = blocks_in_decls (tree.decls e es) (spot ∷ b.spot ∷ b.outer) in
          let stmt_blocks = blocks_in_stmts ss (spot ∷ b.spot ∷ b.outer) in
          let kept = keeps c (f c (inl refl)) in
          let low : level + 1 ≤ MOST_LEVEL = omega (arith, kept.0, d, at) in
          let deep : within.depth ≡ length c.outer = omega (arith, d, same_depth blocks (tree.decls e es) begin) in
          let deeper : within.depth + 2 ≡ level + 1 = omega (arith, at, same_depth blocks (tree.decls e es) begin) in
          let own_level : level_of c ≡ level + 1 = omega (arith, at, d) in
          let own : CelledIn (level + 1) (number_at blocks spot) (actuals_of sc c) = subst (λ (m : ℕ). CelledIn m (number_at blocks spot) (actuals_of sc c)) own_level (celled c (f c (inl refl))) in
          let number : number_at blocks spot ≡ number_at sc.blocks spot = ap (λ (z : List Block). number_at z spot) (sym same_blocks) in
          let in_decls : CelledIn (level + 1) begin.block (actuals_in_decls sc (tree.decls e es)) = front_of (level + 1) (number_at blocks spot) (actuals_in_decls sc (tree.decls e es)) (actuals_in_stmts sc ss) own in
          let in_stmts : CelledIn (level + 1) within.block (actuals_in_stmts sc ss) =
          subst (λ (k : ℕ). CelledIn (level + 1) k (actuals_in_stmts sc ss)) (sym (same_number blocks (tree.decls e es) begin))
          (back_of (level + 1) (number_at blocks spot) (actuals_in_decls sc (tree.decls e es)) (actuals_in_stmts sc ss) own) in
          let declared =
          fits_decls begin a.known (level + 1) (omega (arith, at)) (tree.decls e es) t.0
          (each_front SitePlaced (sites_in_decls blocks (tree.decls e es) begin a.known) (sites_in_stmts blocks ss true within) g.1) in_decls in
          let stated =
          fits_stmts c within (level + 1) deep deeper ss true t.1 (λ y i. f y (inr (in_back y decl_blocks stmt_blocks i)))
          (each_back SitePlaced (sites_in_decls blocks (tree.decls e es) begin a.known) (sites_in_stmts blocks ss true within) g.1) in_stmts in (
            (low, kept.1),
            subst (λ (k : ℕ). DeclsFit sc told (level + 1) k (tree.decls e es)) number declared,
            subst (λ (k : ℕ). StmtsFit sc told (level + 1) k ss) (same_number blocks (tree.decls e es) begin ∙ number) stated,
          )
      fits_stmt b a level d at (tree.if_then c y) l t f g x =
          let ones = actuals_in sc c in
          let others = actuals_in_stmt sc y in (
            fits_expr a level at types.Truth c t.0 (each_front SitePlaced (sites c a) (stmt_sites a y false) g.1) (front_of level a.block ones others x),
            fits_stmt b a level d at y false t.1 f (each_back SitePlaced (sites c a) (stmt_sites a y false) g.1) (back_of level a.block ones others x),
          )
      fits_stmt b a level d at (tree.if_else c y z) l t f g x =
          let these = blocks_of y of_statement (b.spot ∷ b.outer) in
          let those = blocks_of z of_statement (b.spot ∷ b.outer) in
          let front = each_front SitePlaced (sites c a ++ stmt_sites a y false) (stmt_sites a z false) g.1 in
          let two = front_of level a.block (actuals_in sc c ++ actuals_in_stmt sc y) (actuals_in_stmt sc z) x in (
            fits_expr a level at types.Truth c t.0 (each_front SitePlaced (sites c a) (stmt_sites a y false) front) (front_of level a.block (actuals_in sc c) (actuals_in_stmt sc y) two),
            fits_stmt b a level d at y false t.1 (λ w i. f w (in_front w these those i)) (each_back SitePlaced (sites c a) (stmt_sites a y false) front)
                (back_of level a.block (actuals_in sc c) (actuals_in_stmt sc y) two),
            fits_stmt b a level d at z false t.2 (λ w i. f w (in_back w these those i)) (each_back SitePlaced (sites c a ++ stmt_sites a y false) (stmt_sites a z false) g.1)
                (back_of level a.block (actuals_in sc c ++ actuals_in_stmt sc y) (actuals_in_stmt sc z) x),
          )
      fits_stmt b a level d at (tree.while c z) l t f g x =
          let ones = actuals_in sc c in
          let others = actuals_in_stmt sc z in (
            fits_expr a level at types.Truth c t.0 (each_front SitePlaced (sites c a) (stmt_sites a z false) g.1) (front_of level a.block ones others x),
            fits_stmt b a level d at z false t.1 f (each_back SitePlaced (sites c a) (stmt_sites a z false) g.1) (back_of level a.block ones others x),
          )
      fits_stmt b a level d at (tree.until z c) l t f g x =
          let ones = actuals_in_stmt sc z in
          let others = actuals_in sc c in (
            fits_stmt b a level d at z false t.0 f (each_front SitePlaced (stmt_sites a z false) (sites c a) g.1) (front_of level a.block ones others x),
            fits_expr a level at types.Truth c t.1 (each_back SitePlaced (stmt_sites a z false) (sites c a) g.1) (back_of level a.block ones others x),
          )
      fits_stmt b a level d at (tree.for v y s m z) l t f g x =
          let three = each_front SitePlaced (sites y a ++ sites s a ++ sites m a) (stmt_sites a z false) g.1 in
          let two = each_front SitePlaced (sites y a ++ sites s a) (sites m a) three in
          let of_three = front_of level a.block (actuals_in sc y ++ actuals_in sc s ++ actuals_in sc m) (actuals_in_stmt sc z) x in
          let of_two = front_of level a.block (actuals_in sc y ++ actuals_in sc s) (actuals_in sc m) of_three in
          let control = g.0.0.0.simple types.Number level at t.0 in (
            control.reads,
            control.place,
            fits_expr a level at types.Number y t.1 (each_front SitePlaced (sites y a) (sites s a) two) (front_of level a.block (actuals_in sc y) (actuals_in sc s) of_two),
            fits_expr a level at types.Number s t.2 (each_back SitePlaced (sites y a) (sites s a) two) (back_of level a.block (actuals_in sc y) (actuals_in sc s) of_two),
            fits_expr a level at types.Number m t.3 (each_back SitePlaced (sites y a ++ sites s a) (sites m a) three) (back_of level a.block (actuals_in sc y ++ actuals_in sc s) (actuals_in sc m) of_three),
            fits_stmt b a level d at z false t.4 f (each_back SitePlaced (sites y a ++ sites s a ++ sites m a) (stmt_sites a z false) g.1)
                (back_of level a.block (actuals_in sc y ++ actuals_in sc s ++ actuals_in sc m) (actuals_in_stmt sc z) x),
          )
      fits_stmt b a level d at (tree.thru e z) l t f g x =
          let ones = actuals_in sc e in
          let others = actuals_in_stmt sc z in (
            fits_expr a level at types.Number e t.0 (each_front SitePlaced (sites e a) (stmt_sites a z false) g.1) (front_of level a.block ones others x),
            fits_stmt b a level d at z false t.1 f (each_back SitePlaced (sites e a) (stmt_sites a z false) g.1) (back_of level a.block ones others x),
          )
      fits_stmt b a level d at (tree.case e ss) l t f g x =
          let ones = actuals_in sc e in
          let others = actuals_in_stmts sc ss in (
            fits_expr a level at types.Number e t.0 (each_front SitePlaced (sites e a) (sites_in_stmts blocks ss false a) g.1) (front_of level a.block ones others x),
            fits_stmts b a level d at ss false t.1 f (each_back SitePlaced (sites e a) (sites_in_stmts blocks ss false a) g.1) (back_of level a.block ones others x),
          )
      fits_stmt b a level d at (tree.process (tree.called n es) task) l t f g x =
          let c = g.0.0.0.called t.0 level at t.1 in
          (c.callee, c.fits, fits_call a level at n es t.0 t.1 t.2 t.3 c g.1 x, c.result_is ∙ t.4, fits_task a level at task t.5 g.0.0.1)
      fits_stmt b a level d at (tree.event act e) l t f g x = g.0.0.0.evented level at t
      fits_stmt b a level d at (tree.write n spot phrases es) l t f g x = (t.0, t.1, fits_line a level at es t.2 g.1 x)

      pub fits_stmts : (b : Block) (a : Surroundings) (level : ℕ) → a.depth ≡ length b.outer → a.depth + 2 ≡ level → (ss : PStmts) (listed : Bool) → TypedStmts blocks a ss →
          AllThere blocks (blocks_in_stmts ss (b.spot ∷ b.outer)) → AllByRecursion SitePlaced (sites_in_stmts blocks ss listed a) → CelledIn level a.block (actuals_in_stmts sc ss) →
          StmtsFit sc told level a.block ss
      fits_stmts b a level d at tree.no_stmts l t f g x = tt
      fits_stmts b a level d at (tree.stmts s ss) l t f g x =
          let ones = actuals_in_stmt sc s in
          let others = actuals_in_stmts sc ss in (
            fits_stmt b a level d at s l t.0 (λ y i. f y (in_front y (blocks_of s of_statement (b.spot ∷ b.outer)) (blocks_in_stmts ss (b.spot ∷ b.outer)) i))
                (each_front SitePlaced (stmt_sites a s l) (sites_in_stmts blocks ss l a) g) (front_of level a.block ones others x),
            fits_stmts b a level d at ss l t.1 (λ y i. f y (in_back y (blocks_of s of_statement (b.spot ∷ b.outer)) (blocks_in_stmts ss (b.spot ∷ b.outer)) i))
                (each_back SitePlaced (stmt_sites a s l) (sites_in_stmts blocks ss l a) g) (back_of level a.block ones others x),
          )

    -- each block's declarations and statements fit its level
    abbrev pub BlockFits : Block → Type 0
    BlockFits b = DeclsFit sc told (level_of b) (number_at blocks b.spot) b.decls × StmtsFit sc told (level_of b) (number_at blocks b.spot) b.stmts

    block_fits : (b : Block) (own : List Cell) (xs : List Site) → IsBlock blocks b own xs → AllByRecursion SitePlaced xs → BlockFits b
    block_fits b own xs i g =
        let declared = sites_in_decls blocks b.decls i.begin i.begin.known in
        let stated = sites_in_stmts blocks b.stmts i.listed i.around in
        let all = subst (AllByRecursion SitePlaced) i.sites_are g in
        let front = each_back SitePlaced i.front declared (each_front SitePlaced (i.front ++ declared) stated all) in
        let last = each_back SitePlaced (i.front ++ declared) stated all in
        let level = level_of b in
        let k = number_at blocks b.spot in
        let its = celled b i.there in
        let in_decls : CelledIn level i.begin.block (actuals_in_decls sc b.decls) =
        subst (λ (m : ℕ). CelledIn level m (actuals_in_decls sc b.decls)) (sym i.begins.block_is) (front_of level k (actuals_in_decls sc b.decls) (actuals_in_stmts sc b.stmts) its) in
        let in_stmts : CelledIn level i.around.block (actuals_in_stmts sc b.stmts) =
        subst (λ (m : ℕ). CelledIn level m (actuals_in_stmts sc b.stmts)) (sym i.stands.block_is) (back_of level k (actuals_in_decls sc b.decls) (actuals_in_stmts sc b.stmts) its) in (
          subst (λ (m : ℕ). DeclsFit sc told level m b.decls) i.begins.block_is
              (fits_decls i.begin i.begin.known level (ap (λ (n : ℕ). n + 2) i.begins.depth_is) b.decls i.declares front in_decls),
          subst (λ (m : ℕ). StmtsFit sc told level m b.stmts) i.stands.block_is
              (fits_stmts b i.around level i.stands.depth_is (ap (λ (n : ℕ). n + 2) i.stands.depth_is) b.stmts i.listed i.typed i.inner last in_stmts),
        )

    pub all_fit : {k : ℕ} {spots : List Spot} {own : List Cell} {bs : List Block} {xs : List Site} → Listed blocks k spots own bs xs → AllByRecursion SitePlaced xs → AllByRecursion BlockFits bs
    all_fit (over k) g = tt
    all_fit (passed k spot l) g = all_fit l g
    all_fit (turned k spot p q l) g = all_fit l g
    all_fit (site k x f l) g = all_fit l g.1
    all_fit (listing.given k x c f m l) g = tt
    all_fit (listing.left k a n e listed b s l) g = all_fit l g.1
    all_fit (declared k x spots new f l) g = all_fit l g.1
    all_fit (both k {bs = bs} {cs = cs} {xs = xs} {ys = ys} i j) g = each_both BlockFits bs cs (all_fit i (each_front SitePlaced xs ys g)) (all_fit j (each_back SitePlaced xs ys g))
    all_fit (block k b {own = own} {xs = xs} e i l) g = (block_fits b own xs i g, all_fit l g)
    all_fit (procedure k x b more {own = own} {xs = xs} f i l) g = (block_fits b own xs i g.1, all_fit l g.1)
