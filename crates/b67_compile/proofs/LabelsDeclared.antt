-- What is known as a label is one that a block declares.
use Rattle.std.proofs.Common.{◌≡◌, inl, inr, ℕ, ◌+◌, Bool, true, false, List, [], ◌∷◌, ◌++◌, map, length, Option, Some, None, refl, subst, if◌then◌else◌}
use Rattle.std.specs.List.{flat_map, AllByRecursion}
use Rattle.algol_tree.specs.declared.token.Spot.{Spot}
use Rattle.algol_tree.specs.declared.tree.Heading.{Heading}
use Rattle.algol_tree.specs.declared.tree.Named.{Named}
use Rattle.algol_tree.specs.declared.tree.Spec.{Spec}
use Rattle.algol_tree.specs.declared.tree.Spec.TheVariants as spec
use Rattle.algol_tree.specs.Accepted.{sites_of}
use Rattle.algol_tree.specs.Blocks.{Block, of_statement, of_procedure, blocks_of, blocks_in_stmts, blocks_in_decls, blocks_of_program, number_at, procedure_block, outer_block}
use Rattle.algol_tree.specs.Classes as class
use Rattle.algol_tree.specs.Classes.{Class, Formal}
use Rattle.algol_tree.specs.Couples.{known_at, known_there}
use Rattle.algol_tree.specs.Plain as tree
use Rattle.algol_tree.specs.Plain.{PExpr, PExprs, PPair, PStmt, PStmts, PDecl, PDecls, PProgram, name_alone}
use Rattle.algol_tree.specs.Sites as site
use Rattle.algol_tree.specs.Sites.{Part, Site, actual_part_by, first_formal, other_formals, name_part, wants_value, sites, inside_expr, inside_list, inside_actuals, sites_in_pairs, here_stmt, has_decls, inside_stmt, sites_in_stmts, inside_decl, sites_in_decls}
use Rattle.algol_tree.specs.Sorts as sort
use Rattle.algol_tree.specs.Sorts.{Declared, Sort, specified_by, class_by, class_in, sort_in, is_named_in, declare, declared_parameters}
use Rattle.algol_tree.specs.Surroundings.{Surroundings, outermost, formals_at, announced, made_known, knowing, knowing_all, inside_procedure}
use Rattle.algol_told.specs.Parameters.{PartHas, HasAt}
use Rattle.algol_told.proofs.Lists.{all_append}
use Rattle.algol_told.proofs.Walk.{all_hold}
use Rattle.b67_templates.specs.Labels.{labels_in}
use Rattle.b67_fitting.proofs.Apart.{IsIn, in_front, in_back}
use Rattle.b67_list.proofs.Lists.{each_both}
use Rattle.b67_compile.proofs.Everywhere.{everywhere}

abbrev pub is_block : PStmt → Bool
is_block (tree.block b) = true
is_block s = false

module _ (blocks : List Block) where
  -- a label is declared there
  pub record InBlocks (spot : Spot) : Type 0 where
    pub in_block : Block
    pub there : IsIn in_block blocks
    pub one : Named
    pub among : IsIn one (labels_in in_block.decls)
    pub at : one.spot ≡ spot

  -- each label of a declaration is
  abbrev AreLabels : PDecl → PDecls → Type 0
  AreLabels (tree.labels ns) later = AllByRecursion (λ (n : Named). InBlocks n.spot) ns
  AreLabels _ later = Unit {0}

  abbrev Have : List Site → Type 0
  Have xs = AllByRecursion (HasAt AreLabels) xs

  have_both : (xs ys : List Site) → Have xs → Have ys → Have (xs ++ ys)
  have_both xs ys f g = each_both (HasAt AreLabels) xs ys f g

  -- ---- no label is declared in an expression

  name_has : (n : Named) (b : Bool) → PartHas AreLabels (name_part n b)
  name_has n true = tt
  name_has n false = tt

  actual_has : (o : Option Named) (e : PExpr) (f : Option Formal) → PartHas AreLabels (actual_part_by o e f)
  actual_has (Some n) e f = name_has n (wants_value f)
  actual_has None e f = tt

  mutual
    expr_has : (e : PExpr) (a : Surroundings) → Have (inside_expr e a)
    expr_has (tree.variable (tree.subscripted n es)) a = list_has es a
    expr_has (tree.call (tree.called n es)) a = actuals_have es (formals_at a n) a
    expr_has (tree.paren e spot) a = (tt, expr_has e a)
    expr_has (tree.plus e spot) a = (tt, expr_has e a)
    expr_has (tree.neg e spot) a = (tt, expr_has e a)
    expr_has (tree.not e spot) a = (tt, expr_has e a)
    expr_has (tree.two op x y) a = have_both (sites x a) (sites y a) (tt, expr_has x a) (tt, expr_has y a)
    expr_has (tree.if c x y spot) a = have_both (sites c a ++ sites x a) (sites y a) (have_both (sites c a) (sites x a) (tt, expr_has c a) (tt, expr_has x a)) (tt, expr_has y a)
    expr_has e a = tt

    list_has : (es : PExprs) (a : Surroundings) → Have (inside_list es a)
    list_has tree.none a = tt
    list_has (tree.more e es) a = have_both (sites e a) (inside_list es a) (tt, expr_has e a) (list_has es a)

    actuals_have : (es : PExprs) (fs : List Formal) (a : Surroundings) → Have (inside_actuals es fs a)
    actuals_have tree.none fs a = tt
    actuals_have (tree.more e es) fs a =
        (tt, (actual_has (name_alone e) e (first_formal fs), have_both (inside_expr e a) (inside_actuals es (other_formals fs) a) (expr_has e a) (actuals_have es (other_formals fs) a)))

  site_has : (e : PExpr) (a : Surroundings) → Have (sites e a)
  site_has e a = (tt, expr_has e a)

  pairs_have : (ps : List PPair) (a : Surroundings) → Have (sites_in_pairs ps a)
  pairs_have [] a = tt
  pairs_have (p ∷ ps) a = (tt, have_both (sites p.high a) (sites_in_pairs ps a) (site_has p.high a) (pairs_have ps a))

  -- ---- in the blocks of a text all are declared

  abbrev AreThere : List Block → Type 0
  AreThere bs = (b : Block) → IsIn b bs → IsIn b blocks

  abbrev AreOwn : PDecls → Type 0
  AreOwn ds = (n : Named) → IsIn n (labels_in ds) → InBlocks n.spot

  all_own : (ns : List Named) → ((n : Named) → IsIn n ns → InBlocks n.spot) → AllByRecursion (λ (n : Named). InBlocks n.spot) ns
  all_own [] f = tt
  all_own (n ∷ ns) f = (f n (inl refl), all_own ns (λ m i. f m (inr i)))

  abbrev under : PStmt → Surroundings → List Site
  under s a = here_stmt s false a ∷ inside_stmt blocks s of_statement false a

  -- a statement that is no block has the same sites in a procedure
  pub begun_sites : (s : PStmt) (a : Surroundings) → is_block s ≡ false → inside_stmt blocks s of_statement false a ≡ inside_stmt blocks s of_procedure false a
  begun_sites (tree.block b) a e = absurd (let clash : true ≡ false = e in cc)
  begun_sites (tree.assign (tree.subscripted n es) e) a plain = refl
  begun_sites (tree.call_of (tree.called n es)) a plain = refl
  begun_sites (tree.process (tree.called n es) task) a plain = refl
  begun_sites s a plain = refl

  mutual
    stmt_have : (s : PStmt) (listed : Bool) (a : Surroundings) (outer : List Spot) → AreThere (blocks_of s of_statement outer) → Have (inside_stmt blocks s of_statement listed a)
    stmt_have (tree.label n s) listed a outer f = (tt, stmt_have s listed a outer f)
    stmt_have (tree.assign (tree.subscripted n es) e) listed a outer f = have_both (inside_list es a) (sites e a) (list_has es a) (site_has e a)
    stmt_have (tree.call_of (tree.called n es)) listed a outer f = actuals_have es (formals_at a n) a
    stmt_have (tree.block (tree.body spot tree.no_decls ss)) listed a outer f = stmts_have ss false a outer f
    stmt_have (tree.block (tree.body spot (tree.decls d ds) ss)) listed a outer f =
        let b : Block = record { spot = spot; outer = outer; name = []; parameters = []; result = None; decls = tree.decls d ds; stmts = ss } in
        let i : Surroundings = record { block = number_at blocks spot; depth = a.depth + 1; known = a.known } in
        let bs = blocks_in_decls (tree.decls d ds) (spot ∷ outer) in
        let cs = blocks_in_stmts ss (spot ∷ outer) in
        have_both (sites_in_decls blocks (tree.decls d ds) i i.known) (sites_in_stmts blocks ss true (knowing_all blocks (tree.decls d ds) i))
        (decls_have (tree.decls d ds) i i.known (spot ∷ outer) (λ c m. f c (inr (in_front c bs cs m))) (λ n m. record { in_block = b; there = f b (inl refl); one = n; among = m; at = refl }))
        (stmts_have ss true (knowing_all blocks (tree.decls d ds) i) (spot ∷ outer) (λ c m. f c (inr (in_back c bs cs m))))
    stmt_have (tree.if_then c x) listed a outer f = have_both (sites c a) (under x a) (site_has c a) (tt, stmt_have x false a outer f)
    stmt_have (tree.if_else c x y) listed a outer f =
        let bs = blocks_of x of_statement outer in
        let cs = blocks_of y of_statement outer in
        have_both (sites c a ++ under x a) (under y a) (have_both (sites c a) (under x a) (site_has c a) (tt, stmt_have x false a outer (λ b i. f b (in_front b bs cs i))))
        (tt, stmt_have y false a outer (λ b i. f b (in_back b bs cs i)))
    stmt_have (tree.while c x) listed a outer f = have_both (sites c a) (under x a) (site_has c a) (tt, stmt_have x false a outer f)
    stmt_have (tree.until x c) listed a outer f = have_both (under x a) (sites c a) (tt, stmt_have x false a outer f) (site_has c a)
    stmt_have (tree.for v b s l x) listed a outer f =
        have_both (sites b a ++ sites s a ++ sites l a) (under x a) (have_both (sites b a ++ sites s a) (sites l a) (have_both (sites b a) (sites s a) (site_has b a) (site_has s a)) (site_has l a))
        (tt, stmt_have x false a outer f)
    stmt_have (tree.thru c x) listed a outer f = have_both (sites c a) (under x a) (site_has c a) (tt, stmt_have x false a outer f)
    stmt_have (tree.case c ss) listed a outer f = have_both (sites c a) (sites_in_stmts blocks ss false a) (site_has c a) (stmts_have ss false a outer f)
    stmt_have (tree.process (tree.called n es) task) listed a outer f = actuals_have es (formals_at a n) a
    stmt_have (tree.write n spot phrases es) listed a outer f = list_has es a
    stmt_have s listed a outer f = tt

    stmts_have : (ss : PStmts) (listed : Bool) (a : Surroundings) (outer : List Spot) → AreThere (blocks_in_stmts ss outer) → Have (sites_in_stmts blocks ss listed a)
    stmts_have tree.no_stmts listed a outer f = tt
    stmts_have (tree.stmts s ss) listed a outer f =
        let bs = blocks_of s of_statement outer in
        let cs = blocks_in_stmts ss outer in
        (tt, have_both (inside_stmt blocks s of_statement listed a) (sites_in_stmts blocks ss listed a) (stmt_have s listed a outer (λ b i. f b (in_front b bs cs i))) (stmts_have ss listed a outer (λ b i. f b (in_back b bs cs i))))

    decls_have : (ds : PDecls) (a : Surroundings) (first : List Declared) (outer : List Spot) → AreThere (blocks_in_decls ds outer) → AreOwn ds → Have (sites_in_decls blocks ds a first)
    decls_have tree.no_decls a first outer f own = tt
    decls_have (tree.decls (tree.labels ns) ds) a first outer f own =
        (all_own ns (λ n i. own n (in_front n ns (labels_in ds) i)), decls_have ds (knowing blocks (tree.labels ns) ds a) first outer f (λ n i. own n (in_back n ns (labels_in ds) i)))
    decls_have (tree.decls (tree.arrays kind ns pairs) ds) a first outer f own =
        let after = knowing blocks (tree.arrays kind ns pairs) ds a in
        let begin : Surroundings = record after { known = first } in
        (tt, have_both (sites_in_pairs pairs begin) (sites_in_decls blocks ds after first) (pairs_have pairs begin) (decls_have ds after first outer f own))
    decls_have (tree.decls (tree.procedure heading (tree.block (tree.body spot inner ss))) ds) a first outer f own =
        let s : PStmt = tree.block (tree.body spot inner ss) in
        let after = knowing blocks (tree.procedure heading s) ds a in
        let within = inside_procedure blocks heading after in
        let bs = blocks_in_decls inner (heading.name.spot ∷ outer) in
        let cs = blocks_in_stmts ss (heading.name.spot ∷ outer) in
        let later = blocks_in_decls ds outer in
        let b : Block = procedure_block heading s outer in
        let inside = have_both (sites_in_decls blocks inner within within.known) (sites_in_stmts blocks ss (has_decls inner) (knowing_all blocks inner within))
        (decls_have inner within within.known (heading.name.spot ∷ outer) (λ c i. f c (inr (in_front c (bs ++ cs) later (in_front c bs cs i))))
        (λ n i. record { in_block = b; there = f b (inl refl); one = n; among = i; at = refl }))
        (stmts_have ss (has_decls inner) (knowing_all blocks inner within) (heading.name.spot ∷ outer) (λ c i. f c (inr (in_front c (bs ++ cs) later (in_back c bs cs i))))) in (
          tt,
          (
            tt,
            have_both (inside_stmt blocks s of_procedure false within) (sites_in_decls blocks ds after first) inside
                (decls_have ds after first outer (λ c i. f c (inr (in_back c (bs ++ cs) later i))) own),
          ),
        )
    decls_have (tree.decls (tree.procedure heading s) ds) a first outer f own =
        let after = knowing blocks (tree.procedure heading s) ds a in
        let within = inside_procedure blocks heading after in
        let bs = blocks_of s of_procedure (heading.name.spot ∷ outer) in
        let cs = blocks_in_decls ds outer in (
          tt,
          (
            tt,
            have_both (inside_stmt blocks s of_procedure false within) (sites_in_decls blocks ds after first)
                (subst Have (begun_sites s within refl) (stmt_have s false within (heading.name.spot ∷ outer) (λ c i. f c (inr (in_front c bs cs i)))))
                (decls_have ds after first outer (λ c i. f c (inr (in_back c bs cs i))) own),
          ),
        )
    decls_have (tree.decls d ds) a first outer f own = (tt, decls_have ds (knowing blocks d ds a) first outer f own)

  pub body_have : (ds : PDecls) (ss : PStmts) (a : Surroundings) (outer : List Spot) → AreThere (blocks_in_decls ds outer ++ blocks_in_stmts ss outer) → AreOwn ds →
      Have (sites_in_decls blocks ds a a.known ++ sites_in_stmts blocks ss (has_decls ds) (knowing_all blocks ds a))
  body_have ds ss a outer f own =
      let bs = blocks_in_decls ds outer in
      let cs = blocks_in_stmts ss outer in
      have_both (sites_in_decls blocks ds a a.known) (sites_in_stmts blocks ss (has_decls ds) (knowing_all blocks ds a)) (decls_have ds a a.known outer (λ b i. f b (in_front b bs cs i)) own)
      (stmts_have ss (has_decls ds) (knowing_all blocks ds a) outer (λ b i. f b (in_back b bs cs i)))

  -- ---- so what is known as a label is one of them

  abbrev pub IsOne : Declared → Type 0
  IsOne d = d.class ≡ class.label → InBlocks d.spot

  abbrev pub AllOnes : Surroundings → Type 0
  AllOnes a = AllByRecursion IsOne a.known

  abbrev Passes : Site → Type 0
  Passes x = HasAt AreLabels x

  others : (block depth : ℕ) (s : Sort) (c : Class) (ns : List Named) → (c ≡ class.label → ⊥) → AllByRecursion IsOne (declare block depth s c ns)
  others block depth s c [] none = tt
  others block depth s c (n ∷ ns) none = ((λ e. absurd (none e)), others block depth s c ns none)

  labels_are : (block depth : ℕ) (ns : List Named) → AllByRecursion (λ (n : Named). InBlocks n.spot) ns → AllByRecursion IsOne (declare block depth sort.label class.label ns)
  labels_are block depth [] h = tt
  labels_are block depth (n ∷ ns) h = ((λ e. h.0), labels_are block depth ns h.1)

  made_are : (d : PDecl) (ds : PDecls) (a : Surroundings) → AreLabels d ds → AllByRecursion IsOne (made_known blocks d ds a)
  made_are (tree.labels ns) ds a h = labels_are a.block a.depth ns h
  made_are (tree.simple kind ns) ds a h = others a.block a.depth sort.variable (class.simple kind) ns (λ e. let clash : class.simple kind ≡ class.label = e in cc)
  made_are (tree.files ns) ds a h = others a.block a.depth sort.file class.file ns (λ e. let clash : class.file ≡ class.label = e in cc)
  made_are (tree.events ns) ds a h = others a.block a.depth sort.event class.event ns (λ e. let clash : class.event ≡ class.label = e in cc)
  made_are (tree.tasks ns) ds a h = others a.block a.depth sort.event class.task ns (λ e. let clash : class.task ≡ class.label = e in cc)
  made_are (tree.arrays kind ns pairs) ds a h =
      others a.block a.depth sort.array (class.array kind (length pairs)) ns (λ e. let clash : class.array kind (length pairs) ≡ class.label = e in cc)
  made_are (tree.forward g) ds a h =
      let k = announced g ds in
      others a.block a.depth (sort.procedure (number_at blocks k.name.spot)) (class.procedure k) (k.name ∷ []) (λ e. let clash : class.procedure k ≡ class.label = e in cc)
  made_are (tree.procedure g s) ds a h =
      others a.block a.depth (sort.procedure (number_at blocks g.name.spot)) (class.procedure g) (g.name ∷ []) (λ e. let clash : class.procedure g ≡ class.label = e in cc)

  no_label_by : (s : Spec) → class_by s ≡ class.label → ⊥
  no_label_by (spec.Simple kind ns) e = let clash : class.simple kind ≡ class.label = e in cc
  no_label_by (spec.Arrays kind ns lows) e = let clash : class.array kind (length lows) ≡ class.label = e in cc
  no_label_by (spec.Events ns) e = let clash : class.event ≡ class.label = e in cc

  -- no parameter is a label
  no_label : (specs : List Spec) (name : List ℕ) → class_in specs name ≡ class.label → ⊥
  no_label [] name e = let clash : class.unknown ≡ class.label = e in cc
  no_label (s ∷ specs) name e = by (specified_by s name) (no_label specs name) e
    where
      by : (b : Bool) → (class_in specs name ≡ class.label → ⊥) → (if b then class_by s else class_in specs name) ≡ class.label → ⊥
      by true later g = no_label_by s g
      by false later g = later g

  parameters_are : (block depth : ℕ) (h : Heading) (ns : List Named) →
      AllByRecursion IsOne (map (λ (n : Named). record { name = n.name; spot = n.spot; block = block; depth = depth; sort = sort_in h.specs (is_named_in h.values n.name) n.name; class = class_in h.specs n.name }) ns)
  parameters_are block depth h [] = tt
  parameters_are block depth h (n ∷ ns) = ((λ e. absurd (no_label h.specs n.name e)), parameters_are block depth h ns)

  begins : (spot : Spot) (a : Surroundings) → AllOnes a → AllOnes (record { block = number_at blocks spot; depth = a.depth + 1; known = a.known })
  begins spot a h = h

  knows : (d : PDecl) (ds : PDecls) (a : Surroundings) (begun : List Declared) → AllOnes a → AllByRecursion Passes (sites_in_decls blocks (tree.decls d ds) a begun) → AllOnes (knowing blocks d ds a)
  knows d ds a begun h p = all_append IsOne (made_known blocks d ds a) a.known (made_are d ds a p.0) h

  enters : (h : Heading) (s : PStmt) (ds : PDecls) (a : Surroundings) → AllOnes (knowing blocks (tree.procedure h s) ds a) →
      Passes (record { part = site.declaration (tree.procedure h s) ds; around = a }) → AllOnes (inside_procedure blocks h (knowing blocks (tree.procedure h s) ds a))
  enters h s ds a k p =
      let n : Surroundings = knowing blocks (tree.procedure h s) ds a in
      all_append IsOne (declared_parameters (number_at blocks h.name.spot) (n.depth + 1) h) n.known (parameters_are (number_at blocks h.name.spot) (n.depth + 1) h h.params) k

-- a label that is known somewhere in a program is one that a block declares
pub label_in_blocks : (at : Spot) (ds : PDecls) (ss : PStmts) (spot : Spot) (d : Declared) →
    known_there (flat_map (known_at (blocks_of_program (tree.program (tree.body at ds ss)))) (sites_of (tree.program (tree.body at ds ss)))) spot ≡ Some d →
    d.class ≡ class.label → InBlocks (blocks_of_program (tree.program (tree.body at ds ss))) d.spot
unfolding blocks_of_program
label_in_blocks at ds ss spot d known is =
    let p = tree.program (tree.body at ds ss) in
    let blocks = blocks_of_program p in
    let first : Block = outer_block (tree.body at ds ss) in
    let have = body_have blocks ds ss outermost (at ∷ []) (λ b i. inr i) (λ n i. record { in_block = first; there = inl refl; one = n; among = i; at = refl }) in
    let hold = all_hold blocks (AllOnes blocks) (Passes blocks) (begins blocks) (knows blocks) (enters blocks) p tt have in
    everywhere blocks (IsOne blocks) (sites_of p) hold spot d known is
