-- A block as a statement: one that declares nothing, and one within another.
use Rattle.std.proofs.Common.{rules, ◌≡◌, ℕ, ◌+◌, ◌≤◌, Bool, true, false, List, [], ◌∷◌, length, refl, sym, ap, ◌∙◌, subst, arith}
use Rattle.std.specs.Prelude.{◌==◌, unwrap_or, Option, Some}
use Rattle.std.proofs.lemmas.Bool.{ne_eqb}
use Rattle.algol_tree.specs.declared.token.Spot.{Spot}
use Rattle.algol_tree.specs.declared.tree.Body.{Body}
use Rattle.algol_tree.specs.declared.tree.Decl.{Decl}
use Rattle.algol_tree.specs.declared.tree.Stmt.{Stmt}
use Rattle.algol_tree.specs.declared.tree.Stmt.TheVariants as shapes
use Rattle.algol_tree.specs.Image.{decls, stmt, stmts}
use Rattle.algol_tree.specs.Plain as tree
use Rattle.algol_tree.specs.Plain.{PDecls, PStmt, PStmts}
use Rattle.b67_emit_stmt.specs.Places.{Later, Place, StmtAt, inside}
use Rattle.b67_emit_stmt.specs.declared.draft.Known.{Known}
use Rattle.b67_ops.specs.declared.TheConstants.{MOST_LEVEL}
use Rattle.b67_segment.specs.Operators.{Placed, size}
use Rattle.b67_segment.specs.Building.{Built, level_set}
use Rattle.algol_tree.specs.Blocks.{number_at}
use Rattle.b67_templates.specs.Cells.{actuals_in_block}
use Rattle.b67_templates.specs.Fitting.{BlockFits}
use Rattle.b67_emit_stmt.specs.Fits.{InsideFits, EmittedStmtFits}
use Rattle.b67_emit_stmt.specs.declared.draft.Draft.{Draft}
use Rattle.b67_emit_stmt.specs.Bodies.{EmitsInner, HaveFitInside, HaveInside, InnerAt, IsSmallBlock, inner_syllables, variables_in}
use Rattle.b67_emit_stmt.specs.Drafts.{DraftIsAt, IsReady}
use Rattle.b67_emit_stmt.specs.Emits.{EmitsStmt, EmitsStmts, HasFit, HaveFit}
use Rattle.b67_emit_stmt.specs.Lengths.{celled_in, stmt_syllables, stmts_syllables}
use Rattle.b67_emit_stmt.proofs.Arms.{Stands, block_arm}
use Rattle.b67_emit_stmt.proofs.Blocks.{as_many}
use Rattle.b67_emit_stmt.proofs.Celled.{celled_inside}
use Rattle.b67_emit_stmt.proofs.Drafts.{emits_weaker}
use Rattle.b67_emit_stmt.proofs.Matched.{emits_as, fit_as, ready_as, ready_less}
use Rattle.b67_emit_stmt.proofs.Shapes.{block_as}

-- ---- whether something is declared

pub none_of : (t : Bool) (ds : List Decl) → t ≡ (length ds == 0) → t ≡ true → ds ≡ []
none_of t [] e h = refl
none_of t (d ∷ ds) e h =
    let other : (length (d ∷ ds) == 0) ≡ false = ne_eqb (length (d ∷ ds)) 0 (λ e. omega arith) in
    absurd (let clash : true ≡ false = sym h ∙ e ∙ other in cc)

-- ---- a block that declares nothing

bare_emitted : (s : Known) (a b : Draft) (spot : Spot) (ds : List Decl) (ss : PStmts) → ds ≡ [] → EmitsStmts s a b ss →
    EmitsStmt s a b (tree.block (tree.body spot (decls ds) ss))
bare_emitted s a b spot ds ss none h =
    let D : List Decl → Type 0 = λ l. EmitsStmt s a b (tree.block (tree.body spot (decls l) ss)) in
    subst D (sym none) (λ sc fit. block_arm sc (level_set a.out) s spot ss a b (h sc fit))

pub compound_emitted : (s : Known) (a b : Draft) (x : Stmt) (body : Body) (ss : List Stmt) (t : Bool) (n : ℕ) → x ≡ shapes.Block body → ss ≡ body.stmts →
    t ≡ (n == 0) → n ≡ length body.decls → t ≡ true → EmitsStmts s a b (stmts ss) → EmitsStmt s a b (stmt x)
compound_emitted s a b x body ss t n is same e m h k =
    emits_as s a b (stmt x) (tree.block (tree.body body.spot (decls body.decls) (stmts ss))) (block_as x body ss is same)
    (bare_emitted s a b body.spot body.decls (stmts ss) (none_of t body.decls (e ∙ ap (λ (i : ℕ). i == 0) m) h) k)

-- .. has the room of its statements, and they fit where it does
module _ (s : Known) (a : Draft) (x : Stmt) (body : Body) (ss : List Stmt) (t : Bool) (n : ℕ) (is : x ≡ shapes.Block body) (same : ss ≡ body.stmts) (e : t ≡ (n == 0))
    (m : n ≡ length body.decls) (h : t ≡ true) where
  compound : stmt x ≡ tree.block (tree.body body.spot tree.no_decls (stmts ss))
  compound =
      block_as x body ss is same ∙ ap (λ (l : List Decl). tree.block (tree.body body.spot (decls l) (stmts ss))) (none_of t body.decls (e ∙ ap (λ (i : ℕ). i == 0) m) h)

  pub compound_ready : IsReady s a (stmt_syllables s (stmt x)) → IsReady s a (stmts_syllables s (stmts ss))
  compound_ready r = ready_as s a (stmt x) (tree.block (tree.body body.spot tree.no_decls (stmts ss))) compound r

  pub compound_fits : HasFit s a (stmt x) → HaveFit s a (stmts ss)
  compound_fits f = fit_as s a (stmt x) (tree.block (tree.body body.spot tree.no_decls (stmts ss))) compound f

-- ---- a block within another

-- the level is set one further in
module _ (s : Known) (level : ℕ) (a : Draft) (inner : Built) (is : inner ≡ record a.out { level = Some (level + 1) }) where
  pub inner_at : DraftIsAt level a → DraftIsAt (level + 1) (record a { out = inner })
  inner_at at = record { set = ap (λ (b : Built). b.level) is; outer = omega (arith, at.outer) }

  pub inner_ready : (n : ℕ) → IsReady s a n → IsReady s (record a { out = inner }) n
  inner_ready n r =
      let R : Built → Type 0 = λ b. IsReady s (record a { out = b }) n in
      subst R (sym is) (record { set = search rules; near = r.near; inner = r.inner; many = r.many; segment = r.segment; few = r.few; room = r.room })

  pub inner_fits : (ds : PDecls) (ss : PStmts) → DraftIsAt level a → HaveFitInside s a ds ss → HaveInside s (level + 1) ds ss
  inner_fits ds ss at fits =
      let F : ℕ → Type 0 = λ l. HaveInside s (l + 1) ds ss in
      subst F (ap (λ (o : Option ℕ). unwrap_or o 0) at.set) fits

-- the code of a block has room
body_room : (s : Known) (spot : Spot) (t : Bool) (ds : List Decl) (ss : PStmts) → t ≡ (length ds == 0) → t ≡ false →
    inner_syllables s (decls ds) ss ≤ stmt_syllables s (tree.block (tree.body spot (decls ds) ss))
body_room s spot t [] ss e h = absurd (let clash : true ≡ false = sym e ∙ h in cc)
body_room s spot t (d ∷ ds) ss e h = omega arith

module _ (s : Known) (sc : Place) (level : ℕ) (spot : Spot) (ss : PStmts) where
  abbrev within : Place
  within = inside (number_at sc.scopes.blocks spot) sc

  declared : (t : Bool) (ds : List Decl) → t ≡ (length ds == 0) → t ≡ false → EmittedStmtFits sc s level (tree.block (tree.body spot (decls ds) ss)) →
      BlockFits sc.scopes level (decls ds) ss × (sc.segment ≡ s.segment) × InsideFits within s (level + 1) (decls ds) ss
  declared t [] e h fit = absurd (let clash : true ≡ false = sym e ∙ h in cc)
  declared t (d ∷ ds) e h fit = (fit.0, fit.1, (fit.2, fit.3, fit.4))

  entered : (t : Bool) (ds : List Decl) (later : Later) (qs : List Placed) (from to target : ℕ) → t ≡ (length ds == 0) → t ≡ false →
      InnerAt within later qs level (decls ds) ss from to → StmtAt sc later qs level (tree.block (tree.body spot (decls ds) ss)) from to target
  entered t [] later qs from to target e h p = absurd (let clash : true ≡ false = sym e ∙ h in cc)
  entered t (d ∷ ds) later qs from to target e h p = p

-- what the call of the block needs, where it is matched
module _ (s : Known) (a : Draft) (x : Stmt) (body : Body) (ss : List Stmt) (ds : List Decl) (t : Bool) (n : ℕ) (is : x ≡ shapes.Block body) (same : ss ≡ body.stmts)
    (ds_are : ds ≡ body.decls) (e : t ≡ (n == 0)) (m : n ≡ length body.decls) (h : t ≡ false) where
  abbrev p : PStmt
  p = tree.block (tree.body body.spot (decls body.decls) (stmts ss))

  tested : t ≡ (length body.decls == 0)
  tested = e ∙ ap (λ (i : ℕ). i == 0) m

  abbrev in_it : Place → Place
  in_it sc = inside (number_at sc.scopes.blocks body.spot) sc

  parts : (fits : HasFit s a (stmt x)) →
      BlockFits fits.0.scopes (level_set a.out) (decls body.decls) (stmts ss) × (fits.0.segment ≡ s.segment)
      × InsideFits (in_it fits.0) s (level_set a.out + 1) (decls body.decls) (stmts ss)
  parts fits =
      let F : PStmt → Type 0 = λ y. EmittedStmtFits fits.0 s (level_set a.out) y in
      declared s fits.0 (level_set a.out) body.spot (stmts ss) t body.decls tested h (subst F (block_as x body ss is same) fits.1)

  -- of the declarations
  pub few_cells : HasFit s a (stmt x) → IsSmallBlock (variables_in (decls ds)) (decls ds) (celled_in s (decls ds) (stmts ss))
  few_cells fits =
      let L : List Decl → Type 0 = λ l. IsSmallBlock (variables_in (decls l)) (decls l) (celled_in s (decls l) (stmts ss)) in
      let all = parts fits in
      let own = decls body.decls in
      let many = as_many (actuals_in_block fits.0.scopes own (stmts ss)) (celled_in s own (stmts ss)) (celled_inside (in_it fits.0) s (level_set a.out + 1) own (stmts ss) all.2) in
      subst L (sym ds_are) (omega (arith, all.0.1, many))

  pub inside_fits : HasFit s a (stmt x) → HaveFitInside s a (decls ds) (stmts ss)
  inside_fits fits =
      let L : List Decl → Type 0 = λ l. InsideFits (in_it fits.0) s (level_set a.out + 1) (decls l) (stmts ss) in
      (in_it fits.0, (parts fits).1, subst L (sym ds_are) (parts fits).2)

  pub inside_level : (level : ℕ) → DraftIsAt level a → HasFit s a (stmt x) → level + 1 ≤ MOST_LEVEL
  inside_level level at fits =
      let set : level_set a.out ≡ level = ap (λ (o : Option ℕ). unwrap_or o 0) at.set in
      omega (arith, (parts fits).0.0, set)

  room : inner_syllables s (decls body.decls) (stmts ss) ≤ stmt_syllables s p
  room = body_room s body.spot t body.decls (stmts ss) tested h

  pub inside_ready : IsReady s a (stmt_syllables s (stmt x)) → IsReady s a (inner_syllables s (decls ds) (stmts ss))
  inside_ready r =
      let R : List Decl → Type 0 = λ l. IsReady s a (inner_syllables s (decls l) (stmts ss)) in
      subst R (sym ds_are) (ready_less s a (stmt_syllables s p) (inner_syllables s (decls body.decls) (stmts ss)) (ready_as s a (stmt x) p (block_as x body ss is same) r) room)

  pub inner_emitted : (b : Draft) → EmitsInner s a b (decls ds) (stmts ss) → EmitsStmt s a b (stmt x)
  inner_emitted b k =
      let L : List Decl → Type 0 = λ l. EmitsInner s a b (decls l) (stmts ss) in
      let there = subst L ds_are k in
      emits_as s a b (stmt x) p (block_as x body ss is same)
      (λ sc fit.
      let all = declared s sc (level_set a.out) body.spot (stmts ss) t body.decls tested h fit in
      emits_weaker (Stands sc (level_set a.out) p a b) (there (in_it sc) all.1 all.2) room
      (λ later qs target hi q.
      entered s sc (level_set a.out) body.spot (stmts ss) t body.decls later qs (size a.out.operators) (size b.out.operators) target tested h q))
