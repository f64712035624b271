-- The procedures within a block and within an IF, as the walk over the tree meets them.
use Rattle.std.proofs.Common.{rules, ◌≡◌, ℕ, ◌+◌, ◌≤◌, Bool, true, false, List, [], ◌∷◌, ◌++◌, length, map, Option, Some, None, append_assoc, append-nil, refl, sym, ap, ◌∙◌, subst, arith}
use Rattle.std.specs.Prelude.{◌==◌}
use Rattle.std.specs.declared.boxed.Box.{Box}
use Rattle.std.specs.declared.alloc.Global.{Global}
use Rattle.std.proofs.lemmas.Bool.{ne_eqb}
use Rattle.std.proofs.lemmas.List.{map-append}
use Rattle.algol_tree.specs.Blocks.{of_procedure, of_statement}
use Rattle.algol_tree.specs.declared.token.Spot.{Spot}
use Rattle.algol_tree.specs.declared.tree.Body.{Body}
use Rattle.algol_tree.specs.declared.tree.Decl.{Decl, out-Decl, roll-Decl, roll-out-Decl, the_lemmas}
use Rattle.algol_tree.specs.declared.tree.Decl.TheOpen.{Decl-F}
use Rattle.algol_tree.specs.declared.tree.Decl.TheVariants as declarations
use Rattle.algol_tree.specs.declared.tree.Expr.{Expr}
use Rattle.algol_tree.specs.declared.tree.Heading.{Heading}
use Rattle.algol_tree.specs.declared.tree.Stmt.{Stmt}
use Rattle.algol_tree.specs.declared.tree.Stmt.TheVariants as shapes
use Rattle.algol_tree.specs.Image.{body, decl, decls, expr, stmt, stmts}
use Rattle.algol_tree.specs.Plain as tree
use Rattle.algol_tree.specs.Plain.{PBody, PDecl, PStmt, PStmts}
use Rattle.algol_tree.proofs.Images.{body_is}
use Rattle.algol_scope.proofs.Bodies.{is_block, not_block_of, procedure_read}
use Rattle.b67_ops.specs.declared.TheConstants.{MOST_LEVEL}
use Rattle.b67_emit_text.specs.declared.texts.Procedure.{Procedure}
use Rattle.b67_emit_text.specs.Texts.{Text, begin_level, procedure_text, text_of_procedure, texts_in_body, texts_in_decl, texts_in_decls, texts_in_stmts, texts_of, HaveLevels, HaveLevelsBody, HaveLevelsDecl, HaveLevelsDecls, HaveLevelsStmts}
use Rattle.b67_emit_stmt.proofs.Gathered.{if_then_as}
use Rattle.b67_emit_stmt.proofs.Shapes.{block_as, if_else_as}

-- ---- a block

-- .. that declares nothing is at the level around it
level_same : (spot : Spot) (ds : List Decl) (ss : PStmts) (level : ℕ) → (length ds == 0) ≡ true → begin_level of_statement (tree.body spot (decls ds) ss) level ≡ level
level_same spot [] ss level h = refl
level_same spot (d ∷ ds) ss level h =
    let other : (length (d ∷ ds) == 0) ≡ false = ne_eqb (length (d ∷ ds)) 0 (λ e. omega arith) in
    absurd (let clash : true ≡ false = sym h ∙ other in cc)

level_more : (spot : Spot) (ds : List Decl) (ss : PStmts) (level : ℕ) → (length ds == 0) ≡ false → begin_level of_statement (tree.body spot (decls ds) ss) level ≡ level + 1
level_more spot [] ss level h = absurd (let clash : true ≡ false = h in cc)
level_more spot (d ∷ ds) ss level h = refl

module _ (s : Stmt) (b : Body) (is : s ≡ shapes.Block b) (level : ℕ) where
  block_is : stmt s ≡ tree.block (body b)
  block_is = block_as s b b.stmts is refl ∙ ap tree.block (sym (body_is b))

  texts_at : (inner : ℕ) (old new : List Text) → begin_level of_statement (body b) level ≡ inner → new ≡ old ++ texts_in_body (body b) inner →
      new ≡ old ++ texts_of (stmt s) of_statement level
  texts_at inner old new at h =
      h ∙ ap (λ (l : ℕ). old ++ texts_in_body (body b) l) (sym at) ∙ ap (λ (x : PStmt). old ++ texts_of x of_statement level) (sym block_is)

  module _ (t : Bool) (n : ℕ) (e : t ≡ (n == 0)) (m : n ≡ length b.decls) where
    tested : t ≡ (length b.decls == 0)
    tested = e ∙ ap (λ (i : ℕ). i == 0) m

    same_there : t ≡ true → begin_level of_statement (body b) level ≡ level
    same_there h = ap (λ (z : PBody). begin_level of_statement z level) (body_is b) ∙ level_same b.spot b.decls (stmts b.stmts) level (sym tested ∙ h)

    more_there : t ≡ false → begin_level of_statement (body b) level ≡ level + 1
    more_there h = ap (λ (z : PBody). begin_level of_statement z level) (body_is b) ∙ level_more b.spot b.decls (stmts b.stmts) level (sym tested ∙ h)

    pub block_has : t ≡ false → HaveLevels (stmt s) of_statement level → HaveLevelsBody (body b) (level + 1)
    block_has h has =
        let at : HaveLevels (tree.block (body b)) of_statement level = subst (λ (x : PStmt). HaveLevels x of_statement level) block_is has in
        subst (λ (l : ℕ). HaveLevelsBody (body b) l) (more_there h) at.1

    pub compound_has : t ≡ true → HaveLevels (stmt s) of_statement level → HaveLevelsBody (body b) level
    compound_has h has =
        let at : HaveLevels (tree.block (body b)) of_statement level = subst (λ (x : PStmt). HaveLevels x of_statement level) block_is has in
        subst (λ (l : ℕ). HaveLevelsBody (body b) l) (same_there h) at.1

    pub block_low : t ≡ false → HaveLevels (stmt s) of_statement level → level + 1 ≤ MOST_LEVEL
    block_low h has =
        let at : HaveLevels (tree.block (body b)) of_statement level = subst (λ (x : PStmt). HaveLevels x of_statement level) block_is has in
        subst (λ (l : ℕ). l ≤ MOST_LEVEL) (more_there h) at.0

    pub texts_same : t ≡ true → (old new : List Text) → new ≡ old ++ texts_in_body (body b) level → new ≡ old ++ texts_of (stmt s) of_statement level
    texts_same h old new k = texts_at level old new (same_there h) k

    pub texts_more : t ≡ false → (old new : List Text) → new ≡ old ++ texts_in_body (body b) (level + 1) → new ≡ old ++ texts_of (stmt s) of_statement level
    texts_more h old new k = texts_at (level + 1) old new (more_there h) k

-- ---- an IF with both branches

pub texts_both : (s p q : Stmt) (e : Expr) (x : Box Stmt Global) (o : Option (Box Stmt Global)) (y : Box Stmt Global) → s ≡ shapes.If e x o → o ≡ Some y → p ≡ x.value →
    q ≡ y.value → (level : ℕ) (old mid new : List Text) → mid ≡ old ++ texts_of (stmt p) of_statement level → new ≡ mid ++ texts_of (stmt q) of_statement level →
    new ≡ old ++ texts_of (stmt s) of_statement level
texts_both s p q e x o y is some first second level old mid new h k =
    let left = texts_of (stmt p) of_statement level in
    let right = texts_of (stmt q) of_statement level in
    k ∙ ap (λ (l : List Text). l ++ right) h ∙ append_assoc old left right
    ∙ ap (λ (z : PStmt). old ++ texts_of z of_statement level) (sym (if_else_as s p q e x o y is some first second))

-- ---- a statement that has what another has, or nothing

pub levels_as : (p q : PStmt) (level : ℕ) → p ≡ q → HaveLevels p of_statement level → HaveLevels q of_statement level
levels_as p q level is has = let L : PStmt → Type 0 = λ x. HaveLevels x of_statement level in subst L is has

pub texts_as : (p q : PStmt) (level : ℕ) → p ≡ q → (old new : List Text) → new ≡ old ++ texts_of q of_statement level → new ≡ old ++ texts_of p of_statement level
texts_as p q level is old new h = h ∙ ap (λ (x : PStmt). old ++ texts_of x of_statement level) (sym is)

pub texts_none : (p q : PStmt) (level : ℕ) → p ≡ q → texts_of q of_statement level ≡ [] → (old : List Text) → old ≡ old ++ texts_of p of_statement level
texts_none p q level is none old = sym (append-nil old) ∙ ap (λ (l : List Text). old ++ l) (sym (ap (λ (x : PStmt). texts_of x of_statement level) is ∙ none))

-- the same where others are left
pub carried : (old before after first rest all : List Text) → after ≡ before ++ first → before ++ (first ++ rest) ≡ old ++ all → after ++ rest ≡ old ++ all
carried old before after first rest all one h = ap (λ (l : List Text). l ++ rest) one ∙ append_assoc before first rest ∙ h

-- ---- the parts of a body

body_parts : (b : Body) (ds : List Decl) (ss : List Stmt) → ds ≡ b.decls → ss ≡ b.stmts → body b ≡ tree.body b.spot (decls ds) (stmts ss)
body_parts b ds ss first second =
    body_is b ∙ ap (λ (l : List Decl). tree.body b.spot (decls l) (stmts b.stmts)) (sym first) ∙ ap (λ (l : List Stmt). tree.body b.spot (decls ds) (stmts l)) (sym second)

pub decls_have : (b : Body) (ds : List Decl) (level : ℕ) → ds ≡ b.decls → HaveLevelsBody (body b) level → HaveLevelsDecls (decls ds) level
decls_have b ds level is has =
    let at : HaveLevelsBody (tree.body b.spot (decls ds) (stmts b.stmts)) level = subst (λ (x : PBody). HaveLevelsBody x level) (body_parts b ds b.stmts is refl) has in at.0

pub stmts_have : (b : Body) (ss : List Stmt) (level : ℕ) → ss ≡ b.stmts → HaveLevelsBody (body b) level → HaveLevelsStmts (stmts ss) level
stmts_have b ss level is has =
    let at : HaveLevelsBody (tree.body b.spot (decls b.decls) (stmts ss)) level = subst (λ (x : PBody). HaveLevelsBody x level) (body_parts b b.decls ss refl is) has in at.1

pub body_texts : (b : Body) (ds : List Decl) (ss : List Stmt) → ds ≡ b.decls → ss ≡ b.stmts → (level : ℕ) (old mid new : List Text) →
    mid ≡ old ++ texts_in_decls (decls ds) level → new ≡ mid ++ texts_in_stmts (stmts ss) level → new ≡ old ++ texts_in_body (body b) level
body_texts b ds ss first second level old mid new h k =
    let right = texts_in_stmts (stmts ss) level in
    k ∙ ap (λ (l : List Text). l ++ right) h ∙ append_assoc old (texts_in_decls (decls ds) level) right
    ∙ ap (λ (x : PBody). old ++ texts_in_body x level) (sym (body_parts b ds ss first second))

-- ---- an IF, part by part

pub both_have : (s p q : Stmt) (e : Expr) (x : Box Stmt Global) (o : Option (Box Stmt Global)) (y : Box Stmt Global) → s ≡ shapes.If e x o → o ≡ Some y → p ≡ x.value →
    q ≡ y.value → (level : ℕ) → HaveLevels (stmt s) of_statement level → HaveLevels (stmt p) of_statement level × HaveLevels (stmt q) of_statement level
both_have s p q e x o y is some first second level has = subst (λ (z : PStmt). HaveLevels z of_statement level) (if_else_as s p q e x o y is some first second) has

pub first_has : (s p : Stmt) (e : Expr) (x : Box Stmt Global) (o : Option (Box Stmt Global)) → s ≡ shapes.If e x o → p ≡ x.value → (level : ℕ) →
    HaveLevels (stmt s) of_statement level → HaveLevels (stmt p) of_statement level
first_has s p e x o is first level has = by o is
  where
    by : (o : Option (Box Stmt Global)) → s ≡ shapes.If e x o → HaveLevels (stmt p) of_statement level
    by None is = levels_as (stmt s) (tree.if_then (expr e) (stmt p)) level (if_then_as s e x None p is refl first) has
    by (Some y) is = (both_have s p y.value e x (Some y) y is refl first refl level has).0

-- ---- a declaration of a procedure

module _ (d : Decl) (h : Heading) (b : Box Stmt Global) (x : Stmt) (is : d ≡ declarations.Procedure h b) (same : x ≡ b.value) (level : ℕ) where
  pub procedure_has : HaveLevelsDecl (decl d) level → (level + 1 ≤ MOST_LEVEL) × HaveLevels (stmt x) of_procedure (level + 1)
  procedure_has has = subst (λ (z : PDecl). HaveLevelsDecl z level) (procedure_read d h b x is same) has

  -- the procedure itself comes before those within it
  pub declared_there : (y : Stmt) → y ≡ b.value → (old mid new : List Text) → mid ≡ old ++ (procedure_text (level + 1) h (stmt y) ∷ []) →
      new ≡ mid ++ texts_of (stmt x) of_procedure (level + 1) → new ≡ old ++ texts_in_decl (decl d) level
  declared_there y own_too old mid new first second =
      let rest = texts_of (stmt x) of_procedure (level + 1) in
      let own : procedure_text (level + 1) h (stmt y) ∷ [] ≡ procedure_text (level + 1) h (stmt x) ∷ [] =
      ap (λ (z : Stmt). procedure_text (level + 1) h (stmt z) ∷ []) (own_too ∙ sym same) in
      second ∙ ap (λ (l : List Text). l ++ rest) (first ∙ ap (λ (l : List Text). old ++ l) own)
      ∙ append_assoc old (procedure_text (level + 1) h (stmt x) ∷ []) rest ∙ ap (λ (z : PDecl). old ++ texts_in_decl z level) (sym (procedure_read d h b x is same))

-- .. that is the last of those that are gathered
pub pushed_there : (old mid : List Procedure) (p : Procedure) → mid ≡ old ++ (p ∷ []) → map text_of_procedure mid ≡ map text_of_procedure old ++ (text_of_procedure p ∷ [])
pushed_there old mid p h = ap (map text_of_procedure) h ∙ map-append text_of_procedure old (p ∷ [])

-- .. whose body is a block
module _ (x : Stmt) (b : Body) (is : x ≡ shapes.Block b) (level : ℕ) where
  pub own_has : HaveLevels (stmt x) of_procedure level → HaveLevelsBody (body b) level
  own_has has =
      let at : HaveLevels (tree.block (body b)) of_procedure level = subst (λ (z : PStmt). HaveLevels z of_procedure level) (block_is x b is level) has in at.1

  pub own_texts : (mid new : List Text) → new ≡ mid ++ texts_in_body (body b) level → new ≡ mid ++ texts_of (stmt x) of_procedure level
  own_texts mid new h = h ∙ ap (λ (z : PStmt). mid ++ texts_of z of_procedure level) (sym (block_is x b is level))

-- .. or is none
has_free : (p : PStmt) (level : ℕ) → is_block p ≡ false → HaveLevels p of_procedure level → HaveLevels p of_statement level
has_free tree.empty level off has = has
has_free (tree.label n s) level off has = has
has_free (tree.assign v e) level off has = has
has_free (tree.call_of c) level off has = has
has_free (tree.go_to n) level off has = has
has_free (tree.block b) level off has = absurd (let clash : true ≡ false = off in cc)
has_free (tree.if_then c x) level off has = has
has_free (tree.if_else c x y) level off has = has
has_free (tree.while c b) level off has = has
has_free (tree.until b c) level off has = has
has_free (tree.for v a s l b) level off has = has
has_free (tree.thru e b) level off has = has
has_free (tree.case e ss) level off has = has
has_free (tree.process c task) level off has = has
has_free (tree.event act e) level off has = has
has_free (tree.write n spot phrases es) level off has = has

texts_free : (p : PStmt) (level : ℕ) → is_block p ≡ false → texts_of p of_statement level ≡ texts_of p of_procedure level
texts_free tree.empty level off = refl
texts_free (tree.label n s) level off = refl
texts_free (tree.assign v e) level off = refl
texts_free (tree.call_of c) level off = refl
texts_free (tree.go_to n) level off = refl
texts_free (tree.block b) level off = absurd (let clash : true ≡ false = off in cc)
texts_free (tree.if_then c x) level off = refl
texts_free (tree.if_else c x y) level off = refl
texts_free (tree.while c b) level off = refl
texts_free (tree.until b c) level off = refl
texts_free (tree.for v a s l b) level off = refl
texts_free (tree.thru e b) level off = refl
texts_free (tree.case e ss) level off = refl
texts_free (tree.process c task) level off = refl
texts_free (tree.event act e) level off = refl
texts_free (tree.write n spot phrases es) level off = refl

module _ (x : Stmt) (other : (b : Body) → x ≡ shapes.Block b → ⊥) (level : ℕ) where
  pub other_has : HaveLevels (stmt x) of_procedure level → HaveLevels (stmt x) of_statement level
  other_has has = has_free (stmt x) level (not_block_of x other) has

  pub other_texts : (mid new : List Text) → new ≡ mid ++ texts_of (stmt x) of_statement level → new ≡ mid ++ texts_of (stmt x) of_procedure level
  other_texts mid new h = h ∙ ap (λ (l : List Text). mid ++ l) (texts_free (stmt x) level (not_block_of x other))

-- ---- a declaration of none

no_texts_at : (x : Decl-F Decl Stmt Body) (level : ℕ) → ((h : Heading) (b : Box Stmt Global) → roll-Decl x ≡ declarations.Procedure h b → ⊥) → texts_in_decl (decl (roll-Decl x)) level ≡ []
no_texts_at (Decl-F.Simple kind ns) level other = search (rules, the_lemmas)
no_texts_at (Decl-F.Files ns) level other = search (rules, the_lemmas)
no_texts_at (Decl-F.Events ns) level other = search (rules, the_lemmas)
no_texts_at (Decl-F.Tasks ns) level other = search (rules, the_lemmas)
no_texts_at (Decl-F.Labels ns) level other = search (rules, the_lemmas)
no_texts_at (Decl-F.Arrays kind ns pairs) level other = search (rules, the_lemmas)
no_texts_at (Decl-F.Forward h) level other = search (rules, the_lemmas)
no_texts_at (Decl-F.Procedure h b) level other = absurd (other h b (declarations.rolls-Procedure h b))

pub no_texts : (d : Decl) (level : ℕ) → ((h : Heading) (b : Box Stmt Global) → d ≡ declarations.Procedure h b → ⊥) → (old : List Text) → old ≡ old ++ texts_in_decl (decl d) level
no_texts d level other old =
    sym (append-nil old)
    ∙ ap (λ (l : List Text). old ++ l)
    (sym (ap (λ (z : Decl). texts_in_decl (decl z) level) (sym (roll-out-Decl d)) ∙ no_texts_at (out-Decl d) level (λ h b e. other h b (sym (roll-out-Decl d) ∙ e))))
