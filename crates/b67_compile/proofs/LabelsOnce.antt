-- No two labels of a program stand at one place.
use Rattle.std.proofs.Common.{arith, ◌≡◌, ℕ, ◌+◌, ◌≤◌, Bool, true, false, List, [], ◌∷◌, ◌++◌, refl, subst, if◌then◌else◌}
use Rattle.std.specs.List.{AllByRecursion}
use Rattle.algol_tree.specs.declared.token.Spot.{Spot}
use Rattle.algol_tree.specs.declared.tree.Heading.{Heading}
use Rattle.algol_tree.specs.Ascending.{IsInOrder, spots_of_expr, spots_of_heading, spots_of_stmt, spots_of_stmts, spots_of_decl, spots_of_decls, spots_of_body}
use Rattle.algol_tree.specs.Blocks.{same_spot, of_statement, of_procedure, stmts_of}
use Rattle.algol_tree.specs.Plain as tree
use Rattle.algol_tree.specs.Plain.{PStmt, PStmts, PDecls}
use Rattle.algol_tree.proofs.Spots.{same_spot_is}
use Rattle.b67_ops.specs.declared.TheConstants.{OUTER_LEVEL}
use Rattle.b67_emit_stmt.specs.Labels.{label_spots, label_spots_in}
use Rattle.b67_emit_text.specs.Texts.{Text, StandOnce, spot_times, text_spots, texts, texts_of, texts_in_stmts, texts_in_decls}
use Rattle.b67_fitting.proofs.Apart.{IsApart, Apart, apart_sym, ascending_apart}

module _ (spot : Spot) where
  abbrev many : List Spot → ℕ
  many spots = spot_times spot spots

  many_both : (xs ys : List Spot) → many (xs ++ ys) ≡ many xs + many ys
  many_both [] ys = omega arith
  many_both (x ∷ xs) ys = omega (arith, many_both xs ys)

  all_both : (xs ys : List Text) → many (text_spots (xs ++ ys)) ≡ many (text_spots xs) + many (text_spots ys)
  all_both [] ys = omega arith
  all_both (x ∷ xs) ys =
      omega (
        arith,
        many_both (label_spots_in x.stmts) (text_spots (xs ++ ys)),
        many_both (label_spots_in x.stmts) (text_spots xs),
        all_both xs ys,
      )

  body_both : (ds : PDecls) (ss : PStmts) (level : ℕ) → many (text_spots (texts_in_decls ds level)) ≤ many (spots_of_decls ds) →
      many (label_spots_in ss) + many (text_spots (texts_in_stmts ss level)) ≤ many (spots_of_stmts ss) →
      many (label_spots_in ss) + many (text_spots (texts_in_decls ds level ++ texts_in_stmts ss level)) ≤ many (spots_of_decls ds ++ spots_of_stmts ss)
  body_both ds ss level f g = omega (arith, f, g, all_both (texts_in_decls ds level) (texts_in_stmts ss level), many_both (spots_of_decls ds) (spots_of_stmts ss))

  -- a procedure, and what is declared after it
  procedure_both : (h : Heading) (s : PStmt) (ds : PDecls) (level : ℕ) →
      many (label_spots_in (stmts_of s)) + many (text_spots (texts_of s of_procedure (level + 1))) ≤ many (spots_of_stmt s) →
      many (text_spots (texts_in_decls ds level)) ≤ many (spots_of_decls ds) →
      many (text_spots (texts_in_decls (tree.decls (tree.procedure h s) ds) level)) ≤ many (spots_of_decls (tree.decls (tree.procedure h s) ds))
  procedure_both h s ds level f g =
      omega (
        arith,
        f,
        g,
        many_both (label_spots_in (stmts_of s)) (text_spots (texts_of s of_procedure (level + 1) ++ texts_in_decls ds level)),
        all_both (texts_of s of_procedure (level + 1)) (texts_in_decls ds level),
        many_both (spots_of_heading h ++ spots_of_stmt s) (spots_of_decls ds),
        many_both (spots_of_heading h) (spots_of_stmt s),
      )

  -- ---- among the places of a tree

  mutual
    stmt_few : (s : PStmt) (level : ℕ) → many (label_spots s) + many (text_spots (texts_of s of_statement level)) ≤ many (spots_of_stmt s)
    stmt_few (tree.label n s) level = omega (arith, stmt_few s level)
    stmt_few (tree.block (tree.body at tree.no_decls ss)) level = omega (arith, stmts_few ss level)
    stmt_few (tree.block (tree.body at (tree.decls d ds) ss)) level =
        let f = body_both (tree.decls d ds) ss (level + 1) (decls_few (tree.decls d ds) (level + 1)) (stmts_few ss (level + 1)) in
        omega (arith, f)
    stmt_few (tree.if_then c x) level = omega (arith, stmt_few x level, many_both (spots_of_expr c) (spots_of_stmt x))
    stmt_few (tree.if_else c x y) level =
        omega (
          arith,
          stmt_few x level,
          stmt_few y level,
          many_both (label_spots x) (label_spots y),
          all_both (texts_of x of_statement level) (texts_of y of_statement level),
          many_both (spots_of_expr c ++ spots_of_stmt x) (spots_of_stmt y),
          many_both (spots_of_expr c) (spots_of_stmt x),
          many_both (spots_of_expr c) (spots_of_stmt x ++ spots_of_stmt y),
          many_both (spots_of_stmt x) (spots_of_stmt y),
        )
    stmt_few (tree.while c b) level = omega (arith, stmt_few b level, many_both (spots_of_expr c) (spots_of_stmt b))
    stmt_few (tree.until b c) level = omega (arith, stmt_few b level, many_both (spots_of_stmt b) (spots_of_expr c))
    stmt_few (tree.for v x s l b) level =
        omega (
          arith,
          stmt_few b level,
          many_both (spots_of_expr x) (spots_of_expr s ++ spots_of_expr l ++ spots_of_stmt b),
          many_both (spots_of_expr s) (spots_of_expr l ++ spots_of_stmt b),
          many_both (spots_of_expr l) (spots_of_stmt b),
          many_both (spots_of_expr x ++ spots_of_expr s ++ spots_of_expr l) (spots_of_stmt b),
        )
    stmt_few (tree.thru e b) level = omega (arith, stmt_few b level, many_both (spots_of_expr e) (spots_of_stmt b))
    stmt_few (tree.case e ss) level = omega (arith, stmts_few ss level, many_both (spots_of_expr e) (spots_of_stmts ss))
    stmt_few s level = omega arith

    stmts_few : (ss : PStmts) (level : ℕ) → many (label_spots_in ss) + many (text_spots (texts_in_stmts ss level)) ≤ many (spots_of_stmts ss)
    stmts_few tree.no_stmts level = omega arith
    stmts_few (tree.stmts s ss) level =
        omega (
          arith,
          stmt_few s level,
          stmts_few ss level,
          many_both (label_spots s) (label_spots_in ss),
          all_both (texts_of s of_statement level) (texts_in_stmts ss level),
          many_both (spots_of_stmt s) (spots_of_stmts ss),
        )

    decls_few : (ds : PDecls) (level : ℕ) → many (text_spots (texts_in_decls ds level)) ≤ many (spots_of_decls ds)
    decls_few tree.no_decls level = omega arith
    decls_few (tree.decls (tree.procedure h (tree.block (tree.body at inner ss))) ds) level =
        let f = body_both inner ss (level + 1) (decls_few inner (level + 1)) (stmts_few ss (level + 1)) in
        procedure_both h (tree.block (tree.body at inner ss)) ds level (omega (arith, f)) (decls_few ds level)
    decls_few (tree.decls (tree.procedure h s) ds) level =
        procedure_both h s ds level (let f = stmt_few s (level + 1) in omega (arith, f, many_both (label_spots s) [])) (decls_few ds level)
    decls_few (tree.decls d ds) level = omega (arith, decls_few ds level, many_both (spots_of_decl d) (spots_of_decls ds))

  body_few : (ds : PDecls) (ss : PStmts) (level : ℕ) →
      many (label_spots_in ss) + many (text_spots (texts_in_decls ds level ++ texts_in_stmts ss level)) ≤ many (spots_of_decls ds ++ spots_of_stmts ss)
  body_few ds ss level = body_both ds ss level (decls_few ds level) (stmts_few ss level)

  -- ---- that are apart

  none_there : (spots : List Spot) → AllByRecursion (λ (s : Spot). same_spot s spot ≡ false) spots → many spots ≡ 0
  none_there [] h = refl
  none_there (s ∷ spots) h = by (same_spot s spot) h.0 (none_there spots h.1)
    where
      by : (b : Bool) → b ≡ false → many spots ≡ 0 → (if b then 1 else 0) + many spots ≡ 0
      by true e f = absurd (let clash : true ≡ false = e in cc)
      by false e f = omega (arith, f)

  apart_once : (spots : List Spot) → Apart spots → many spots ≤ 1
  apart_once [] h = omega arith
  apart_once (s ∷ spots) h = by (same_spot s spot) refl (apart_once spots h.1)
    where
      later : (xs : List Spot) → s ≡ spot → AllByRecursion (IsApart s) xs → AllByRecursion (λ (x : Spot). same_spot x spot ≡ false) xs
      later [] e g = tt
      later (x ∷ xs) e g = (subst (λ (z : Spot). same_spot x z ≡ false) e (apart_sym s x g.0), later xs e g.1)

      by : (b : Bool) → same_spot s spot ≡ b → many spots ≤ 1 → (if b then 1 else 0) + many spots ≤ 1
      by true e f =
          let none = none_there spots (later spots (same_spot_is s spot e) h.0) in
          omega (arith, none)
      by false e f = omega (arith, f)

pub labels_once : (at : Spot) (ds : PDecls) (ss : PStmts) → IsInOrder (tree.program (tree.body at ds ss)) → StandOnce (texts (tree.body at ds ss))
labels_once at ds ss order spot =
    omega (
      arith,
      apart_once spot (spots_of_body (tree.body at ds ss)) (ascending_apart (spots_of_body (tree.body at ds ss)) order),
      body_few spot ds ss OUTER_LEVEL,
      many_both spot (label_spots_in ss) (text_spots (texts_in_decls ds OUTER_LEVEL ++ texts_in_stmts ss OUTER_LEVEL)),
    )
