-- The lower bounds of the arrays in a program's tree, and of its parameters that stand for arrays, are those of its blocks.
use Rattle.std.proofs.Common.{arith, ◌≡◌, ℕ, ℤ, suc, ◌+◌, ◌<◌, length, drop, get_or, drop-cons, Bool, true, false, List, [], ◌∷◌, ◌++◌, Option, Some, None, Result, Ok, Err, refl, sym, ap, ◌∙◌, if◌then◌else◌}
use Rattle.std.specs.Prelude.{OnOk}
use Rattle.std.specs.BTreeMap.{BTreeMap, IsEmpty, is_at}
use Rattle.std.specs.declared.alloc.Global.{Global}
use Rattle.std.specs.declared.boxed.Box.{Box}
use Rattle.std.specs.Map.{lookup}
use Rattle.algol_tree.specs.declared.token.Spot.{Spot}
use Rattle.algol_tree.specs.declared.tree.Body.{Body}
use Rattle.algol_tree.specs.declared.tree.Decl.{Decl}
use Rattle.algol_tree.specs.declared.tree.Decl.TheVariants as kinds
use Rattle.algol_tree.specs.declared.tree.Expr.{Expr}
use Rattle.algol_tree.specs.declared.tree.Heading.{Heading}
use Rattle.algol_tree.specs.declared.tree.Kind.{Kind}
use Rattle.algol_tree.specs.declared.tree.Named.{Named}
use Rattle.algol_tree.specs.declared.tree.Pair.{Pair}
use Rattle.algol_tree.specs.declared.tree.Stmt.{Stmt}
use Rattle.algol_tree.specs.declared.tree.Stmt.TheVariants as forms
use Rattle.algol_tree.specs.Ascending.{IsInOrder, spots_of_body, spots_of_decl, spots_of_decls, spots_of_expr, spots_of_heading, spots_of_names, spots_of_stmt, spots_of_stmts}
use Rattle.algol_tree.specs.Blocks.{Block, blocks_in_decl, blocks_in_decls, blocks_in_stmts, blocks_of, blocks_of_program, decls_of, of_procedure, of_statement, own_block, own_outer}
use Rattle.algol_tree.specs.contracts.token.SpotOrd.TheImpl.{ghosts}
use Rattle.algol_tree.specs.Image as plain
use Rattle.algol_tree.specs.Names.{specified}
use Rattle.algol_tree.specs.Plain as tree
use Rattle.algol_tree.specs.Plain.{PBody, PDecl, PDecls, PStmt, PStmts}
use Rattle.algol_tree.proofs.Images.{body_is}
use Rattle.algol_frames.specs.declared.scopes.Scopes.{Scopes}
use Rattle.algol_paths.specs.Arrays.{Lows, lows_at, lows_declared, or_lows, stands_among}
use Rattle.algol_scope.specs.Resolved.{AreOf, declaration_of}
use Rattle.algol_scope.proofs.Bodies.{arrays_is, case_read, if_read}
use Rattle.algol_told.specs.Parameters.{TellsDecl}
use Rattle.algol_told.proofs.Declarations.{DeclsHave, InDecl, StmtHas, StmtsHave, in_program}
use Rattle.algol_told.proofs.Parameters.{parameters_are_told}
use Rattle.algol_told.proofs.Spots.{AreApart, apart_left, apart_right, ascending_apart}
use Rattle.algol_lows.specs.declared.bounds.Lows as kept
use Rattle.algol_lows.specs.Lows.{LowsAdd, lows_begun, lows_in_body, lows_in_decl, lows_in_decls, lows_in_stmt, lows_in_stmts, lows_made, lows_meant, lows_named, lows_of_names, lows_of_specs, lows_told, own_lows, lows_found_under}
use Rattle.algol_lows.proofs.Specifying.{lows_alike}

or_same : (a b c : Option Lows) → or_lows (or_lows a b) c ≡ or_lows a (or_lows b c)
or_same None b c = refl
or_same (Some x) b c = refl

pub or_none : (o : Option Lows) → or_lows o None ≡ o
or_none None = refl
or_none (Some x) = refl

chosen : (b : Bool) (lows : Lows) (o : Option Lows) → (if b then Some lows else o) ≡ or_lows (if b then Some lows else None) o
chosen true lows o = refl
chosen false lows o = refl

-- the parameters of a heading are apart
pub heading_apart : (h : Heading) → AreApart (spots_of_heading h) → AreApart (spots_of_names h.params)
heading_apart h a =
    let ps = spots_of_names h.params in
    let vs = spots_of_names h.values in
    apart_left ps vs (apart_left (ps ++ vs) (spots_of_names (specified h)) a.1)

-- ---- in blocks

at_both : (xs ys : List Block) (spot : Spot) → lows_at (xs ++ ys) spot ≡ or_lows (lows_at xs spot) (lows_at ys spot)
at_both [] ys spot = refl
at_both (x ∷ xs) ys spot =
    ap (λ (o : Option Lows). or_lows (lows_declared x.decls spot) o) (at_both xs ys spot)
    ∙ sym (or_same (lows_declared x.decls spot) (lows_at xs spot) (lows_at ys spot))

both : (xs ys : List Block) (spot : Spot) (a b : Option Lows) → a ≡ lows_at xs spot → b ≡ lows_at ys spot → or_lows a b ≡ lows_at (xs ++ ys) spot
both xs ys spot a b h k =
    ap (λ (o : Option Lows). or_lows o b) h ∙ ap (λ (o : Option Lows). or_lows (lows_at xs spot) o) k ∙ sym (at_both xs ys spot)

-- a compound has none of its own
own : (at : Spot) (ds : PDecls) (ss : PStmts) (outer : List Spot) (spot : Spot) → lows_declared ds spot ≡ lows_at (own_block (tree.body at ds ss) outer) spot
own at tree.no_decls ss outer spot = refl
own at (tree.decls d ds) ss outer spot = sym (or_none (lows_declared (tree.decls d ds) spot))

-- where the scopes tell the parameters of each procedure
module _ (scopes : Scopes) where
  pub declared_alike : (ds : PDecls) (spot : Spot) → DeclsHave (TellsDecl scopes) ds → AreApart (spots_of_decls ds) → lows_begun scopes ds spot ≡ lows_declared ds spot
  declared_alike tree.no_decls spot t h = refl
  declared_alike (tree.decls (tree.arrays kind ns pairs) ds) spot t h =
      ap (or_lows (lows_made scopes (tree.arrays kind ns pairs) spot)) (declared_alike ds spot t.1.1 (apart_right (spots_of_decl (tree.arrays kind ns pairs)) (spots_of_decls ds) h))
      ∙ sym (chosen (stands_among ns spot) (own_lows pairs) (lows_declared ds spot))
  declared_alike (tree.decls (tree.procedure g b) ds) spot t h =
      let own = spots_of_decl (tree.procedure g b) in
      let params = heading_apart g (apart_left (spots_of_heading g) (spots_of_stmt b) (apart_left own (spots_of_decls ds) h)) in
      ap (or_lows (lows_of_specs scopes g.specs spot)) (declared_alike ds spot t.1.1 (apart_right own (spots_of_decls ds) h))
      ∙ ap (λ (o : Option Lows). or_lows o (lows_declared ds spot)) (lows_alike scopes g t.0 params spot)
  declared_alike (tree.decls d ds) spot t h = declared_alike ds spot t.1.1 (apart_right (spots_of_decl d) (spots_of_decls ds) h)

  -- Of a statement, and of the body of a procedure: there the declarations of a BEGIN are those of the procedure's block.
  abbrev AreAlike : PStmt → List Spot → Spot → Type 0
  AreAlike s outer spot =
      (lows_in_stmt scopes s spot ≡ lows_at (blocks_of s of_statement outer) spot)
      × (lows_in_stmt scopes s spot ≡ or_lows (lows_declared (decls_of s) spot) (lows_at (blocks_of s of_procedure outer) spot))

  abbrev StmtTold : PStmt → Type 0
  StmtTold s = StmtHas (TellsDecl scopes) s

  abbrev StmtsTold : PStmts → Type 0
  StmtsTold ss = StmtsHave (TellsDecl scopes) ss

  abbrev DeclsTold : PDecls → Type 0
  DeclsTold ds = DeclsHave (TellsDecl scopes) ds

  -- the names stand apart from one another
  mutual
    in_stmt : (s : PStmt) (outer : List Spot) (spot : Spot) → StmtTold s → AreApart (spots_of_stmt s) → AreAlike s outer spot
    in_stmt (tree.label n s) outer spot t a = let h = (in_stmt s outer spot t a.1).0 in (h, h)
    in_stmt (tree.block (tree.body at ds ss)) outer spot t a =
        let b = tree.body at ds ss in
        let inside = own_outer b outer in
        let o : List Block = own_block b outer in
        let in_ds = apart_left (spots_of_decls ds) (spots_of_stmts ss) a.1 in
        let in_ss = apart_right (spots_of_decls ds) (spots_of_stmts ss) a.1 in
        let begun : lows_begun scopes ds spot ≡ lows_declared ds spot = declared_alike ds spot t.0 in_ds in
        let xs : Option Lows = lows_in_decls scopes ds spot in
        let ys : Option Lows = lows_in_stmts scopes ss spot in
        let of_block : or_lows xs ys ≡ lows_at (blocks_in_decls ds inside ++ blocks_in_stmts ss inside) spot =
        both (blocks_in_decls ds inside) (blocks_in_stmts ss inside) spot xs ys (in_decls ds inside spot t.0 in_ds) (in_stmts ss inside spot t.1 in_ss) in
        let of_body : or_lows xs ys ≡ lows_at (blocks_in_decls ds outer ++ blocks_in_stmts ss outer) spot =
        both (blocks_in_decls ds outer) (blocks_in_stmts ss outer) spot xs ys (in_decls ds outer spot t.0 in_ds) (in_stmts ss outer spot t.1 in_ss) in (
          both o (blocks_in_decls ds inside ++ blocks_in_stmts ss inside) spot (lows_begun scopes ds spot) (or_lows xs ys) (begun ∙ own at ds ss outer spot) of_block,
          ap (λ (x : Option Lows). or_lows x (or_lows xs ys)) begun ∙ ap (or_lows (lows_declared ds spot)) of_body,
        )
    in_stmt (tree.if_then c x) outer spot t a = let h = (in_stmt x outer spot t (apart_right (spots_of_expr c) (spots_of_stmt x) a)).0 in (h, h)
    in_stmt (tree.if_else c x y) outer spot t a =
        let front = spots_of_expr c ++ spots_of_stmt x in
        let h =
        both (blocks_of x of_statement outer) (blocks_of y of_statement outer) spot (lows_in_stmt scopes x spot) (lows_in_stmt scopes y spot)
        (in_stmt x outer spot t.0 (apart_right (spots_of_expr c) (spots_of_stmt x) (apart_left front (spots_of_stmt y) a))).0
        (in_stmt y outer spot t.1 (apart_right front (spots_of_stmt y) a)).0 in
        (h, h)
    in_stmt (tree.while c b) outer spot t a = let h = (in_stmt b outer spot t (apart_right (spots_of_expr c) (spots_of_stmt b) a)).0 in (h, h)
    in_stmt (tree.until b c) outer spot t a = let h = (in_stmt b outer spot t (apart_left (spots_of_stmt b) (spots_of_expr c) a)).0 in (h, h)
    in_stmt (tree.for v x s l b) outer spot t a =
        let h = (in_stmt b outer spot t (apart_right (spots_of_expr x ++ spots_of_expr s ++ spots_of_expr l) (spots_of_stmt b) a.1)).0 in
        (h, h)
    in_stmt (tree.thru e b) outer spot t a = let h = (in_stmt b outer spot t (apart_right (spots_of_expr e) (spots_of_stmt b) a)).0 in (h, h)
    in_stmt (tree.case e ss) outer spot t a = let h = in_stmts ss outer spot t (apart_right (spots_of_expr e) (spots_of_stmts ss) a) in (h, h)
    in_stmt s outer spot t a = (refl, refl)

    in_stmts : (ss : PStmts) (outer : List Spot) (spot : Spot) → StmtsTold ss → AreApart (spots_of_stmts ss) → lows_in_stmts scopes ss spot ≡ lows_at (blocks_in_stmts ss outer) spot
    in_stmts tree.no_stmts outer spot t a = refl
    in_stmts (tree.stmts s ss) outer spot t a =
        both (blocks_of s of_statement outer) (blocks_in_stmts ss outer) spot (lows_in_stmt scopes s spot) (lows_in_stmts scopes ss spot)
        (in_stmt s outer spot t.0 (apart_left (spots_of_stmt s) (spots_of_stmts ss) a)).0 (in_stmts ss outer spot t.1 (apart_right (spots_of_stmt s) (spots_of_stmts ss) a))

    in_decl : (d : PDecl) (outer : List Spot) (spot : Spot) → InDecl (TellsDecl scopes) d → AreApart (spots_of_decl d) → lows_in_decl scopes d spot ≡ lows_at (blocks_in_decl d outer) spot
    in_decl (tree.procedure h s) outer spot t a = (in_stmt s (h.name.spot ∷ outer) spot t (apart_right (spots_of_heading h) (spots_of_stmt s) a)).1
    in_decl d outer spot t a = refl

    in_decls : (ds : PDecls) (outer : List Spot) (spot : Spot) → DeclsTold ds → AreApart (spots_of_decls ds) → lows_in_decls scopes ds spot ≡ lows_at (blocks_in_decls ds outer) spot
    in_decls tree.no_decls outer spot t a = refl
    in_decls (tree.decls d ds) outer spot t a =
        both (blocks_in_decl d outer) (blocks_in_decls ds outer) spot (lows_in_decl scopes d spot) (lows_in_decls scopes ds spot)
        (in_decl d outer spot t.1.0 (apart_left (spots_of_decl d) (spots_of_decls ds) a)) (in_decls ds outer spot t.1.1 (apart_right (spots_of_decl d) (spots_of_decls ds) a))

  pub in_parts : (at : Spot) (ds : PDecls) (ss : PStmts) (spot : Spot) → DeclsTold ds × StmtsTold ss → AreApart (spots_of_body (tree.body at ds ss)) →
      lows_in_body scopes (tree.body at ds ss) spot ≡ lows_at (blocks_of_program (tree.program (tree.body at ds ss))) spot
  unfolding blocks_of_program
  in_parts at ds ss spot t a =
      let inside = at ∷ [] in
      let in_ds = apart_left (spots_of_decls ds) (spots_of_stmts ss) a.1 in
      let in_ss = apart_right (spots_of_decls ds) (spots_of_stmts ss) a.1 in
      let xs : Option Lows = lows_in_decls scopes ds spot in
      let ys : Option Lows = lows_in_stmts scopes ss spot in
      ap (λ (x : Option Lows). or_lows x (or_lows xs ys)) (declared_alike ds spot t.0 in_ds)
      ∙ ap (λ (x : Option Lows). or_lows (lows_declared ds spot) x)
      (both (blocks_in_decls ds inside) (blocks_in_stmts ss inside) spot xs ys (in_decls ds inside spot t.0 in_ds) (in_stmts ss inside spot t.1 in_ss))

in_body : (scopes : Scopes) (b : PBody) (spot : Spot) → AreOf (tree.program b) scopes → IsInOrder (tree.program b) →
    lows_in_body scopes b spot ≡ lows_at (blocks_of_program (tree.program b)) spot
in_body scopes (tree.body at ds ss) spot are order =
    let p = tree.program (tree.body at ds ss) in
    in_parts scopes at ds ss spot (in_program (TellsDecl scopes) (blocks_of_program p) at ds ss (parameters_are_told p scopes order are))
    (ascending_apart (spots_of_body (tree.body at ds ss)) order)

-- ---- in a table

pub arrays_made : (scopes : Scopes) (d : Decl) (kind : Kind) (ns : List Named) (ps : List Pair) (names : List Named) (pairs : List Pair) → d ≡ kinds.Arrays kind ns ps → names ≡ ns → pairs ≡ ps →
    lows_named names (own_lows (plain.pairs pairs)) ≡ lows_made scopes (plain.decl d)
arrays_made scopes d kind ns ps names pairs is e f =
    ap (λ (xs : List Named). lows_named xs (own_lows (plain.pairs pairs))) e ∙ ap (λ (xs : List Pair). lows_named ns (own_lows (plain.pairs xs))) f
    ∙ ap (lows_made scopes) (sym (arrays_is d kind ns ps is))

pub case_within : (scopes : Scopes) (s : Stmt) (e : Expr) (ss : List Stmt) (among : List Stmt) → s ≡ forms.Case e ss → among ≡ ss →
    lows_in_stmts scopes (plain.stmts among) ≡ lows_in_stmt scopes (plain.stmt s)
case_within scopes s e ss among is same = ap (lows_in_stmt scopes) (sym (case_read s e ss among is same))

pub body_added : (scopes : Scopes) (b : Body) (o : Option Lows) (spot : Spot) →
    or_lows (or_lows (or_lows o (lows_begun scopes (plain.decls b.decls) spot)) (lows_in_decls scopes (plain.decls b.decls) spot)) (lows_in_stmts scopes (plain.stmts b.stmts) spot)
    ≡ or_lows o (lows_in_body scopes (plain.body b) spot)
body_added scopes b o spot =
    let x = lows_begun scopes (plain.decls b.decls) spot in
    let y = lows_in_decls scopes (plain.decls b.decls) spot in
    let z = lows_in_stmts scopes (plain.stmts b.stmts) spot in
    or_same (or_lows o x) y z ∙ or_same o x (or_lows y z) ∙ ap (λ (p : PBody). or_lows o (lows_in_body scopes p spot)) (sym (body_is b))

pub ruleset body_laws = (body_added, body_is)

-- what is added to an empty table for the body of a program
pub program_added : (scopes : Scopes) (b : Body) (empty table : BTreeMap Spot kept.Lows) → AreOf (tree.program (plain.body b)) scopes → IsInOrder (tree.program (plain.body b)) → IsEmpty empty →
    LowsAdd empty table (lows_in_body scopes (plain.body b)) → (spot : Spot) → lows_found_under table spot ≡ lows_at (blocks_of_program (tree.program (plain.body b))) spot
program_added scopes b empty table are order none adds spot =
    adds spot
    ∙ ap (λ (es : List (Spot × kept.Lows)). or_lows (lows_told (lookup (is_at (ghosts.cmp spot)) es)) (lows_in_body scopes (plain.body b) spot)) none
    ∙ in_body scopes (plain.body b) spot are order

-- one more name of a specification
pub names_step : (scopes : Scopes) (ns : List Named) (i : ℕ) (n : Named) (lows : List ℤ) (old new : BTreeMap Spot kept.Lows) → i < length ns → n ≡ get_or ns i n →
    LowsAdd old new (lows_meant (declaration_of scopes n.spot) lows) → (spot : Spot) →
    or_lows (lows_found_under new spot) (lows_of_names scopes (drop (i + 1) ns) lows spot) ≡ or_lows (lows_found_under old spot) (lows_of_names scopes (drop i ns) lows spot)
names_step scopes ns i n lows old new h e adds spot =
    let next : suc i ≡ i + 1 = omega arith in
    let split : drop i ns ≡ n ∷ drop (i + 1) ns = drop-cons ns i n h ∙ ap (λ (m : Named). m ∷ drop (suc i) ns) (sym e) ∙ ap (λ (k : ℕ). n ∷ drop k ns) next in
    ap (λ (o : Option Lows). or_lows o (lows_of_names scopes (drop (i + 1) ns) lows spot)) (adds spot)
    ∙ or_same (lows_found_under old spot) (lows_meant (declaration_of scopes n.spot) lows spot) (lows_of_names scopes (drop (i + 1) ns) lows spot)
    ∙ ap (λ (ms : List Named). or_lows (lows_found_under old spot) (lows_of_names scopes ms lows spot)) (sym split)

-- one more statement, and one more declaration
pub stmts_step : (scopes : Scopes) (ss : List Stmt) (i : ℕ) (s : Stmt) (old new : BTreeMap Spot kept.Lows) → i < length ss → s ≡ get_or ss i s → LowsAdd old new (lows_in_stmt scopes (plain.stmt s)) →
    (spot : Spot) → or_lows (lows_found_under new spot) (lows_in_stmts scopes (plain.stmts (drop (i + 1) ss)) spot) ≡ or_lows (lows_found_under old spot) (lows_in_stmts scopes (plain.stmts (drop i ss)) spot)
stmts_step scopes ss i s old new h e adds spot =
    let next : suc i ≡ i + 1 = omega arith in
    let split : drop i ss ≡ s ∷ drop (i + 1) ss = drop-cons ss i s h ∙ ap (λ (r : Stmt). r ∷ drop (suc i) ss) (sym e) ∙ ap (λ (k : ℕ). s ∷ drop k ss) next in
    ap (λ (o : Option Lows). or_lows o (lows_in_stmts scopes (plain.stmts (drop (i + 1) ss)) spot)) (adds spot)
    ∙ or_same (lows_found_under old spot) (lows_in_stmt scopes (plain.stmt s) spot) (lows_in_stmts scopes (plain.stmts (drop (i + 1) ss)) spot)
    ∙ ap (λ (rs : List Stmt). or_lows (lows_found_under old spot) (lows_in_stmts scopes (plain.stmts rs) spot)) (sym split)

pub decls_step : (scopes : Scopes) (ds : List Decl) (i : ℕ) (d : Decl) (old new : BTreeMap Spot kept.Lows) → i < length ds → d ≡ get_or ds i d → LowsAdd old new (lows_in_decl scopes (plain.decl d)) →
    (spot : Spot) → or_lows (lows_found_under new spot) (lows_in_decls scopes (plain.decls (drop (i + 1) ds)) spot) ≡ or_lows (lows_found_under old spot) (lows_in_decls scopes (plain.decls (drop i ds)) spot)
decls_step scopes ds i d old new h e adds spot =
    let next : suc i ≡ i + 1 = omega arith in
    let split : drop i ds ≡ d ∷ drop (i + 1) ds = drop-cons ds i d h ∙ ap (λ (r : Decl). r ∷ drop (suc i) ds) (sym e) ∙ ap (λ (k : ℕ). d ∷ drop k ds) next in
    ap (λ (o : Option Lows). or_lows o (lows_in_decls scopes (plain.decls (drop (i + 1) ds)) spot)) (adds spot)
    ∙ or_same (lows_found_under old spot) (lows_in_decl scopes (plain.decl d) spot) (lows_in_decls scopes (plain.decls (drop (i + 1) ds)) spot)
    ∙ ap (λ (rs : List Decl). or_lows (lows_found_under old spot) (lows_in_decls scopes (plain.decls rs) spot)) (sym split)

-- what is added one after the other
both_added : (old middle new : BTreeMap Spot kept.Lows) (x y : Spot → Option Lows) → LowsAdd old middle x → LowsAdd middle new y → (spot : Spot) → lows_found_under new spot ≡ or_lows (lows_found_under old spot) (or_lows (x spot) (y spot))
both_added old middle new x y first second spot =
    second spot ∙ ap (λ (o : Option Lows). or_lows o (y spot)) (first spot) ∙ or_same (lows_found_under old spot) (x spot) (y spot)

-- .. of the branches of an IF
pub then_added : (scopes : Scopes) (s : Stmt) (c : Expr) (x : Box Stmt Global) (o : Option (Box Stmt Global)) (a : Stmt) (old new : BTreeMap Spot kept.Lows) → s ≡ forms.If c x o → o ≡ None → a ≡ x.value →
    LowsAdd old new (lows_in_stmt scopes (plain.stmt a)) → LowsAdd old new (lows_in_stmt scopes (plain.stmt s))
then_added scopes s c x o a old new is none p adds spot =
    let whole : plain.stmt s ≡ tree.if_then (plain.expr c) (plain.stmt a) = if_read s c x o a is p ∙ ap (plain.branched (plain.expr c) (plain.stmt a)) none in
    adds spot ∙ ap (λ (z : PStmt). or_lows (lows_found_under old spot) (lows_in_stmt scopes z spot)) (sym whole)

pub else_added : (scopes : Scopes) (s : Stmt) (c : Expr) (x y : Box Stmt Global) (o : Option (Box Stmt Global)) (a b : Stmt) (old middle new : BTreeMap Spot kept.Lows) → s ≡ forms.If c x o → o ≡ Some y →
    a ≡ x.value → b ≡ y.value → LowsAdd old middle (lows_in_stmt scopes (plain.stmt a)) → LowsAdd middle new (lows_in_stmt scopes (plain.stmt b)) → LowsAdd old new (lows_in_stmt scopes (plain.stmt s))
else_added scopes s c x y o a b old middle new is some p q first second spot =
    let whole : plain.stmt s ≡ tree.if_else (plain.expr c) (plain.stmt a) (plain.stmt b) =
    if_read s c x o a is p ∙ ap (plain.branched (plain.expr c) (plain.stmt a)) some ∙ ap (λ (z : Stmt). tree.if_else (plain.expr c) (plain.stmt a) (plain.stmt z)) (sym q) in
    both_added old middle new (lows_in_stmt scopes (plain.stmt a)) (lows_in_stmt scopes (plain.stmt b)) first second spot
    ∙ ap (λ (z : PStmt). or_lows (lows_found_under old spot) (lows_in_stmt scopes z spot)) (sym whole)

-- .. where the calls that add it end well
pub on_ok : {X E P Q : Type 0} (r : Result X E) → (P → Q) → OnOk r P → OnOk r Q
on_ok (Ok x) f p = f p
on_ok (Err e) f p = p
