-- Each parameter that stands for an array has, under its place, the lower bounds that its heading specifies, and no other.
use Rattle.std.proofs.Common.{◌≡◌, inl, inr, Bool, true, false, List, [], ◌∷◌, ◌++◌, Option, Some, None, refl, sym, ap, ◌∙◌, subst, if◌then◌else◌}
use Rattle.std.specs.List.{AllByRecursion}
use Rattle.algol_tree.specs.declared.token.Spot.{Spot}
use Rattle.algol_tree.specs.declared.tree.Heading.{Heading}
use Rattle.algol_tree.specs.declared.tree.Named.{Named}
use Rattle.algol_tree.specs.declared.tree.Spec.{Spec}
use Rattle.algol_tree.specs.Ascending.{IsInOrder, spots_of_body, spots_of_decl, spots_of_decls, spots_of_expr, spots_of_heading, spots_of_names, spots_of_pairs, spots_of_stmt, spots_of_stmts}
use Rattle.algol_tree.specs.Blocks.{blocks_of_program}
use Rattle.algol_tree.specs.Names.{specified}
use Rattle.algol_tree.specs.Plain as tree
use Rattle.algol_tree.specs.Plain.{PDecl, PDecls, PStmt, PStmts}
use Rattle.algol_tree.proofs.Spots.{same_spot_itself}
use Rattle.algol_frames.specs.declared.scopes.Scopes.{Scopes}
use Rattle.algol_scope.specs.Resolved.{AreOf}
use Rattle.algol_told.specs.Parameters.{TellsDecl}
use Rattle.algol_told.proofs.Declarations.{DeclsHave, InDecl, StmtHas, StmtsHave, in_program}
use Rattle.algol_told.proofs.Lists.{IsIn, all_both, all_in, all_right, all_weaker, in_left, in_right, of_in}
use Rattle.algol_told.proofs.Parameters.{parameters_are_told}
use Rattle.algol_told.proofs.Spots.{AreApart, IsApart, apart_left, apart_right, apart_turned, ascending_apart}
use Rattle.algol_paths.specs.Arrays.{Lows, lows_among, lows_at, lows_declared, lows_in_shape, or_lows, shape_in, stands_among}
use Rattle.algol_lows.specs.Lows.{lows_begun, lows_in_decl, lows_in_decls, lows_in_stmt, lows_in_stmts, lows_made, lows_named, lows_of_specs, own_lows}
use Rattle.algol_lows.proofs.LowerBounds.{declared_alike, heading_apart, in_parts, or_none}
use Rattle.algol_lows.proofs.Specifying.{lows_alike}

-- ---- places that are apart

-- all of these are apart from the place
abbrev Away : Spot → List Spot → Type 0
Away spot us = AllByRecursion (λ (u : Spot). IsApart u spot) us

away_left : (xs ys : List Spot) (spot : Spot) → Away spot (xs ++ ys) → Away spot xs
away_left [] ys spot w = tt
away_left (x ∷ xs) ys spot w = (w.0, away_left xs ys spot w.1)

away_right : (xs ys : List Spot) (spot : Spot) → Away spot (xs ++ ys) → Away spot ys
away_right xs ys spot w = all_right (λ (u : Spot). IsApart u spot) xs ys w

-- a place of the first list is away from the second, and the other way round
first_away : (xs ys : List Spot) (spot : Spot) → AreApart (xs ++ ys) → IsIn xs spot → Away spot ys
first_away [] ys spot a i = absurd i
first_away (x ∷ xs) ys spot a (inl e) =
    subst (λ (z : Spot). Away z ys) e (all_weaker (IsApart x) (λ (u : Spot). IsApart u x) (λ u h. apart_turned x u h) ys (all_right (IsApart x) xs ys a.0))
first_away (x ∷ xs) ys spot a (inr i) = first_away xs ys spot a.1 i

second_away : (xs ys : List Spot) (spot : Spot) → AreApart (xs ++ ys) → IsIn ys spot → Away spot xs
second_away [] ys spot a i = tt
second_away (x ∷ xs) ys spot a i = (of_in (IsApart x) ys spot (all_right (IsApart x) xs ys a.0) i, second_away xs ys spot a.1 i)

-- ---- lower bounds of which some are none

nones : (o p : Option Lows) → o ≡ None → p ≡ None → or_lows o p ≡ None
nones o p h k = ap (λ (z : Option Lows). or_lows z p) h ∙ k

first_only : (o a b : Option Lows) → o ≡ or_lows a b → b ≡ None → o ≡ a
first_only o a b h k = h ∙ ap (or_lows a) k ∙ or_none a

second_only : (o a b : Option Lows) → o ≡ or_lows a b → a ≡ None → o ≡ b
second_only o a b h k = h ∙ ap (λ (z : Option Lows). or_lows z b) k

-- of what is made here and later, and is within this and within later ones, what is later is none, or what is here
here_only : (o a b c d : Option Lows) → o ≡ or_lows (or_lows a b) (or_lows c d) → b ≡ None → d ≡ None → o ≡ or_lows a c
here_only o a b c d h k l =
    h ∙ ap (λ (z : Option Lows). or_lows (or_lows a z) (or_lows c d)) k ∙ ap (λ (z : Option Lows). or_lows z (or_lows c d)) (or_none a)
    ∙ ap (λ (z : Option Lows). or_lows a (or_lows c z)) l ∙ ap (or_lows a) (or_none c)

later_only : (o a b c d : Option Lows) → o ≡ or_lows (or_lows a b) (or_lows c d) → a ≡ None → c ≡ None → o ≡ or_lows b d
later_only o a b c d h k l =
    h ∙ ap (λ (z : Option Lows). or_lows (or_lows z b) (or_lows c d)) k ∙ ap (λ (z : Option Lows). or_lows b (or_lows z d)) l

-- ---- none are found away from the places

among_away : (ns : List Named) (spot : Spot) → Away spot (spots_of_names ns) → stands_among ns spot ≡ false
among_away [] spot w = refl
among_away (n ∷ ns) spot w = ap (λ (b : Bool). if b then true else stands_among ns spot) w.0 ∙ among_away ns spot w.1

named_away : (ns : List Named) (lows : Lows) (spot : Spot) → Away spot (spots_of_names ns) → lows_named ns lows spot ≡ None
named_away ns lows spot w = ap (λ (b : Bool). if b then Some lows else None) (among_away ns spot w)

specified_away : (specs : List Spec) (ns : List Named) (spot : Spot) → Away spot (spots_of_names ns) → lows_among specs ns spot ≡ None
specified_away specs [] spot w = refl
specified_away specs (n ∷ ns) spot w =
    ap (λ (b : Bool). if b then lows_in_shape (shape_in specs n.name) else lows_among specs ns spot) w.0 ∙ specified_away specs ns spot w.1

params_away : (h : Heading) (spot : Spot) → Away spot (spots_of_heading h) → Away spot (spots_of_names h.params)
params_away h spot w =
    let ps = spots_of_names h.params in
    let vs = spots_of_names h.values in
    away_left ps vs spot (away_left (ps ++ vs) (spots_of_names (specified h)) spot w.1)

declared_away : (ds : PDecls) (spot : Spot) → Away spot (spots_of_decls ds) → lows_declared ds spot ≡ None
declared_away tree.no_decls spot w = refl
declared_away (tree.decls (tree.procedure h s) ds) spot w =
    let own = spots_of_decl (tree.procedure h s) in
    let heading = away_left (spots_of_heading h) (spots_of_stmt s) spot (away_left own (spots_of_decls ds) spot w) in
    nones (lows_among h.specs h.params spot) (lows_declared ds spot) (specified_away h.specs h.params spot (params_away h spot heading))
    (declared_away ds spot (away_right own (spots_of_decls ds) spot w))
declared_away (tree.decls (tree.arrays kind ns pairs) ds) spot w =
    let own = spots_of_decl (tree.arrays kind ns pairs) in
    let names = away_left (spots_of_names ns) (spots_of_pairs pairs) spot (away_left own (spots_of_decls ds) spot w) in
    ap (λ (b : Bool). if b then Some (own_lows pairs) else lows_declared ds spot) (among_away ns spot names)
    ∙ declared_away ds spot (away_right own (spots_of_decls ds) spot w)
declared_away (tree.decls (tree.simple kind ns) ds) spot w = declared_away ds spot (away_right (spots_of_decl (tree.simple kind ns)) (spots_of_decls ds) spot w)
declared_away (tree.decls (tree.files ns) ds) spot w = declared_away ds spot (away_right (spots_of_decl (tree.files ns)) (spots_of_decls ds) spot w)
declared_away (tree.decls (tree.events ns) ds) spot w = declared_away ds spot (away_right (spots_of_decl (tree.events ns)) (spots_of_decls ds) spot w)
declared_away (tree.decls (tree.tasks ns) ds) spot w = declared_away ds spot (away_right (spots_of_decl (tree.tasks ns)) (spots_of_decls ds) spot w)
declared_away (tree.decls (tree.labels ns) ds) spot w = declared_away ds spot (away_right (spots_of_decl (tree.labels ns)) (spots_of_decls ds) spot w)
declared_away (tree.decls (tree.forward h) ds) spot w = declared_away ds spot (away_right (spots_of_decl (tree.forward h)) (spots_of_decls ds) spot w)

-- ---- the parameters of a heading

of_names : (P : Spot → Type 0) (ns : List Named) → AllByRecursion P (spots_of_names ns) → AllByRecursion (λ (n : Named). P n.spot) ns
of_names P [] h = tt
of_names P (n ∷ ns) h = (h.0, of_names P ns h.1)

own_among : (specs : List Spec) (ns : List Named) → AreApart (spots_of_names ns) → AllByRecursion (λ (n : Named). lows_among specs ns n.spot ≡ lows_in_shape (shape_in specs n.name)) ns
own_among specs [] a = tt
own_among specs (n ∷ ns) a = (
  ap (λ (b : Bool). if b then lows_in_shape (shape_in specs n.name) else lows_among specs ns n.spot) (same_spot_itself n.spot),
  all_both (λ (m : Named). IsApart n.spot m.spot) (λ (m : Named). lows_among specs ns m.spot ≡ lows_in_shape (shape_in specs m.name))
      (λ (m : Named). lows_among specs (n ∷ ns) m.spot ≡ lows_in_shape (shape_in specs m.name))
      (λ m x h. ap (λ (b : Bool). if b then lows_in_shape (shape_in specs n.name) else lows_among specs ns m.spot) x ∙ h) ns (of_names (IsApart n.spot) ns a.0) (own_among specs ns a.1),
)

-- `found`: what is found under a place
module _ (found : Spot → Option Lows) where
  -- under that of each parameter what its heading specifies is found
  abbrev pub FormalsFound : PDecl → PDecls → Type 0
  FormalsFound (tree.procedure h b) later = AllByRecursion (λ (n : Named). found n.spot ≡ lows_in_shape (shape_in h.specs n.name)) h.params
  FormalsFound _ later = Unit {0}

  module _ (scopes : Scopes) where
    abbrev StmtTold : PStmt → Type 0
    StmtTold s = StmtHas (TellsDecl scopes) s

    abbrev StmtsTold : PStmts → Type 0
    StmtsTold ss = StmtsHave (TellsDecl scopes) ss

    abbrev DeclsTold : PDecls → Type 0
    DeclsTold ds = DeclsHave (TellsDecl scopes) ds

    -- ---- none are found away from a statement and from declarations

    made_away : (d : PDecl) (later : PDecls) (spot : Spot) → TellsDecl scopes d later → AreApart (spots_of_decl d) → Away spot (spots_of_decl d) → lows_made scopes d spot ≡ None
    made_away (tree.arrays kind ns pairs) later spot t a w = named_away ns (own_lows pairs) spot (away_left (spots_of_names ns) (spots_of_pairs pairs) spot w)
    made_away (tree.procedure h b) later spot t a w =
        lows_alike scopes h t (heading_apart h (apart_left (spots_of_heading h) (spots_of_stmt b) a)) spot
        ∙ specified_away h.specs h.params spot (params_away h spot (away_left (spots_of_heading h) (spots_of_stmt b) spot w))
    made_away (tree.simple kind ns) later spot t a w = refl
    made_away (tree.files ns) later spot t a w = refl
    made_away (tree.events ns) later spot t a w = refl
    made_away (tree.tasks ns) later spot t a w = refl
    made_away (tree.labels ns) later spot t a w = refl
    made_away (tree.forward h) later spot t a w = refl

    begun_away : (ds : PDecls) (spot : Spot) → DeclsTold ds → AreApart (spots_of_decls ds) → Away spot (spots_of_decls ds) → lows_begun scopes ds spot ≡ None
    begun_away ds spot t a w = declared_alike scopes ds spot t a ∙ declared_away ds spot w

    mutual
      stmt_away : (s : PStmt) (spot : Spot) → StmtTold s → AreApart (spots_of_stmt s) → Away spot (spots_of_stmt s) → lows_in_stmt scopes s spot ≡ None
      stmt_away (tree.label n s) spot t a w = stmt_away s spot t a.1 w.1
      stmt_away (tree.block (tree.body at ds ss)) spot t a w =
          let xs = spots_of_decls ds in
          let ys = spots_of_stmts ss in
          nones (lows_begun scopes ds spot) (or_lows (lows_in_decls scopes ds spot) (lows_in_stmts scopes ss spot))
          (begun_away ds spot t.0 (apart_left xs ys a.1) (away_left xs ys spot w.1))
          (nones (lows_in_decls scopes ds spot) (lows_in_stmts scopes ss spot) (decls_away ds spot t.0 (apart_left xs ys a.1) (away_left xs ys spot w.1))
          (stmts_away ss spot t.1 (apart_right xs ys a.1) (away_right xs ys spot w.1)))
      stmt_away (tree.if_then c x) spot t a w =
          stmt_away x spot t (apart_right (spots_of_expr c) (spots_of_stmt x) a) (away_right (spots_of_expr c) (spots_of_stmt x) spot w)
      stmt_away (tree.if_else c x y) spot t a w =
          let cs = spots_of_expr c in
          let xs = spots_of_stmt x in
          let ys = spots_of_stmt y in
          nones (lows_in_stmt scopes x spot) (lows_in_stmt scopes y spot)
          (stmt_away x spot t.0 (apart_right cs xs (apart_left (cs ++ xs) ys a)) (away_right cs xs spot (away_left (cs ++ xs) ys spot w)))
          (stmt_away y spot t.1 (apart_right (cs ++ xs) ys a) (away_right (cs ++ xs) ys spot w))
      stmt_away (tree.while c b) spot t a w = stmt_away b spot t (apart_right (spots_of_expr c) (spots_of_stmt b) a) (away_right (spots_of_expr c) (spots_of_stmt b) spot w)
      stmt_away (tree.until b c) spot t a w = stmt_away b spot t (apart_left (spots_of_stmt b) (spots_of_expr c) a) (away_left (spots_of_stmt b) (spots_of_expr c) spot w)
      stmt_away (tree.for v x s l b) spot t a w =
          let es = spots_of_expr x ++ spots_of_expr s ++ spots_of_expr l in
          stmt_away b spot t (apart_right es (spots_of_stmt b) a.1) (away_right es (spots_of_stmt b) spot w.1)
      stmt_away (tree.thru e b) spot t a w = stmt_away b spot t (apart_right (spots_of_expr e) (spots_of_stmt b) a) (away_right (spots_of_expr e) (spots_of_stmt b) spot w)
      stmt_away (tree.case e ss) spot t a w = stmts_away ss spot t (apart_right (spots_of_expr e) (spots_of_stmts ss) a) (away_right (spots_of_expr e) (spots_of_stmts ss) spot w)
      stmt_away s spot t a w = refl

      stmts_away : (ss : PStmts) (spot : Spot) → StmtsTold ss → AreApart (spots_of_stmts ss) → Away spot (spots_of_stmts ss) → lows_in_stmts scopes ss spot ≡ None
      stmts_away tree.no_stmts spot t a w = refl
      stmts_away (tree.stmts s ss) spot t a w =
          let xs = spots_of_stmt s in
          let ys = spots_of_stmts ss in
          nones (lows_in_stmt scopes s spot) (lows_in_stmts scopes ss spot) (stmt_away s spot t.0 (apart_left xs ys a) (away_left xs ys spot w))
          (stmts_away ss spot t.1 (apart_right xs ys a) (away_right xs ys spot w))

      decl_away : (d : PDecl) (spot : Spot) → InDecl (TellsDecl scopes) d → AreApart (spots_of_decl d) → Away spot (spots_of_decl d) → lows_in_decl scopes d spot ≡ None
      decl_away (tree.procedure h s) spot t a w =
          stmt_away s spot t (apart_right (spots_of_heading h) (spots_of_stmt s) a) (away_right (spots_of_heading h) (spots_of_stmt s) spot w)
      decl_away d spot t a w = refl

      decls_away : (ds : PDecls) (spot : Spot) → DeclsTold ds → AreApart (spots_of_decls ds) → Away spot (spots_of_decls ds) → lows_in_decls scopes ds spot ≡ None
      decls_away tree.no_decls spot t a w = refl
      decls_away (tree.decls d ds) spot t a w =
          let xs = spots_of_decl d in
          let ys = spots_of_decls ds in
          nones (lows_in_decl scopes d spot) (lows_in_decls scopes ds spot) (decl_away d spot t.1.0 (apart_left xs ys a) (away_left xs ys spot w))
          (decls_away ds spot t.1.1 (apart_right xs ys a) (away_right xs ys spot w))

    -- ---- what is found in the whole is found in its parts

    -- at these places the same is found
    abbrev Meets : List Spot → (Spot → Option Lows) → Type 0
    Meets us lows = (spot : Spot) → IsIn us spot → found spot ≡ lows spot

    heading_found : (h : Heading) (b : PStmt) (later : PDecls) → TellsDecl scopes (tree.procedure h b) later → AreApart (spots_of_heading h) →
        Meets (spots_of_heading h) (lows_made scopes (tree.procedure h b)) → FormalsFound (tree.procedure h b) later
    heading_found h b later t a m =
        let ps = spots_of_names h.params in
        let vs = spots_of_names h.values in
        let apart = heading_apart h a in
        all_both (λ (n : Named). IsIn ps n.spot) (λ (n : Named). lows_among h.specs h.params n.spot ≡ lows_in_shape (shape_in h.specs n.name))
        (λ (n : Named). found n.spot ≡ lows_in_shape (shape_in h.specs n.name))
        (λ n i e.
        m n.spot (inr (in_left (ps ++ vs) (spots_of_names (specified h)) n.spot (in_left ps vs n.spot i))) ∙ lows_alike scopes h t apart n.spot ∙ e)
        h.params (of_names (IsIn ps) h.params (all_in ps)) (own_among h.specs h.params apart)

    mutual
      stmt_found : (s : PStmt) → StmtTold s → AreApart (spots_of_stmt s) → Meets (spots_of_stmt s) (lows_in_stmt scopes s) → StmtHas FormalsFound s
      stmt_found (tree.label n s) t a m = stmt_found s t a.1 (λ spot i. m spot (inr i))
      stmt_found (tree.block (tree.body at ds ss)) t a m =
          let xs = spots_of_decls ds in
          let ys = spots_of_stmts ss in
          let ax = apart_left xs ys a.1 in
          let ay = apart_right xs ys a.1 in (
            decls_found ds t.0 ax
                (λ spot i.
                m spot (inr (in_left xs ys spot i))
                ∙ ap (λ (z : Option Lows). or_lows (lows_begun scopes ds spot) (or_lows (lows_in_decls scopes ds spot) z)) (stmts_away ss spot t.1 ay (first_away xs ys spot a.1 i))
                ∙ ap (or_lows (lows_begun scopes ds spot)) (or_none (lows_in_decls scopes ds spot))),
            stmts_found ss t.1 ay
                (λ spot i.
                let w = second_away xs ys spot a.1 i in
                second_only (found spot) (lows_in_decls scopes ds spot) (lows_in_stmts scopes ss spot)
                (second_only (found spot) (lows_begun scopes ds spot) (or_lows (lows_in_decls scopes ds spot) (lows_in_stmts scopes ss spot)) (m spot (inr (in_right xs ys spot i))) (begun_away ds spot t.0 ax w))
                (decls_away ds spot t.0 ax w)),
          )
      stmt_found (tree.if_then c x) t a m =
          stmt_found x t (apart_right (spots_of_expr c) (spots_of_stmt x) a) (λ spot i. m spot (in_right (spots_of_expr c) (spots_of_stmt x) spot i))
      stmt_found (tree.if_else c x y) t a m =
          let cs = spots_of_expr c in
          let xs = spots_of_stmt x in
          let ys = spots_of_stmt y in
          let ax = apart_right cs xs (apart_left (cs ++ xs) ys a) in
          let ay = apart_right (cs ++ xs) ys a in (
            stmt_found x t.0 ax
                (λ spot i.
                let j = in_right cs xs spot i in
                first_only (found spot) (lows_in_stmt scopes x spot) (lows_in_stmt scopes y spot) (m spot (in_left (cs ++ xs) ys spot j))
                (stmt_away y spot t.1 ay (first_away (cs ++ xs) ys spot a j))),
            stmt_found y t.1 ay
                (λ spot i.
                second_only (found spot) (lows_in_stmt scopes x spot) (lows_in_stmt scopes y spot) (m spot (in_right (cs ++ xs) ys spot i))
                (stmt_away x spot t.0 ax (away_right cs xs spot (second_away (cs ++ xs) ys spot a i)))),
          )
      stmt_found (tree.while c b) t a m =
          stmt_found b t (apart_right (spots_of_expr c) (spots_of_stmt b) a) (λ spot i. m spot (in_right (spots_of_expr c) (spots_of_stmt b) spot i))
      stmt_found (tree.until b c) t a m =
          stmt_found b t (apart_left (spots_of_stmt b) (spots_of_expr c) a) (λ spot i. m spot (in_left (spots_of_stmt b) (spots_of_expr c) spot i))
      stmt_found (tree.for v x s l b) t a m =
          let es = spots_of_expr x ++ spots_of_expr s ++ spots_of_expr l in
          stmt_found b t (apart_right es (spots_of_stmt b) a.1) (λ spot i. m spot (inr (in_right es (spots_of_stmt b) spot i)))
      stmt_found (tree.thru e b) t a m =
          stmt_found b t (apart_right (spots_of_expr e) (spots_of_stmt b) a) (λ spot i. m spot (in_right (spots_of_expr e) (spots_of_stmt b) spot i))
      stmt_found (tree.case e ss) t a m =
          stmts_found ss t (apart_right (spots_of_expr e) (spots_of_stmts ss) a) (λ spot i. m spot (in_right (spots_of_expr e) (spots_of_stmts ss) spot i))
      stmt_found s t a m = tt

      stmts_found : (ss : PStmts) → StmtsTold ss → AreApart (spots_of_stmts ss) → Meets (spots_of_stmts ss) (lows_in_stmts scopes ss) → StmtsHave FormalsFound ss
      stmts_found tree.no_stmts t a m = tt
      stmts_found (tree.stmts s ss) t a m =
          let xs = spots_of_stmt s in
          let ys = spots_of_stmts ss in
          let ax = apart_left xs ys a in
          let ay = apart_right xs ys a in (
            stmt_found s t.0 ax
                (λ spot i.
                first_only (found spot) (lows_in_stmt scopes s spot) (lows_in_stmts scopes ss spot) (m spot (in_left xs ys spot i))
                (stmts_away ss spot t.1 ay (first_away xs ys spot a i))),
            stmts_found ss t.1 ay
                (λ spot i.
                second_only (found spot) (lows_in_stmt scopes s spot) (lows_in_stmts scopes ss spot) (m spot (in_right xs ys spot i))
                (stmt_away s spot t.0 ax (second_away xs ys spot a i))),
          )

      -- what declarations make comes before what is within their procedures
      decls_found : (ds : PDecls) → DeclsTold ds → AreApart (spots_of_decls ds) →
          Meets (spots_of_decls ds) (λ spot. or_lows (lows_begun scopes ds spot) (lows_in_decls scopes ds spot)) → DeclsHave FormalsFound ds
      decls_found tree.no_decls t a m = tt
      decls_found (tree.decls d ds) t a m =
          let xs = spots_of_decl d in
          let ys = spots_of_decls ds in
          let ax = apart_left xs ys a in
          let ay = apart_right xs ys a in
          let own : Meets xs (λ spot. or_lows (lows_made scopes d spot) (lows_in_decl scopes d spot)) =
          (λ spot i.
          let w = first_away xs ys spot a i in
          here_only (found spot) (lows_made scopes d spot) (lows_begun scopes ds spot) (lows_in_decl scopes d spot) (lows_in_decls scopes ds spot)
          (m spot (in_left xs ys spot i)) (begun_away ds spot t.1.1 ay w) (decls_away ds spot t.1.1 ay w)) in
          let others : Meets ys (λ spot. or_lows (lows_begun scopes ds spot) (lows_in_decls scopes ds spot)) =
          (λ spot i.
          let w = second_away xs ys spot a i in
          later_only (found spot) (lows_made scopes d spot) (lows_begun scopes ds spot) (lows_in_decl scopes d spot) (lows_in_decls scopes ds spot)
          (m spot (in_right xs ys spot i)) (made_away d ds spot t.0 ax w) (decl_away d spot t.1.0 ax w)) in
          let inner = decl_found d ds t.0 t.1.0 ax own in
          (inner.0, (inner.1, decls_found ds t.1.1 ay others))

      decl_found : (d : PDecl) (later : PDecls) → TellsDecl scopes d later → InDecl (TellsDecl scopes) d → AreApart (spots_of_decl d) →
          Meets (spots_of_decl d) (λ spot. or_lows (lows_made scopes d spot) (lows_in_decl scopes d spot)) → FormalsFound d later × InDecl FormalsFound d
      decl_found (tree.procedure h b) later t u a m =
          let hs = spots_of_heading h in
          let bs = spots_of_stmt b in
          let ah = apart_left hs bs a in
          let ab = apart_right hs bs a in (
            heading_found h b later t ah
                (λ spot i.
                first_only (found spot) (lows_of_specs scopes h.specs spot) (lows_in_stmt scopes b spot) (m spot (in_left hs bs spot i))
                (stmt_away b spot u ab (first_away hs bs spot a i))),
            stmt_found b u ab
                (λ spot i.
                second_only (found spot) (lows_of_specs scopes h.specs spot) (lows_in_stmt scopes b spot) (m spot (in_right hs bs spot i))
                (lows_alike scopes h t (heading_apart h ah) spot ∙ specified_away h.specs h.params spot (params_away h spot (second_away hs bs spot a i)))),
          )
      decl_found (tree.simple kind ns) later t u a m = (tt, tt)
      decl_found (tree.files ns) later t u a m = (tt, tt)
      decl_found (tree.events ns) later t u a m = (tt, tt)
      decl_found (tree.tasks ns) later t u a m = (tt, tt)
      decl_found (tree.labels ns) later t u a m = (tt, tt)
      decl_found (tree.arrays kind ns pairs) later t u a m = (tt, tt)
      decl_found (tree.forward h) later t u a m = (tt, tt)

-- in a program
pub formals_found : (scopes : Scopes) (at : Spot) (ds : PDecls) (ss : PStmts) → AreOf (tree.program (tree.body at ds ss)) scopes → IsInOrder (tree.program (tree.body at ds ss)) →
    (let found : Spot → Option Lows = lows_at (blocks_of_program (tree.program (tree.body at ds ss))) in
    DeclsHave (FormalsFound found) ds × StmtsHave (FormalsFound found) ss)
formals_found scopes at ds ss are order =
    let p = tree.program (tree.body at ds ss) in
    let t = in_program (TellsDecl scopes) (blocks_of_program p) at ds ss (parameters_are_told p scopes order are) in
    let a = ascending_apart (spots_of_body (tree.body at ds ss)) order in
    stmt_found (lows_at (blocks_of_program p)) scopes (tree.block (tree.body at ds ss)) t a (λ spot i. sym (in_parts scopes at ds ss spot t a))
