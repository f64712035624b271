-- What holds of each declaration of a tree, where it holds at each of the tree's parts.
use Rattle.std.proofs.Common.{Bool, true, false, List, [], ◌∷◌, ◌++◌}
use Rattle.std.specs.List.{AllByRecursion}
use Rattle.algol_tree.specs.declared.token.Spot.{Spot}
use Rattle.algol_tree.specs.declared.tree.Heading.{Heading}
use Rattle.algol_tree.specs.Blocks.{Block, Begin, of_procedure, of_statement}
use Rattle.algol_tree.specs.Plain as tree
use Rattle.algol_tree.specs.Plain.{PBody, PDecl, PDecls, PStmt, PStmts}
use Rattle.algol_tree.specs.Sites.{Site, has_decls, here_stmt, inside_decl, inside_stmt, sites, sites_by, sites_in_body, sites_in_decls, sites_in_stmts}
use Rattle.algol_tree.specs.Sorts.{Declared}
use Rattle.algol_tree.specs.Surroundings.{Surroundings, inside, inside_procedure, knowing, knowing_all, outermost}
use Rattle.algol_told.specs.Parameters.{HasAt}
use Rattle.algol_told.proofs.Lists.{all_left, all_right}

-- `P`: what holds of a declaration before those after it
module _ (P : PDecl → PDecls → Type 0) where
  abbrev mutual
    pub StmtHas : PStmt → Type 0
    StmtHas (tree.label n s) = StmtHas s
    StmtHas (tree.block (tree.body spot ds ss)) = DeclsHave ds × StmtsHave ss
    StmtHas (tree.if_then c x) = StmtHas x
    StmtHas (tree.if_else c x y) = StmtHas x × StmtHas y
    StmtHas (tree.while c b) = StmtHas b
    StmtHas (tree.until b c) = StmtHas b
    StmtHas (tree.for v a s l b) = StmtHas b
    StmtHas (tree.thru e b) = StmtHas b
    StmtHas (tree.case e ss) = StmtsHave ss
    StmtHas _ = Unit {0}

    pub StmtsHave : PStmts → Type 0
    StmtsHave tree.no_stmts = Unit {0}
    StmtsHave (tree.stmts s ss) = StmtHas s × StmtsHave ss

    -- what is in a procedure
    pub InDecl : PDecl → Type 0
    InDecl (tree.procedure h s) = StmtHas s
    InDecl _ = Unit {0}

    pub DeclsHave : PDecls → Type 0
    DeclsHave tree.no_decls = Unit {0}
    DeclsHave (tree.decls d ds) = P d ds × (InDecl d × DeclsHave ds)

  -- ---- where it holds at the parts of the tree

  module _ (blocks : List Block) where
    abbrev Each : List Site → Type 0
    Each xs = AllByRecursion (HasAt P) xs

    first : (xs ys : List Site) → Each (xs ++ ys) → Each xs
    first xs ys h = all_left (HasAt P) xs ys h

    last : (xs ys : List Site) → Each (xs ++ ys) → Each ys
    last xs ys h = all_right (HasAt P) xs ys h

    abbrev stmt_sites : PStmt → Surroundings → List Site
    stmt_sites s a = here_stmt s false a ∷ inside_stmt blocks s of_statement false a

    mutual
      in_stmt : (s : PStmt) (begin : Begin) (listed : Bool) (a : Surroundings) → Each (inside_stmt blocks s begin listed a) → StmtHas s
      in_stmt (tree.label n s) begin listed a h = in_stmt s of_statement listed a h.1
      in_stmt (tree.block (tree.body spot ds ss)) begin listed a h =
          let b : Surroundings = inside blocks begin (tree.body spot ds ss) a in
          let xs : List Site = sites_in_decls blocks ds b b.known in
          let ys : List Site = sites_in_stmts blocks ss (has_decls ds) (knowing_all blocks ds b) in
          (in_decls ds b b.known (first xs ys h), in_stmts ss (has_decls ds) (knowing_all blocks ds b) (last xs ys h))
      in_stmt (tree.if_then c x) begin listed a h = in_stmt x of_statement false a (last (sites c a) (stmt_sites x a) h).1
      in_stmt (tree.if_else c x y) begin listed a h = (
        in_stmt x of_statement false a (last (sites c a) (stmt_sites x a) (first (sites c a ++ stmt_sites x a) (stmt_sites y a) h)).1,
        in_stmt y of_statement false a (last (sites c a ++ stmt_sites x a) (stmt_sites y a) h).1,
      )
      in_stmt (tree.while c b) begin listed a h = in_stmt b of_statement false a (last (sites c a) (stmt_sites b a) h).1
      in_stmt (tree.until b c) begin listed a h = in_stmt b of_statement false a (first (stmt_sites b a) (sites c a) h).1
      in_stmt (tree.for v x s l b) begin listed a h = in_stmt b of_statement false a (last (sites x a ++ sites s a ++ sites l a) (stmt_sites b a) h).1
      in_stmt (tree.thru e b) begin listed a h = in_stmt b of_statement false a (last (sites e a) (stmt_sites b a) h).1
      in_stmt (tree.case e ss) begin listed a h = in_stmts ss false a (last (sites e a) (sites_in_stmts blocks ss false a) h)
      in_stmt s begin listed a h = tt

      in_stmts : (ss : PStmts) (listed : Bool) (a : Surroundings) → Each (sites_in_stmts blocks ss listed a) → StmtsHave ss
      in_stmts tree.no_stmts listed a h = tt
      in_stmts (tree.stmts s ss) listed a h =
          let own : List Site = inside_stmt blocks s of_statement listed a in
          let more : List Site = sites_in_stmts blocks ss listed a in
          (in_stmt s of_statement listed a (first own more h.1), in_stmts ss listed a (last own more h.1))

      in_decls : (ds : PDecls) (a : Surroundings) (begun : List Declared) → Each (sites_in_decls blocks ds a begun) → DeclsHave ds
      in_decls tree.no_decls a begun h = tt
      in_decls (tree.decls d ds) a begun h =
          let n : Surroundings = knowing blocks d ds a in
          let own : List Site = inside_decl blocks d n begun in
          let more : List Site = sites_in_decls blocks ds n begun in
          (h.0, (in_decl d n begun (first own more h.1), in_decls ds n begun (last own more h.1)))

      -- the place is after the declaration
      in_decl : (d : PDecl) (a : Surroundings) (begun : List Declared) → Each (inside_decl blocks d a begun) → InDecl d
      in_decl (tree.procedure h s) a begun k = in_stmt s of_procedure false (inside_procedure blocks h a) k.1
      in_decl d a begun k = tt

    pub in_program : (spot : Spot) (ds : PDecls) (ss : PStmts) → Each (sites_by (tree.program (tree.body spot ds ss)) blocks) → DeclsHave ds × StmtsHave ss
    in_program spot ds ss h =
        let xs : List Site = sites_in_decls blocks ds outermost [] in
        let ys : List Site = sites_in_stmts blocks ss (has_decls ds) (knowing_all blocks ds outermost) in
        (in_decls ds outermost [] (first xs ys h), in_stmts ss (has_decls ds) (knowing_all blocks ds outermost) (last xs ys h))
