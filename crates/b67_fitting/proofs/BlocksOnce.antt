-- The blocks of a program stand at places of its text, no two at one.
use Rattle.std.proofs.Common.{arith, ◌≤◌, List, ◌∷◌, ◌++◌}
use Rattle.algol_tree.specs.declared.token.Spot.{Spot}
use Rattle.algol_tree.specs.Ascending.{spots_of_names, spots_of_expr, spots_of_pairs, spots_of_heading, spots_of_stmt, spots_of_stmts, spots_of_decls}
use Rattle.algol_tree.specs.Blocks.{Begin, of_statement, of_procedure, begin_block, begin_outer, blocks_of, blocks_in_stmts, blocks_in_decls}
use Rattle.algol_tree.specs.Plain as tree
use Rattle.algol_tree.specs.Plain.{PStmt, PStmts, PDecls}
use Rattle.b67_fitting.proofs.Numbering.{here, times, times_both, places, places_both, block_place}

module _ (s : Spot) where
  -- the block of a BEGIN stands at it
  of_begin : (begin : Begin) (spot : Spot) (ds : PDecls) (ss : PStmts) (outer : List Spot) → times block_place s (begin_block begin (tree.body spot ds ss) outer) ≤ here s spot
  of_begin of_statement spot tree.no_decls ss outer = omega arith
  of_begin of_statement spot (tree.decls d ds) ss outer = omega arith
  of_begin of_procedure spot ds ss outer = omega arith

  mutual
    in_stmt : (t : PStmt) (begin : Begin) (outer : List Spot) → times block_place s (blocks_of t begin outer) ≤ places s (spots_of_stmt t)
    in_stmt tree.empty g outer = omega arith
    in_stmt (tree.label n t) g outer = omega (arith, in_stmt t of_statement outer)
    in_stmt (tree.assign v e) g outer = omega arith
    in_stmt (tree.call_of c) g outer = omega arith
    in_stmt (tree.go_to n) g outer = omega arith
    in_stmt (tree.block (tree.body spot ds ss)) g outer =
        let inside : List Spot = begin_outer g (tree.body spot ds ss) outer in
        omega (
          arith,
          of_begin g spot ds ss outer,
          times_both block_place s (begin_block g (tree.body spot ds ss) outer) (blocks_in_decls ds inside ++ blocks_in_stmts ss inside),
          times_both block_place s (blocks_in_decls ds inside) (blocks_in_stmts ss inside),
          places_both s (spots_of_decls ds) (spots_of_stmts ss),
          in_decls ds inside,
          in_stmts ss inside,
        )
    in_stmt (tree.if_then c x) g outer = omega (arith, places_both s (spots_of_expr c) (spots_of_stmt x), in_stmt x of_statement outer)
    in_stmt (tree.if_else c x y) g outer =
        omega (
          arith,
          times_both block_place s (blocks_of x of_statement outer) (blocks_of y of_statement outer),
          places_both s (spots_of_expr c ++ spots_of_stmt x) (spots_of_stmt y),
          places_both s (spots_of_expr c) (spots_of_stmt x),
          in_stmt x of_statement outer,
          in_stmt y of_statement outer,
        )
    in_stmt (tree.while c x) g outer = omega (arith, places_both s (spots_of_expr c) (spots_of_stmt x), in_stmt x of_statement outer)
    in_stmt (tree.until x c) g outer = omega (arith, places_both s (spots_of_stmt x) (spots_of_expr c), in_stmt x of_statement outer)
    in_stmt (tree.for v x y z t) g outer =
        omega (arith, places_both s (spots_of_expr x ++ spots_of_expr y ++ spots_of_expr z) (spots_of_stmt t), in_stmt t of_statement outer)
    in_stmt (tree.thru e x) g outer = omega (arith, places_both s (spots_of_expr e) (spots_of_stmt x), in_stmt x of_statement outer)
    in_stmt (tree.case e ss) g outer = omega (arith, places_both s (spots_of_expr e) (spots_of_stmts ss), in_stmts ss outer)
    in_stmt (tree.process c task) g outer = omega arith
    in_stmt (tree.event act e) g outer = omega arith
    in_stmt (tree.write n spot phrases es) g outer = omega arith

    pub in_stmts : (ss : PStmts) (outer : List Spot) → times block_place s (blocks_in_stmts ss outer) ≤ places s (spots_of_stmts ss)
    in_stmts tree.no_stmts outer = omega arith
    in_stmts (tree.stmts t ss) outer =
        omega (arith, times_both block_place s (blocks_of t of_statement outer) (blocks_in_stmts ss outer), places_both s (spots_of_stmt t) (spots_of_stmts ss), in_stmt t of_statement outer, in_stmts ss outer)

    -- the block of a procedure stands at its name
    pub in_decls : (ds : PDecls) (outer : List Spot) → times block_place s (blocks_in_decls ds outer) ≤ places s (spots_of_decls ds)
    in_decls tree.no_decls outer = omega arith
    in_decls (tree.decls (tree.simple kind ns) ds) outer = omega (arith, places_both s (spots_of_names ns) (spots_of_decls ds), in_decls ds outer)
    in_decls (tree.decls (tree.files ns) ds) outer = omega (arith, places_both s (spots_of_names ns) (spots_of_decls ds), in_decls ds outer)
    in_decls (tree.decls (tree.events ns) ds) outer = omega (arith, places_both s (spots_of_names ns) (spots_of_decls ds), in_decls ds outer)
    in_decls (tree.decls (tree.tasks ns) ds) outer = omega (arith, places_both s (spots_of_names ns) (spots_of_decls ds), in_decls ds outer)
    in_decls (tree.decls (tree.labels ns) ds) outer = omega (arith, places_both s (spots_of_names ns) (spots_of_decls ds), in_decls ds outer)
    in_decls (tree.decls (tree.arrays kind ns pairs) ds) outer = omega (arith, places_both s (spots_of_names ns ++ spots_of_pairs pairs) (spots_of_decls ds), in_decls ds outer)
    in_decls (tree.decls (tree.forward h) ds) outer = omega (arith, places_both s (spots_of_heading h) (spots_of_decls ds), in_decls ds outer)
    in_decls (tree.decls (tree.procedure h t) ds) outer =
        omega (
          arith,
          times_both block_place s (blocks_of t of_procedure (h.name.spot ∷ outer)) (blocks_in_decls ds outer),
          places_both s (spots_of_heading h ++ spots_of_stmt t) (spots_of_decls ds),
          places_both s (spots_of_heading h) (spots_of_stmt t),
          in_stmt t of_procedure (h.name.spot ∷ outer),
          in_decls ds outer,
        )
