-- The blocks of an accepted program have simple parameters and arrays only, with a cell for each: the heading of a procedure is
-- found in the declarations of the block around, and no heading stands at a BEGIN.
use Rattle.std.proofs.Common.{◌≡◌, List, [], ◌∷◌, ◌++◌, refl, sym, ap, ◌∙◌, subst}
use Rattle.std.specs.Prelude.{None}
use Rattle.std.specs.List.{AllByRecursion}
use Rattle.algol_tree.specs.declared.token.Spot.{Spot}
use Rattle.algol_tree.specs.declared.tree.Heading.{Heading}
use Rattle.algol_tree.specs.Ascending.{spots_of_names, spots_of_expr, spots_of_pairs, spots_of_heading, spots_of_stmt, spots_of_stmts, spots_of_decl, spots_of_decls}
use Rattle.algol_tree.specs.Blocks.{Block, Begin, of_statement, of_procedure, decls_of, blocks_of, blocks_in_stmts, blocks_in_decls, procedure_block, block_numbered, number_at}
use Rattle.algol_tree.specs.Plain as tree
use Rattle.algol_tree.specs.Plain.{PStmt, PStmts, PDecls}
use Rattle.algol_tree.specs.Scopes.{Scopes}
use Rattle.algol_tree.specs.Sorts.{Parameter, parameters_of}
use Rattle.b67_templates.specs.Cells.{Simple, found_from, parameters_in, parameters_declared, parameter_cells}
use Rattle.b67_list.proofs.Lists.{each_back, each_both, each_front}
use Rattle.b67_fitting.specs.Typing.{HeadingSpecified}
use Rattle.b67_fitting.proofs.Headings.{DeclsSpecified, StmtSpecified, StmtsSpecified}
use Rattle.b67_templates.specs.Nested.{AreTold, AreParameters}
use Rattle.b67_fitting.proofs.Apart.{Apart, in_each, apart_front, apart_back}
use Rattle.b67_fitting.proofs.ResultsApart.{IsClear, none_found}
use Rattle.b67_fitting.proofs.ParametersTold.{parameter_names, parameters_told}
use Rattle.b67_fitting.proofs.Parameters.{IsOutside, outside, AreLast, last_step, found_last, around_is}

-- ---- the body of a procedure that is no BEGIN

abbrev IsNoBegin : PStmt → Type 0
IsNoBegin (tree.block b) = ⊥
IsNoBegin _ = Unit {0}

no_decls : (t : PStmt) → IsNoBegin t → decls_of t ≡ tree.no_decls
no_decls (tree.block b) i = absurd i
no_decls t i = refl

module _ (sc : Scopes) where
  -- ---- one block

  pub of_begin : (b : Block) → b.parameters ≡ [] → parameter_cells sc b ≡ [] → AreParameters sc b
  of_begin b p e =
      record {
        told = subst (λ (ps : List Parameter). AreTold ps (parameter_cells sc b)) (sym p) (subst (AreTold []) (sym e) tt);
        apart = λ kind typed. ap (λ (cs : List Simple). found_from 0 cs b.name) e;
      }

  of_heading : (h : Heading) (t : PStmt) (outer : List Spot) → HeadingSpecified h → parameter_cells sc (procedure_block h t outer) ≡ parameters_in h → IsClear (procedure_block h t outer) → AreParameters sc (procedure_block h t outer)
  of_heading h t outer b e clear =
      record {
        told = subst (AreTold (parameters_of h)) (sym e) (parameters_told h b);
        apart = λ kind typed. ap (λ (cs : List Simple). found_from 0 cs h.name.name) e ∙ none_found 0 h.name.name (parameters_of h) (parameters_in h) (parameter_names h) (clear kind typed);
      }

  -- ---- all blocks

  -- the block is the one of its number, and no parameter has the name of its result
  abbrev pub IsIt : Block → Type 0
  IsIt b = (block_numbered sc.blocks (number_at sc.blocks b.spot) ≡ b) × IsClear b

  abbrev Its : List Block → Type 0
  Its bs = AllByRecursion IsIt bs

  abbrev Headed : List Block → Type 0
  Headed bs = AllByRecursion (AreParameters sc) bs

  -- no heading of the block stands there
  abbrev Out : Block → List Spot → Type 0
  Out c spots = AllByRecursion (IsOutside c.decls) spots

  both : (bs cs : List Block) → Headed bs → Headed cs → Headed (bs ++ cs)
  both bs cs g h = each_both (AreParameters sc) bs cs g h

  out_back : (c : Block) (p q : List Spot) → Out c (p ++ q) → Out c q
  out_back c p q o = each_back (IsOutside c.decls) p q o

  out_front : (c : Block) (p q : List Spot) → Out c (p ++ q) → Out c p
  out_front c p q o = each_front (IsOutside c.decls) p q o

  -- of a statement no heading of the block is a part, and the body of a procedure has the declarations of its block
  abbrev IsOf : Begin → Block → PStmt → Type 0
  IsOf of_statement c t = Out c (spots_of_stmt t)
  IsOf of_procedure c t = c.decls ≡ decls_of t

  out_of : (begin : Begin) (c : Block) (t : PStmt) → IsNoBegin t → IsOf begin c t → Out c (spots_of_stmt t)
  out_of of_statement c t i o = o
  out_of of_procedure c t i o =
      in_each (IsOutside c.decls) (spots_of_stmt t) (λ s j. subst (λ (ds : PDecls). IsOutside ds s) (sym (o ∙ no_decls t i)) refl)

  mutual
    in_stmt : (c : Block) → IsIt c → (t : PStmt) (begin : Begin) → StmtSpecified t → Apart (spots_of_stmt t) → IsOf begin c t → Its (blocks_of t begin (c.spot ∷ c.outer)) →
        Headed (blocks_of t begin (c.spot ∷ c.outer))
    in_stmt c i tree.empty g b p o f = tt
    in_stmt c i (tree.label n t) g b p o f = in_stmt c i t of_statement b p.1 ((out_of g c (tree.label n t) tt o).1) f
    in_stmt c i (tree.assign v e) g b p o f = tt
    in_stmt c i (tree.call_of d) g b p o f = tt
    in_stmt c i (tree.go_to n) g b p o f = tt
    in_stmt c i (tree.block (tree.body spot tree.no_decls ss)) of_statement b p o f = in_stmts c i ss b.1 p.1 o.1 f
    in_stmt c i (tree.block (tree.body spot (tree.decls d ds) ss)) of_statement b p o f =
        let outer = c.spot ∷ c.outer in
        let names = spots_of_decls (tree.decls d ds) in
        let those = spots_of_stmts ss in
        let k : Block = record { spot = spot; outer = outer; name = []; parameters = []; result = None; decls = tree.decls d ds; stmts = ss } in
        let declared = blocks_in_decls (tree.decls d ds) (spot ∷ outer) in
        let stated = blocks_in_stmts ss (spot ∷ outer) in (
          of_begin k refl (around_is sc.blocks c spot i.0 ∙ o.0),
          both declared stated (in_decls k f.0 (tree.decls d ds) b.0 (apart_front names those p.1) (λ s j. refl) (each_front IsIt declared stated f.1))
              (in_stmts k f.0 ss b.1 (apart_back names those p.1) (outside (tree.decls d ds) those p.1) (each_back IsIt declared stated f.1)),
        )
    in_stmt c i (tree.block (tree.body spot ds ss)) of_procedure b p o f =
        let names = spots_of_decls ds in
        let those = spots_of_stmts ss in
        let declared = blocks_in_decls ds (c.spot ∷ c.outer) in
        let stated = blocks_in_stmts ss (c.spot ∷ c.outer) in
        both declared stated (in_decls c i ds b.0 (apart_front names those p.1) (λ s j. ap (λ (z : PDecls). parameters_declared z s) o) (each_front IsIt declared stated f))
        (in_stmts c i ss b.1 (apart_back names those p.1) (subst (λ (z : PDecls). AllByRecursion (IsOutside z) those) (sym o) (outside ds those p.1)) (each_back IsIt declared stated f))
    in_stmt c i (tree.if_then e x) g b p o f =
        in_stmt c i x of_statement b (apart_back (spots_of_expr e) (spots_of_stmt x) p) (out_back c (spots_of_expr e) (spots_of_stmt x) (out_of g c (tree.if_then e x) tt o)) f
    in_stmt c i (tree.if_else e x y) g b p o f =
        let outer = c.spot ∷ c.outer in
        let these = blocks_of x of_statement outer in
        let those = blocks_of y of_statement outer in
        let two = spots_of_expr e ++ spots_of_stmt x in
        both these those
        (in_stmt c i x of_statement b.0 (apart_back (spots_of_expr e) (spots_of_stmt x) (apart_front two (spots_of_stmt y) p)) (out_back c (spots_of_expr e) (spots_of_stmt x) (out_front c two (spots_of_stmt y) (out_of g c (tree.if_else e x y) tt o))) (each_front IsIt these those f))
        (in_stmt c i y of_statement b.1 (apart_back two (spots_of_stmt y) p) (out_back c two (spots_of_stmt y) (out_of g c (tree.if_else e x y) tt o)) (each_back IsIt these those f))
    in_stmt c i (tree.while e x) g b p o f =
        in_stmt c i x of_statement b (apart_back (spots_of_expr e) (spots_of_stmt x) p) (out_back c (spots_of_expr e) (spots_of_stmt x) (out_of g c (tree.while e x) tt o)) f
    in_stmt c i (tree.until x e) g b p o f =
        in_stmt c i x of_statement b (apart_front (spots_of_stmt x) (spots_of_expr e) p) (out_front c (spots_of_stmt x) (spots_of_expr e) (out_of g c (tree.until x e) tt o)) f
    in_stmt c i (tree.for v x y z t) g b p o f =
        let three = spots_of_expr x ++ spots_of_expr y ++ spots_of_expr z in
        in_stmt c i t of_statement b (apart_back three (spots_of_stmt t) p.1) (out_back c three (spots_of_stmt t) (out_of g c (tree.for v x y z t) tt o).1) f
    in_stmt c i (tree.thru e x) g b p o f =
        in_stmt c i x of_statement b (apart_back (spots_of_expr e) (spots_of_stmt x) p) (out_back c (spots_of_expr e) (spots_of_stmt x) (out_of g c (tree.thru e x) tt o)) f
    in_stmt c i (tree.case e ss) g b p o f =
        in_stmts c i ss b (apart_back (spots_of_expr e) (spots_of_stmts ss) p) (out_back c (spots_of_expr e) (spots_of_stmts ss) (out_of g c (tree.case e ss) tt o)) f
    in_stmt c i (tree.process d task) g b p o f = tt
    in_stmt c i (tree.event act e) g b p o f = tt
    in_stmt c i (tree.write n spot phrases es) g b p o f = tt

    pub in_stmts : (c : Block) → IsIt c → (ss : PStmts) → StmtsSpecified ss → Apart (spots_of_stmts ss) → Out c (spots_of_stmts ss) → Its (blocks_in_stmts ss (c.spot ∷ c.outer)) →
        Headed (blocks_in_stmts ss (c.spot ∷ c.outer))
    in_stmts c i tree.no_stmts b p o f = tt
    in_stmts c i (tree.stmts t ss) b p o f =
        let these = blocks_of t of_statement (c.spot ∷ c.outer) in
        let those = blocks_in_stmts ss (c.spot ∷ c.outer) in
        both these those
        (in_stmt c i t of_statement b.0 (apart_front (spots_of_stmt t) (spots_of_stmts ss) p) (out_front c (spots_of_stmt t) (spots_of_stmts ss) o) (each_front IsIt these those f))
        (in_stmts c i ss b.1 (apart_back (spots_of_stmt t) (spots_of_stmts ss) p) (out_back c (spots_of_stmt t) (spots_of_stmts ss) o) (each_back IsIt these those f))

    pub in_decls : (c : Block) → IsIt c → (ds : PDecls) → DeclsSpecified ds → Apart (spots_of_decls ds) → AreLast c.decls ds → Its (blocks_in_decls ds (c.spot ∷ c.outer)) →
        Headed (blocks_in_decls ds (c.spot ∷ c.outer))
    in_decls c i tree.no_decls b p l f = tt
    in_decls c i (tree.decls (tree.simple kind ns) ds) b p l f =
        in_decls c i ds b.1 (apart_back (spots_of_names ns) (spots_of_decls ds) p) (last_step c.decls (tree.simple kind ns) ds p l) f
    in_decls c i (tree.decls (tree.files ns) ds) b p l f = in_decls c i ds b.1 (apart_back (spots_of_names ns) (spots_of_decls ds) p) (last_step c.decls (tree.files ns) ds p l) f
    in_decls c i (tree.decls (tree.events ns) ds) b p l f = in_decls c i ds b.1 (apart_back (spots_of_names ns) (spots_of_decls ds) p) (last_step c.decls (tree.events ns) ds p l) f
    in_decls c i (tree.decls (tree.tasks ns) ds) b p l f = in_decls c i ds b.1 (apart_back (spots_of_names ns) (spots_of_decls ds) p) (last_step c.decls (tree.tasks ns) ds p l) f
    in_decls c i (tree.decls (tree.labels ns) ds) b p l f = in_decls c i ds b.1 (apart_back (spots_of_names ns) (spots_of_decls ds) p) (last_step c.decls (tree.labels ns) ds p l) f
    in_decls c i (tree.decls (tree.arrays kind ns pairs) ds) b p l f =
        in_decls c i ds b.1 (apart_back (spots_of_names ns ++ spots_of_pairs pairs) (spots_of_decls ds) p) (last_step c.decls (tree.arrays kind ns pairs) ds p l) f
    in_decls c i (tree.decls (tree.forward h) ds) b p l f = in_decls c i ds b.1 (apart_back (spots_of_heading h) (spots_of_decls ds) p) (last_step c.decls (tree.forward h) ds p l) f
    in_decls c i (tree.decls (tree.procedure h t) ds) b p l f =
        let outer = c.spot ∷ c.outer in
        let these = blocks_of t of_procedure (h.name.spot ∷ outer) in
        let those = blocks_in_decls ds outer in
        let mine = apart_front (spots_of_decl (tree.procedure h t)) (spots_of_decls ds) p in (
          of_heading h t outer b.0.0 (around_is sc.blocks c h.name.spot i.0 ∙ found_last c.decls h ds t l) f.0.1,
          both these those (in_stmt (procedure_block h t outer) f.0 t of_procedure b.0.1 (apart_back (spots_of_heading h) (spots_of_stmt t) mine) refl (each_front IsIt these those f.1))
              (in_decls c i ds b.1 (apart_back (spots_of_decl (tree.procedure h t)) (spots_of_decls ds) p) (last_step c.decls (tree.procedure h t) ds p l) (each_back IsIt these those f.1)),
        )
