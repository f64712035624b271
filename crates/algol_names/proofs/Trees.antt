-- The plain trees of blocks.
use Rattle.std.proofs.Common.{arith, suc, ◌≡◌, ℕ, true, false, not, List, [], ◌∷◌, length, None, refl, ap, sym, ◌∙◌}
use Rattle.std.specs.Prelude.{◌==◌}
use Rattle.algol_tree.specs.declared.token.Spot.{Spot}
use Rattle.algol_tree.specs.declared.tree.Body.{Body}
use Rattle.algol_tree.specs.declared.tree.Decl.{Decl}
use Rattle.algol_tree.specs.Plain as tree
use Rattle.algol_tree.specs.Plain.{PBody}
use Rattle.algol_tree.specs.Blocks as plain
use Rattle.algol_tree.specs.Sites.{has_decls}
use Rattle.algol_tree.proofs.Images.{body_is}
use Rattle.algol_meaning.specs.SeenTree.{body, decls, stmts}
use Rattle.b67_list.proofs.Truths.{not_true}
use Rattle.algol_names.specs.Blocks.{is_block, block_of_begin}

pub begun : (b : Body) (outer : List Spot) →
    record { spot = b.spot; outer = outer; name = []; parameters = []; result = None; decls = decls b.decls; stmts = stmts b.stmts }
    ≡ block_of_begin (body b) outer
begun b outer = ap (λ p. block_of_begin p outer) (sym (body_is b))

not_empty : (n : ℕ) → (suc n == 0) ≡ true → ⊥
not_empty n h = grind arith

more : (n : ℕ) → (suc n == 0) ≡ false
more n = not_true (suc n == 0) (not_empty n)

some_declared : (ds : List Decl) → not (length ds == 0) ≡ has_decls (decls ds)
some_declared [] = refl
some_declared (d ∷ ds) = ap not (more (length ds))

pub declared_begin : (b : Body) → not (length b.decls == 0) ≡ is_block (body b) plain.of_statement
declared_begin b = some_declared b.decls ∙ ap (λ p. is_block p plain.of_statement) (sym (body_is b))

pub outermost_begun : (b : Body) → block_of_begin (body b) [] ≡ plain.outer_block (body b)
outermost_begun b = outermost (body b)
  where
    outermost : (p : PBody) → block_of_begin p [] ≡ plain.outer_block p
    outermost (tree.body spot ds ss) = refl

pub stands : (b : Body) → b.spot ≡ plain.spot_of (body b)
stands b = ap plain.spot_of (sym (body_is b))

pub ruleset tree_laws = (body_is, begun, declared_begin, outermost_begun, stands)
