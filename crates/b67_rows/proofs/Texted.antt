-- What a block has to do keeps to its text, and makes all its arrays.
use Rattle.b67_templates.specs.Cells.{made_of, events_in}
use Rattle.std.proofs.Common.{◌≡◌, refl, sym, ap, ◌∙◌, ℕ, List, [], ◌∷◌, ◌++◌, Option, Some, None, append_assoc, append-nil}
use Rattle.b67_rows.proofs.Prelude.{Block, block_numbered, PStmts, PDecls, Scopes, Kind, Named, Item, event_items, decls_items, items, items_of, ending, Made, made_in, all_to_make, an_event, KeepsToText, IsText}
use Rattle.algol_tree.specs.Plain as tree
use Rattle.algol_meaning.specs.Statements.{settle_items}
use Rattle.algol_paths.specs.Arrays.{to_come}
use Rattle.algol_paths.specs.Laws.{RestsKeepToTheirText, AllIsMadeInOrder}

-- ---- what items make

events_to_come : (ns : List Named) (k : List Item) → to_come (event_items ns ++ k) ≡ events_in ns ++ to_come k
events_to_come [] k = refl
events_to_come (n ∷ ns) k = ap (λ (ms : List Made). an_event n.name ∷ ms) (events_to_come ns k)

-- those of declarations come first
decls_to_come : (ds : PDecls) (k : List Item) → to_come (decls_items ds ++ k) ≡ made_of ds ++ to_come k
decls_to_come tree.no_decls k = refl
decls_to_come (tree.decls (tree.arrays kind ns pairs) ds) k =
    ap (λ (ds' : List Made). made_in kind ns pairs ++ ds') (decls_to_come ds k) ∙ sym (append_assoc (made_in kind ns pairs) (made_of ds) (to_come k))
decls_to_come (tree.decls (tree.events ns) ds) k =
    ap to_come (append_assoc (event_items ns) (decls_items ds) k) ∙ events_to_come ns (decls_items ds ++ k)
    ∙ ap (λ (ms : List Made). events_in ns ++ ms) (decls_to_come ds k) ∙ sym (append_assoc (events_in ns) (made_of ds) (to_come k))
decls_to_come (tree.decls (tree.tasks ns) ds) k =
    ap to_come (append_assoc (event_items ns) (decls_items ds) k) ∙ events_to_come ns (decls_items ds ++ k)
    ∙ ap (λ (ms : List Made). events_in ns ++ ms) (decls_to_come ds k) ∙ sym (append_assoc (events_in ns) (made_of ds) (to_come k))
decls_to_come (tree.decls (tree.simple kind ns) ds) k = decls_to_come ds k
decls_to_come (tree.decls (tree.files ns) ds) k = decls_to_come ds k
decls_to_come (tree.decls (tree.labels ns) ds) k = decls_to_come ds k
decls_to_come (tree.decls (tree.forward h) ds) k = decls_to_come ds k
decls_to_come (tree.decls (tree.procedure h s) ds) k = decls_to_come ds k

-- statements make none
stmts_to_come : (ss : PStmts) (k : List Item) → to_come (items ss k) ≡ to_come k
stmts_to_come tree.no_stmts k = refl
stmts_to_come (tree.stmts s ss) k = stmts_to_come ss k

ending_to_come : (b : Block) → to_come (ending b) ≡ []
ending_to_come b = by_result b.result
  where
    by_result : (o : Option Kind) → to_come (ending (record b { result = o })) ≡ []
    by_result None = refl
    by_result (Some kind) = refl

-- so a block has those of its declarations to make
block_to_come : (b : Block) → to_come (items_of b) ≡ made_of b.decls
block_to_come b =
    decls_to_come b.decls (items b.stmts (ending b))
    ∙ ap (λ (as' : List Made). made_of b.decls ++ as') (stmts_to_come b.stmts (ending b) ∙ ending_to_come b)
    ∙ append-nil (made_of b.decls)

-- ---- from the start of a block on

module _ (sc : Scopes) (j : ℕ) where
  pub block_keeps : RestsKeepToTheirText → IsText sc j → KeepsToText sc j (settle_items sc (items_of (block_numbered sc.blocks j)))
  block_keeps keeps t = keeps.settled sc j (items_of (block_numbered sc.blocks j)) t.items

  pub block_makes : AllIsMadeInOrder → IsText sc j → all_to_make (settle_items sc (items_of (block_numbered sc.blocks j))) ≡ made_of (block_numbered sc.blocks j).decls
  block_makes order t = order.settled sc j (items_of (block_numbered sc.blocks j)) t.items ∙ block_to_come (block_numbered sc.blocks j)
