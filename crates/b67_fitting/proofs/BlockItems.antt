-- The items of a block keep to its text where its bounds and its statements do: the arrays, the events and the tasks that it declares are made
-- first.
use Rattle.std.proofs.Common.{◌≡◌, List, [], ◌∷◌, ◌++◌, Option, Some, None, refl, sym, subst, append_assoc}
use Rattle.algol_tree.specs.declared.tree.Kind.{Kind}
use Rattle.algol_tree.specs.declared.tree.Named.{Named}
use Rattle.algol_tree.specs.Blocks.{Block}
use Rattle.algol_tree.specs.Plain as tree
use Rattle.algol_tree.specs.Plain.{PStmts, PDecls, PBody}
use Rattle.algol_meaning.specs.Rest.{Item}
use Rattle.algol_meaning.specs.Statements.{items, event_items, decls_items, ending, items_of}
use Rattle.algol_paths.specs.Texts.{InStmts, InItems, InDeclared}
use Rattle.b67_fitting.proofs.Bounds.{InBounds}

module _ (P : Named → Type 0) (Q : PBody → Type 0) (R : Named → Type 0) where
  in_stated : (ss : PStmts) (k : List Item) → InStmts P Q ss → InItems P Q k → InItems P Q (items ss k)
  in_stated tree.no_stmts k i h = h
  in_stated (tree.stmts s ss) k i h = (i.0, in_stated ss k i.1 h)

  in_ending : (b : Block) → InItems P Q (ending b)
  in_ending b = by b.result refl
    where
      by : (o : Option Kind) → b.result ≡ o → InItems P Q (ending b)
      by None e = rw e tt
      by (Some kind) e = rw e (tt, tt)

  declared_ending : (b : Block) → InDeclared P Q R (ending b)
  declared_ending b = by b.result refl
    where
      by : (o : Option Kind) → b.result ≡ o → InDeclared P Q R (ending b)
      by None e = rw e tt
      by (Some kind) e = rw e (tt, tt)

  declared_stmts : (b : Block) (ss : PStmts) → InStmts P Q ss → InDeclared P Q R (items ss (ending b))
  declared_stmts b tree.no_stmts i = declared_ending b
  declared_stmts b (tree.stmts s ss) i = (i.0, in_stated ss (ending b) i.1 (in_ending b))

  -- an event needs no name
  events_first : (ns : List Named) (k : List Item) → InDeclared P Q R k → InDeclared P Q R (event_items ns ++ k)
  events_first [] k h = h
  events_first (n ∷ ns) k h = events_first ns k h

  declared_first : (ds : PDecls) (k : List Item) → InBounds R ds → InDeclared P Q R k → InDeclared P Q R (decls_items ds ++ k)
  declared_first tree.no_decls k i h = h
  declared_first (tree.decls (tree.simple kind ns) ds) k i h = declared_first ds k i h
  declared_first (tree.decls (tree.files ns) ds) k i h = declared_first ds k i h
  declared_first (tree.decls (tree.arrays kind ns pairs) ds) k i h = (i.0, declared_first ds k i.1 h)
  declared_first (tree.decls (tree.forward g) ds) k i h = declared_first ds k i h
  declared_first (tree.decls (tree.procedure g t) ds) k i h = declared_first ds k i h
  declared_first (tree.decls (tree.labels ns) ds) k i h = declared_first ds k i h
  declared_first (tree.decls (tree.events ns) ds) k i h =
      subst (InDeclared P Q R) (sym (append_assoc (event_items ns) (decls_items ds) k)) (events_first ns (decls_items ds ++ k) (declared_first ds k i h))
  declared_first (tree.decls (tree.tasks ns) ds) k i h =
      subst (InDeclared P Q R) (sym (append_assoc (event_items ns) (decls_items ds) k)) (events_first ns (decls_items ds ++ k) (declared_first ds k i h))

  pub in_items : (b : Block) → InBounds R b.decls → InStmts P Q b.stmts → InDeclared P Q R (items_of b)
  in_items b bounds stmts = declared_first b.decls (items b.stmts (ending b)) bounds (declared_stmts b b.stmts stmts)
