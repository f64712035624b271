-- A block's items from a label on keep to its text, and make nothing.
use Rattle.std.proofs.Common.{◌≡◌, ℕ, List, [], ◌∷◌, ◌++◌, Option, Some, None, Bool, true, false, refl, ◌∙◌, subst, append_assoc}
use Rattle.std.specs.Prelude.{if◌then◌else◌}
use Rattle.algol_tree.specs.declared.tree.Kind.{Kind}
use Rattle.algol_tree.specs.declared.tree.Named.{Named}
use Rattle.algol_tree.specs.Plain as tree
use Rattle.algol_tree.specs.Plain.{PStmts, PDecls, PBody}
use Rattle.algol_tree.specs.Blocks.{Block}
use Rattle.algol_tree.specs.Scopes.{Scopes}
use Rattle.algol_meaning.specs.Rest as rests
use Rattle.algol_meaning.specs.Rest.{Item}
use Rattle.algol_meaning.specs.Statements.{items, event_items, decls_items, ending, items_of, is_labelled, stmts_from, items_from}
use Rattle.algol_paths.specs.Blocks.{BlockIsSeen, IsSeenAround, IsInner}
use Rattle.algol_paths.specs.Texts.{InItems, InDeclared}
use Rattle.algol_paths.specs.Arrays.{to_come}
use Rattle.algol_paths.specs.Laws.{ItemsKeepToText, JumpsKeepToTheirText}
use Rattle.algol_paths.proofs.Making.{all_is_made_in_order}

-- ---- a block's items from a label on

module _ (P : Named → Type 0) (Q : PBody → Type 0) where
  from_label : (ss : PStmts) (name : List ℕ) (k : List Item) → InItems P Q (items ss k) → InItems P Q (items (stmts_from ss name) k)
  from_label tree.no_stmts name k i = i
  from_label (tree.stmts s ss) name k i = by (is_labelled s name) (from_label ss name k i.1)
    where
      by : (b : Bool) → InItems P Q (items (stmts_from ss name) k) → InItems P Q (items (if b then tree.stmts s ss else stmts_from ss name) k)
      by true j = i
      by false j = j

  none_to_come : (k : List Item) → InItems P Q k → to_come k ≡ []
  none_to_come [] i = refl
  none_to_come (rests.make_arrays kind ns ps ∷ k) i = absurd i.0
  none_to_come (rests.make_event n ∷ k) i = absurd i.0
  none_to_come (item ∷ k) i = none_to_come k i.1

  declared_of : (R : Named → Type 0) (k : List Item) → InItems P Q k → InDeclared P Q R k
  declared_of R (rests.make_arrays kind ns ps ∷ k) i = absurd i.0
  declared_of R (rests.make_event n ∷ k) i = absurd i.0
  declared_of R k i = i

  module _ (R : Named → Type 0) (b : Block) where
    statements : (o : Option Kind) → InDeclared P Q R (items b.stmts (ending (record b { result = o }))) → InItems P Q (items b.stmts (ending (record b { result = o })))
    statements o i = by b.stmts o i
      where
        by : (ss : PStmts) (o : Option Kind) → InDeclared P Q R (items ss (ending (record b { result = o }))) → InItems P Q (items ss (ending (record b { result = o })))
        by tree.no_stmts None i = i
        by tree.no_stmts (Some kind) i = i
        by (tree.stmts s ss) o i = i

    after_events : (ns : List Named) (k : List Item) → (InDeclared P Q R k → InItems P Q (items b.stmts (ending b))) → InDeclared P Q R (event_items ns ++ k) →
        InItems P Q (items b.stmts (ending b))
    after_events [] k f i = f i
    after_events (n ∷ ns) k f i = after_events ns k f i

    after_declarations : (ds : PDecls) → InDeclared P Q R (decls_items ds ++ items b.stmts (ending b)) → InItems P Q (items b.stmts (ending b))
    after_declarations tree.no_decls i = statements b.result i
    after_declarations (tree.decls (tree.arrays kind ns ps) ds) i = after_declarations ds i.1
    after_declarations (tree.decls (tree.events ns) ds) i =
        after_events ns (decls_items ds ++ items b.stmts (ending b)) (after_declarations ds)
        (subst (λ k. InDeclared P Q R k) (append_assoc (event_items ns) (decls_items ds) (items b.stmts (ending b))) i)
    after_declarations (tree.decls (tree.tasks ns) ds) i =
        after_events ns (decls_items ds ++ items b.stmts (ending b)) (after_declarations ds)
        (subst (λ k. InDeclared P Q R k) (append_assoc (event_items ns) (decls_items ds) (items b.stmts (ending b))) i)
    after_declarations (tree.decls _ ds) i = after_declarations ds i

  pub jumps_keep : (R : Named → Type 0) (b : Block) (name : List ℕ) → InDeclared P Q R (items_of b) → InItems P Q (items_from b name)
  jumps_keep R b name i = from_label b.stmts name (ending b) (after_declarations R b b.decls i)

-- ---- the law

module _ (sc : Scopes) (j : ℕ) (b : Block) (name : List ℕ) (i : ItemsKeepToText sc j (items_of b)) where
  from_here : InItems (BlockIsSeen sc j) (IsInner sc j) (items_from b name)
  from_here = jumps_keep (BlockIsSeen sc j) (IsInner sc j) (IsSeenAround sc j) b name i

  jumps_declared : ItemsKeepToText sc j (items_from b name)
  jumps_declared = declared_of (BlockIsSeen sc j) (IsInner sc j) (IsSeenAround sc j) (items_from b name) from_here

pub jumps_keep_to_their_text : JumpsKeepToTheirText
jumps_keep_to_their_text = record {
  text = λ sc j b name i. jumps_declared sc j b name i;
  none = λ sc j b name i.
      all_is_made_in_order.settled sc j (items_from b name) (jumps_declared sc j b name i)
      ∙ none_to_come (BlockIsSeen sc j) (IsInner sc j) (items_from b name) (from_here sc j b name i);
}
