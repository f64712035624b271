-- From the branch in the table for a label the machine comes to where it stands for the statements from the label on.
use Rattle.std.proofs.Common.{◌≡◌, refl, sym, ◌∙◌, subst, ℕ, ◌≤◌, arith, Bool, true, false, List, [], ◌∷◌, ◌++◌, Some}
use Rattle.std.specs.Prelude.{if◌then◌else◌}
use Rattle.algol_tree.specs.declared.tree.Named.{Named}
use Rattle.algol_tree.specs.Plain as tree
use Rattle.algol_tree.specs.Plain.{PStmt, PStmts, PDecls}
use Rattle.algol_tree.specs.Sorts.{same_name}
use Rattle.algol_tree.specs.Scopes.{Scopes}
use Rattle.algol_meaning.specs.Rest.{Item}
use Rattle.algol_meaning.specs.Statements.{items, event_items, decls_items, ending, is_labelled, stmts_from, items_from, settle_items}
use Rattle.b67_segment.specs.Operators.{Placed}
use Rattle.b67_templates.specs.Contexts.{Context}
use Rattle.b67_templates.specs.Fragments.{stop}
use Rattle.b67_templates.specs.Labels.{label_before, label_in}
use Rattle.b67_templates.specs.Code.{StmtAt, KAt}
use Rattle.b67_templates.specs.Depths.{stmts_depth}
use Rattle.b67_standing.specs.Stepping.{go, there, first}
use Rattle.b67_standing.specs.Standing.{ComesTo}
use Rattle.b67_standing.specs.Laws.{JumpsStand}
use Rattle.b67_standing.proofs.Rests.{after_rest}
use Rattle.b67_standing.proofs.Starting.{items_uncounted, decls_split, none_wait, items_shallow, ends, bare_start}

some_is : {X : Type 0} {a b : X} → Some a ≡ Some b → a ≡ b
some_is e = cc

from_depth : (ss : PStmts) (name : List ℕ) → stmts_depth (stmts_from ss name) ≤ stmts_depth ss
from_depth tree.no_stmts name = omega arith
from_depth (tree.stmts s ss) name = by (is_labelled s name) (from_depth ss name)
  where
    by : (b : Bool) → stmts_depth (stmts_from ss name) ≤ stmts_depth ss → stmts_depth (if b then tree.stmts s ss else stmts_from ss name) ≤ stmts_depth (tree.stmts s ss)
    by true later = omega arith
    by false later = omega (arith, later)

module _ (sc : Scopes) (context : Context) (ps : List Placed) (level : ℕ) where
  -- what the declarations of a block make comes before its statements
  events_made : (ns : List Named) (k : List Item) (pc : ℕ) → KAt sc context ps level (event_items ns ++ k) pc → (f : ℕ) × KAt sc context ps level k f
  events_made [] k pc s = (pc, s)
  events_made (n ∷ ns) k pc s = events_made ns k s.1 s.5

  all_made : (ds : PDecls) (k : List Item) (pc : ℕ) → KAt sc context ps level (decls_items ds ++ k) pc → (f : ℕ) × KAt sc context ps level k f
  all_made tree.no_decls k pc s = (pc, s)
  all_made (tree.decls (tree.arrays kind ns pairs) ds) k pc s = all_made ds k s.1 s.5
  all_made (tree.decls (tree.events ns) ds) k pc s =
      let l = events_made ns (decls_items ds ++ k) pc (subst (λ o. KAt sc context ps level o pc) (decls_split (tree.events ns) ds k) s) in all_made ds k l.0 l.1
  all_made (tree.decls (tree.tasks ns) ds) k pc s =
      let l = events_made ns (decls_items ds ++ k) pc (subst (λ o. KAt sc context ps level o pc) (decls_split (tree.tasks ns) ds k) s) in all_made ds k l.0 l.1
  all_made (tree.decls (tree.simple kind ns) ds) k pc s = all_made ds k pc s
  all_made (tree.decls (tree.files ns) ds) k pc s = all_made ds k pc s
  all_made (tree.decls (tree.labels ns) ds) k pc s = all_made ds k pc s
  all_made (tree.decls (tree.forward heading) ds) k pc s = all_made ds k pc s
  all_made (tree.decls (tree.procedure heading x) ds) k pc s = all_made ds k pc s

  -- a statement stands where the label before it does
  labelled_at : (s : PStmt) (name : List ℕ) (label : Named) (f t u : ℕ) → label_before s name ≡ Some label → StmtAt sc context ps level s f t u → context.labels label.spot ≡ Some f
  labelled_at (tree.label n s) name label f t u e h = by (same_name n.name name) (λ e'. labelled_at s name label f t u e' h.1) e
    where
      by : (b : Bool) → (label_before s name ≡ Some label → context.labels label.spot ≡ Some f) → (if b then Some n else label_before s name) ≡ Some label → context.labels label.spot ≡ Some f
      by true later e' = subst (λ (x : Named). context.labels x.spot ≡ Some f) (some_is e') h.0
      by false later e' = later e'
  labelled_at _ name label f t u e h = cc

  -- .. and the statements from there on, with what comes after them
  record From (ss : PStmts) (k : List Item) (name : List ℕ) (label : Named) : Type 0 where
    pub at : ℕ
    pub place : context.labels label.spot ≡ Some at
    pub follows : KAt sc context ps level (items (stmts_from ss name) k) at

  labelled_in : (ss : PStmts) (k : List Item) (name : List ℕ) (label : Named) (pc : ℕ) → label_in ss name ≡ Some label → KAt sc context ps level (items ss k) pc → From ss k name label
  labelled_in tree.no_stmts k name label pc e h = cc
  labelled_in (tree.stmts s ss) k name label pc e h = by (is_labelled s name) refl (λ e'. labelled_in ss k name label h.2 e' h.6) e
    where
      by : (b : Bool) → is_labelled s name ≡ b → (label_in ss name ≡ Some label → From ss k name label) → (if b then label_before s name else label_in ss name) ≡ Some label →
          From (tree.stmts s ss) k name label
      by true is later e' = record {
        at = h.0;
        place = labelled_at s name label h.0 h.1 h.2 e' h.4;
        follows = subst (λ (b : Bool). KAt sc context ps level (items (if b then tree.stmts s ss else stmts_from ss name) k) h.0) (sym is) (h.0, h.1, h.2, stop, h.4, h.5, h.6);
      }
      by false is later e' =
          let l = later e' in
          record {
            at = l.at;
            place = l.place;
            follows = subst (λ (b : Bool). KAt sc context ps level (items (if b then tree.stmts s ss else stmts_from ss name) k) l.at) (sym is) l.follows;
          }

pub jumps_stand : JumpsStand
jumps_stand sc context ps level most b name number pc h l room one =
    let e = ends most b b.result refl one in
    let statements = all_made sc context ps level b.decls (items b.stmts (ending b)) pc h in
    let from = labelled_in sc context ps level b.stmts (ending b) name l.label statements.0 l.stands statements.1 in
    let all = items_uncounted (stmts_from b.stmts name) (ending b) e.none in
    let same : from.at ≡ l.target = some_is (sym from.place ∙ l.place) in
    let start = bare_start sc context ps level most (items_from b name) from.at all (record {
      at = from.follows;
      shallow = items_shallow most (stmts_from b.stmts name) (ending b) e.none (omega (arith, room, from_depth b.stmts name)) e.shallow;
      counts = none_wait (items_from b name) all;
    }) in
    after_rest sc context ps level most (first (go l.branch) there) (subst (λ z. ComesTo sc context ps level most (settle_items sc (items_from b name)) z []) same start)
