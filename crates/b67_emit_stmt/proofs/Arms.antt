-- The code of a statement, from that of its parts.
use Rattle.std.proofs.Common.{◌≡◌, ℕ, ◌+◌, ◌≤◌, sym, subst, arith}
use Rattle.std.specs.Prelude.{List, [], ◌∷◌}
use Rattle.algol_tree.specs.declared.token.Spot.{Spot}
use Rattle.algol_tree.specs.declared.tree.Kind.TheVariants as types
use Rattle.algol_tree.specs.declared.tree.Named.{Named}
use Rattle.algol_tree.specs.declared.tree.Op.TheVariants as operators
use Rattle.algol_tree.specs.Plain as tree
use Rattle.algol_tree.specs.Plain.{PExpr, PStmt, PStmts}
use Rattle.b67_emit_stmt.specs.Places.{Later, Place, AssignAt, ExprAt, StepAt, StmtAt, StmtsAt}
use Rattle.algol_meaning.specs.Statements.{alone}
use Rattle.b67_ops.specs.declared.Operator.TheVariants as ops
use Rattle.b67_ops.specs.declared.PlainKind.TheVariants as kinds
use Rattle.b67_ops.specs.declared.BranchKind.{BranchKind}
use Rattle.b67_ops.specs.declared.BranchKind.TheVariants.{Brfl, Brtr, Brun}
use Rattle.b67_segment.specs.Operators.{Placed, size}
use Rattle.b67_templates.specs.Fragments.{Has, AllAt, BranchAt, TurnAt}
use Rattle.b67_emit_stmt.specs.Lengths.{expr_syllables, stmt_syllables, stmts_syllables}
use Rattle.b67_templates.specs.Emitting.{EmittedWithExits}
use Rattle.b67_emitter.specs.Aiming.{Aimed}
use Rattle.b67_emit_stmt.specs.declared.draft.Draft.{Draft}
use Rattle.b67_emit_stmt.specs.declared.draft.Known.{Known}
use Rattle.b67_emit_stmt.specs.Drafts.{Emits, draft_noted}
use Rattle.b67_emit_stmt.proofs.Drafts.{emits_then, emits_weaker, hole_closed}

module _ (sc : Place) (level : ℕ) where
  -- a statement stands from one draft's end to another's
  abbrev pub Stands : PStmt → Draft → Draft → Later → List Placed → ℕ → Type 0
  Stands s a b later qs target = StmtAt sc later qs level s (size a.out.operators) (size b.out.operators) target

  -- the same where its exits go to the place after it
  abbrev pub Closed : PStmt → Draft → Draft → Later → List Placed → ℕ → Type 0
  Closed s a b later qs target = StmtAt sc later qs level s (size a.out.operators) (size b.out.operators) (size b.out.operators)

  abbrev pub Valued : PExpr → Draft → Draft → Later → List Placed → ℕ → Type 0
  Valued e a b later qs target = ExprAt sc later qs level types.Number e (size a.out.operators) (size b.out.operators) (size b.out.operators)

  abbrev pub Tested : PExpr → Draft → Draft → Later → List Placed → ℕ → Type 0
  Tested e a b later qs target = ExprAt sc later qs level types.Truth e (size a.out.operators) (size b.out.operators) (size b.out.operators)

  abbrev pub Left : BranchKind → Draft → Draft → Later → List Placed → ℕ → Type 0
  Left kind a b later qs target = BranchAt qs level kind (size a.out.operators) target (size b.out.operators)

  abbrev pub Turned : Draft → Draft → Draft → Later → List Placed → ℕ → Type 0
  Turned start a b later qs target = TurnAt qs level (size a.out.operators) (size start.out.operators) (size b.out.operators)

  pub if_then_arm : (known : Known) (c : PExpr) (x : PStmt) (a b d e : Draft) → Emits (expr_syllables known c) a b (Tested c a b) → Emits 3 b d (Left Brfl b d) →
      Emits (stmt_syllables known x) d e (Stands x d e) → Emits (stmt_syllables known (tree.if_then c x)) a e (Stands (tree.if_then c x) a e)
  if_then_arm known c x a b d e h i j =
      emits_weaker (Stands (tree.if_then c x) a e) (emits_then (emits_then h i) j) (omega arith)
      (λ later qs target hi p. (size b.out.operators, size d.out.operators, p.0.0, p.0.1, p.1))

  -- IF with ELSE up to its second statement
  abbrev pub Chosen : PExpr → PStmt → Draft → Draft → Later → List Placed → ℕ → Type 0
  Chosen c x a b later qs target =
      (m : ℕ) × (m' : ℕ) × (n : ℕ) × ExprAt sc later qs level types.Truth c (size a.out.operators) m m × BranchAt qs level Brfl m (size b.out.operators) m'
      × StmtAt sc later qs level x m' n target × BranchAt qs level Brun n target (size b.out.operators)

  pub then_arm : (known : Known) (c : PExpr) (x : PStmt) (a b d e f g : Draft) (holes : List ℕ) → Emits (expr_syllables known c) a b (Tested c a b) →
      EmittedWithExits b.out d.out [] holes (λ qs target. BranchAt qs level Brfl (size b.out.operators) target (size d.out.operators)) →
      size d.out.operators ≤ size b.out.operators + 3 → d.exits.items ≡ b.exits.items → draft_noted d ≡ draft_noted b →
      Emits (stmt_syllables known x) d e (Stands x d e) → Emits 3 e f (Left Brun e f) → Aimed holes f.out g.out → g.exits.items ≡ f.exits.items → draft_noted g ≡ draft_noted f →
      Emits (expr_syllables known c + stmt_syllables known x + 6) a g (Chosen c x a g)
  then_arm known c x a b d e f g holes h hole wide es fs i j aimed es' fs' =
      let T : List Placed → ℕ → Type 0 = λ qs t. BranchAt qs level Brfl (size b.out.operators) t (size d.out.operators) in
      let U : List Placed → ℕ → ℕ → Type 0 = λ qs target t. BranchAt qs level Brun (size e.out.operators) target t in
      emits_weaker (Chosen c x a g) (emits_then h (hole_closed 3 {b = d} hole wide es fs (emits_then i j) aimed es' fs')) (omega arith)
      (λ later qs target hi p. (
        size b.out.operators,
        size d.out.operators,
        size e.out.operators,
        p.0,
        subst (T qs) (sym aimed.place) p.1.0,
        p.1.1.0,
        subst (U qs target) (sym aimed.place) p.1.1.1,
      ))

  pub if_else_arm : (known : Known) (c : PExpr) (x y : PStmt) (a b d : Draft) → Emits (expr_syllables known c + stmt_syllables known x + 6) a b (Chosen c x a b) →
      Emits (stmt_syllables known y) b d (Stands y b d) → Emits (stmt_syllables known (tree.if_else c x y)) a d (Stands (tree.if_else c x y) a d)
  if_else_arm known c x y a b d h i =
      emits_weaker (Stands (tree.if_else c x y) a d) (emits_then h i) (omega arith)
      (λ later qs target hi p. (p.0.0, p.0.1, p.0.2, size b.out.operators, p.0.3, p.0.4, p.0.5, p.0.6, p.1))

  pub while_arm : (known : Known) (c : PExpr) (x : PStmt) (a b d e f : Draft) → Emits (expr_syllables known c) a b (Tested c a b) → Emits 3 b d (Left Brfl b d) →
      Emits (stmt_syllables known x) d e (Closed x d e) → Emits 3 e f (Turned a e f) → Emits (stmt_syllables known (tree.while c x)) a f (Stands (tree.while c x) a f)
  while_arm known c x a b d e f h i j k =
      emits_weaker (Stands (tree.while c x) a f) (emits_then (emits_then (emits_then h i) j) k) (omega arith)
      (λ later qs target hi p. (size b.out.operators, size d.out.operators, size e.out.operators, p.0.0.0, p.0.0.1, p.0.1, p.1))

  pub until_arm : (known : Known) (c : PExpr) (x : PStmt) (a b d e f : Draft) → Emits (stmt_syllables known x) a b (Closed x a b) → Emits (expr_syllables known c) b d (Tested c b d) →
      Emits 3 d e (Left Brtr d e) → Emits 3 e f (Turned a e f) → Emits (stmt_syllables known (tree.until x c)) a f (Stands (tree.until x c) a f)
  until_arm known c x a b d e f h i j k =
      emits_weaker (Stands (tree.until x c) a f) (emits_then (emits_then (emits_then h i) j) k) (omega arith)
      (λ later qs target hi p. (size b.out.operators, p.0.0.0, (size d.out.operators, size e.out.operators, p.0.0.1, p.0.1, p.1)))

  pub for_arm : (known : Known) (v : Named) (first s l : PExpr) (x : PStmt) (a b d e f g i : Draft) →
      Emits (4 + expr_syllables known first) a b (λ later qs target. AssignAt sc later qs level v first (size a.out.operators) (size b.out.operators)) →
      Emits (3 + expr_syllables known l) b d (Valued (tree.two operators.Sub (alone v) l) b d) →
      Emits (13 + expr_syllables known s) d e (λ later qs target. StepAt sc later qs level s (size d.out.operators) target (size e.out.operators)) →
      Emits (stmt_syllables known x) e f (Closed x e f) →
      Emits (7 + expr_syllables known s) f g (λ later qs target. AssignAt sc later qs level v (tree.two operators.Add (alone v) s) (size f.out.operators) (size g.out.operators)) →
      Emits 3 g i (Turned b g i) → Emits (stmt_syllables known (tree.for v first s l x)) a i (Stands (tree.for v first s l x) a i)
  for_arm known v first s l x a b d e f g i h j k m n o =
      emits_weaker (Stands (tree.for v first s l x) a i) (emits_then (emits_then (emits_then (emits_then (emits_then h j) k) m) n) o) (omega arith)
      (λ later qs target hi p. (
        size b.out.operators,
        size d.out.operators,
        size e.out.operators,
        size f.out.operators,
        size g.out.operators,
        p.0.0.0.0.0,
        p.0.0.0.0.1,
        p.0.0.0.1,
        p.0.0.1,
        p.0.1,
        p.1,
      ))

  pub thru_arm : (known : Known) (n : PExpr) (x : PStmt) (a b d e f g i j k : Draft) (holes : List ℕ) → Emits (expr_syllables known n) a b (Valued n a b) →
      Emits 3 b d (λ later qs target. AllAt qs level (kinds.Dupl ∷ kinds.One ∷ kinds.Less ∷ []) (size b.out.operators) (size d.out.operators)) →
      EmittedWithExits d.out e.out [] holes (λ qs target. BranchAt qs level Brtr (size d.out.operators) target (size e.out.operators)) →
      size e.out.operators ≤ size d.out.operators + 3 → e.exits.items ≡ d.exits.items → draft_noted e ≡ draft_noted d →
      Emits 2 e f (λ later qs target. AllAt qs level (kinds.One ∷ kinds.Subt ∷ []) (size e.out.operators) (size f.out.operators)) →
      Emits (stmt_syllables known x) f g (Closed x f g) → Emits 3 g i (Turned b g i) → Aimed holes i.out j.out → j.exits.items ≡ i.exits.items → draft_noted j ≡ draft_noted i →
      Emits 1 j k (λ later qs target. Has qs level (size j.out.operators) (ops.Plain kinds.Dlet) (size k.out.operators)) →
      Emits (stmt_syllables known (tree.thru n x)) a k (Stands (tree.thru n x) a k)
  thru_arm known n x a b d e f g i j k holes h test hole wide es fs less body turn aimed es' fs' last =
      let D : List Placed → ℕ → ℕ → Type 0 = λ qs to at. Has qs level at (ops.Plain kinds.Dlet) to in
      emits_weaker (Stands (tree.thru n x) a k)
      (emits_then (emits_then (emits_then h test) (hole_closed 3 {b = e} hole wide es fs (emits_then (emits_then less body) turn) aimed es' fs')) last) (omega arith)
      (λ later qs target hi p. (
        size b.out.operators,
        size i.out.operators,
        size f.out.operators,
        size g.out.operators,
        p.0.0.0,
        record { tested = size d.out.operators; gone = size e.out.operators; test = p.0.0.1; branch = p.0.1.0; less = p.0.1.1.0.0 },
        p.0.1.1.0.1,
        p.0.1.1.1,
        subst (D qs (size k.out.operators)) aimed.place p.1,
      ))

  pub block_arm : (known : Known) (spot : Spot) (ss : PStmts) (a b : Draft) →
      Emits (stmts_syllables known ss) a b (λ later qs target. StmtsAt sc later qs level ss (size a.out.operators) (size b.out.operators) target) →
      Emits (stmt_syllables known (tree.block (tree.body spot tree.no_decls ss))) a b (Stands (tree.block (tree.body spot tree.no_decls ss)) a b)
  block_arm known spot ss a b h = emits_weaker (Stands (tree.block (tree.body spot tree.no_decls ss)) a b) h (omega arith) (λ later qs target hi p. p)
