-- Where the machine stands for an expression once its parts are settled or answered: one lemma for each form.
use Rattle.std.proofs.Common.{◌≡◌, refl, sym, subst, ℕ, ◌+◌, arith, Bool, true, false, List, ◌∷◌}
use Rattle.std.specs.Prelude.{not, if◌then◌else◌, Result, Ok, Err}
use Rattle.algol_tree.specs.declared.tree.Op.{Op}
use Rattle.algol_tree.specs.declared.tree.Kind.{Kind}
use Rattle.algol_tree.specs.declared.tree.Kind.TheVariants as types
use Rattle.algol_tree.specs.Plain as tree
use Rattle.algol_tree.specs.Plain.{PExpr}
use Rattle.algol_tree.specs.Types.{given_by, taken_by}
use Rattle.algol_tree.specs.Scopes.{Scopes}
use Rattle.b67_num.specs.declared.NumFault.{NumFault}
use Rattle.b67_num.specs.Whole.{negation_of}
use Rattle.algol_meaning.specs.Value.{Value, number, truth, truth_of}
use Rattle.algol_meaning.specs.Operators.{result_of}
use Rattle.algol_meaning.specs.Rest as rests
use Rattle.algol_meaning.specs.Rest.{Hole, Half, val, busy}
use Rattle.algol_meaning.specs.Settle.{after_result, right_of, left_of, negated_of, inverted_of, condition_of}
use Rattle.b67_ops.specs.declared.Operator.TheVariants as ops
use Rattle.b67_ops.specs.declared.PlainKind.TheVariants as kinds
use Rattle.b67_ops.specs.declared.BranchKind.TheVariants.{Brfl, Brun}
use Rattle.b67_segment.specs.Operators.{Placed}
use Rattle.b67_templates.specs.Contexts.{Context}
use Rattle.b67_templates.specs.Fragments.{HasKind, Has, ReadyAt, BranchAt, FragmentGoes, operator_for, is_implication}
use Rattle.b67_templates.specs.Code.{ExprAt}
use Rattle.b67_templates.specs.Depths.{depth}
use Rattle.b67_standing.specs.Stepping.{Slot, operand, ready, SlotsHaveRoom, calculate, negate, invert, false_stays, false_goes, StepsLead, there, first}
use Rattle.b67_standing.specs.Standing.{Holds, Shows}
use Rattle.b67_standing.proofs.Leading.{goes_on, on, valued_at}
use Rattle.b67_standing.proofs.Values.{result_kind, negation_whole, implication_takes}

-- by private operators the machine comes to where that stands, of that kind
pub record Comes (sc : Scopes) (context : Context) (ps : List Placed) (level most : ℕ) (k : Kind) (pc : ℕ) (slots : List Slot) (x : Half) (below : List Slot) (to : ℕ) :
    Type 0 where
  pub at : ℕ
  pub with_slots : List Slot
  pub leads : StepsLead sc context ps level most pc slots at with_slots
  pub shows : Shows sc context ps level most k x at with_slots below to

module _ (sc : Scopes) (context : Context) (ps : List Placed) (level most : ℕ) where
  abbrev pub Coming : Kind → ℕ → List Slot → Half → List Slot → ℕ → Type 0
  Coming = Comes sc context ps level most

  abbrev Lead : ℕ → List Slot → ℕ → List Slot → Type 0
  Lead = StepsLead sc context ps level most

  abbrev Showing : Kind → Half → ℕ → List Slot → List Slot → ℕ → Type 0
  Showing = Shows sc context ps level most

  -- what is to come to n may come to where n goes
  further : (k : Kind) (h : Hole) (pc : ℕ) (slots below : List Slot) (n to : ℕ) → Holds sc context ps level most k h pc slots below n → FragmentGoes ps level n to →
      Holds sc context ps level most k h pc slots below to
  further k (rests.read x) pc slots below n to s g = (s.0, s.1, s.2, s.3, goes_on ps level s.4 g)
  further k (rests.tests x ns) pc slots below n to s g = (s.0, s.1, s.2, goes_on ps level s.3 g)
  further k (rests.broken op v w fault) pc slots below n to s g = s
  further k (rests.enter x gs) pc slots below n to s g = (s.0, s.1, s.2, s.3, s.4, goes_on ps level s.5 g)
  further k (rests.element x ks v) pc slots below n to s g = (s.0, s.1, s.2, s.3, goes_on ps level s.4 g)
  further k (rests.index x ks v e tree.none) pc slots below n to s g = (s.0, s.1, s.2, s.3, s.4, s.5, s.6, s.7, s.8, s.9, goes_on ps level s.10 g)
  further k (rests.subscript x ks h es) pc slots below n to s g = (s.0, s.1, s.2, s.3, s.4, s.5, s.6, s.7, goes_on ps level s.8 g)
  further k (rests.left op h b) pc slots below n to s g = (s.0, s.1, s.2, s.3, s.4, s.5, s.6, s.7, s.8, s.9, goes_on ps level s.10 g)
  further k (rests.right op v h) pc slots below n to s g = (s.0, s.1, s.2, s.3, s.4, s.5, goes_on ps level s.6 g)
  further k (rests.negated h) pc slots below n to s g = (s.0, s.1, s.2, s.3, s.4, goes_on ps level s.5 g)
  further k (rests.inverted h) pc slots below n to s g = (s.0, s.1, s.2, s.3, s.4, goes_on ps level s.5 g)
  further k (rests.condition h x y) pc slots below n to s g = (s.0, s.1, s.2, s.3, s.4, s.5, s.6, s.7, s.8, s.9, s.10, s.11, goes_on ps level s.12 g, s.13)
  further k (rests.argument x gs) pc slots below n to s g = (s.0, s.1, s.2, s.3, s.4, s.5, s.6, s.7, goes_on ps level s.8 g)
  further k _ pc slots below n to s g = absurd s

  widened : (k : Kind) (x : Half) (pc : ℕ) (slots below : List Slot) (n to : ℕ) → Showing k x pc slots below n → FragmentGoes ps level n to → Showing k x pc slots below to
  widened k (val v) pc slots below n to s g = (goes_on ps level s.0 g, s.1, s.2)
  widened k (busy h) pc slots below n to s g = further k h pc slots below n to s g

  pub here : (k : Kind) (pc : ℕ) (slots : List Slot) (x : Half) (below : List Slot) (to : ℕ) → Showing k x pc slots below to → Coming k pc slots x below to
  here k pc slots x below to s = record { at = pc; with_slots = slots; leads = there; shows = s }

  pub after : (k : Kind) {a b : ℕ} {y z : List Slot} {x : Half} {below : List Slot} {to : ℕ} → Lead a y b z → Coming k b z x below to → Coming k a y x below to
  after k l c = record { at = c.at; with_slots = c.with_slots; leads = on sc context ps level most l c.leads; shows = c.shows }

  -- of this kind, or of one that is the same
  pub of_kind : {k l : Kind} (pc : ℕ) (slots : List Slot) (x : Half) (below : List Slot) (to : ℕ) → l ≡ k → Coming k pc slots x below to → Coming l pc slots x below to
  of_kind pc slots x below to e c = subst (λ z. Coming z pc slots x below to) (sym e) c

  wider : (k : Kind) (x : Half) (pc : ℕ) (slots below : List Slot) (n to : ℕ) → Coming k pc slots x below n → FragmentGoes ps level n to → Coming k pc slots x below to
  wider k x pc slots below n to c g =
      record { at = c.at; with_slots = c.with_slots; leads = c.leads; shows = widened k x c.at c.with_slots below n to c.shows g }

  value_at : (pc : ℕ) (slots : List Slot) (v : Value) (below : List Slot) (to : ℕ) → FragmentGoes ps level pc to → slots ≡ operand v ∷ below → Lead pc slots to (operand v ∷ below)
  value_at = valued_at sc context ps level most

  -- ---- one lemma for each form that settling and answering share

  calc_at : (op : Op) (v w : Value) (r : Result Value NumFault) (pc next to : ℕ) (below : List Slot) → result_of op v w ≡ r → HasKind (taken_by op) v → HasKind (taken_by op) w →
      Has ps level pc (ops.Plain (operator_for op)) next → FragmentGoes ps level next to →
      Coming (given_by op) pc (operand w ∷ operand (ready op v) ∷ below) (after_result op v w r) below to
  calc_at op v w (Ok x) pc next to below e kv kw h g =
      record { at = next; with_slots = operand x ∷ below; leads = first (calculate op v w x h kv kw e) there; shows = (g, refl, result_kind op v w x e) }
  calc_at op v w (Err fault) pc next to below e kv kw h g =
      here (given_by op) pc (operand w ∷ operand (ready op v) ∷ below) (busy (rests.broken op v w fault)) below to
      (next, refl, record { first_fits = kv; second_fits = kw; breaks = e; lies = refl; stands = h })

  pub right_at : (op : Op) (v : Value) (x : Half) (pc : ℕ) (slots below : List Slot) (n next to : ℕ) → Showing (taken_by op) x pc slots (operand (ready op v) ∷ below) n →
      HasKind (taken_by op) v → Has ps level n (ops.Plain (operator_for op)) next → FragmentGoes ps level next to → Coming (given_by op) pc slots (right_of op v x) below to
  right_at op v (val w) pc slots below n next to s kv h g =
      after (given_by op) (value_at pc slots w (operand (ready op v) ∷ below) n s.0 s.1) (calc_at op v w (result_of op v w) n next to below refl kv s.2 h g)
  right_at op v (busy k) pc slots below n next to s kv h g = here (given_by op) pc slots (busy (rests.right op v k)) below to (n, next, refl, kv, s, h, g)

  ready_by : (c : Bool) (v : Value) (m r : ℕ) (below : List Slot) → (c ≡ true → HasKind types.Truth v) → ReadyAt ps level c m r →
      Lead m (operand v ∷ below) r (operand (if c then truth (not (truth_of v)) else v) ∷ below)
  ready_by true (truth b) m r below k h = first (invert b h) there
  ready_by true (number z) m r below k h = absurd (k refl)
  ready_by false v m r below k h = subst (λ z. Lead m (operand v ∷ below) z (operand v ∷ below)) h there

  ready_at : (op : Op) (v : Value) (m r : ℕ) (below : List Slot) → HasKind (taken_by op) v → ReadyAt ps level (is_implication op) m r →
      Lead m (operand v ∷ below) r (operand (ready op v) ∷ below)
  ready_at op v m r below k h = ready_by (is_implication op) v m r below (λ e. subst (λ z. HasKind z v) (implication_takes op e) k) h

  -- the second operand comes by itself, on top of the first
  pub left_at : (op : Op) (x : Half) (b : PExpr) (s : Half) (pc : ℕ) (slots below : List Slot) (m r n next to : ℕ) → Showing (taken_by op) x pc slots below m →
      ReadyAt ps level (is_implication op) m r → ExprAt sc context ps level (taken_by op) b r n n → SlotsHaveRoom most below (1 + depth b) →
      ((o : List Slot) → SlotsHaveRoom most o (depth b) → Coming (taken_by op) r o s o n) → Has ps level n (ops.Plain (operator_for op)) next → FragmentGoes ps level next to →
      Coming (given_by op) pc slots (left_of op x b s) below to
  left_at op (val v) b s pc slots below m r n next to sh d e room c h g =
      let up = operand (ready op v) ∷ below in
      let y = c up (omega (arith, room)) in
      after (given_by op) (value_at pc slots v below m sh.0 sh.1) (after (given_by op) (ready_at op v m r below sh.2 d)
      (after (given_by op) y.leads (right_at op v s y.at y.with_slots below n next to y.shows sh.2 h g)))
  left_at op (busy k) b s pc slots below m r n next to sh d e room c h g =
      here (given_by op) pc slots (busy (rests.left op k b)) below to (m, r, n, next, refl, sh, d, e, room, h, g)

  pub negated_at : (x : Half) (pc : ℕ) (slots below : List Slot) (m next to : ℕ) → Showing types.Number x pc slots below m → Has ps level m (ops.Plain kinds.Chsn) next →
      FragmentGoes ps level next to → Coming types.Number pc slots (negated_of x) below to
  negated_at (val (number z)) pc slots below m next to s h g =
      after types.Number (value_at pc slots (number z) below m s.0 s.1)
      (record { at = next; with_slots = operand (number (negation_of z)) ∷ below; leads = first (negate z h s.2) there; shows = (g, refl, negation_whole z s.2) })
  negated_at (val (truth b)) pc slots below m next to s h g = absurd s.2
  negated_at (busy k) pc slots below m next to s h g = here types.Number pc slots (busy (rests.negated k)) below to (m, next, refl, s, h, g)

  pub inverted_at : (x : Half) (pc : ℕ) (slots below : List Slot) (m next to : ℕ) → Showing types.Truth x pc slots below m → Has ps level m (ops.Plain kinds.Lnot) next →
      FragmentGoes ps level next to → Coming types.Truth pc slots (inverted_of x) below to
  inverted_at (val (truth b)) pc slots below m next to s h g =
      after types.Truth (value_at pc slots (truth b) below m s.0 s.1)
      (record { at = next; with_slots = operand (truth (not b)) ∷ below; leads = first (invert b h) there; shows = (g, refl, tt) })
  inverted_at (val (number z)) pc slots below m next to s h g = absurd s.2
  inverted_at (busy k) pc slots below m next to s h g = here types.Truth pc slots (busy (rests.inverted k)) below to (m, next, refl, s, h, g)

  parted : (k : Kind) (b : Bool) (x y : Half) (below : List Slot) (m m' n' u to : ℕ) → BranchAt ps level Brfl m n' m' → FragmentGoes ps level u to → Coming k m' below x below u →
      Coming k n' below y below u → Coming k m (operand (truth b) ∷ below) (if b then x else y) below to
  parted k true x y below m m' n' u to h g c d = after k (first (false_stays h) there) (wider k x m' below below u to c g)
  parted k false x y below m m' n' u to h g c d = after k (first (false_goes h) there) (wider k y n' below below u to d g)

  pub condition_at : (k : Kind) (x : Half) (a b : PExpr) (s t : Half) (pc : ℕ) (slots below : List Slot) (m m' n n' e u to : ℕ) → Showing types.Truth x pc slots below m →
      BranchAt ps level Brfl m n' m' → ExprAt sc context ps level k a m' n u → BranchAt ps level Brun n u n' → ExprAt sc context ps level k b n' e u → FragmentGoes ps level e u →
      FragmentGoes ps level u to → SlotsHaveRoom most below (depth a + depth b) → Coming k m' below s below u → Coming k n' below t below u → Coming k pc slots (condition_of x a b s t) below to
  condition_at k (val (truth c)) a b s t pc slots below m m' n n' e u to sh h i j l g f room y z =
      after k (value_at pc slots (truth c) below m sh.0 sh.1) (parted k c s t below m m' n' u to h f y z)
  condition_at k (val (number c)) a b s t pc slots below m m' n n' e u to sh h i j l g f room y z = absurd sh.2
  condition_at k (busy c) a b s t pc slots below m m' n n' e u to sh h i j l g f room y z =
      here k pc slots (busy (rests.condition c a b)) below to (m, m', n, n', e, u, sh, h, i, j, l, g, f, room)
