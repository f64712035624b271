-- Fragments one after another, branches forward, and the counts that lie below.
use Rattle.std.proofs.Common.{◌≡◌, refl, sym, subst, ℕ, ◌<◌, ◌≤◌, arith, List, [], ◌∷◌, length}
use Rattle.algol_tree.specs.Plain as tree
use Rattle.algol_tree.specs.Plain.{PExpr, PStmt, PStmts}
use Rattle.algol_tree.specs.Scopes.{Scopes}
use Rattle.algol_meaning.specs.Value.{Value}
use Rattle.algol_meaning.specs.Rest as rests
use Rattle.algol_meaning.specs.Rest.{Item}
use Rattle.b67_ops.specs.declared.Operator.{Operator}
use Rattle.b67_ops.specs.declared.PlainKind.{PlainKind}
use Rattle.b67_ops.proofs.Laws.{length_spelling}
use Rattle.b67_segment.specs.Operators.{Placed}
use Rattle.b67_templates.specs.Contexts.{Context}
use Rattle.b67_templates.specs.Fragments.{Has, AllAt, FragmentGoes, stop, over}
use Rattle.b67_templates.specs.Code.{HasNoCounts, StmtAt, KAt}
use Rattle.b67_templates.specs.Depths.{depth, stmt_depth, counts_in}
use Rattle.b67_standing.specs.Stepping.{Slot, operand, SlotsHaveRoom, FragmentStep, push_number, push_truth, push_reference, stuff, move, exchange, calculate, negate, invert, false_stays, false_goes, true_stays, true_goes, go, call, announce, summon, drop, counts, spent, within, past, within_literal, past_literal, StepsLead, there, first}
use Rattle.b67_standing.specs.Standing.{pend, SlotsFollow}

-- an expression needs a word at least
pub depth_positive : (e : PExpr) → 1 ≤ depth e
depth_positive (tree.paren e spot) = depth_positive e
depth_positive (tree.plus e spot) = depth_positive e
depth_positive (tree.neg e spot) = depth_positive e
depth_positive (tree.not e spot) = depth_positive e
depth_positive (tree.two op a b) = omega (arith, depth_positive a)
depth_positive (tree.if c x y spot) = omega (arith, depth_positive c)
depth_positive (tree.variable (tree.subscripted n tree.none)) = omega arith
depth_positive (tree.variable (tree.subscripted n (tree.more e es))) = omega arith
depth_positive (tree.call (tree.called n es)) = omega arith
depth_positive _ = omega arith

pub pend_length : (k : List Item) → length (pend k) ≡ counts_in k
pend_length [] = refl
pend_length (rests.count n b ∷ k) = omega (arith, pend_length k)
pend_length (rests.run s ∷ k) = pend_length k
pend_length (rests.turn ∷ k) = pend_length k
pend_length (rests.check b c ∷ k) = pend_length k
pend_length (rests.test loop ∷ k) = pend_length k
pend_length (rests.result name ∷ k) = pend_length k
pend_length (rests.make_arrays kind ns pairs ∷ k) = pend_length k
pend_length (rests.make_event n ∷ k) = pend_length k

-- without a THRU nothing waits
pub pend_none : (k : List Item) → HasNoCounts k → pend k ≡ []
pend_none [] h = refl
pend_none (rests.count n b ∷ k) h = absurd h
pend_none (rests.run s ∷ k) h = pend_none k h
pend_none (rests.turn ∷ k) h = pend_none k h
pend_none (rests.check b c ∷ k) h = pend_none k h
pend_none (rests.test loop ∷ k) h = pend_none k h
pend_none (rests.result name ∷ k) h = pend_none k h
pend_none (rests.make_arrays kind ns pairs ∷ k) h = pend_none k h
pend_none (rests.make_event n ∷ k) h = pend_none k h

module _ (ps : List Placed) (level : ℕ) where
  pub forward : {at next : ℕ} {op : Operator} → Has ps level at op next → at < next
  forward {at} {next} {op} h = omega (arith, h.next_is, (length_spelling at level op).0)

  pub all_forward : (list : List PlainKind) (from to : ℕ) → AllAt ps level list from to → from ≤ to
  all_forward [] from to h = omega (arith, h)
  all_forward (kind ∷ more) from to h = omega (arith, forward h.1, all_forward more h.0 to h.2)

  pub goes_on : {a b c : ℕ} → FragmentGoes ps level a b → FragmentGoes ps level b c → FragmentGoes ps level a c
  goes_on stop g = g
  goes_on (over next h k) g = over next h (goes_on k g)

module _ (sc : Scopes) (context : Context) (ps : List Placed) (level most : ℕ) where
  pub on : {a b c : ℕ} {x y z : List Slot} → StepsLead sc context ps level most a x b y → StepsLead sc context ps level most b y c z → StepsLead sc context ps level most a x c z
  on there l = l
  on (first s k) l = first s (on k l)

  pub leads_by : {a b : ℕ} {slots : List Slot} → FragmentGoes ps level a b → StepsLead sc context ps level most a slots b slots
  leads_by stop = there
  leads_by (over next h g) = first (go h) (leads_by g)

  -- a value stands at that place on top of that
  pub valued_at : (pc : ℕ) (slots : List Slot) (v : Value) (below : List Slot) (to : ℕ) → FragmentGoes ps level pc to → slots ≡ operand v ∷ below →
      StepsLead sc context ps level most pc slots to (operand v ∷ below)
  valued_at pc slots v below to g q = subst (λ o. StepsLead sc context ps level most pc o to (operand v ∷ below)) (sym q) (leads_by g)

  -- ---- what is still to be done

  before : (k : List Item) {a b : ℕ} → FragmentGoes ps level a b → KAt sc context ps level k b → KAt sc context ps level k a
  before [] g s = (s.0, s.1, s.2, goes_on ps level g s.3, s.4)
  before (rests.run x ∷ k) g s = (s.0, s.1, s.2, goes_on ps level g s.3, s.4, s.5, s.6)
  before (rests.turn ∷ k) g s = (s.0, s.1, s.2, goes_on ps level g s.3, s.4, s.5)
  before (rests.count n b ∷ k) g s = (s.0, s.1, s.2, goes_on ps level g s.3, s.4, s.5, s.6)
  before (rests.check b c ∷ k) g s = (s.0, s.1, s.2, s.3, goes_on ps level g s.4, s.5, s.6, s.7, s.8)
  before (rests.test loop ∷ k) g s = (s.0, s.1, s.2, goes_on ps level g s.3, s.4, s.5)
  before (rests.result name ∷ []) g s = (s.0, goes_on ps level g s.1, s.2)
  before (rests.result name ∷ item ∷ k) g s = absurd s
  before (rests.make_arrays kind ns pairs ∷ k) g s = (s.0, s.1, goes_on ps level g s.2, s.3, s.4, s.5)
  before (rests.make_event n ∷ k) g s = (s.0, s.1, goes_on ps level g s.2, s.3, s.4, s.5)

  pub follows_before : (k : List Item) {a b : ℕ} → FragmentGoes ps level a b → SlotsFollow sc context ps level most k b → SlotsFollow sc context ps level most k a
  follows_before k g f = record { at = before k g f.at; shallow = f.shallow; counts = f.counts }

  pub follows_run : (s : PStmt) (k : List Item) (q t u : ℕ) → StmtAt sc context ps level s q t u → FragmentGoes ps level t u → SlotsHaveRoom most (pend k) (stmt_depth s) →
      SlotsFollow sc context ps level most k u → SlotsFollow sc context ps level most (rests.run s ∷ k) q
  follows_run s k q t u h g room f = record {
    at = (q, t, u, stop, h, g, f.at);
    shallow = (omega (arith, room, pend_length k), f.shallow);
    counts = f.counts;
  }

  -- ---- room

  within_most : {a b : ℕ} {x y : List Slot} → FragmentStep sc context ps level most a x b y → length x ≤ most → length y ≤ most
  within_most (push_number z h room) l = omega (arith, room)
  within_most (push_truth b h room) l = omega (arith, room)
  within_most (push_reference c h room) l = omega (arith, room)
  within_most (stuff held c i named h) l = omega (arith, l)
  within_most (move low i h w room on) l = omega (arith, l)
  within_most (exchange v h s) l = omega (arith, l)
  within_most (calculate op v w x h i j e) l = omega (arith, l)
  within_most (negate z h w) l = omega (arith, l)
  within_most (invert b h) l = omega (arith, l)
  within_most (false_stays h) l = omega (arith, l)
  within_most (false_goes h) l = omega (arith, l)
  within_most (true_stays h) l = omega (arith, l)
  within_most (true_goes h) l = omega (arith, l)
  within_most (go h) l = l
  within_most (call name h room) l = omega (arith, room)
  within_most (announce begin e room) l = omega (arith, room)
  within_most (summon n callee c room) l = omega (arith, room)
  within_most (drop v h) l = omega (arith, l)
  within_most (counts z h w e room) l = omega (arith, l)
  within_most (spent z h w e room) l = omega (arith, l)
  within_most (within d z h i j e room) l = omega (arith, l)
  within_most (past d z h i j e room) l = omega (arith, l)
  within_most (within_literal u d z s h w e room) l = omega (arith, l)
  within_most (past_literal next d z s h w e room) l = omega (arith, l)

  pub leads_within : {a b : ℕ} {x y : List Slot} → StepsLead sc context ps level most a x b y → length x ≤ most → length y ≤ most
  leads_within there l = l
  leads_within (first s k) l = leads_within k (within_most s l)
