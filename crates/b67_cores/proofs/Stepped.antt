-- Each fragment of private operators is performed.
use Rattle.std.proofs.Common.{◌≡◌, refl, subst, ℕ, Bool, true, false, List, ◌++◌}
use Rattle.std.specs.Prelude.{if◌then◌else◌}
use Rattle.algol_tree.specs.Scopes.{Scopes}
use Rattle.algol_meaning.specs.Value.{number, truth}
use Rattle.algol_meaning.specs.Statements.{is_past}
use Rattle.b67_num.specs.Whole.{negation_of}
use Rattle.b67_ops.specs.declared.PlainKind.TheVariants as kinds
use Rattle.b67_segment.specs.Operators.{Placed}
use Rattle.b67_segment.specs.declared.code.Code.{Code}
use Rattle.b67_templates.specs.Contexts.{Context}
use Rattle.b67_table.specs.PrivateRows.{negated, complemented}
use Rattle.b67_table.specs.Rows.{row}
use Rattle.b67_templates.specs.Fragments.{operator_for}
use Rattle.b67_standing.specs.Stepping.{Slot, ready, FragmentStep, StepsLead, push_number, push_truth, push_reference, stuff, move, exchange, calculate, negate, invert, false_stays, false_goes, true_stays, true_goes, go, call, announce, summon, drop, counts, spent, within, past, within_literal, past_literal, there, first}
use Rattle.b67_cores.specs.Cores.{Core}
use Rattle.b67_cores.specs.Slots.{Known}
use Rattle.b67_cores.specs.Stretches.{Sees}
use Rattle.b67_cores.proofs.Taking.{negated_turns, complemented_turns}
use Rattle.b67_cores.proofs.Calculating.{calculates}
use Rattle.b67_cores.proofs.Moving.{Standing, nothing}
use Rattle.b67_cores.proofs.Knowing.{Adds, Gains, plainly, then_adds}
use Rattle.b67_cores.proofs.Operating.{Goes, binary, unary, exchange_descriptor, dropping, if_true, if_false, going}
use Rattle.b67_cores.proofs.Pushing as pushing
use Rattle.b67_cores.proofs.Subscripts.{subscript_moved}
use Rattle.b67_cores.proofs.Stuffing.{stuffing}
use Rattle.b67_cores.proofs.Looping.{counts_on, count_spent, past_tested, sign_tested}

module _ (sc : Scopes) (known : List Known) (context : Context) (code : Code) (ps : List Placed) (level most bound : ℕ) (core : Core) (st : Standing code ps level most bound core)
    (sees : Sees context.level core) where
  abbrev Gets : ℕ → List Slot → ℕ → List Slot → Type 0
  Gets = Goes sc known code ps level most bound core st

  abbrev Gives : ℕ → List Slot → ℕ → List Slot → Type 0
  Gives = Gains sc context code ps level most bound core known

  plain : {from to : ℕ} {x y : List Slot} → Gets from x to y → Gives from x to y
  plain f = plainly sc context code ps level most bound core f

  aimed : (from m n : ℕ) (x y : List Slot) (b c : Bool) → b ≡ c → Gets from x (if b then m else n) y → Gets from x (if c then m else n) y
  aimed from m n x y b c e g = subst (λ (t : Bool). Gets from x (if t then m else n) y) e g

  pub stepped : (from to : ℕ) (x y : List Slot) → FragmentStep sc context ps level most from x to y → Gives from x to y
  unfolding row
  stepped from to x y (push_number z at room) = plain (pushing.push_number sc known context code ps level most bound core st from to z x at room)
  stepped from to x y (push_truth b at room) = plain (pushing.push_truth sc known context code ps level most bound core st from to b x at room)
  stepped from to x y (push_reference c at room) = plain (pushing.reference_at sc known context code ps level most bound core st from to c x at room)
  stepped from to x y (stuff {from = before} {below = below} held c is named stands) =
      stuffing code ps level most bound core st sc known context held c is before from to named stands below sees
  stepped from to x y (move {below = below} low i at whole room forward) =
      plain (subscript_moved sc known context code ps level most bound core st low i below whole room from to at)
  stepped from to x y (exchange {below = below} v h at) = plain (exchange_descriptor sc known code ps level most bound core st from to v h below at)
  stepped from to x y (calculate {below = below} op v w u at hv hw e) =
      let c = calculates op v w u hv hw e in
      plain (binary sc known code ps level most bound core st from to (operator_for op) c.change (ready op v) w u below at (c.row_is from) c.takes)
  stepped from to x y (negate {below = below} z at h) =
      plain (unary sc known code ps level most bound core st from to kinds.Chsn negated (number z) (number (negation_of z)) below at refl (negated_turns z h))
  stepped from to x y (invert {below = below} b at) =
      plain (unary sc known code ps level most bound core st from to kinds.Lnot complemented (truth b) _ below at refl (complemented_turns b))
  stepped from to x y (false_stays {target = target} at) = plain (if_false sc known code ps level most bound core st from target to true y at)
  stepped from to x y (false_goes {next = next} at) = plain (if_false sc known code ps level most bound core st from to next false y at)
  stepped from to x y (true_stays {target = target} at) = plain (if_true sc known code ps level most bound core st from target to false y at)
  stepped from to x y (true_goes {next = next} at) = plain (if_true sc known code ps level most bound core st from to next true y at)
  stepped from to x y (go {next = next} at) = plain (going sc known code ps level most bound core st from to next x at)
  stepped from to x y (call name at room) = plain (pushing.push_intrinsic sc known context code ps level most bound core st from to name x at room)
  stepped from to x y (announce {to = end} begin e room) = plain (pushing.push_control sc known context code ps level most bound core st from end begin x e room)
  stepped from to x y (summon n callee c room) = plain (pushing.push_procedure sc known context code ps level most bound core st from to n callee x c room)
  stepped from to x y (drop v at) = plain (dropping sc known code ps level most bound core st from to v y at)
  stepped from to x y (counts {l = l} {below = below} z at h e room) = plain (counts_on sc known context code ps level most bound core st from l to z below at room h e)
  stepped from to x y (spent {next = next} {below = below} z at h e room) = plain (count_spent sc known context code ps level most bound core st from to next z below at room e)
  stepped from to x y (within {u = u} d z at hd hz e room) =
      plain (aimed from u to _ y (is_past d z) false e (past_tested sc known context code ps level most bound core st from u to d z y at hd hz room))
  stepped from to x y (past {next = next} d z at hd hz e room) =
      plain (aimed from to next _ y (is_past d z) true e (past_tested sc known context code ps level most bound core st from to next d z y at hd hz room))
  stepped from to x y (within_literal u d z s at hd e room) =
      plain (aimed from u to _ y (is_past d z) false e (sign_tested sc known context code ps level most bound core st from u to d y s at room))
  stepped from to x y (past_literal next d z s at hd e room) =
      plain (aimed from to next _ y (is_past d z) true e (sign_tested sc known context code ps level most bound core st from to next d y s at room))

module _ (sc : Scopes) (context : Context) (code : Code) (ps : List Placed) (level most bound : ℕ) (core : Core) (st : Standing code ps level most bound core) (sees : Sees context.level core) where
  pub led : (known : List Known) (from to : ℕ) (x y : List Slot) → StepsLead sc context ps level most from x to y → Gains sc context code ps level most bound core known from x to y
  led known from to x y there words are room = plainly sc context code ps level most bound core (nothing sc known code ps level most bound core st from x) words are room
  led known from to x y (first {b = b} {y = z} step more) words are room =
      let f : Adds sc context code ps level most bound core known from x words b z = stepped sc known context code ps level most bound core st sees from b x z step words are room in
      then_adds sc context code ps level most bound core f (led (f.added ++ known) b to z y more f.reaches.left f.reaches.are f.reaches.room)
