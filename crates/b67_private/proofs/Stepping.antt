-- One plain operator of a private part: what it needs, and what it leaves.
use Rattle.std.proofs.Common.{◌≡◌, refl, sym, ap, subst, ◌∙◌, ℕ, ◌+◌, ◌<◌, ◌≤◌, length, All, Option, Some, None, Result, Ok, Err, Bool, true, false, cond, ⊎_elim, arith}
use Rattle.std.specs.Prelude.{nat_le, is_ok, IfSome}
use Rattle.std.proofs.lemmas.Bool.{leb-true}
use Rattle.b67_control.specs.Display.{levels}
use Rattle.b67_control.specs.declared.Registers.{Registers}
use Rattle.b67_ops.specs.declared.TheConstants.{MOST_LEVEL}
use Rattle.b67_ops.specs.declared.Couple.{Couple}
use Rattle.b67_ops.specs.declared.Operator.{Operator}
use Rattle.b67_ops.specs.declared.Operator.TheVariants as ops
use Rattle.b67_ops.specs.declared.BadCode.{BadCode}
use Rattle.b67_ops.specs.Spelling.{Fits, FitsAs, CoupleIsSeen}
use Rattle.b67_segment.specs.declared.code.Segment.{Segment}
use Rattle.b67_segment.specs.declared.code.Code.{Code}
use Rattle.b67_segment.specs.Fetching.{fetched}
use Rattle.b67_segment.specs.Decoded.{if_good, found}
use Rattle.b67_store.specs.Store.{stack_limit}
use Rattle.b67_table.specs.declared.Private.{Private}
use Rattle.b67_table.specs.Effect.{Effect}
use Rattle.b67_table.specs.Effect as effects
use Rattle.b67_table.specs.Outcome.{Outcome, gives, limit, limited}
use Rattle.b67_table.specs.Limits.{segment_limit}
use Rattle.b67_table.specs.Privacy.{RegistersStay}
use Rattle.b67_table.specs.Table.{private_op, operator_at}
use Rattle.b67_table.proofs.PrivateKept as kept
use Rattle.b67_table.proofs.PrivateAll.{private_op_kept}
use Rattle.b67_table.proofs.PrivateValid.{Fetched, operator_fits}
use Rattle.b67_table.proofs.Keeping.{private_keeps}
use Rattle.b67_table.proofs.Wordly.{few_index_bits}
use Rattle.b67_segment.proofs.Fetches.{fetched_ok}
use Rattle.b67_private.specs.declared.Stop.{Stop}
use Rattle.b67_private.specs.declared.Stop.TheVariants as stops
use Rattle.b67_private.specs.declared.operators.Row.{Row}
use Rattle.b67_private.specs.Parts.{length_of, is_new, own_outcome, outcome_by, own_next, is_plain, PlainParts, stay, go, IsPrivatePart}
use Rattle.b67_private.specs.Performing.{PrivatePerforms, StopsBy, HasPlace, Steps, stopped}
use Rattle.b67_private.specs.Operating.{effect_by, PrivateHasRow, IsHeldCouple}
use Rattle.b67_private.proofs.Floors.{private_op_rises}

-- ---- operands

held_couple : (level : ℕ) (couple : Couple) → level < levels → CoupleIsSeen level couple → IsHeldCouple couple
held_couple level couple l f = (omega (arith, l, f.level_seen), omega (arith, f.index_fits, few_index_bits level))

-- what an operator's syllables hold, a reference can hold
pub held_operand : (level : ℕ) (op : Operator) → level < levels → Fits level op → FitsAs IsHeldCouple op
held_operand level (ops.Valc couple) l f = held_couple level couple l f
held_operand level (ops.Namc couple) l f = held_couple level couple l f
held_operand level (ops.Lt8 n) l f = f
held_operand level (ops.Lt16 n) l f = f
held_operand level (ops.Lt48 n) l f = f
held_operand level (ops.Mpcw n) l f = f
held_operand level (ops.Branch kind target) l f = f
held_operand level (ops.Plain kind) l f = f

-- ---- by its row

pub performed : (size : ℕ) (op : Operator) (next : ℕ) (r : Row) (p new : Private) (result : Result (Unit {0}) Stop) → PrivateHasRow op p.regs.place r
    → PrivatePerforms size (limited length_of (effect_by r next p)) p result new → PrivatePerforms size (own_outcome op next p) p result new
unfolding private_op
performed size op next r p new result has done = subst (λ (e : Effect Private). PrivatePerforms size (limited length_of e) p result new) (sym (has next p)) done

-- ---- what a plain operator leaves

given_by : (a new : Private) (b : Bool) → nat_le (length_of a) stack_limit ≡ b → cond b (gives a) limit ≡ gives new
    → (effects.gives a ≡ effects.gives new) × (length_of new ≤ stack_limit)
given_by a new true i e =
    let same : a ≡ new = cc in (ap effects.gives same, subst (λ (x : Private). length_of x ≤ stack_limit) same (leb-true (length_of a) stack_limit i))
given_by a new false i e = cc

pub given_of : (e : Effect Private) (new : Private) → limited length_of e ≡ gives new → (e ≡ effects.gives new) × (length_of new ≤ stack_limit)
given_of (effects.gives a) new e = given_by a new (nat_le (length_of a) stack_limit) refl e
given_of (effects.faults kind) new e = cc
given_of (effects.interrupts kind) new e = cc

-- the operator that is found is fetched
pub fetched_of : (r : Result (Operator × ℕ) BadCode) (f : Operator × ℕ) → if_good r ≡ Some f → r ≡ Ok f
fetched_of (Ok g) f e = let same : g ≡ f = cc in ap Ok same
fetched_of (Err bad) f e = cc

pub record Leaves (old new : Private) : Type 0 where
  pub part : IsPrivatePart new
  pub keeps : RegistersStay old.regs new.regs

module _ (code : Code) (small : All (λ (s : Segment). length s.words ≤ segment_limit) code.segments) where
  pub fits_of : (r : Registers) (f : Operator × ℕ) → r.ll < levels → found code r.segment r.ll r.place ≡ Some f → Fetched r.ll f.0 f.1
  fits_of r f l e =
      operator_fits code r (omega (arith, l)) f.0 f.1 small (fetched_of (operator_at code r) f e)

  to_kept : (p : Private) (k : IsPrivatePart p) → kept.IsPart k.base p
  to_kept p k = record {
    size = k.size;
    words = k.words;
    seen = k.seen;
    mark = k.mark;
    cells = k.cells;
    above = k.above;
    pointer = k.pointer;
  }

  leaves_by : (old new : Private) (f : Operator × ℕ) → IsPrivatePart old → Fetched old.regs.ll f.0 f.1 → own_outcome f.0 f.1 old ≡ gives new → Leaves old new
  leaves_by old new f k fits e =
      let given = given_of (private_op f.0 old.regs.place f.1 old) new e in
      let same = private_keeps f.0 old.regs.place f.1 old new given.0 in
      let after = private_op_kept k.base f.0 old.regs.place f.1 old.regs.ll old new k.level fits.fits fits.bound (to_kept old k) given.0 given.1 in
      record {
        part = record {
          base = k.base;
          size = after.size;
          room = given.1;
          words = after.words;
          seen = after.seen;
          level = subst (λ (n : ℕ). n < levels) (sym same.1) k.level;
          mark = after.mark;
          cells = after.cells;
          low = private_op_rises k.base f.0 old.regs.place f.1 old new k.low k.above given.0;
          above = after.above;
          pointer = after.pointer;
        };
        keeps = same;
      }

  leaves_of : (old new : Private) (o : Option (Operator × ℕ)) → IsPrivatePart old → found code old.regs.segment old.regs.ll old.regs.place ≡ o → outcome_by o old ≡ gives new
      → Leaves old new
  leaves_of old new None k i e = cc
  leaves_of old new (Some f) k i e = leaves_by old new f k (fits_of old.regs f k.level i) e

  pub leaves : (old new : Private) → IsPrivatePart old → own_next code old ≡ gives new → Leaves old new
  unfolding own_next
  leaves old new k e = leaves_of old new (found code old.regs.segment old.regs.ll old.regs.place) k refl e

-- ---- one more

pub one_more : (code : Code) (a b c : Private) (n : ℕ) → PlainParts code a n b → own_next code b ≡ gives c → PlainParts code a (n + 1) c
one_more code a b c n stay e = go e stay
one_more code a b c n (go d rest) e = go d (one_more code _ b c _ rest e)

-- ---- the next operator

fits_if : (code : Code) (segment level place : ℕ) → level ≤ MOST_LEVEL → (r : Result (Operator × ℕ) BadCode)
    → fetched code (record { segment = segment; place = place }) level ≡ r → IfSome (if_good r) (λ f. Fits level f.0)
fits_if code segment level place l (Ok f) e = ((fetched_ok code (record { segment = segment; place = place }) level l f.0 f.1).0 e).stands.fits
fits_if code segment level place l (Err bad) e = tt

pub fits_found : (code : Code) (segment level place : ℕ) → level ≤ MOST_LEVEL → (o : Option (Operator × ℕ)) → o ≡ found code segment level place
    → IfSome o (λ f. Fits level f.0)
fits_found code segment level place l o e =
    subst (λ (x : Option (Operator × ℕ)). IfSome x (λ f. Fits level f.0)) (sym e) (fits_if code segment level place l _ refl)

-- what stops an operator where the room has a word for it is what the table gives
pub stops_as : (size : ℕ) (outcome : Outcome Private) (old : Private) (stop : Stop) → StopsBy size outcome old stop → HasPlace size old → outcome ≡ stopped stop
stops_as size outcome old (stops.Fault kind) e h = e
stops_as size outcome old (stops.Interrupt kind) e h = e
stops_as size outcome old stops.StackLimit e h = ⊎_elim (λ (p : old.regs.s < size). absurd (omega (arith, p, e.0))) (λ (f : size ≡ stack_limit). e.1 f) h

not_new : (stop : Stop) → is_new (stopped stop) ≡ false
not_new (stops.Fault kind) = refl
not_new (stops.Interrupt kind) = refl
not_new stops.StackLimit = refl

steps_by : (size : ℕ) (outcome : Outcome Private) (old new : Private) (result : Result (Unit {0}) Stop) → PrivatePerforms size outcome old result new
    → Steps size outcome old (is_ok result) new
steps_by size outcome old new (Ok u) e = e
steps_by size outcome old new (Err stop) e = (λ h. ap is_new (stops_as size outcome old stop e.0 h) ∙ not_new stop, e.1)

pub steps_found : (size : ℕ) (code : Code) (old new : Private) (f : Operator × ℕ) (result : Result (Unit {0}) Stop)
    → found code old.regs.segment old.regs.ll old.regs.place ≡ Some f → PrivatePerforms size (own_outcome f.0 f.1 old) old result new
    → Steps size (own_next code old) old (is_ok result) new
unfolding own_next
steps_found size code old new f result e done =
    subst (λ (o : Option (Operator × ℕ)). Steps size (outcome_by o old) old (is_ok result) new) (sym e) (steps_by size (own_outcome f.0 f.1 old) old new result done)

pub steps_none : (size : ℕ) (code : Code) (old : Private) → found code old.regs.segment old.regs.ll old.regs.place ≡ None
    → Steps size (own_next code old) old false old
unfolding own_next
steps_none size code old e = (λ h. ap (λ (o : Option (Operator × ℕ)). is_new (outcome_by o old)) e, refl)

pub some_is : {A : Type 0} (P : A → Type 0) (o : Option A) (a : A) → IfSome o P → o ≡ Some a → P a
some_is P o a h e = subst (λ (x : Option _). IfSome x P) e h

pub went : (size : ℕ) (outcome : Outcome Private) (old new : Private) (b : Bool) → b ≡ true → Steps size outcome old b new → outcome ≡ gives new
went size outcome old new true e h = h.0
went size outcome old new false e h = cc

-- where none was performed, the next operator is not plain, or the room has no word for it
pub waits : (size : ℕ) (code : Code) (old new : Private) (b : Bool) → b ≡ false → HasPlace size old → Steps size (own_next code old) old b new → is_plain code new ≡ false
waits size code old new true e place h = cc
waits size code old new false e place h = ap (is_plain code) h.1 ∙ h.0 place
