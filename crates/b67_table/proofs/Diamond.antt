-- A plain operator of one process and any operator of another that does not touch its part: either may come first.
use Rattle.std.proofs.Common.{◌≡◌, ◌≢◌, refl, sym, ap, subst, ◌∙◌, ℕ, ◌≤◌, Bool, true, false, Option, Some, cond}
use Rattle.std.specs.Prelude.{◌&&◌, nat_le}
use Rattle.b67_list.specs.Numbered.{numbered, set_numbered}
use Rattle.b67_list.proofs.Truths.{both}
use Rattle.b67_num.specs.declared.FaultKind.{FaultKind}
use Rattle.b67_word.specs.declared.Place.{Place}
use Rattle.b67_control.specs.declared.Registers.{Registers}
use Rattle.b67_segment.specs.declared.code.Code.{Code}
use Rattle.b67_store.specs.Store.{stack_limit}
use Rattle.b67_table.specs.declared.InterruptKind.{InterruptKind}
use Rattle.b67_table.specs.declared.Private.{Private}
use Rattle.b67_table.specs.Effect.{Effect, gives, faults, interrupts}
use Rattle.b67_table.specs.Outcome.{Outcome, limited}
use Rattle.b67_table.specs.Outcome as outcomes
use Rattle.b67_table.specs.Private.{floor}
use Rattle.b67_table.specs.Image.{Image, with_private, private_of, with_effect}
use Rattle.b67_table.specs.Table.{raw, table, plain, is_new, stack_length, length_in, private_in, private_next}
use Rattle.b67_table.specs.Touches.{IsPrivate}
use Rattle.b67_table.specs.Sound.{OperatorTouches}
use Rattle.b67_table.specs.Parts.{put_into}
use Rattle.b67_table.specs.Privacy.{ProcessStands, RegistersStay, Commute, PlainOperatorsCommute}
use Rattle.b67_table.proofs.Stacks.{get_numbered_other}
use Rattle.b67_table.proofs.Lists.{numbered_set, numbered_from, numbered_within}
use Rattle.b67_table.proofs.Limit.{fits, new_of}
use Rattle.b67_table.proofs.Privacy.{Next, next_private, raw_is, part_keeps, Put, put_by}
use Rattle.b67_table.proofs.Beside.{After, Apart, Touch, X, raw_apart}

-- ---- the limit

put_outcome : ℕ → ℕ → Private → Outcome Image → Outcome Image
put_outcome q base part (outcomes.gives img) = outcomes.gives (with_private img q base part)
put_outcome q base part (outcomes.faults kind) = outcomes.faults kind
put_outcome q base part (outcomes.interrupts kind) = outcomes.interrupts kind
put_outcome q base part outcomes.limit = outcomes.limit

by_size : (q base : ℕ) (part : Private) (b : Image) (fit : Bool)
    → cond fit (outcomes.gives (with_private b q base part)) outcomes.limit ≡ put_outcome q base part (cond fit (outcomes.gives b) outcomes.limit)
unfolding put_outcome
by_size q base part b true = refl
by_size q base part b false = refl

limited_put : (p q base : ℕ) (part : Private) → p ≢ q → (e : Effect Image)
    → limited (stack_length p) (put_into q base part e) ≡ put_outcome q base part (limited (stack_length p) e)
unfolding put_outcome
limited_put p q base part h (gives b) =
    ap (λ (o : Option Registers). cond (nat_le (length_in o) stack_limit) (outcomes.gives (with_private b q base part)) outcomes.limit)
    (get_numbered_other b.regs q p part.regs h)
    ∙ by_size q base part b (nat_le (stack_length p b) stack_limit)
limited_put p q base part h (faults kind) = refl
limited_put p q base part h (interrupts kind) = refl

-- ---- all together

module _ (code : Code) (p q : ℕ) (r : Registers) (part : Private) (img : Image) (h : p ≢ q) (st : ProcessStands img q r) (n : Next code r)
    (given : n.change n.next (private_of img r) ≡ gives part) (small : part.regs.s ≤ stack_limit)
    (touch : (x : Place) → OperatorTouches code img p x → IsPrivate r x → ⊥) where
  Y : Image
  Y = with_private img q (floor r) part

  keeps : RegistersStay r part.regs
  keeps = part_keeps code r n (private_of img r) part given

  apart : Apart q r part img (raw code (with_private img q (floor r) part) p) (raw code img p)
  unfolding X Touch
  apart = raw_apart code p q r part img h st keeps touch

  -- p's operator after q's
  beside : table code Y p ≡ put_outcome q (floor r) part (table code img p)
  unfolding table Y
  beside = ap (limited (stack_length p)) apart.same ∙ limited_put p q (floor r) part h (raw code img p)

  after_new : (b : Image) → table code img p ≡ outcomes.gives b → After q r img b
  unfolding table
  after_new b e = apart.after b (new_of (stack_length p) (raw code img p) b e).0

  -- q's operator after p's
  then_own : (b : Image) → table code img p ≡ outcomes.gives b → table code b q ≡ outcomes.gives (with_private b q (floor r) part)
  unfolding table
  then_own b e =
      let a : After q r img b = after_new b e in
      let has : numbered (set_numbered b.regs q part.regs) q ≡ Some part.regs =
      numbered_set b.regs q part.regs (numbered_from b.regs q r a.stands.has) (numbered_within b.regs q r a.stands.has) in
      ap (limited (stack_length q))
      (raw_is code b q r a.stands.live a.stands.has n
      ∙ ap (λ (m : Private). with_effect b q (floor r) (n.change n.next m)) a.same
      ∙ ap (with_effect b q (floor r)) given)
      ∙ fits (stack_length q) (with_private b q (floor r) part) (subst (λ (o : Option Registers). length_in o ≤ stack_limit) (sym has) small)

  plain_then : (b : Image) → table code img p ≡ outcomes.gives b → private_next code img q ≡ true → plain code b q ≡ true
  unfolding plain
  plain_then b e own =
      let a : After q r img b = after_new b e in
      ap (λ (o : Option Registers). private_in code o && is_new (table code b q)) (a.stands.has ∙ sym st.has)
      ∙ ap (λ (x : Bool). x && is_new (table code b q)) own ∙ ap is_new (then_own b e)

  earlier_by : (o : Outcome Image) → table code img p ≡ o → (c : Image) → put_outcome q (floor r) part o ≡ outcomes.gives c
      → (b : Image) × (table code img p ≡ outcomes.gives b) × (table code b q ≡ outcomes.gives c)
  unfolding put_outcome
  earlier_by (outcomes.gives b) e c i = (b, e, then_own b e ∙ i)
  earlier_by (outcomes.faults kind) e c i = cc
  earlier_by (outcomes.interrupts kind) e c i = cc
  earlier_by outcomes.limit e c i = cc

  back : (o : Outcome Image) (refused : Outcome Image) → ((b : Image) → outcomes.gives b ≡ refused → ⊥) → put_outcome q (floor r) part o ≡ refused → o ≡ refused
  unfolding put_outcome
  back (outcomes.gives b) refused no_image e = absurd (no_image (with_private b q (floor r) part) e)
  back (outcomes.faults kind) refused no_image e = e
  back (outcomes.interrupts kind) refused no_image e = e
  back outcomes.limit refused no_image e = e

  no_fault : (kind : FaultKind) (b : Image) → outcomes.gives b ≡ outcomes.faults kind → ⊥
  no_fault kind b e = cc

  no_interrupt : (kind : InterruptKind) (b : Image) → outcomes.gives b ≡ outcomes.interrupts kind → ⊥
  no_interrupt kind b e = cc

  no_limit : (b : Image) → outcomes.gives b ≡ outcomes.limit → ⊥
  no_limit b e = cc

  commute : private_next code img q ≡ true → Commute code p q img Y
  unfolding put_outcome Y
  commute own = record {
    later = λ b e. (with_private b q (floor r) part, beside ∙ ap (put_outcome q (floor r) part) e, then_own b e);
    earlier = λ c e. earlier_by (table code img p) refl c (sym beside ∙ e);
    fault = λ kind. (λ e. back (table code img p) (outcomes.faults kind) (no_fault kind) (sym beside ∙ e), λ e. beside ∙ ap (put_outcome q (floor r) part) e);
    interrupt = λ kind.
        (λ e. back (table code img p) (outcomes.interrupts kind) (no_interrupt kind) (sym beside ∙ e), λ e. beside ∙ ap (put_outcome q (floor r) part) e);
    limit = (λ e. back (table code img p) outcomes.limit no_limit (sym beside ∙ e), λ e. beside ∙ ap (put_outcome q (floor r) part) e);
    plain_after = λ b e. plain_then b e own;
    able_after = λ b e. (after_new b e).able;
  }

pub plain_operators_commute : PlainOperatorsCommute
unfolding plain table Y
plain_operators_commute code p q r img a h st e g touch =
    let own : private_next code img q ≡ true = both (private_next code img q) (is_new (table code img q)) e in
    let n : Next code r = next_private code img q r st.has own in
    let new = new_of (stack_length q) (raw code img q) a g in
    let t : Put img a q (floor r) (n.change n.next (private_of img r)) =
    put_by img a q (floor r) (n.change n.next (private_of img r)) (sym (raw_is code img q r st.live st.has n) ∙ new.0) in
    let has : numbered (set_numbered img.regs q t.part.regs) q ≡ Some t.part.regs =
    numbered_set img.regs q t.part.regs (numbered_from img.regs q r st.has) (numbered_within img.regs q r st.has) in
    let small : t.part.regs.s ≤ stack_limit =
    subst (λ (o : Option Registers). length_in o ≤ stack_limit) (ap (λ (i : Image). numbered i.regs q) t.is ∙ has) new.1 in
    subst (Commute code p q img) (sym t.is) (commute code p q r t.part img h st n t.given small touch own)
