-- An entry that touches only what is its process's own: what it makes of it, in whatever image it stands.
use Rattle.std.specs.Prelude.{◌&&◌}
use Rattle.std.proofs.Common.{◌≡◌, refl, sym, ap, subst, ◌∙◌, ℕ, ◌-◌, ◌≤◌, Bool, true, false, true≢false, List, ◌++◌, length, length-drop, take, drop, reverse, Option, Some, None, Result, cond, arith}
use Rattle.b67_list.specs.Numbered.{numbered, set_numbered}
use Rattle.b67_list.proofs.Truths.{both}
use Rattle.b67_word.specs.Word.{Word}
use Rattle.b67_control.specs.declared.Registers.{Registers}
use Rattle.b67_ops.specs.declared.Operator.{Operator}
use Rattle.b67_ops.specs.declared.BadCode.{BadCode}
use Rattle.b67_segment.specs.declared.code.Code.{Code}
use Rattle.b67_store.specs.Store.{stack_limit, words_or, words_of}
use Rattle.b67_table.specs.declared.InterruptKind.TheVariants.{BadCode as bad_code}
use Rattle.b67_table.specs.declared.Private.{Private}
use Rattle.b67_table.specs.declared.ProcessState.{ProcessState}
use Rattle.b67_table.specs.Effect.{gives, interrupts}
use Rattle.b67_table.specs.Outcome as outcomes
use Rattle.b67_table.specs.Outcome.{Outcome, limited}
use Rattle.b67_table.specs.Private.{floor}
use Rattle.b67_table.specs.Privacy.{ProcessStands, RegistersStay}
use Rattle.b67_table.specs.Program.{does}
use Rattle.b67_table.specs.Rows.{TableRow}
use Rattle.b67_table.specs.Image.{Image, private_of, with_private, with_effect, is_able, is_live}
use Rattle.b67_table.specs.Runs.{Plains, stay, go, acts}
use Rattle.b67_table.specs.Ending.{may_act, goes_on, image_end, ImageEnd}
use Rattle.b67_table.specs.Table.{raw, table, plain, class_at, class_by, is_private, private_at, private_in, private_next, private_op, part_by, by_row, by_operator, by_registers, is_new, stack_length, length_in}
use Rattle.b67_table.specs.Valid.{IsValid, IsProcess}
use Rattle.b67_table.proofs.FirstValid.{valid_stands}
use Rattle.b67_table.proofs.Limit.{fits, new_of}
use Rattle.b67_table.proofs.Lists.{numbered_set, numbered_from, numbered_within}
use Rattle.b67_table.proofs.Privacy.{Next, next_private, raw_is, part_keeps, put_by}
use Rattle.b67_table.proofs.PrivateValid.{private_keeps_valid}
use Rattle.b67_table.proofs.Waking.{able_live}
use Rattle.b67_private.proofs.Floors.{private_op_rises}
use Rattle.b67_settling.specs.Own.{StackReaches, own_of, Stay, MovesOwn, IsOwnAction}
use Rattle.b67_settling.specs.Local.{IsOwnEntry}
use Rattle.b67_settling.proofs.Own.{within, high, unchanged, put_own, put_words, put_reaches, put_twice, private_told, drop_put, reversed_same}
use Rattle.b67_settling.proofs.Owned.{DoesAlike, does_alike}

-- ---- images with the same own words

length_told : (x y : Image) (p : ℕ) (r : Registers) (base : ℕ) → StackReaches x p r base → StackReaches y p r base → own_of y r base ≡ own_of x r base
    → length (words_of x.stacks r.stack) ≤ length (words_of y.stacks r.stack)
length_told x y p r base at_x at_y e =
    let words : drop base (words_of y.stacks r.stack) ≡ drop base (words_of x.stacks r.stack) = reversed_same _ _ (ap (λ (m : Private). m.words) e) in
    omega (arith, high x p r base at_x, high y p r base at_y, dropped base (words_of x.stacks r.stack), dropped base (words_of y.stacks r.stack), ap length words)
  where
    dropped : (n : ℕ) (xs : List Word) → length (drop n xs) ≡ length xs - n
    dropped n xs = length-drop n xs

-- the same put higher leaves the same from the base on
put_told : (x y : Image) (p : ℕ) (r : Registers) (base upper : ℕ) (part : Private) → StackReaches x p r base → StackReaches y p r base → own_of y r base ≡ own_of x r base
    → base ≤ upper → upper ≤ length (words_of x.stacks r.stack) → StackReaches x p r upper → StackReaches y p r upper → part.regs.stack ≡ r.stack
    → own_of (with_private y p upper part) part.regs base ≡ own_of (with_private x p upper part) part.regs base
put_told x y p r base upper part at_x at_y e low up up_x up_y k =
    let words : drop base (words_of y.stacks r.stack) ≡ drop base (words_of x.stacks r.stack) = reversed_same _ _ (ap (λ (m : Private). m.words) e) in
    own_by y up_y (high y p r upper up_y)
    ∙ ap (λ (us : List Word). record { regs = part.regs; words = reverse (take (upper - base) us ++ reverse part.words) }) words
    ∙ sym (own_by x up_x up)
  where
    own_by : (z : Image) → StackReaches z p r upper → upper ≤ length (words_of z.stacks r.stack) → own_of (with_private z p upper part) part.regs base
        ≡ record { regs = part.regs; words = reverse (take (upper - base) (drop base (words_of z.stacks r.stack)) ++ reverse part.words) }
    own_by z at h =
        ap (λ (n : ℕ). record { regs = part.regs; words = reverse (drop base (words_of (with_private z p upper part).stacks n)) }) k
        ∙ ap (λ (us : List Word). record { regs = part.regs; words = reverse (drop base us) }) (put_words z p r upper at part k)
        ∙ ap (λ (us : List Word). record { regs = part.regs; words = reverse us }) (drop_put base upper (words_of z.stacks r.stack) (reverse part.words) low h)

-- what reaches a place reaches a lower one
lower : (x : Image) (p : ℕ) (r : Registers) (base upper : ℕ) → base ≤ upper → StackReaches x p r upper → StackReaches x p r base
lower x p r base upper low at =
    record { live = at.live; has = at.has; words = at.words; opened = at.opened; high = omega (arith, low, at.high) }

higher : (x : Image) (p : ℕ) (r : Registers) (base upper : ℕ) → StackReaches x p r base → upper ≤ length (words_of x.stacks r.stack) → StackReaches x p r upper
higher x p r base upper at up =
    record { live = at.live; has = at.has; words = at.words; opened = at.opened; high = subst (λ (us : List Word). upper ≤ length us) (ap words_or at.opened) up }

-- ---- plain operators

-- a plain operator of the process, and what it makes of the private part
record Steps (code : Code) (x b : Image) (p : ℕ) (r : Registers) : Type 0 where
  next : Next code r
  part : Private
  given : next.change next.next (private_of x r) ≡ gives part
  is : b ≡ with_private x p (floor r) part
  small : part.regs.s ≤ stack_limit

steps : (code : Code) (x b : Image) (p : ℕ) (r : Registers) → is_live (numbered x.states p) ≡ true → numbered x.regs p ≡ Some r
    → p ≤ length x.regs → private_next code x p ≡ true → table code x p ≡ outcomes.gives b → Steps code x b p r
unfolding table
steps code x b p r live has inside own t =
    let n : Next code r = next_private code x p r has own in
    let new = new_of (stack_length p) (raw code x p) b t in
    let put = put_by x b p (floor r) (n.change n.next (private_of x r)) (sym (raw_is code x p r live has n) ∙ new.0) in
    record {
      next = n;
      part = put.part;
      given = put.given;
      is = put.is;
      small = subst (λ (o : Option Registers). length_in o ≤ stack_limit)
          (ap (λ (i : Image). numbered i.regs p) put.is ∙ numbered_set x.regs p put.part.regs (numbered_from x.regs p r has) inside) new.1;
    }

-- it does the same beside the same private part
steps_alike : (code : Code) (x b y : Image) (p : ℕ) (r : Registers) (s : Steps code x b p r) → private_next code x p ≡ true → numbered x.regs p ≡ Some r
    → (at : StackReaches y p r (floor r)) → private_of y r ≡ private_of x r
    → (table code y p ≡ outcomes.gives (with_private y p (floor r) s.part)) × (plain code y p ≡ true)
unfolding table plain
steps_alike code x b y p r s own has at e =
    let put : numbered (set_numbered y.regs p s.part.regs) p ≡ Some s.part.regs =
    numbered_set y.regs p s.part.regs (numbered_from y.regs p r at.has) (within y p r (floor r) at) in
    let gives_it : table code y p ≡ outcomes.gives (with_private y p (floor r) s.part) =
    ap (limited (stack_length p))
    (raw_is code y p r at.live at.has s.next
    ∙ ap (λ (m : Private). with_effect y p (floor r) (s.next.change s.next.next m)) e
    ∙ ap (with_effect y p (floor r)) s.given)
    ∙ fits (stack_length p) (with_private y p (floor r) s.part) (subst (λ (o : Option Registers). length_in o ≤ stack_limit) (sym put) s.small) in (
      gives_it,
      ap (λ (o : Option Registers). private_in code o && is_new (table code y p)) (at.has ∙ sym has)
          ∙ ap (λ (z : Bool). z && is_new (table code y p)) own ∙ ap is_new gives_it,
    )

-- ---- many of them

-- what plain operators make of the process's own words from the base on
pub record Stretched (code : Code) (p : ℕ) (r : Registers) (base : ℕ) (x : Image) (n : ℕ) (quiet : Image) : Type 0 where
  pub part : Private
  pub stays : Stay r part.regs
  pub is : quiet ≡ with_private x p base part
  pub valid : IsValid code quiet
  pub low : base ≤ floor part.regs
  pub alike : (y : Image) → StackReaches y p r base → own_of y r base ≡ own_of x r base → Plains code p y n (with_private y p base part)

pub stretched : (code : Code) (p : ℕ) (base n : ℕ) (x quiet : Image) (r : Registers) → Plains code p x n quiet → IsValid code x → is_live (numbered x.states p) ≡ true
    → numbered x.regs p ≡ Some r → base ≤ floor r → Stretched code p r base x n quiet
unfolding plain private_op
stretched code p base n x quiet r stay v live has low =
    let st : ProcessStands x p r = valid_stands code x p r v live has in
    let at : StackReaches x p r base = record { live = live; has = has; words = st.words; opened = st.opened; high = omega (arith, low, st.high) } in
    record {
      part = own_of x r base;
      stays = (refl, refl);
      is = sym (unchanged x p r base at);
      valid = v;
      low = low;
      alike = λ y at_y e.
          subst (λ (z : Image). Plains code p y 0 z) (sym (ap (with_private y p base) (sym e) ∙ unchanged y p r base at_y)) stay;
    }
stretched code p base n x quiet r (go {b = b} {n = k} h t more) v live has low =
    let st : ProcessStands x p r = valid_stands code x p r v live has in
    let own : private_next code x p ≡ true = both (private_next code x p) (is_new (table code x p)) h in
    let up : floor r ≤ length (words_of x.stacks r.stack) = subst (λ (us : List Word). floor r ≤ length us) (sym (ap words_or st.opened)) st.high in
    let at_floor : StackReaches x p r (floor r) = record { live = live; has = has; words = st.words; opened = st.opened; high = st.high } in
    let at : StackReaches x p r base = lower x p r base (floor r) low at_floor in
    let s : Steps code x b p r = steps code x b p r live has (within x p r base at) own t in
    let keeps : RegistersStay r s.part.regs = part_keeps code r s.next (private_of x r) s.part s.given in
    let process : IsProcess x p r = v.processes p r live has in
    let rises : base ≤ floor s.part.regs =
    private_op_rises base s.next.op r.place s.next.next (private_of x r) s.part low process.above
    (ap (λ (w : TableRow). part_by w s.next.next (private_of x r)) s.next.is ∙ s.given) in
    let at_b : StackReaches b p s.part.regs (floor r) =
    subst (λ (z : Image). StackReaches z p s.part.regs (floor r)) (sym s.is) (put_reaches x p r (floor r) at_floor s.part keeps.0) in
    let rest : Stretched code p s.part.regs base b k quiet =
    stretched code p base k b quiet s.part.regs more (private_keeps_valid code x b p v live own t) at_b.live at_b.has rises in
    let rest_stack : rest.part.regs.stack ≡ r.stack = rest.stays.0 ∙ keeps.0 in
    record {
      part = rest.part;
      stays = (rest_stack, rest.stays.1 ∙ keeps.5);
      is = rest.is ∙ ap (λ (z : Image). with_private z p base rest.part) s.is
          ∙ put_twice x p r base at (floor r) s.part rest.part low up keeps.0 rest_stack;
      valid = rest.valid;
      low = rest.low;
      alike = λ y at_y e.
          let up_y : floor r ≤ length (words_of y.stacks r.stack) = omega (arith, up, length_told x y p r base at at_y e) in
          let floor_y : StackReaches y p r (floor r) = higher y p r base (floor r) at_y up_y in
          let one = steps_alike code x b y p r s own has floor_y (private_told y x r base low e) in
          let next_y : StackReaches (with_private y p (floor r) s.part) p s.part.regs base =
          lower (with_private y p (floor r) s.part) p s.part.regs base (floor r) low (put_reaches y p r (floor r) floor_y s.part keeps.0) in
          let same_then : own_of (with_private y p (floor r) s.part) s.part.regs base ≡ own_of b s.part.regs base =
          put_told x y p r base (floor r) s.part at at_y e low up at_floor floor_y keeps.0 ∙ ap (λ (z : Image). own_of z s.part.regs base) (sym s.is) in
          let on : Plains code p (with_private y p (floor r) s.part) k (with_private (with_private y p (floor r) s.part) p base rest.part) =
          rest.alike (with_private y p (floor r) s.part) next_y same_then in
          go one.1 one.0
          (subst (λ (z : Image). Plains code p (with_private y p (floor r) s.part) k z) (put_twice y p r base at_y (floor r) s.part rest.part low up_y keeps.0 rest_stack) on);
    }

-- ---- the action

-- the row of the operator says what it does
acts_by : (code : Code) (img : Image) (p : ℕ) (r : Registers) (base : ℕ) → is_live (numbered img.states p) ≡ true → numbered img.regs p ≡ Some r
    → (a : IsOwnAction code img r base) → (z : Image) → is_live (numbered z.states p) ≡ true → numbered z.regs p ≡ Some r
    → raw code z p ≡ does p (a.program code r a.next) z
unfolding raw
acts_by code img p r base live has a z live_z has_z =
    ap (λ (b : Bool). cond b (by_registers code z p (numbered z.regs p)) (interrupts bad_code)) live_z
    ∙ ap (λ (o : Option Registers). by_registers code z p o) has_z
    ∙ ap (λ (o : Result (Operator × ℕ) BadCode). by_operator code z p r o) a.stands
    ∙ ap (λ (w : TableRow). by_row w code z p r a.next) a.is

no_private : (code : Code) (img : Image) (p : ℕ) (r : Registers) (base : ℕ) → numbered img.regs p ≡ Some r → {x : Image} → IsOwnAction code x r base
    → plain code img p ≡ false
unfolding plain class_at
no_private code img p r base has a =
    ap (λ (b : Bool). b && is_new (table code img p))
    (ap (private_in code) has ∙ ap (private_at r) a.stands ∙ ap (λ (w : TableRow). is_private (class_by w)) a.is)

-- ---- the entry

pub may_live : (img : Image) (p : ℕ) → may_act img p ≡ true → is_live (numbered img.states p) ≡ true
unfolding may_act
may_live img p e = by_state (numbered img.states p) (by_end (image_end img) _ e)
  where
    by_end : (o : Option ImageEnd) (b : Bool) → goes_on o b ≡ true → b ≡ true
    by_end None b i = i
    by_end (Some x) b i = cc

    by_state : (o : Option ProcessState) → is_able o ≡ true → is_live o ≡ true
    by_state o i = able_live o i

pub moves : (code : Code) (a : Image) (p : ℕ) (r : Registers) (base : ℕ) → IsOwnEntry code a p r base → MovesOwn code a p r base
unfolding table
moves code a p r base o =
    let live : is_live (numbered a.states p) ≡ true = may_live a p o.may in
    let st : ProcessStands a p r = valid_stands code a p r o.valid live o.has in
    let at : StackReaches a p r base = record { live = live; has = o.has; words = st.words; opened = st.opened; high = omega (arith, o.low, st.high) } in
    let s : Stretched code p r base a o.count o.quiet = stretched code p base o.count a o.quiet r o.plains o.valid live o.has o.low in
    let quiet_put : StackReaches (with_private a p base s.part) p s.part.regs base = put_reaches a p r base at s.part s.stays.0 in
    let quiet_at : StackReaches o.quiet p s.part.regs base = subst (λ (z : Image). StackReaches z p s.part.regs base) (sym s.is) quiet_put in
    let regs_are : o.then ≡ s.part.regs = some_is o.then s.part.regs (sym o.then_has ∙ quiet_at.has) in
    let action : IsOwnAction code o.quiet s.part.regs base = subst (λ (z : Registers). IsOwnAction code o.quiet z base) regs_are o.action in
    let new = new_of (stack_length p) (raw code o.quiet p) o.after o.performed in
    let d : DoesAlike p s.part.regs base o.quiet (action.program code s.part.regs action.next) =
    does_alike p s.part.regs base o.quiet o.after (action.program code s.part.regs action.next) action.own
    (sym (acts_by code o.quiet p s.part.regs base quiet_at.live quiet_at.has action o.quiet quiet_at.live quiet_at.has) ∙ new.0) in
    let after_is : o.after ≡ with_private o.quiet p base d.part =
    given o.after (with_private o.quiet p base d.part)
    (sym new.0 ∙ acts_by code o.quiet p s.part.regs base quiet_at.live quiet_at.has action o.quiet quiet_at.live quiet_at.has ∙ d.alike o.quiet quiet_at refl) in
    let small : d.part.regs.s ≤ stack_limit =
    subst (λ (x : Option Registers). length_in x ≤ stack_limit)
    (ap (λ (i : Image). numbered i.regs p) after_is ∙ (put_reaches o.quiet p s.part.regs base quiet_at d.part d.stay.0).has) new.1 in
    let stack_is : d.part.regs.stack ≡ r.stack = d.stay.0 ∙ s.stays.0 in
    record {
      part = d.part;
      stays = (stack_is, d.stay.1 ∙ s.stays.1);
      reaches = at;
      count = o.count;
      enters = λ y at_y e may.
          let z : Image = with_private y p base s.part in
          let at_z : StackReaches (with_private y p base s.part) p s.part.regs base = put_reaches y p r base at_y s.part s.stays.0 in
          let same : own_of (with_private y p base s.part) s.part.regs base ≡ own_of o.quiet s.part.regs base =
          put_own y p r base at_y s.part s.stays.0 ∙ sym (put_own a p r base at s.part s.stays.0) ∙ ap (λ (i : Image). own_of i s.part.regs base) (sym s.is) in
          let does_it : table code (with_private y p base s.part) p ≡ outcomes.gives (with_private (with_private y p base s.part) p base d.part) =
          ap (limited (stack_length p))
          (acts_by code o.quiet p s.part.regs base quiet_at.live quiet_at.has action (with_private y p base s.part) at_z.live at_z.has
          ∙ d.alike (with_private y p base s.part) at_z same)
          ∙ fits (stack_length p) (with_private (with_private y p base s.part) p base d.part)
          (subst (λ (x : Option Registers). length_in x ≤ stack_limit) (sym (put_reaches (with_private y p base s.part) p s.part.regs base at_z d.part d.stay.0).has) small) in
          record {
            may = may;
            quiet = with_private y p base s.part;
            plains = s.alike y at_y e;
            action = acts (no_private code (with_private y p base s.part) p s.part.regs base at_z.has action)
                (does_it ∙ ap outcomes.gives
                (put_twice y p r base at_y base s.part d.part (omega arith) (high y p r base at_y) s.stays.0 stack_is));
          };
    }
  where
    given : (x y : Image) → gives x ≡ gives y → x ≡ y
    given x y e = cc

    some_is : (x y : Registers) → Some x ≡ Some y → x ≡ y
    some_is x y e = cc

same_may : (img : Image) (k base : ℕ) (part : Private) → may_act (with_private img k base part) k ≡ may_act img k
unfolding may_act image_end
same_may img k base part = refl

-- a plain operator of a process that may act leaves it so
pub may_still : (code : Code) (x b : Image) (q : ℕ) → plain code x q ≡ true → table code x q ≡ outcomes.gives b → may_act x q ≡ true → may_act b q ≡ true
unfolding plain
may_still code x b q h t may = by_regs (numbered x.regs q) refl
  where
    own : private_next code x q ≡ true
    own = both (private_next code x q) (is_new (table code x q)) h

    by_regs : (o : Option Registers) → numbered x.regs q ≡ o → may_act b q ≡ true
    by_regs None has = absurd (true≢false (sym own ∙ ap (private_in code) has))
    by_regs (Some r) has =
        let s : Steps code x b q r = steps code x b q r (may_live x q may) has (numbered_within x.regs q r has) own t in
        ap (λ (i : Image). may_act i q) s.is ∙ same_may x q (floor r) s.part ∙ may
