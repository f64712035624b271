-- What a valid image gives for the next operator of a process, and what stays of it.
use Rattle.std.specs.Prelude.{IfSome}
use Rattle.std.proofs.Common.{◌≡◌, refl, sym, ap, subst, ◌∙◌, ℕ, zero, suc, ◌+◌, ◌-◌, ◌≤◌, true, false, List, [], ◌∷◌, length, get_or, Option, Some, None, IsSome, All, arith}
use Rattle.std.proofs.lemmas.List.Sums.{sum_by-cons}
use Rattle.std.proofs.lemmas.Option.{slice_get-get_or}
use Rattle.b67_list.specs.Numbered.{numbered}
use Rattle.b67_list.proofs.Answered.{none_there}
use Rattle.b67_list.proofs.Truths.{not_true}
use Rattle.b67_word.specs.Word.{Word, IsWord}
use Rattle.b67_control.specs.declared.Registers.{Registers}
use Rattle.b67_control.specs.Control.{as_descriptor}
use Rattle.b67_events.specs.Events.{Events, is_waiting, is_listed}
use Rattle.b67_events.specs.declared.Woken.{Woken}
use Rattle.b67_segment.specs.declared.code.Code.{Code}
use Rattle.b67_store.specs.Store.{Stacks, Row, Rows, stack_at, row_at, row_words_or, live_words, counted_words, row_limit, count_limit}
use Rattle.b67_table.specs.declared.ProcessState.{ProcessState}
use Rattle.b67_table.specs.declared.ProcessState.TheVariants as states
use Rattle.b67_table.specs.Image.{Image, is_able, is_live}
use Rattle.b67_table.specs.Valid.{IsValid, waits, is_no_mother}
use Rattle.b67_table.proofs.EventKept.{who_waits}
use Rattle.b67_table.proofs.Lists.{numbered_within, numbered_from}
use Rattle.b67_table.proofs.OwnValid.{process_stays}
use Rattle.b67_table.proofs.Waking.{able_live}
use Rattle.b67_linkage.proofs.Linked.{live_are_linked}
use Rattle.b67_ops.specs.declared.TheConstants.{MOST_LEVEL}
use Rattle.b67_private.specs.Parts.{IsPrivatePart}
use Rattle.b67_private.proofs.ValidParts.{valid_part}
use Rattle.b67_intrinsics.specs.Called.{ImageIsLeft}
use Rattle.b67_operators.specs.Leaves.{IsLinkedIn}
use Rattle.b67_reach.specs.declared.Parts.{Parts}
use Rattle.b67_reach.specs.Images.{image_of}
use Rattle.b67_reach.specs.Woken.{HasPlaces, KeepsPlaces}
use Rattle.b67_action.specs.Acting.{IsActing}
use Rattle.b67_action.specs.Done.{KernelHasRoom}
use Rattle.b67_action.specs.Own.{part_of_process}
use Rattle.b67_action.proofs.Able.{able_waits}

pub some_is : {A : Type 0} (P : A → Type 0) (o : Option A) (a : A) → o ≡ Some a → IfSome o P → P a
some_is {A = A} P o a e x = subst (λ (z : Option A). IfSome z P) e x

pub if_some : {A : Type 0} (P : A → Type 0) (o : Option A) (a : A) → o ≡ Some a → P a → IfSome o P
if_some {A = A} P o a e x = subst (λ (z : Option A). IfSome z P) (sym e) x

-- there is room for as many to be released as there was
pub kept_places : (n m : ℕ) (old new : Woken) → HasPlaces n old → KeepsPlaces old new → m ≡ n → HasPlaces m new
kept_places n m old new h k e = (omega (arith, h.0, k.0, e), omega (arith, h.1, k.1, e))

past : (xs : List ProcessState) (n : ℕ) → length xs ≤ n → is_live (numbered xs (suc n)) ≡ false
past [] n h = refl
past (x ∷ xs) zero h = absurd (omega (arith, h))
past (x ∷ xs) (suc n) h = past xs n (omega (arith, h))

module _ (stacks : Stacks) (rows : Rows) (kernel : Events) (parts : Parts) (p : ℕ) (r : Registers) (v : IsValid parts.code (image_of stacks rows kernel parts))
    (able : is_able (numbered parts.states.items p) ≡ true) (room : KernelHasRoom kernel parts) (has : numbered parts.regs.items p ≡ Some r) where
  next_free : stack_at stacks (parts.started + 1) ≡ None
  next_free =
      let n_is : suc parts.started ≡ parts.started + 1 = omega arith in
      none_there (stack_at stacks (parts.started + 1))
      (v.stacks (parts.started + 1) (omega arith) ∙ ap (λ (n : ℕ). is_live (numbered parts.states.items n)) (sym n_is)
      ∙ past parts.states.items parts.started (omega (arith, v.states)))

  pub acting : IsActing stacks rows kernel parts p
  acting = record {
    linked = subst (λ (o : Option Registers). IsLinkedIn stacks rows o) (sym has)
        (live_are_linked parts.code (image_of stacks rows kernel parts) p r v (able_live (numbered parts.states.items p) able) has);
    number = numbered_from parts.regs.items p r has;
    within = omega (arith, numbered_within parts.regs.items p r has, v.registers, v.most, room.waiting);
    idle = not_true (is_waiting p kernel.events) (λ w. able_waits (numbered parts.states.items p) able (who_waits kernel.events kernel.lists parts.states.items v.events p w));
    unlisted = not_true (is_listed p kernel.lists) (λ i. able_waits (numbered parts.states.items p) able (ap waits (v.events.listed p i)));
    room = room.released;
    next = record { free = next_free; each = v.registers ∙ sym v.states; numbers = v.registers ∙ sym v.numbers; most = v.most };
  }

  pub live : is_live (numbered parts.states.items p) ≡ true
  live = able_live (numbered parts.states.items p) able

  pub level_known : r.ll ≤ MOST_LEVEL
  level_known = omega (arith, (live_are_linked parts.code (image_of stacks rows kernel parts) p r v live has).level)

  pub part_known : IfSome (numbered parts.regs.items p) (λ (q : Registers). IsPrivatePart (part_of_process stacks q))
  part_known =
      if_some (λ (q : Registers). IsPrivatePart (part_of_process stacks q)) (numbered parts.regs.items p) r has
      (valid_part parts.code (image_of stacks rows kernel parts) p r v live has)

-- ---- rows that are the same at each number

counted_same : (a b : Rows) → ((n : ℕ) → row_at a n ≡ row_at b n) → counted_words a ≡ counted_words b
counted_same [] [] h = refl
counted_same [] (y ∷ b) h =
    let e : 0 ≡ live_words y = ap live_words (h 0) in
    let i : 0 ≡ counted_words b = counted_same [] b (λ n. h (suc n)) in
    let sum : 0 ≡ live_words y + counted_words b = omega (arith, e, i) in
    sum ∙ sym (sum_by-cons live_words y b)
counted_same (x ∷ a) [] h =
    let e : live_words x ≡ 0 = ap live_words (h 0) in
    let i : counted_words a ≡ 0 = counted_same a [] (λ n. h (suc n)) in
    let sum : live_words x + counted_words a ≡ 0 = omega (arith, e, i) in
    sum_by-cons live_words x a ∙ sum
counted_same (x ∷ a) (y ∷ b) h =
    let e : live_words x ≡ live_words y = ap live_words (h 0) in
    let i : counted_words a ≡ counted_words b = counted_same a b (λ n. h (suc n)) in
    let sum : live_words x + counted_words a ≡ live_words y + counted_words b = omega (arith, e, i) in
    sum_by-cons live_words x a ∙ sum ∙ sym (sum_by-cons live_words y b)

-- an image in which no row is open that was not, and none is closed
pub left_valid : (code : Code) (old new : Image) → IsValid code old → ImageIsLeft old new → length new.rows ≤ row_limit → IsValid code new
left_valid code old new v k few = subst (λ (z : Image). IsValid code z) (sym k.others) (record {
  segments = v.segments;
  words = v.words;
  registers = v.registers;
  states = v.states;
  numbers = v.numbers;
  positions = v.positions;
  some = v.some;
  most = v.most;
  system = v.system;
  stacks = v.stacks;
  processes = λ p r live has. process_stays old (record old { rows = new.rows }) p r refl (v.processes p r live has);
  earlier = v.earlier;
  rows = record {
    few = few;
    room = subst (λ (n : ℕ). n ≤ count_limit) (sym (counted_same new.rows old.rows k.rows)) v.rows.room;
    short = λ n. subst (λ (o : Option Row). length (row_words_or o) ≤ count_limit) (sym (k.rows n)) (v.rows.short n);
    words = λ n. subst (λ (o : Option Row). All IsWord (row_words_or o)) (sym (k.rows n)) (v.rows.words n);
    shallow = λ n. subst (λ (o : Option Row). All (λ (w : Word). is_no_mother (as_descriptor w) ≡ true) (row_words_or o)) (sym (k.rows n)) (v.rows.shallow n);
  };
  events = v.events;
})

-- ---- the registers of an able process

pub there : {X : Type 0} (xs : List X) (p : ℕ) → 1 ≤ p → p ≤ length xs → IsSome (numbered xs p)
there xs zero o h = absurd (omega (arith, o))
there [] (suc k) o h = absurd (omega (arith, h))
there (x ∷ xs) (suc zero) o h = refl
there (x ∷ xs) (suc (suc k)) o h = there xs (suc k) (omega arith) (omega (arith, h))

number_of : (xs : List ProcessState) (p : ℕ) (o : Option ProcessState) → numbered xs p ≡ o → is_able o ≡ true → (1 ≤ p) × (p ≤ length xs)
number_of xs p None e a = cc
number_of xs p (Some x) e a = (numbered_from xs p x e, numbered_within xs p x e)

pub registers_there : (code : Code) (img : Image) (p : ℕ) → IsValid code img → is_able (numbered img.states p) ≡ true → IsSome (numbered img.regs p)
registers_there code img p v able =
    let n = number_of img.states p (numbered img.states p) refl able in
    there img.regs p n.0 (omega (arith, n.1, v.states, v.registers))

pub state_at : (xs : List ProcessState) (p : ℕ) (s : ProcessState) → 1 ≤ p → p ≤ length xs → s ≡ get_or xs (p - 1) s → numbered xs p ≡ Some s
state_at xs zero s o h e = absurd (omega (arith, o))
state_at xs (suc k) s o h e =
    let k_is : suc k - 1 ≡ k = omega arith in
    slice_get-get_or xs k s (omega (arith, h)) ∙ ap (λ (x : ProcessState). Some x) (sym (e ∙ ap (λ (n : ℕ). get_or xs n s) k_is))
