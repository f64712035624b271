-- Steps of a core, performed in an image, and one that comes to the stack limit.
use Rattle.std.proofs.Common.{◌≡◌, ◌≢◌, refl, sym, ap, ◌∙◌, subst, ℕ, ◌<◌, ◌≤◌, true, false, List, ◌++◌, take, drop, set, Some, arith}
use Rattle.std.specs.Prelude.{◌↔◌, ◌&&◌, reverse}
use Rattle.std.proofs.Math.Seq.{drop-append_seam, take-append_seam}
use Rattle.std.proofs.lemmas.Bool.{and_right}
use Rattle.std.proofs.lemmas.List.{reverse-reverse}
use Rattle.b67_list.specs.Numbered.{numbered}
use Rattle.b67_list.proofs.Lists.{set_set_here}
use Rattle.b67_list.proofs.Numbered.{numbered_same, numbered_twice}
use Rattle.b67_control.specs.declared.Registers.{Registers}
use Rattle.b67_segment.specs.declared.code.Code.{Code}
use Rattle.b67_store.specs.Store.{Stacks, stack_at, words_or, words_of, stack_limit}
use Rattle.b67_store.proofs.Cited.{put_there}
use Rattle.b67_store.proofs.StoreLaws.{changed_others}
use Rattle.b67_table.specs.declared.Class.TheVariants as classes
use Rattle.b67_table.specs.declared.Private.{Private}
use Rattle.b67_table.specs.Effect.{Effect, gives}
use Rattle.b67_table.specs.Outcome.{Outcome, limited}
use Rattle.b67_table.specs.Outcome as outcomes
use Rattle.b67_table.specs.Private.{floor}
use Rattle.b67_table.specs.Image.{Image, private_of, with_private, with_effect, with_stacks, with_registers}
use Rattle.b67_table.specs.Rows.{TableRow, private_part, action, row}
use Rattle.b67_table.specs.Table.{raw, table, plain, part_by, private_op, class_at, class_by, is_private, private_at, private_in, private_next, is_new, stack_length, length_in}
use Rattle.b67_table.specs.Privacy.{RegistersStay}
use Rattle.b67_table.specs.Runs.{Plains, stay, go}
use Rattle.b67_table.proofs.Stacks.{set_here, get_numbered_other}
use Rattle.b67_table.proofs.Lists.{numbered_set, numbered_from, numbered_within}
use Rattle.b67_table.proofs.Limit.{fits, limit_comes_last}
use Rattle.b67_table.proofs.Privacy.{Next, raw_is, part_keeps}
use Rattle.b67_table.proofs.Cited.{keeps_both}
use Rattle.b67_cores.specs.Cores.{Core, stack_of, size, IsCore, HasCore, with_core, part_of_core, CoreStep, CoreSteps, here, onward}
use Rattle.b67_cores.specs.Stretches.{StepsArePerformed, StepsComeToLimit}

-- ---- the operator of a step

-- the row of a private operator
pub record PrivateRow (w : TableRow) : Type 0 where
  pub change : ℕ → Private → Effect Private
  pub is : w ≡ private_part change

pub private_row : (w : TableRow) → class_by w ≡ classes.Private → PrivateRow w
private_row (private_part change) e = record { change = change; is = refl }
private_row (action program) e = cc

row_of : {code : Code} {a b : Core} → (s : CoreStep code a b) → PrivateRow (row s.op a.registers.place)
unfolding class_at
row_of {a = a} s = private_row (row s.op a.registers.place) s.private

next_of : {code : Code} {a b : Core} → (s : CoreStep code a b) → Next code a.registers
next_of s = record { op = s.op; next = s.next; stands = s.stands; change = (row_of s).change; is = (row_of s).is }

change_gives : {code : Code} {a b : Core} → (s : CoreStep code a b) → (row_of s).change s.next (part_of_core a) ≡ gives s.part
unfolding private_op
change_gives {a = a} s = ap (λ (w : TableRow). part_by w s.next (part_of_core a)) (sym (row_of s).is) ∙ s.effect

-- it leaves the other registers
pub step_keeps : {code : Code} {a b : Core} → CoreStep code a b → RegistersStay a.registers b.registers
unfolding next_of
step_keeps {code} {a} s = subst (RegistersStay a.registers) (sym s.registers) (part_keeps code a.registers (next_of s) (part_of_core a) s.part (change_gives s))

-- ---- an image that has a core

module _ (img : Image) (p : ℕ) (a : Core) (has : HasCore img p a) where
  words_are : words_of img.stacks a.registers.stack ≡ stack_of a
  words_are = ap words_or has.stack

  pub private_is : private_of img a.registers ≡ part_of_core a
  private_is =
      ap (λ ws. record { regs = a.registers; words = ws })
      (ap (λ ws. reverse (drop (floor a.registers) ws)) words_are
      ∙ ap (λ n. reverse (drop n (stack_of a))) (sym has.is.bottom)
      ∙ ap reverse (drop-append_seam a.below (reverse a.words))
      ∙ reverse-reverse a.words)

  pub same_core : with_core img p a ≡ img
  same_core =
      ap (λ (st : Stacks). with_registers (with_stacks img st) p a.registers) (put_there img.stacks a.registers.stack (stack_of a) has.stack)
      ∙ ap (λ (rs : List Registers). record img { regs = rs }) (numbered_same img.regs p a.registers has.registers)

  -- after a step
  module _ (code : Code) (b : Core) (s : CoreStep code a b) where
    same_stack : b.registers.stack ≡ a.registers.stack
    same_stack = (step_keeps s).0

    part_stack : s.part.regs.stack ≡ a.registers.stack
    part_stack = sym (ap (λ (r : Registers). r.stack) s.registers) ∙ same_stack

    lower_is : take (floor a.registers) (words_of img.stacks s.part.regs.stack) ≡ a.below
    lower_is =
        ap (λ n. take (floor a.registers) (words_of img.stacks n)) part_stack
        ∙ ap (take (floor a.registers)) words_are
        ∙ ap (λ n. take n (stack_of a)) (sym has.is.bottom)
        ∙ take-append_seam a.below (reverse a.words)

    pub put_is : with_private img p (floor a.registers) s.part ≡ with_core img p b
    put_is =
        ap (λ ws. with_registers (with_stacks img (set img.stacks s.part.regs.stack (Some (ws ++ reverse s.part.words)))) p s.part.regs) lower_is
        ∙ ap (λ ws. with_registers (with_stacks img (set img.stacks s.part.regs.stack (Some ws))) p s.part.regs) (sym s.stack)
        ∙ ap (λ (r : Registers). with_registers (with_stacks img (set img.stacks r.stack (Some (stack_of b)))) p r) (sym s.registers)

    raw_gives : raw code img p ≡ gives (with_core img p b)
    unfolding next_of
    raw_gives =
        raw_is code img p a.registers has.live has.registers (next_of s)
        ∙ ap (λ (q : Private). with_effect img p (floor a.registers) ((row_of s).change s.next q)) private_is
        ∙ ap (with_effect img p (floor a.registers)) (change_gives s)
        ∙ ap gives put_is

    there : numbered (with_core img p b).regs p ≡ Some b.registers
    there =
        numbered_set img.regs p b.registers (numbered_from img.regs p a.registers has.registers) (numbered_within img.regs p a.registers has.registers)

    pub core_after : HasCore (with_core img p b) p b
    core_after = record {
      live = has.live;
      registers = there;
      own = same_stack ∙ has.own;
      stack = set_here img.stacks b.registers.stack (stack_of a) (stack_of b) (ap (stack_at img.stacks) same_stack ∙ has.stack);
      is = s.is;
    }

    long : length_in (numbered (with_core img p b).regs p) ≡ size b
    long = ap length_in there ∙ s.is.top

    pub table_gives : size b ≤ stack_limit → table code img p ≡ outcomes.gives (with_core img p b)
    unfolding table
    table_gives h =
        ap (limited (stack_length p)) raw_gives ∙ fits (stack_length p) (with_core img p b) (subst (λ n. n ≤ stack_limit) (sym long) h)

    table_limit : stack_limit < size b → table code img p ≡ outcomes.limit
    table_limit h = (limit_comes_last.limit code img p).1 (with_core img p b, raw_gives, subst (λ n. stack_limit < n) (sym long) h)

    not_plain : stack_limit < size b → plain code img p ≡ false
    unfolding plain
    not_plain h = and_right (private_next code img p) (is_new (table code img p)) (ap is_new (table_limit h))

    next_private : private_next code img p ≡ true
    next_private = ap (private_in code) has.registers ∙ ap (private_at a.registers) s.stands ∙ ap is_private s.private

    pub is_plain : size b ≤ stack_limit → plain code img p ≡ true
    unfolding plain
    is_plain h = ap (λ x. x && is_new (table code img p)) next_private ∙ ap is_new (table_gives h)

-- ---- several steps

-- one core after another of the same stack
pub with_again : (img : Image) (p : ℕ) (b c : Core) → b.registers.stack ≡ c.registers.stack → with_core (with_core img p b) p c ≡ with_core img p c
with_again img p b c e =
    ap (λ n. with_registers (with_stacks (with_core img p b) (set (set img.stacks n (Some (stack_of b))) c.registers.stack (Some (stack_of c)))) p c.registers) e
    ∙ ap (λ (st : Stacks). with_registers (with_stacks (with_core img p b) st) p c.registers)
    (set_set_here img.stacks c.registers.stack (Some (stack_of b)) (Some (stack_of c)))
    ∙ ap (λ (rs : List Registers). record (with_stacks img (set img.stacks c.registers.stack (Some (stack_of c)))) { regs = rs })
    (numbered_twice img.regs p b.registers c.registers)

pub steps_keep : {code : Code} {bound n : ℕ} {a b : Core} → CoreSteps code bound n a b → RegistersStay a.registers b.registers
steps_keep (here h) = (refl, refl, refl, refl, refl, refl)
steps_keep {b = c} (onward {a = a} {b = b} h s more) = keeps_both a.registers b.registers c.registers (step_keeps s) (steps_keep more)

first_fits : {code : Code} {bound n : ℕ} {a b : Core} → CoreSteps code bound n a b → size a ≤ bound
first_fits (here h) = h
first_fits (onward h s more) = h

pub last_fits : {code : Code} {bound n : ℕ} {a b : Core} → CoreSteps code bound n a b → size b ≤ bound
last_fits (here h) = h
last_fits (onward h s more) = last_fits more

pub plains_of : (code : Code) (p bound : ℕ) → bound ≤ stack_limit → {n : ℕ} {a b : Core} → (img : Image) → HasCore img p a → CoreSteps code bound n a b
    → Plains code p img n (with_core img p b)
plains_of code p bound small {b = b} img has (here h) = subst (Plains code p img 0) (sym (same_core img p b has)) stay
plains_of code p bound small {b = c} img has (onward {n = n} {a = a} {b = b} h s more) =
    let fits_b : size b ≤ stack_limit = omega (arith, first_fits more, small) in
    let later : Plains code p (with_core img p b) n (with_core (with_core img p b) p c) =
    plains_of code p bound small (with_core img p b) (core_after img p a has code b s) more in
    let same : b.registers.stack ≡ c.registers.stack = sym (steps_keep more).0 in
    go (is_plain img p a has code b s fits_b) (table_gives img p a has code b s fits_b)
    (subst (Plains code p (with_core img p b) n) (with_again img p b c same) later)

last_is : {code : Code} {bound n : ℕ} {a b : Core} → IsCore a → CoreSteps code bound n a b → IsCore b
last_is is (here h) = is
last_is is (onward h s more) = last_is s.is more

-- ---- what an image has with another core of a process

module _ (img : Image) (p : ℕ) (a b : Core) (has : HasCore img p a) (kept : RegistersStay a.registers b.registers) (is : IsCore b) where
  pub has_after : HasCore (with_core img p b) p b
  has_after = record {
    live = has.live;
    registers = numbered_set img.regs p b.registers (numbered_from img.regs p a.registers has.registers) (numbered_within img.regs p a.registers has.registers);
    own = kept.0 ∙ has.own;
    stack = set_here img.stacks b.registers.stack (stack_of a) (stack_of b) (ap (stack_at img.stacks) kept.0 ∙ has.stack);
    is = is;
  }

  pub other_stack : (m : ℕ) → m ≢ p → stack_at (with_core img p b).stacks m ≡ stack_at img.stacks m
  other_stack m h = changed_others img.stacks b.registers.stack m (Some (stack_of b)) (λ e. h (e ∙ kept.0 ∙ has.own))

  pub other_registers : (q : ℕ) → q ≢ p → numbered (with_core img p b).regs q ≡ numbered img.regs q
  other_registers q h = get_numbered_other img.regs p q b.registers h

  pub other_core : (q : ℕ) (core : Core) → q ≢ p → HasCore img q core ↔ HasCore (with_core img p b) q core
  other_core q core h = (
    λ k. record {
      live = k.live;
      registers = other_registers q h ∙ k.registers;
      own = k.own;
      stack = other_stack core.registers.stack (λ e. h (sym k.own ∙ e)) ∙ k.stack;
      is = k.is;
    },
    λ k. record {
      live = k.live;
      registers = sym (other_registers q h) ∙ k.registers;
      own = k.own;
      stack = sym (other_stack core.registers.stack (λ e. h (sym k.own ∙ e))) ∙ k.stack;
      is = k.is;
    },
  )

pub steps_come_to_limit : StepsComeToLimit
steps_come_to_limit code p img a b has s h = (table_limit img p a has code b s h, not_plain img p a has code b s h)

pub steps_are_performed : StepsArePerformed
steps_are_performed code p bound n img a b small has steps =
    let kept : RegistersStay a.registers b.registers = steps_keep steps in
    let is : IsCore b = last_is has.is steps in
    record {
      plains = plains_of code p bound small img has steps;
      has = has_after img p a b has kept is;
      kept = kept;
      stacks = other_stack img p a b has kept is;
      registers = other_registers img p a b has kept is;
      others = other_core img p a b has kept is;
    }
