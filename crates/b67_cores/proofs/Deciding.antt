-- What a process performs is a fact of its core only.
use Rattle.std.proofs.Common.{◌≡◌, refl, sym, ap, ◌∙◌, subst, ℕ, suc, ◌+◌, ◌≤◌, true, ◌++◌, length, take, drop, arith, length-append}
use Rattle.std.specs.Prelude.{reverse}
use Rattle.std.proofs.Math.Seq.{drop-append_seam, take-append_seam}
use Rattle.std.proofs.lemmas.Bool.{and_parts}
use Rattle.std.proofs.lemmas.List.{reverse-reverse, length-reverse}
use Rattle.b67_control.specs.declared.Registers.{Registers}
use Rattle.b67_ops.specs.declared.Operator.{Operator}
use Rattle.b67_ops.proofs.Cited.{same_found}
use Rattle.b67_segment.specs.declared.code.Code.{Code}
use Rattle.b67_store.specs.Store.{stack_limit}
use Rattle.b67_table.specs.declared.Private.{Private}
use Rattle.b67_table.specs.Effect.{gives}
use Rattle.b67_table.specs.Outcome as outcomes
use Rattle.b67_table.specs.Outcome.{Outcome}
use Rattle.b67_table.specs.Private.{floor}
use Rattle.b67_table.specs.Image.{Image, with_effect}
use Rattle.b67_table.specs.Rows.{TableRow, row}
use Rattle.b67_table.specs.Table.{table, plain, part_by, private_op, class_at, class_by, private_next, is_new, stack_length, length_in}
use Rattle.b67_table.specs.Runs.{Plains, stay, go}
use Rattle.b67_table.proofs.Limit.{limit_comes_last}
use Rattle.b67_table.proofs.Privacy.{Next, next_private, raw_is, Put, put_by}
use Rattle.b67_cores.specs.Cores.{Core, stack_of, size, IsCore, HasCore, with_core, part_of_core, CoreStep, CoreSteps, here, onward}
use Rattle.b67_cores.specs.Stretches.{Decided, Repeated, CoresDecide}
use Rattle.b67_cores.proofs.Having.{parted, parted_stack, parted_is}
use Rattle.b67_cores.proofs.Performing.{private_is, same_core, put_is, core_after, with_again, steps_keep, plains_of}
use Rattle.b67_cores.proofs.Sizes.{Lies, lies_after}

-- ---- a plain operator is a step

abbrev after : Core → Private → Core
after a part = parted part.regs (a.below ++ reverse part.words)

module _ (code : Code) (a : Core) (is : IsCore a) (n : Next code a.registers) (part : Private) (e : n.change n.next (part_of_core a) ≡ gives part) where
  row_gives : part_by (row n.op a.registers.place) n.next (part_of_core a) ≡ gives part
  row_gives = ap (λ (w : TableRow). part_by w n.next (part_of_core a)) n.is ∙ e

  lies : Lies (length a.below) part
  lies =
      lies_after (length a.below) n.op a.registers.place n.next (part_of_core a) part
      (record { size = sym is.top; above = omega (arith, is.bottom, is.top); low = omega (arith, is.bottom) }) row_gives

  long : length (a.below ++ reverse part.words) ≡ part.regs.s
  long = omega (arith, length-append a.below (reverse part.words), length-reverse part.words, lies.size)

  is_after : IsCore (after a part)
  is_after = parted_is part.regs (a.below ++ reverse part.words) (omega (arith, lies.above, long)) (sym long)

  step_of : CoreStep code a (after a part)
  unfolding class_at private_op
  step_of = record {
    op = n.op;
    next = n.next;
    stands = n.stands;
    private = ap class_by n.is;
    part = part;
    effect = row_gives;
    registers = refl;
    stack = parted_stack part.regs (a.below ++ reverse part.words);
    is = is_after;
  }

-- a step that a plain operator in an image is
record Stepped (code : Code) (p : ℕ) (img : Image) (a : Core) (new : Image) : Type 0 where
  pub core : Core
  pub step : CoreStep code a core
  pub fits : size core ≤ stack_limit
  pub is : new ≡ with_core img p core

module _ (code : Code) (p : ℕ) (img new : Image) (a : Core) (has : HasCore img p a) (is_plain : plain code img p ≡ true) (gives_new : table code img p ≡ outcomes.gives new) where
  plain_private : private_next code img p ≡ true
  unfolding plain
  plain_private = (and_parts (private_next code img p) (is_new (table code img p)) is_plain).0

  by_part : (n : Next code a.registers) → Put img new p (floor a.registers) (n.change n.next (part_of_core a)) → stack_length p new ≤ stack_limit → Stepped code p img a new
  unfolding step_of
  by_part n put small =
      let s : CoreStep code a (after a put.part) = step_of code a has.is n put.part put.given in
      let placed : new ≡ with_core img p (after a put.part) = put.is ∙ put_is img p a has code (after a put.part) s in
      let counted : stack_length p (with_core img p (after a put.part)) ≡ size (after a put.part) =
      ap length_in (core_after img p a has code (after a put.part) s).registers ∙ s.is.top in
      record {
        core = after a put.part;
        step = s;
        fits = omega (arith, small, ap (stack_length p) placed, counted);
        is = placed;
      }

  one_step : Stepped code p img a new
  one_step =
      let n : Next code a.registers = next_private code img p a.registers has.registers plain_private in
      let given = (limit_comes_last.new code img new p).0 gives_new in
      let effect : with_effect img p (floor a.registers) (n.change n.next (part_of_core a)) ≡ gives new =
      ap (λ (q : Private). with_effect img p (floor a.registers) (n.change n.next q)) (sym (private_is img p a has))
      ∙ sym (raw_is code img p a.registers has.live has.registers n) ∙ given.0 in
      by_part n (put_by img new p (floor a.registers) (n.change n.next (part_of_core a)) effect) given.1

decided : (code : Code) (p : ℕ) {n : ℕ} {img new : Image} (a : Core) → HasCore img p a → size a ≤ stack_limit → Plains code p img n new → Decided code p img n a new
decided code p {img = img} a has small stay = record { core = a; steps = here small; is = sym (same_core img p a has) }
decided code p {img = img} a has small (go {b = next} e t more) =
    let s : Stepped code p img a next = one_step code p img next a has e t in
    let has_next : HasCore next p s.core = subst (λ (i : Image). HasCore i p s.core) (sym s.is) (core_after img p a has code s.core s.step) in
    let rest = decided code p s.core has_next s.fits more in
    record {
      core = rest.core;
      steps = onward small s.step rest.steps;
      is = rest.is ∙ ap (λ (i : Image). with_core i p rest.core) s.is ∙ with_again img p s.core rest.core (sym (steps_keep rest.steps).0);
    }

repeated : (code : Code) (p n : ℕ) (x new y : Image) (a : Core) → HasCore y p a → Decided code p x n a new → Repeated code p n x new y
repeated code p n x new y a has d =
    record { core = d.core; is = d.is; plains = plains_of code p stack_limit (omega arith) y has d.steps }

-- ---- each core has one step

same_part : (x y : Private) → gives x ≡ gives y → x ≡ y
same_part x y e = cc

module _ (code : Code) (a b c : Core) (s : CoreStep code a b) (t : CoreStep code a c) where
  same_operator : ◌≡◌ {A = Operator × ℕ} (s.op, s.next) (t.op, t.next)
  same_operator = same_found (s.op, s.next) (t.op, t.next) (sym s.stands ∙ t.stands)

  part_is : s.part ≡ t.part
  part_is =
      same_part s.part t.part
      (sym s.effect ∙ ap (λ (f : Operator × ℕ). private_op f.0 a.registers.place f.1 (part_of_core a)) same_operator ∙ t.effect)

  registers_are : b.registers ≡ c.registers
  registers_are = s.registers ∙ ap (λ (q : Private). q.regs) part_is ∙ sym t.registers

  stack_is : stack_of b ≡ stack_of c
  stack_is = s.stack ∙ ap (λ (q : Private). a.below ++ reverse q.words) part_is ∙ sym t.stack

  long_as : length b.below ≡ length c.below
  long_as = s.is.bottom ∙ ap floor registers_are ∙ sym t.is.bottom

  below_is : b.below ≡ c.below
  below_is =
      sym (take-append_seam b.below (reverse b.words))
      ∙ ap (λ n. take n (stack_of b)) long_as ∙ ap (take (length c.below)) stack_is
      ∙ take-append_seam c.below (reverse c.words)

  turned_is : reverse b.words ≡ reverse c.words
  turned_is =
      sym (drop-append_seam b.below (reverse b.words))
      ∙ ap (λ n. drop n (stack_of b)) long_as ∙ ap (drop (length c.below)) stack_is
      ∙ drop-append_seam c.below (reverse c.words)

  words_are : b.words ≡ c.words
  words_are = sym (reverse-reverse b.words) ∙ ap reverse turned_is ∙ reverse-reverse c.words

  same_step : b ≡ c
  same_step =
      ap (λ ws. record { below = ws; words = b.words; registers = b.registers }) below_is
      ∙ ap (λ ws. record { below = c.below; words = ws; registers = b.registers }) words_are
      ∙ ap (λ (r : Registers). record { below = c.below; words = c.words; registers = r }) registers_are

-- steps, of which one is there
record Begun (code : Code) (bound k : ℕ) (a c : Core) : Type 0 where
  pub next : Core
  pub step : CoreStep code a next
  pub rest : CoreSteps code bound k next c

begun : {code : Code} {bound m : ℕ} {a c : Core} (k : ℕ) → CoreSteps code bound m a c → m ≡ suc k → Begun code bound k a c
begun k (here h) e = cc
begun {code} {bound} {c = c} k (onward {n = n} {b = b} h s more) e =
    let same : n ≡ k = omega (arith, e) in
    record { next = b; step = s; rest = subst (λ j. CoreSteps code bound j b c) same more }

rest_after : (code : Code) (limit k : ℕ) (c : Core) {bound n : ℕ} {a b : Core} → CoreSteps code bound n a b → CoreSteps code limit (n + k) a c → CoreSteps code limit k b c
rest_after code limit k c (here {a = a} h) all = let same : 0 + k ≡ k = omega arith in subst (λ j. CoreSteps code limit j a c) same all
rest_after code limit k c (onward {n = n} {a = a} {b = b} h s more) all =
    let t : Begun code limit (n + k) a c = begun (n + k) all (omega arith) in
    rest_after code limit k c more (subst (λ (x : Core). CoreSteps code limit (n + k) x c) (sym (same_step code a b t.next s t.step)) t.rest)

pub cores_decide : CoresDecide
cores_decide = record {
  steps = λ code p n img new a has small plains. decided code p a has small plains;
  same = λ code p n x new y a has has' small plains. repeated code p n x new y a has' (decided code p a has small plains);
  first = λ code bound limit n k a b c steps all. rest_after code limit k c steps all;
}
