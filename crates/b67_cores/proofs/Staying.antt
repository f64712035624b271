-- The words below the floor stay, and private operators do the same above any others.
use Rattle.std.proofs.Common.{◌≡◌, sym, ap, ◌∙◌, subst, ℕ, ◌+◌, ◌≤◌, List, [], ◌++◌, length, take, drop, append_assoc, length-append, take-append-drop, arith}
use Rattle.std.specs.Prelude.{reverse}
use Rattle.std.proofs.Math.Seq.{take-append_seam}
use Rattle.std.proofs.lemmas.List.{append-nil, append_cancel_left, take-append-le}
use Rattle.b67_word.specs.Word.{Word}
use Rattle.b67_segment.specs.declared.code.Code.{Code}
use Rattle.b67_table.specs.Private.{floor}
use Rattle.b67_table.specs.Table.{private_op}
use Rattle.b67_cores.specs.Cores.{Core, over, IsCore, part_of_core, CoreStep, CoreSteps, here, onward}
use Rattle.b67_cores.specs.Stretches.{Above, StepsStayAbove}
use Rattle.b67_cores.proofs.Sizes.{Lies, lies_after}

module _ (code : Code) (a b : Core) (is : IsCore a) (s : CoreStep code a b) where
  lies : Lies (length a.below) s.part
  unfolding private_op
  lies =
      lies_after (length a.below) s.op a.registers.place s.next (part_of_core a) s.part
      (record { size = sym is.top; above = omega (arith, is.bottom, is.top); low = omega (arith, is.bottom) }) s.effect

  rises : length a.below ≤ length b.below
  rises = omega (arith, lies.low, s.is.bottom, ap floor s.registers)

  -- what is below the floor now, and was above it
  cells : List Word
  cells = drop (length a.below) b.below

  front_is : take (length a.below) b.below ≡ a.below
  front_is =
      sym (take-append-le (length a.below) b.below (reverse b.words) rises)
      ∙ ap (take (length a.below)) s.stack
      ∙ take-append_seam a.below (reverse s.part.words)

  below_is : b.below ≡ a.below ++ cells
  unfolding cells
  below_is = sym (take-append-drop (length a.below) b.below) ∙ ap (λ ws. ws ++ drop (length a.below) b.below) front_is

  rest_is : cells ++ reverse b.words ≡ reverse s.part.words
  rest_is =
      append_cancel_left a.below (cells ++ reverse b.words) (reverse s.part.words)
      (sym (append_assoc a.below cells (reverse b.words)) ∙ ap (λ ws. ws ++ reverse b.words) (sym below_is) ∙ s.stack)

  module _ (lower : List Word) (same : length lower ≡ length a.below) where
    long : length (lower ++ cells) ≡ length b.below
    long = omega (arith, same, length-append lower cells, length-append a.below cells, ap length below_is)

    step_over : CoreStep code (over lower a) (over (lower ++ cells) b)
    step_over = record {
      op = s.op;
      next = s.next;
      stands = s.stands;
      private = s.private;
      part = s.part;
      effect = s.effect;
      registers = s.registers;
      stack = append_assoc lower cells (reverse b.words) ∙ ap (λ ws. lower ++ ws) rest_is;
      is = record { bottom = long ∙ s.is.bottom; top = omega (arith, s.is.top, long) };
    }

stays : (code : Code) (bound : ℕ) {n : ℕ} {a b : Core} → IsCore a → CoreSteps code bound n a b → Above code bound n a b
stays code bound is (here {a = a} h) = record {
  cells = [];
  below = sym (append-nil a.below);
  same = λ lower e.
      subst (λ (ws : List Word). CoreSteps code bound 0 (over lower a) (over ws a)) (sym (append-nil lower)) (here (omega (arith, h, e)));
}
stays code bound is (onward {n = n} {a = a} {b = b} {c = c} h s more) =
    let later : Above code bound n b c = stays code bound s.is more in
    record {
      cells = cells code a b is s ++ later.cells;
      below = later.below ∙ ap (λ ws. ws ++ later.cells) (below_is code a b is s) ∙ append_assoc a.below (cells code a b is s) later.cells;
      same = λ lower e.
          subst (λ (ws : List Word). CoreSteps code bound (n + 1) (over lower a) (over ws c)) (append_assoc lower (cells code a b is s) later.cells)
          (onward (omega (arith, h, e)) (step_over code a b is s lower e) (later.same (lower ++ cells code a b is s) (long code a b is s lower e)));
    }

pub steps_stay_above : StepsStayAbove
steps_stay_above code bound n a b is steps = stays code bound is steps
