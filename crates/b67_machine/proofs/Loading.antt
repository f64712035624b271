-- The first image is valid on every store in which nothing is open, whatever was opened in it and closed.
use Rattle.std.proofs.Common.{◌≡◌, ◌≢◌, refl, sym, subst, ap, ◌∙◌, ℕ, zero, suc, ◌+◌, ◌≤◌, true, List, [], ◌∷◌, length, slice_get, All, Option, Some, None, is_some, arith}
use Rattle.std.proofs.lemmas.List.Sums.{sum_by-cons}
use Rattle.b67_word.specs.Word.{Word, IsWord}
use Rattle.b67_word.specs.declared.Place.{Place}
use Rattle.b67_control.specs.Control.{as_mscw, as_rcw, as_descriptor}
use Rattle.b67_control.specs.declared.Registers.{Registers}
use Rattle.b67_segment.specs.declared.code.Segment.{Segment}
use Rattle.b67_segment.specs.declared.code.Code.{Code}
use Rattle.b67_store.specs.Store.{Stacks, Rows, stack_at, words_or, words_of, word_at, opened_at, row_words_or, row_words, live_words, counted_words, count_limit, row_limit}
use Rattle.b67_store.proofs.StoreLaws.{opened_here, opened_others}
use Rattle.b67_table.specs.Beginning.{system_stack, base_frame, first_image}
use Rattle.b67_table.specs.Chains.{place}
use Rattle.b67_table.specs.Image.{Image}
use Rattle.b67_table.specs.Limits.{segment_limit}
use Rattle.b67_table.specs.Look.{read_as}
use Rattle.b67_table.specs.Valid.{IsFrame, IsProcess, AreRows, IsValid, is_no_mother}
use Rattle.b67_table.proofs.FirstValid.{first_is_valid}
use Rattle.b67_load.specs.Closed.{NoneOpen, first_on}
use Rattle.b67_load.proofs.Built.{not_zero}
use Rattle.b67_machine.specs.Beginning.{IsUntried, IsFresh}
use Rattle.b67_machine.specs.Kept.{MachineModel}

-- ---- where lists are empty

pub none_in : {X : Type 0} (xs : List (Option X)) → xs ≡ [] → NoneOpen xs
none_in {X} xs e = subst (λ (z : List (Option X)). NoneOpen z) (sym e) (λ n. refl)

first_on_none : (stacks : Stacks) (rows : Rows) → stacks ≡ [] → rows ≡ [] → first_on stacks rows ≡ first_image
unfolding first_image
first_on_none stacks rows e f = ap (λ (z : Stacks). first_on z rows) e ∙ ap (λ (z : Rows). first_on [] z) f

pub fresh_on : (stacks : Stacks) (rows : Rows) {m : MachineModel} → stacks ≡ [] → rows ≡ [] → IsUntried (first_on stacks rows) m → IsFresh m
fresh_on stacks rows {m} e f u = subst (λ (x : Image). IsUntried x m) (first_on_none stacks rows e f) u

-- ---- stacks: at each number the first image's

not_one : (k : ℕ) → suc (suc k) ≢ 1
not_one k e = omega (arith, e)

module _ (stacks : Stacks) (rows : Rows) (no_stack : NoneOpen stacks) (no_row : NoneOpen rows) where
  one : Stacks
  one = opened_at stacks 0 system_stack

  same_stack : (n : ℕ) → stack_at (first_on stacks rows).stacks n ≡ stack_at first_image.stacks n
  unfolding first_image one
  same_stack zero = opened_others one 1 0 base_frame (λ (e : 0 ≡ 1). cc) ∙ opened_here stacks 0 system_stack
  same_stack (suc zero) = opened_here one 1 base_frame
  same_stack (suc (suc k)) = opened_others one 1 (suc (suc k)) base_frame (not_one k) ∙ opened_others stacks 0 (suc (suc k)) system_stack (not_zero (suc k)) ∙ no_stack (suc (suc k))

  same_words : (n : ℕ) → words_of (first_on stacks rows).stacks n ≡ words_of first_image.stacks n
  same_words n = ap words_or (same_stack n)

  same_word : (at : Place) → word_at (first_on stacks rows).stacks at ≡ word_at first_image.stacks at
  same_word at = ap (λ (ws : List Word). slice_get ws at.at) (same_words at.stack)

  frame_on : (f : Place) → IsFrame first_image f → IsFrame (first_on stacks rows) f
  frame_on f q = record {
    mark = q.mark;
    marked = ap (λ (w : Option Word). read_as as_mscw w) (same_word f) ∙ q.marked;
    entered = q.entered;
    control = q.control;
    controlled = ap (λ (w : Option Word). read_as as_rcw w) (same_word (place f.stack (f.at + 1))) ∙ q.controlled;
  }

  process_on : (p : ℕ) (r : Registers) → IsProcess first_image p r → IsProcess (first_on stacks rows) p r
  process_on p r q = record {
    stack = q.stack;
    size = q.size ∙ sym (ap length (same_words p));
    room = q.room;
    display = q.display;
    frame = q.frame;
    own = q.own;
    is_frame = frame_on (place p q.frame) q.is_frame;
    above = q.above;
    mark = q.mark;
    cells = q.cells;
    segment = q.segment;
    pointer = q.pointer;
  }

  -- ---- rows: none has a word

  no_words : (n : ℕ) → row_words rows n ≡ []
  no_words n = ap row_words_or (no_row n)

  rows_on : length rows ≤ row_limit → AreRows (first_on stacks rows)
  rows_on few = record {
    few = few;
    room = subst (λ (n : ℕ). n ≤ count_limit) (sym (none_counts rows no_row)) (omega arith);
    short = λ n. subst (λ (ws : List Word). length ws ≤ count_limit) (sym (no_words n)) (omega arith);
    words = λ n. subst (All IsWord) (sym (no_words n)) (λ k d h. absurd (omega (arith, h)));
    shallow = λ n. subst (All (λ (w : Word). is_no_mother (as_descriptor w) ≡ true)) (sym (no_words n)) (λ k d h. absurd (omega (arith, h)));
  }
    where
      none_counts : (rs : Rows) → NoneOpen rs → counted_words rs ≡ 0
      none_counts [] none = refl
      none_counts (None ∷ rs) none =
          let more : counted_words (None ∷ rs) ≡ 0 + counted_words rs = sum_by-cons live_words None rs in
          omega (arith, more, none_counts rs (λ n. none (suc n)))
      none_counts (Some row ∷ rs) none = let no : Some row ≡ None = none 0 in cc

  -- ---- the whole image

  pub first_on_is_valid : (code : Code) → length rows ≤ row_limit → All (λ (s : Segment). length s.words ≤ segment_limit) code.segments → IsValid code (first_on stacks rows)
  first_on_is_valid code few short =
      let v : IsValid code first_image = first_is_valid code short in
      record {
        segments = short;
        words = λ n. subst (All IsWord) (sym (same_words n)) (v.words n);
        registers = v.registers;
        states = v.states;
        numbers = v.numbers;
        positions = v.positions;
        some = v.some;
        most = v.most;
        system = same_stack 0 ∙ v.system;
        stacks = λ p h. ap is_some (same_stack p) ∙ v.stacks p h;
        processes = λ p r live has. process_on p r (v.processes p r live has);
        earlier = v.earlier;
        rows = rows_on few;
        events = v.events;
      }
