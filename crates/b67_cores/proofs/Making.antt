-- PUSH makes cells of all words above the floor.
use Rattle.std.proofs.Common.{◌≡◌, refl, sym, ap, ◌∙◌, subst, ℕ, ◌+◌, ◌-◌, ◌≤◌, List, [], ◌++◌, length, cond, arith, length-append}
use Rattle.std.specs.Prelude.{reverse}
use Rattle.std.proofs.lemmas.Bool.{le-leb}
use Rattle.std.proofs.lemmas.List.{append-nil, length-reverse}
use Rattle.algol_tree.specs.Scopes.{Scopes}
use Rattle.b67_word.specs.Word.{Word}
use Rattle.b67_control.specs.declared.Registers.{Registers}
use Rattle.b67_ops.specs.declared.Operator.TheVariants as ops
use Rattle.b67_ops.specs.declared.PlainKind.TheVariants as kinds
use Rattle.b67_segment.specs.Operators.{Placed}
use Rattle.b67_segment.specs.declared.code.Code.{Code}
use Rattle.b67_segment.specs.Fetching.{fetched}
use Rattle.b67_segment.proofs.Among.{fetched_spelled}
use Rattle.b67_table.specs.declared.InterruptKind.TheVariants.{InvalidOperand}
use Rattle.b67_table.specs.declared.Private.{Private}
use Rattle.b67_table.specs.Effect.{gives, interrupts, ◌>>=◌}
use Rattle.b67_table.specs.Limits.{most_cells}
use Rattle.b67_table.specs.Private.{frame}
use Rattle.b67_table.specs.PrivateRows.{pointed}
use Rattle.b67_table.specs.Rows.{row}
use Rattle.b67_table.specs.Table.{private_op, class_at}
use Rattle.b67_templates.specs.Fragments.{Has}
use Rattle.b67_standing.specs.Stepping.{Slot}
use Rattle.b67_cores.specs.Cores.{Core, size, CoreStep, CoreSteps, here, onward}
use Rattle.b67_cores.specs.Slots.{Known, newest}
use Rattle.b67_cores.specs.Stretches.{CoreAt, CellsAreMade}
use Rattle.b67_cores.proofs.Moving.{Standing, moved}
use Rattle.b67_cores.proofs.Placing.{placed_as}

module _ (sc : Scopes) (known : List Known) (code : Code) (ps : List Placed) (level most bound : ℕ) (core : Core) (st : Standing code ps level most bound core)
    (from to : ℕ) (x : List Slot) (ws : List Word) (has : Has ps level from (ops.Plain kinds.Push) to) (room : length core.below + length ws ≤ 2 + frame core.registers + most_cells) where
  abbrev made_registers : Registers
  made_registers = record core.registers {
    s = length core.below + length ws;
    f = newest (frame core.registers) (length core.below) x;
    cells = length core.below + length ws - (frame core.registers + 2);
    place = to;
  }

  abbrev pub made : Core
  made = record { below = core.below ++ reverse ws; words = []; registers = made_registers }

  push_step : CoreStep code (moved core from x ws) made
  unfolding class_at private_op row
  push_step = record {
    op = ops.Plain kinds.Push;
    next = to;
    stands = ap (λ l. fetched code (record { segment = core.registers.segment; place = from }) l) st.level_is
        ∙ fetched_spelled code core.registers.segment st.there st.spells has;
    private = refl;
    part = record { regs = made_registers; words = ws };
    effect = ap (λ b. cond b (gives (record {
      regs = record (moved core from x ws).registers { cells = length core.below + length ws - (frame core.registers + 2) };
      words = ws;
    })) (interrupts InvalidOperand) >>= (λ (q : Private). gives (pointed to q)))
        (le-leb (length core.below + length ws - (frame core.registers + 2)) most_cells (omega (arith, room)));
    registers = refl;
    stack = append-nil (core.below ++ reverse ws);
    is = record {
      bottom = omega (arith, length-append core.below (reverse ws), length-reverse ws, st.bottom);
      top = omega (arith, length-append core.below (reverse ws), length-reverse ws);
    };
  }

  pub made_as : (k : ℕ) → length ws ≡ k → newest (frame core.registers) (length core.below) x ≡ frame core.registers
      → made_registers ≡ record core.registers { s = size made; f = frame core.registers; cells = core.registers.cells + k; place = to }
  made_as k long bare =
      let whole : length core.below + length ws ≡ size made = omega (arith, length-append core.below (reverse ws), length-reverse ws) in
      let count : length core.below + length ws - (frame core.registers + 2) ≡ core.registers.cells + k = omega (arith, long, st.bottom) in
      ap (λ n. record made_registers { s = n }) whole
      ∙ ap (λ n. record made_registers { s = size made; f = n }) bare
      ∙ ap (λ n. record core.registers { s = size made; f = frame core.registers; cells = n; place = to }) count

  pub push_steps : size (moved core from x ws) ≤ bound → CoreSteps code bound 1 (moved core from x ws) made
  push_steps fits = onward {b = made} {c = made} fits push_step (here {a = made} (omega (arith, fits, length-append core.below (reverse ws), length-reverse ws)))

  -- where no mark lies above the cells, the core is after PUSH
  pub made_at : newest (frame core.registers) (length core.below) x ≡ frame core.registers → CoreAt sc known code ps level to [] made
  made_at bare = record {
    segment = st.segment;
    there = st.there;
    spells = st.spells;
    level_is = st.level_is;
    place_is = refl {a = to};
    is = push_step.is;
    mark_is = bare;
    words_are = tt;
  }

pub cells_are_made : CellsAreMade
cells_are_made sc known code ps level bound from to core has at bare few fits =
    let most : ℕ = length core.words in
    let st : Standing code ps level most bound core =
    record { segment = at.segment; there = at.there; spells = at.spells; level_is = at.level_is; bottom = at.is.bottom; room = fits } in
    let small : length core.below + length core.words ≤ 2 + frame core.registers + most_cells = omega (arith, few, at.is.bottom) in
    let last : Core = made sc known code ps level most bound core st from to [] core.words has small in
    record {
      core = last;
      steps = subst (λ (c : Core). CoreSteps code bound 1 c last) (sym (placed_as from [] core at.is.top bare at.place_is))
          (push_steps sc known code ps level most bound core st from to [] core.words has small fits);
      below = refl;
      registers = made_as sc known code ps level most bound core st from to [] core.words has small most refl refl;
      at = made_at sc known code ps level most bound core st from to [] core.words has small refl;
    }
