-- The changes that many rows end with: words off the stack, words on it, and the pointer after the operator.
use Rattle.std.specs.Prelude.{ℕ, ◌+◌, ◌-◌, List, [], ◌∷◌}
use Rattle.b67_word.specs.Word.{Word}
use Rattle.b67_control.specs.declared.Registers.{Registers}
use Rattle.b67_table.specs.Program.{Change, done, cut, push, registers}

-- the pointer is left after the operator
abbrev pub onward : Registers → ℕ → Change
onward r next = registers (record r { place = next }) done

-- so many words on top are dropped
abbrev pub dropped : Registers → ℕ → ℕ → Change
dropped r next n = cut r.stack (r.s - n) (registers (record r { s = r.s - n; place = next }) done)

-- a word takes the place of so many on top
abbrev pub replaced : Registers → ℕ → ℕ → Word → Change
replaced r next n w = cut r.stack (r.s - n) (push r.stack w (registers (record r { s = r.s - n + 1; place = next }) done))

-- these words are pushed, the first one first
abbrev pub pushed : ℕ → List Word → Change → Change
pushed stack [] next = next
pushed stack (w ∷ words) next = push stack w (pushed stack words next)
