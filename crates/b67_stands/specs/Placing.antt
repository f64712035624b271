-- Where processes are: in the queue, out with a processor, or neither.
use Rattle.std.specs.Prelude.{◌≡◌, ◌≤◌, ℕ, zero, suc, ◌+◌, List}
use Rattle.b67_table.specs.Image.{Image}
use Rattle.b67_action.specs.Able.{number_times, one_if, able_in}
use Rattle.b67_machine.specs.Kept.{operators_counted}

-- the processor with which a process is out, 0 where it is with none
abbrev pub holder_of : List ℕ → ℕ → ℕ
holder_of out p = operators_counted out p

abbrev pub some_holder : ℕ → ℕ
some_holder zero = 0
some_holder (suc processor) = 1

-- the process is out with a processor
abbrev pub IsOut : List ℕ → ℕ → Type 0
IsOut out p = 1 ≤ holder_of out p

-- each process that is able is in the queue once or out with one processor, not both, and no other is in either
abbrev pub ProcessesPlaced : Image → List ℕ → List ℕ → Type 0
ProcessesPlaced image waiting out = (p : ℕ) → number_times p waiting + some_holder (holder_of out p) ≡ one_if (able_in image p)
