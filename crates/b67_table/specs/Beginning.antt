-- The first image, with which every run begins.
use Rattle.std.specs.Prelude.{ℕ, ◌+◌, ◌-◌, true, false, List, [], ◌∷◌, Option, Some, None, replicate}
use Rattle.b67_word.specs.declared.Place.{Place}
use Rattle.b67_word.specs.Word.{Word}
use Rattle.b67_control.specs.declared.Registers.{Registers}
use Rattle.b67_control.specs.Control.{pcw_word}
use Rattle.b67_control.specs.Display.{levels}
use Rattle.b67_table.specs.declared.ProcessState.TheVariants.{Able}
use Rattle.b67_ops.specs.declared.intrinsic.Intrinsic.{Intrinsic}
use Rattle.b67_ops.specs.Intrinsics.{intrinsics}
use Rattle.b67_table.specs.Chains.{place}
use Rattle.b67_table.specs.Linkage.{entered_mark, base_control}
use Rattle.b67_table.specs.Image.{Image}

-- the base mark of a stack, linked to the bottom of stack 0
abbrev pub base_mark : Word
base_mark = entered_mark (place 0 0) 0

abbrev pub intrinsic_pcw : ℕ → Word
intrinsic_pcw n = pcw_word (record { intrinsic = true; names = false; segment = 0; psr = 0; pir = 0; level = 0; number = n })

abbrev pub intrinsic_words : ℕ → List Intrinsic → List Word
intrinsic_words n [] = []
intrinsic_words n (name ∷ names) = intrinsic_pcw n ∷ intrinsic_words (n + 1) names

-- stack 0: a mark, its control word, and the intrinsics at their numbers from 2 on
abbrev pub system_stack : List Word
system_stack = base_mark ∷ base_control 0 ∷ intrinsic_words 2 intrinsics

-- the base frame of process 1
abbrev pub base_frame : List Word
base_frame = base_mark ∷ base_control 2 ∷ []

-- register 0 names stack 0, register 1 nothing, register 2 the base frame
abbrev pub first_display : List (Option Place)
first_display = Some (place 0 0) ∷ None ∷ Some (place 1 0) ∷ replicate (levels - 3) None

abbrev pub first_registers : Registers
first_registers =
    record { stack = 1; s = 2; f = 0; ll = 2; display = first_display; cells = 0; segment = 0; place = 0; task = None; critical = None }

unfoldable pub first_image : Image
first_image =
    record {
      stacks = Some system_stack ∷ Some base_frame ∷ [];
      rows = [];
      events = [];
      lists = [];
      regs = first_registers ∷ [];
      states = Able ∷ [];
      numbers = 0 ∷ [];
      output = [];
      started = 1;
      fault = None;
    }
