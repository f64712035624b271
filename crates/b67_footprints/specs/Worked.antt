-- Where a name leads, no operator asks: an example in which it leads into the private part of another process.
use Rattle.std.specs.Prelude.{◌-◌, [], ◌∷◌, replicate, pos, Some, None}
use Rattle.b67_word.specs.declared.Place.{Place}
use Rattle.b67_word.specs.Word.{operand}
use Rattle.b67_control.specs.declared.Registers.{Registers}
use Rattle.b67_control.specs.Display.{levels}
use Rattle.b67_ops.specs.declared.Operator.TheVariants as ops
use Rattle.b67_segment.specs.declared.code.Code.{Code}
use Rattle.b67_table.specs.declared.ProcessState.TheVariants.{Able}
use Rattle.b67_table.specs.Image.{Image}
use Rattle.b67_table.specs.Chains.{place}
use Rattle.b67_table.specs.Linkage.{entered_mark, base_control}
use Rattle.b67_table.specs.Beginning.{system_stack}
use Rattle.b67_table.specs.Rows.{row}
use Rattle.b67_table.specs.Touches.{IsPrivate, RowTouches}

-- Process 1 is in its outermost block, which has no cells, and has an operand on its stack. Process 2 runs a procedure of that block.
abbrev pub first : Registers
first = record {
  stack = 1;
  s = 3;
  f = 0;
  ll = 2;
  display = Some (place 0 0) ∷ None ∷ Some (place 1 0) ∷ replicate (levels - 3) None;
  cells = 0;
  segment = 0;
  place = 0;
  task = None;
  critical = None;
}

abbrev pub second : Registers
second = record {
  stack = 2;
  s = 2;
  f = 0;
  ll = 3;
  display = Some (place 0 0) ∷ None ∷ Some (place 1 0) ∷ Some (place 2 0) ∷ replicate (levels - 4) None;
  cells = 0;
  segment = 0;
  place = 0;
  task = None;
  critical = Some (place 1 0);
}

abbrev pub beside : Image
beside = record {
  stacks =
      Some system_stack ∷ Some (entered_mark (place 0 0) 0 ∷ base_control 2 ∷ operand (pos 7) ∷ [])
      ∷ Some (entered_mark (place 1 0) 0 ∷ base_control 3 ∷ []) ∷ [];
  rows = [];
  events = [];
  lists = [];
  regs = first ∷ second ∷ [];
  states = Able ∷ Able ∷ [];
  numbers = 0 ∷ 0 ∷ [];
  output = [];
  started = 2;
  fault = None;
}

-- VALC of the couple 2, 2 reads the operand
abbrev pub NamesMayLeadAbove : Type 0
NamesMayLeadAbove =
    (code : Code) → (x : Place) × RowTouches (row (ops.Valc (record { level = 2; index = 2 })) 0) code beside 2 second 2 x × IsPrivate first x
