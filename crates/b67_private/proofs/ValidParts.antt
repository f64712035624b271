-- The private part of a process of a valid image.
use Rattle.std.specs.Prelude.{reverse}
use Rattle.std.proofs.Common.{◌≡◌, refl, sym, ap, ◌∙◌, true, length, Some, [], ℕ, arith}
use Rattle.std.proofs.lemmas.List.{length-reverse}
use Rattle.b67_table.proofs.Wordly.{All_reverse}
use Rattle.b67_list.specs.Numbered.{numbered}
use Rattle.b67_word.specs.Word.{IsWord}
use Rattle.b67_store.specs.Store.{words_of}
use Rattle.b67_control.specs.declared.Registers.{Registers}
use Rattle.b67_segment.specs.declared.code.Code.{Code}
use Rattle.b67_table.specs.Beginning.{first_image, first_registers}
use Rattle.b67_table.specs.Image.{Image, private_of, is_live}
use Rattle.b67_table.specs.Private.{floor}
use Rattle.b67_table.specs.Valid.{IsProcess, IsValid}
use Rattle.b67_table.proofs.FirstValid.{first_is_valid}
use Rattle.b67_table.proofs.PrivateValid.{part_is}
use Rattle.b67_private.specs.Parts.{IsPrivatePart, part_with}

pub valid_part : (code : Code) (img : Image) (p : ℕ) (r : Registers) → IsValid code img → is_live (numbered img.states p) ≡ true → numbered img.regs p ≡ Some r
    → IsPrivatePart (private_of img r)
valid_part code img p r v live has =
    let own : IsProcess img p r = v.processes p r live has in
    let k = part_is code img p r v live has in
    record {
      base = floor r;
      size = k.size;
      room = own.room;
      words = k.words;
      seen = k.seen;
      level = own.display.known;
      mark = k.mark;
      cells = k.cells;
      low = omega arith;
      above = k.above;
      pointer = k.pointer;
    }

-- all the words of its stack with its registers are one too
pub valid_whole : (code : Code) (img : Image) (p : ℕ) (r : Registers) → IsValid code img → is_live (numbered img.states p) ≡ true → numbered img.regs p ≡ Some r
    → IsPrivatePart (part_with r (reverse (words_of img.stacks r.stack)))
valid_whole code img p r v live has =
    let own : IsProcess img p r = v.processes p r live has in
    let k = part_is code img p r v live has in
    let size : length (words_of img.stacks r.stack) ≡ r.s = ap (λ (n : ℕ). length (words_of img.stacks n)) own.stack ∙ sym own.size in
    record {
      base = 0;
      size = omega (arith, size, length-reverse (words_of img.stacks r.stack));
      room = own.room;
      words = All_reverse IsWord (words_of img.stacks r.stack) (v.words r.stack);
      seen = k.seen;
      level = own.display.known;
      mark = k.mark;
      cells = k.cells;
      low = omega arith;
      above = k.above;
      pointer = k.pointer;
    }

no_code : Code
no_code = record { segments = []; formats = [] }

-- the part of the first process, before its first operator
pub first_part : IsPrivatePart (record { regs = first_registers; words = [] })
unfolding first_image no_code
first_part = valid_part no_code first_image 1 first_registers (first_is_valid no_code (λ k d h. absurd (omega (arith, h)))) refl refl
