-- What a console prints of a process: the words of its stack, and its registers.
use Rattle.std.specs.Prelude.{ℕ, List, ◌++◌, length, codes}
use Rattle.std.specs.List.{flat_map, enumerate_from}
use Rattle.std.specs.Fmt.{decimal}
use Rattle.b67_word.specs.Word.{Word}
use Rattle.b67_control.specs.declared.Registers.{Registers}
use Rattle.b67_listing.specs.Digits.{last_digits}
use Rattle.b67_report.specs.Texts.{line_text}

-- a word at its displacement: that in 5 digits, the tag, and the 48 bits in 12 hexadecimal digits
abbrev pub word_text : ℕ × Word → List ℕ
word_text placed = line_text (last_digits 10 5 placed.0 ++ codes " " ++ decimal placed.1.tag ++ codes " " ++ last_digits 16 12 placed.1.bits)

-- a head line with the process and the number of its words, and a line for each word
abbrev pub stack_text : ℕ → List Word → List ℕ
stack_text p words =
    line_text (codes "STACK " ++ decimal p ++ codes " " ++ decimal (length words)) ++ flat_map word_text (enumerate_from 0 words)

abbrev pub regs_text : ℕ → Registers → List ℕ
regs_text p r =
    line_text (codes "REGS " ++ decimal p ++ codes " S " ++ decimal r.s ++ codes " F " ++ decimal r.f ++ codes " LL " ++ decimal r.ll
    ++ codes " CELLS " ++ decimal r.cells ++ codes " AT " ++ decimal r.segment ++ codes ":" ++ decimal r.place)

-- of a process that is not there, or has ended
abbrev pub no_process_text : ℕ → List ℕ
no_process_text p = line_text (codes "NO PROCESS " ++ decimal p)

-- where a console moved to
abbrev pub at_text : ℕ → List ℕ
at_text k = line_text (codes "AT " ++ decimal k)
