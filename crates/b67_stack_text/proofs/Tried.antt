-- What is told of the first process of a run, before its first entry.
use Rattle.std.proofs.Common.{◌≡◌, refl, [], ◌∷◌, None, codes, arith}
use Rattle.std.proofs.lemmas.Fmt.{decimal_digit}
use Rattle.b67_word.specs.Word.{word}
use Rattle.b67_control.specs.declared.Display.{Display}
use Rattle.b67_stack_text.specs.Lines.{stack_text, regs_text, no_process_text}

words : stack_text 1 (word 3 35184372088832 ∷ word 3 70368744177668 ∷ []) ≡ codes "STACK 1 2\n00000 3 200000000000\n00001 3 400000000004\n"
words = rw (decimal_digit 1 (omega arith), decimal_digit 2 (omega arith), decimal_digit 3 (omega arith)) refl

registers : (d : Display) →
    regs_text 1 (record { stack = 0; s = 2; f = 0; ll = 2; display = d; cells = 0; segment = 0; place = 0; task = None; critical = None })
    ≡ codes "REGS 1 S 2 F 0 LL 2 CELLS 0 AT 0:0\n"
registers d = rw (decimal_digit 0 (omega arith), decimal_digit 1 (omega arith), decimal_digit 2 (omega arith)) refl

nobody : no_process_text 2 ≡ codes "NO PROCESS 2\n"
nobody = rw (decimal_digit 2 (omega arith)) refl
