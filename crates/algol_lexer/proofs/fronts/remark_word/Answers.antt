use Rattle.std.proofs.Common.{refl, sym, subst}
use Rattle.algol_tree.specs.declared.token.Reserved.TheVariants as reserved
use Rattle.algol_tree.specs.Lexes.{EndRemark, TokenStands}
use Rattle.algol_lexer.proofs.LexStands.{run_at}
use Rattle.algol_lexer.proofs.LexRemarks.{ending_at, part_at}
use Rattle.algol_lexer.proofs.fronts.remark_word.Goals as goal

-- END, ELSE and UNTIL
pub returns-then-is_word : goal.returns-then-is_word
returns-then-is_word c =
    let run = run_at c.args.text.now c.letters_and_digits-size.result c.requires.some c.requires.letter c.letters_and_digits-size.ensures.value in
    subst (TokenStands EndRemark c.args.text.now) (sym c.word.ensures) (ending_at c.args.text.now c.letters_and_digits-size.result reserved.End run (c.is_word.ensures.0 c.if-is_word.true) refl)

pub returns-then-is_word-2 : goal.returns-then-is_word-2
returns-then-is_word-2 c =
    let run = run_at c.args.text.now c.letters_and_digits-size.result c.requires.some c.requires.letter c.letters_and_digits-size.ensures.value in
    subst (TokenStands EndRemark c.args.text.now) (sym c.word-then-is_word-2.ensures) (ending_at c.args.text.now c.letters_and_digits-size.result reserved.Else run (c.is_word-2.ensures.0 c.if-is_word-2.true) refl)

pub returns-then-is_word-3 : goal.returns-then-is_word-3
returns-then-is_word-3 c =
    let run = run_at c.args.text.now c.letters_and_digits-size.result c.requires.some c.requires.letter c.letters_and_digits-size.ensures.value in
    subst (TokenStands EndRemark c.args.text.now) (sym c.word-then-is_word-3.ensures) (ending_at c.args.text.now c.letters_and_digits-size.result reserved.Until run (c.is_word-3.ensures.0 c.if-is_word-3.true) refl)

-- any other word
pub returns : goal.returns
returns c =
    let run = run_at c.args.text.now c.letters_and_digits-size.result c.requires.some c.requires.letter c.letters_and_digits-size.ensures.value in
    subst (TokenStands EndRemark c.args.text.now) (sym c.passed.ensures)
    (part_at c.args.text.now c.letters_and_digits-size.result run
    (λ e. let h = c.is_word.ensures.1 e in let i = c.if-is_word.false in cc)
    (λ e. let h = c.is_word-2.ensures.1 e in let i = c.if-is_word-2.false in cc)
    (λ e. let h = c.is_word-3.ensures.1 e in let i = c.if-is_word-3.false in cc))
