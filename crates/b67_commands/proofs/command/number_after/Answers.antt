use Rattle.std.proofs.Common.{◌≡◌, subst, ℕ, List, ◌++◌, Some, None, true, false}
use Rattle.std.proofs.lemmas.Bool.Decides.{Decides-eqb}
use Rattle.std.proofs.lemmas.Slice.Eq.{strip_prefix_is}
use Rattle.std.specs.Fmt.{decimal}
use Rattle.std.specs.Str.Parse.{ParsesUnsigned}
use Rattle.b67_commands.proofs.Lines.{no_text_no_number, not_parsed_no_number, too_great_no_number, other_no_number, number_so}
use Rattle.b67_commands.proofs.command.number_after.Goals as goal

pub returns-in_default : goal.returns-in_default
returns-in_default c = λ n numbered. strip_prefix_is Decides-eqb c.args.line.now c.args.word.now None c.in_default.ensures.cases (decimal n) numbered.line_is

pub returns-in_default-from_utf8 : goal.returns-in_default-from_utf8
returns-in_default-from_utf8 c =
    let cut : c.args.line.now ≡ c.args.word.now ++ c.in-Some.numeral.now = strip_prefix_is Decides-eqb c.args.line.now c.args.word.now (Some c.in-Some.numeral) c.in-Some.ensures.cases in
    no_text_no_number c.args.word.now c.args.line.now c.in-Some.numeral.now cut c.in_default-from_utf8.ensures.cases.0

pub returns-in_default-parse : goal.returns-in_default-parse
returns-in_default-parse c =
    let cut : c.args.line.now ≡ c.args.word.now ++ c.in-Some.numeral.now = strip_prefix_is Decides-eqb c.args.line.now c.args.word.now (Some c.in-Some.numeral) c.in-Some.ensures.cases in
    let parses = subst (λ (bs : List ℕ). ParsesUnsigned 32 10 bs c.parse.result) c.in-Ok.ensures.cases.0 c.parse.ensures.value.0 in
    not_parsed_no_number c.args.word.now c.args.line.now c.in-Some.numeral.now c.parse.result c.in_default-parse.field-0 cut parses c.in_default-parse.is

pub returns-then-number-gt-MOST_NUMBER : goal.returns-then-number-gt-MOST_NUMBER
returns-then-number-gt-MOST_NUMBER c =
    let cut : c.args.line.now ≡ c.args.word.now ++ c.in-Some.numeral.now = strip_prefix_is Decides-eqb c.args.line.now c.args.word.now (Some c.in-Some.numeral) c.in-Some.ensures.cases in
    let parses = subst (λ (bs : List ℕ). ParsesUnsigned 32 10 bs c.parse.result) c.in-Ok.ensures.cases.0 c.parse.ensures.value.0 in
    too_great_no_number c.args.word.now c.args.line.now c.in-Some.numeral.now c.parse.result c.in-Ok-parse.number cut parses c.in-Ok-parse.is c.if-number-gt-MOST_NUMBER.true

pub returns-then-is_written : goal.returns-then-is_written
returns-then-is_written c =
    let cut : c.args.line.now ≡ c.args.word.now ++ c.in-Some.numeral.now = strip_prefix_is Decides-eqb c.args.line.now c.args.word.now (Some c.in-Some.numeral) c.in-Some.ensures.cases in
    number_so c.args.word.now c.args.line.now c.in-Some.numeral.now c.in-Ok-parse.number cut (c.is_written.ensures.0 c.if-is_written.true) c.if-number-gt-MOST_NUMBER.false

pub returns-else-is_written : goal.returns-else-is_written
returns-else-is_written c =
    let cut : c.args.line.now ≡ c.args.word.now ++ c.in-Some.numeral.now = strip_prefix_is Decides-eqb c.args.line.now c.args.word.now (Some c.in-Some.numeral) c.in-Some.ensures.cases in
    let parses = subst (λ (bs : List ℕ). ParsesUnsigned 32 10 bs c.parse.result) c.in-Ok.ensures.cases.0 c.parse.ensures.value.0 in
    other_no_number c.args.word.now c.args.line.now c.in-Some.numeral.now c.parse.result c.in-Ok-parse.number cut parses c.in-Ok-parse.is
    (λ e. let wrong : false ≡ true = c.if-is_written.ensures.1 e in cc)
