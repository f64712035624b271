use Rattle.std.proofs.Common.{◌≡◌, ℕ, ◌+◌, Err, List, ◌++◌, length, drop, sym, ◌∙◌, ap, subst, arith}
use Rattle.std.proofs.lemmas.List.{drop-drop}
use Rattle.std.proofs.lemmas.Result.{err_from_is_err_and}
use Rattle.std.specs.Str.Lines.{strip_carriage_return}
use Rattle.algol_tree.specs.declared.refusal.Refusal.TheVariants.{At}
use Rattle.algol_tree.specs.declared.token.Token.{Token}
use Rattle.algol_tree.specs.Ended.{EndsOnce}
use Rattle.algol_tree.specs.Lexes.{Program, Lexes}
use Rattle.algol_lexer.specs.Shown.{mode_of}
use Rattle.algol_lexer.proofs.LexReach.{lexes_only, refused_only}
use Rattle.algol_lexer.proofs.LexTexts.{Text, text_start, text_next, text_refused, text_last, text_refused_last, ends_once}
use Rattle.algol_lexer.proofs.lexer.lex.Goals as goal

-- before the first record
pub records-init : goal.records-init
records-init c = record {
  text = subst (Text c.args.bytes.now c.args.bytes.now 1 0 Program) (sym c.new-tokens.ensures.items) (text_start c.args.bytes.now);
  left = omega arith;
  line = omega arith;
  many = omega (arith, ap length c.new-tokens.ensures.items);
}

-- a record that an LF ends is refused
pub returns-in_err-mode-clause-refused : goal.returns-in_err-mode-clause-refused
returns-in_err-mode-clause-refused c =
    let p = err_from_is_err_and c.from_residual.result c.from_residual.ensures.1 in
    let part = c.without_return.ensures.value ∙ ap strip_carriage_return c.split_at.ensures.front in
    λ spot code h.
    let same : c.in_err-mode.field-0.0 ≡ At spot code = cc in
    refused_only c.args.bytes.now spot code (text_refused c.args.bytes.now c.records.rest.now c.without_return.result.now c.records.line c.records.from c.in-Some.length (mode_of c.records.mode) c.records.tokens.items spot code c.records.invariant.text c.in-Some.ensures.value part (c.in_err-mode.ensures.refused spot code (ap Err same)))

-- it is read
pub records-preserved : goal.records-preserved
records-preserved c =
    let part = c.without_return.ensures.value ∙ ap strip_carriage_return c.split_at.ensures.front in
    let rest : c.split_at-in-Some.result.1.now ≡ drop (c.in-Some.length + 1) c.records.rest.now = c.split_at-in-Some.ensures.back ∙ ap (drop 1) c.split_at.ensures.back ∙ drop-drop 1 c.in-Some.length c.records.rest.now in
    record {
      text = subst (λ (l : List ℕ). Text c.args.bytes.now l (c.records.line + 1) (c.records.from + (c.in-Some.length + 1)) (mode_of c.in_ok-mode.mode) c.read_record.new.tokens.items) (sym rest) (text_next c.args.bytes.now c.records.rest.now c.without_return.result.now c.records.line c.records.from c.in-Some.length (mode_of c.records.mode) (mode_of c.in_ok-mode.mode) c.records.tokens.items c.read_record.new.tokens.items c.records.invariant.text c.in-Some.ensures.value part c.in_ok-mode.ensures.read);
      left = omega (arith, c.split_at-in-Some.ensures.back_len, c.split_at.ensures.back_len, c.records.invariant.left);
      line = omega (arith, c.records.invariant.line);
      many = omega (arith, c.in_ok-mode.ensures.many, c.without_return.ensures.within, c.split_at.ensures.front_len, c.records.invariant.many);
    }

-- the last record is refused
pub returns-in_err-read_record-clause-refused : goal.returns-in_err-read_record-clause-refused
returns-in_err-read_record-clause-refused c =
    let p = err_from_is_err_and c.from_residual-in_err-read_record.result c.from_residual-in_err-read_record.ensures.1 in
    λ spot code h.
    let same : c.in_err-read_record.field-0.0 ≡ At spot code = cc in
    refused_only c.args.bytes.now spot code (text_refused_last c.args.bytes.now c.records.rest.now c.records.line c.records.from (mode_of c.records.mode) c.records.tokens.items spot code c.records.invariant.text c.in_default.ensures.value (c.in_err-read_record.ensures.refused spot code (ap Err same)))

-- it is read, and the text ends
pub returns-clause-lexes : goal.returns-clause-lexes
returns-clause-lexes c =
    let pushed = c.in_ok-push.ensures.items ∙ ap (λ (ts : List Token). c.read_record-2.new.tokens.items ++ ts) c.token.ensures in
    lexes_only c.args.bytes.now c.push.new.self.items (subst (Lexes c.args.bytes.now) (sym pushed) (text_last c.args.bytes.now c.records.rest.now c.records.line c.records.from (mode_of c.records.mode) (mode_of c.in_ok-read_record.field-0) c.records.tokens.items c.read_record-2.new.tokens.items c.records.invariant.text c.in_default.ensures.value c.in_ok-read_record.ensures.read))

pub returns-clause-ended : goal.returns-clause-ended
returns-clause-ended c =
    let pushed = c.in_ok-push.ensures.items ∙ ap (λ (ts : List Token). c.read_record-2.new.tokens.items ++ ts) c.token.ensures in
    subst EndsOnce (sym pushed) (ends_once c.args.bytes.now c.records.rest.now c.records.line c.records.from (mode_of c.records.mode) (mode_of c.in_ok-read_record.field-0) c.records.tokens.items c.read_record-2.new.tokens.items c.records.invariant.text c.in_default.ensures.value c.in_ok-read_record.ensures.read)
