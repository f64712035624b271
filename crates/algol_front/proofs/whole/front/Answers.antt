use Rattle.std.proofs.Common.{Err, List, subst, sym, ap}
use Rattle.algol_tree.specs.declared.token.Token.{Token}
use Rattle.algol_tree.specs.Image.{program as plain}
use Rattle.algol_tree.specs.Programs.{Reads}
use Rattle.algol_tree.specs.Ended.{EndsOnce}
use Rattle.algol_tree.specs.Refused.{RefusedProgram}
use Rattle.algol_lexer.proofs.LexOrder.{tokens_ascend}
use Rattle.algol_grammar.proofs.InOrder.{in_order}
use Rattle.b67_list.proofs.Answered.{if_err_left}
use Rattle.algol_front.proofs.Parts.{text_refuses, grammar_refuses, scope_refuses, check_refuses, is_source}
use Rattle.algol_front.proofs.Sources.{one_source, no_source}
use Rattle.algol_front.proofs.whole.front.Goals as goal

pub read_program-requires : goal.read_program-requires
read_program-requires c = record { ended = subst (λ (ts : List Token). EndsOnce ts) (sym c.as_slice.ensures.value) c.in_ok-tokens.ensures.ended }

pub resolve-requires : goal.resolve-requires
resolve-requires c = in_order c.in_ok-tokens.tokens.items (plain c.in_ok-program.program)
    (tokens_ascend c.args.bytes.now c.in_ok-tokens.tokens.items c.in_ok-tokens.ensures.lexes.lexes)
    (subst (λ (ts : List Token). Reads ts (plain c.in_ok-program.program)) c.as_slice.ensures.value c.in_ok-program.ensures.reads)

pub check-requires-clause-order : goal.check-requires-clause-order
check-requires-clause-order c = in_order c.in_ok-tokens.tokens.items (plain c.in_ok-program.program)
    (tokens_ascend c.args.bytes.now c.in_ok-tokens.tokens.items c.in_ok-tokens.ensures.lexes.lexes)
    (subst (λ (ts : List Token). Reads ts (plain c.in_ok-program.program)) c.as_slice.ensures.value c.in_ok-program.ensures.reads)

pub returns-in_err-tokens-clause-refused : goal.returns-in_err-tokens-clause-refused
returns-in_err-tokens-clause-refused c =
    if_err_left _ _ _ c.from_residual.ensures.1 (text_refuses c.args.bytes.now c.in_err-tokens.field-0.0 (λ spot code e. c.in_err-tokens.ensures.refused spot code (ap Err e)))

pub returns-in_err-tokens-clause-none : goal.returns-in_err-tokens-clause-none
returns-in_err-tokens-clause-none c =
    if_err_left _ _ _ c.from_residual.ensures.1 (no_source c.args.bytes.now c.in_err-tokens.field-0.0 (text_refuses c.args.bytes.now c.in_err-tokens.field-0.0 (λ spot code e. c.in_err-tokens.ensures.refused spot code (ap Err e))))

pub returns-in_err-program-clause-refused : goal.returns-in_err-program-clause-refused
returns-in_err-program-clause-refused c =
    if_err_left _ _ _ c.from_residual-in_err-program.ensures.1 (grammar_refuses c.args.bytes.now c.in_ok-tokens.tokens.items c.in_ok-tokens.ensures.lexes.lexes c.in_err-program.field-0.0
    (subst (λ (ts : List Token). RefusedProgram ts c.in_err-program.field-0.0) c.as_slice.ensures.value c.in_err-program.ensures.refused))

pub returns-in_err-program-clause-none : goal.returns-in_err-program-clause-none
returns-in_err-program-clause-none c =
    if_err_left _ _ _ c.from_residual-in_err-program.ensures.1 (no_source c.args.bytes.now c.in_err-program.field-0.0 (grammar_refuses c.args.bytes.now c.in_ok-tokens.tokens.items c.in_ok-tokens.ensures.lexes.lexes c.in_err-program.field-0.0
    (subst (λ (ts : List Token). RefusedProgram ts c.in_err-program.field-0.0) c.as_slice.ensures.value c.in_err-program.ensures.refused)))

pub returns-in_err-scopes-clause-refused : goal.returns-in_err-scopes-clause-refused
returns-in_err-scopes-clause-refused c =
    if_err_left _ _ _ c.from_residual-in_err-scopes.ensures.1 (scope_refuses c.args.bytes.now c.in_ok-tokens.tokens.items c.in_ok-tokens.ensures.lexes.lexes (plain c.in_ok-program.program)
    (subst (λ (ts : List Token). Reads ts (plain c.in_ok-program.program)) c.as_slice.ensures.value c.in_ok-program.ensures.reads) c.in_err-scopes.field-0.0 c.in_err-scopes.ensures.refused)

pub returns-in_err-scopes-clause-none : goal.returns-in_err-scopes-clause-none
returns-in_err-scopes-clause-none c =
    if_err_left _ _ _ c.from_residual-in_err-scopes.ensures.1 (no_source c.args.bytes.now c.in_err-scopes.field-0.0 (scope_refuses c.args.bytes.now c.in_ok-tokens.tokens.items c.in_ok-tokens.ensures.lexes.lexes (plain c.in_ok-program.program)
    (subst (λ (ts : List Token). Reads ts (plain c.in_ok-program.program)) c.as_slice.ensures.value c.in_ok-program.ensures.reads) c.in_err-scopes.field-0.0 c.in_err-scopes.ensures.refused))

pub returns-in_err-check-clause-refused : goal.returns-in_err-check-clause-refused
returns-in_err-check-clause-refused c =
    if_err_left _ _ _ c.from_residual-in_err-check.ensures.1 (check_refuses c.args.bytes.now c.in_ok-tokens.tokens.items c.in_ok-tokens.ensures.lexes.lexes (plain c.in_ok-program.program)
    (subst (λ (ts : List Token). Reads ts (plain c.in_ok-program.program)) c.as_slice.ensures.value c.in_ok-program.ensures.reads) c.in_ok-scopes.ensures.are.unbroken c.in_err-check.field-0.0
    (λ spot code e. c.in_err-check.ensures.refused spot code (ap Err e)))

pub returns-in_err-check-clause-none : goal.returns-in_err-check-clause-none
returns-in_err-check-clause-none c =
    if_err_left _ _ _ c.from_residual-in_err-check.ensures.1 (no_source c.args.bytes.now c.in_err-check.field-0.0 (check_refuses c.args.bytes.now c.in_ok-tokens.tokens.items c.in_ok-tokens.ensures.lexes.lexes (plain c.in_ok-program.program)
    (subst (λ (ts : List Token). Reads ts (plain c.in_ok-program.program)) c.as_slice.ensures.value c.in_ok-program.ensures.reads) c.in_ok-scopes.ensures.are.unbroken c.in_err-check.field-0.0
    (λ spot code e. c.in_err-check.ensures.refused spot code (ap Err e))))

pub returns-clause-accepted : goal.returns-clause-accepted
returns-clause-accepted c = is_source c.args.bytes.now c.in_ok-tokens.tokens.items c.in_ok-tokens.ensures.lexes.lexes (plain c.in_ok-program.program)
    (subst (λ (ts : List Token). Reads ts (plain c.in_ok-program.program)) c.as_slice.ensures.value c.in_ok-program.ensures.reads) c.in_ok-scopes.ensures.are.unbroken c.requires c.in_ok-check.ensures.passed

pub returns-clause-only : goal.returns-clause-only
returns-clause-only c = λ tree s. one_source c.args.bytes.now tree (plain c.in_ok-program.program) s
    (is_source c.args.bytes.now c.in_ok-tokens.tokens.items c.in_ok-tokens.ensures.lexes.lexes (plain c.in_ok-program.program)
    (subst (λ (ts : List Token). Reads ts (plain c.in_ok-program.program)) c.as_slice.ensures.value c.in_ok-program.ensures.reads) c.in_ok-scopes.ensures.are.unbroken c.requires c.in_ok-check.ensures.passed)
