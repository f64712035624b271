use Rattle.std.proofs.Common.{◌≡◌, true, false, refl, sym, ◌∙◌}
use Rattle.algol_grammar.proofs.OneTree.{one_tree}
use Rattle.b67_list.proofs.Answered.{if_err_left}
use Rattle.algol_stmt.proofs.Public.{program_reads, program_behind, program_refused}
use Rattle.algol_stmt.proofs.program.read_program.Goals as goal

pub returns-in_err-program-clause-refused : goal.returns-in_err-program-clause-refused
returns-in_err-program-clause-refused c = if_err_left _ _ _ c.from_residual.ensures.1 (program_refused _ _ c.in_err-program.ensures.refused)

pub returns-then-is_end-clause-reads : goal.returns-then-is_end-clause-reads
returns-then-is_end-clause-reads c = program_reads _ _ _ c.in_ok-program.ensures.found c.first_of.ensures (c.is_end.ensures.0 c.if-is_end.true)

pub returns-then-is_end-clause-only : goal.returns-then-is_end-clause-only
returns-then-is_end-clause-only c =
    λ tree r. one_tree _ tree _ r (program_reads _ _ _ c.in_ok-program.ensures.found c.first_of.ensures (c.is_end.ensures.0 c.if-is_end.true))

pub returns-else-is_end-clause-refused : goal.returns-else-is_end-clause-refused
returns-else-is_end-clause-refused c = program_behind _ _ _ c.in_ok-program.ensures.found c.first_of.ensures
    (λ k. let no : true ≡ false = sym (c.is_end.ensures.1 k) ∙ c.if-is_end.false in cc) _ refl
