use Rattle.std.proofs.Common.{[], ◌∷◌, refl, sym, ap, ◌∙◌, arith}
use Rattle.algol_expr.proofs.Chain.{past, rest_of}
use Rattle.algol_expr.proofs.Arms.{started}
use Rattle.b67_list.proofs.Answered.{if_err_left}
use Rattle.algol_part.proofs.Chains.{adding, failing, refusing_on, listed, takes_it, skips_it, behind_symbol, then, rest_within, valued}
use Rattle.algol_part.specs.Phrases.{arrays_in}
use Rattle.algol_tree.specs.DueStmt.{segment_in}
use Rattle.algol_part.proofs.Loops.{goes_on, one_decl}
use Rattle.algol_part.proofs.Firsts.{segments_on, segments_off}
use Rattle.algol_tree.specs.declared.token.Symbol.TheVariants as symbols
use Rattle.algol_tree.specs.Due as due
use Rattle.algol_part.proofs.declaration.read_arrays.Goals as goal

pub segments-init : goal.segments-init
segments-init c = goes_on (started (arrays_in c.args.kind) _ _) c.requires.ended

pub returns-in_err-segment-clause-refused : goal.returns-in_err-segment-clause-refused
returns-in_err-segment-clause-refused c = if_err_left _ _ _ c.from_residual.ensures.1 (refusing_on (due.segments_more c.args.kind ∷ due.symbol symbols.Semicolon ∷ []) {ws = []} c.segments.invariant.run (c.in_err-segment.ensures.refused _))

pub segments-preserved : goal.segments-preserved
segments-preserved c = let b = behind_symbol c.first_of.ensures symbols.Comma c.in_ok-segment.ensures.found.behind.ended (sym c.is_symbol.ensures ∙ c.if-is_symbol.true) in record { run = then (valued {ws = []} (adding {ds = due.segments_more c.args.kind ∷ due.symbol symbols.Semicolon ∷ []} {ws = []} c.segments.invariant.run c.in_ok-segment.ensures.found) (ap due.declared (sym (one_decl _ _ _ c.in_ok-push.ensures.items)))) (takes_it c.first_of.ensures (due.segments_more c.args.kind) (segment_in c.args.kind) {ds = (due.symbol symbols.Semicolon ∷ [])} (segments_on c.args.kind c.first_of.ensures (sym c.is_symbol.ensures ∙ c.if-is_symbol.true))); ended = b.ended; no_longer = omega (arith, c.segments.invariant.no_longer, b.shorter, c.in_ok-segment.ensures.found.behind.shorter) }

pub returns-in_err-expect_symbol-clause-refused : goal.returns-in_err-expect_symbol-clause-refused
returns-in_err-expect_symbol-clause-refused c = if_err_left _ _ _ c.from_residual-in_err-expect_symbol.ensures.1 (failing {ds = []} (then (valued {ws = []} (adding {ds = due.segments_more c.args.kind ∷ due.symbol symbols.Semicolon ∷ []} {ws = []} c.segments.invariant.run c.in_ok-segment.ensures.found) (ap due.declared (sym (one_decl _ _ _ c.in_ok-push.ensures.items)))) (skips_it c.first_of.ensures (due.segments_more c.args.kind) {ds = (due.symbol symbols.Semicolon ∷ [])} (segments_off c.args.kind c.first_of.ensures (sym c.is_symbol.ensures ∙ c.if-is_symbol.false)))) c.in_err-expect_symbol.ensures.fails)

pub returns-else-is_symbol-clause-found : goal.returns-else-is_symbol-clause-found
returns-else-is_symbol-clause-found c = listed (past {ds = []} (then (valued {ws = []} (adding {ds = due.segments_more c.args.kind ∷ due.symbol symbols.Semicolon ∷ []} {ws = []} c.segments.invariant.run c.in_ok-segment.ensures.found) (ap due.declared (sym (one_decl _ _ _ c.in_ok-push.ensures.items)))) (skips_it c.first_of.ensures (due.segments_more c.args.kind) {ds = (due.symbol symbols.Semicolon ∷ [])} (segments_off c.args.kind c.first_of.ensures (sym c.is_symbol.ensures ∙ c.if-is_symbol.false)))) c.in_ok-expect_symbol.ensures.passes) refl (rest_within c.segments.invariant.no_longer (rest_of c.in_ok-segment.ensures.found.behind c.in_ok-expect_symbol.ensures.passes.behind))
