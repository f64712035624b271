use Rattle.std.proofs.Common.{◌∙◌, ◌+◌, ◌<◌, List, ◌∷◌, drop, map, length, refl, sym, ap, arith}
use Rattle.std.proofs.lemmas.List.{drop_more}
use Rattle.algol_tree.specs.Image.{body, decls, stmts}
use Rattle.b67_emit_text.specs.declared.texts.Procedure.{Procedure}
use Rattle.b67_emit_text.specs.Texts.{outer_text, text_of_procedure}
use Rattle.b67_emit_text.proofs.Targeted.{adds_as, first_step, small_as, texts_step}
use Rattle.b67_emit_text.proofs.TextProgram.{behind, outer_decls, outer_level, outer_stmts, text_there, texts_found}
use Rattle.b67_emit_text.proofs.targets.targets_of.Goals as goal

pub add_text-requires-clause-low : goal.add_text-requires-clause-low
add_text-requires-clause-low c =
    let b = c.args.body.now in
    let ds = c.deref.result.now in
    let ss = c.deref-2.result.now in
    (small_as (outer_text (body b)) 2 (decls ds) (stmts ss) (outer_level b) (outer_decls b ds (c.deref.ensures.value ∙ c.items.ensures)) (outer_stmts b ss (c.deref-2.ensures.value ∙ c.items-2.ensures))
    (c.requires.small 0 (outer_text (body b)) refl)).0

pub add_text-requires-clause-few : goal.add_text-requires-clause-few
add_text-requires-clause-few c =
    let b = c.args.body.now in
    let ds = c.deref.result.now in
    let ss = c.deref-2.result.now in
    (small_as (outer_text (body b)) 2 (decls ds) (stmts ss) (outer_level b) (outer_decls b ds (c.deref.ensures.value ∙ c.items.ensures)) (outer_stmts b ss (c.deref-2.ensures.value ∙ c.items-2.ensures))
    (c.requires.small 0 (outer_text (body b)) refl)).1

pub procedures-init : goal.procedures-init
procedures-init c spot =
    let b = c.args.body.now in
    let ds = c.deref.result.now in
    let ss = c.deref-2.result.now in
    let t = outer_text (body b) in
    let ps = c.within_body.new.to.items in
    let found = texts_found (body b) c.new-procedures.result.items ps ps c.new-procedures.ensures.items c.in_ok-within_body.ensures refl in
    let adds = adds_as t 2 (decls ds) (stmts ss) (outer_level b) (outer_decls b ds (c.deref.ensures.value ∙ c.items.ensures)) (outer_stmts b ss (c.deref-2.ensures.value ∙ c.items-2.ensures)) 0
    c.new-table.result c.add_text.new.table c.in_ok-add_text.ensures in
    first_step t _ (map text_of_procedure ps) c.new-table.result c.add_text.new.table c.new-table.ensures.empty adds found spot

pub add_text-requires-in-procedures-clause-low : goal.add_text-requires-in-procedures-clause-low
add_text-requires-in-procedures-clause-low c =
    let b = c.args.body.now in
    let ps = c.within_body.new.to.items in
    let p = c.index-procedure.result.now in
    let i = c.procedures.number in
    let found = texts_found (body b) c.new-procedures.result.items ps ps c.new-procedures.ensures.items c.in_ok-within_body.ensures refl in
    let within : i < length ps = omega (arith, c.procedures-test.true, c.len-number-end.ensures, c.within_body.new.to.ok.0) in
    (small_as (text_of_procedure p) p.level (decls c.parts.result.0.now) (stmts c.parts.result.1.now) refl c.parts.ensures.decls c.parts.ensures.stmts
    (c.requires.small (i + 1) (text_of_procedure p) (behind (body b) i (text_of_procedure p) (text_there (body b) ps found i p within c.index-procedure.ensures)))).0

pub add_text-requires-in-procedures-clause-few : goal.add_text-requires-in-procedures-clause-few
add_text-requires-in-procedures-clause-few c =
    let b = c.args.body.now in
    let ps = c.within_body.new.to.items in
    let p = c.index-procedure.result.now in
    let i = c.procedures.number in
    let found = texts_found (body b) c.new-procedures.result.items ps ps c.new-procedures.ensures.items c.in_ok-within_body.ensures refl in
    let within : i < length ps = omega (arith, c.procedures-test.true, c.len-number-end.ensures, c.within_body.new.to.ok.0) in
    (small_as (text_of_procedure p) p.level (decls c.parts.result.0.now) (stmts c.parts.result.1.now) refl c.parts.ensures.decls c.parts.ensures.stmts
    (c.requires.small (i + 1) (text_of_procedure p) (behind (body b) i (text_of_procedure p) (text_there (body b) ps found i p within c.index-procedure.ensures)))).1

pub procedures-preserved : goal.procedures-preserved
procedures-preserved c spot =
    let ps = c.within_body.new.to.items in
    let p = c.index-procedure.result.now in
    let i = c.procedures.number in
    let within : i < length ps = omega (arith, c.procedures-test.true, c.len-number-end.ensures, c.within_body.new.to.ok.0) in
    let next = ap (λ (l : List Procedure). map text_of_procedure l) (drop_more ps i p within ∙ ap (λ (x : Procedure). x ∷ drop (i + 1) ps) (sym c.index-procedure.ensures)) in
    texts_step (i + 1) (text_of_procedure p) (map text_of_procedure (drop i ps)) (map text_of_procedure (drop (i + 1) ps)) c.procedures.table c.add_text-in-procedures.new.table next
    (adds_as (text_of_procedure p) p.level (decls c.parts.result.0.now) (stmts c.parts.result.1.now) refl c.parts.ensures.decls c.parts.ensures.stmts (i + 1) c.procedures.table c.add_text-in-procedures.new.table
    c.in_ok-add_text-2.ensures) spot
    ∙ c.procedures.invariant spot
