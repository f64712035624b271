use Rattle.std.proofs.Common.{◌∙◌, ◌+◌, ◌++◌, ◌∷◌, [], List, drop, map, append_assoc, append-nil, ap, sym}
use Rattle.std.proofs.lemmas.List.{drop_all, drop_more}
use Rattle.std.proofs.lemmas.Result.{IfOk-weaker}
use Rattle.algol_tree.specs.declared.token.Spot.{Spot}
use Rattle.b67_emit_text.specs.declared.texts.Procedure.{Procedure}
use Rattle.b67_emit_text.specs.Texts.{places_of, text_of_procedure}
use Rattle.b67_emit_text.proofs.texts.places_of_names.Goals as goal

pub procedures-init : goal.procedures-init
procedures-init c = ap (λ (l : List Spot). l ++ places_of (map text_of_procedure c.args.procedures.now)) c.new-spots.ensures.items

pub procedures-preserved : goal.procedures-preserved
procedures-preserved c =
    let ps = c.args.procedures.now in
    let i = c.procedures.procedure-index in
    let p = c.procedure-item.result in
    let rest = places_of (map text_of_procedure (drop (i + 1) ps)) in
    let before = c.procedures.spots.items in
    let next = drop_more ps i p c.procedures-test.true ∙ ap (λ (x : Procedure). x ∷ drop (i + 1) ps) (sym c.procedure-item.is) in
    ap (λ (l : List Spot). l ++ rest) c.in_ok-push.ensures.items ∙ append_assoc before (p.heading.now.name.spot ∷ []) rest
    ∙ ap (λ (l : List Procedure). before ++ places_of (map text_of_procedure l)) (sym next) ∙ c.procedures.invariant

pub returns : goal.returns
returns c =
    let before = c.procedures.spots.items in
    let none = drop_all c.procedures.procedure-index c.args.procedures.now c.procedures-test.false in
    IfOk-weaker c.of.result _ _
    (λ places is. is ∙ sym (append-nil before) ∙ ap (λ (l : List Procedure). before ++ places_of (map text_of_procedure l)) (sym none) ∙ c.procedures.invariant)
    c.of.ensures
