use Rattle.std.proofs.Common.{[], ◌∷◌, ◌++◌, ◌∙◌, ap, sym, get_or}
use Rattle.std.proofs.lemmas.List.{take_more}
use Rattle.b67_explain.proofs.report.copied.Goals as goal

pub lines-preserved : goal.lines-preserved
lines-preserved c =
    let lines = c.args.lines.now in
    c.in_ok-push.ensures.items
    ∙ ap (λ line. c.lines.copy.items ++ line ∷ []) (c.of.ensures ∙ c.in_ok-from_slice.ensures.items ∙ c.bytes.ensures ∙ c.line-item.is)
    ∙ ap (λ xs. xs ++ get_or lines c.lines.line-index c.line-item.result ∷ []) c.lines.invariant
    ∙ sym (take_more lines c.lines.line-index c.line-item.result c.lines-test.true)
