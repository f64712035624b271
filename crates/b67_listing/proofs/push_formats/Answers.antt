use Rattle.std.proofs.Common.{[], ◌∷◌, ◌++◌, ◌∙◌, ap, get_or}
use Rattle.b67_listing.specs.Formats.{format_line}
use Rattle.b67_listing.proofs.push_formats.Goals as goal
use Rattle.b67_listing.proofs.Numbers.{formats_more}

pub formats-preserved : goal.formats-preserved
formats-preserved c =
    let formats = c.deref-format-items.result.now in
    let format = get_or formats c.formats.number c.format-item.result in
    c.in_ok-push.ensures.items
    ∙ ap (λ line. c.formats.lines.items ++ line ∷ []) (c.in_ok-format_line.ensures ∙ ap (λ f. format_line (c.formats.number, f)) c.format-item.is)
    ∙ ap (λ lines. lines ++ format_line (c.formats.number, format) ∷ []) c.formats.invariant
    ∙ formats_more c.args.lines.now.items formats c.formats.number c.format-item.result c.formats-test.true
