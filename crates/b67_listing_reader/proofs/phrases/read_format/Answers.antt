use Rattle.std.proofs.Common.{◌≡◌, ◌++◌, codes, ap, subst, ◌∙◌}
use Rattle.std.specs.Fmt.{decimal}
use Rattle.b67_text.specs.Texts.{StopsAt}
use Rattle.b67_listing_reader.proofs.OneFormat.{format_head}
use Rattle.b67_listing_reader.proofs.Heads.{no_format_head}
use Rattle.b67_listing_reader.proofs.phrases.read_format.Goals as goal

pub returns-in_default : goal.returns-in_default
returns-in_default c =
    let head : c.as_slice.result.now ≡ format_head c.args.number =
    c.as_slice.ensures.value ∙ c.in_ok-extend_from_slice.ensures.items
    ∙ ap (λ t. t ++ codes " <") (c.in_ok-push_number.ensures ∙ ap (λ t. t ++ (codes "FORMAT " ++ decimal c.args.number)) c.new-head.ensures.items) in
    no_format_head c.args.number c.args.line.now c.in_default.field-0.byte
    (subst (λ t. StopsAt (λ text. text ≡ t) c.args.line.now 0 c.in_default.field-0.byte) head c.in_default.ensures.refused)
