use Rattle.std.proofs.Common.{◌≡◌, ◌++◌, ◌∷◌, [], codes, ap, subst, ◌∙◌}
use Rattle.std.specs.Fmt.{decimal}
use Rattle.b67_text.specs.Texts.{StopsAt}
use Rattle.b67_listing_reader.proofs.Heads.{segment_head, no_head}
use Rattle.b67_listing_reader.proofs.head.read_head.Goals as goal

pub returns : goal.returns
returns c =
    let head : c.as_slice.result.now ≡ segment_head c.args.number =
    c.as_slice.ensures.value ∙ c.in_ok-push.ensures.items
    ∙ ap (λ t. t ++ 32 ∷ []) (c.in_ok-push_number.ensures ∙ ap (λ t. t ++ (codes "SEGMENT " ++ decimal c.args.number)) c.new-head.ensures.items) in
    no_head c.args.number c.args.line.now c.in-Err.field-0.byte (subst (λ t. StopsAt (λ text. text ≡ t) c.args.line.now 0 c.in-Err.field-0.byte) head c.in-Err.ensures.refused)
