use Rattle.std.proofs.Common.{◌≡◌, ◌∙◌, ◌-◌, [], ◌∷◌, ◌++◌, Some, vec_len, length, get_or, take, drop, ap, sym, subst, arith}
use Rattle.std.proofs.lemmas.List.{take_all, length-drop}
use Rattle.b67_listing_reader.specs.Reading.{IsFirstOther, IsRelisted}
use Rattle.b67_listing_reader.proofs.Relisting.{one_segment, one_listable, is_relisted}
use Rattle.b67_listing_reader.proofs.body.relisted.Goals as goal

pub listing-requires : goal.listing-requires
listing-requires c =
    let segment = c.in_ok-finish.field-0 in
    one_listable c.args.builder.operators segment _ c.requires c.in_ok-finish.ensures
    (one_segment c.of.result c.new-segments.result.items c.of-2.result segment (c.of.ensures ∙ c.in_ok-push.ensures.items) c.new-segments.ensures.items (c.of-2.ensures ∙ c.new.ensures.items))

pub returns : goal.returns
returns c =
    let segment = c.in_ok-finish.field-0 in
    let segments : c.of.result ≡ segment ∷ [] = c.of.ensures ∙ c.in_ok-push.ensures.items ∙ ap (λ ss. ss ++ segment ∷ []) c.new-segments.ensures.items in
    let one = one_segment c.of.result c.new-segments.result.items c.of-2.result segment (c.of.ensures ∙ c.in_ok-push.ensures.items) c.new-segments.ensures.items (c.of-2.ensures ∙ c.new.ensures.items) in
    let items : c.items_mut.result.now.items ≡ segment ∷ [] = c.items_mut.ensures.shows ∙ segments in
    let count : vec_len c.items_mut.result.now ≡ 1 = omega (arith, ap length items, c.items_mut.result.now.ok.0) in
    let popped = c.pop.ensures.value segment (omega arith) in
    let last : get_or c.items_mut.result.now.items (vec_len c.items_mut.result.now - 1) segment ≡ segment =
    ap (λ n. get_or c.items_mut.result.now.items (n - 1) segment) count ∙ ap (λ ss. get_or ss 0 segment) items in
    let both : Some c.unwrap.result ≡ Some segment = sym c.unwrap.ensures ∙ popped ∙ ap Some last in
    let same : c.unwrap.result ≡ segment = cc in
    let listed = c.deref.result.now in
    let behind : take (length listed - 1) (drop 1 listed) ≡ drop 1 listed = take_all (length listed - 1) (drop 1 listed) (omega (arith, length-drop 1 listed)) in
    subst (λ s. IsRelisted c.args.builder.operators c.args.lines.now s c.first_other-same.result) (sym same)
    (is_relisted c.args.builder.operators segment _ c.in_ok-listed.listed c.args.lines.now c.first_other-same.result c.in_ok-finish.ensures one c.in_ok-listed.ensures
    (subst (λ ls. IsFirstOther c.args.lines.now ls c.first_other-same.result) (behind ∙ ap (λ ls. drop 1 ls) (c.deref.ensures.value ∙ c.items.ensures)) c.first_other-same.ensures))
