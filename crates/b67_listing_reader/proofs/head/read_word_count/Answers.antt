use Rattle.std.proofs.Common.{◌≡◌, ◌∙◌, ◌++◌, ◌∷◌, [], length, ap, arith}
use Rattle.b67_listing_reader.proofs.Heads.{count_stops, count_ends}
use Rattle.b67_listing_reader.proofs.head.read_word_count.Goals as goal

pub returns-in_default : goal.returns-in_default
returns-in_default c =
    let ended = c.as_slice.result.now in
    let is : ended ≡ c.args.digits.now ++ 10 ∷ [] = c.as_slice.ensures.value ∙ c.in_ok-push.ensures.items ∙ ap (λ ds. ds ++ 10 ∷ []) c.in_ok-ended.ensures.items in
    count_stops c.args.digits.now ended c.in_default.field-0.byte is c.in_default.ensures.refused

pub returns-then-next-len : goal.returns-then-next-len
returns-then-next-len c =
    let ended = c.as_slice.result.now in
    let is : ended ≡ c.args.digits.now ++ 10 ∷ [] = c.as_slice.ensures.value ∙ c.in_ok-push.ensures.items ∙ ap (λ ds. ds ++ 10 ∷ []) c.in_ok-ended.ensures.items in
    count_ends c.args.digits.now ended c.in-Ok.count c.in-Ok.next is c.in-Ok.ensures.read.0 c.in-Ok.ensures.read.1
    (λ e. omega (arith, e, c.if-next-len.true, c.len.ensures, c.push.new.self.ok.0, ap length c.as_slice.ensures.value))
