use Rattle.b67_stack_text.proofs.lines.+push_digits.Goals as goal
use Rattle.b67_listing.proofs.Numbers.{digits_more}

pub returns : goal.returns
returns t c =
    digits_more c.args.base c.args.count c.args.number c.digit.result c.args.text.now.items c.push_digits.new.text.items c.push.new.self.items
    c.if-count-eq0.false c.in_ok-push_digits.ensures c.digit.ensures c.in_ok-push.ensures.items
