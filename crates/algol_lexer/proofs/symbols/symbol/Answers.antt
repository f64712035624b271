use Rattle.std.proofs.Common.{arith}
use Rattle.algol_lexer.proofs.LexFound.{long_begins, short_begins}
use Rattle.algol_lexer.proofs.symbols.symbol.Goals as goal
use Rattle.algol_lexer.proofs.symbols.symbol.Goals.{then-text-ge2+in_default, else-text-ge2}

-- the first two bytes are a symbol
pub returns-in-Some-clause-found : goal.returns-in-Some-clause-found
returns-in-Some-clause-found c = long_begins c.args.text.now c.in-Some.symbol (omega arith) c.in-Some.ensures.found

-- they are none, or there is one only
pub returns-clause-found : goal.returns-clause-found
returns-clause-found c = short_begins c.args.text.now c.in_ok-symbol.symbol c.requires c.in_ok-symbol.ensures.found
    (λ two. elim c.if-text-ge2.branch [ then-text-ge2+in_default w ↦ w.in_default.ensures.other | else-text-ge2 w ↦ absurd (omega arith) ])
