use Rattle.std.proofs.Common.{◌≡◌, ◌≤◌, ◌-◌, false}
use Rattle.b67_teller.specs.Books.{IsBook, BookGrows, HasCause, AreLimitsTold}
use Rattle.b67_teller.proofs.telling.tell_limits.Given as goal

abbrev pub invariant-limits : goal.invariant-limits
invariant-limits g l =
    (g.T.Walker.code l.teller ≡ g.T.Walker.code l.fn.teller) × (l.at ≤ l.to) × IsBook g.T.Teller.Explained (g.T.Walker.code l.fn.teller) l.book
    × BookGrows l.fn.book l.book × (l.book.cut ≡ false → AreLimitsTold (g.T.Walker.code l.fn.teller) l.found l.book.told.items l.at)
    × HasCause g.T.Teller.Explained (g.T.Walker.code l.fn.teller) l.found l.book

abbrev pub decreases-limits : goal.decreases-limits
decreases-limits g l = l.to - l.at
