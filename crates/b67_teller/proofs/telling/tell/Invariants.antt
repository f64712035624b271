use Rattle.std.proofs.Common.{◌≡◌, ◌≤◌, ◌-◌, length, false}
use Rattle.b67_teller.specs.Books.{IsBook, HasCause, AreLimitsTold}
use Rattle.b67_teller.proofs.Booking.{AreStatesTold}
use Rattle.b67_teller.proofs.telling.tell.Given as goal

-- the states before this place and the limits before this place are told
abbrev pub invariant-states : goal.invariant-states
invariant-states g l =
    (g.T.Walker.code l.teller ≡ g.T.Walker.code l.fn.teller) × (l.at ≤ length l.found.limits.items) × (l.place ≤ length l.found.states.items)
    × IsBook g.T.Teller.Explained (g.T.Walker.code l.fn.teller) l.book
    × (l.book.cut ≡ false → AreLimitsTold (g.T.Walker.code l.fn.teller) l.found l.book.told.items l.at)
    × (l.book.cut ≡ false → AreStatesTold (g.T.Walker.code l.fn.teller) l.found l.book.told.items l.place)
    × HasCause g.T.Teller.Explained (g.T.Walker.code l.fn.teller) l.found l.book

abbrev pub decreases-states : goal.decreases-states
decreases-states g l = length l.found.states.items - l.place
