-- What a tally and a mark hold.
-- A tally is a chain of cells that starts at its name. Each cell names one number's place and the next cell, for good. The tally has the
-- authority for each number, and a mark the other half of one.
use Rattle.std.specs.Prelude.{ℕ, zero, suc, List, [], ◌∷◌}
use base.Stored.{Gv, gnil, gnum, gcons}
use base.Fml.{Fml, fsep, fex, fobs, fauth, fres}

-- what a cell names
unfoldable pub pair : ℕ × ℕ → Gv
pair p = gcons (gnum p.0) (gnum p.1)

-- the cell γ names the place c .0, whose number is n, and the cell c .1, at which the rest begins
abbrev pub cell : ℕ → ℕ → (ℕ → Fml) → ℕ × ℕ → Fml
cell γ n rest c = fsep (fauth γ (pair c)) (fsep (fres γ (pair c)) (fsep (fauth c.0 (gnum n)) (rest c.1)))

-- the chain from γ has these numbers, and its last cell is still open
abbrev pub chain : List ℕ → ℕ → Fml
chain [] γ = fsep (fobs γ gnil) (fauth γ gnil)
chain (n ∷ ns) γ = fex (ℕ × ℕ) (cell γ n (chain ns))

-- what the cell γ names is known, and F holds of it
abbrev pub past : ℕ → (ℕ × ℕ → Fml) → ℕ × ℕ → Fml
past γ F c = fsep (fres γ (pair c)) (F c)

-- the other half of the number at place i of the chain from γ
abbrev pub half : ℕ → ℕ → ℕ → Fml
half zero n γ = fex (ℕ × ℕ) (past γ (λ c. fobs c.0 (gnum n)))
half (suc i) n γ = fex (ℕ × ℕ) (past γ (λ c. half i n c.1))

unfoldable pub tally_owns : ℕ → List ℕ → Fml
tally_owns name numbers = chain numbers name

unfoldable pub mark_owns : ℕ → ℕ → ℕ → Fml
mark_owns name place number = half place number name
