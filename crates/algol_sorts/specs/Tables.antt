-- Tables of names.
use Rattle.std.specs.Prelude.{ℕ, ◌+◌, ◌*◌, ◌%◌, ◌^◌, List, [], ◌∷◌, Option}
use Rattle.std.specs.Ordering.{nat_cmp, ordering_then}
use Rattle.std.specs.Cmp.Lexicographic.{slice_cmp}
use Rattle.std.specs.BTreeMap.{BTreeMap, get_by}
use Rattle.algol_sorts.specs.declared.key.Key.{Key}
use Rattle.algol_sorts.specs.declared.sort.Sort.{Sort}

-- bytes as a number modulo 2 ^ 64, those before them being worth so much already
abbrev pub end_after : ℕ → List ℕ → ℕ
end_after end [] = end
end_after end (byte ∷ bytes) = end_after ((end * 256 % 2 ^ 64 + byte) % 2 ^ 64) bytes

-- the last eight bytes of a name as one number
abbrev pub end_of : List ℕ → ℕ
end_of name = end_after 0 name

-- what a table has under a name
abbrev pub sort_named : {X : Type 0} → BTreeMap Key X → List ℕ → Option X
sort_named table name = get_by (λ k. ordering_then (nat_cmp (end_of name) k.end) (slice_cmp nat_cmp name k.bytes.now)) table

-- sorts by names
abbrev pub SortTable : Type 0
SortTable = BTreeMap Key Sort
