-- The refusals as they are printed: the letter and the number of each.
use Rattle.std.specs.Prelude.{◌≡◌, ℕ, List, [], ◌∷◌, map, codes}
use Rattle.algol_tree.specs.declared.refusal.Code.{Code}
use Rattle.algol_tree.specs.declared.refusal.Code.TheVariants.{BadCharacter, LineTooLong, OpenString, NumberTooWide, NameTooLong, Unexpected, TooDeep, TextAfterEnd, UnknownName, DeclaredTwice, TooManyLevels, TooManyCells, TooManyProcedures, SegmentTooLong, WrongType, WrongCount, NotAssignable, WriteList, LineTooWide, BadLabel}
use Rattle.algol_tree.specs.declared.table.TheConstants.{TABLE}

-- in the order in which the refusals are declared
abbrev pub printed : List (Code × List ℕ × ℕ)
printed =
    (BadCharacter, codes "L", 1)
    ∷ (LineTooLong, codes "L", 2)
    ∷ (OpenString, codes "L", 3)
    ∷ (NumberTooWide, codes "L", 4)
    ∷ (NameTooLong, codes "L", 5)
    ∷ (Unexpected, codes "S", 1)
    ∷ (TooDeep, codes "S", 2)
    ∷ (TextAfterEnd, codes "S", 3)
    ∷ (UnknownName, codes "N", 1)
    ∷ (DeclaredTwice, codes "N", 2)
    ∷ (TooManyLevels, codes "N", 3)
    ∷ (TooManyCells, codes "N", 4)
    ∷ (TooManyProcedures, codes "N", 5)
    ∷ (SegmentTooLong, codes "N", 6)
    ∷ (WrongType, codes "C", 7)
    ∷ (WrongCount, codes "C", 8)
    ∷ (NotAssignable, codes "C", 9)
    ∷ (WriteList, codes "C", 10)
    ∷ (LineTooWide, codes "C", 11)
    ∷ (BadLabel, codes "C", 12)
    ∷ []

abbrev pub RefusalsAreTold : Type 0
RefusalsAreTold = map (λ row. (row.0, row.1 ∷ [], row.2)) TABLE ≡ printed
