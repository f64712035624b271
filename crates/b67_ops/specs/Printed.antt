-- The operators as they are printed: each with its code and its name.
use Rattle.std.specs.Prelude.{◌≡◌, ℕ, ◌+◌, ◌*◌, List, [], ◌∷◌, map, codes}
use Rattle.b67_ops.specs.declared.BranchKind.TheVariants as branches
use Rattle.b67_ops.specs.declared.PlainKind.TheVariants as plains
use Rattle.b67_ops.specs.declared.table.OperatorKind.{OperatorKind}
use Rattle.b67_ops.specs.declared.table.OperatorKind.TheVariants.{Valc, Namc, Lt8, Lt16, Lt48, Mpcw, Branch, Plain}
use Rattle.b67_ops.specs.declared.table.TheConstants.{TABLE}

-- an operator, the two hexadecimal digits of its code before it, and its name
abbrev pub row : ℕ → ℕ → OperatorKind → List ℕ → OperatorKind × ℕ × List ℕ
row high low kind name = (kind, 16 * high + low, name)

-- in the order in which the operators are declared
abbrev pub printed : List (OperatorKind × ℕ × List ℕ)
printed =
    row 0 0 Valc (codes "VALC")
    ∷ row 4 0 Namc (codes "NAMC")
    ∷ row 11 2 Lt8 (codes "LT8")
    ∷ row 11 3 Lt16 (codes "LT16")
    ∷ row 11 14 Lt48 (codes "LT48")
    ∷ row 11 15 Mpcw (codes "MPCW")
    ∷ row 10 0 (Branch branches.Brfl) (codes "BRFL")
    ∷ row 10 1 (Branch branches.Brtr) (codes "BRTR")
    ∷ row 10 2 (Branch branches.Brun) (codes "BRUN")
    ∷ row 8 0 (Plain plains.Add) (codes "ADD")
    ∷ row 8 1 (Plain plains.Subt) (codes "SUBT")
    ∷ row 8 2 (Plain plains.Mult) (codes "MULT")
    ∷ row 8 4 (Plain plains.Divd) (codes "DIVD")
    ∷ row 8 5 (Plain plains.Idiv) (codes "IDIV")
    ∷ row 8 6 (Plain plains.Rdiv) (codes "RDIV")
    ∷ row 8 8 (Plain plains.Less) (codes "LESS")
    ∷ row 8 9 (Plain plains.Greq) (codes "GREQ")
    ∷ row 8 10 (Plain plains.Grtr) (codes "GRTR")
    ∷ row 8 11 (Plain plains.Lseq) (codes "LSEQ")
    ∷ row 8 12 (Plain plains.Equl) (codes "EQUL")
    ∷ row 8 13 (Plain plains.Neql) (codes "NEQL")
    ∷ row 8 14 (Plain plains.Chsn) (codes "CHSN")
    ∷ row 9 0 (Plain plains.Land) (codes "LAND")
    ∷ row 9 1 (Plain plains.Lor) (codes "LOR")
    ∷ row 9 2 (Plain plains.Lnot) (codes "LNOT")
    ∷ row 9 3 (Plain plains.Leqv) (codes "LEQV")
    ∷ row 10 3 (Plain plains.Exit) (codes "EXIT")
    ∷ row 10 5 (Plain plains.Nxln) (codes "NXLN")
    ∷ row 10 6 (Plain plains.Indx) (codes "INDX")
    ∷ row 10 7 (Plain plains.Retn) (codes "RETN")
    ∷ row 10 11 (Plain plains.Entr) (codes "ENTR")
    ∷ row 10 12 (Plain plains.Eval) (codes "EVAL")
    ∷ row 10 13 (Plain plains.Nxlv) (codes "NXLV")
    ∷ row 10 14 (Plain plains.Mkst) (codes "MKST")
    ∷ row 10 15 (Plain plains.Stff) (codes "STFF")
    ∷ row 11 0 (Plain plains.Zero) (codes "ZERO")
    ∷ row 11 1 (Plain plains.One) (codes "ONE")
    ∷ row 11 4 (Plain plains.Push) (codes "PUSH")
    ∷ row 11 5 (Plain plains.Dlet) (codes "DLET")
    ∷ row 11 6 (Plain plains.Exch) (codes "EXCH")
    ∷ row 11 7 (Plain plains.Dupl) (codes "DUPL")
    ∷ row 11 8 (Plain plains.Stod) (codes "STOD")
    ∷ row 11 9 (Plain plains.Ston) (codes "STON")
    ∷ row 11 12 (Plain plains.Lodt) (codes "LODT")
    ∷ row 11 13 (Plain plains.Load) (codes "LOAD")
    ∷ row 15 14 (Plain plains.Noop) (codes "NOOP")
    ∷ []

abbrev pub OperatorsAreTold : Type 0
OperatorsAreTold = map (λ row. (row.0, row.1, row.2.now)) TABLE ≡ printed
