-- The row that a flat row is.
use Rattle.std.specs.Prelude.{false}
use Rattle.b67_num.specs.declared.Calculation.TheVariants as calculations
use Rattle.b67_num.specs.declared.Relation.TheVariants as relations
use Rattle.b67_ops.specs.declared.BranchKind.TheVariants.{Brfl, Brtr, Brun}
use Rattle.b67_private.specs.declared.flat.FlatRow.{FlatRow}
use Rattle.b67_private.specs.declared.flat.FlatRow.TheVariants as flats
use Rattle.b67_private.specs.declared.operators.Row.{Row}
use Rattle.b67_private.specs.declared.operators.Row.TheVariants as rows
use Rattle.b67_private.specs.declared.operators.TopRow.TheVariants as tops
use Rattle.b67_private.specs.declared.operators.WordsRow.TheVariants as words
use Rattle.b67_private.specs.declared.rows.Logic.TheVariants as logics

abbrev pub row_from : FlatRow → Row
row_from (flats.Push w) = rows.Push w
row_from flats.Sum = rows.Calculate calculations.Sum
row_from flats.Difference = rows.Calculate calculations.Difference
row_from flats.Product = rows.Calculate calculations.Product
row_from flats.WholeQuotient = rows.Calculate calculations.WholeQuotient
row_from flats.TruncatedQuotient = rows.Calculate calculations.TruncatedQuotient
row_from flats.Remainder = rows.Calculate calculations.Remainder
row_from flats.Less = rows.Compare relations.Less
row_from flats.LessOrEqual = rows.Compare relations.LessOrEqual
row_from flats.Equal = rows.Compare relations.Equal
row_from flats.NotEqual = rows.Compare relations.NotEqual
row_from flats.GreaterOrEqual = rows.Compare relations.GreaterOrEqual
row_from flats.Greater = rows.Compare relations.Greater
row_from flats.BothBits = rows.Combine logics.Both
row_from flats.EitherBits = rows.Combine logics.Either
row_from flats.AgreeingBits = rows.Combine logics.Agreement
row_from flats.Negate = rows.Top tops.Negate
row_from flats.Complement = rows.Top tops.Complement
row_from flats.Drop = rows.Top tops.Drop
row_from flats.Exchange = rows.Top tops.Exchange
row_from flats.Double = rows.Top tops.Double
row_from flats.Stuff = rows.Top tops.Stuff
row_from flats.Mark = rows.Mark
row_from flats.MakeCells = rows.MakeCells
row_from flats.GoOn = rows.GoOn
row_from (flats.Always target) = rows.Branch Brun target
row_from (flats.IfFalse target) = rows.Branch Brfl target
row_from (flats.IfTrue target) = rows.Branch Brtr target
row_from (flats.ValueCall couple) = rows.Words (words.ValueCall couple)
row_from flats.Store = rows.Words (words.Store false)
row_from (flats.Turn target) = rows.Words (words.Turn Brun target)
row_from flats.Index = rows.Words words.Index
row_from (flats.Words kind) = rows.Words kind
row_from flats.Exit = rows.Exit
row_from flats.ReturnValue = rows.ReturnValue
row_from flats.Enter = rows.Enter
