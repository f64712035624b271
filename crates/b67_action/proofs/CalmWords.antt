-- Operators on words keep the states of all processes.
use Rattle.std.proofs.Common.{ℕ}
use Rattle.b67_control.specs.declared.Registers.{Registers}
use Rattle.b67_letters.proofs.Calm.{Calm, Each, value_calm, load_calm, through_calm, evaluate_calm, store_calm, turn_calm, index_calm, index_and_load_calm, index_mother_calm}
use Rattle.b67_private.specs.declared.operators.WordsRow.{WordsRow}
use Rattle.b67_private.specs.declared.operators.WordsRow.TheVariants as words
use Rattle.b67_private.specs.Actions.{words_program}

module _ (r : Registers) (next : ℕ) where
  pub words_calm : (kind : WordsRow) → Each Calm (words_program kind r next)
  words_calm (words.ValueCall couple) = value_calm r next couple
  words_calm (words.Turn kind target) = turn_calm r next kind target
  words_calm words.Evaluate = evaluate_calm r next
  words_calm words.LoadThrough = through_calm r next
  words_calm words.LoadValue = load_calm r next
  words_calm (words.Store keeps) = store_calm r next keeps
  words_calm words.Index = index_calm r next
  words_calm words.IndexAndLoad = index_and_load_calm r next
  words_calm words.IndexMother = index_mother_calm r next
