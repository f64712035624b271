-- What holds of every kind of control word.
use Rattle.std.specs.Prelude.{◌≡◌, ◌≢◌, ℤ, Bool, Option, Some, None}
use Rattle.b67_word.specs.Word.{Word, IsWord, as_whole, as_truth}
use Rattle.b67_control.specs.Kind.{Kind, kind_of}
use Rattle.b67_control.specs.Kind as kind

-- a kind of word is read back as what was packed, and a word that is read is the word of what it is read as
pub record ReadsBack {K : Type 0} (k : Kind) (fits : K → Type 0) (word_of : K → Word) (read : Word → Option K) : Type 0 where
  -- what fits is read back, from a word of 48 bits and a tag
  pub back : (x : K) → fits x → read (word_of x) ≡ Some x
  pub is_word : (x : K) → fits x → IsWord (word_of x)
  -- what is read fits, and packs to the word again: so a stray bit or another tag is None
  pub only : (w : Word) (x : K) → read w ≡ Some x → w ≡ word_of x
  pub holds : (w : Word) (x : K) → read w ≡ Some x → fits x
  -- only a word of this kind is read
  pub kind : (w : Word) (x : K) → read w ≡ Some x → kind_of w ≡ k
  pub other : (w : Word) → kind_of w ≢ k → read w ≡ None

-- only an operand is read as a whole number or as a truth value
pub record OperandsAreApart : Type 0 where
  pub whole_kind : (w : Word) (z : ℤ) → as_whole w ≡ Some z → kind_of w ≡ kind.operand
  pub whole_other : (w : Word) → kind_of w ≢ kind.operand → as_whole w ≡ None
  pub truth_kind : (w : Word) (b : Bool) → as_truth w ≡ Some b → kind_of w ≡ kind.operand
  pub truth_other : (w : Word) → kind_of w ≢ kind.operand → as_truth w ≡ None
