-- What looks and tests keep to, one after another.
use Rattle.std.proofs.Common.{◌≡◌, refl, Bool, true, false, Option, Some, None, cond, take, drop}
use Rattle.b67_control.specs.declared.Registers.{Registers}
use Rattle.b67_ops.specs.declared.Operator.{Operator}
use Rattle.b67_store.specs.Store.{word_at, words_of}
use Rattle.b67_table.specs.declared.InterruptKind.{InterruptKind}
use Rattle.b67_table.specs.Image.{Image}
use Rattle.b67_table.specs.Look.{Look, found, stops, at, several, ◌>->◌, there_or}
use Rattle.b67_table.specs.Questions.{told}
use Rattle.b67_table.specs.Program.{Test, answer, interrupt, fault, ask, see, ◌>>=◌}
use Rattle.b67_footprints.specs.Reaching.{OperatorReaches}
use Rattle.b67_footprints.specs.Keeping.{TestKeeps}

-- whatever is found
abbrev pub Any : {A : Type 0} → A → Type 0
Any a = Unit {0}

module _ (img : Image) (op : Operator) (r : Registers) where
  -- a look looks only at what it may, and what it finds has the property
  abbrev pub LookKeeps : {A : Type 0} → (A → Type 0) → Look A → Type 0
  LookKeeps P (found a) = P a
  LookKeeps P (stops kind) = Unit {0}
  LookKeeps P (at x more) = OperatorReaches img op r x × LookKeeps P (more (word_at img.stacks x))
  LookKeeps P (several x n more) = (x.stack ≡ r.stack) × LookKeeps P (more (take n (drop x.at (words_of img.stacks x.stack))))

  pub look_then : {A B : Type 0} (P : A → Type 0) (Q : B → Type 0) (l : Look A) (f : A → Look B) → LookKeeps P l → ((a : A) → P a → LookKeeps Q (f a))
      → LookKeeps Q (l >-> f)
  look_then P Q (found a) f s k = k a s
  look_then P Q (stops kind) f s k = tt
  look_then P Q (at x more) f s k = (s.0, look_then P Q (more (word_at img.stacks x)) f s.1 k)
  look_then P Q (several x n more) f s k = (s.0, look_then P Q (more (take n (drop x.at (words_of img.stacks x.stack)))) f s.1 k)

  pub see_then : {A B : Type 0} (P : A → Type 0) (Q : B → Type 0) (l : Look A) (f : A → Test B) → LookKeeps P l
      → ((a : A) → P a → TestKeeps img op r Q (f a)) → TestKeeps img op r Q (see l >>= f)
  see_then P Q (found a) f s k = k a s
  see_then P Q (stops kind) f s k = tt
  see_then P Q (at x more) f s k = (s.0, see_then P Q (more (word_at img.stacks x)) f s.1 k)
  see_then P Q (several x n more) f s k = (s.0, see_then P Q (more (take n (drop x.at (words_of img.stacks x.stack)))) f s.1 k)

  pub test_then : {A B : Type 0} (P : A → Type 0) (Q : B → Type 0) (t : Test A) (f : A → Test B) → TestKeeps img op r P t
      → ((a : A) → P a → TestKeeps img op r Q (f a)) → TestKeeps img op r Q (t >>= f)
  test_then P Q (answer a) f s k = k a s
  test_then P Q (interrupt kind) f s k = tt
  test_then P Q (fault kind) f s k = tt
  test_then P Q (ask q more) f s k = (s.0, test_then P Q (more (told img q)) f s.1 k)

  pub look_by : {A : Type 0} (P : A → Type 0) (b : Bool) (l m : Look A) → LookKeeps P l → LookKeeps P m → LookKeeps P (cond b l m)
  look_by P true l m s t = s
  look_by P false l m s t = t

  pub test_by : {A : Type 0} (Q : A → Type 0) (b : Bool) (t u : Test A) → TestKeeps img op r Q t → TestKeeps img op r Q u → TestKeeps img op r Q (cond b t u)
  test_by Q true t u s k = s
  test_by Q false t u s k = k

  -- a value that must be there
  pub look_there : {A : Type 0} (P : A → Type 0) (kind : InterruptKind) (o : Option A) → ((a : A) → o ≡ Some a → P a) → LookKeeps P (there_or kind o)
  look_there P kind None k = tt
  look_there P kind (Some a) k = k a refl

  -- only a look
  pub see_kept : {A : Type 0} (P : A → Type 0) (l : Look A) → LookKeeps P l → TestKeeps img op r P (see l)
  see_kept P (found a) s = s
  see_kept P (stops kind) s = tt
  see_kept P (at x more) s = (s.0, see_kept P (more (word_at img.stacks x)) s.1)
  see_kept P (several x n more) s = (s.0, see_kept P (more (take n (drop x.at (words_of img.stacks x.stack)))) s.1)
