-- What looks at stacks and tests of images find, one after another.
use Rattle.std.proofs.Common.{◌≡◌, refl, Bool, true, false, Option, Some, None, Result, Ok, Err, cond, take, drop}
use Rattle.b67_word.specs.Word.{Word}
use Rattle.b67_store.specs.Store.{Stacks, word_at, words_of}
use Rattle.b67_table.specs.declared.InterruptKind.{InterruptKind}
use Rattle.b67_table.specs.Image.{Image}
use Rattle.b67_table.specs.Look.{Look, found, stops, at, several, ◌>->◌, look_seen, there_or, read_as}
use Rattle.b67_table.specs.Questions.{told}
use Rattle.b67_table.specs.Program.{Test, answer, interrupt, fault, ask, asked, see, ◌>>=◌}
use Rattle.b67_table.proofs.Keeping.{Gives}

-- what is found has the property
abbrev pub Found : {A : Type 0} → (A → Type 0) → Result A InterruptKind → Type 0
Found P (Ok a) = P a
Found P (Err kind) = Unit {0}

pub look_then : {A B : Type 0} (st : Stacks) (P : A → Type 0) (Q : B → Type 0) (l : Look A) (f : A → Look B) → Found P (look_seen st l)
    → ((a : A) → P a → Found Q (look_seen st (f a))) → Found Q (look_seen st (l >-> f))
look_then st P Q (found a) f p k = k a p
look_then st P Q (stops kind) f p k = tt
look_then st P Q (at place more) f p k = look_then st P Q (more (word_at st place)) f p k
look_then st P Q (several place n more) f p k = look_then st P Q (more (take n (drop place.at (words_of st place.stack)))) f p k

pub see_then : {A B : Type 0} (img : Image) (P : A → Type 0) (Q : B → Type 0) (l : Look A) (f : A → Test B) → Found P (look_seen img.stacks l)
    → ((a : A) → P a → Gives Q (asked img (f a))) → Gives Q (asked img (see l >>= f))
see_then img P Q (found a) f p k = k a p
see_then img P Q (stops kind) f p k = tt
see_then img P Q (at place more) f p k = see_then img P Q (more (word_at img.stacks place)) f p k
see_then img P Q (several place n more) f p k = see_then img P Q (more (take n (drop place.at (words_of img.stacks place.stack)))) f p k

pub test_then : {A B : Type 0} (img : Image) (P : A → Type 0) (Q : B → Type 0) (t : Test A) (f : A → Test B) → Gives P (asked img t)
    → ((a : A) → P a → Gives Q (asked img (f a))) → Gives Q (asked img (t >>= f))
test_then img P Q (answer a) f p k = k a p
test_then img P Q (interrupt kind) f p k = tt
test_then img P Q (fault kind) f p k = tt
test_then img P Q (ask q more) f p k = test_then img P Q (more (told img q)) f p k

pub see_gives : {A : Type 0} (img : Image) (P : A → Type 0) (l : Look A) → Found P (look_seen img.stacks l) → Gives P (asked img (see l))
see_gives img P (found a) p = p
see_gives img P (stops kind) p = tt
see_gives img P (at place more) p = see_gives img P (more (word_at img.stacks place)) p
see_gives img P (several place n more) p = see_gives img P (more (take n (drop place.at (words_of img.stacks place.stack)))) p

pub there_found : {A : Type 0} (st : Stacks) (P : A → Type 0) (kind : InterruptKind) (o : Option A) → ((a : A) → o ≡ Some a → P a)
    → Found P (look_seen st (there_or kind o))
there_found st P kind None k = tt
there_found st P kind (Some a) k = k a refl

pub found_by : {A : Type 0} (st : Stacks) (P : A → Type 0) (b : Bool) (l m : Look A) → (b ≡ true → Found P (look_seen st l)) → (b ≡ false → Found P (look_seen st m))
    → Found P (look_seen st (cond b l m))
found_by st P true l m p q = p refl
found_by st P false l m p q = q refl

pub gives_by : {A : Type 0} (img : Image) (P : A → Type 0) (b : Bool) (t u : Test A) → (b ≡ true → Gives P (asked img t)) → (b ≡ false → Gives P (asked img u))
    → Gives P (asked img (cond b t u))
gives_by img P true t u p q = p refl
gives_by img P false t u p q = q refl

pub anything_found : {A : Type 0} (e : Result A InterruptKind) → Found (λ (a : A). Unit {0}) e
anything_found (Ok a) = tt
anything_found (Err kind) = tt

-- a word that is read is there
pub record Read {A : Type 0} (kind : Word → Option A) (o : Option Word) (a : A) : Type 0 where
  pub word : Word
  pub there : o ≡ Some word
  pub is : kind word ≡ Some a

pub read_is : {A : Type 0} (kind : Word → Option A) (o : Option Word) (a : A) → read_as kind o ≡ Some a → Read kind o a
read_is kind None a e = cc
read_is kind (Some w) a e = record { word = w; there = refl; is = e }
