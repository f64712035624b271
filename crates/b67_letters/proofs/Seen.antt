-- What a program sees at first, where something is said of what it comes to.
use Rattle.std.proofs.Common.{◌≡◌, refl, ℕ, Result, Ok, Err, take, drop}
use Rattle.b67_store.specs.Store.{word_at, words_of}
use Rattle.b67_table.specs.declared.InterruptKind.{InterruptKind}
use Rattle.b67_table.specs.Effect.{gives}
use Rattle.b67_table.specs.Image.{Image}
use Rattle.b67_table.specs.Look.{Look, found, stops, at, several, look_seen}
use Rattle.b67_table.specs.Program.{◌>>=◌, see, asked, effect_of, Program, Change}
use Rattle.b67_table.proofs.Finding.{Found, see_then}
use Rattle.b67_table.proofs.Keeping.{Gives}

found_self : {A : Type 0} (x : Result A InterruptKind) → Found (λ (a : A). x ≡ Ok a) x
found_self (Ok a) = refl
found_self (Err kind) = tt

-- where all changes are such after what is found, they are such
pub gives_seen : {A : Type 0} (img : Image) (P : Change → Type 0) (l : Look A) (f : A → Program) → ((a : A) → look_seen img.stacks l ≡ Ok a → Gives P (asked img (f a)))
    → Gives P (asked img (see l >>= f))
gives_seen {A} img P l f k = see_then img (λ (a : A). look_seen img.stacks l ≡ Ok a) P l f (found_self (look_seen img.stacks l)) k

-- where the program comes to a new image, something is found, and it comes to it from there
pub record Goes {A : Type 0} (p : ℕ) (img after : Image) (l : Look A) (f : A → Program) : Type 0 where
  pub value : A
  pub is : look_seen img.stacks l ≡ Ok value
  pub comes : effect_of p img (asked img (f value)) ≡ gives after

pub goes : {A : Type 0} (p : ℕ) (img after : Image) (l : Look A) (f : A → Program) → effect_of p img (asked img (see l >>= f)) ≡ gives after → Goes p img after l f
goes p img after (found a) f e = record { value = a; is = refl; comes = e }
goes p img after (stops kind) f e = cc
goes p img after (at place more) f e =
    let g = goes p img after (more (word_at img.stacks place)) f e in record { value = g.value; is = g.is; comes = g.comes }
goes p img after (several place n more) f e =
    let g = goes p img after (more (take n (drop place.at (words_of img.stacks place.stack)))) f e in record { value = g.value; is = g.is; comes = g.comes }
