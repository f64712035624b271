-- What looks at stacks find, one after another, and what a program that sees them does.
use Rattle.std.proofs.Common.{◌≡◌, ap, Ok, []}
use Rattle.b67_store.specs.Store.{Stacks, word_at}
use Rattle.b67_table.specs.Image.{Image}
use Rattle.b67_table.specs.Look.{Look, found, stops, at, several, ◌>->◌, look_seen}
use Rattle.b67_table.specs.Program.{Test, ◌>>=◌, asked, see}
use Rattle.std.specs.Prelude.{take, drop}
use Rattle.b67_store.specs.Store.{words_of}

same_found : {A : Type 0} (x a : A) → look_seen [] (found x) ≡ Ok a → x ≡ a
same_found x a e = cc

-- what is found goes to what comes after
pub then_seen : {A B : Type 0} (stacks : Stacks) (l : Look A) (a : A) (next : A → Look B) → look_seen stacks l ≡ Ok a → look_seen stacks (l >-> next) ≡ look_seen stacks (next a)
then_seen {A} stacks (found x) a next e = ap (λ (y : A). look_seen stacks (next y)) (same_found x a e)
then_seen stacks (stops kind) a next e = cc
then_seen stacks (at place more) a next e = then_seen stacks (more (word_at stacks place)) a next e
then_seen stacks (several place n more) a next e = then_seen stacks (more (take n (drop place.at (words_of stacks place.stack)))) a next e

pub see_found : {A B : Type 0} (img : Image) (l : Look A) (a : A) (next : A → Test B) → look_seen img.stacks l ≡ Ok a → asked img (see l >>= next) ≡ asked img (next a)
see_found {A} img (found x) a next e = ap (λ (y : A). asked img (next y)) (same_found x a e)
see_found img (stops kind) a next e = cc
see_found img (at place more) a next e = see_found img (more (word_at img.stacks place)) a next e
see_found img (several place n more) a next e = see_found img (more (take n (drop place.at (words_of img.stacks place.stack)))) a next e
