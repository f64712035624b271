-- Declarations of the innermost block, one after the other.
use Rattle.std.proofs.Common.{◌≡◌, ℕ, ◌+◌, List, ◌∷◌, length, ap, ◌∙◌}
use Rattle.std.specs.Prelude.{min}
use Rattle.algol_tree.specs.Sorts.{Declared}
use Rattle.algol_tree.specs.Surroundings.{Surroundings}
use Rattle.algol_tree.specs.Cells.{level_at}
use Rattle.algol_known.specs.declared.known.Entry.{Entry}
use Rattle.algol_known.specs.declared.known.Seen.{Seen}
use Rattle.algol_known.specs.declared.known.Seen.TheVariants as seens
use Rattle.algol_known.specs.declared.around.Around.{Around}
use Rattle.algol_known.specs.Looking.{level_within}
use Rattle.algol_known.specs.Seeing.{Declares, IsEntry, Sees}
use Rattle.algol_known.specs.Widening.{Widens}

pub widens_then : (k l m : Around) (f g : Surroundings → Surroundings) → Widens k l f → Widens l m g → Widens k m (λ a. g (f a))
widens_then k l m f g x y =
    record {
      outer = y.outer ∙ x.outer;
      procedures = y.procedures ∙ x.procedures;
      typed = y.typed ∙ x.typed;
      before = λ a s. y.before a (x.before a s);
      sees = λ a s. y.sees (f a) (x.sees a s);
      holds = λ a s h. y.holds (f a) (x.sees a s) (x.holds a s h);
    }

-- one more declaration
pub widens_one : (k m : Around) (name : List ℕ) (entry : Entry) (d : Surroundings → Declared) → Declares k m name entry → m.outer ≡ k.outer →
    m.procedures ≡ k.procedures → m.innermost.typed ≡ k.innermost.typed →
    ((a : Surroundings) → Sees k seens.BeforeDeclarations a → Sees m seens.BeforeDeclarations a) → ((a : Surroundings) → (d a).name ≡ name) →
    ((a : Surroundings) → (d a).block ≡ a.block) → ((a : Surroundings) → Sees k seens.All a → IsEntry k.procedures.items entry (d a)) →
    Widens k m (λ a. record a { known = d a ∷ a.known })
widens_one k m name entry d declares o p t before named in_block is =
    record {
      outer = o;
      procedures = p;
      typed = t;
      before = before;
      sees = λ a s. declares.sees a (d a) s (named a) (is a s);
      holds = λ a s h. declares.holds a (d a) h (named a) (in_block a) (is a s);
    }

pub level_here : (k : Around) (seen : Seen) (a : Surroundings) → Sees k seen a → level_within k ≡ min (level_at a.depth) 255
level_here k seen a s = ap (λ z. min (z + 2) 255) s.depth
