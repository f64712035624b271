-- What makes a code faithful to a source: images that picture worlds, from the first one on, through every operator.
use Rattle.std.specs.Prelude.{◌≡◌, ℕ, ◌+◌, ◌≤◌, true, Some}
use Rattle.b67_letters.specs.Letters.{letter}
use Rattle.algol_tree.specs.Plain.{PProgram}
use Rattle.algol_tree.specs.Scopes.{scopes_of}
use Rattle.algol_meaning.specs.World.{World}
use Rattle.algol_meaning.specs.Choice.{choice}
use Rattle.algol_meaning.specs.Run.{start}
use Rattle.b67_word.specs.declared.Place.{Place}
use Rattle.b67_control.specs.declared.Registers.{Registers}
use Rattle.b67_segment.specs.declared.code.Code.{Code}
use Rattle.b67_table.specs.Outcome.{gives, limit}
use Rattle.b67_table.specs.Image.{Image}
use Rattle.b67_table.specs.Table.{table, plain}
use Rattle.b67_table.specs.Beginning.{first_image}
use Rattle.b67_table.specs.Ending.{may_act}
use Rattle.b67_table.specs.Runs.{Plains, ProcessActs}
use Rattle.b67_table.specs.Touches.{IsPrivate}
use Rattle.b67_table.specs.Sound.{Lives, OperatorTouches}
use Rattle.b67_letters.specs.Releases.{releases}
use Rattle.b67_faithful.specs.Agreement.{Shows, Fits}
use Rattle.b67_faithful.specs.Faithful.{longest}

-- So many plain operators of a process led to this image. They, with an action after them, are at most as many as the longest segment has
-- syllables.
pub record AreFew (code : Code) (p n : ℕ) (quiet : Image) : Type 0 where
  pub plain : n ≤ longest code.segments
  pub acting : (after : Image) → ProcessActs code p quiet after → n + 1 ≤ longest code.segments

module _ (tree : PProgram) (code : Code) (Pictures : World → Image → Type 0) where
  -- an action of a process of the code is that of the source, releases the same in the same order, and leads to an image of the world after it
  pub record Acted (w : World) (p : ℕ) (quiet after : Image) : Type 0 where
    pub action : letter code quiet p ≡ Some ((choice (scopes_of tree) w p).action)
    pub released : releases code quiet p ≡ (choice (scopes_of tree) w p).released
    pub pictures : Pictures ((choice (scopes_of tree) w p).world) after

  -- the process comes by plain operators to its action, or to the stack limit
  pub data ProcessComes (p : ℕ) (img : Image) : Type 0 where
    acts : {n : ℕ} {quiet after : Image} → Plains code p img n quiet → ProcessActs code p quiet after → ProcessComes p img
    stops : {n : ℕ} {quiet : Image} → Plains code p img n quiet → table code quiet p ≡ limit → ProcessComes p img

  pub record Simulates : Type 0 where
    pub first : Pictures (start (scopes_of tree)) first_image
    pub plain : (w : World) (a b : Image) (p : ℕ) → Pictures w a → plain code a p ≡ true → table code a p ≡ gives b → Pictures w b
    pub act : (w : World) (a b : Image) (p : ℕ) → Pictures w a → may_act a p ≡ true → ProcessActs code p a b → Acted w p a b
    pub come : (w : World) (a : Image) (p : ℕ) → Pictures w a → may_act a p ≡ true → ProcessComes p a
    pub few : (w : World) (a b : Image) (p n : ℕ) → Pictures w a → Plains code p a n b → AreFew code p n b
    pub shows : (w : World) (a : Image) → Pictures w a → Shows code w a
    pub fits : (w : World) (a : Image) → Pictures w a → Fits tree code w a
    pub apart : (w : World) (a : Image) → Pictures w a → (p q : ℕ) (x : Place) (r : Registers) → OperatorTouches code a p x → Lives a q r → IsPrivate r x → p ≡ q
