-- The laws of what a part has still to do: it keeps to the text of its block, and it makes the arrays of the block in their order.
use Rattle.std.specs.Prelude.{◌≡◌, ℕ, List, []}
use Rattle.algol_tree.specs.Blocks.{Block}
use Rattle.algol_tree.specs.Scopes.{Scopes}
use Rattle.algol_meaning.specs.Rest.{Item, Rest, Answer}
use Rattle.algol_meaning.specs.Asks.{resume}
use Rattle.algol_meaning.specs.Statements.{settle_items, items_of, items_from}
use Rattle.algol_paths.specs.Blocks.{BlockIsSeen, IsSeenAround, IsInner}
use Rattle.algol_paths.specs.Texts.{InAnswer, InDeclared, InRest}
use Rattle.algol_paths.specs.Arrays.{arrays_to_come, to_make, left_to_make, to_come, all_to_make, all_left_to_make}

-- what a part of the block with this number has still to do keeps to its text
abbrev pub KeepsToText : Scopes → ℕ → Rest → Type 0
KeepsToText sc j r = InRest (BlockIsSeen sc j) (IsInner sc j) (IsSeenAround sc j) r

abbrev pub ItemsKeepToText : Scopes → ℕ → List Item → Type 0
ItemsKeepToText sc j k = InDeclared (BlockIsSeen sc j) (IsInner sc j) (IsSeenAround sc j) k

pub record RestsKeepToTheirText : Type 0 where
  -- after the silent steps of items
  pub settled : (sc : Scopes) (j : ℕ) (k : List Item) → ItemsKeepToText sc j k → KeepsToText sc j (settle_items sc k)
  -- and after an action, whose answer names nothing that is not seen
  pub resumed : (sc : Scopes) (j : ℕ) (r : Rest) (a : Answer) → KeepsToText sc j r → InAnswer (BlockIsSeen sc j) a → KeepsToText sc j (resume sc r a)

pub record ArraysAreMadeInOrder : Type 0 where
  -- after the silent steps of items all arrays among them are still to be made
  pub settled : (sc : Scopes) (j : ℕ) (k : List Item) → ItemsKeepToText sc j k → to_make (settle_items sc k) ≡ arrays_to_come k
  -- and after an action those that it does not make
  pub resumed : (sc : Scopes) (j : ℕ) (r : Rest) (a : Answer) → KeepsToText sc j r → to_make (resume sc r a) ≡ left_to_make r

-- .. and so with arrays, events and tasks together
pub record AllIsMadeInOrder : Type 0 where
  pub settled : (sc : Scopes) (j : ℕ) (k : List Item) → ItemsKeepToText sc j k → all_to_make (settle_items sc k) ≡ to_come k
  pub resumed : (sc : Scopes) (j : ℕ) (r : Rest) (a : Answer) → KeepsToText sc j r → all_to_make (resume sc r a) ≡ all_left_to_make r

-- What a label's part has still to do after a GO TO keeps to the text of its block, and makes nothing.
pub record JumpsKeepToTheirText : Type 0 where
  pub text : (sc : Scopes) (j : ℕ) (b : Block) (name : List ℕ) → ItemsKeepToText sc j (items_of b) → ItemsKeepToText sc j (items_from b name)
  pub none : (sc : Scopes) (j : ℕ) (b : Block) (name : List ℕ) → ItemsKeepToText sc j (items_of b) → all_to_make (settle_items sc (items_from b name)) ≡ []
