-- The laws of what is called and given: it fits through silent steps, actions and GO TO.
use Rattle.std.specs.Prelude.{ℕ, List}
use Rattle.algol_tree.specs.Blocks.{Block}
use Rattle.algol_tree.specs.Scopes.{Scopes}
use Rattle.algol_meaning.specs.Rest.{Item, Rest, Answer}
use Rattle.algol_meaning.specs.Asks.{ask, resume}
use Rattle.algol_meaning.specs.Statements.{settle_items, items_of, items_from}
use Rattle.algol_calls.specs.Fits.{ItemsFit, RestFits, AskFits, AnswerFits}

pub record CallsFit : Type 0 where
  -- after the silent steps of items
  pub settled : (sc : Scopes) (k : List Item) → ItemsFit sc k → RestFits sc (settle_items sc k)
  -- after an action, whose answer fits
  pub resumed : (sc : Scopes) (r : Rest) (a : Answer) → RestFits sc r → AnswerFits sc (ask r) a → RestFits sc (resume sc r a)
  -- from a label on
  pub labelled : (sc : Scopes) (b : Block) (name : List ℕ) → ItemsFit sc (items_of b) → ItemsFit sc (items_from b name)
  -- and so does what the head asks for
  pub asked : (sc : Scopes) (r : Rest) → RestFits sc r → AskFits sc (ask r)
