-- The text of what a search has found.
use Rattle.std.specs.Prelude.{◌≡◌, ◌||◌, ◌++◌, length}
use Rattle.b67_told.specs.Texts.{head_text}
use Rattle.b67_outcomes.specs.declared.found.Found.{Found}
use Rattle.b67_teller.specs.declared.book.Book.{Book}
use Rattle.b67_explorer.specs.declared.explored.Explored.{Explored}

-- how many outcomes there are, and their text; some may be missing where the search was cut, or one was left out
pub record IsTextOf (found : Found) (book : Book) (explored : Explored) : Type 0 where
  pub cut : explored.cut ≡ (found.cut || book.cut)
  pub text : explored.text.items ≡ head_text (length book.told.items) (found.cut || book.cut) (length found.states.items) ++ book.text.items
