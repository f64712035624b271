-- The frame of an evaluation: the code of an actual runs in it, one level further in than the names of that actual.
use Rattle.std.specs.Prelude.{◌≡◌, ℕ, true, List, [], Some}
use Rattle.b67_list.specs.Numbered.{numbered}
use Rattle.algol_meaning.specs.Critical.{is_evaluation}
use Rattle.algol_meaning.specs.Rest.{Rest, giving, giving_place, evaluating, locating}
use Rattle.algol_meaning.specs.World.{Part, Purpose, name_read, name_place}
use Rattle.b67_word.specs.declared.Place.{Place}
use Rattle.b67_word.specs.Word.{Word}
use Rattle.b67_templates.specs.Contexts.{Yields, value, element}
use Rattle.b67_frames.specs.Arrays.{Layout}

-- for this purpose that is given
abbrev pub IsAsked : Purpose → Yields → Type 0
IsAsked name_read (value kind) = Unit {0}
IsAsked name_place (element kind) = Unit {0}
IsAsked _ _ = ⊥

-- what is still to be done is an expression's: its value or its place is found, or is given
abbrev pub IsOfExpression : Rest → Type 0
IsOfExpression (evaluating h) = Unit {0}
IsOfExpression (locating x) = Unit {0}
IsOfExpression (giving v) = Unit {0}
IsOfExpression (giving_place p) = Unit {0}
IsOfExpression _ = ⊥

-- The frame is lent to a part that evaluates an actual of an instance that stands. It has no cells. Its mark leads to the frame of that
-- instance, in whatever stack that lies.
pub record Lent (lay : Layout) (Stand : ℕ → Type 0) (part : Part) (cells : List Word) (home : Place) (gives : Yields) : Type 0 where
  pub evaluates : is_evaluation part.purpose ≡ true
  pub asked : IsAsked part.purpose gives
  pub expression : IsOfExpression part.rest
  pub stands : Stand part.instance
  pub none : cells ≡ []
  pub linked : numbered lay.places part.instance ≡ Some home
