-- What can be seen of a run: the letters of its entries, its output and its end.
use Rattle.std.specs.Prelude.{ℕ, if◌then◌else◌, List, [], ◌∷◌, reverse, Option, Some, None}
use Rattle.algol_tree.specs.Plain.{PProgram}
use Rattle.algol_tree.specs.Scopes.{Scopes, scopes_of}
use Rattle.algol_meaning.specs.World.{World}
use Rattle.b67_deeds.specs.Letters.{byte_of}
use Rattle.algol_meaning.specs.Choice.{choice}
use Rattle.algol_meaning.specs.Run.{End, start, end_of, may_go}

-- what can be seen of a run
pub record Seen : Type 0 where
  pub letters : List ℕ
  pub output : List (List ℕ)
  pub end : Option End

abbrev pub seen_in : List ℕ → World → Seen
seen_in letters w = record { letters = reverse letters; output = w.output; end = end_of w }

-- the letters so far stand with the newest first
abbrev pub seen_from : Scopes → List ℕ → List ℕ → World → Option Seen
seen_from sc [] letters w = Some (seen_in letters w)
seen_from sc (p ∷ h) letters w =
    let c = choice sc w p in
    let on = seen_from sc h (byte_of c.action ∷ letters) c.world in if may_go w p then on else None

unfoldable pub seen : PProgram → List ℕ → Option Seen
seen tree h = seen_from (scopes_of tree) h [] (start (scopes_of tree))
