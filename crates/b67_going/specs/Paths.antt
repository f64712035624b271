-- The path from a frame down its stack, and on down the stacks of starters.
use Rattle.std.specs.Prelude.{◌≡◌, ℕ, zero, suc, nat_eq, if◌then◌else◌, List, ◌∷◌, take, drop, Option, Some, None, Result}
use Rattle.b67_word.specs.declared.Place.{Place}
use Rattle.b67_word.specs.Word.{Word}
use Rattle.b67_control.specs.declared.Registers.{Registers}
use Rattle.b67_store.specs.Store.{Stacks, words_of}
use Rattle.b67_table.specs.Look.{Look, found, ◌>->◌}
use Rattle.b67_table.specs.Chains.{chain_broken, frame_below}
use Rattle.b67_table.specs.Starting.{is_among, frames_with, named_frames}
use Rattle.b67_table.specs.Image.{Image}
use Rattle.b67_table.specs.Program.{Test, asked}
use Rattle.b67_reach.specs.declared.Stop.{Stop}
use Rattle.b67_reach.specs.Answers.{whole_outcome, outcome_answered}
use Rattle.b67_going.specs.declared.paths.Needs.{Needs}

-- the first of the wanted frames down a stack from this one, in at most so many steps; none where the way ends at the base frame
abbrev pub met : ℕ → List Place → Place → Look (Option Place)
met zero wanted f = chain_broken
met (suc steps) wanted f =
    if is_among wanted f then found (Some f)
    else if nat_eq f.at 0 then found None
    else frame_below f >-> (λ (lower : Place). met steps wanted lower)

-- so many words of a stack from one on
abbrev pub some_words : Stacks → ℕ → ℕ → ℕ → List Word
some_words stacks stack first count = take count (drop first (words_of stacks stack))

-- the frames that a new process needs
abbrev pub needed : Stacks → Needs → List Place
needed stacks n = n.home ∷ frames_with n.task (named_frames (some_words stacks n.stack n.first n.count))

-- every image with these stacks and registers answers the test so
pub record TestLeads {A : Type 0} (test : Test A) (stacks : Stacks) (regs : List Registers) (answer : Result A Stop) : Type 0 where
  pub told : (img : Image) → img.stacks ≡ stacks → img.regs ≡ regs → whole_outcome (asked img test) ≡ outcome_answered answer
