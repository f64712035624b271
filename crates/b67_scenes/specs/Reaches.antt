-- How much of what lies in a process's innermost frame other processes may look at, while the process is on its way to where it stands.
use Rattle.std.specs.Prelude.{◌≡◌, ℕ, ◌+◌, ◌≤◌, false, List, [], ◌∷◌, length, Some}
use Rattle.b67_list.specs.Numbered.{numbered}
use Rattle.algol_tree.specs.Blocks.{block_numbered}
use Rattle.algol_tree.specs.Scopes.{Scopes}
use Rattle.algol_meaning.specs.World.{Part, World, instance_at}
use Rattle.algol_meaning.specs.Critical.{is_evaluation, some_depends}
use Rattle.algol_standing.specs.Lows.{IsLow}
use Rattle.b67_table.specs.Chains.{place}
use Rattle.b67_templates.specs.Cells.{made_base}
use Rattle.b67_cores.specs.Cores.{Core}
use Rattle.b67_frames.specs.Arrays.{Layout}

module _ (sc : Scopes) (w : World) (lay : Layout) where
  -- the words of a frame below what actions make: its mark, its control word, simple cells, and control words of procedures and actuals
  abbrev pub words_from_entry : ℕ → ℕ
  words_from_entry i = made_base sc (block_numbered sc.blocks ((instance_at w i).block))

  -- what the process of this core has still to push before it stands where the other is
  pub data CoreReaches (p : ℕ) (part : Part) (now settled : Core) : Type 0 where
    -- nothing
    all : length now.below ≡ length settled.below → CoreReaches p part now settled
    -- words of what it has made: the words before them are there, and nobody comes to what is made
    low : (at : ℕ) → is_evaluation part.purpose ≡ false → numbered lay.places part.instance ≡ Some (place p at) → at + words_from_entry part.instance ≤ length now.below →
        IsLow sc w part.instance → CoreReaches p part now settled
    -- cells of the frame that it has entered or with which it has begun: no live process depends on its instance
    none_yet : (at : ℕ) → is_evaluation part.purpose ≡ false → numbered lay.places part.instance ≡ Some (place p at) → at + 2 ≤ length now.below →
        some_depends w.processes part.instance ≡ false → CoreReaches p part now settled

  abbrev pub ReachesFor : ℕ → List Part → Core → Core → Type 0
  ReachesFor p [] now settled = ⊥
  ReachesFor p (part ∷ outer) now settled = CoreReaches p part now settled
