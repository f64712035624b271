-- What lies in reach of a part: its instance, and the static parents of that.
use Rattle.std.proofs.Common.{sym, subst, ℕ, ◌+◌, ◌≤◌, Bool, List, ◌∷◌, length, arith}
use Rattle.b67_scenes.proofs.Prelude.{if◌then◌else◌, block_numbered, around, level_of, PProgram, Scopes, Part, World, instance_at, ancestor, stands_path, IsOk, here, down, IsStanding, IsOnPath, IsWholeInstance, newest_own, skeleton, Word, OUTER_LEVEL, Code, Texts, length_around, HasFacts, facts_of, Layout, IsInReach, Frame, Shape, of_own, of_lent}
use Rattle.algol_standing.proofs.Seen.{ancestors}
use Rattle.algol_standing.proofs.Standing.{path_on}
use Rattle.b67_rows.proofs.Numbers.{get_within}

module _ (sc : Scopes) (w : World) (ok : IsOk sc IsWholeInstance w) where
  -- what lies on the path from one that stands, stands
  pub path_stands : (i j : ℕ) → IsStanding w i → IsOnPath w i j → IsStanding w j
  path_stands i j st path = stands_path (skeleton w) ok.sound.skeleton_ok i j st path

  pub path_further : (i j k : ℕ) → IsOnPath w i j → IsOnPath w j k → IsOnPath w i k
  path_further i j k first second = path_on (skeleton w) ok.sound.skeleton_ok i j k first second

  -- so far up as the level of its block the static parents of an instance lie on the path from it
  pub up_path : (i up : ℕ) → IsStanding w i → up + OUTER_LEVEL ≤ level_of (block_numbered sc.blocks ((instance_at w i).block)) → IsOnPath w i (ancestor w up i)
  up_path i up st far =
      let j : ℕ = (instance_at w i).block in
      let there = get_within (j ∷ around sc.blocks j) up (omega (arith, far, length_around sc.blocks j)) in
      (ancestors sc IsWholeInstance w ok.sound up i there.0 st there.1).0

-- paths lead on
pub on_further : (w : World) (i j k : ℕ) → IsOnPath w i j → IsOnPath w j k → IsOnPath w i k
on_further w i j k here second = second
on_further w i j k (down {b = c} n first) second = down n (on_further w c j k first second)

-- What a world needs for names to lead somewhere: what stands has its facts, and so far up as the level of its block its static parents lie on the path from it.
pub record CanClimb (sc : Scopes) (w : World) : Type 0 where
  pub facts : HasFacts w
  pub up : (i up : ℕ) → IsStanding w i → up + OUTER_LEVEL ≤ level_of (block_numbered sc.blocks ((instance_at w i).block)) → IsOnPath w i (ancestor w up i)

-- so it is with one that is as worlds are
pub can_climb : (sc : Scopes) (w : World) → IsOk sc IsWholeInstance w → CanClimb sc w
can_climb sc w ok = record { facts = facts_of sc w ok; up = λ i up st far. up_path sc w ok i up st far }

-- the instance of a frame's part lies in reach of the part
pub part_in_reach : (tree : PProgram) (code : Code) (texts : Texts) (w : World) (lay : Layout) (p : ℕ) (part : Part) (outer : List Part) (words : List Word) (f : Frame tree code texts w lay p part outer words) →
    IsInReach w (part ∷ outer) part.instance
part_in_reach tree code texts w lay p part outer words f = by_shape f.shape
  where
    by_shape : Shape tree code texts w lay p part outer (length f.lower) f.mark f.control f.cells f.home f.gives → IsInReach w (part ∷ outer) part.instance
    by_shape (of_own o is) = subst (λ (b : Bool). IsOnPath w (if b then newest_own outer else part.instance) part.instance) (sym o.owns) here
    by_shape (of_lent l) = subst (λ (b : Bool). IsOnPath w (if b then newest_own outer else part.instance) part.instance) (sym l.evaluates) l.stands
