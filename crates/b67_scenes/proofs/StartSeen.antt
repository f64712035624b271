-- What a process that starts another names: all of it is seen from the text of its part.
use Rattle.std.proofs.Common.{◌≡◌, ◌⊎◌, inl, inr, subst, ℕ, List, [], Option}
use Rattle.b67_scenes.proofs.Prelude.{PProgram, Scopes, scopes_of, Named, Ask, ask, Given, instance_at, all_to_make, BlockIsSeen, IsSeenAround, IsInner, InRest, IsNoBlock, Code, Texts, IsComplete}
use Rattle.algol_meaning.specs.Asks.{starts}
use Rattle.algol_paths.specs.Texts.{InGivens, InName}
use Rattle.algol_standing.proofs.Asking.{Sees, rest_sees, bound_sees}
use Rattle.b67_scenes.proofs.Narrowing.{made_or_around}
use Rattle.b67_scenes.proofs.Scene.{Actor}

-- a call with a task
abbrev pub AreNamedThere : (Named → Type 0) → Named → List Given → Option Named → Type 0
AreNamedThere P n gs task = P n × InGivens P gs × InName P task

module _ (tree : PProgram) (code : Code) (texts : Texts) (actor : Actor tree code texts) where
  open actor use {w, lay, part, s}

  module _ (n : Named) (gs : List Given) (task : Option Named) (asks : ask part.rest ≡ starts n gs task) where
    abbrev sc : Scopes
    sc = scopes_of tree

    abbrev block : ℕ
    block = (instance_at w part.instance).block

    pub start_seen : AreNamedThere (BlockIsSeen (scopes_of tree) ((instance_at w part.instance).block)) n gs task
    start_seen =
        subst (λ (k : Ask). Sees (BlockIsSeen sc block) (IsInner sc block) k) asks
        (rest_sees (BlockIsSeen sc block) (IsInner sc block) (IsSeenAround sc block) (λ m (seen : IsSeenAround sc block m). seen.0) part.rest s.stands.frame.text)

    -- in an evaluation that keeps to what is around its block
    pub start_around : InRest (IsSeenAround (scopes_of tree) ((instance_at w part.instance).block)) IsNoBlock (IsSeenAround (scopes_of tree) ((instance_at w part.instance).block)) part.rest →
        AreNamedThere (IsSeenAround (scopes_of tree) ((instance_at w part.instance).block)) n gs task
    start_around text =
        subst (λ (k : Ask). Sees (IsSeenAround sc block) IsNoBlock k) asks
        (rest_sees (IsSeenAround sc block) IsNoBlock (IsSeenAround sc block) (λ m (seen : IsSeenAround sc block m). seen) part.rest text)

    bound_around : (all_to_make part.rest ≡ []) ⊎ AreNamedThere (IsSeenAround sc block) n gs task
    bound_around = by_bound (bound_sees (BlockIsSeen sc block) (IsInner sc block) (IsSeenAround sc block) part.rest s.stands.frame.text)
      where
        by_bound : (all_to_make part.rest ≡ []) ⊎ Sees (IsSeenAround sc block) IsNoBlock (ask part.rest) → (all_to_make part.rest ≡ []) ⊎ AreNamedThere (IsSeenAround sc block) n gs task
        by_bound (inl none) = inl none
        by_bound (inr sees) = inr (subst (λ (k : Ask). Sees (IsSeenAround sc block) IsNoBlock k) asks sees)

    -- all is made there, or they are around
    pub start_made : IsComplete (scopes_of tree) w lay part.instance ⊎ AreNamedThere (IsSeenAround (scopes_of tree) ((instance_at w part.instance).block)) n gs task
    start_made = made_or_around tree code texts actor bound_around start_around
