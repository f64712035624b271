-- An evaluation of an actual in an instance that has not made all asks for nothing that the block of that is still to make.
use Rattle.std.proofs.Common.{◌≡◌, ◌⊎◌, inl, inr, ◌∙◌, ℕ, [], length}
use Rattle.b67_scenes.proofs.Prelude.{PProgram, PBody, Scopes, scopes_of, instance_at, all_to_make, IsSeenAround, InRest, Code, Texts, complete_of, IsComplete, Owned, Shape, of_own, of_lent}
use Rattle.b67_scenes.proofs.Scene.{Actor}

module _ (tree : PProgram) (code : Code) (texts : Texts) (actor : Actor tree code texts) where
  open actor use {w, lay, p, part, outer, s}

  abbrev sc : Scopes
  sc = scopes_of tree

  abbrev block : ℕ
  block = (instance_at w part.instance).block

  abbrev KeepsAround : Type 0
  KeepsAround = InRest (IsSeenAround sc block) (λ (b : PBody). ⊥) (IsSeenAround sc block) part.rest

  abbrev OwnFrame : Type 0
  OwnFrame = Owned tree code texts w lay p part outer (length s.stands.frame.lower) s.stands.frame.mark s.stands.frame.control s.stands.frame.cells

  -- the instance has made all, where an own part has nothing to make
  own_made : {X : Type 0} → OwnFrame → (all_to_make part.rest ≡ []) ⊎ X → IsComplete sc w lay part.instance ⊎ X
  own_made o (inl none) =
      inl (complete_of sc w lay p part.instance outer (length s.stands.frame.lower) s.stands.frame.mark s.stands.frame.control s.stands.frame.cells o.framed (o.making ∙ none))
  own_made o (inr x) = inr x

  lent_made : {X : Type 0} → (KeepsAround → X) → IsComplete sc w lay part.instance ⊎ KeepsAround → IsComplete sc w lay part.instance ⊎ X
  lent_made keeps (inl made) = inl made
  lent_made keeps (inr text) = inr (keeps text)

  -- it has made all, or what the head asks for is around
  pub made_or_around : {X : Type 0} → (all_to_make part.rest ≡ []) ⊎ X → (KeepsAround → X) → IsComplete (scopes_of tree) w lay part.instance ⊎ X
  made_or_around {X} told keeps = by_shape s.stands.frame.shape
    where
      by_shape : Shape tree code texts w lay p part outer (length s.stands.frame.lower) s.stands.frame.mark s.stands.frame.control s.stands.frame.cells s.stands.frame.home s.stands.frame.gives → IsComplete sc w lay part.instance ⊎ X
      by_shape (of_own o is) = own_made o told
      by_shape (of_lent l) = lent_made keeps (s.narrow l.evaluates)
