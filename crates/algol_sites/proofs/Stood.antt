-- A label before a statement is kept as the rule has it.
use Rattle.std.proofs.Common.{◌≡◌, ◌+◌, Bool, List, [], ◌∷◌, Some, None, ap, sym, ◌∙◌, arith}
use Rattle.std.specs.Prelude.{◌==◌, ◌&&◌}
use Rattle.algol_tree.specs.declared.token.Spot.{Spot}
use Rattle.algol_tree.specs.declared.tree.Named.{Named}
use Rattle.algol_tree.specs.Labels as rules'
use Rattle.algol_tree.specs.Blocks.{Block, number_at}
use Rattle.algol_tree.specs.Surroundings.{Surroundings, declared_as}
use Rattle.algol_frames.specs.declared.scopes.Declared as found
use Rattle.algol_frames.specs.declared.scopes.Scopes.{Scopes}
use Rattle.algol_frames.specs.Answers.{declaration_of, block_number_of}
use Rattle.algol_told.specs.Telling.{ScopesTell}
use Rattle.algol_told.proofs.Told.{number_there}
use Rattle.b67_list.proofs.Numbers.{number_turned}
use Rattle.algol_sites.specs.declared.place.Place.{Place}
use Rattle.algol_sites.specs.Labelling.{standing_of}
use Rattle.algol_sites.specs.Placing.{SiteIsPlaced, BlockNumbers, is_number}

module _ (s : Scopes) (a : Surroundings) (n : Named) (t : ScopesTell s a n) (listed : Bool) where
  pub none_stands : None ≡ declaration_of s n.spot → [] ≡ standing_of n listed a (declared_as a n)
  none_stands e = absurd (let clash : None ≡ Some t.told = e ∙ t.answers in cc)

  -- the number of the block of the place
  here : (blocks : List Block) (place : Place) → BlockNumbers s blocks → SiteIsPlaced blocks place a → block_number_of s place.block ≡ Some a.block
  here blocks place numbers p =
      let plain : 0 + number_at blocks place.block ≡ number_at blocks place.block = omega arith in
      numbers place.block ∙ number_there 0 blocks place.block p.are_blocks.0 ∙ ap (λ z. Some z) (plain ∙ sym p.number)

  pub some_stands : (blocks : List Block) (place : Place) (home : Bool) (d : found.Declared) → BlockNumbers s blocks → SiteIsPlaced blocks place a →
      Some d ≡ declaration_of s n.spot → home ≡ (listed && is_number (block_number_of s place.block) d.block) →
      (record { declared = d.spot; spot = n.spot; at_home = home } ∷ []) ≡ standing_of n listed a (declared_as a n)
  some_stands blocks place home d numbers p e h =
      let S : Spot → Bool → List rules'.Standing = λ z b. record { declared = z; spot = n.spot; at_home = b } ∷ [] in
      let is : d ≡ t.told = (let both : Some d ≡ Some t.told = e ∙ t.answers in cc) in
      let spot : d.spot ≡ t.declared.spot = ap (λ (x : found.Declared). x.spot) is ∙ t.spot in
      let block : d.block ≡ t.declared.block = ap (λ (x : found.Declared). x.block) is ∙ t.block in
      let at_home : home ≡ (listed && (t.declared.block == a.block)) =
      h ∙ ap (λ z. listed && is_number z d.block) (here blocks place numbers p) ∙ ap (λ z. listed && (a.block == z)) block
      ∙ ap (λ z. listed && z) (number_turned a.block t.declared.block) in
      ap (λ z. S z home) spot ∙ ap (S t.declared.spot) at_home ∙ ap (standing_of n listed a) (sym t.found)
