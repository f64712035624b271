-- Walks one after the other.
use Rattle.std.proofs.Common.{◌≡◌, List, [], ◌∷◌, ◌++◌, map, reverse, refl, ap, sym, ◌∙◌, subst, append_assoc, append-nil}
use Rattle.std.proofs.lemmas.Grind.{flat_map-append}
use Rattle.std.specs.List.{flat_map}
use Rattle.algol_tree.specs.declared.token.Spot.{Spot}
use Rattle.algol_tree.specs.Blocks.{Block, number_at}
use Rattle.algol_tree.specs.Surroundings.{Surroundings}
use Rattle.algol_tree.specs.Sites.{Site}
use Rattle.algol_rules.specs.declared.fault.Faults.{Faults}
use Rattle.algol_sites.specs.declared.place.Place.{Place}
use Rattle.algol_frames.specs.declared.scopes.Scopes.{Scopes}
use Rattle.algol_told.specs.Telling.{TellsAll}
use Rattle.algol_sites.specs.Labelling.{standing_as, standings_at, labels_at}
use Rattle.algol_sites.specs.Noting.{noted_along}
use Rattle.algol_sites.specs.Placing.{AreBlocks, AreFound, SiteIsPlaced, outer_of}
use Rattle.algol_sites.proofs.Telling.{first_told, last_told}
use Rattle.algol_sites.proofs.Notes.{noted_along_append}
use Rattle.algol_check.specs.declared.checker.Checker.{Checker}
use Rattle.algol_check.specs.Walking.{PlaceIsAt, PartsNoted, Stays, CheckWalks, no_blocks}
use Rattle.algol_check.proofs.Silent.{IsSilent}

-- ---- the same place, in other words

pub outer_alike : (p q : Place) → q.block ≡ p.block → q.around.items ≡ p.around.items → outer_of q ≡ outer_of p
outer_alike p q b o = ap (λ (s : Spot). s ∷ reverse q.around.items) b ∙ ap (λ (ss : List Spot). p.block ∷ reverse ss) o

pub placed_alike : (blocks : List Block) (a : Surroundings) (p q : Place) → q.block ≡ p.block → q.around.items ≡ p.around.items → SiteIsPlaced blocks p a → SiteIsPlaced blocks q a
placed_alike blocks a p q b o h =
    let P : List Spot → Type 0 = AreBlocks blocks in
    record {
      number = h.number ∙ ap (number_at blocks) (sym b);
      outer = h.outer ∙ ap (λ (ss : List Spot). map (number_at blocks) (reverse ss)) (sym o);
      are_blocks = subst P (sym (outer_alike p q b o)) h.are_blocks;
    }

pub at_alike : (scopes : Scopes) (blocks : List Block) (a : Surroundings) (p q : Place) → q.block ≡ p.block → q.around.items ≡ p.around.items →
    PlaceIsAt scopes blocks p a → PlaceIsAt scopes blocks q a
at_alike scopes blocks a p q b o h = record { placed = placed_alike blocks a p q b o h.placed; numbers = h.numbers }

pub stays_at : (scopes : Scopes) (blocks : List Block) (a : Surroundings) (c d : Checker) → Stays c d → PlaceIsAt scopes blocks c.place a → PlaceIsAt scopes blocks d.place a
stays_at scopes blocks a c d s h = at_alike scopes blocks a c.place d.place s.block s.outer h

pub stays_both : (c d e : Checker) → Stays c d → Stays d e → Stays c e
stays_both c d e s t = record { block = t.block ∙ s.block; outer = t.outer ∙ s.outer }

-- ---- what is noted

pub noted_none : (blocks : List Block) (c : Checker) → PartsNoted blocks c c []
noted_none blocks c =
    record { faults = refl; labels = sym (append-nil c.labels.items); standings = sym (append-nil (map standing_as c.standings.items)) }

pub noted_both : (blocks : List Block) (c d e : Checker) (xs ys : List Site) → PartsNoted blocks c d xs → PartsNoted blocks d e ys → PartsNoted blocks c e (xs ++ ys)
noted_both blocks c d e xs ys h k =
    record {
      faults = k.faults ∙ ap (λ f. noted_along blocks f ys) h.faults ∙ sym (noted_along_append blocks c.faults.first xs ys);
      labels =
          k.labels ∙ ap (λ ls. ls ++ flat_map labels_at ys) h.labels ∙ append_assoc c.labels.items (flat_map labels_at xs) (flat_map labels_at ys)
          ∙ ap (λ ls. c.labels.items ++ ls) (sym (flat_map-append labels_at xs ys));
      standings =
          k.standings ∙ ap (λ ss. ss ++ flat_map standings_at ys) h.standings
          ∙ append_assoc (map standing_as c.standings.items) (flat_map standings_at xs) (flat_map standings_at ys)
          ∙ ap (λ ss. map standing_as c.standings.items ++ ss) (sym (flat_map-append standings_at xs ys));
    }

-- only faults were noted
pub noted_silent : (blocks : List Block) (c : Checker) (f : Faults) (xs : List Site) → IsSilent xs → f.first ≡ noted_along blocks c.faults.first xs →
    PartsNoted blocks c (record c { faults = f }) xs
noted_silent blocks c f xs s h =
    record {
      faults = h;
      labels = sym (append-nil c.labels.items) ∙ ap (λ ls. c.labels.items ++ ls) (sym s.labels);
      standings = sym (append-nil (map standing_as c.standings.items)) ∙ ap (λ ss. map standing_as c.standings.items ++ ss) (sym s.standings);
    }

-- ---- walks

pub found_both : (blocks xs ys : List Block) → AreFound blocks (xs ++ ys) → AreFound blocks xs × AreFound blocks ys
found_both blocks [] ys h = (tt, h)
found_both blocks (x ∷ xs) ys h = let k = found_both blocks xs ys h.1 in ((h.0, k.0), k.1)

pub found_alike : (blocks xs ys : List Block) → xs ≡ ys → AreFound blocks xs → AreFound blocks ys
found_alike blocks xs ys e h = let P : List Block → Type 0 = AreFound blocks in subst P e h

module _ (scopes : Scopes) where
  pub walks_none : (c : Checker) → CheckWalks scopes c c no_blocks (λ blocks a. [])
  walks_none c = record { stays = record { block = refl; outer = refl }; notes = λ blocks a at t f. noted_none blocks c }

  pub walks_both : (c d e : Checker) (i j : List Spot → List Block) (xs ys : List Block → Surroundings → List Site) → CheckWalks scopes c d i xs → CheckWalks scopes d e j ys →
      CheckWalks scopes c e (λ outer. i outer ++ j outer) (λ blocks a. xs blocks a ++ ys blocks a)
  walks_both c d e i j xs ys h k =
      record {
        stays = stays_both c d e h.stays k.stays;
        notes =
            λ blocks a at t f.
            let same = outer_alike c.place d.place h.stays.block h.stays.outer in
            let fs = found_both blocks (i (outer_of c.place)) (j (outer_of c.place)) f in
            noted_both blocks c d e (xs blocks a) (ys blocks a) (h.notes blocks a at (first_told scopes (xs blocks a) (ys blocks a) t) fs.0)
            (k.notes blocks a (stays_at scopes blocks a c d h.stays at) (last_told scopes (xs blocks a) (ys blocks a) t)
            (found_alike blocks (j (outer_of c.place)) (j (outer_of d.place)) (ap j (sym same)) fs.1));
      }

  -- parts that no block begins in, at which only faults are noted
  pub walks_silent : (c : Checker) (f : Faults) (xs : List Block → Surroundings → List Site) → ((blocks : List Block) (a : Surroundings) → IsSilent (xs blocks a)) →
      ((blocks : List Block) (a : Surroundings) → PlaceIsAt scopes blocks c.place a → TellsAll scopes (xs blocks a) →
      f.first ≡ noted_along blocks c.faults.first (xs blocks a)) → CheckWalks scopes c (record c { faults = f }) no_blocks xs
  walks_silent c f xs s h =
      record {
        stays = record { block = refl; outer = refl };
        notes = λ blocks a at t found. noted_silent blocks c f (xs blocks a) (s blocks a) (h blocks a at t);
      }
