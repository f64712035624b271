-- A block that begins: its place among the blocks.
use Rattle.std.proofs.Common.{◌≡◌, ℕ, ◌<◌, List, [], ◌∷◌, ◌++◌, map, length, reverse, Option, Some, None, refl, ap, sym, ◌∙◌, subst, arith, zero, suc}
use Rattle.std.proofs.lemmas.List.{reverse-append}
use Rattle.std.specs.Prelude.{slice_get}
use Rattle.algol_tree.specs.declared.token.Spot.{Spot}
use Rattle.algol_tree.specs.Plain as tree
use Rattle.algol_tree.specs.Blocks.{Block, number_at, around}
use Rattle.algol_tree.specs.Surroundings.{Surroundings}
use Rattle.algol_sites.specs.declared.place.Place.{Place}
use Rattle.algol_sites.specs.Placing.{AreBlocks, IsBlock, BlockIsFound, SiteIsPlaced, outer_of}

within : (xs : List Block) (k : ℕ) (x : Block) → slice_get xs k ≡ Some x → k < length xs
within [] k x e = absurd (let clash : None ≡ Some x = e in cc)
within (y ∷ ys) zero x e = omega arith
within (y ∷ ys) (suc k) x e = let h = within ys k x e in omega (arith, h)

abbrev block_or : Option Block → Block
block_or (Some b) = b
block_or None =
    record {
      spot = record { line = 0; column = 0 };
      outer = [];
      name = [];
      parameters = [];
      result = None;
      decls = tree.no_decls;
      stmts = tree.no_stmts;
    }

numbers_of : (blocks : List Block) (i : ℕ) → around blocks i ≡ map (number_at blocks) (block_or (slice_get blocks i)).outer
numbers_of blocks i = refl

placed : (blocks : List Block) (b : Block) (c : Surroundings) (place : Place) → BlockIsFound blocks b → b.spot ≡ place.block → b.outer ≡ reverse place.around.items →
    AreBlocks blocks (reverse place.around.items) → c.block ≡ number_at blocks place.block → SiteIsPlaced blocks place c
placed blocks b c place f s o h n =
    let found : slice_get blocks c.block ≡ Some b = ap (slice_get blocks) (n ∙ ap (number_at blocks) (sym s)) ∙ f in
    record {
      number = n;
      outer =
          numbers_of blocks c.block ∙ ap (λ (x : Option Block). map (number_at blocks) (block_or x).outer) found ∙ ap (map (number_at blocks)) o;
      are_blocks = (let P : Spot → Type 0 = IsBlock blocks in subst P s (within blocks (number_at blocks b.spot) b f), h);
    }

pub opens : (blocks : List Block) (b : Block) (a c : Surroundings) (old new : Place) → new.around.items ≡ old.around.items ++ old.block ∷ [] → SiteIsPlaced blocks old a → BlockIsFound blocks b →
    b.spot ≡ new.block → b.outer ≡ outer_of old → c.block ≡ number_at blocks new.block → SiteIsPlaced blocks new c
opens blocks b a c old new e p f s o n =
    let more : reverse new.around.items ≡ old.block ∷ reverse old.around.items = ap reverse e ∙ reverse-append old.around.items (old.block ∷ []) in
    let P : List Spot → Type 0 = AreBlocks blocks in
    placed blocks b c new f s (o ∙ sym more) (subst P (sym more) p.are_blocks) n
