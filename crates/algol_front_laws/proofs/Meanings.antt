-- What the scopes tell of a name is the declaration that it means.
use Rattle.std.proofs.Common.{◌≡◌, ℕ, List, Option, Some, None, refl, ap, ◌∙◌}
use Rattle.std.specs.List.{AllByRecursion}
use Rattle.algol_tree.specs.declared.tree.Named.{Named}
use Rattle.algol_tree.specs.Plain.{PProgram}
use Rattle.algol_tree.specs.Sorts.{Declared}
use Rattle.algol_tree.specs.Blocks.{blocks_of_program}
use Rattle.algol_tree.specs.Surroundings.{Surroundings}
use Rattle.algol_tree.specs.Cells.{couple_in, level_at}
use Rattle.algol_tree.specs.Couples.{Located}
use Rattle.algol_tree.specs.Accepted.{sites_of}
use Rattle.algol_tree.specs.First.{Source}
use Rattle.algol_sorts.specs.Sorts.{sort_of}
use Rattle.algol_frames.specs.declared.scopes.Declared as found
use Rattle.algol_frames.specs.declared.scopes.Scopes.{Scopes}
use Rattle.algol_scope.specs.Resolved.{AreOf, Meaning, couple, declaration_of, located, meaning}
use Rattle.algol_front_laws.specs.Declarations.{NameAt, names_of_program}
use Rattle.algol_front_laws.specs.Meanings.{MeaningIsTold}
use Rattle.algol_told.proofs.Lists.{all_weaker}
use Rattle.algol_told.proofs.Told.{meaning_there}
use Rattle.algol_front_laws.proofs.Declarations.{IsOne, each_is_one}
use Rattle.algol_front_laws.proofs.Sources.{source_in_order}

module _ (p : PProgram) (scopes : Scopes) (are : AreOf p scopes) where
  told_so : (a : Surroundings) (n : Named) (w : IsOne p a n) (o : Option found.Declared) → declaration_of scopes n.spot ≡ o →
      located o ≡
      Some
      (record {
        spot = w.one.declared.spot;
        level = level_at w.one.declared.depth;
        couple = couple_in (blocks_of_program p) (sites_of p) w.one.declared.block w.one.declared.spot;
      }) →
      meaning o ≡ Some (record { block = w.one.declared.block; sort = sort_of w.one.declared }) → MeaningIsTold scopes a n
  told_so a n w None e l m =
      absurd
      (let clash : None ≡ Some (record { block = w.one.declared.block; sort = sort_of w.one.declared }) = m in cc)
  told_so a n w (Some x) e l m =
      let d : Declared = w.one.declared in
      let placed : record { spot = x.spot; level = x.level; couple = couple x.couple } ≡
      record { spot = d.spot; level = level_at d.depth; couple = couple_in (blocks_of_program p) (sites_of p) d.block d.spot } = cc in
      let means : record { block = x.block; sort = x.sort } ≡ record { block = d.block; sort = sort_of d } = cc in
      record {
        declared = d;
        means = w.one.means;
        told = x;
        answers = e;
        spot = ap (λ (z : Located). z.spot) placed;
        block = ap (λ (z : Meaning). z.block) means;
        level = ap (λ (z : Located). z.level) placed;
        sort = ap (λ (z : Meaning). z.sort) means;
      }

  each_told : (a : Surroundings) (n : Named) → IsOne p a n → MeaningIsTold scopes a n
  each_told a n w =
      told_so a n w (declaration_of scopes n.spot) refl (are.declarations n.spot ∙ w.one.held)
      (are.meanings n.spot ∙ meaning_there p n.spot w.one.declared w.there)

pub names_are_told : (bytes : List ℕ) (tree : PProgram) (scopes : Scopes) → Source bytes tree → AreOf tree scopes →
    AllByRecursion (λ (n : NameAt). MeaningIsTold scopes n.around n.name) (names_of_program tree)
names_are_told bytes tree scopes s are =
    all_weaker (λ (n : NameAt). IsOne tree n.around n.name) (λ (n : NameAt). MeaningIsTold scopes n.around n.name) (λ n w. each_told tree scopes are n.around n.name w)
    (names_of_program tree) (each_is_one tree s.accepted.scoped (source_in_order bytes tree s))
