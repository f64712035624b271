-- At the begin of a procedure's declarations its parameters are passed: the block has their names.
use Rattle.std.proofs.Common.{◌≡◌, inl, inr, ℕ, Bool, true, false, cond, List, [], ◌∷◌, ◌++◌, map, filter, refl, sym, ap, ◌∙◌, subst, if◌then◌else◌, ◌==◌}
use Rattle.std.proofs.lemmas.Bool.{eq-eqb}
use Rattle.std.specs.List.{AllByRecursion}
use Rattle.algol_tree.specs.declared.token.Spot.{Spot}
use Rattle.algol_tree.specs.declared.tree.Heading.{Heading}
use Rattle.algol_tree.specs.declared.tree.Named.{Named}
use Rattle.algol_tree.specs.Ascending.{spots_of_names}
use Rattle.algol_tree.specs.Cells as cells
use Rattle.algol_tree.specs.Cells.{cells_for}
use Rattle.algol_tree.specs.Names.{name_is_one_of}
use Rattle.algol_tree.specs.Sorts.{same_name, Declared, declared_parameters, is_named_in, sort_in, class_in}
use Rattle.algol_tree.proofs.Names.{same_name_itself}
use Rattle.b67_templates.specs.Cells.{parameters_in}
use Rattle.b67_fitting.proofs.Among.{Among, keep, none_among}
use Rattle.b67_fitting.proofs.Apart.{IsIn, IsApart}
use Rattle.b67_fitting.proofs.Declaring.{names_of}
use Rattle.b67_fitting.proofs.Given.{cell_of}
use Rattle.b67_fitting.proofs.Started.{Passed}

-- the first of three lists are among them, and of two
pub leading : (xs ys zs : List Spot) → Among xs (xs ++ ys ++ zs)
leading [] ys zs = none_among (ys ++ zs)
leading (x ∷ xs) ys zs = keep x (leading xs ys zs)

pub front_among : (xs ys : List Spot) → Among xs (xs ++ ys)
front_among [] ys = none_among ys
front_among (x ∷ xs) ys = keep x (front_among xs ys)

module _ (block depth : ℕ) (h : Heading) (known : List Declared) where
  abbrev entry : Named → Declared
  entry n =
      record { name = n.name; spot = n.spot; block = block; depth = depth; sort = sort_in h.specs (is_named_in h.values n.name) n.name; class = class_in h.specs n.name }

  named_given : (ns : List Named) (n : Named) → IsIn n ns → name_is_one_of (names_of block (map entry ns ++ known)) n.name ≡ true
  named_given [] n i = absurd i
  named_given (m ∷ ns) n i =
      subst (λ (b : Bool). name_is_one_of (map (λ (d : Declared). d.name) (cond b (entry m ∷ rest) rest)) n.name ≡ true) (sym (eq-eqb block block refl)) (by (same_name m.name n.name) refl (named_given ns n) i)
    where
      rest : List Declared
      rest = filter (λ (d : Declared). d.block == block) (map entry ns ++ known)

      by : (b : Bool) → same_name m.name n.name ≡ b → (IsIn n ns → name_is_one_of (names_of block (map entry ns ++ known)) n.name ≡ true) → IsIn n (m ∷ ns) →
          (if b then true else name_is_one_of (names_of block (map entry ns ++ known)) n.name) ≡ true
      by true e later j = refl
      by false e later (inl same) = absurd (let clash : true ≡ false = sym (same_name_itself n.name) ∙ ap (λ (z : Named). same_name z.name n.name) same ∙ e in cc)
      by false e later (inr j) = later j

  pub given_passed : (spots : List Spot) → AllByRecursion (λ s. AllByRecursion (IsApart s) spots) (spots_of_names h.params) →
      Passed (names_of block (declared_parameters block depth h ++ known)) spots (parameters_in h) (cells_for block cells.parameter h.params)
  given_passed spots far = each h.params (λ n i. named_given h.params n i) far
    where
      names : List (List ℕ)
      names = names_of block (declared_parameters block depth h ++ known)

      each : (ns : List Named) → ((n : Named) → IsIn n ns → name_is_one_of names n.name ≡ true) → AllByRecursion (λ s. AllByRecursion (IsApart s) spots) (spots_of_names ns) →
          Passed names spots (map (cell_of h) ns) (cells_for block cells.parameter ns)
      each [] f g = tt
      each (n ∷ ns) f g = (f n (inl refl), g.0, each ns (λ m i. f m (inr i)) g.1)
