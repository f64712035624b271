-- The blocks of the procedures that a block declares: each stands in that block, also where FORWARD announces it. And of the blocks around
-- a place, one is found so many up as blocks are around it.
use Rattle.std.proofs.Common.{arith, ◌≡◌, ℕ, ◌-◌, ◌==◌, ◌<◌, ◌||◌, not, Bool, true, false, List, [], ◌∷◌, length, map, is_some, Option, Some, None, refl, sym, ap, ◌∙◌, subst, if◌then◌else◌, suc, slice_get}
use Rattle.std.proofs.lemmas.Bool.Decides.{nat_tests}
use Rattle.std.proofs.lemmas.Option.{slice_get_within}
use Rattle.std.specs.List.{list_any, AllByRecursion}
use Rattle.algol_tree.specs.declared.token.Spot.{Spot}
use Rattle.algol_tree.specs.declared.tree.Heading.{Heading}
use Rattle.algol_tree.specs.Blocks.{Block, of_procedure, blocks_of, blocks_in_decls, block_numbered, procedure_block, number_at, around}
use Rattle.algol_tree.specs.Names.{if_so, unknown_in_heading, unknown_names}
use Rattle.algol_tree.specs.Plain as tree
use Rattle.algol_tree.specs.Plain.{PStmt, PDecls}
use Rattle.algol_tree.specs.Sites.{Site, sites_in_pairs, here_stmt, inside_stmt, sites_in_decls}
use Rattle.algol_tree.specs.Sorts.{same_name, Declared, parameters_of}
use Rattle.algol_tree.specs.Surroundings.{Surroundings, body_of, heading_or, announced, knowing, inside_procedure}
use Rattle.algol_tree.proofs.Trees.{block_is}
use Rattle.b67_list.proofs.Lists.{append_none_left, each_back}
use Rattle.b67_fitting.specs.Typing.{HeadingSpecified}
use Rattle.b67_fitting.proofs.Headings.{DeclSpecified, DeclsSpecified}
use Rattle.b67_fitting.proofs.Numbering.{IsNumbered}

-- the names of a part of the tree are known where it stands
abbrev pub IsNamed : Site → Type 0
IsNamed x = unknown_names x ≡ []

abbrev pub AreNamed : List Site → Type 0
AreNamed xs = AllByRecursion IsNamed xs

module _ (blocks : List Block) where
  -- The block of the procedure with this heading stands in the block j, and has its name. Its parameters are simple ones or arrays.
  pub record IsCallee (j : ℕ) (h : Heading) : Type 0 where
    pub some : number_at blocks h.name.spot < length blocks
    pub around_is : around blocks (number_at blocks h.name.spot) ≡ j ∷ around blocks j
    pub named : (block_numbered blocks (number_at blocks h.name.spot)).name ≡ h.name.name
    pub parameters_are : (block_numbered blocks (number_at blocks h.name.spot)).parameters ≡ parameters_of h
    pub built : HeadingSpecified h

  -- so do those of all procedures that these declarations declare or announce
  abbrev pub AreCallees : ℕ → PDecls → Type 0
  AreCallees j tree.no_decls = Unit {0}
  AreCallees j (tree.decls (tree.forward h) ds) = IsCallee j (announced h ds) × AreCallees j ds
  AreCallees j (tree.decls (tree.procedure h t) ds) = IsCallee j h × AreCallees j ds
  AreCallees j (tree.decls d ds) = AreCallees j ds

  numbered_callee : (j : ℕ) (outer : List Spot) (h : Heading) (t : PStmt) → map (number_at blocks) outer ≡ j ∷ around blocks j → DeclSpecified (tree.procedure h t) →
      IsNumbered blocks (procedure_block h t outer) → IsCallee j h
  numbered_callee j outer h t e b n =
      let k = number_at blocks h.name.spot in
      let its = procedure_block h t outer in
      let it_is : block_numbered blocks k ≡ its = block_is blocks k its n in
      record {
        some = slice_get_within blocks k its n;
        around_is = ap (λ (z : Block). map (number_at blocks) z.outer) it_is ∙ e;
        named = ap (λ (z : Block). z.name) it_is;
        parameters_are = ap (λ (z : Block). z.parameters) it_is;
        built = b.0;
      }

  -- the procedure of that name that comes later
  body_callee : (j : ℕ) (name : List ℕ) (ds : PDecls) (g : Heading) → AreCallees j ds → body_of name ds ≡ Some g → IsCallee j g
  body_callee j name tree.no_decls g c e = absurd (let clash : None ≡ Some g = e in cc)
  body_callee j name (tree.decls (tree.procedure h t) ds) g c e = by (same_name h.name.name name) (body_callee j name ds g c.1) e
    where
      by : (b : Bool) → (body_of name ds ≡ Some g → IsCallee j g) → (if b then Some h else body_of name ds) ≡ Some g → IsCallee j g
      by true later f =
          let same : h ≡ g = cc in
          subst (IsCallee j) same c.0
      by false later f = later f
  body_callee j name (tree.decls (tree.forward h) ds) g c e = body_callee j name ds g c.1 e
  body_callee j name (tree.decls d ds) g c e = body_callee j name ds g c e

  announced_callee : (j : ℕ) (h : Heading) (ds : PDecls) (o : Option Heading) → AreCallees j ds → body_of h.name.name ds ≡ o → if_so (not (is_some o)) h.name.spot ≡ [] →
      IsCallee j (heading_or h o)
  announced_callee j h ds None c e k = absurd (let clash : h.name.spot ∷ [] ≡ [] = k in cc)
  announced_callee j h ds (Some g) c e k = body_callee j h.name.name ds g c e

  -- `outer`: where the block j and those around it stand
  pub are_callees : (j : ℕ) (outer : List Spot) (ds : PDecls) (a : Surroundings) (first : List Declared) → map (number_at blocks) outer ≡ j ∷ around blocks j → DeclsSpecified ds →
      AllByRecursion (IsNumbered blocks) (blocks_in_decls ds outer) → AreNamed (sites_in_decls blocks ds a first) → AreCallees j ds
  are_callees j outer tree.no_decls a first e b n k = tt
  are_callees j outer (tree.decls (tree.simple kind ns) ds) a first e b n k = are_callees j outer ds (knowing blocks (tree.simple kind ns) ds a) first e b.1 n k.1
  are_callees j outer (tree.decls (tree.files ns) ds) a first e b n k = are_callees j outer ds (knowing blocks (tree.files ns) ds a) first e b.1 n k.1
  are_callees j outer (tree.decls (tree.events ns) ds) a first e b n k = are_callees j outer ds (knowing blocks (tree.events ns) ds a) first e b.1 n k.1
  are_callees j outer (tree.decls (tree.tasks ns) ds) a first e b n k = are_callees j outer ds (knowing blocks (tree.tasks ns) ds a) first e b.1 n k.1
  are_callees j outer (tree.decls (tree.labels ns) ds) a first e b n k = are_callees j outer ds (knowing blocks (tree.labels ns) ds a) first e b.1 n k.1
  are_callees j outer (tree.decls (tree.arrays kind ns pairs) ds) a first e b n k =
      let after : Surroundings = knowing blocks (tree.arrays kind ns pairs) ds a in
      are_callees j outer ds after first e b.1 n (each_back IsNamed (sites_in_pairs pairs (record after { known = first })) (sites_in_decls blocks ds after first) k.1)
  are_callees j outer (tree.decls (tree.forward h) ds) a first e b n k =
      let later = are_callees j outer ds (knowing blocks (tree.forward h) ds a) first e b.1 n k.1 in
      (announced_callee j h ds (body_of h.name.name ds) later refl (append_none_left (if_so (not (is_some (body_of h.name.name ds))) h.name.spot) (unknown_in_heading h) k.0), later)
  are_callees j outer (tree.decls (tree.procedure h t) ds) a first e b n k =
      let after : Surroundings = knowing blocks (tree.procedure h t) ds a in
      let c : Surroundings = inside_procedure blocks h after in
      let its : List Site = here_stmt t false c ∷ inside_stmt blocks t of_procedure false c in (
        numbered_callee j outer h t e b.0 n.0,
        are_callees j outer ds after first e b.1 (each_back (IsNumbered blocks) (blocks_of t of_procedure (h.name.spot ∷ outer)) (blocks_in_decls ds outer) n.1)
            (each_back IsNamed its (sites_in_decls blocks ds after first) k.1),
      )

  -- ---- blocks in one another

  -- around each of these blocks are those after it
  abbrev pub IsChain : List ℕ → Type 0
  IsChain [] = Unit {0}
  IsChain (k ∷ ks) = (around blocks k ≡ ks) × IsChain ks

  abbrev pub is_among : ℕ → List ℕ → Bool
  is_among k ks = list_any (λ (i : ℕ). i == k) ks

  -- one of them is found by how many are around it
  pub record IsPlacedIn (k : ℕ) (ks : List ℕ) : Type 0 where
    pub fewer : length (around blocks k) < length ks
    pub found : slice_get ks (length ks - 1 - length (around blocks k)) ≡ Some k

  pub chain_at : (k : ℕ) (ks : List ℕ) → IsChain ks → is_among k ks ≡ true → IsPlacedIn k ks
  chain_at k [] c e = absurd (let clash : false ≡ true = e in cc)
  chain_at k (m ∷ ms) c e = by (m == k) refl (chain_at k ms c.1) e
    where
      same : (m == k) ≡ true → m ≡ k
      same h = grind (arith, nat_tests)

      by : (b : Bool) → (m == k) ≡ b → (is_among k ms ≡ true → IsPlacedIn k ms) → (b || is_among k ms) ≡ true → IsPlacedIn k (m ∷ ms)
      by true h later f =
          let long : length (around blocks k) ≡ length ms = ap (λ (i : ℕ). length (around blocks i)) (sym (same h)) ∙ ap length c.0 in
          let first : length (m ∷ ms) - 1 - length (around blocks k) ≡ 0 = omega (arith, long) in
          record { fewer = omega (arith, long); found = ap (slice_get (m ∷ ms)) first ∙ ap Some (same h) }
      by false h later f =
          let its = later f in
          let next : length (m ∷ ms) - 1 - length (around blocks k) ≡ suc (length ms - 1 - length (around blocks k)) = omega (arith, its.fewer) in
          record { fewer = omega (arith, its.fewer); found = ap (slice_get (m ∷ ms)) next ∙ its.found }
