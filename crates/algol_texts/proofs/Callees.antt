-- Blocks by their numbers, the blocks of the procedures that a block declares, also where FORWARD announces them, and the blocks around a
-- place: one of them is found so many up as blocks are around it.
use Rattle.std.proofs.Common.{arith, ◌≡◌, ℕ, ◌-◌, ◌==◌, ◌<◌, ◌≤◌, ◌||◌, not, Bool, true, false, List, [], ◌∷◌, length, map, is_some, Option, Some, None, refl, sym, ap, ◌∙◌, subst, if◌then◌else◌, suc, slice_get}
use Rattle.std.proofs.lemmas.Bool.Decides.{nat_tests}
use Rattle.std.specs.List.{flat_map, list_any, AllByRecursion}
use Rattle.algol_tree.specs.declared.TheConstants.{MOST_LEVEL}
use Rattle.algol_tree.specs.declared.token.Spot.{Spot}
use Rattle.algol_tree.specs.declared.tree.Heading.{Heading}
use Rattle.algol_tree.specs.declared.tree.Named.{Named}
use Rattle.algol_tree.specs.Blocks.{Block, blocks_in_decl, blocks_in_decls, block_numbered, procedure_block, number_at, around}
use Rattle.algol_tree.specs.Cells.{level_of}
use Rattle.algol_tree.specs.Classes.{is_unspecified}
use Rattle.algol_tree.specs.Names.{if_so, unknown_in_heading, is_announced_by, twice_here, twice_in_heading}
use Rattle.algol_tree.specs.Plain as tree
use Rattle.algol_tree.specs.Plain.{PStmt, PStmts, PDecl, PDecls}
use Rattle.algol_tree.specs.Scopes.{Scopes}
use Rattle.algol_tree.specs.Sites as site
use Rattle.algol_tree.specs.Sites.{Site, inside_decl, sites_in_decls}
use Rattle.algol_tree.specs.Sorts.{same_name, Declared, Parameter, class_in, parameters_of}
use Rattle.algol_tree.specs.Surroundings.{Surroundings, declared_as, body_of, heading_or, announced, knowing}
use Rattle.algol_tree.proofs.Spots.{not_so}
use Rattle.algol_told.proofs.Lists.{none_of, all_left, all_right, all_weaker, false_not_true}
use Rattle.algol_calls.specs.Fits.{has_parameter, has_variable}
use Rattle.b67_list.proofs.Lists.{append_none_left, append_none_right}
use Rattle.algol_texts.proofs.Parameters.{result_clear, own_variables, later_variable}
use Rattle.algol_texts.proofs.Good.{IsGood, AreGood, nothing}

-- the block of a BEGIN
abbrev pub the_block : Spot → List Spot → PDecls → PStmts → Block
the_block spot outer ds ss = record { spot = spot; outer = outer; name = []; parameters = []; result = None; decls = ds; stmts = ss }

abbrev pub AreSpecified : Heading → List Named → Type 0
AreSpecified h ns = AllByRecursion (λ (n : Named). is_unspecified (class_in h.specs n.name) ≡ false) ns

module _ (blocks : List Block) where
  abbrev pub parameters_at : ℕ → List Parameter
  parameters_at k = (block_numbered blocks k).parameters

  -- The block has its number by its place, and is not too deep.
  pub record IsFine (b : Block) : Type 0 where
    pub there : number_at blocks b.spot < length blocks
    pub it_is : block_numbered blocks (number_at blocks b.spot) ≡ b
    pub low : level_of b ≤ MOST_LEVEL

  abbrev pub AreFine : List Block → Type 0
  AreFine bs = AllByRecursion IsFine bs

  -- ---- procedures

  -- The block of the procedure with this heading stands in the block j, and has its parameters, which are all specified. None has the name of
  -- a typed procedure.
  pub record IsCallee (j : ℕ) (h : Heading) : Type 0 where
    pub some : number_at blocks h.name.spot < length blocks
    pub around_is : around blocks (number_at blocks h.name.spot) ≡ j ∷ around blocks j
    pub parameters_are : parameters_at (number_at blocks h.name.spot) ≡ parameters_of h
    pub specified : AreSpecified h h.params
    pub clear : is_some h.kind ≡ true → has_parameter (parameters_of h) h.name.name ≡ false
    pub result_is : (block_numbered blocks (number_at blocks h.name.spot)).result ≡ h.kind
    pub name_is : (block_numbered blocks (number_at blocks h.name.spot)).name ≡ h.name.name

  -- .. of the procedure that is declared or announced, where these declarations come after it; and simple variables are those of the block
  abbrev pub DeclaresCallee : ℕ → PDecl → PDecls → Type 0
  DeclaresCallee j (tree.forward h) ds = IsCallee j (announced h ds)
  DeclaresCallee j (tree.procedure h t) ds = IsCallee j h
  DeclaresCallee j (tree.simple kind ns) ds = AllByRecursion (λ (n : Named). has_variable (block_numbered blocks j).decls n.name ≡ true) ns
  DeclaresCallee j d ds = Unit {0}

  abbrev pub AreCallees : ℕ → PDecls → Type 0
  AreCallees j tree.no_decls = Unit {0}
  AreCallees j (tree.decls d ds) = DeclaresCallee j d ds × AreCallees j ds

  -- the procedure of that name that comes later
  body_callee : (j : ℕ) (name : List ℕ) (ds : PDecls) (g : Heading) → AreCallees j ds → body_of name ds ≡ Some g → IsCallee j g
  body_callee j name tree.no_decls g c e = absurd (let clash : None ≡ Some g = e in cc)
  body_callee j name (tree.decls (tree.procedure h t) ds) g c e = by (same_name h.name.name name) (body_callee j name ds g c.1) e
    where
      by : (b : Bool) → (body_of name ds ≡ Some g → IsCallee j g) → (if b then Some h else body_of name ds) ≡ Some g → IsCallee j g
      by true later f =
          let same : h ≡ g = cc in
          subst (IsCallee j) same c.0
      by false later f = later f
  body_callee j name (tree.decls d ds) g c e = body_callee j name ds g c.1 e

  announced_callee : (j : ℕ) (h : Heading) (ds : PDecls) (o : Option Heading) → AreCallees j ds → body_of h.name.name ds ≡ o → if_so (not (is_some o)) h.name.spot ≡ [] →
      IsCallee j (heading_or h o)
  announced_callee j h ds None c e k = absurd (nothing h.name.spot [] k)
  announced_callee j h ds (Some g) c e k = body_callee j h.name.name ds g c e

  -- ---- blocks in one another

  -- around each of these blocks are those after it
  abbrev pub IsChain : List ℕ → Type 0
  IsChain [] = Unit {0}
  IsChain (k ∷ ks) = (around blocks k ≡ ks) × IsChain ks

  abbrev pub is_among : ℕ → List ℕ → Bool
  is_among k ks = list_any (λ (i : ℕ). i == k) ks

  -- one of them is found by how many are around it
  pub record IsPlacedIn (k : ℕ) (ks : List ℕ) : Type 0 where
    pub fewer : length (around blocks k) < length ks
    pub found : slice_get ks (length ks - 1 - length (around blocks k)) ≡ Some k

  pub chain_at : (k : ℕ) (ks : List ℕ) → IsChain ks → is_among k ks ≡ true → IsPlacedIn k ks
  chain_at k [] c e = absurd (false_not_true e)
  chain_at k (m ∷ ms) c e = by (m == k) refl (chain_at k ms c.1) e
    where
      same : (m == k) ≡ true → m ≡ k
      same h = grind (arith, nat_tests)

      by : (b : Bool) → (m == k) ≡ b → (is_among k ms ≡ true → IsPlacedIn k ms) → (b || is_among k ms) ≡ true → IsPlacedIn k (m ∷ ms)
      by true h later f =
          let long : length (around blocks k) ≡ length ms = ap (λ (i : ℕ). length (around blocks i)) (sym (same h)) ∙ ap length c.0 in
          let first : length (m ∷ ms) - 1 - length (around blocks k) ≡ 0 = omega (arith, long) in
          record { fewer = omega (arith, long); found = ap (slice_get (m ∷ ms)) first ∙ ap Some (same h) }
      by false h later f =
          let its = later f in
          let next : length (m ∷ ms) - 1 - length (around blocks k) ≡ suc (length ms - 1 - length (around blocks k)) = omega (arith, its.fewer) in
          record { fewer = omega (arith, its.fewer); found = ap (slice_get (m ∷ ms)) next ∙ its.found }

-- ---- the procedures of a part

each_specified : (h : Heading) (ns : List Named) → flat_map (λ (n : Named). if_so (is_unspecified (class_in h.specs n.name)) n.spot) ns ≡ [] → AreSpecified h ns
each_specified h ns e =
    all_weaker (λ (n : Named). if_so (is_unspecified (class_in h.specs n.name)) n.spot ≡ []) (λ (n : Named). is_unspecified (class_in h.specs n.name) ≡ false)
    (λ n k. not_so (is_unspecified (class_in h.specs n.name)) n.spot k) ns (none_of (λ (n : Named). if_so (is_unspecified (class_in h.specs n.name)) n.spot) ns e)

module _ (sc : Scopes) (j : ℕ) (outer : List Spot) (stands : map (number_at sc.blocks) outer ≡ j ∷ around sc.blocks j) where
  numbered_callee : (h : Heading) (t : PStmt) (ds : PDecls) (a : Surroundings) → IsFine sc.blocks (procedure_block h t outer) →
      IsGood sc (record { part = site.declaration (tree.procedure h t) ds; around = a }) → IsCallee sc.blocks j h
  numbered_callee h t ds a f g =
      let before : List Spot = if is_announced_by a.block h (declared_as a h.name) then [] else twice_here sc.blocks a (h.name ∷ []) in
      record {
        some = f.there;
        around_is = ap (λ (z : Block). map (number_at sc.blocks) z.outer) f.it_is ∙ stands;
        parameters_are = ap (λ (z : Block). z.parameters) f.it_is;
        specified = each_specified h h.params (append_none_left (flat_map (λ (n : Named). if_so (is_unspecified (class_in h.specs n.name)) n.spot) h.params) _ g.right);
        clear = result_clear h (append_none_right before (twice_in_heading h) g.clear);
        result_is = ap (λ (z : Block). z.result) f.it_is;
        name_is = ap (λ (z : Block). z.name) f.it_is;
      }

  -- the simple variables of these declarations are those of the block
  abbrev pub AreOwn : PDecls → Type 0
  AreOwn ds = (name : List ℕ) → has_variable ds name ≡ true → has_variable (block_numbered sc.blocks j).decls name ≡ true

  one_callee : (d : PDecl) (ds : PDecls) (a : Surroundings) → AreOwn (tree.decls d ds) → AreCallees sc.blocks j ds → AreFine sc.blocks (blocks_in_decl d outer) →
      IsGood sc (record { part = site.declaration d ds; around = a }) → DeclaresCallee sc.blocks j d ds
  one_callee (tree.simple kind ns) ds a own later f g =
      all_weaker (λ (n : Named). has_variable (tree.decls (tree.simple kind ns) ds) n.name ≡ true) (λ (n : Named). has_variable (block_numbered sc.blocks j).decls n.name ≡ true)
      (λ n e. own n.name e) ns (own_variables kind ns ds)
  one_callee (tree.forward h) ds a own later f g =
      announced_callee sc.blocks j h ds (body_of h.name.name ds) later refl (append_none_left (if_so (not (is_some (body_of h.name.name ds))) h.name.spot) (unknown_in_heading h) g.known)
  one_callee (tree.procedure h t) ds a own later f g = numbered_callee h t ds a f.0 g
  one_callee d ds a own later f g = tt

  -- `outer`: where the block j and those around it stand
  pub are_callees : (ds : PDecls) (a : Surroundings) (first : List Declared) → AreOwn ds → AreFine sc.blocks (blocks_in_decls ds outer) → AreGood sc (sites_in_decls sc.blocks ds a first) →
      AreCallees sc.blocks j ds
  are_callees tree.no_decls a first own f g = tt
  are_callees (tree.decls d ds) a first own f g =
      let b : Surroundings = knowing sc.blocks d ds a in
      let later =
      are_callees ds b first (λ name e. own name (later_variable d ds name e)) (all_right (IsFine sc.blocks) (blocks_in_decl d outer) (blocks_in_decls ds outer) f)
      (all_right (IsGood sc) (inside_decl sc.blocks d b first) (sites_in_decls sc.blocks ds b first) g.1) in
      (one_callee d ds a own later (all_left (IsFine sc.blocks) (blocks_in_decl d outer) (blocks_in_decls ds outer) f) g.0, later)
