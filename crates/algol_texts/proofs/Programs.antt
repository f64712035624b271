-- The texts of an accepted program, whose places are in the order of its text.
use Rattle.std.proofs.Common.{arith, ◌≡◌, ℕ, ◌+◌, ◌<◌, true, List, [], ◌∷◌, ◌++◌, map, length, refl, sym, ap, ◌∙◌, subst, zero, suc}
use Rattle.std.specs.List.{AllByRecursion}
use Rattle.algol_tree.specs.declared.TheConstants.{MOST_LEVEL}
use Rattle.algol_tree.specs.declared.token.Spot.{Spot}
use Rattle.algol_tree.specs.declared.tree.Named.{Named}
use Rattle.algol_tree.specs.Accepted.{Accepted, scope_faults, check_faults, sites_of}
use Rattle.algol_tree.specs.Ascending.{IsInOrder}
use Rattle.algol_tree.specs.Blocks.{Block, blocks_of_program, blocks_in_decls, blocks_in_stmts, block_numbered, number_at, around}
use Rattle.algol_tree.specs.Cells.{level_of}
use Rattle.algol_tree.specs.Checks.{wrong_types, not_assignable}
use Rattle.algol_tree.specs.Counted.{wrong_counts}
use Rattle.algol_tree.specs.Names.{if_so, is_too_deep, unknown_names, declared_twice, deep_blocks}
use Rattle.algol_tree.specs.Plain as tree
use Rattle.algol_tree.specs.Plain.{PProgram}
use Rattle.algol_tree.specs.Scopes.{Scopes, scopes_of, names_in}
use Rattle.algol_tree.specs.Sites.{Site, sites_in_decls, sites_in_stmts, has_decls}
use Rattle.algol_tree.specs.Surroundings.{Surroundings, outermost, knowing_all}
use Rattle.algol_tree.proofs.Spots.{not_so}
use Rattle.algol_scope.specs.Stating.{AreNumbered}
use Rattle.algol_scope.proofs.Numbering.{in_order}
use Rattle.algol_meaning.specs.Statements.{items_of}
use Rattle.algol_paths.specs.Laws.{ItemsKeepToText}
use Rattle.algol_calls.specs.Fits.{ItemsFit, has_variable}
use Rattle.algol_front_laws.specs.Declarations.{EachOnce}
use Rattle.algol_front_laws.specs.Uses.{IsLookedUp, use_in}
use Rattle.algol_told.proofs.Lists.{none_of, all_left, all_right, all_append, all_both}
use Rattle.algol_front_laws.proofs.Uses.{each_looked_up}
use Rattle.algol_front_laws.proofs.Sources.{each_site_once, source_in_order}
use Rattle.b67_list.proofs.Lists.{append_none_left, append_none_right, none_mapped}
use Rattle.b67_list.proofs.Numbers.{ltb_false}
use Rattle.algol_texts.specs.Laws.{TextsOfAcceptedFit, TextsOfSourcesFit}
use Rattle.algol_texts.proofs.Parameters.{HasParameter}
use Rattle.algol_texts.proofs.Good.{IsUse, IsGood, AreGood}
use Rattle.algol_texts.proofs.Callees.{the_block, IsFine, AreFine, AreCallees, IsChain, are_callees}
use Rattle.algol_texts.proofs.Around.{HaveAll, IsAround, knows_all}
use Rattle.algol_texts.proofs.Items.{IsTextOf, is_text}
use Rattle.algol_texts.proofs.Statements.{in_stmts, in_decls}

-- ---- each part is good

-- No rule is broken at a part, but for those of limits, lines and labels.
record IsKept (blocks : List Block) (x : Site) : Type 0 where
  known : unknown_names x ≡ []
  clear : declared_twice blocks x ≡ []
  right : wrong_types blocks x ≡ []
  assignable : not_assignable blocks x ≡ []
  counted : wrong_counts x ≡ []

kept_by : (blocks : List Block) (xs : List Site) → AllByRecursion (λ (x : Site). unknown_names x ≡ []) xs → AllByRecursion (λ (x : Site). declared_twice blocks x ≡ []) xs →
    AllByRecursion (λ (x : Site). wrong_types blocks x ≡ []) xs → AllByRecursion (λ (x : Site). not_assignable blocks x ≡ []) xs → AllByRecursion (λ (x : Site). wrong_counts x ≡ []) xs →
    AllByRecursion (IsKept blocks) xs
kept_by blocks [] k t w n c = tt
kept_by blocks (x ∷ xs) k t w n c =
    (record { known = k.0; clear = t.0; right = w.0; assignable = n.0; counted = c.0 }, kept_by blocks xs k.1 t.1 w.1 n.1 c.1)

each_kept : (p : PProgram) → Accepted p → AllByRecursion (IsKept (blocks_of_program p)) (sites_of p)
unfolding scope_faults check_faults
each_kept p accepted =
    let names = append_none_left _ _ (append_none_left _ _ (append_none_left _ _ (append_none_left _ _ accepted.scoped))) in
    let up_to_assigned = append_none_left _ _ (append_none_left _ _ (append_none_left _ _ accepted.checked)) in
    let types = append_none_left _ _ up_to_assigned in
    let xs = sites_of p in
    let blocks = blocks_of_program p in
    kept_by blocks xs (none_of unknown_names xs (none_mapped _ _ (append_none_left _ _ names))) (none_of (declared_twice blocks) xs (none_mapped _ _ (append_none_right _ _ names)))
    (none_of (wrong_types blocks) xs (none_mapped _ _ (append_none_left _ _ types))) (none_of (not_assignable blocks) xs (none_mapped _ _ (append_none_right _ _ up_to_assigned)))
    (none_of wrong_counts xs (none_mapped _ _ (append_none_right _ _ types)))

module _ (p : PProgram) where
  uses_good : (x : Site) (ns : List Named) → AllByRecursion (λ (n : Named). IsLookedUp p x.part x.around n) ns →
      AllByRecursion (λ (n : Named). IsUse (scopes_of p) (use_in x.part x.around n) x.around n) ns
  uses_good x [] h = tt
  uses_good x (n ∷ ns) h = (record { declared = h.0.declared; found = h.0.found; used = h.0.used }, uses_good x ns h.1)

  each_good : Accepted p → IsInOrder p → AreGood (scopes_of p) (sites_of p)
  unfolding scopes_of
  each_good accepted order =
      all_both (λ (x : Site). AllByRecursion (λ (n : Named). IsLookedUp p x.part x.around n) (names_in x.part)) (λ (x : Site). EachOnce x.around × IsKept (blocks_of_program p) x) (IsGood (scopes_of p))
      (λ x u k.
      record { uses = uses_good x (names_in x.part) u; once = k.0; known = k.1.known; clear = k.1.clear; right = k.1.right; assignable = k.1.assignable; counted = k.1.counted })
      (sites_of p) (each_looked_up p accepted.scoped order)
      (all_both (λ (x : Site). EachOnce x.around) (IsKept (blocks_of_program p)) (λ (x : Site). EachOnce x.around × IsKept (blocks_of_program p) x) (λ x o k. (o, k)) (sites_of p)
      (each_site_once p accepted.scoped order) (each_kept p accepted))

-- ---- each block is fine

abbrev IsLow : Block → Type 0
IsLow b = if_so (is_too_deep (level_of b)) b.spot ≡ []

module _ (blocks : List Block) where
  -- those from the number n on
  fine_from : (n : ℕ) (bs : List Block) → n + length bs ≡ length blocks → AreNumbered blocks n bs → AllByRecursion IsLow bs → AreFine blocks bs
  fine_from n [] e h l = tt
  fine_from n (b ∷ bs) e h l = (
    record {
      there = omega (arith, e, h.0);
      it_is = ap (block_numbered blocks) h.0 ∙ h.1.0;
      low = ltb_false MOST_LEVEL (level_of b) (not_so (is_too_deep (level_of b)) b.spot l.0);
    },
    fine_from (n + 1) bs (omega (arith, e)) h.1.1 l.1,
  )

each_low : (p : PProgram) → Accepted p → AllByRecursion IsLow (blocks_of_program p)
unfolding scope_faults
each_low p accepted =
    none_of (λ (b : Block). if_so (is_too_deep (level_of b)) b.spot) (blocks_of_program p)
    (append_none_left (deep_blocks (blocks_of_program p)) _ (none_mapped _ _ (append_none_right _ _ (append_none_left _ _ (append_none_left _ _ (append_none_left _ _ accepted.scoped))))))

each_fine : (p : PProgram) → Accepted p → IsInOrder p → AreFine (blocks_of_program p) (blocks_of_program p)
each_fine p accepted order = fine_from (blocks_of_program p) 0 (blocks_of_program p) (omega arith) (in_order p order) (each_low p accepted)

-- ---- the texts by their numbers

abbrev TextAt : Scopes → ℕ → Type 0
TextAt sc k = ItemsKeepToText sc k (items_of (block_numbered sc.blocks k)) × ItemsFit sc (items_of (block_numbered sc.blocks k))

text_from : (sc : Scopes) (n : ℕ) (bs : List Block) → AreNumbered sc.blocks n bs → AllByRecursion (IsTextOf sc) bs → (i : ℕ) → i < length bs → TextAt sc (n + i)
text_from sc n [] h t i l = absurd (omega (arith, l))
text_from sc n (b ∷ bs) h t zero l =
    let at : number_at sc.blocks b.spot ≡ n + 0 = omega (arith, h.0) in
    subst (TextAt sc) at t.0
text_from sc n (b ∷ bs) h t (suc i) l =
    let next : n + 1 + i ≡ n + suc i = omega arith in
    subst (TextAt sc) next (text_from sc (n + 1) bs h.1.1 t.1 i (omega (arith, l)))

-- ---- the program

-- the outermost place
outermost_around : (blocks : List Block) (spot : Spot) → 0 < length blocks → (block_numbered blocks 0).outer ≡ [] → (block_numbered blocks 0).parameters ≡ [] → number_at blocks spot ≡ 0 →
    IsAround blocks (number_at blocks spot) (spot ∷ []) outermost
outermost_around blocks spot some none bare e =
    let k = number_at blocks spot in
    let alone : around blocks k ≡ [] = ap (around blocks) e ∙ ap (map (number_at blocks)) none in
    let all : HaveAll blocks [] (k ∷ []) =
    (subst (λ (i : ℕ). AllByRecursion (HasParameter [] k) ((block_numbered blocks i).parameters)) (sym e) (subst (AllByRecursion (HasParameter [] k)) (sym bare) tt), tt) in
    record {
      block_is = sym e;
      some = omega (arith, e, some);
      chain_is = ap (λ z. k ∷ z) (sym alone);
      chain = subst (IsChain blocks) (sym alone) tt;
      deep = ap length alone;
      known = tt;
      whole = subst (λ z. HaveAll blocks [] (k ∷ z)) (sym alone) all;
    }

each_text : (p : PProgram) → Accepted p → IsInOrder p → AllByRecursion (IsTextOf (scopes_of p)) (blocks_of_program p)
unfolding scopes_of blocks_of_program
each_text (tree.program (tree.body spot ds ss)) accepted order =
    let p : PProgram = tree.program (tree.body spot ds ss) in
    let sc : Scopes = scopes_of p in
    let outer : List Spot = spot ∷ [] in
    let first : Block = the_block spot [] ds ss in
    let inner : List Block = blocks_in_decls ds outer ++ blocks_in_stmts ss outer in
    let blocks : List Block = first ∷ inner in
    let k : ℕ = number_at blocks spot in
    let after : Surroundings = knowing_all blocks ds outermost in
    let declared : List Site = sites_in_decls blocks ds outermost [] in
    let stated : List Site = sites_in_stmts blocks ss (has_decls ds) after in
    let good : AreGood sc (declared ++ stated) = each_good p accepted order in
    let fine : AreFine blocks (first ∷ inner) = each_fine p accepted order in
    let begun : IsAround blocks k outer outermost = outermost_around blocks spot (omega arith) refl refl ((in_order p order).0) in
    let fine_decls = all_left (IsFine blocks) (blocks_in_decls ds outer) (blocks_in_stmts ss outer) fine.1 in
    let fine_stmts = all_right (IsFine blocks) (blocks_in_decls ds outer) (blocks_in_stmts ss outer) fine.1 in
    let part = all_left (IsGood sc) declared stated good in
    let called : AreCallees blocks k ds =
    are_callees sc k outer begun.chain_is ds outermost [] (λ name e. subst (λ (z : Block). has_variable z.decls name ≡ true) (sym fine.0.it_is) e) fine_decls part in
    let bounds = in_decls sc k outer outermost ds [] begun begun tt called part fine_decls in
    let nested = in_stmts sc k outer after ss (has_decls ds) (knows_all blocks k outer ds outermost called begun) (all_right (IsGood sc) declared stated good) fine_stmts in
    (is_text sc first fine.0 bounds.0 nested.0, all_append (IsTextOf sc) (blocks_in_decls ds outer) (blocks_in_stmts ss outer) bounds.1 nested.1)

texts_are : (p : PProgram) → Accepted p → IsInOrder p → (j : ℕ) → j < length (scopes_of p).blocks → TextAt (scopes_of p) j
unfolding scopes_of
texts_are p accepted order j h =
    let from : 0 + j ≡ j = omega arith in
    subst (TextAt (scopes_of p)) from (text_from (scopes_of p) 0 (blocks_of_program p) (in_order p order) (each_text p accepted order) j h)

-- the block that comes first
record IsOutermost (sc : Scopes) : Type 0 where
  known : 0 < length sc.blocks
  alone : around sc.blocks 0 ≡ []
  parameterless : (block_numbered sc.blocks 0).parameters ≡ []

outer_is : (p : PProgram) → IsOutermost (scopes_of p)
unfolding scopes_of blocks_of_program
outer_is (tree.program (tree.body spot ds ss)) = record { known = omega arith; alone = refl; parameterless = refl }

pub texts_of_accepted_fit : TextsOfAcceptedFit
texts_of_accepted_fit p accepted order =
    let outer = outer_is p in
    let first = texts_are p accepted order 0 outer.known in
    record {
      texts = record { keep = λ j h. (texts_are p accepted order j h).0; fit = λ j h. (texts_are p accepted order j h).1 };
      outer = record { known = outer.known; outermost = outer.alone; parameterless = outer.parameterless; text = first.0; fit = first.1 };
    }

pub texts_of_sources_fit : TextsOfSourcesFit
texts_of_sources_fit bytes p s = texts_of_accepted_fit p s.accepted (source_in_order bytes p s)
