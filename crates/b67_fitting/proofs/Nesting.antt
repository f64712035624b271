-- The blocks of an accepted program lie in one another.
use Rattle.std.proofs.Common.{arith, ◌≡◌, inl, inr, ℕ, ◌<◌, ◌≤◌, nat_lt, Bool, true, false, List, [], ◌∷◌, ◌++◌, filter, length, map, take, Option, Some, None, refl, sym, ap, subst, zero, suc, slice_get, get_or, if◌then◌else◌}
use Rattle.std.proofs.lemmas.List.{length-map}
use Rattle.std.proofs.lemmas.Option.{slice_get-get_or}
use Rattle.std.specs.List.{flat_map, AllByRecursion}
use Rattle.algol_tree.specs.declared.TheConstants.{MOST_BLOCK_CELLS, MOST_SEGMENT_TOKENS, MOST_LEVEL, MOST_PROCEDURES}
use Rattle.algol_tree.specs.declared.token.Spot.{Spot}
use Rattle.algol_tree.specs.Accepted.{scope_faults, check_faults, sites_of}
use Rattle.algol_tree.specs.Ascending.{IsInOrder, spots_of, spots_of_decls, spots_of_stmts}
use Rattle.algol_tree.specs.Blocks.{Block, block_numbered, blocks_of_program, blocks_in_decls, blocks_in_stmts, number_at, around}
use Rattle.algol_tree.specs.Cells.{Cell, cells_of, level_of}
use Rattle.algol_tree.specs.Checks.{wrong_types, not_assignable}
use Rattle.algol_tree.specs.Names.{Segment, if_so, is_too_deep, declared_twice, place_beyond, cells_beyond, procedures, procedures_beyond, deep_blocks, segments, long_segments, unknown_names}
use Rattle.algol_tree.specs.Plain as tree
use Rattle.algol_tree.specs.Plain.{PDecls, PStmts, PProgram}
use Rattle.algol_tree.specs.Scopes.{Scopes, scopes_of, scopes_by, uses_at}
use Rattle.algol_tree.specs.Sites.{Site, sites_in_decls, sites_in_stmts, has_decls}
use Rattle.algol_tree.specs.Surroundings.{Surroundings, outermost, knowing_all}
use Rattle.algol_tree.proofs.Spots.{not_so}
use Rattle.algol_tree.proofs.Trees.{block_is}
use Rattle.algol_paths.specs.Segments.{is_procedure, procedures_before, tokens_or_none, segment_tokens}
use Rattle.b67_templates.specs.Cells.{parameters_around, actuals_in_stmts}
use Rattle.b67_list.proofs.Lists.{append_none_left, append_none_right, each_at, each_back, each_both, each_front, empty_if_none, none_mapped}
use Rattle.b67_list.proofs.Numbers.{ltb_false}
use Rattle.b67_fitting.proofs.Headings.{DeclsSpecified, StmtsSpecified}
use Rattle.b67_fitting.proofs.HeadingsTyped.{IsTyped, in_decls as specified_decls, in_stmts as specified_stmts}
use Rattle.b67_templates.specs.Names.{DeclsNamed, StmtsNamed}
use Rattle.b67_templates.specs.Nested.{AreParameters, IsText, AreNested, ProgramsLieNested}
use Rattle.b67_fitting.proofs.Lists.{nil_each}
use Rattle.b67_fitting.proofs.Numbering.{times_both, places, places_both, once, Apart, once_apart, use_place, IsThere, all_there, block_place, IsNumbered, all_numbered, number_is, number_first}
use Rattle.b67_fitting.proofs.Apart.{Apart as IsApartList, IsIn, each_in, ascending_apart, apart_front, apart_back}
use Rattle.b67_fitting.proofs.Frames.{named_of, named_long}
use Rattle.b67_fitting.proofs.Given.{AreWhole}
use Rattle.b67_fitting.proofs.NamedBlocks.{HasNamed, HaveNamed, in_stmts as names_in_stmts, in_decls as names_in_decls}
use Rattle.b67_fitting.proofs.Parameters.{outside}
use Rattle.b67_fitting.proofs.ResultsApart.{IsClear, AreClear, AreOnce, in_stmts as clear_stmts, in_decls as clear_decls}
use Rattle.b67_fitting.proofs.Headed.{IsIt, of_begin, in_stmts as headed_stmts, in_decls as headed_decls}
use Rattle.b67_fitting.proofs.UsesOnce as uses
use Rattle.b67_fitting.proofs.BlocksOnce as inner
use Rattle.b67_fitting.proofs.ActualsFew.{few_bounds, few_stmts}
use Rattle.b67_fitting.proofs.Callees.{IsChain, AreCallees}
use Rattle.b67_fitting.proofs.Surrounded.{IsAround, knows_all, AreKept, AreGood}
use Rattle.b67_fitting.proofs.Bounds.{in_bounds}
use Rattle.b67_fitting.proofs.CellsFew.{cells_both, FewBounds, as_many, parameters_many}
use Rattle.b67_fitting.proofs.OneBlock.{the_block, IsFine, AreFine, ArePart, front, back, IsTextOf, is_text}
use Rattle.b67_fitting.proofs.TextsNested.{callees, in_stmts, in_decls}
use Rattle.b67_fitting.proofs.Limits.{none_beyond}

-- ---- limits that are kept

-- among the first of a list no more pass a test than in all of it
fewer_before : {X : Type 0} (test : X → Bool) (xs : List X) (k : ℕ) → length (filter test (take k xs)) ≤ length (filter test xs)
fewer_before test xs zero = omega arith
fewer_before test [] (suc k) = omega arith
fewer_before {X} test (x ∷ xs) (suc k) = by (test x) (filter test (take k xs)) (filter test xs) (fewer_before test xs k)
  where
    by : (b : Bool) (ys zs : List X) → length ys ≤ length zs → length (if b then x ∷ ys else ys) ≤ length (if b then x ∷ zs else zs)
    by true ys zs h = omega (arith, h)
    by false ys zs h = h

few_procedures : (blocks : List Block) → procedures_beyond blocks ≡ [] → (j : ℕ) → procedures_before blocks j ≤ MOST_PROCEDURES
few_procedures blocks h j =
    omega (
      arith,
      fewer_before is_procedure blocks j,
      none_beyond MOST_PROCEDURES (map (λ (b : Block). b.spot) (procedures blocks)) h,
      length-map (procedures blocks) (λ (b : Block). b.spot),
    )

-- a segment that is not there has no tokens
short_segments : (p : PProgram) → long_segments p (sites_of p) ≡ [] → (k : ℕ) → segment_tokens p k ≤ MOST_SEGMENT_TOKENS
short_segments p h k = by (slice_get (segments p (sites_of p)) k) refl
  where
    IsShort : Segment → Type 0
    IsShort s = if_so (nat_lt MOST_SEGMENT_TOKENS s.tokens) s.spot ≡ []

    by : (o : Option Segment) → slice_get (segments p (sites_of p)) k ≡ o → tokens_or_none o ≤ MOST_SEGMENT_TOKENS
    by None e = omega arith
    by (Some s) e =
        ltb_false MOST_SEGMENT_TOKENS s.tokens (not_so (nat_lt MOST_SEGMENT_TOKENS s.tokens) s.spot (each_at IsShort (segments p (sites_of p)) k s (nil_each _ (segments p (sites_of p)) h) e))

-- ---- all parts and blocks keep the rules

of_each : {X Y : Type 0} (P : Y → Type 0) (f : X → List Y) (xs : List X) → AllByRecursion P (flat_map f xs) → AllByRecursion (λ (x : X). AllByRecursion P (f x)) xs
of_each P f [] h = tt
of_each P f (x ∷ xs) h = (each_front P (f x) (flat_map f xs) h, of_each P f xs (each_back P (f x) (flat_map f xs) h))

all_good : (sc : Scopes) (xs : List Site) → AllByRecursion (λ x. AllByRecursion (IsThere sc.uses) (uses_at x)) xs → AllByRecursion (λ x. unknown_names x ≡ []) xs → AreGood sc xs
all_good sc [] t k = tt
all_good sc (x ∷ xs) t k = (record { there = t.0; known = k.0 }, all_good sc xs t.1 k.1)

pub all_kept : (blocks : List Block) (xs : List Site) → AllByRecursion (λ x. wrong_types blocks x ≡ []) xs → AllByRecursion (λ x. not_assignable blocks x ≡ []) xs → AreKept blocks xs
all_kept blocks [] w n = tt
all_kept blocks (x ∷ xs) w n = (record { right = w.0; assignable = n.0 }, all_kept blocks xs w.1 n.1)

-- a block of such a number is one of them
pub there_numbered : (bs : List Block) (j : ℕ) → j < length bs → IsIn (block_numbered bs j) bs
there_numbered [] j h = absurd (omega (arith, h))
there_numbered (b ∷ bs) zero h = inl refl
there_numbered (b ∷ bs) (suc j) h = inr (there_numbered bs j (omega (arith, h)))

module _ (sc : Scopes) (all : List Site) where
  abbrev IsLow : Block → Type 0
  IsLow b = if_so (is_too_deep (level_of b)) b.spot ≡ []

  abbrev HasFew : Block → Type 0
  HasFew b = place_beyond MOST_BLOCK_CELLS (map (λ (c : Cell). c.spot) (cells_of sc.blocks all (number_at sc.blocks b.spot))) ≡ []

  one_fine : (b : Block) → IsNumbered sc.blocks b → AreParameters sc b → HasNamed b → IsLow b → HasFew b → IsFine sc all b
  one_fine b n v m l h =
      let its = cells_of sc.blocks all (number_at sc.blocks b.spot) in
      record {
        numbered = n;
        headed = v;
        named = m;
        low = ltb_false MOST_LEVEL (level_of b) (not_so (is_too_deep (level_of b)) b.spot l);
        few = omega (arith, none_beyond MOST_BLOCK_CELLS (map (λ (c : Cell). c.spot) its) h, length-map its (λ (c : Cell). c.spot));
      }

  all_fine : (bs : List Block) → AllByRecursion (IsNumbered sc.blocks) bs → AllByRecursion (AreParameters sc) bs → HaveNamed bs → AllByRecursion IsLow bs → AllByRecursion HasFew bs → AreFine sc all bs
  all_fine [] n v m l h = tt
  all_fine (b ∷ bs) n v m l h = (one_fine b n.0 v.0 m.0 l.0 h.0, all_fine bs n.1 v.1 m.1 l.1 h.1)

-- ---- the program

module _ (spot : Spot) (ds : PDecls) (ss : PStmts) (order : IsInOrder (tree.program (tree.body spot ds ss))) where
  abbrev pub program : PProgram
  program = tree.program (tree.body spot ds ss)

  abbrev pub outer : List Spot
  outer = spot ∷ []

  abbrev pub others : List Block
  others = blocks_in_decls ds outer ++ blocks_in_stmts ss outer

  abbrev pub blocks : List Block
  blocks = the_block spot [] ds ss ∷ others

  abbrev behind : Surroundings
  behind = knowing_all blocks ds outermost

  abbrev declared : List Site
  declared = sites_in_decls blocks ds outermost []

  abbrev stated : List Site
  stated = sites_in_stmts blocks ss (has_decls ds) behind

  abbrev all : List Site
  all = declared ++ stated

  abbrev sc : Scopes
  sc = scopes_by program blocks

  each_once : (s : Spot) → places s (spots_of program) ≤ 1
  each_once s = once (spots_of program) order s

  uses_apart : Apart use_place (flat_map uses_at all)
  uses_apart =
      once_apart use_place (flat_map uses_at all)
      (λ s. omega (
        arith,
        uses.uses_all s all,
        uses.uses_both s declared stated,
        uses.in_decls s blocks ds outermost [],
        uses.in_stmts s blocks ss (has_decls ds) behind,
        each_once s,
        places_both s (spots_of_decls ds) (spots_of_stmts ss),
      ))

  pub blocks_apart : Apart block_place blocks
  blocks_apart =
      once_apart block_place blocks
      (λ s. omega (
        arith,
        times_both block_place s (blocks_in_decls ds outer) (blocks_in_stmts ss outer),
        inner.in_decls s ds outer,
        inner.in_stmts s ss outer,
        each_once s,
        places_both s (spots_of_decls ds) (spots_of_stmts ss),
      ))

  -- no parameter of a typed procedure has its name, where nothing is declared twice
  clear : AreOnce blocks all → AreClear blocks
  clear once = (
    λ kind e. absurd (let clash : None ≡ Some kind = e in cc),
    each_both IsClear (blocks_in_decls ds outer) (blocks_in_stmts ss outer)
        (clear_decls blocks ds outermost [] outer (each_front (λ (x : Site). declared_twice blocks x ≡ []) declared stated once))
        (clear_stmts blocks ss (has_decls ds) behind outer (each_back (λ (x : Site). declared_twice blocks x ≡ []) declared stated once)),
  )

  its_own : (bs : List Block) → AllByRecursion (IsNumbered blocks) bs → AreClear bs → AllByRecursion (IsIt sc) bs
  its_own [] n c = tt
  its_own (b ∷ bs) n c = ((block_is blocks (number_at blocks b.spot) b n.0, c.0), its_own bs n.1 c.1)

  -- the number of the outermost block
  abbrev pub first : ℕ
  first = number_at blocks spot

  number_outer : first ≡ 0
  number_outer = number_first (the_block spot [] ds ss) others

  none_around : around blocks first ≡ []
  none_around = ap (around blocks) number_outer

  pub starts : IsAround blocks first outer outermost
  starts =
      record {
        block_is = sym number_outer;
        some = omega (arith, number_outer);
        chain_is = ap (λ z. first ∷ z) (sym none_around);
        chain = subst (IsChain blocks) (sym none_around) tt;
        deep = ap length none_around;
        known = tt;
      }

  pub good_by : flat_map unknown_names all ≡ [] → AreGood sc all
  good_by unknown =
      all_good sc all (of_each (IsThere sc.uses) uses_at all (all_there sc.uses uses_apart)) (nil_each unknown_names all unknown)

  -- the procedures of each block have names
  named_blocks : DeclsNamed ds → StmtsNamed ss → HaveNamed blocks
  named_blocks named_decls named =
      (named_decls, each_both HasNamed (blocks_in_decls ds outer) (blocks_in_stmts ss outer) (names_in_decls ds outer named_decls) (names_in_stmts ss outer named))

  -- where each parameter is specified
  module _ (decls_right : DeclsSpecified ds) (stmts_right : StmtsSpecified ss) where
    -- all blocks have the cells of their parameters
    pub headed : AreOnce blocks all → AllByRecursion (AreParameters sc) blocks
    headed once =
        let first : Block = the_block spot [] ds ss in
        let declared = blocks_in_decls ds outer in
        let stated = blocks_in_stmts ss outer in
        let its = its_own blocks (all_numbered blocks blocks_apart) (clear once) in
        let apart : IsApartList (spots_of_decls ds ++ spots_of_stmts ss) = (ascending_apart (spots_of program) order).1 in (
          of_begin sc first refl refl,
          each_both (AreParameters sc) declared stated
              (headed_decls sc first its.0 ds decls_right (apart_front (spots_of_decls ds) (spots_of_stmts ss) apart) (λ s i. refl) (each_front (IsIt sc) declared stated its.1))
              (headed_stmts sc first its.0 ss stmts_right (apart_back (spots_of_decls ds) (spots_of_stmts ss) apart) (outside ds (spots_of_stmts ss) apart) (each_back (IsIt sc) declared stated its.1)),
        )

    pub whole : AreOnce blocks all → AreWhole blocks
    whole once =
        record {
          numbered = λ b i. block_is blocks (number_at blocks b.spot) b (each_in (IsNumbered blocks) b blocks (all_numbered blocks blocks_apart) i);
          no_cells = λ b i e. empty_if_none (parameters_around blocks b.outer b.spot) (omega (arith, parameters_many sc b (each_in (AreParameters sc) b blocks (headed once) i), ap length e));
          no_names = λ b i e. empty_if_none (named_of blocks b) (omega (arith, named_long blocks b, parameters_many sc b (each_in (AreParameters sc) b blocks (headed once) i), ap length e));
        }

    -- `its_own`: each block has the cells of its parameters
    module _ (its_own : (k : ℕ) → k < length blocks → AreParameters sc (block_numbered blocks k)) (good : AreGood sc all) (kept : AreKept blocks all) (fine : AreFine sc all blocks) where
      parts : ArePart sc all all
      parts = record { good = good; kept = kept; less = λ k. omega arith }

      texts : AllByRecursion (λ (b : Block). IsText sc (number_at blocks b.spot)) blocks
      texts =
          let fine_decls = each_front (IsFine sc all) (blocks_in_decls ds outer) (blocks_in_stmts ss outer) fine.1 in
          let fine_stmts = each_back (IsFine sc all) (blocks_in_decls ds outer) (blocks_in_stmts ss outer) fine.1 in
          let part = front sc all declared stated parts in
          let called : AreCallees blocks first ds = callees sc all its_own refl first outer ds outermost [] starts.chain_is decls_right fine_decls part in
          let begun = knows_all blocks first outer ds outermost decls_right called starts in
          let in_procedures = in_decls sc all its_own refl first outer outermost ds [] starts decls_right called part fine_decls in
          let nested = in_stmts sc all its_own refl first outer behind ss (has_decls ds) begun stmts_right (back sc all declared stated parts) fine_stmts in
          let few_declared : FewBounds sc outermost [] ds = few_bounds sc its_own refl first outer outermost [] ds starts decls_right part.good in
          let few_stated : length (actuals_in_stmts sc ss) ≤ length (cells_of blocks stated first) =
          subst (λ (m : ℕ). length (actuals_in_stmts sc ss) ≤ length (cells_of blocks stated m)) begun.block_is
          (few_stmts sc its_own refl first outer behind begun ss (has_decls ds) stmts_right ((back sc all declared stated parts).good)) in
          let same_cells : length (cells_of blocks declared first) ≡ length (cells_of blocks declared 0) = ap (λ (i : ℕ). length (cells_of blocks declared i)) number_outer in
          let bounds = in_bounds sc first outer outermost ds [] starts tt decls_right part.good in
          let its_text =
          is_text sc all (the_block spot [] ds ss) fine.0 called
          (omega (arith, as_many sc ds outermost [] decls_right few_declared, few_stated, same_cells, cells_both blocks declared stated first, parts.less first)) bounds nested.0 in
          (its_text, each_both (IsTextOf sc all) (blocks_in_decls ds outer) (blocks_in_stmts ss outer) in_procedures nested.1)

      nested_by : procedures_beyond blocks ≡ [] → AreNested sc
      nested_by few =
          record {
            some = omega arith;
            outer = refl;
            nameless = refl;
            untyped = refl;
            each =
                λ j h.
                let b = get_or blocks j (the_block spot [] ds ss) in
                let it : slice_get blocks j ≡ Some b = slice_get-get_or blocks j (the_block spot [] ds ss) h in
                subst (IsText sc) (number_is blocks j b blocks_apart it) (each_at (λ (c : Block). IsText sc (number_at blocks c.spot)) blocks j b texts it);
            procedures_few = few_procedures blocks few;
          }

    lies_by : HaveNamed blocks → flat_map unknown_names all ≡ [] → flat_map (declared_twice blocks) all ≡ [] → deep_blocks blocks ≡ [] → cells_beyond blocks all ≡ [] → procedures_beyond blocks ≡ [] → flat_map (wrong_types blocks) all ≡ [] →
        flat_map (not_assignable blocks) all ≡ [] → AreNested sc
    lies_by named unknown twice deep cells many wrong assigned =
        let kept = all_kept blocks all (nil_each (wrong_types blocks) all wrong) (nil_each (not_assignable blocks) all assigned) in
        let its = headed (nil_each (declared_twice blocks) all twice) in
        nested_by (λ k h. each_in (AreParameters sc) (block_numbered blocks k) blocks its (there_numbered blocks k h)) (good_by unknown) kept (all_fine sc all blocks (all_numbered blocks blocks_apart) its named (nil_each _ blocks deep) (nil_each _ blocks cells)) many

pub programs_lie_nested : ProgramsLieNested
unfolding scopes_of blocks_of_program scope_faults check_faults
programs_lie_nested (tree.program (tree.body spot ds ss)) accepted order named =
    let up_to_procedures = append_none_left _ _ accepted.scoped in
    let up_to_cells = append_none_left _ _ up_to_procedures in
    let up_to_levels = append_none_left _ _ up_to_cells in
    let names = append_none_left _ _ up_to_levels in
    let unknown = append_none_left _ _ names in
    let twice = append_none_right _ _ names in
    let levels = append_none_right _ _ up_to_levels in
    let cells = append_none_right _ _ up_to_cells in
    let many = append_none_right _ _ up_to_procedures in
    let long = append_none_right _ _ accepted.scoped in
    let up_to_assigned = append_none_left _ _ (append_none_left _ _ (append_none_left _ _ accepted.checked)) in
    let wrong = append_none_left _ _ (append_none_left _ _ up_to_assigned) in
    let assigned = append_none_right _ _ up_to_assigned in
    let all_blocks = blocks_of_program (tree.program (tree.body spot ds ss)) in
    let declared_sites = sites_in_decls all_blocks ds outermost [] in
    let stated_sites = sites_in_stmts all_blocks ss (has_decls ds) (knowing_all all_blocks ds outermost) in
    let right = nil_each (wrong_types all_blocks) (declared_sites ++ stated_sites) (none_mapped _ _ wrong) in
    let decls_right = specified_decls all_blocks ds outermost [] (each_front (IsTyped all_blocks) declared_sites stated_sites right) in
    let stmts_right = specified_stmts all_blocks ss (has_decls ds) (knowing_all all_blocks ds outermost) (each_back (IsTyped all_blocks) declared_sites stated_sites right) in
    record {
      nested =
          lies_by spot ds ss order decls_right stmts_right (named_blocks spot ds ss order named.0 named.1) (none_mapped _ _ unknown) (none_mapped _ _ twice) (append_none_left _ _ (none_mapped _ _ levels)) (none_mapped _ _ cells) (none_mapped _ _ many) (none_mapped _ _ wrong) (none_mapped _ _ assigned);
      short = short_segments (tree.program (tree.body spot ds ss)) (none_mapped _ _ long);
    }
