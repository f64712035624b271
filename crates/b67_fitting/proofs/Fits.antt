-- An accepted program fits.
use Rattle.std.proofs.Common.{arith, ◌≡◌, inl, inr, ℕ, ◌+◌, ◌<◌, ◌≤◌, Bool, true, false, List, [], ◌∷◌, ◌++◌, length, Some, None, refl, sym, ap, ◌∙◌, subst, if◌then◌else◌}
use Rattle.std.specs.List.{flat_map, AllByRecursion}
use Rattle.algol_tree.specs.declared.token.Spot.{Spot}
use Rattle.algol_tree.specs.declared.tree.Named.{Named}
use Rattle.algol_tree.specs.Accepted.{Accepted, scope_faults, scope_faults_in, check_faults}
use Rattle.algol_tree.specs.Ascending.{IsInOrder, spots_of_decls, spots_of_stmts}
use Rattle.algol_tree.specs.Blocks.{Block, block_numbered, blocks_of_program, blocks_in_decls, blocks_in_stmts, number_at}
use Rattle.algol_tree.specs.Cells.{cells_at, cells_of, level_of}
use Rattle.algol_tree.specs.Couples.{declaration_at, result_at, actual_at}
use Rattle.algol_tree.specs.Labels.{bad_labels}
use Rattle.algol_tree.specs.Names.{declared_twice}
use Rattle.algol_tree.specs.Plain as tree
use Rattle.algol_tree.specs.Plain.{PDecls, PStmts, PProgram}
use Rattle.algol_tree.specs.Scopes.{Scopes, scopes_of, scopes_by}
use Rattle.algol_tree.specs.Sites.{Site, sites_by, sites_in_decls, sites_in_stmts, has_decls}
use Rattle.algol_tree.specs.Sorts.{same_name}
use Rattle.algol_tree.specs.Surroundings.{Surroundings, outermost, knowing_all}
use Rattle.algol_tree.proofs.Names.{same_name_is}
use Rattle.algol_tree.proofs.Spots.{same_spot_itself}
use Rattle.algol_tree.proofs.Trees.{got_numbered}
use Rattle.algol_paths.specs.Segments.{segment_of}
use Rattle.b67_ops.specs.declared.TheConstants.{MOST_LEVEL}
use Rattle.b67_templates.specs.Labels.{labels_in, labels_before, label_from, label_in}
use Rattle.b67_templates.specs.Fitting.{Told, DeclsFit, StmtsFit}
use Rattle.b67_list.proofs.Lists.{each_back, each_both, each_front}
use Rattle.b67_list.proofs.Numbers.{number_less}
use Rattle.b67_fitting.specs.Fitted.{declared_at, AcceptedProgramsFit}
use Rattle.b67_fitting.specs.Labelled.{LabelsStand}
use Rattle.b67_fitting.specs.Texts.{HasPlainTexts}
use Rattle.b67_fitting.specs.Typing.{AcceptedProgramsAreTyped, TypedStmts, TypedDecls}
use Rattle.b67_fitting.specs.Wholes.{HasWholeNumbers}
use Rattle.b67_fitting.proofs.ActualCells.{cells_in_decls, text_plain, text_held}
use Rattle.b67_fitting.proofs.ActualsCelled.{have_acts, all_celled}
use Rattle.b67_fitting.proofs.ActualsFound.{SiteTells}
use Rattle.b67_fitting.proofs.Lists.{each_of}
use Rattle.b67_fitting.proofs.Among.{apart_among}
use Rattle.b67_fitting.proofs.Apart.{IsIn, each_in, in_each, in_front, in_back, IsApart, Apart, ascending_apart, apart_front, apart_back}
use Rattle.b67_fitting.proofs.Blocked.{block_spots, number_within, numbered, AreOf, HasCells, cells_are}
use Rattle.b67_fitting.proofs.Clean.{IsClean, AreClean}
use Rattle.b67_fitting.proofs.AtHome as home
use Rattle.b67_fitting.proofs.AtHome.{StandsIn, AtHome}
use Rattle.b67_fitting.proofs.Cleaned.{cleaned, unlabelled}
use Rattle.b67_fitting.proofs.Coupled.{IsProgram, AreTold, plain_is}
use Rattle.b67_fitting.proofs.CoupledArrays.{HaveActs}
use Rattle.b67_fitting.proofs.Declares.{begun, callees, behind_decls}
use Rattle.b67_fitting.proofs.Frames.{decl_cells}
use Rattle.b67_fitting.proofs.Given.{AreWhole}
use Rattle.b67_fitting.proofs.Headings.{DeclsSpecified, StmtsSpecified}
use Rattle.b67_fitting.proofs.HeadingsTyped.{IsTyped, in_decls as specified_decls, in_stmts as specified_stmts}
use Rattle.b67_fitting.proofs.Nesting.{whole, blocks_apart as numbers_apart, there_numbered}
use Rattle.b67_fitting.proofs.Numbering.{IsNumbered, all_numbered, number_is}
use Rattle.b67_fitting.proofs.Homed.{IsHome, all_homes, all_far}
use Rattle.b67_fitting.proofs.Known.{Stands, around_outermost, knows_plain}
use Rattle.b67_fitting.proofs.LabelsFound.{IsWithin, all_within, all_read, label_stands}
use Rattle.b67_fitting.proofs.Limits.{few_cells, not_deep}
use Rattle.b67_fitting.proofs.Listed.{AllThere, Listed, both, block}
use Rattle.b67_fitting.proofs.Listing.{listed_stmts, listed_decls}
use Rattle.b67_fitting.proofs.Looked.{all_uses, all_known, all_blocks}
use Rattle.b67_fitting.proofs.Made.{all_places}
use Rattle.b67_fitting.proofs.Placed.{same_number, Keep, BlockFits, all_fit}
use Rattle.b67_fitting.proofs.Reached.{all_tell, all_placed}
use Rattle.b67_fitting.proofs.Started.{HasCallees, IsStarted, start}
use Rattle.b67_fitting.proofs.Stated.{all_stated, all_declared}

module _ (spot : Spot) (ds : PDecls) (ss : PStmts) (blocks : List Block) where
  abbrev program : PProgram
  program = tree.program (tree.body spot ds ss)

  abbrev first : Block
  first = begun spot [] ds ss

  abbrev decl_blocks : List Block
  decl_blocks = blocks_in_decls ds (spot ∷ [])

  abbrev stmt_blocks : List Block
  stmt_blocks = blocks_in_stmts ss (spot ∷ [])

  -- the blocks in the text
  abbrev in_text : List Block
  in_text = first ∷ (decl_blocks ++ stmt_blocks)

  abbrev around : Surroundings
  around = knowing_all blocks ds outermost

  abbrev decl_sites : List Site
  decl_sites = sites_in_decls blocks ds outermost []

  abbrev stmt_sites : List Site
  stmt_sites = sites_in_stmts blocks ss (has_decls ds) around

  abbrev spots : List Spot
  spots = spot ∷ (spots_of_decls ds ++ spots_of_stmts ss)

  module _ (same : in_text ≡ blocks) (apart : Apart spots) (whole : AreWhole blocks) where
    there : AllThere blocks in_text
    there b i = subst (λ (z : List Block). IsIn b z) same i

    back : (b : Block) → IsIn b blocks → IsIn b in_text
    back b i = subst (λ (z : List Block). IsIn b z) (sym same) i

    first_number : number_at blocks spot ≡ 0
    first_number =
        ap (λ (z : List Block). number_at z spot) (sym same) ∙ ap (λ (t : Bool). if t then 0 else number_at (decl_blocks ++ stmt_blocks) spot + 1) (same_spot_itself spot)

    in_decls : AllThere blocks decl_blocks
    in_decls b i = there b (inr (in_front b decl_blocks stmt_blocks i))

    in_stmts : AllThere blocks stmt_blocks
    in_stmts b i = there b (inr (in_back b decl_blocks stmt_blocks i))

    stands : Stands blocks first outermost
    stands = record { there = there first (inl refl); block_is = sym first_number; depth_is = refl; outer = tt; around = around_outermost blocks }

    decls_apart : Apart (spots_of_decls ds)
    decls_apart = apart_front (spots_of_decls ds) (spots_of_stmts ss) apart.1

    module _ (decls_typed : TypedDecls blocks outermost [] ds) where
      called : HasCallees blocks first ds
      called = callees blocks ds outermost [] first decls_typed in_decls (whole.numbered first (there first (inl refl))) decls_apart (λ s i. refl) (λ s i. refl) (λ s i. refl)

      started : IsStarted blocks first outermost ds
      started = start blocks first outermost stands called tt

      behind : Stands blocks first around
      behind = behind_decls blocks first outermost [] ds started decls_typed decls_apart

      module _ (typed : TypedStmts blocks around ss) where
        listed : Listed blocks (length blocks) spots [] in_text (decl_sites ++ stmt_sites)
        listed =
            block (length blocks) first (refl, refl)
            (record {
              there = there first (inl refl);
              apart = (each_front (IsApart spot) (spots_of_decls ds) (spots_of_stmts ss) apart.0, decls_apart);
              own_is = text_plain blocks outermost [] ds around ss ∙ ap (λ (n : ℕ). decl_cells n ds) (sym first_number);
              begin = outermost;
              begins = stands;
              declares = decls_typed;
              callees = called;
              around = around;
              stands = behind;
              typed = typed;
              inner = in_stmts;
              actuals_are = text_held blocks outermost [] ds around ss;
              front = [];
              listed = has_decls ds;
              sites_are = refl;
            })
            (both (number_at blocks spot)
            (subst (λ (n : ℕ). Listed blocks n (spots_of_decls ds) (cells_in_decls blocks outermost [] ds) decl_blocks decl_sites) (sym first_number)
            (listed_decls blocks whole first outermost [] stands ds started decls_typed decls_apart in_decls))
            (listed_stmts blocks whole (number_at blocks spot) first around behind behind.block_is ss (has_decls ds) typed (apart_back (spots_of_decls ds) (spots_of_stmts ss) apart.1) in_stmts))

        abbrev all : List Site
        all = decl_sites ++ stmt_sites

        all_apart : Apart (block_spots blocks)
        all_apart = subst (λ (z : List Block). Apart (block_spots z)) same (apart_among (all_blocks blocks listed) apart)

        -- the cells of all blocks, whatever holds of each part
        all_cells : (Q : Site → Type 0) → AllByRecursion Q all → AreOf blocks all_apart Q (length blocks) [] in_text (flat_map (cells_at blocks) all)
        all_cells Q h = cells_are blocks all_apart Q listed h apart there (λ b i. number_less (number_at blocks b.spot) (length blocks) (number_within blocks b (there b i)))

        is_program : IsProgram blocks all
        is_program =
            let cells = all_cells (λ x. Unit {0}) (in_each (λ x. Unit {0}) all (λ x i. tt)) in
            record {
              blocks_apart = all_apart;
              uses_apart = apart_among (all_uses blocks listed) apart;
              known_apart = apart_among (all_known blocks listed) apart;
              own = λ b i. cells.here b (back b i);
              none = cells.mine;
              places_apart = apart_among (all_places blocks listed) apart;
              far =
                  λ c i e. subst (λ (z : List Block). AllByRecursion (IsApart c.spot) (block_spots z)) same (all_far blocks listed apart c i e).apart;
              homes = λ b i. each_in (IsHome blocks) b in_text (all_homes blocks listed) (back b i);
            }

        abbrev sc : Scopes
        sc = scopes_by program blocks

        told_cells : (b : Block) → IsIn b blocks → HasCells blocks all_apart (SiteTells blocks sc) b (cells_of blocks all (number_at blocks b.spot))
        told_cells b i = (all_cells (SiteTells blocks sc) (all_tell blocks all is_program listed (λ x j. j))).here b (back b i)

        many : HaveActs blocks all is_program
        unfolding is_program
        many = have_acts blocks all is_program told_cells

        keeps : scope_faults_in program blocks all ≡ [] → Keep sc blocks
        unfolding is_program
        keeps faults b i =
            let low : level_of b ≤ MOST_LEVEL = omega (arith, not_deep program blocks all faults b i) in
            (low, omega (arith, few_cells program blocks all faults b i (plain_is blocks all is_program b i), many b i))

        fit_by : (told : Told) → AreTold blocks all told → (faults : scope_faults_in program blocks all ≡ []) → (j : ℕ) → j < length blocks →
            DeclsFit sc told (level_of (block_numbered blocks j)) (number_at blocks (block_numbered blocks j).spot) (block_numbered blocks j).decls
            × StmtsFit sc told (level_of (block_numbered blocks j)) (number_at blocks (block_numbered blocks j).spot) (block_numbered blocks j).stmts
        unfolding is_program
        fit_by told are faults j h =
            let sites = all_placed blocks all is_program many told are listed (λ x i. i) in
            let celled = all_celled blocks all is_program told_cells told are in
            let fits = all_fit blocks sc told refl (keeps faults) celled listed sites in
            each_in (BlockFits blocks sc told refl (keeps faults) celled) (block_numbered blocks j) in_text fits (back (block_numbered blocks j) (there_numbered blocks j h))

        label_there : bad_labels all ≡ [] → AreClean blocks all → AllByRecursion (AtHome blocks) all → (b : Block) → IsIn b blocks → (n : Named) → IsIn n (labels_in b.decls) →
            (label : Named) × (label_in b.stmts n.name ≡ Some label)
        unfolding is_program
        label_there good clean stand b i n j =
            label_stands blocks all is_program.known_apart good clean stand (all_read blocks all listed) (λ c k. numbered blocks c all_apart k)
            (in_each (IsWithin blocks all) blocks (λ c k. each_in (IsWithin blocks all) c in_text (all_within blocks all listed (λ x m. m)) (back c k))) b i n j

-- what holds of an accepted program: its places are apart, no rule is broken at a part of it, its blocks are whole, and it is typed
module _ (spot : Spot) (ds : PDecls) (ss : PStmts) where
  abbrev read : PProgram
  read = tree.program (tree.body spot ds ss)

  record IsRight : Type 0 where
    pub apart : Apart (spots spot ds ss (blocks_of_program read))
    pub clean : AreClean (blocks_of_program read) (sites_by read (blocks_of_program read))
    pub whole : AreWhole (blocks_of_program read)
    pub decls : TypedDecls (blocks_of_program read) outermost [] ds
    pub stmts : TypedStmts (blocks_of_program read) (knowing_all (blocks_of_program read) ds outermost) ss

  right : Accepted read → IsInOrder read → HasWholeNumbers read → HasPlainTexts read → IsRight
  unfolding blocks_of_program scope_faults check_faults
  right accepted order numbers texts =
      let blocks = blocks_of_program read in
      let around_all = knowing_all blocks ds outermost in
      let decl_sites = sites_in_decls blocks ds outermost [] in
      let stmt_sites = sites_in_stmts blocks ss (has_decls ds) around_all in
      let apart = ascending_apart (spots spot ds ss blocks) order in
      let clean = cleaned read blocks (sites_by read blocks) accepted.scoped accepted.checked in
      let typed_sites = each_of (IsClean blocks) (IsTyped blocks) (decl_sites ++ stmt_sites) (λ x c. c.typed) clean in
      let decls_right : DeclsSpecified ds = specified_decls blocks ds outermost [] (each_front (IsTyped blocks) decl_sites stmt_sites typed_sites) in
      let stmts_right : StmtsSpecified ss = specified_stmts blocks ss (has_decls ds) around_all (each_back (IsTyped blocks) decl_sites stmt_sites typed_sites) in
      let plain = knows_plain blocks outermost (around_outermost blocks) in
      let once = each_of (IsClean blocks) (λ (x : Site). declared_twice blocks x ≡ []) (decl_sites ++ stmt_sites) (λ x c. c.once) clean in
      let whole_blocks : AreWhole blocks = whole spot ds ss order decls_right stmts_right once in
      let decls_typed : TypedDecls blocks outermost [] ds = all_declared blocks outermost [] plain plain ds decls_right numbers.0 texts.0 (each_front (IsClean blocks) decl_sites stmt_sites clean) in
      let stands_behind : Stands blocks (begun spot [] ds ss) around_all = behind spot ds ss blocks refl apart whole_blocks decls_typed in
      let typed : TypedStmts blocks around_all ss =
      all_stated blocks around_all (knows_plain blocks around_all stands_behind.around) ss (has_decls ds) stmts_right numbers.1 texts.1 (each_back (IsClean blocks) decl_sites stmt_sites clean) in
      record { apart = apart; clean = clean; whole = whole_blocks; decls = decls_typed; stmts = typed }

pub accepted_typed : AcceptedProgramsAreTyped
accepted_typed (tree.program (tree.body spot ds ss)) accepted order numbers texts =
    let r = right spot ds ss accepted order numbers texts in
    (r.decls, r.stmts)

pub accepted_fit : AcceptedProgramsFit
unfolding scopes_of blocks_of_program scope_faults check_faults declaration_at result_at actual_at declared_at
accepted_fit (tree.program (tree.body spot ds ss)) told accepted order numbers texts are j h =
    let p = tree.program (tree.body spot ds ss) in
    let blocks = blocks_of_program p in
    let decl_sites = sites_in_decls blocks ds outermost [] in
    let stmt_sites = sites_in_stmts blocks ss (has_decls ds) (knowing_all blocks ds outermost) in
    let r = right spot ds ss accepted order numbers texts in
    let these : AreTold blocks (decl_sites ++ stmt_sites) told =
    record { couples = are.couples; results = are.results; lows = are.lows; meant = are.meant; labels = are.labels; actuals = are.actuals } in
    let fits = fit_by spot ds ss blocks refl r.apart r.whole r.decls r.stmts told these accepted.scoped j h in
    let block = block_numbered blocks j in
    let number : number_at blocks block.spot ≡ j = number_is blocks j block (numbers_apart spot ds ss order) (got_numbered blocks j h) in
    record {
      decls = subst (λ (k : ℕ). DeclsFit (scopes_by p blocks) told (level_of block) k block.decls) number fits.0;
      stmts = subst (λ (k : ℕ). StmtsFit (scopes_by p blocks) told (level_of block) k block.stmts) number fits.1;
    }

-- a label of the number that its name has
numbered_label : (k : ℕ) (ns : List Named) (name : List ℕ) (number : ℕ) → label_from k ns name ≡ Some number → (n : Named) × IsIn n ns × (n.name ≡ name)
numbered_label k [] name number h = absurd (let clash : None ≡ Some number = h in cc)
numbered_label k (n ∷ ns) name number h = by (same_name n.name name) refl (numbered_label (k + 1) ns name number) h
  where
    by : (b : Bool) → same_name n.name name ≡ b → (label_from (k + 1) ns name ≡ Some number → (m : Named) × IsIn m ns × (m.name ≡ name)) → (if b then Some k else label_from (k + 1) ns name) ≡ Some number →
        (m : Named) × IsIn m (n ∷ ns) × (m.name ≡ name)
    by true e later g = (n, inl refl, same_name_is n.name name e)
    by false e later g = let r = later g in (r.0, inr r.1, r.2)

pub labels_stand : LabelsStand
unfolding scopes_of blocks_of_program scope_faults check_faults
labels_stand (tree.program (tree.body spot ds ss)) accepted order numbers texts j number name h e =
    let p = tree.program (tree.body spot ds ss) in
    let blocks = blocks_of_program p in
    let around_all = knowing_all blocks ds outermost in
    let decl_sites = sites_in_decls blocks ds outermost [] in
    let stmt_sites = sites_in_stmts blocks ss (has_decls ds) around_all in
    let right_there = right spot ds ss accepted order numbers texts in
    let right : AllByRecursion (IsNumbered blocks) blocks = all_numbered blocks (numbers_apart spot ds ss order) in
    let decl_blocks = blocks_in_decls ds (spot ∷ []) in
    let stmt_blocks = blocks_in_stmts ss (spot ∷ []) in
    let stand =
    each_both (AtHome blocks) decl_sites stmt_sites (home.in_decls blocks (spot ∷ []) outermost ds [] (each_front (IsNumbered blocks) decl_blocks stmt_blocks right.1))
    (home.in_stmts blocks (spot ∷ []) around_all ss (has_decls ds)
    (λ told m i. subst (λ (k : ℕ). StandsIn m (block_numbered blocks k).stmts) (sym (same_number blocks ds outermost)) i)
    (each_back (IsNumbered blocks) decl_blocks stmt_blocks right.1)) in
    let b = block_numbered blocks j in
    let n = numbered_label (labels_before (scopes_by p blocks) (segment_of blocks j) j) (labels_in b.decls) name number e in
    let r = label_there spot ds ss blocks refl right_there.apart right_there.whole right_there.decls right_there.stmts (unlabelled p blocks (sites_by p blocks) accepted.checked) right_there.clean stand b (there_numbered blocks j h) n.0 n.1 in
    (r.0, subst (λ (z : List ℕ). label_in b.stmts z ≡ Some r.0) n.2 r.1)
