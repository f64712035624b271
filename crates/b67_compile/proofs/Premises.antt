-- An accepted program of one process, with its names, has all that its code wants.
use Rattle.std.proofs.Common.{arith, ◌≡◌, ℕ, ◌+◌, ◌<◌, ◌≤◌, Bool, true, false, List, [], ◌∷◌, length, filter, sym, ap, ◌∙◌, subst, if◌then◌else◌}
use Rattle.std.specs.BTreeMap.{BTreeMap}
use Rattle.std.specs.List.{flat_map, AllByRecursion}
use Rattle.std.proofs.lemmas.Option.{slice_get_within}
use Rattle.algol_tree.specs.declared.TheConstants.{MOST_BLOCK_CELLS, MOST_PROCEDURES}
use Rattle.algol_tree.specs.declared.token.Spot.{Spot}
use Rattle.algol_tree.specs.declared.tree.Body.{Body}
use Rattle.algol_tree.specs.Accepted.{Accepted, scope_faults, sites_of}
use Rattle.algol_tree.specs.Ascending.{IsInOrder}
use Rattle.algol_tree.specs.Blocks.{Block, block_numbered, number_at, blocks_of_program}
use Rattle.algol_tree.specs.Cells.{Cell, cells_at, level_of}
use Rattle.algol_tree.specs.Couples.{declaration_at, result_at, actual_at, actual_cells}
use Rattle.algol_tree.specs.Image as plain
use Rattle.algol_tree.specs.Names.{cells_beyond}
use Rattle.algol_tree.specs.Plain as tree
use Rattle.algol_tree.specs.Plain.{PDecls, PStmts, PBody, PProgram}
use Rattle.algol_tree.specs.Scopes.{Scopes, scopes_of}
use Rattle.algol_tree.specs.Sites.{Site}
use Rattle.algol_tree.proofs.Images.{body_is}
use Rattle.algol_tree.proofs.Trees.{block_is, got_numbered}
use Rattle.algol_paths.specs.Arrays.{lows_at}
use Rattle.algol_paths.specs.Segments.{is_procedure, segment_of}
use Rattle.algol_frames.specs.declared.scopes.Scopes as table
use Rattle.algol_scope.specs.Resolved.{AreOf}
use Rattle.b67_ops.specs.declared.TheConstants.{MOST_LEVEL, OUTER_LEVEL}
use Rattle.b67_templates.specs.Cells.{parameter_cells, procedures, actuals_of, made_of, simple_cells}
use Rattle.b67_templates.specs.Fitting.{DeclsFit, StmtsFit}
use Rattle.algol_lows.specs.declared.bounds.Lows.{Lows}
use Rattle.b67_emitter.specs.declared.names.Names.{Names}
use Rattle.b67_emitter.specs.declared.names.Target.{Target}
use Rattle.b67_emitter.specs.Values.{meanings, AreNear}
use Rattle.b67_emit_stmt.specs.Actuals.{AreInner}
use Rattle.b67_emit_text.specs.Programs.{AreDue, IsDue}
use Rattle.b67_emit_text.specs.Targets.{AreTargets}
use Rattle.b67_emit_text.specs.Texts.{Text, texts, texts_in_body}
use Rattle.b67_fitting.specs.Fitted.{BlockFits, IsToldOf}
use Rattle.b67_templates.specs.Names.{HasNames}
use Rattle.b67_templates.specs.Nested.{AreParameters, IsText, LiesNested}
use Rattle.b67_fitting.specs.Texts.{HasPlainTexts}
use Rattle.b67_fitting.specs.Wholes.{HasWholeNumbers}
use Rattle.b67_fitting.proofs.Fits.{accepted_fit}
use Rattle.b67_fitting.proofs.Lists.{each_of}
use Rattle.b67_fitting.proofs.Nesting.{programs_lie_nested}
use Rattle.b67_fitting.proofs.SurroundedSites.{IsSurrounded, each_number, each_surrounded}
use Rattle.algol_lows.specs.Lows.{lows_found_under}
use Rattle.b67_frames.proofs.FreshCells.{simple_many}
use Rattle.b67_list.proofs.Lists.{append_none_left, append_none_right, each_at, none_mapped, whole_list}
use Rattle.b67_compile.proofs.Cells.{AreOfFew, HasFew, HaveFew, IsOfOne, all_of_one}
use Rattle.b67_compile.proofs.Couples.{actuals_inner, actuals_known, couples_known, lows_known, results_known, couples_near}
use Rattle.b67_compile.proofs.Inner.{actuals_low, none_deep}
use Rattle.b67_compile.proofs.LabelTargets.{no_event_rows, targets_known}
use Rattle.b67_compile.proofs.Matching.{all_match, text_of}
use Rattle.b67_compile.proofs.Meanings.{meant_known}
use Rattle.b67_compile.proofs.Near.{actual_near, blocks_few, located_near, result_near}
use Rattle.b67_compile.proofs.Places.{IsOf, text_block, texts_many}
use Rattle.b67_fitting.proofs.CellsFew.{parameters_many}
use Rattle.b67_fitting.proofs.ActualsCelled.{each_by}

-- the texts of a program
abbrev texts_in_program : PProgram → List Text
texts_in_program (tree.program b) = texts b

pub record Given (p : PProgram) (names : Names) : Type 0 where
  pub resolved : AreOf p names.scopes.now
  pub lows : (spot : Spot) → lows_found_under names.lows spot ≡ lows_at (blocks_of_program p) spot
  pub accepted : Accepted p
  pub order : IsInOrder p
  pub whole : HasWholeNumbers p
  pub texts : HasPlainTexts p
  pub named : HasNames p
  pub labels : AreTargets (texts_in_program p) names.labels

-- the same of the parts of the program's body
pub given : (b : Body) (s : table.Scopes) (bounds : BTreeMap Spot Lows) (names : Names) → names.scopes.now ≡ s → names.lows ≡ bounds →
    AreOf (tree.program (plain.body b)) s → ((spot : Spot) → lows_found_under bounds spot ≡ lows_at (blocks_of_program (tree.program (plain.body b))) spot) →
    Accepted (tree.program (plain.body b)) → IsInOrder (tree.program (plain.body b)) → HasWholeNumbers (tree.program (plain.body b)) → HasPlainTexts (tree.program (plain.body b)) →
    HasNames (tree.program (plain.body b)) → (targets : BTreeMap Spot Target) → names.labels ≡ targets → AreTargets (texts (plain.body b)) targets → Given (tree.program (tree.body b.spot (plain.decls b.decls) (plain.stmts b.stmts))) names
given b s bounds names scopes_are bounds_are resolved lows accepted order whole texts_are named targets targets_are labels =
    subst (λ (z : PBody). Given (tree.program z) names) (body_is b)
    (record {
      resolved = subst (AreOf (tree.program (plain.body b))) (sym scopes_are) resolved;
      lows = λ spot. ap (λ (m : BTreeMap Spot Lows). lows_found_under m spot) bounds_are ∙ lows spot;
      accepted = accepted;
      order = order;
      whole = whole;
      texts = texts_are;
      named = named;
      labels = subst (AreTargets (texts (plain.body b))) (sym targets_are) labels;
    })

-- no block has more cells than a block may have
cells_kept : (p : PProgram) → Accepted p → cells_beyond (blocks_of_program p) (sites_of p) ≡ []
unfolding scope_faults
cells_kept p accepted = none_mapped _ _ (append_none_right _ _ (append_none_left _ _ (append_none_left _ _ accepted.scoped)))

each_kept_by : {X : Type 0} (P : X → Type 0) (test : X → Bool) (xs : List X) → AllByRecursion P xs → AllByRecursion P (filter test xs)
each_kept_by P test [] h = tt
each_kept_by P test (x ∷ xs) h = by (test x) (each_kept_by P test xs h.1)
  where
    by : (b : Bool) → AllByRecursion P (filter test xs) → AllByRecursion P (if b then x ∷ filter test xs else filter test xs)
    by true later = (h.0, later)
    by false later = later

module _ (spot : Spot) (ds : PDecls) (ss : PStmts) (names : Names) where
  abbrev p : PProgram
  p = tree.program (tree.body spot ds ss)

  module _ (has : Given p names) where
    pub lies : LiesNested p
    lies = programs_lie_nested p has.accepted has.order has.named

    pub few : length (texts (tree.body spot ds ss)) ≤ 1 + MOST_PROCEDURES
    unfolding scopes_of
    few =
        let bs = blocks_of_program p in
        omega (arith, texts_many spot ds ss has.order has.named, lies.nested.procedures_few (length bs), ap (λ (z : List Block). length (filter is_procedure z)) (whole_list bs))

    -- what the tables tell of the names is what the program says of them
    told : IsToldOf p (meanings names)
    told = record {
      couples = couples_known p names has.resolved;
      results = results_known p names has.resolved;
      lows = lows_known p names has.resolved has.lows;
      meant = meant_known p names has.order has.resolved;
      labels = targets_known spot ds ss names has.order has.named has.resolved has.labels;
      actuals = actuals_known p names has.resolved;
    }

    -- ---- each text

    abbrev Due : ℕ → Text → Type 0
    Due number t = IsDue (scopes_of p) names number t

    due_of : (number : ℕ) (b : Block) (tokens : ℕ) → IsOf p number b tokens → Due number (text_of b tokens)
    unfolding scopes_of
    due_of number b tokens is =
        let bs = blocks_of_program p in
        let sc = scopes_of p in
        let known = slice_get_within bs is.block b is.there in
        let text : IsText sc is.block = lies.nested.each is.block known in
        let here : block_numbered bs is.block ≡ b = block_is bs is.block b is.there in
        let own : block_numbered bs (number_at bs b.spot) ≡ b = ap (block_numbered bs) is.number_is ∙ here in
        let many : length (parameter_cells sc b) ≡ length b.parameters = parameters_many sc b (subst (AreParameters sc) here text.parameters) in
        let cells : length (simple_cells sc b) + length (procedures b.decls) + length (actuals_of sc b) + length (made_of b.decls) ≤ MOST_BLOCK_CELLS =
        subst (λ (z : Block). length (simple_cells sc z) + length (procedures z.decls) + length (actuals_of sc z) + length (made_of z.decls) ≤ MOST_BLOCK_CELLS) here text.few in
        let fits : BlockFits p (meanings names) is.block = accepted_fit p (meanings names) has.accepted has.order has.whole has.texts told is.block known in
        record {
          segment = ap (segment_of bs) is.number_is ∙ is.segment;
          named = ap (λ (z : Block). z.name) own;
          result = ap (λ (z : Block). z.result) own;
          parameters = ap (λ (z : Block). length (parameter_cells sc z)) own ∙ many;
          level = subst (λ (z : Block). level_of z ≤ MOST_LEVEL) here text.low;
          few = omega (arith, cells, many, simple_many sc b);
          decls = subst (λ (j : ℕ). DeclsFit sc (meanings names) (level_of b) j b.decls) (sym is.number_is)
              (subst (λ (z : Block). DeclsFit sc (meanings names) (level_of z) is.block z.decls) here fits.decls);
          fits = subst (λ (j : ℕ). StmtsFit sc (meanings names) (level_of b) j b.stmts) (sym is.number_is)
              (subst (λ (z : Block). StmtsFit sc (meanings names) (level_of z) is.block z.stmts) here fits.stmts);
          room = omega (arith, lies.short number, is.short);
        }

    pub due : AreDue (scopes_of p) names (texts (tree.body spot ds ss))
    due number t e =
        let r = text_block spot ds ss has.order has.named number t e in
        subst (Due number) (sym r.is) (due_of number r.block r.tokens r.of)

    -- ---- cells

    -- each block has few
    block_few : HaveFew (blocks_of_program p) (sites_of p) (blocks_of_program p) → (k : ℕ) → k < length (blocks_of_program p) → HasFew (blocks_of_program p) (sites_of p) k
    block_few have k known =
        let bs = blocks_of_program p in
        let there = got_numbered bs k known in
        subst (HasFew bs (sites_of p)) (each_number p has.order k (block_numbered bs k) there)
        (each_at (λ (b : Block). HasFew bs (sites_of p) (number_at bs b.spot)) bs k (block_numbered bs k) have there)

    surrounded : AllByRecursion (λ (x : Site). IsSurrounded (blocks_of_program p) x.around) (sites_of p)
    surrounded = each_surrounded p has.accepted has.order

    all_few : AreOfFew (blocks_of_program p) (sites_of p) (sites_of p)
    all_few =
        let bs = blocks_of_program p in
        let all = sites_of p in
        let Known : Block → Type 0 = λ b. number_at bs b.spot < length bs in
        let known : AllByRecursion Known bs =
        each_by Known bs (λ i b h. subst (λ (n : ℕ). n < length bs) (sym (each_number p has.order i b h)) (slice_get_within bs i b h)) in
        let around = each_of (λ (x : Site). IsSurrounded bs x.around) (λ (x : Site). x.around.block < length bs) all (λ x h. h.some) surrounded in
        each_of (IsOfOne bs) (λ (c : Cell). HasFew bs all c.block) (flat_map (cells_at bs) all) (λ c h. block_few (blocks_few bs all (cells_kept p has.accepted)) c.block h)
        (all_of_one bs (filter is_procedure bs) all (texts_in_body (tree.body spot ds ss) OUTER_LEVEL) (all_match spot ds ss has.named) (each_kept_by Known is_procedure bs known) around)

    pub near : AreNear names
    unfolding declaration_at result_at actual_at
    near =
        let bs = blocks_of_program p in
        let all = sites_of p in
        couples_near p names has.resolved (no_event_rows spot ds ss names has.order has.named has.resolved has.lows) (located_near bs all all_few) (result_near bs all all_few) (actual_near bs all all_few (actual_cells bs all))

    -- ---- levels

    pub inner : AreInner (meanings names)
    unfolding actual_at
    inner = actuals_inner p names has.resolved (actuals_low (blocks_of_program p) (sites_of p) surrounded (none_deep p has.accepted))
