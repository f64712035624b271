-- What is found in a whole program, and its first fault.
use Rattle.std.proofs.Common.{◌≡◌, ℕ, ◌+◌, ◌<◌, false, List, [], ◌∷◌, ◌++◌, map, length, Option, Some, None, refl, ap, sym, ◌∙◌, subst, arith}
use Rattle.std.specs.Prelude.{min, Result, Ok, Err, IfErr}
use Rattle.std.specs.List.{flat_map}
use Rattle.std.specs.declared.alloc.Global.{Global}
use Rattle.std.specs.declared.vec.Vec.{Vec}
use Rattle.std.specs.BTreeMap.{BTreeMap}
use Rattle.algol_tree.specs.declared.TheConstants.{MOST_PROCEDURES}
use Rattle.algol_tree.specs.declared.token.Spot.{Spot}
use Rattle.algol_tree.specs.declared.refusal.Code.TheVariants as codes
use Rattle.algol_tree.specs.declared.refusal.Fault.{Fault}
use Rattle.algol_tree.specs.declared.refusal.Refusal.{Refusal}
use Rattle.algol_tree.specs.declared.refusal.Refusal.TheVariants as refusals
use Rattle.algol_tree.specs.Plain as tree
use Rattle.algol_tree.specs.Plain.{PDecls, PStmts, PBody, PProgram}
use Rattle.algol_tree.specs.Blocks.{Block, blocks_of_program, blocks_in_body, outer_block}
use Rattle.algol_tree.specs.Surroundings.{outermost}
use Rattle.algol_tree.specs.Sites.{sites_in_body}
use Rattle.algol_tree.specs.Cells.{cells_at}
use Rattle.algol_tree.specs.Couples.{known_at}
use Rattle.algol_tree.specs.Names.{name_is_one_of, place_beyond, program_segment, result_names_of}
use Rattle.algol_tree.specs.Ascending.{IsInOrder}
use Rattle.algol_tree.specs.Accepted.{broken, first_fault, noted_all, scope_faults, sites_of}
use Rattle.algol_rules.proofs.Order.{first_none, noted_all_append}
use Rattle.algol_rules.specs.Refusing.{refusing}
use Rattle.algol_known.specs.declared.known.Seen.TheVariants as seens
use Rattle.algol_known.specs.declared.around.Around.{Around}
use Rattle.algol_frames.specs.declared.found.Cell.{Cell}
use Rattle.algol_scope.specs.declared.findings.Findings.{Findings}
use Rattle.algol_frames.specs.declared.found.Block as begun
use Rattle.algol_scope.specs.declared.resolver.Resolver.{Resolver}
use Rattle.algol_known.specs.Naming.{is_typed}
use Rattle.algol_known.specs.Seeing as seeing
use Rattle.algol_known.specs.Seeing.{Sees}
use Rattle.algol_known.specs.Looking.{level_within}
use Rattle.algol_scope.specs.Noting.{ScopeFinds, noted_cell_of, faults_at, long_segment, use_of}
use Rattle.algol_frames.specs.Framing.{beyond_from, framed_cells_in, deep_place, procedure_place, those_in}
use Rattle.algol_scope.specs.Finding.{WalkHolds, IsNew, limit_faults}
use Rattle.algol_scope.specs.Resolved.{TreeIsRefused}
use Rattle.algol_scope.specs.Stating.{AreNumbered, Fills, WalkSettles, stated_block_of}
use Rattle.algol_scope.proofs.FirstFault.{first_in_turn, limits_told}
use Rattle.algol_scope.proofs.Numbering.{in_order}

numbers : (p : PProgram) (bs : List Block) → blocks_of_program p ≡ bs → AreNumbered (blocks_of_program p) 0 (blocks_of_program p) → AreNumbered (blocks_of_program p) 0 bs
numbers p bs e n = let P : List Block → Type 0 = λ z. AreNumbered (blocks_of_program p) 0 z in subst P e n

its_blocks : (spot : Spot) (ds : PDecls) (ss : PStmts) →
    blocks_of_program (tree.program (tree.body spot ds ss)) ≡
    outer_block (tree.body spot ds ss) ∷ blocks_in_body (tree.body spot ds ss) (spot ∷ [])
unfolding blocks_of_program
its_blocks spot ds ss = refl

module _ (new mid done : Resolver) (spot : Spot) (ds : PDecls) (ss : PStmts) (order : IsInOrder (tree.program (tree.body spot ds ss))) (is : IsNew new)
    (begins : mid.blocks.items ≡ new.blocks.items ++ record { spot = spot; level = level_within new.around; is_procedure = false } ∷ [])
    (around : mid.around ≡ new.around) (findings : mid.findings ≡ new.findings)
    (fills : Fills mid done (λ blocks. sites_in_body blocks (tree.body spot ds ss)) (blocks_in_body (tree.body spot ds ss))) where
  abbrev b : PBody
  b = tree.body spot ds ss

  abbrev blocks : List Block
  blocks = blocks_of_program (tree.program b)

  numbered : AreNumbered blocks 0 (outer_block b ∷ blocks_in_body b (spot ∷ []))
  numbered = numbers (tree.program b) (outer_block b ∷ blocks_in_body b (spot ∷ [])) (its_blocks spot ds ss) (in_order (tree.program b) order)

  level : level_within new.around ≡ 2
  level = ap (λ z. min (length z + 2) 255) is.outer

  first : mid.blocks.items ≡ stated_block_of (outer_block b) ∷ []
  first =
      begins ∙ ap (λ z. z ++ record { spot = spot; level = level_within new.around; is_procedure = false } ∷ []) is.blocks
      ∙ ap (λ z. record { spot = spot; level = z; is_procedure = false } ∷ []) level

  one : length mid.blocks.items ≡ 1
  one = ap (λ z. length z) first

  settled : WalkSettles blocks mid outermost (spot ∷ []) []
  settled =
      let A : Around → Type 0 = λ z. Sees z seens.All outermost in
      let B : Around → Type 0 = λ z. Sees z seens.BeforeDeclarations outermost in
      let H : Around → Type 0 = λ z. seeing.KnownHolds z outermost in
      let L : ℕ → Type 0 = λ z. 0 < z in
      record {
        stands = record { sees = subst A (sym around) (is.sees seens.All); known = tt; block = subst L (sym one) (omega arith); outer = refl };
        holds = subst H (sym around) is.holds;
        bounds = subst B (sym around) (is.sees seens.BeforeDeclarations);
        typed =
            λ q.
            ap (λ (z : Around). is_typed z.innermost.typed q) around ∙ ap (λ z. is_typed z q) is.typed
            ∙ ap (λ z. name_is_one_of (result_names_of z) q) (sym numbered.1.0);
      }

  pub found_whole : WalkHolds done (tree.program b)
  found_whole =
      let N : ℕ → Type 0 = λ z. AreNumbered blocks z (blocks_in_body b (spot ∷ [])) in
      let come = fills.comes blocks outermost (spot ∷ []) settled (subst N (sym one) numbered.1.1) in
      let F : Findings → Type 0 = λ z. ScopeFinds blocks z (sites_in_body blocks b outermost) done.findings in
      let f = subst F findings come.finds in
      record {
        faults = f.faults ∙ ap (λ z. noted_all z (flat_map (faults_at blocks) (sites_in_body blocks b outermost))) is.faults;
        cells = f.cells ∙ ap (λ z. z ++ map noted_cell_of (flat_map (cells_at blocks) (sites_in_body blocks b outermost))) is.cells;
        uses = f.uses ∙ ap (λ z. z ++ map use_of (flat_map (known_at blocks) (sites_in_body blocks b outermost))) is.uses;
        blocks =
            come.begins ∙ ap (λ z. z ++ map stated_block_of (blocks_in_body b (spot ∷ []))) first ∙ ap (map stated_block_of) (sym (its_blocks spot ds ss));
      }

pub found_program : (new mid done : Resolver) (spot : Spot) (ds : PDecls) (ss : PStmts) (b : PBody) → b ≡ tree.body spot ds ss → IsInOrder (tree.program b) → IsNew new →
    mid.blocks.items ≡ new.blocks.items ++ record { spot = spot; level = level_within new.around; is_procedure = false } ∷ [] → mid.around ≡ new.around →
    mid.findings ≡ new.findings → Fills mid done (λ blocks. sites_in_body blocks b) (blocks_in_body b) → WalkHolds done (tree.program b)
found_program new mid done spot ds ss b e order is begins around findings fills =
    let P : PBody → Type 0 = λ z. WalkHolds done (tree.program z) in
    let Q : PBody → Type 0 = λ z. IsInOrder (tree.program z) in
    let R : PBody → Type 0 = λ z. Fills mid done (λ blocks. sites_in_body blocks z) (blocks_in_body z) in
    subst P (sym e) (found_whole new mid done spot ds ss (subst Q e order) is begins around findings (subst R e fills))

-- ---- the first fault

pub first_told : (r s : Resolver) (p : PProgram) (table : BTreeMap ℕ (Vec Cell Global)) → IsInOrder p → WalkHolds r p →
    ((q : ℕ) → framed_cells_in table q ≡ those_in r.findings.cells.items q) →
    s.findings.faults.first ≡ noted_all r.findings.faults.first (limit_faults p r.blocks.items table) → s.findings.faults.first ≡ first_fault (scope_faults p)
first_told r s p table order h cells e =
    e ∙ ap (λ z. noted_all z (limit_faults p r.blocks.items table)) h.faults
    ∙ ap (λ z. noted_all (noted_all None (flat_map (faults_at (blocks_of_program p)) (sites_of p))) (limit_faults p z table)) h.blocks
    ∙ ap (noted_all (noted_all None (flat_map (faults_at (blocks_of_program p)) (sites_of p))))
    (limits_told p table (λ q. cells q ∙ ap (λ z. those_in z q) h.cells) (in_order p order))
    ∙ first_in_turn p

pub refused_first : (p : PProgram) (first : Option Fault) (r : Result (Unit {0}) Refusal) (e : Refusal) → first ≡ first_fault (scope_faults p) → r ≡ refusing first →
    r ≡ Err e → TreeIsRefused p e
refused_first p None r e f h k = absurd (let clash : Ok tt ≡ Err e = sym h ∙ k in cc)
refused_first p (Some g) r e f h k =
    let same : refusals.At g.spot g.code ≡ e = (let both : Err (refusals.At g.spot g.code) ≡ Err e = sym h ∙ k in cc) in
    subst (TreeIsRefused p) same (sym f)

pub unrefused : (p : PProgram) (first : Option Fault) (r : Result (Unit {0}) Refusal) (u : Unit {0}) → first ≡ first_fault (scope_faults p) → r ≡ refusing first → r ≡ Ok u →
    scope_faults p ≡ []
unrefused p None r u f h k = first_none (scope_faults p) (sym f)
unrefused p (Some g) r u f h k = absurd (let clash : Err (refusals.At g.spot g.code) ≡ Ok u = sym h ∙ k in cc)

-- ---- the limits, one after the other

pub limits_noted : (p : PProgram) (blocks items : List begun.Block) (table : BTreeMap ℕ (Vec Cell Global)) (o f1 f2 f3 f4 : Option Fault) → blocks ≡ items →
    f1 ≡ noted_all o (broken codes.TooManyLevels (flat_map deep_place blocks)) → f2 ≡ noted_all f1 (broken codes.TooManyCells (beyond_from table 0 blocks)) →
    f3 ≡ noted_all f2 (broken codes.TooManyProcedures (place_beyond MOST_PROCEDURES (flat_map procedure_place blocks))) →
    f4 ≡ noted_all f3 (broken codes.SegmentTooLong (long_segment (program_segment p))) → f4 ≡ noted_all o (limit_faults p items table)
limits_noted p blocks items table o f1 f2 f3 f4 same a b c d =
    let l : List Fault = broken codes.TooManyLevels (flat_map deep_place blocks) in
    let m : List Fault = broken codes.TooManyCells (beyond_from table 0 blocks) in
    let n : List Fault = broken codes.TooManyProcedures (place_beyond MOST_PROCEDURES (flat_map procedure_place blocks)) in
    let s : List Fault = broken codes.SegmentTooLong (long_segment (program_segment p)) in
    d ∙ ap (λ z. noted_all z s) (c ∙ ap (λ z. noted_all z n) (b ∙ ap (λ z. noted_all z m) a))
    ∙ sym
    (noted_all_append o l (m ++ (n ++ s)) ∙ noted_all_append (noted_all o l) m (n ++ s) ∙ noted_all_append (noted_all (noted_all o l) m) n s)
    ∙ ap (λ z. noted_all o (limit_faults p z table)) same

-- ---- the answer

pub no_refusal : {A : Type 0} (p : PProgram) (r : Result A Refusal) → IfErr r (λ e. e ≡ refusals.NoMemory) → IfErr r (TreeIsRefused p)
no_refusal p (Ok x) h = tt
no_refusal p (Err e) h = subst (TreeIsRefused p) (sym h) tt
