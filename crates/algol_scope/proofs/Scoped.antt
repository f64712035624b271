-- The scopes that are laid out are those of the program.
use Rattle.std.proofs.Common.{◌≡◌, ℕ, ◌<◌, ◌≤◌, List, [], ◌∷◌, ◌++◌, map, length, Option, Some, None, refl, ap, ◌∙◌, subst, arith, slice_get}
use Rattle.std.specs.Prelude.{Result, Ok, Err, IfOk}
use Rattle.std.specs.List.{flat_map}
use Rattle.std.specs.declared.alloc.Global.{Global}
use Rattle.std.specs.declared.vec.Vec.{Vec}
use Rattle.std.specs.BTreeMap.{BTreeMap}
use Rattle.std.proofs.lemmas.List.{length-map}
use Rattle.algol_tree.specs.declared.TheConstants.{MOST_BLOCK_CELLS}
use Rattle.algol_tree.specs.declared.token.Spot.{Spot}
use Rattle.algol_tree.specs.declared.refusal.Code.{Code}
use Rattle.algol_tree.specs.declared.refusal.Code.TheVariants as codes
use Rattle.algol_tree.specs.declared.refusal.Fault.{Fault}
use Rattle.algol_tree.specs.declared.refusal.Refusal.{Refusal}
use Rattle.algol_tree.specs.Plain.{PProgram}
use Rattle.algol_tree.specs.Blocks as rules
use Rattle.algol_tree.specs.Blocks.{blocks_of_program}
use Rattle.algol_tree.specs.Cells.{cells_at, cells_of}
use Rattle.algol_tree.specs.Couples.{declaration_at, result_at, actual_at, level_of_block, known_at}
use Rattle.algol_tree.specs.Names.{cells_beyond, deep_actuals, deep_blocks, declared_twice, long_segments, procedures_beyond, unknown_names}
use Rattle.algol_tree.specs.Ascending.{IsInOrder}
use Rattle.algol_tree.specs.Accepted.{broken, scope_faults, sites_of}
use Rattle.algol_frames.specs.declared.found.Cell.{Cell}
use Rattle.algol_frames.specs.declared.found.Use.{Use}
use Rattle.algol_frames.specs.declared.found.Block.{Block}
use Rattle.b67_list.proofs.Lists.{append_none_left, append_none_right, no_longer}
use Rattle.algol_scope.specs.declared.resolver.Resolver.{Resolver}
use Rattle.algol_frames.specs.declared.scopes.Scopes.{Scopes}
use Rattle.algol_frames.specs.Framing.{framed_cells_in, those_in}
use Rattle.algol_scope.specs.Finding.{WalkHolds}
use Rattle.algol_scope.specs.Noting.{noted_cell_of, use_of}
use Rattle.algol_scope.specs.Stating.{stated_block_of}
use Rattle.algol_scope.specs.Resolved.{AreOf, couple, located, meaning, meaning_at, number_of_block, parameters_at}
use Rattle.algol_frames.specs.Laying.{AreLaid, laid_in}
use Rattle.algol_scope.proofs.FirstFault.{those_told}
use Rattle.algol_scope.proofs.Numbering.{in_order}
use Rattle.algol_scope.proofs.Placed.{placed}
use Rattle.algol_scope.proofs.Founded.{few_cells, each_known_at}
use Rattle.algol_scope.proofs.Located.{actuals_told, declared_told, levels_told, meanings_told, numbers_told, parameters_told, results_told}

-- ---- the same in other words

pub laid_as : (blocks items : List Block) → blocks ≡ items → (table : BTreeMap ℕ (Vec Cell Global)) (cs cells : List Cell) → cs ≡ cells →
    (us uses : List Use) → us ≡ uses → (s : Scopes) → AreLaid blocks table cs us s → AreLaid items table cells uses s
laid_as blocks items b table cs cells c us uses u s l =
    let P : List Block → Type 0 = λ z. AreLaid z table cells uses s in
    let Q : List Cell → Type 0 = λ z. AreLaid blocks table z uses s in
    let R : List Use → Type 0 = λ z. AreLaid blocks table cs z s in
    subst P b (subst Q c (subst R u l))

-- ---- no limit is passed

pub unbroken : (code : Code) (spots : List Spot) → broken code spots ≡ [] → spots ≡ []
unbroken code [] h = refl
unbroken code (s ∷ spots) h = absurd (let clash : record { spot = s; code = code } ∷ broken code spots ≡ [] = h in cc)

within : (p : PProgram) → scope_faults p ≡ [] →
    (deep_blocks (blocks_of_program p) ≡ []) × (cells_beyond (blocks_of_program p) (sites_of p) ≡ [])
unfolding scope_faults
within p h =
    let blocks = blocks_of_program p in
    let u : List Fault = broken codes.UnknownName (flat_map unknown_names (sites_of p)) in
    let t : List Fault = broken codes.DeclaredTwice (flat_map (declared_twice blocks) (sites_of p)) in
    let l : List Fault = broken codes.TooManyLevels (deep_blocks blocks ++ flat_map deep_actuals (sites_of p)) in
    let c : List Fault = broken codes.TooManyCells (cells_beyond blocks (sites_of p)) in
    let q : List Fault = broken codes.TooManyProcedures (procedures_beyond blocks) in
    let s : List Fault = broken codes.SegmentTooLong (long_segments p (sites_of p)) in
    let first : ((u ++ t) ++ l) ++ c ≡ [] = append_none_left (((u ++ t) ++ l) ++ c) q (append_none_left ((((u ++ t) ++ l) ++ c) ++ q) s h) in
    let deep : l ≡ [] = append_none_right (u ++ t) l (append_none_left ((u ++ t) ++ l) c first) in (
      append_none_left (deep_blocks blocks) (flat_map deep_actuals (sites_of p))
          (unbroken codes.TooManyLevels (deep_blocks blocks ++ flat_map deep_actuals (sites_of p)) deep),
      unbroken codes.TooManyCells (cells_beyond blocks (sites_of p)) (append_none_right ((u ++ t) ++ l) c first),
    )

module _ (p : PProgram) (order : IsInOrder p) (faultless : scope_faults p ≡ []) (table : BTreeMap ℕ (Vec Cell Global))
    (told : (q : ℕ) → framed_cells_in table q ≡ those_in (map noted_cell_of (flat_map (cells_at (blocks_of_program p)) (sites_of p))) q) where
  abbrev blocks : List rules.Block
  blocks = blocks_of_program p

  few_in : (q : ℕ) → q < length (map stated_block_of blocks) → length (framed_cells_in table q) ≤ MOST_BLOCK_CELLS
  few_in q h = decide (slice_get blocks q) refl
    where
      decide : (o : Option rules.Block) → slice_get blocks q ≡ o → length (framed_cells_in table q) ≤ MOST_BLOCK_CELLS
      decide None e = absurd (omega (arith, h, length-map blocks stated_block_of, no_longer blocks q e))
      decide (Some b) e =
          let few = few_cells blocks (sites_of p) q b (in_order p order) (within p faultless).1 e in
          let its : framed_cells_in table q ≡ map noted_cell_of (cells_of blocks (sites_of p) q) = told q ∙ those_told (flat_map (cells_at blocks) (sites_of p)) q in
          omega (arith, few, ap (λ z. length z) its, length-map (cells_of blocks (sites_of p) q) noted_cell_of)

  are_of : (s : Scopes) →
      AreLaid (map stated_block_of blocks) table (map noted_cell_of (flat_map (cells_at blocks) (sites_of p))) (map use_of (flat_map (known_at blocks) (sites_of p))) s →
      AreOf p s
  unfolding declaration_at meaning_at result_at actual_at level_of_block parameters_at number_of_block
  are_of s l =
      let deep = (within p faultless).0 in
      let each = placed p order in
      let numbered = in_order p order in
      record {
        unbroken = faultless;
        declarations =
            λ spot.
            ap located (l.declarations spot)
            ∙ declared_told blocks (sites_of p) table told deep each numbered (flat_map (known_at blocks) (sites_of p)) spot (each_known_at blocks (sites_of p) each);
        meanings =
            λ spot.
            ap meaning (l.declarations spot)
            ∙ meanings_told (laid_in (map stated_block_of blocks) table) (flat_map (known_at blocks) (sites_of p)) spot;
        results = λ spot. ap couple (l.results spot) ∙ results_told blocks (sites_of p) table told deep each numbered spot;
        actuals = λ spot. ap couple (l.actuals spot) ∙ actuals_told blocks (sites_of p) table told deep each numbered spot;
        levels = λ q. ap (λ z. slice_get z q) l.levels ∙ levels_told blocks (sites_of p) table told deep each numbered q;
        parameters = λ spot. l.parameters spot ∙ parameters_told (flat_map (known_at blocks) (sites_of p)) spot;
        numbers = λ spot. l.numbers spot ∙ numbers_told 0 blocks spot;
      }

told_in : (r : Resolver) (p : PProgram) (table : BTreeMap ℕ (Vec Cell Global)) → WalkHolds r p → ((q : ℕ) → framed_cells_in table q ≡ those_in r.findings.cells.items q) →
    (q : ℕ) → framed_cells_in table q ≡ those_in (map noted_cell_of (flat_map (cells_at (blocks_of_program p)) (sites_of p))) q
told_in r p table h told q = told q ∙ ap (λ z. those_in z q) h.cells

pub few : (p : PProgram) (r s : Resolver) (table : BTreeMap ℕ (Vec Cell Global)) → IsInOrder p → WalkHolds r p → scope_faults p ≡ [] →
    ((q : ℕ) → framed_cells_in table q ≡ those_in r.findings.cells.items q) → s.blocks ≡ r.blocks → (q : ℕ) → q < length s.blocks.items →
    length (framed_cells_in table q) ≤ MOST_BLOCK_CELLS
few p r s table order h faultless told same q l =
    let its : s.blocks.items ≡ map stated_block_of (blocks_of_program p) = (let e : s.blocks.items ≡ r.blocks.items = cc in e ∙ h.blocks) in
    few_in p order faultless table (told_in r p table h told) q (omega (arith, l, ap (λ z. length z) its))

pub are : (p : PProgram) (r s : Resolver) (table : BTreeMap ℕ (Vec Cell Global)) (scopes : Scopes) → IsInOrder p → WalkHolds r p → scope_faults p ≡ [] →
    ((q : ℕ) → framed_cells_in table q ≡ those_in r.findings.cells.items q) → s.blocks ≡ r.blocks → s.findings.cells ≡ r.findings.cells →
    s.findings.uses ≡ r.findings.uses → AreLaid s.blocks.items table s.findings.cells.items s.findings.uses.items scopes → AreOf p scopes
are p r s table scopes order h faultless told b c u l =
    let blocks : s.blocks.items ≡ map stated_block_of (blocks_of_program p) = (let e : s.blocks.items ≡ r.blocks.items = cc in e ∙ h.blocks) in
    let cells : s.findings.cells.items ≡ map noted_cell_of (flat_map (cells_at (blocks_of_program p)) (sites_of p)) =
    (let e : s.findings.cells.items ≡ r.findings.cells.items = cc in e ∙ h.cells) in
    let uses : s.findings.uses.items ≡ map use_of (flat_map (known_at (blocks_of_program p)) (sites_of p)) =
    (let e : s.findings.uses.items ≡ r.findings.uses.items = cc in e ∙ h.uses) in
    let P : List Block → Type 0 = λ z. AreLaid z table s.findings.cells.items s.findings.uses.items scopes in
    let Q : List Cell → Type 0 = λ z. AreLaid (map stated_block_of (blocks_of_program p)) table z s.findings.uses.items scopes in
    let R : List Use → Type 0 = λ z. AreLaid (map stated_block_of (blocks_of_program p)) table (map noted_cell_of (flat_map (cells_at (blocks_of_program p)) (sites_of p))) z scopes in
    are_of p order faultless table (told_in r p table h told) scopes (subst R uses (subst Q cells (subst P blocks l)))

pub are_all : (p : PProgram) (r s : Resolver) (table : BTreeMap ℕ (Vec Cell Global)) (result : Result Scopes Refusal) → IsInOrder p → WalkHolds r p →
    scope_faults p ≡ [] → ((q : ℕ) → framed_cells_in table q ≡ those_in r.findings.cells.items q) → s.blocks ≡ r.blocks → s.findings.cells ≡ r.findings.cells →
    s.findings.uses ≡ r.findings.uses → IfOk result (AreLaid s.blocks.items table s.findings.cells.items s.findings.uses.items) → IfOk result (AreOf p)
are_all p r s table (Ok scopes) order h faultless told b c u l = are p r s table scopes order h faultless told b c u l
are_all p r s table (Err e) order h faultless told b c u l = tt
