-- The control words among the cells of a frame: of the procedures that its block declares, and of its actuals.
use Rattle.std.proofs.Common.{◌≡◌, refl, ap, ◌∙◌, subst, ℕ, zero, suc, ◌+◌, ◌<◌, ◌≤◌, List, [], ◌∷◌, length, Some, arith, length-append}
use Rattle.b67_list.proofs.Lists.{get_front, length_map}
use Rattle.b67_list.proofs.Numbers.{none_some}
use Rattle.b67_frames.proofs.Prelude.{slice_get, Block, block_numbered, level_of, Scopes, MOST_BLOCK_CELLS, Named, segment_of, pcw_word, Pcw, simple_cells, procedures, Actual, actuals_of, made_of, Context, AreNested, control_words, some_same, get_behind, block_controls}
use Rattle.algol_tree.specs.Blocks.{number_at}
use Rattle.b67_control.specs.Control.{Fits_pcw}
use Rattle.b67_segment.specs.Operators.{Placed}
use Rattle.b67_templates.specs.Fragments.{ControlsAt, code_at, routine_at, procedure_controls}
use Rattle.b67_templates.specs.Cells.{control_segments, has_place}
use Rattle.b67_templates.specs.Code.{RoutineAt, RoutinesAt, routine_controls}
use Rattle.b67_rows.proofs.Segmented.{get_mapped}
use Rattle.b67_frames.specs.Frames.{AllFit, controls_count}

-- the cells of a block are few: simple cells, control words, and what actions make
pub block_few : (sc : Scopes) → AreNested sc → (j : ℕ) → j < length sc.blocks →
    length (simple_cells sc (block_numbered sc.blocks j)) + controls_count sc j + length (made_of (block_numbered sc.blocks j).decls) ≤ MOST_BLOCK_CELLS
block_few sc nested j known = omega (arith, (nested.each j known).few)

-- where the code of each actual stands at its place, there are as many places
pub routines_long : (sc : Scopes) (context : Context) (ps : List Placed) (level : ℕ) (actuals : List Actual) (ats : List ℕ) → RoutinesAt sc context ps level actuals ats → length ats ≡ length actuals
routines_long sc context ps level [] ats are = ap length are
routines_long sc context ps level (a ∷ actuals) ats are = ap length are.2 ∙ ap suc (routines_long sc context ps level actuals are.1 are.4)

-- as many words as there are control words
pub as_many_controls : (pcws : List Pcw) → length (control_words pcws) ≡ length pcws
as_many_controls pcws = length_map (λ (pcw : Pcw). pcw_word pcw) pcws

-- one for each actual
routines_many : (segment level : ℕ) (actuals : List Actual) (ats : List ℕ) → length ats ≡ length actuals → length (routine_controls segment level actuals ats) ≡ length actuals
routines_many segment level [] ats e = refl
routines_many segment level (a ∷ actuals) [] e = absurd (omega (arith, e))
routines_many segment level (a ∷ actuals) (at ∷ ats) e = ap suc (routines_many segment level actuals ats (omega (arith, e)))

-- .. and for each procedure
pub controls_many : (sc : Scopes) (j : ℕ) (ats : List ℕ) → length ats ≡ length (actuals_of sc (block_numbered sc.blocks j)) → length (block_controls sc j ats) ≡ controls_count sc j
controls_many sc j ats e =
    let b : Block = block_numbered sc.blocks j in
    omega (
      arith,
      length-append (procedure_controls (level_of b) (control_segments sc b.decls)) (routine_controls (segment_of sc.blocks j) (level_of b) (actuals_of sc b) ats),
      length_map (λ (segment : ℕ). code_at segment 0 (level_of b + 1)) (control_segments sc b.decls),
      length_map (λ (n : Named). segment_of sc.blocks (number_at sc.blocks n.spot)) (procedures b.decls),
      routines_many (segment_of sc.blocks j) (level_of b) (actuals_of sc b) ats e,
    )

-- that of a procedure, by the number of its declaration
pub get_control : (sc : Scopes) (j : ℕ) (ats : List ℕ) (k s : ℕ) → slice_get (control_segments sc (block_numbered sc.blocks j).decls) k ≡ Some s →
    slice_get (control_words (block_controls sc j ats)) k ≡ Some (pcw_word (code_at s 0 (level_of (block_numbered sc.blocks j) + 1)))
get_control sc j ats k s e =
    let b : Block = block_numbered sc.blocks j in
    let c : Pcw = code_at s 0 (level_of b + 1) in
    get_mapped (λ (pcw : Pcw). pcw_word pcw) (block_controls sc j ats) k c
    (get_front (procedure_controls (level_of b) (control_segments sc b.decls)) (routine_controls (segment_of sc.blocks j) (level_of b) (actuals_of sc b) ats) k c
    (get_mapped (λ (segment : ℕ). code_at segment 0 (level_of b + 1)) (control_segments sc b.decls) k s e))

-- ---- the code of an actual

-- it stands at its place
pub record RoutineThere (sc : Scopes) (context : Context) (ps : List Placed) (level : ℕ) (a : Actual) (ats : List ℕ) (k : ℕ) : Type 0 where
  pub at : ℕ
  pub is : slice_get ats k ≡ Some at
  pub code : RoutineAt sc context ps level a at

pub routine_there : (sc : Scopes) (context : Context) (ps : List Placed) (level : ℕ) (actuals : List Actual) (ats : List ℕ) → RoutinesAt sc context ps level actuals ats → (k : ℕ) (a : Actual) →
    slice_get actuals k ≡ Some a → RoutineThere sc context ps level a ats k
routine_there sc context ps level [] ats are k a e = none_some e
routine_there sc context ps level (b ∷ actuals) ats are zero a e =
    record {
      at = are.0;
      is = ap (λ (as' : List ℕ). slice_get as' 0) are.2;
      code = subst (λ (x : Actual). RoutineAt sc context ps level x are.0) (some_same e) are.3;
    }
routine_there sc context ps level (b ∷ actuals) ats are (suc k) a e =
    let r : RoutineThere sc context ps level a are.1 k = routine_there sc context ps level actuals are.1 are.4 k a e in
    record { at = r.at; is = ap (λ (as' : List ℕ). slice_get as' (suc k)) are.2 ∙ r.is; code = r.code }

routine_got : (segment level : ℕ) (actuals : List Actual) (ats : List ℕ) (k : ℕ) (a : Actual) (at : ℕ) → slice_get actuals k ≡ Some a → slice_get ats k ≡ Some at →
    slice_get (routine_controls segment level actuals ats) k ≡ Some (routine_at (has_place a.expr) segment at (level + 1))
routine_got segment level [] ats k a at e f = none_some e
routine_got segment level (b ∷ actuals) [] k a at e f = none_some f
routine_got segment level (b ∷ actuals) (n ∷ ats) zero a at e f =
    ap (λ (x : Actual). Some (routine_at (has_place x.expr) segment n (level + 1))) (some_same e)
    ∙ ap (λ (m : ℕ). Some (routine_at (has_place a.expr) segment m (level + 1))) (some_same f)
routine_got segment level (b ∷ actuals) (n ∷ ats) (suc k) a at e f = routine_got segment level actuals ats k a at e f

-- its control word, by the number of the actual: after those of the procedures
pub routine_control : (sc : Scopes) (j : ℕ) (ats : List ℕ) (k : ℕ) (a : Actual) (at : ℕ) → slice_get (actuals_of sc (block_numbered sc.blocks j)) k ≡ Some a → slice_get ats k ≡ Some at →
    slice_get (block_controls sc j ats) (length (procedures (block_numbered sc.blocks j).decls) + k) ≡ Some (routine_at (has_place a.expr) (segment_of sc.blocks j) at (level_of (block_numbered sc.blocks j) + 1))
routine_control sc j ats k a at e f =
    let b : Block = block_numbered sc.blocks j in
    get_behind (procedure_controls (level_of b) (control_segments sc b.decls)) (routine_controls (segment_of sc.blocks j) (level_of b) (actuals_of sc b) ats) k (length (procedures b.decls) + k)
    (omega (
      arith,
      length_map (λ (segment : ℕ). code_at segment 0 (level_of b + 1)) (control_segments sc b.decls),
      length_map (λ (n : Named). segment_of sc.blocks (number_at sc.blocks n.spot)) (procedures b.decls),
    ))
    ∙ routine_got (segment_of sc.blocks j) (level_of b) (actuals_of sc b) ats k a at e f

pub get_routine : (sc : Scopes) (j : ℕ) (ats : List ℕ) (k : ℕ) (a : Actual) (at : ℕ) → slice_get (actuals_of sc (block_numbered sc.blocks j)) k ≡ Some a → slice_get ats k ≡ Some at →
    slice_get (control_words (block_controls sc j ats)) (length (procedures (block_numbered sc.blocks j).decls) + k)
    ≡ Some (pcw_word (routine_at (has_place a.expr) (segment_of sc.blocks j) at (level_of (block_numbered sc.blocks j) + 1)))
get_routine sc j ats k a at e f =
    get_mapped (λ (pcw : Pcw). pcw_word pcw) (block_controls sc j ats) (length (procedures (block_numbered sc.blocks j).decls) + k)
    (routine_at (has_place a.expr) (segment_of sc.blocks j) at (level_of (block_numbered sc.blocks j) + 1)) (routine_control sc j ats k a at e f)

-- ---- control words can hold where their code stands

-- those that the code of a block pushes
pub controls_fit : (ps : List Placed) (level : ℕ) (pcws : List Pcw) (from to : ℕ) → ControlsAt ps level pcws from to → AllFit pcws
controls_fit ps level [] from to are = tt
controls_fit ps level (c ∷ cs) from to are = (are.2, controls_fit ps level cs are.0 to are.3)

pub fits_there : (pcws : List Pcw) → AllFit pcws → (k : ℕ) (c : Pcw) → slice_get pcws k ≡ Some c → Fits_pcw c
fits_there [] all k c e = none_some e
fits_there (d ∷ pcws) all zero c e = subst (λ (x : Pcw). Fits_pcw x) (some_same e) all.0
fits_there (d ∷ pcws) all (suc k) c e = fits_there pcws all.1 k c e
