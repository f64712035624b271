-- The segments of a program: that of its outer block, and those of its procedures after it.
use Rattle.std.proofs.Common.{◌≡◌, ℕ, zero, suc, ◌+◌, ◌*◌, ◌<◌, ◌≤◌, Option, None, List, [], ◌∷◌, ◌++◌, length, map, take, get_or, sym, ap, ◌∙◌, subst, arith}
use Rattle.std.specs.Prelude.{Some, slice_get}
use Rattle.std.proofs.lemmas.List.{length-map, take_all, take_more}
use Rattle.algol_tree.specs.declared.TheConstants.{MOST_BLOCK_CELLS, MOST_PROCEDURES}
use Rattle.algol_tree.specs.declared.token.Spot.{Spot}
use Rattle.algol_tree.specs.declared.tree.Body.{Body}
use Rattle.algol_tree.specs.declared.tree.Decl.{Decl}
use Rattle.algol_tree.specs.declared.tree.Kind.{Kind}
use Rattle.algol_tree.specs.declared.tree.Stmt.{Stmt}
use Rattle.algol_tree.specs.Image.{body, decls, stmts}
use Rattle.algol_tree.specs.Plain as tree
use Rattle.algol_tree.specs.Plain.{PDecls, PBody}
use Rattle.algol_tree.specs.Scopes.{Scopes}
use Rattle.algol_tree.proofs.Images.{body_is}
use Rattle.algol_paths.specs.Segments.{segment_of}
use Rattle.b67_emitter.specs.declared.names.Names.{Names}
use Rattle.b67_ops.specs.declared.TheConstants.{OUTER_LEVEL}
use Rattle.b67_segment.specs.declared.code.Format.{Format}
use Rattle.b67_segment.specs.declared.code.Segment.{Segment}
use Rattle.b67_templates.specs.Cells.{variables, actuals_in_block}
use Rattle.b67_emit_stmt.specs.declared.draft.Known.{Known}
use Rattle.b67_emit_text.specs.declared.texts.Procedure.{Procedure}
use Rattle.b67_emit_stmt.specs.Drafts.{DraftAgrees}
use Rattle.b67_emit_stmt.specs.Places.{Later}
use Rattle.b67_emit_stmt.specs.Lengths.{celled_in}
use Rattle.b67_emit_text.specs.Codes.{IsNear, result_index, zeros_for}
use Rattle.b67_emit_text.specs.Programs.{AreDue, block_of_text}
use Rattle.b67_emit_text.specs.Segments.{TextCanStand, IsMadeOf, TextFits, code_syllables, returned_in}
use Rattle.b67_emit_text.specs.Texts.{Text, outer_text, places_of, text_of_procedure, texts, texts_in_body}
use Rattle.b67_emit_stmt.proofs.Blocks.{as_many}
use Rattle.b67_emit_stmt.proofs.Celled.{celled_inside}
use Rattle.b67_emit_text.proofs.Paid.{inside_pays}
use Rattle.b67_emit_text.proofs.TextNumbers.{fits_there, lies_within}
use Rattle.b67_emit_text.proofs.TextStanding.{AllStand, TextStands, place_of, stand_more, text_at, zeros_are}
use Rattle.b67_emit_text.proofs.TextTrees.{Each, Roomy, each_at, each_from, hold_body, outer_roomy, procedure_roomy}

-- ---- the outer block

module _ (b : Body) where
  pub outer_returned : None ≡ result_index (outer_text (body b)).result (outer_text (body b)).parameters
  outer_returned = ap (λ x. result_index (outer_text x).result (outer_text x).parameters) (sym (body_is b))

  pub outer_level : OUTER_LEVEL ≡ (outer_text (body b)).level
  outer_level = ap (λ x. (outer_text x).level) (sym (body_is b))

  pub outer_decls : (ds : List Decl) → ds ≡ b.decls → decls ds ≡ (outer_text (body b)).decls
  outer_decls ds e = ap decls e ∙ ap (λ x. (outer_text x).decls) (sym (body_is b))

  pub outer_stmts : (ss : List Stmt) → ss ≡ b.stmts → stmts ss ≡ (outer_text (body b)).stmts
  outer_stmts ss e = ap stmts e ∙ ap (λ x. (outer_text x).stmts) (sym (body_is b))

-- ---- how many they are

pub places_few : (b : PBody) (places : List Spot) → places ≡ places_of (texts_in_body b OUTER_LEVEL) → length (texts b) ≤ 1 + MOST_PROCEDURES → length places ≤ MOST_PROCEDURES
places_few b places are few = omega (arith, ap length are, length-map (texts_in_body b OUTER_LEVEL) (λ (t : Text). t.spot), few)

pub number_few : (b : PBody) (ps : List Procedure) → map text_of_procedure ps ≡ texts_in_body b OUTER_LEVEL → length (texts b) ≤ 1 + MOST_PROCEDURES → (i : ℕ) → i < length ps → i + 1 ≤ MOST_PROCEDURES
number_few b ps found few i within = omega (arith, ap length found, length-map ps text_of_procedure, few, within)

-- ---- the procedures

-- those that were found, where there were none before
pub texts_found : (b : PBody) (before now items : List Procedure) → before ≡ [] → map text_of_procedure now ≡ map text_of_procedure before ++ texts_in_body b OUTER_LEVEL → items ≡ now →
    map text_of_procedure items ≡ texts_in_body b OUTER_LEVEL
texts_found b before now items none found same = ap (map text_of_procedure) same ∙ found ∙ ap (λ l. map text_of_procedure l ++ texts_in_body b OUTER_LEVEL) none

-- where they stand
pub places_found : (b : PBody) (before now items : List Procedure) (spots : List Spot) → before ≡ [] → map text_of_procedure now ≡ map text_of_procedure before ++ texts_in_body b OUTER_LEVEL →
    items ≡ now → spots ≡ places_of (map text_of_procedure items) → spots ≡ places_of (texts_in_body b OUTER_LEVEL)
places_found b before now items spots none found same are = are ∙ ap places_of (texts_found b before now items none found same)

text_of_item : (ps : List Procedure) (i : ℕ) (p : Procedure) → i < length ps → p ≡ get_or ps i p → slice_get (map text_of_procedure ps) i ≡ Some (text_of_procedure p)
text_of_item [] i p within e = absurd (omega arith)
text_of_item (q ∷ qs) zero p within e = ap (λ x. Some (text_of_procedure x)) (sym e)
text_of_item (q ∷ qs) (suc i) p within e = text_of_item qs i p (omega (arith, within)) e

module _ (b : PBody) (ps : List Procedure) (are : map text_of_procedure ps ≡ texts_in_body b OUTER_LEVEL) where
  pub text_there : (i : ℕ) (p : Procedure) → i < length ps → p ≡ get_or ps i p → slice_get (texts_in_body b OUTER_LEVEL) i ≡ Some (text_of_procedure p)
  text_there i p within e = ap (λ l. slice_get l i) (sym are) ∙ text_of_item ps i p within e

  pub texts_many : length (texts b) ≡ 1 + length ps
  texts_many = omega (arith, ap length are, length-map ps text_of_procedure)

  pub all_taken : (i : ℕ) → length ps ≤ i → take (i + 1) (texts b) ≡ texts b
  all_taken i le = take_all (i + 1) (texts b) (omega (arith, texts_many))

-- after the outer block's text
pub behind : (b : PBody) (k : ℕ) (t : Text) → slice_get (texts_in_body b OUTER_LEVEL) k ≡ Some t → slice_get (texts b) (k + 1) ≡ Some t
behind b k t e = let next : suc k ≡ k + 1 = omega arith in ap (λ n. slice_get (texts b) n) (sym next) ∙ e

nothing : (ts : List Text) → Each (λ t. Unit {0}) ts
nothing ts = each_from (λ t. Unit {0}) ts (λ k t e. tt)

outer_deep : (b : PBody) → OUTER_LEVEL ≤ (outer_text b).level
outer_deep (tree.body spot ds ss) = omega arith

-- their levels are further in than the outer block's, or the same
deep_there : (b : PBody) (k : ℕ) (t : Text) → slice_get (texts b) k ≡ Some t → OUTER_LEVEL ≤ t.level
deep_there b k t e =
    let D : Text → Type 0 = λ u. OUTER_LEVEL ≤ u.level in
    let all : Each D (texts b) = (
      outer_deep b,
      hold_body OUTER_LEVEL (λ u. Unit {0}) D (λ level h x le own. le) b OUTER_LEVEL (omega arith) (nothing (texts_in_body b OUTER_LEVEL)),
    ) in
    each_at D (texts b) k t all e

-- ---- one text

zeros_few : (returned : Option ℕ) (ds : PDecls) → zeros_for returned ds ≤ 1 + length (variables ds)
zeros_few None ds = omega arith
zeros_few (Some index) ds = omega arith

near_by : (result : Option Kind) (parameters : ℕ) (ds : PDecls) → parameters + zeros_for (result_index result parameters) ds ≤ MOST_BLOCK_CELLS → IsNear (result_index result parameters)
near_by None parameters ds few = tt
near_by (Some kind) parameters ds few = omega (arith, few)

module _ (sc : Scopes) (known : Names) (b : PBody) (due : AreDue sc known (texts b)) (k : ℕ) (t : Text) (e : slice_get (texts b) k ≡ Some t) where
  syllables_there : (s : Known) → code_syllables s t + 5 ≤ 24 * t.tokens + 48
  syllables_there s =
      let R : Each Roomy (texts b) = (
        outer_roomy b,
        hold_body 0 (λ u. Unit {0}) Roomy (λ l h x le own. procedure_roomy l h x) b OUTER_LEVEL (omega arith) (nothing (texts_in_body b OUTER_LEVEL)),
      ) in
      omega (arith, zeros_few (returned_in t) t.decls, inside_pays s t.level t.decls t.stmts, each_at Roomy (texts b) k t R e)

  module _ (s : Known) (same : s.names.now ≡ known) (are : s.procedures.now ≡ places_of (texts_in_body b OUTER_LEVEL)) (few : length (texts b) ≤ 1 + MOST_PROCEDURES) (is : s.segment ≡ k) where
    inside_there : TextFits (place_of sc t) s t
    inside_there = let D : Names → Type 0 = λ x. AreDue sc x (texts b) in fits_there sc s b are few (subst D (sym same) due) k t e is

    segment_there : segment_of sc.blocks (block_of_text sc t) ≡ s.segment
    segment_there = (due k t e).segment ∙ sym is

    pub can_stand : TextCanStand s t
    can_stand =
        let d = due k t e in
        let zeros = zeros_are t.result t.parameters t.name t.decls in
        let many = as_many (actuals_in_block sc t.decls t.stmts) (celled_in s t.decls t.stmts) (celled_inside (place_of sc t) s t.level t.decls t.stmts inside_there) in
        record {
          outer = deep_there b k t e;
          most = d.level;
          parameters = omega (arith, d.few);
          cell = near_by t.result t.parameters t.decls (omega (arith, zeros, d.few));
          small = omega (arith, zeros, many, d.few);
          fits = (place_of sc t, segment_there, inside_there);
          room = omega (arith, syllables_there s, d.room);
        }

    pub stands_there : (all : Later) (segment : Segment) (formats : List Format) (made : IsMadeOf s t segment formats) → DraftAgrees (record { formats = formats; labels = made.labels }) all →
        6 * length segment.words ≤ code_syllables s t + 5 → TextStands sc all segment t
    stands_there all segment formats made known' short =
        text_at sc all known k t segment (due k t e) (made.code (place_of sc t) segment_there inside_there all known') (omega (arith, short, syllables_there s))

-- ---- one more of them

pub got : (ts : List Text) (k : ℕ) (t : Text) → slice_get ts k ≡ Some t → get_or ts k t ≡ t
got [] zero t e = cc
got [] (suc k) t e = cc
got (x ∷ xs) zero t e = cc
got (x ∷ xs) (suc k) t e = got xs k t e

pub first_stands : (sc : Scopes) (all : Later) (xs before : List Segment) (x : Segment) (t : Text) → before ≡ [] → xs ≡ before ++ x ∷ [] → TextStands sc all x t →
    AllStand sc all xs (t ∷ [])
first_stands sc all xs before x t none are h =
    let A : List Segment → Type 0 = λ l. AllStand sc all l (t ∷ []) in
    subst A (sym (are ∙ ap (λ l. l ++ x ∷ []) none)) (h, tt)

pub next_stands : (sc : Scopes) (all : Later) (xs before : List Segment) (x : Segment) (ts : List Text) (k : ℕ) (t : Text) → slice_get ts k ≡ Some t → xs ≡ before ++ x ∷ [] →
    AllStand sc all before (take k ts) → TextStands sc all x t → AllStand sc all xs (take (k + 1) ts)
next_stands sc all xs before x ts k t e are h there =
    let more : take (k + 1) ts ≡ take k ts ++ t ∷ [] = take_more ts k t (lies_within ts k t e) ∙ ap (λ u. take k ts ++ u ∷ []) (got ts k t e) in
    let A : List Segment → List Text → Type 0 = λ l us. AllStand sc all l us in
    subst (A xs) (sym more) (subst (λ l. A l (take k ts ++ t ∷ [])) (sym are) (stand_more sc all before (take k ts) x t h there))
