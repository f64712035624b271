-- The texts of a program fit where they are emitted: the numbers that are known of their procedures are those of their segments.
use Rattle.std.proofs.Common.{◌≡◌, ℕ, zero, suc, ◌+◌, ◌<◌, ◌≤◌, Bool, true, false, Option, List, [], ◌∷◌, length, refl, sym, ap, ◌∙◌, subst, arith, if◌then◌else◌}
use Rattle.std.specs.Prelude.{Some, slice_get}
use Rattle.algol_tree.specs.declared.TheConstants.{MOST_PROCEDURES}
use Rattle.algol_tree.specs.declared.token.Spot.{Spot}
use Rattle.algol_tree.specs.declared.tree.Named.{Named}
use Rattle.algol_tree.specs.Blocks.{of_statement, same_spot, number_at}
use Rattle.algol_tree.specs.Plain as tree
use Rattle.algol_tree.specs.Plain.{PStmt, PStmts, PDecls, PBody}
use Rattle.algol_tree.specs.Scopes.{Scopes}
use Rattle.algol_tree.proofs.Spots.{same_spot_is, same_spot_itself}
use Rattle.b67_emitter.specs.declared.names.Names.{Names}
use Rattle.algol_places.specs.Numbers.{number_from}
use Rattle.algol_paths.specs.Segments.{segment_of}
use Rattle.b67_ops.specs.declared.TheConstants.{OUTER_LEVEL}
use Rattle.b67_templates.specs.Cells.{procedures}
use Rattle.b67_templates.specs.Fitting as fitting
use Rattle.b67_emitter.specs.Values.{meanings}
use Rattle.b67_emit_stmt.specs.declared.draft.Known.{Known}
use Rattle.b67_emit_stmt.specs.Fits.{AreNumbered, InsideFits, IsNumbered, EmittedStmtFits, EmittedStmtsFit, next_to, procedure_number_in}
use Rattle.b67_emit_stmt.specs.Places.{Place}
use Rattle.b67_emit_text.specs.Programs.{AreDue, block_of_text}
use Rattle.b67_emit_text.specs.Texts.{Text, HaveLevelsBody, outer_text, places_of, texts, texts_of, texts_in_body, texts_in_decl, texts_in_decls, texts_in_stmts}
use Rattle.b67_emit_text.proofs.TextStanding.{place_of}
use Rattle.b67_emit_text.proofs.TextTrees.{Each, Fine, Within, each_at, each_from, each_left, each_right, hold_body, levels_all, levels_decls, within_procedure, same_text}

-- ---- what fits, and the numbers of what it declares

module _ (place : Place) (s : Known) where
  abbrev pub Numbered : Text → Type 0
  Numbered t = (n : Named) → n.spot ≡ t.spot → IsNumbered place.scopes s t.level n

  pub known_procedures : (ds : PDecls) (level : ℕ) → Each Numbered (texts_in_decls ds level) → AreNumbered place.scopes s level (procedures ds)
  known_procedures tree.no_decls level h = tt
  known_procedures (tree.decls (tree.procedure g t) ds) level h = (
    (each_left Numbered (texts_in_decl (tree.procedure g t) level) (texts_in_decls ds level) h).0 g.name refl,
    known_procedures ds level (each_right Numbered (texts_in_decl (tree.procedure g t) level) (texts_in_decls ds level) h),
  )
  known_procedures (tree.decls (tree.simple kind ns) ds) level h = known_procedures ds level h
  known_procedures (tree.decls (tree.files ns) ds) level h = known_procedures ds level h
  known_procedures (tree.decls (tree.events ns) ds) level h = known_procedures ds level h
  known_procedures (tree.decls (tree.tasks ns) ds) level h = known_procedures ds level h
  known_procedures (tree.decls (tree.labels ns) ds) level h = known_procedures ds level h
  known_procedures (tree.decls (tree.arrays kind ns pairs) ds) level h = known_procedures ds level h
  known_procedures (tree.decls (tree.forward g) ds) level h = known_procedures ds level h

  -- in the block with this number
  abbrev in_block : ℕ → Place
  in_block block = record place { block = block }

  module _ (same : place.segment ≡ s.segment) where
    mutual
      known_fits : (x : PStmt) (level block : ℕ) → fitting.StmtFits place.scopes (meanings s.names.now) level block x → Each Numbered (texts_of x of_statement level) →
          EmittedStmtFits (in_block block) s level x
      known_fits tree.empty level block fit h = tt
      known_fits (tree.label n t) level block fit h = (fit.0, known_fits t level block fit.1 h)
      known_fits (tree.assign (tree.subscripted n tree.none) e) level block fit h = fit
      known_fits (tree.assign (tree.subscripted n (tree.more i is)) e) level block fit h = fit
      known_fits (tree.call_of (tree.called n es)) level block fit h = fit
      known_fits (tree.go_to n) level block fit h = fit
      known_fits (tree.block (tree.body spot tree.no_decls ss)) level block fit h = known_all ss level block fit h
      known_fits (tree.block (tree.body spot (tree.decls d ds) ss)) level block fit h =
          let declared = texts_in_decls (tree.decls d ds) (level + 1) in
          let behind = texts_in_stmts ss (level + 1) in
          (fit.0, same, known_procedures (tree.decls d ds) (level + 1) (each_left Numbered declared behind h), fit.1, known_all ss (level + 1) (number_at place.scopes.blocks spot) fit.2 (each_right Numbered declared behind h))
      known_fits (tree.if_then c x) level block fit h = (fit.0, known_fits x level block fit.1 h)
      known_fits (tree.if_else c x y) level block fit h = (
        fit.0,
        known_fits x level block fit.1 (each_left Numbered (texts_of x of_statement level) (texts_of y of_statement level) h),
        known_fits y level block fit.2 (each_right Numbered (texts_of x of_statement level) (texts_of y of_statement level) h),
      )
      known_fits (tree.while c b) level block fit h = (fit.0, known_fits b level block fit.1 h)
      known_fits (tree.until b c) level block fit h = (known_fits b level block fit.0 h, fit.1)
      known_fits (tree.for v a t l b) level block fit h = ((fit.0, fit.1), fit.2, fit.3, fit.4, known_fits b level block fit.5 h)
      known_fits (tree.thru e b) level block fit h = (fit.0, known_fits b level block fit.1 h)
      known_fits (tree.case e ss) level block fit h = (fit.0, known_all ss level block fit.1 h)
      known_fits (tree.process (tree.called n es) task) level block fit h = fit
      known_fits (tree.event act e) level block fit h = fit
      known_fits (tree.write n spot phrases es) level block fit h = fit

      pub known_all : (xs : PStmts) (level block : ℕ) → fitting.StmtsFit place.scopes (meanings s.names.now) level block xs → Each Numbered (texts_in_stmts xs level) →
          EmittedStmtsFit (in_block block) s level xs
      known_all tree.no_stmts level block fit h = tt
      known_all (tree.stmts x xs) level block fit h = (
        known_fits x level block fit.0 (each_left Numbered (texts_of x of_statement level) (texts_in_stmts xs level) h),
        known_all xs level block fit.1 (each_right Numbered (texts_of x of_statement level) (texts_in_stmts xs level) h),
      )

-- ---- the number of a text

-- the first text that stands there, where they are counted from a number on
record First (from : ℕ) (ts : List Text) (spot : Spot) : Type 0 where
  place : ℕ
  text : Text
  is : number_from from (places_of ts) spot ≡ Some (from + place)
  there : slice_get ts place ≡ Some text
  same : text.spot ≡ spot

first_there : (from : ℕ) (ts : List Text) (k : ℕ) (t : Text) → slice_get ts k ≡ Some t → First from ts t.spot
first_there from [] zero t e = cc
first_there from [] (suc k) t e = cc
first_there from (x ∷ xs) k t e = by (λ i u. first_there (from + 1) xs i t u) (same_spot x.spot t.spot) refl k e
  where
    number : Bool → Option ℕ
    number b = if b then Some from else number_from (from + 1) (places_of xs) t.spot

    by : ((i : ℕ) → slice_get xs i ≡ Some t → First (from + 1) xs t.spot) → (b : Bool) → same_spot x.spot t.spot ≡ b → (k : ℕ) → slice_get (x ∷ xs) k ≡ Some t →
        First from (x ∷ xs) t.spot
    by behind true q k e =
        let own : from ≡ from + 0 = omega arith in
        record { place = 0; text = x; is = ap number q ∙ ap Some own; there = refl; same = same_spot_is x.spot t.spot q }
    by behind false q zero e =
        let self : same_spot x.spot t.spot ≡ true = ap (λ (u : Text). same_spot u.spot t.spot) (same_text x t e) ∙ same_spot_itself t.spot in cc
    by behind false q (suc k) e =
        let f = behind k e in
        let more : from + 1 + f.place ≡ from + suc f.place = omega arith in
        record { place = suc f.place; text = f.text; is = ap number q ∙ f.is ∙ ap Some more; there = f.there; same = f.same }

pub lies_within : (ts : List Text) (k : ℕ) (t : Text) → slice_get ts k ≡ Some t → k < length ts
lies_within [] zero t e = cc
lies_within [] (suc k) t e = cc
lies_within (x ∷ xs) zero t e = omega arith
lies_within (x ∷ xs) (suc k) t e = omega (arith, lies_within xs k t e)

-- ---- a program

outer_within : (P : Text → Type 0) (b : PBody) → Each P (texts_in_body b OUTER_LEVEL) → Within P (outer_text b).level (outer_text b).decls (outer_text b).stmts
outer_within P (tree.body spot ds ss) h =
    (each_left P (texts_in_decls ds OUTER_LEVEL) (texts_in_stmts ss OUTER_LEVEL) h, each_right P (texts_in_decls ds OUTER_LEVEL) (texts_in_stmts ss OUTER_LEVEL) h)

module _ (sc : Scopes) (known : Names) where
  levels_by : (b : PBody) → fitting.StmtsFit sc (meanings known) (outer_text b).level (block_of_text sc (outer_text b)) (outer_text b).stmts →
      Each (Fine sc (meanings known)) (texts_in_body b OUTER_LEVEL) → HaveLevelsBody b OUTER_LEVEL
  levels_by (tree.body spot ds ss) fit h =
      let F = Fine sc (meanings known) in (
        levels_decls sc (meanings known) ds OUTER_LEVEL (each_left F (texts_in_decls ds OUTER_LEVEL) (texts_in_stmts ss OUTER_LEVEL) h),
        levels_all sc (meanings known) ss OUTER_LEVEL (number_at sc.blocks spot) (omega arith) fit (each_right F (texts_in_decls ds OUTER_LEVEL) (texts_in_stmts ss OUTER_LEVEL) h),
      )

  -- its blocks have levels
  pub levels_there : (b : PBody) → AreDue sc known (texts b) → HaveLevelsBody b OUTER_LEVEL
  levels_there b due =
      levels_by b (due 0 (outer_text b) refl).fits
      (each_from (Fine sc (meanings known)) (texts_in_body b OUTER_LEVEL) (λ k t e. ((due (suc k) t e).level, (due (suc k) t e).fits)))

module _ (sc : Scopes) (s : Known) (b : PBody) (are : s.procedures.now ≡ places_of (texts_in_body b OUTER_LEVEL)) (few : length (texts b) ≤ 1 + MOST_PROCEDURES)
    (due : AreDue sc s.names.now (texts b)) where
  numbered_at : (place : Place) → place.scopes ≡ sc → (k : ℕ) (t : Text) → slice_get (texts_in_body b OUTER_LEVEL) k ≡ Some t → Numbered place s t
  numbered_at place same k t e n at =
      let ts = texts_in_body b OUTER_LEVEL in
      let first = first_there 0 ts k t e in
      let number : Spot → ℕ = λ spot. segment_of sc.blocks (number_at sc.blocks spot) in
      let number_is : procedure_number_in s.procedures.now n.spot ≡ first.place + 1 =
      ap (λ l. procedure_number_in l n.spot) are ∙ ap (λ spot. procedure_number_in (places_of ts) spot) at ∙ ap next_to first.is ∙ omega arith in
      let I : Scopes → Type 0 = λ x. IsNumbered x s t.level n in
      subst I (sym same)
      (record {
        is = omega (arith, ap number (at ∙ sym first.same), (due (suc first.place) first.text first.there).segment, number_is);
        few = omega (arith, number_is, lies_within ts first.place first.text first.there, few);
        inner = (due (suc k) t e).level;
      })

  -- each text fits in the segment of its number
  pub fits_there : (k : ℕ) (t : Text) → slice_get (texts b) k ≡ Some t → s.segment ≡ k → InsideFits (place_of sc t) s t.level t.decls t.stmts
  fits_there k t e is =
      let place = place_of sc t in
      let P = Numbered place s in
      let all : Each P (texts_in_body b OUTER_LEVEL) = each_from P (texts_in_body b OUTER_LEVEL) (numbered_at place refl) in
      let W : Text → Type 0 = λ u. Within P u.level u.decls u.stmts in
      let within : Each W (texts b) = (outer_within P b all, hold_body 0 P W (λ level h x le own. within_procedure P level x own) b OUTER_LEVEL (omega arith) all) in
      let here = each_at W (texts b) k t within e in
      (known_procedures place s t.decls t.level here.0, (due k t e).decls, known_all place s ((due k t e).segment ∙ sym is) t.stmts t.level place.block (due k t e).fits here.1)
