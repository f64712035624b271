-- What the names of a tree tell of couples and of lower bounds is what its declarations say.
use Rattle.std.proofs.Common.{◌≡◌, ◌+◌, ◌<◌, ◌≤◌, false, Option, Some, None, refl, sym, ap, ◌∙◌, subst}
use Rattle.algol_tree.specs.declared.TheConstants.{MOST_BLOCK_CELLS}
use Rattle.algol_tree.specs.declared.token.Spot.{Spot}
use Rattle.algol_tree.specs.Blocks.{blocks_of_program}
use Rattle.algol_tree.specs.Cells as cells
use Rattle.algol_tree.specs.Couples.{Located, declaration_at, result_at, actual_at}
use Rattle.algol_tree.specs.Plain.{PProgram}
use Rattle.algol_tree.specs.Scopes.{scopes_of}
use Rattle.algol_paths.specs.Arrays.{Lows, lows_at}
use Rattle.algol_frames.specs.declared.scopes.Couple as found
use Rattle.algol_frames.specs.declared.scopes.Declared.{Declared}
use Rattle.algol_scope.specs.Resolved.{couple, located, declaration_of, result_couple_of, actual_of, AreOf}
use Rattle.b67_ops.specs.declared.Couple.{Couple}
use Rattle.b67_ops.specs.declared.TheConstants.{MOST_LEVEL}
use Rattle.b67_templates.specs.Fitting.{meant_is_event}
use Rattle.b67_emitter.specs.declared.names.Names.{Names}
use Rattle.b67_emitter.specs.Values.{actuals, couple_found, couple_declared, couples, lows, lows_found, meanings, meant, result_declared, results, AreNear}
use Rattle.b67_emit_stmt.specs.Actuals.{AreInner}
use Rattle.b67_fitting.specs.Fitted.{AreActuals, AreCouples, AreLows, AreResults, spelled}
use Rattle.algol_lows.specs.Lows.{lows_found_under}

same_couple : (o : Option found.Couple) (c : cells.Couple) → couple o ≡ Some c → couple_found o ≡ Some (record { level = c.level; index = c.index })
same_couple None c h = absurd (let clash : None ≡ Some c = h in cc)
same_couple (Some y) c h =
    let same : record { level = y.level; index = y.index } ≡ c = cc in
    ap (λ (z : cells.Couple). Some (record { level = z.level; index = z.index })) same

same_declared : (o : Option Declared) (d : Located) (c : cells.Couple) → located o ≡ Some d → d.couple ≡ Some c →
    couple_declared o ≡ Some (record { level = c.level; index = c.index })
same_declared None d c h g = absurd (let clash : None ≡ Some d = h in cc)
same_declared (Some x) d c h g =
    let same : record { spot = x.spot; level = x.level; couple = couple x.couple } ≡ d = cc in
    same_couple x.couple c (ap (λ (z : Located). z.couple) same ∙ g)

-- as it is found, so it is spelled
found_spelled : (o : Option found.Couple) → couple_found o ≡ spelled (couple o)
found_spelled None = refl
found_spelled (Some y) = refl

-- the cell of a couple that is found, as its declaration tells it
index_of : (o : Option found.Couple) (c : Couple) → couple_found o ≡ Some c → (e : cells.Couple) × (couple o ≡ Some e) × (e.index ≡ c.index) × (e.level ≡ c.level)
index_of None c h = absurd (let clash : None ≡ Some c = h in cc)
index_of (Some y) c h =
    let same : record { level = y.level; index = y.index } ≡ c = cc in
    (record { level = y.level; index = y.index }, refl, ap (λ (z : Couple). z.index) same, ap (λ (z : Couple). z.level) same)

module _ (p : PProgram) (names : Names) (are : AreOf p names.scopes.now) where
  pub couples_known : AreCouples p (couples names)
  couples_known spot d c h g = same_declared (declaration_of names.scopes.now spot) d c (are.declarations spot ∙ h) g

  pub results_known : AreResults p (results names)
  results_known spot d h = by (declaration_of names.scopes.now spot) (are.declarations spot ∙ h)
    where
      by : (o : Option Declared) → located o ≡ Some d → result_declared names.scopes.now o ≡ spelled (result_at p d.spot)
      by None e = absurd (let clash : None ≡ Some d = e in cc)
      by (Some x) e =
          let same : record { spot = x.spot; level = x.level; couple = couple x.couple } ≡ d = cc in
          found_spelled (result_couple_of names.scopes.now x.spot) ∙ ap spelled (are.results x.spot ∙ ap (λ (z : Located). result_at p z.spot) same)

  pub actuals_known : AreActuals p (actuals names)
  actuals_known spot c h = same_couple (actual_of names.scopes.now spot) c (are.actuals spot ∙ h)

  -- where the table has the lower bounds of all arrays, and nothing else
  pub lows_known : ((spot : Spot) → lows_found_under names.lows spot ≡ lows_at (blocks_of_program p) spot) → AreLows p (lows names)
  unfolding scopes_of
  lows_known there spot d h = by (declaration_of names.scopes.now spot) (are.declarations spot ∙ h)
    where
      by : (o : Option Declared) → located o ≡ Some d → lows_found names o ≡ lows_at (blocks_of_program p) d.spot
      by None e = absurd (let clash : None ≡ Some d = e in cc)
      by (Some x) e =
          let same : record { spot = x.spot; level = x.level; couple = couple x.couple } ≡ d = cc in
          there x.spot ∙ ap (λ (z : Located). lows_at (blocks_of_program p) z.spot) same

  -- each couple lies near, where that of each declaration, of each result and of each actual does
  pub couples_near : ((spot : Spot) (l : Lows) → lows names spot ≡ Some l → meant_is_event (meant names spot) ≡ false) →
      ((spot : Spot) (d : Located) (c : cells.Couple) → declaration_at p spot ≡ Some d → d.couple ≡ Some c → c.index < 2 + MOST_BLOCK_CELLS) →
      ((spot : Spot) (c : cells.Couple) → result_at p spot ≡ Some c → c.index < 2 + MOST_BLOCK_CELLS) →
      ((spot : Spot) (c : cells.Couple) → actual_at p spot ≡ Some c → c.index < 2 + MOST_BLOCK_CELLS) → AreNear names
  couples_near apart near near_result near_actual = record {
    own = λ spot c h. own spot c (declaration_of names.scopes.now spot) refl h;
    result = λ spot c h. result c (declaration_of names.scopes.now spot) h;
    actual = λ spot c h. actual spot c h;
    apart = apart;
  }
    where
      own : (spot : Spot) (c : Couple) (o : Option Declared) → declaration_of names.scopes.now spot ≡ o → couple_declared o ≡ Some c → c.index < 2 + MOST_BLOCK_CELLS
      own spot c None e g = absurd (let clash : None ≡ Some c = g in cc)
      own spot c (Some x) e g =
          let i = index_of x.couple c g in
          let there = sym (are.declarations spot) ∙ ap located e in
          subst (λ n. n < 2 + MOST_BLOCK_CELLS) i.2 (near spot (record { spot = x.spot; level = x.level; couple = couple x.couple }) i.0 there i.1)

      actual : (spot : Spot) (c : Couple) → actuals names spot ≡ Some c → c.index < 2 + MOST_BLOCK_CELLS
      actual spot c g =
          let i = index_of (actual_of names.scopes.now spot) c g in
          subst (λ n. n < 2 + MOST_BLOCK_CELLS) i.2 (near_actual spot i.0 (sym (are.actuals spot) ∙ i.1))

      result : (c : Couple) (o : Option Declared) → result_declared names.scopes.now o ≡ Some c → c.index < 2 + MOST_BLOCK_CELLS
      result c None g = absurd (let clash : None ≡ Some c = g in cc)
      result c (Some x) g =
          let i = index_of (result_couple_of names.scopes.now x.spot) c g in
          subst (λ n. n < 2 + MOST_BLOCK_CELLS) i.2 (near_result x.spot i.0 (sym (are.results x.spot) ∙ i.1))

  -- the code of each actual has a level, where its couple tells so
  pub actuals_inner : ((spot : Spot) (c : cells.Couple) → actual_at p spot ≡ Some c → c.level + 1 ≤ MOST_LEVEL) → AreInner (meanings names)
  actuals_inner low spot c g =
      let i = index_of (actual_of names.scopes.now spot) c g in
      subst (λ n. n + 1 ≤ MOST_LEVEL) i.3 (low spot i.0 (sym (are.actuals spot) ∙ i.1))
