-- Loops and the first part of IF with ELSE, from what their calls promise one after the other.
use Rattle.std.proofs.Common.{◌≡◌, ℕ, ◌+◌, ◌≤◌, ◌∙◌, [], ◌∷◌, refl, arith}
use Rattle.algol_tree.specs.declared.tree.Kind.TheVariants as types
use Rattle.algol_tree.specs.declared.tree.Named.{Named}
use Rattle.algol_tree.specs.declared.tree.Op.TheVariants as operators
use Rattle.algol_tree.specs.Plain as tree
use Rattle.algol_tree.specs.Plain.{PExpr, PStmt}
use Rattle.b67_emit_stmt.specs.Places.{Later, Place, AssignAt, ExprAt, StepAt}
use Rattle.b67_emit_stmt.specs.declared.draft.Known.{Known}
use Rattle.algol_meaning.specs.Statements.{alone}
use Rattle.b67_ops.specs.declared.Operator.TheVariants as ops
use Rattle.b67_ops.specs.declared.BranchKind.TheVariants.{Brtr}
use Rattle.b67_ops.specs.declared.PlainKind.TheVariants as kinds
use Rattle.b67_segment.specs.Operators.{size}
use Rattle.b67_segment.specs.Building.{Built, level_set}
use Rattle.b67_emit_stmt.specs.Lengths.{expr_syllables}
use Rattle.b67_templates.specs.Emitting.{AreExits, Emitted, EmittedWithExits}
use Rattle.b67_emit_stmt.specs.Fits.{AssignFits, EmittedExprFits, ReadFits, EmittedStmtFits, VariableFits}
use Rattle.b67_templates.specs.Fragments.{Has, AllAt, BranchAt, TurnAt}
use Rattle.b67_emitter.specs.Aiming.{Aimed}
use Rattle.b67_emitter.specs.Values.{ValueEmitted}
use Rattle.b67_emitter.proofs.Appends.{same_level}
use Rattle.b67_emit_stmt.specs.declared.draft.Draft.{Draft}
use Rattle.b67_emit_stmt.specs.Drafts.{Emits, HasFew}
use Rattle.b67_emit_stmt.specs.Emits.{EmitsBody, EmitsStmt}
use Rattle.b67_emit_stmt.proofs.Aims.{hole_as}
use Rattle.b67_emit_stmt.proofs.Arms.{for_arm, thru_arm}
use Rattle.b67_emit_stmt.proofs.Drafts.{emits_then, hole_there, level_after, piece}
use Rattle.b67_emit_stmt.proofs.Matched as matched
use Rattle.b67_emit_stmt.proofs.Parts.{plain_at}
use Rattle.b67_emit_stmt.proofs.Ready.{all_piece, body_piece, turn_piece, value_piece}

-- ---- THRU

module _ (s : Known) (p : PExpr) (x : PStmt) (a n : Draft) (b' d' e' f' o' : Built) (over start : ℕ) (few : HasFew a) (value : ValueEmitted s.names.now (level_set a.out) a.out b' p)
    (value_level : b'.level ≡ a.out.level) (value_short : size b'.operators ≤ size a.out.operators + expr_syllables s p) (start_is : start ≡ size b'.operators)
    (tests : Emitted b' d' (λ qs. AllAt qs (level_set b') (kinds.Dupl ∷ kinds.One ∷ kinds.Less ∷ []) (size b'.operators) (size d'.operators))) (tests_level : d'.level ≡ b'.level)
    (tests_wide : size d'.operators ≡ size b'.operators + 3) (over_is : over ≡ size d'.operators)
    (branch : EmittedWithExits d' e' [] (size d'.operators ∷ []) (λ qs target. BranchAt qs (level_set d') Brtr (size d'.operators) target (size e'.operators)))
    (branch_level : e'.level ≡ d'.level) (branch_wide : size e'.operators ≡ size d'.operators + 3)
    (less : Emitted e' f' (λ qs. AllAt qs (level_set e') (kinds.One ∷ kinds.Subt ∷ []) (size e'.operators) (size f'.operators))) (less_level : f'.level ≡ e'.level)
    (less_wide : size f'.operators ≡ size e'.operators + 2) (code : EmitsBody s (record a { out = f' }) n x)
    (turn : Emitted n.out o' (λ qs. TurnAt qs (level_set n.out) (size n.out.operators) start (size o'.operators))) (turn_level : o'.level ≡ n.out.level)
    (turn_wide : size o'.operators ≡ size n.out.operators + 3) where
  -- the branch past the last turn can be aimed
  pub thru_lies : (sc : Place) → EmittedExprFits sc s (level_set a.out) types.Number p → EmittedStmtFits sc s (level_set a.out) x → AreExits o'.operators (over ∷ []) 0 (size o'.operators)
  thru_lies sc number fit =
      let level = level_set a.out in
      let b : Draft = record a { out = b' } in
      let d : Draft = record a { out = d' } in
      let e : Draft = record a { out = e' } in
      let f : Draft = record a { out = f' } in
      let o : Draft = record n { out = o' } in
      let q = same_level b.out d.out tests_level ∙ same_level a.out b.out value_level in
      let r = same_level d.out e.out branch_level ∙ q in
      let u = same_level e.out f.out less_level ∙ r in
      let v = value_piece s a b level sc types.Number p refl refl refl few value value_short number in
      let some : HasFew e = omega (arith, v.few, tests_wide, branch_wide) in
      let last = all_piece 2 (kinds.One ∷ kinds.Subt ∷ []) e f level r refl refl some less (omega (arith, less_wide)) in
      let part = body_piece s sc x f n level u code fit in
      let round = turn_piece sc b n o start level start_is (level_after part ∙ u) refl refl part.few turn turn_wide in
      hole_there (over ∷ []) d {b = e} (hole_as Brtr d.out e.out level over q over_is branch) (emits_then (emits_then last part) round)

  pub thru_emitted : (j' k' : Built) → Aimed (over ∷ []) o' j' → Emitted j' k' (λ qs. Has qs (level_set j') (size j'.operators) (ops.Plain kinds.Dlet) (size k'.operators)) →
      size k'.operators ≡ size j'.operators + 1 → EmitsStmt s a (record n { out = k' }) (tree.thru p x)
  thru_emitted j' k' aimed h wide = λ sc fit.
      let level = level_set a.out in
      let b : Draft = record a { out = b' } in
      let d : Draft = record a { out = d' } in
      let e : Draft = record a { out = e' } in
      let f : Draft = record a { out = f' } in
      let o : Draft = record n { out = o' } in
      let j : Draft = record n { out = j' } in
      let k : Draft = record n { out = k' } in
      let q = same_level a.out b.out value_level in
      let r = same_level b.out d.out tests_level ∙ q in
      let u = same_level d.out e.out branch_level ∙ r in
      let w = same_level e.out f.out less_level ∙ u in
      let v = value_piece s a b level sc types.Number p refl refl refl few value value_short fit.0 in
      let test = all_piece 3 (kinds.Dupl ∷ kinds.One ∷ kinds.Less ∷ []) b d level q refl refl v.few tests (omega (arith, tests_wide)) in
      let some : HasFew e = omega (arith, test.few, branch_wide) in
      let minus = all_piece 2 (kinds.One ∷ kinds.Subt ∷ []) e f level u refl refl some less (omega (arith, less_wide)) in
      let part = body_piece s sc x f n level w code fit.1 in
      let z = level_after part ∙ w in
      let round = turn_piece sc b n o start level start_is z refl refl part.few turn turn_wide in
      let there : level_set j.out ≡ level = same_level o.out j.out aimed.level ∙ same_level n.out o.out turn_level ∙ z in
      let lots : HasFew j = omega (arith, round.few, aimed.place) in
      let last = piece {n = 1} {d = j} {e = k} refl refl lots (λ later. plain_at kinds.Dlet level there h) (omega (arith, wide)) in
      thru_arm sc level s p x a b d e f n o j k (over ∷ []) v test (hole_as Brtr d.out e.out level over r over_is branch) (omega (arith, branch_wide)) refl refl minus part round aimed refl refl last

-- ---- FOR

pub for_emitted : (s : Known) (v : Named) (first p l : PExpr) (x : PStmt) (a e f : Draft) (b' d' n' o' : Built) (start : ℕ) → HasFew a →
    ((sc : Place) (later : Later) → AssignFits sc s (level_set a.out) v first →
    Emitted a.out b' (λ qs. AssignAt sc later qs (level_set a.out) v first (size a.out.operators) (size b'.operators))) →
    b'.level ≡ a.out.level → size b'.operators ≤ size a.out.operators + (4 + expr_syllables s first) → start ≡ size b'.operators →
    ((sc : Place) (later : Later) → ReadFits sc s (level_set b') types.Number v → EmittedExprFits sc s (level_set b') types.Number l →
    Emitted b' d' (λ qs. ExprAt sc later qs (level_set b') types.Number (tree.two operators.Sub (alone v) l) (size b'.operators) (size d'.operators) (size d'.operators))) →
    d'.level ≡ b'.level → size d'.operators ≤ size b'.operators + (3 + expr_syllables s l) →
    ((sc : Place) → EmittedExprFits sc s (level_set d') types.Number p →
    Emits (13 + expr_syllables s p) (record a { out = d' }) e (λ later qs target. StepAt sc later qs (level_set d') p (size d'.operators) target (size e.out.operators))) →
    EmitsBody s e f x →
    ((sc : Place) (later : Later) → VariableFits sc s (level_set f.out) v → EmittedExprFits sc s (level_set f.out) types.Number p →
    Emitted f.out n' (λ qs. AssignAt sc later qs (level_set f.out) v (tree.two operators.Add (alone v) p) (size f.out.operators) (size n'.operators))) →
    n'.level ≡ f.out.level → size n'.operators ≤ size f.out.operators + (7 + expr_syllables s p) →
    Emitted n' o' (λ qs. TurnAt qs (level_set n') (size n'.operators) start (size o'.operators)) → size o'.operators ≡ size n'.operators + 3 →
    EmitsStmt s a (record f { out = o' }) (tree.for v first p l x)
for_emitted s v first p l x a e f b' d' n' o' start few assign assign_level assign_short start_is difference difference_level difference_short step code advance advance_level advance_short h wide =
    λ sc fit.
    let level = level_set a.out in
    let b : Draft = record a { out = b' } in
    let d : Draft = record a { out = d' } in
    let n : Draft = record f { out = n' } in
    let o : Draft = record f { out = o' } in
    let q = same_level a.out b.out assign_level in
    let r = same_level b.out d.out difference_level ∙ q in
    let begin = matched.assigned s sc level v first a b refl refl refl few assign assign_short (types.Number, fit.0.1, fit.1) in
    let test = matched.compared s sc level v l b d q refl refl begin.few difference difference_short fit.0.0 fit.3 in
    let past = matched.stepped s sc level p d e r step fit.2 in
    let part = body_piece s sc x e f level (level_after past ∙ r) code fit.4 in
    let u = level_after (emits_then past part) ∙ r in
    let next = matched.advanced s sc level v p f n u refl refl part.few advance advance_short fit.0 fit.2 in
    for_arm sc level s v first p l x a b d e f n o begin test past part next
    (turn_piece sc b n o start level start_is (same_level f.out n.out advance_level ∙ u) refl refl next.few h wide)
