use Rattle.std.proofs.lemmas.Int.{to_z-of_z}
use Rattle.std.proofs.Common.{w64, ◌≡◌, ◌+◌, ◌∙◌, ℤ, List, ◌∷◌, drop, refl, sym, ap, subst, arith}
use Rattle.std.proofs.Math.ListN.{drop_of_length-le}
use Rattle.std.proofs.lemmas.List.{drop_more}
use Rattle.algol_tree.specs.declared.tree.Kind.TheVariants as types
use Rattle.algol_tree.specs.declared.tree.Pair.{Pair}
use Rattle.algol_tree.specs.Image.{expr, pairs}
use Rattle.b67_segment.specs.Operators.{size}
use Rattle.b67_segment.specs.Building.{level_set}
use Rattle.b67_segment.proofs.Cited.{set_after}
use Rattle.b67_templates.specs.Emitting.{Emitted}
use Rattle.b67_templates.specs.Fragments.{IsWholeNumber, NumberAt}
use Rattle.b67_emitter.proofs.Appends.{same_level}
use Rattle.b67_emit_stmt.specs.Lengths.{bounds_syllables}
use Rattle.b67_emit_stmt.proofs.Bounds.{BoundsLeft, bounds_more, bounds_next, bounds_whole, whole_fits}
use Rattle.b67_emit_stmt.proofs.Parts.{code_at, emitted_none, leveled, value_at}
use Rattle.b67_emit_stmt.proofs.draft.StmtEmitter.bounds.Goals as goal

pub pairs-init : goal.pairs-init
pairs-init g c =
    let a = c.args.out.now in
    let ps = c.args.pairs.now in
    record { level = refl; short = omega arith; code = λ sc later fit. emitted_none a (BoundsLeft sc later (level_set a) ps ps a a) (λ qs t k. k) }

pub fitting-requires : goal.fitting-requires
fitting-requires g c =
    let ps = c.args.pairs.now in
    let i = c.pairs.pair-index in
    let p = c.pair-item.result in
    let next : drop i ps ≡ p ∷ drop (i + 1) ps = drop_more ps i p c.pairs-test.true ∙ ap (λ x. x ∷ drop (i + 1) ps) (sym c.pair-item.is) in
    let whole = (bounds_next c.requires.fits.0 c.args.self.now.known.now (level_set c.args.out.now) i ps p (drop (i + 1) ps) next c.requires.fits.1).0 in
    subst IsWholeNumber (sym (to_z-of_z w64 p.low (whole_fits p.low whole))) whole

pub append_number-requires-clause-set : goal.append_number-requires-clause-set
append_number-requires-clause-set g c = set_after c.args.out.now c.pairs.out c.pairs.invariant.level c.requires.set

pub append_number-requires-clause-room : goal.append_number-requires-clause-room
append_number-requires-clause-room g c =
    let ps = c.args.pairs.now in
    let i = c.pairs.pair-index in
    let p = c.pair-item.result in
    let next : drop i ps ≡ p ∷ drop (i + 1) ps = drop_more ps i p c.pairs-test.true ∙ ap (λ x. x ∷ drop (i + 1) ps) (sym c.pair-item.is) in
    omega (arith, ap (λ (l : List Pair). bounds_syllables c.args.self.now.known.now (pairs l)) next, c.pairs.invariant.short, c.requires.room)

pub value-requires : goal.value-requires
value-requires g c =
    let s = c.args.self.now.known.now in
    let a = c.args.out.now in
    let b = c.pairs.out in
    let d = c.append_number.new.out in
    let ps = c.args.pairs.now in
    let i = c.pairs.pair-index in
    let p = c.pair-item.result in
    let next : drop i ps ≡ p ∷ drop (i + 1) ps = drop_more ps i p c.pairs-test.true ∙ ap (λ x. x ∷ drop (i + 1) ps) (sym c.pair-item.is) in
    let same = c.in_ok-append_number.ensures.level ∙ c.pairs.invariant.level in
    record {
      set = set_after a d same c.requires.set;
      near = c.requires.near;
      code = code_at s (level_set d) (level_set a) c.requires.fits.0 types.Number (expr p.high) (same_level a d same)
          (bounds_next c.requires.fits.0 s (level_set a) i ps p (drop (i + 1) ps) next c.requires.fits.1).1;
      room = omega (arith, ap (λ (l : List Pair). bounds_syllables c.args.self.now.known.now (pairs l)) next, c.pairs.invariant.short, c.in_ok-append_number.ensures.size, c.requires.room);
    }

pub pairs-preserved : goal.pairs-preserved
pairs-preserved g c =
    let s = c.args.self.now.known.now in
    let a = c.args.out.now in
    let b = c.pairs.out in
    let d = c.append_number.new.out in
    let x = c.value.new.out in
    let level = level_set a in
    let ps = c.args.pairs.now in
    let i = c.pairs.pair-index in
    let p = c.pair-item.result in
    let next : drop i ps ≡ p ∷ drop (i + 1) ps = drop_more ps i p c.pairs-test.true ∙ ap (λ x. x ∷ drop (i + 1) ps) (sym c.pair-item.is) in
    let q = same_level a b c.pairs.invariant.level in
    let whole = (bounds_next c.requires.fits.0 s level i ps p (drop (i + 1) ps) next c.requires.fits.1).0 in
    record {
      level = c.in_ok-value.ensures.level ∙ c.in_ok-append_number.ensures.level ∙ c.pairs.invariant.level;
      short = omega (arith, ap (λ (l : List Pair). bounds_syllables c.args.self.now.known.now (pairs l)) next, c.pairs.invariant.short, c.in_ok-append_number.ensures.size, c.in_ok-value.ensures.size);
      code = λ sc later fit.
          let N : ℤ → Type 0 = λ z. Emitted b d (λ qs. NumberAt qs level z (size b.operators) (size d.operators)) in
          bounds_more sc later level ps (drop i ps) p (drop (i + 1) ps) a b d x next (c.pairs.invariant.code sc later fit)
          (subst N (c.fitting.ensures ∙ to_z-of_z w64 p.low (whole_fits p.low whole)) (leveled (λ l qs. NumberAt qs l c.fitting.result (size b.operators) (size d.operators)) level q c.in_ok-append_number.ensures.code))
          (value_at s d x level sc later types.Number (expr p.high) (same_level b d c.in_ok-append_number.ensures.level ∙ q) c.in_ok-value.ensures.code
          (bounds_next sc s level i ps p (drop (i + 1) ps) next fit).1);
    }

pub returns-clause-code : goal.returns-clause-code
returns-clause-code g c =
    let ps = c.args.pairs.now in
    λ sc later fit.
    bounds_whole sc later (level_set c.args.out.now) ps c.pairs.pair-index c.args.out.now c.pairs.out (drop_of_length-le ps c.pairs-test.false) (c.pairs.invariant.code sc later fit)

pub returns-clause-size : goal.returns-clause-size
returns-clause-size g c = omega (arith, c.pairs.invariant.short)
