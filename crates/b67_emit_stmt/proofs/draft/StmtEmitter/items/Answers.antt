use Rattle.std.proofs.Common.{◌≡◌, ◌+◌, ◌∙◌, List, [], ap, drop, take, refl, subst, arith}
use Rattle.std.proofs.lemmas.List.{take_all}
use Rattle.algol_tree.specs.declared.tree.Expr.{Expr}
use Rattle.algol_tree.specs.declared.tree.Kind.TheVariants as types
use Rattle.algol_tree.specs.Image.{expr, exprs}
use Rattle.b67_segment.specs.Operators.{size}
use Rattle.b67_segment.specs.Building.{level_set}
use Rattle.b67_segment.proofs.Cited.{set_after}
use Rattle.b67_emitter.proofs.Appends.{same_level}
use Rattle.b67_emit_stmt.specs.Places.{LineAt}
use Rattle.b67_emit_stmt.specs.Fits.{LineFits}
use Rattle.b67_emit_stmt.specs.Lengths.{items_syllables}
use Rattle.b67_templates.specs.Emitting.{Emitted}
use Rattle.b67_emit_stmt.proofs.Lines.{line_fits, line_part, line_syllables}
use Rattle.b67_emit_stmt.proofs.Lists.{around, front_more}
use Rattle.b67_emit_stmt.proofs.Parts.{code_at, emitted_none, value_at}
use Rattle.b67_emit_stmt.proofs.draft.StmtEmitter.items.Goals as goal

pub items-init : goal.items-init
items-init g c = record {
  level = refl;
  short = omega arith;
  code = λ sc later fit. emitted_none c.args.out.now (λ qs. LineAt sc later qs (level_set c.args.out.now) (exprs (take 0 c.args.items.now)) (size c.args.out.now.operators) (size c.args.out.now.operators)) (λ qs. refl);
}

pub value-requires-clause-set : goal.value-requires-clause-set
value-requires-clause-set g c = set_after c.args.out.now c.items.out c.items.invariant.level c.requires.set

pub value-requires-clause-code : goal.value-requires-clause-code
value-requires-clause-code g c =
    let s = c.args.self.now.known.now in
    let level = level_set c.args.out.now in
    let xs = c.args.items.now in
    let i = c.items.item-index in
    let x = c.item-item.result in
    let sc = c.requires.fits.0 in
    let F : List Expr → Type 0 = λ l. LineFits sc s level (exprs l) in
    code_at s (level_set c.items.out) level sc types.Number (expr x) (same_level c.args.out.now c.items.out c.items.invariant.level)
    (line_fits sc s level (take i xs) x (drop (i + 1) xs) (subst F (around xs i x c.items-test.true c.item-item.is) c.requires.fits.1))

pub value-requires-clause-room : goal.value-requires-clause-room
value-requires-clause-room g c =
    let xs = c.args.items.now in
    let i = c.items.item-index in
    let x = c.item-item.result in
    let all = ap (λ (l : List Expr). items_syllables c.args.self.now.known.now (exprs l)) (around xs i x c.items-test.true c.item-item.is) in
    omega (arith, all, line_syllables c.args.self.now.known.now (take i xs) x (drop (i + 1) xs), c.items.invariant.short, c.requires.room)

pub items-preserved : goal.items-preserved
items-preserved g c =
    let s = c.args.self.now.known.now in
    let a = c.args.out.now in
    let b = c.items.out in
    let d = c.value.new.out in
    let xs = c.args.items.now in
    let i = c.items.item-index in
    let x = c.item-item.result in
    let more = front_more xs i x c.items-test.true c.item-item.is in
    let q = same_level a b c.items.invariant.level in
    record {
      level = c.in_ok-value.ensures.level ∙ c.items.invariant.level;
      short = omega (arith, ap (λ (l : List Expr). items_syllables c.args.self.now.known.now (exprs l)) more, line_syllables c.args.self.now.known.now (take i xs) x [], c.in_ok-value.ensures.size, c.items.invariant.short);
      code = λ sc later fit.
          let F : List Expr → Type 0 = λ l. LineFits sc s (level_set a) (exprs l) in
          line_part sc later (level_set a) (take i xs) x (take (i + 1) xs) a b d more (c.items.invariant.code sc later fit)
          (value_at s b d (level_set a) sc later types.Number (expr x) q c.in_ok-value.ensures.code
          (line_fits sc s (level_set a) (take i xs) x (drop (i + 1) xs) (subst F (around xs i x c.items-test.true c.item-item.is) fit)));
    }

pub returns-clause-code : goal.returns-clause-code
returns-clause-code g c =
    let xs = c.args.items.now in
    let i = c.items.item-index in
    let all : take i xs ≡ xs = take_all i xs c.items-test.false in
    λ sc later fit.
    let E : List Expr → Type 0 = λ l. Emitted c.args.out.now c.items.out (λ qs. LineAt sc later qs (level_set c.args.out.now) (exprs l) (size c.args.out.now.operators) (size c.items.out.operators)) in
    subst E all (c.items.invariant.code sc later fit)

pub returns-clause-size : goal.returns-clause-size
returns-clause-size g c =
    let xs = c.args.items.now in
    let i = c.items.item-index in
    let all : take i xs ≡ xs = take_all i xs c.items-test.false in
    omega (arith, ap (λ (l : List Expr). items_syllables c.args.self.now.known.now (exprs l)) all, c.items.invariant.short)
