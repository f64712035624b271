use Rattle.std.proofs.Common.{◌≡◌, ℕ, ◌+◌, ◌<◌, List, [], ◌∷◌, ◌++◌, ◌∙◌, length, drop, refl, sym, ap, arith, length-append}
use Rattle.std.proofs.lemmas.List.{drop_more}
use Rattle.std.proofs.lemmas.List.Elements.{All-nil, All-same}
use Rattle.algol_tree.specs.Image.{expr}
use Rattle.b67_segment.specs.declared.TheConstants.{MOST_SEGMENT_SYLLABLES}
use Rattle.b67_templates.specs.Cells.{has_place}
use Rattle.b67_emitter.proofs.Appends.{same_level}
use Rattle.b67_emit_stmt.specs.Lengths.{expr_syllables}
use Rattle.b67_segment.specs.Building.{level_set}
use Rattle.b67_segment.proofs.Cited.{set_after}
use Rattle.b67_emit_stmt.proofs.Coded.{all_more, codes_begun, codes_ended, codes_more, next_code, next_length, some_code}
use Rattle.b67_emit_stmt.proofs.draft.StmtEmitter.codes.Goals as goal

pub actuals-init : goal.actuals-init
actuals-init g c =
    let P : ℕ → Type 0 = λ at. at < MOST_SEGMENT_SYLLABLES in
    record {
      level = refl;
      many = ap (λ (l : List ℕ). length l) c.new-places.ensures.items;
      places = All-same P c.new-places.result.items [] c.new-places.ensures.items (All-nil P);
      short = omega arith;
      code = codes_begun c.args.self.now.known.now c.args.self.now.level c.args.actuals.now c.args.out.now c.new-places.result.items c.new-places.ensures.items;
    }

pub routine-requires : goal.routine-requires
routine-requires g c =
    let s = c.args.self.now.known.now in
    let level = c.args.self.now.level in
    let a = c.args.out.now in
    let b = c.actuals.out in
    let xs = c.args.actuals.now in
    let i = c.actuals.actual-index in
    let x = c.actual-item.result in
    let next : drop i xs ≡ x ∷ drop (i + 1) xs = drop_more xs i x c.actuals-test.true ∙ ap (λ y. y ∷ drop (i + 1) xs) (sym c.actual-item.is) in
    record {
      set = set_after a b c.actuals.invariant.level c.requires.set;
      near = c.requires.near;
      code = next_code s level xs c.requires.fits.0 c.requires.fits.1 c.requires.fits.2 i x (drop (i + 1) xs) next (level_set b) (omega (arith, same_level a b c.actuals.invariant.level, c.requires.inner));
      room = omega (arith, next_length s level xs i x (drop (i + 1) xs) next, c.actuals.invariant.short, c.requires.room);
    }

pub actuals-preserved : goal.actuals-preserved
actuals-preserved g c =
    let s = c.args.self.now.known.now in
    let level = c.args.self.now.level in
    let a = c.args.out.now in
    let b = c.actuals.out in
    let d = c.routine.new.out in
    let xs = c.args.actuals.now in
    let i = c.actuals.actual-index in
    let x = c.actual-item.result in
    let next : drop i xs ≡ x ∷ drop (i + 1) xs = drop_more xs i x c.actuals-test.true ∙ ap (λ y. y ∷ drop (i + 1) xs) (sym c.actual-item.is) in
    let P : ℕ → Type 0 = λ at. at < MOST_SEGMENT_SYLLABLES in
    let below : P c.place.result = omega (arith, c.place.ensures, some_code (has_place (expr x.now)) (expr_syllables s (expr x.now)), next_length s level xs i x (drop (i + 1) xs) next, c.actuals.invariant.short, c.requires.room) in
    record {
      level = c.in_ok-routine.ensures.level ∙ c.actuals.invariant.level;
      many = omega (arith, c.actuals.invariant.many, ap (λ (l : List ℕ). length l) c.in_ok-push.ensures.items, length-append c.actuals.places.items (c.place.result ∷ []));
      places = All-same P c.push.new.self.items (c.actuals.places.items ++ c.place.result ∷ []) c.in_ok-push.ensures.items (all_more P c.actuals.places.items c.place.result c.actuals.invariant.places below);
      short = omega (arith, next_length s level xs i x (drop (i + 1) xs) next, c.actuals.invariant.short, c.in_ok-routine.ensures.size);
      code = codes_more s level xs i x (drop (i + 1) xs) next a b d c.actuals.places.items c.push.new.self.items c.place.result c.in_ok-push.ensures.items c.actuals.invariant.level c.place.ensures c.actuals.invariant.code c.in_ok-routine.ensures.code;
    }

pub returns : goal.returns
returns g c = record {
  code = codes_ended c.args.self.now.known.now c.args.self.now.level c.args.actuals.now c.actuals.actual-index c.args.out.now c.actuals.out c.actuals.places.items c.actuals-test.false c.actuals.invariant.code;
  places = c.actuals.invariant.places;
  many = omega (arith, c.actuals.invariant.many);
  level = c.actuals.invariant.level;
  size = omega (arith, c.actuals.invariant.short);
}
