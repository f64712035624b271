use Rattle.std.proofs.Common.{◌≡◌, ◌≤◌, ◌<◌, ◌^◌, ◌∙◌, ℕ, List, length, ap, sym, subst, arith}
use Rattle.std.specs.List.{All}
use Rattle.algol_tree.specs.Image.{decls}
use Rattle.b67_segment.specs.Operators.{size}
use Rattle.b67_templates.specs.Cells.{procedures, control_segments}
use Rattle.b67_templates.specs.Emitting.{Emitted}
use Rattle.b67_templates.specs.Fragments.{ControlsAt, procedure_controls}
use Rattle.b67_emit_stmt.specs.Bodies.{procedure_numbers_of}
use Rattle.b67_emit_stmt.proofs.Numbered.{numbers_are, numbers_fit, numbers_inner, numbers_long}
use Rattle.b67_emit_stmt.proofs.Parts.{leveled}
use Rattle.b67_emit_stmt.proofs.draft.StmtEmitter.procedure_words.Goals as goal

pub append_words-requires-clause-inner : goal.append_words-requires-clause-inner
append_words-requires-clause-inner g c = λ some.
    let s = c.args.self.now.known.now in
    let are = c.deref.ensures.value ∙ c.in_ok-numbers.ensures in
    let L : List ℕ → Type 0 = λ l. 1 ≤ length l in
    numbers_inner s c.requires.numbered.0.scopes c.args.self.now.level (procedures (decls c.args.ds.now)) c.requires.numbered.1 (subst L are some)

pub append_words-requires-clause-segments : goal.append_words-requires-clause-segments
append_words-requires-clause-segments g c =
    let s = c.args.self.now.known.now in
    let are = c.deref.ensures.value ∙ c.in_ok-numbers.ensures in
    let L : List ℕ → Type 0 = λ l. All (λ (k : ℕ). k < 2 ^ 10) l in
    subst L (sym are) (numbers_fit s c.requires.numbered.0.scopes c.args.self.now.level (procedures (decls c.args.ds.now)) c.requires.numbered.1)

pub returns-clause-code : goal.returns-clause-code
returns-clause-code g c =
    let s = c.args.self.now.known.now in
    let level = c.args.self.now.level in
    let ds = decls c.args.ds.now in
    let a = c.args.out.now in
    let b = c.append_words.new.out in
    let are = c.deref.ensures.value ∙ c.in_ok-numbers.ensures in
    λ sc numbered.
    let own : c.deref.result.now ≡ control_segments sc.scopes ds = are ∙ numbers_are s sc.scopes level (procedures ds) numbered in
    let W : List ℕ → Type 0 = λ l. Emitted a b (λ qs. ControlsAt qs level (procedure_controls level l) (size a.operators) (size b.operators)) in
    subst W own (leveled (λ l qs. ControlsAt qs l (procedure_controls l c.deref.result.now) (size a.operators) (size b.operators)) level (sym c.requires.level) c.in_ok-append_words.ensures.code)

pub returns-clause-many : goal.returns-clause-many
returns-clause-many g c =
    let s = c.args.self.now.known.now in
    let ns = procedures (decls c.args.ds.now) in
    let listed : length c.in_ok-numbers.numbers.items ≡ length (procedure_numbers_of s ns) = ap (λ (l : List ℕ). length l) c.in_ok-numbers.ensures in
    let counted = c.in_ok-numbers.numbers.ok in
    omega (arith, numbers_long s ns, listed, c.len.ensures, counted.0)

pub returns-clause-size : goal.returns-clause-size
returns-clause-size g c =
    let s = c.args.self.now.known.now in
    let ns = procedures (decls c.args.ds.now) in
    let same : length c.deref.result.now ≡ length (procedure_numbers_of s ns) = ap (λ (l : List ℕ). length l) (c.deref.ensures.value ∙ c.in_ok-numbers.ensures) in
    omega (arith, numbers_long s ns, same, c.in_ok-append_words.ensures.size)
