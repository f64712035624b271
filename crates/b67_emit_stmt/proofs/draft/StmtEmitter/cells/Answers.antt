use Rattle.std.proofs.Common.{◌≡◌, ◌∙◌, ℕ, length, ap, sym, refl, subst, arith}
use Rattle.std.specs.Prelude.{unwrap_or, Option, replicate}
use Rattle.algol_tree.specs.Image.{decls}
use Rattle.b67_ops.specs.declared.PlainKind.TheVariants as kinds
use Rattle.b67_segment.specs.Operators.{size}
use Rattle.b67_segment.specs.Building.{level_set}
use Rattle.b67_templates.specs.Cells.{procedures, control_segments}
use Rattle.b67_templates.specs.Code.{routine_controls}
use Rattle.b67_templates.specs.Emitting.{Emitted}
use Rattle.b67_templates.specs.Fragments.{AllAt, ControlsAt}
use Rattle.b67_emitter.proofs.Appends.{same_level}
use Rattle.b67_emit_stmt.specs.declared.draft.Draft.{Draft}
use Rattle.b67_emit_stmt.specs.Actuals.{images}
use Rattle.b67_emit_stmt.specs.Lengths.{cells_syllables}
use Rattle.b67_emit_stmt.proofs.Blocks.{as_many, images_long}
use Rattle.b67_emit_stmt.proofs.Numbered.{controls_many}
use Rattle.b67_emit_stmt.proofs.Parts.{leveled, plain_at}
use Rattle.b67_emit_stmt.proofs.Zeros.{cells_pushed, no_cells, words_both}
use Rattle.b67_emit_stmt.proofs.draft.StmtEmitter.cells.Goals as goal

pub append_zeros-requires-clause-room : goal.append_zeros-requires-clause-room
append_zeros-requires-clause-room g c = omega (arith, c.requires.room)

pub procedure_words-requires-clause-level : goal.procedure_words-requires-clause-level
procedure_words-requires-clause-level g c =
    let a = c.args.to.now in
    let set : level_set a.out ≡ c.args.self.now.level = ap (λ (o : Option ℕ). unwrap_or o 0) c.requires.level.set in
    sym (same_level a.out c.append_zeros.new.out c.in_ok-append_zeros.ensures.level ∙ set)

pub procedure_words-requires-clause-room : goal.procedure_words-requires-clause-room
procedure_words-requires-clause-room g c = omega (arith, c.in_ok-append_zeros.ensures.size, c.requires.room)

pub routine_words-requires-clause-level : goal.routine_words-requires-clause-level
routine_words-requires-clause-level g c =
    let a = c.args.to.now in
    let b = c.append_zeros.new.out in
    let e = c.procedure_words.new.out in
    let set : level_set a.out ≡ c.args.self.now.level = ap (λ (o : Option ℕ). unwrap_or o 0) c.requires.level.set in
    sym (same_level b e c.in_ok-procedures.ensures.level ∙ same_level a.out b c.in_ok-append_zeros.ensures.level ∙ set)

pub routine_words-requires-clause-room : goal.routine_words-requires-clause-room
routine_words-requires-clause-room g c =
    omega (arith, images_long c.args.actuals.now, c.in_ok-append_zeros.ensures.size, c.in_ok-procedures.ensures.size, c.requires.room)

pub returns-in_ok-append_plain-clause-code : goal.returns-in_ok-append_plain-clause-code
returns-in_ok-append_plain-clause-code g c =
    let s = c.args.self.now.known.now in
    let a = c.args.to.now in
    let level = c.args.self.now.level in
    let many = c.args.many in
    let ds = decls c.args.ds.now in
    let es = images c.args.actuals.now in
    let ats = c.args.places.now in
    let b = c.append_zeros.new.out in
    let e = c.procedure_words.new.out in
    let x = c.routine_words.new.out in
    let set : level_set a.out ≡ level = ap (λ (o : Option ℕ). unwrap_or o 0) c.requires.level.set in
    let q : level_set b ≡ level = same_level a.out b c.in_ok-append_zeros.ensures.level ∙ set in
    let r : level_set e ≡ level = same_level b e c.in_ok-procedures.ensures.level ∙ q in
    let v : level_set x ≡ level = same_level e x c.in_ok-routine_words.ensures.level ∙ r in
    let imaged = images_long c.args.actuals.now in
    let d : Draft = record a { out = c.append_plain.new.out } in
    λ sc actuals segment trees numbered.
    let segments = control_segments sc.scopes ds in
    let R : ℕ → Type 0 = λ n. Emitted e x (λ qs. ControlsAt qs level (routine_controls n level actuals ats) (size e.operators) (size x.operators)) in
    let zeros = leveled (λ l qs. AllAt qs l (replicate many kinds.Zero) (size a.out.operators) (size b.operators)) level set c.in_ok-append_zeros.ensures.code in
    let first = c.in_ok-procedures.ensures.code sc numbered in
    let second = subst R (sym segment) (c.in_ok-routine_words.ensures.code actuals trees) in
    let words = words_both level sc.segment segments actuals ats b e x first second in
    let control : length segments ≡ length (procedures ds) = controls_many sc.scopes ds in
    let as_long = as_many actuals es trees in
    let placed : length ats ≡ length actuals = omega (arith, c.requires.placed, imaged, as_long) in
    cells_pushed sc level many segments actuals ats placed (cells_syllables s many ds es) a d b x refl refl c.requires.few zeros words
    (omega (arith, imaged, c.in_ok-append_zeros.ensures.size, c.in_ok-procedures.ensures.size, c.in_ok-routine_words.ensures.size, c.in_ok-append_plain.ensures.size))
    (omega (arith, c.if-many-procedures-gt0.true, control, c.in_ok-procedures.ensures.many, imaged, as_long)) (plain_at kinds.Push level v c.in_ok-append_plain.ensures.code)

pub returns-else-many-procedures-gt0-clause-code : goal.returns-else-many-procedures-gt0-clause-code
returns-else-many-procedures-gt0-clause-code g c =
    let s = c.args.self.now.known.now in
    let a = c.args.to.now in
    let level = c.args.self.now.level in
    let many = c.args.many in
    let ds = decls c.args.ds.now in
    let es = images c.args.actuals.now in
    let ats = c.args.places.now in
    let b = c.append_zeros.new.out in
    let e = c.procedure_words.new.out in
    let x = c.routine_words.new.out in
    let set : level_set a.out ≡ level = ap (λ (o : Option ℕ). unwrap_or o 0) c.requires.level.set in
    let imaged = images_long c.args.actuals.now in
    let d : Draft = record a { out = x } in
    λ sc actuals segment trees numbered.
    let segments = control_segments sc.scopes ds in
    let R : ℕ → Type 0 = λ n. Emitted e x (λ qs. ControlsAt qs level (routine_controls n level actuals ats) (size e.operators) (size x.operators)) in
    let zeros = leveled (λ l qs. AllAt qs l (replicate many kinds.Zero) (size a.out.operators) (size b.operators)) level set c.in_ok-append_zeros.ensures.code in
    let first = c.in_ok-procedures.ensures.code sc numbered in
    let second = subst R (sym segment) (c.in_ok-routine_words.ensures.code actuals trees) in
    let words = words_both level sc.segment segments actuals ats b e x first second in
    let control : length segments ≡ length (procedures ds) = controls_many sc.scopes ds in
    let as_long = as_many actuals es trees in
    let placed : length ats ≡ length actuals = omega (arith, c.requires.placed, imaged, as_long) in
    no_cells sc level many segments actuals ats placed (cells_syllables s many ds es) a d b x refl refl c.requires.few zeros words
    (omega (arith, imaged, c.in_ok-append_zeros.ensures.size, c.in_ok-procedures.ensures.size, c.in_ok-routine_words.ensures.size))
    (omega (arith, c.if-many-procedures-gt0.false, control, c.in_ok-procedures.ensures.many, imaged, as_long)) refl
