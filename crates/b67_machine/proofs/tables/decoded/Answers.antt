use Rattle.std.specs.Prelude.{IfSome, option_copied}
use Rattle.std.specs.Borrow.{Bor}
use Rattle.std.proofs.Common.{◌≡◌, refl, sym, ap, ◌∙◌, ℕ, List, length, slice_get, Option, Some, None}
use Rattle.std.proofs.lemmas.Bool.{ltb-true}
use Rattle.std.proofs.lemmas.Option.{slice_get_read}
use Rattle.b67_segment.specs.declared.code.Code.{Code}
use Rattle.b67_segment.specs.Decoded.{AreDecoded}
use Rattle.b67_machine.specs.declared.tables.Levels.{Levels}
use Rattle.b67_machine.specs.Tables.{Operators, tables_joined, table_at_level, levels_in, AreTables}
use Rattle.b67_machine.proofs.tables.decoded.Goals as goal

-- the table that was found is the segment's at that level
found : (code : Code) (segments : List Levels) (segment level : ℕ) (levels : Levels) (table : Option (Bor Operators)) → slice_get segments segment ≡ Some levels
    → slice_get levels.tables.items level ≡ Some (option_copied table) → AreTables code segments → IfSome table (λ t. AreDecoded code segment level t.now)
found code segments segment level levels None h k are = tt
found code segments segment level levels (Some t) h k are =
    are segment level t.now (ap (λ (o : Option Levels). table_at_level (levels_in o) level) h ∙ ap tables_joined k)

pub returns-in-Some-get : goal.returns-in-Some-get
returns-in-Some-get c = λ code are.
    let segments = c.args.segments.now.items in
    let tables = c.in-Some.levels.now.tables.items in
    let first : slice_get c.deref.result.now c.from.result ≡ Some c.in-Some.levels.now =
    slice_get_read c.deref.result.now (length c.deref.result.now) c.from.result c.in-Some.levels.now refl
    (ltb-true c.from.result (length c.deref.result.now) (sym c.in-Some.ensures.lookup.0)) c.in-Some.ensures.lookup.1 in
    let second : slice_get c.deref-in-Some.result.now c.from-in-Some.result ≡ Some c.in-Some-get.table.now =
    slice_get_read c.deref-in-Some.result.now (length c.deref-in-Some.result.now) c.from-in-Some.result c.in-Some-get.table.now refl
    (ltb-true c.from-in-Some.result (length c.deref-in-Some.result.now) (sym c.in-Some-get.ensures.lookup.0)) c.in-Some-get.ensures.lookup.1 in
    found code segments c.args.segment c.args.level c.in-Some.levels.now c.as_ref.result
    (sym (ap (λ (xs : List Levels). slice_get xs c.from.result) c.deref.ensures.value ∙ ap (slice_get segments) c.from.ensures) ∙ first)
    (sym (ap (λ (xs : List (Option Operators)). slice_get xs c.from-in-Some.result) c.deref-in-Some.ensures.value ∙ ap (slice_get tables) c.from-in-Some.ensures) ∙ second
    ∙ ap (λ (o : Option Operators). Some o) (sym c.as_ref.ensures.value)) are
