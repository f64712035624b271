use Rattle.std.proofs.Common.{◌≡◌, Some, None, ap, sym, ◌∙◌, is_some}
use Rattle.algol_sorts.proofs.Keys.{key_found, updates_key}
use Rattle.algol_known.specs.Naming.{sort_named}
use Rattle.algol_known.proofs.Formals.{say_again, say_new}
use Rattle.algol_known.proofs.formal.say.Goals as goal

pub returns-in-None-clause-said : goal.returns-in-None-clause-said
returns-in-None-clause-said c =
    let bare : sort_named c.args.table.now c.args.name.now ≡ None =
    sym (key_found c.args.name c.of-key.result c.args.table.now c.of-key.ensures) ∙ sym c.in_ok-insert.ensures.old ∙ c.in-None.is in
    λ q. say_new (sort_named c.args.table.now) (sort_named c.insert.new.self) c.args.name.now q c.args.value (ap (λ o. is_some o) bare)
    (updates_key c.args.name c.of-key.result c.args.table.now c.insert.new.self (Some c.args.value) c.of-key.ensures c.in_ok-insert.ensures.updates q)

pub returns-in_ok-insert-in-Some-clause-said : goal.returns-in_ok-insert-in-Some-clause-said
returns-in_ok-insert-in-Some-clause-said c =
    let said : sort_named c.args.table.now c.args.name.now ≡ Some c.in-Some.before =
    sym (key_found c.args.name c.of-key.result c.args.table.now c.of-key.ensures) ∙ sym c.in_ok-insert.ensures.old ∙ c.in-Some.is in
    λ q. say_again (sort_named c.args.table.now) (sort_named c.insert.new.self) (sort_named c.insert-in-Some.new.self) c.args.name.now q c.args.value c.in-Some.before said
    (updates_key c.args.name c.of-key.result c.args.table.now c.insert.new.self (Some c.args.value) c.of-key.ensures c.in_ok-insert.ensures.updates q)
    (updates_key c.args.name c.of-key.result c.insert.new.self c.insert-in-Some.new.self (Some c.in-Some.before) c.of-key.ensures
    c.in_ok-insert-in-Some.ensures.updates q)
