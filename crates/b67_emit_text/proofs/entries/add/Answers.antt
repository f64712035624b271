use Rattle.std.proofs.Common.{◌∙◌, ◌+◌, ◌++◌, ◌∷◌, [], List, drop, map, append-nil, ap, refl, sym}
use Rattle.std.proofs.lemmas.List.{drop_all, drop_more}
use Rattle.algol_tree.specs.declared.tree.Named.{Named}
use Rattle.algol_tree.specs.Image.{stmts}
use Rattle.b67_emit_text.specs.Entries.{entry_of, own_entries}
use Rattle.b67_emit_text.proofs.Entered.{carried, pushed_there}
use Rattle.b67_emit_text.proofs.entries.add.Goals as goal

pub names-init : goal.names-init
names-init c = refl

pub names-preserved : goal.names-preserved
names-preserved c =
    let ns = c.args.ns.now in
    let i = c.names.name-index in
    let n = c.name-item.result in
    let level = c.args.level in
    let ss = stmts c.args.ss.now in
    let rest = drop (i + 1) ns in
    let before = map entry_of c.names.to.items in
    let next = drop_more ns i n c.names-test.true ∙ ap (λ (x : Named). x ∷ rest) (sym c.name-item.is) in
    carried (map entry_of c.args.to.now.items) before (map entry_of c.push.new.self.items) (own_entries level ss (n ∷ [])) (own_entries level ss rest) (own_entries level ss ns)
    (pushed_there c.names.to.items c.push.new.self.items _ c.in_ok-push.ensures.items) (ap (λ (l : List Named). before ++ own_entries level ss l) (sym next) ∙ c.names.invariant)

pub returns : goal.returns
returns c =
    let before = map entry_of c.names.to.items in
    let none = drop_all c.names.name-index c.args.ns.now c.names-test.false in
    sym (append-nil before) ∙ ap (λ (l : List Named). before ++ own_entries c.args.level (stmts c.args.ss.now) l) (sym none) ∙ c.names.invariant
