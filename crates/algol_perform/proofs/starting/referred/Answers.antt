use Rattle.std.proofs.Common.{◌≡◌, ℕ, ◌+◌, ◌<◌, ◌≤◌, suc, List, [], ◌∷◌, ◌++◌, length, map, drop, get_or, drop-cons, append_assoc, append-nil, sym, ap, ◌∙◌, arith}
use Rattle.std.proofs.lemmas.List.{drop_all}
use Rattle.algol_meaning.specs.Critical.{referred_in, referred_by}
use Rattle.algol_cells.specs.SeenCell.{cell}
use Rattle.algol_cells.specs.declared.cell.Cell.{Cell}
use Rattle.algol_perform.proofs.starting.referred.Goals as goal

next_cell : (cs : List Cell) (i : ℕ) (x : Cell) → i < length cs → x ≡ get_or cs i x → drop i cs ≡ x ∷ drop (i + 1) cs
next_cell cs i x h is =
    let next : suc i ≡ i + 1 = omega arith in
    drop-cons cs i x h ∙ ap (λ (y : Cell). y ∷ drop (suc i) cs) (sym is) ∙ ap (λ (n : ℕ). x ∷ drop n cs) next

referred_next :
    (done new : List ℕ) (cs : List Cell) (i : ℕ) (x : Cell) (all : List ℕ) → i < length cs → x ≡ get_or cs i x
    → new ≡ done ++ referred_in (cell x) → done ++ referred_by (map cell (drop i cs)) ≡ all → new ++ referred_by (map cell (drop (i + 1) cs)) ≡ all
referred_next done new cs i x all h is pushed inv =
    let r : List ℕ = referred_by (map cell (drop (i + 1) cs)) in
    ap (λ (ns : List ℕ). ns ++ r) pushed
    ∙ append_assoc done (referred_in (cell x)) r
    ∙ ap (λ (ds : List Cell). done ++ referred_by (map cell ds)) (sym (next_cell cs i x h is))
    ∙ inv

referred_all :
    (done new : List ℕ) (cs : List Cell) (i : ℕ) (task all : List ℕ) → length cs ≤ i
    → new ≡ done ++ task → done ++ referred_by (map cell (drop i cs)) ≡ all → new ≡ all ++ task
referred_all done new cs i task all h pushed inv =
    pushed
    ∙ ap (λ (ns : List ℕ). ns ++ task)
    (sym (append-nil done) ∙ ap (λ (ds : List Cell). done ++ referred_by (map cell ds)) (sym (drop_all i cs h)) ∙ inv)

pub referring-preserved : goal.referring-preserved
referring-preserved c =
    referred_next c.referring.wanted.items c.add_referred.new.wanted.items c.args.cells.now c.referring.cell-index c.cell-item.result _
    c.referring-test.true c.cell-item.is c.in_ok-add_referred.ensures c.referring.invariant

pub returns : goal.returns
returns c =
    referred_all c.referring.wanted.items c.add_task.new.wanted.items c.args.cells.now c.referring.cell-index _ _
    c.referring-test.false c.in_ok-add_task.ensures c.referring.invariant

pub referring-init : goal.referring-init
referring-init c =
    ap (λ (ns : List ℕ). ns ++ referred_by (map cell c.args.cells.now))
    (c.in_ok-push.ensures.items ∙ ap (λ (ns : List ℕ). ns ++ c.args.parent ∷ []) c.new-wanted.ensures.items)
