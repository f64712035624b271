use Rattle.std.proofs.Common.{◌≡◌, ◌∙◌, ℕ, ◌+◌, ◌*◌, List, [], ◌∷◌, ◌++◌, length, map, take, drop, refl, sym, ap, subst, arith}
use Rattle.std.specs.List.{AllByRecursion}
use Rattle.std.specs.Prelude.{unwrap_or, Option}
use Rattle.std.proofs.lemmas.List.{drop_more, length-map, length-take-le, map-append, take_more}
use Rattle.b67_ops.specs.declared.Operator.TheVariants as ops
use Rattle.b67_ops.specs.declared.BranchKind.TheVariants.{Brun}
use Rattle.b67_ops.specs.Spelling.{spelling}
use Rattle.b67_segment.specs.Operators.{Placed, size}
use Rattle.b67_segment.specs.Building.{Built, level_set}
use Rattle.b67_templates.specs.Emitting.{OperatorsStay}
use Rattle.b67_templates.specs.Fragments.{Has}
use Rattle.b67_emit_text.specs.declared.entries.Declared.{Declared}
use Rattle.b67_emit_text.specs.Entries.{DeclaredLabel, HeadAt, IsLeveled, entry_of}
use Rattle.b67_emit_text.proofs.Tables.{head_more}
use Rattle.b67_emit_text.proofs.heads.append_head.Goals as goal

pub entries-init : goal.entries-init
entries-init c =
    let a = c.args.out.now in
    let b = c.append_operator.new.out in
    let code = c.in_ok-append_operator.ensures.code in
    let level : level_set a ≡ c.args.level = ap (λ (o : Option ℕ). unwrap_or o 0) c.requires.set in
    let three : length (spelling (size a.operators) (level_set a) (ops.Branch Brun 0)) ≡ 3 = refl in
    let wide : size b.operators ≡ 3 = omega (arith, three, c.in_ok-append_operator.ensures.size, c.requires.start) in
    let H : ℕ → ℕ → ℕ → Type 0 = λ l f t. Has b.operators l f (ops.Branch Brun 0) t in
    let here = code.claimed b.operators (λ at l next op lo hi s. s) in
    record {
      head = (subst (H c.args.level 0) wide (subst (λ f. H c.args.level f (size b.operators)) c.requires.start (subst (λ l. H l (size a.operators) (size b.operators)) level here)), tt);
      wide = omega (arith, wide);
      left = c.requires.levels;
    }

pub level-requires : goal.level-requires
level-requires c =
    let i = c.entries.entry-index in
    let e = c.entry-item.result in
    let next = drop_more c.args.entries.now i e c.entries-test.true ∙ ap (λ (x : Declared). x ∷ drop (i + 1) c.args.entries.now) (sym c.entry-item.is) in
    let L : List Declared → Type 0 = λ l. AllByRecursion IsLeveled (map entry_of l) in
    let left = subst L next c.entries.invariant.left in
    record { outer = left.0.0; most = left.0.1 }

pub entries-preserved : goal.entries-preserved
entries-preserved c =
    let es = c.args.entries.now in
    let i = c.entries.entry-index in
    let e = c.entry-item.result in
    let b = c.entries.out in
    let n = c.level.new.self in
    let d = c.append_operator-in-entries.new.out in
    let code = c.in_ok-append_operator-2.ensures.code in
    let level : level_set n ≡ e.level = ap level_set c.in_ok-level.ensures.ok in
    let same : n.operators ≡ b.operators = ap (λ (o : Built). o.operators) c.in_ok-level.ensures.ok in
    let from : size n.operators ≡ size b.operators = ap size same in
    let three : length (spelling (size n.operators) (level_set n) (ops.Branch Brun 0)) ≡ 3 = refl in
    let wide : size d.operators ≡ size b.operators + 3 = omega (arith, three, c.in_ok-append_operator-2.ensures.size, from) in
    let K : List Placed → Type 0 = λ ps. OperatorsStay 0 (size ps) ps d.operators in
    let H : ℕ → ℕ → Type 0 = λ l f. Has d.operators l f (ops.Branch Brun 0) (size d.operators) in
    let here = subst (H e.level) from (subst (λ l. H l (size n.operators)) level (code.claimed d.operators (λ at l next op lo hi s. s))) in
    let many : length (take i es) ≡ i = length-take-le i es (omega (arith, c.entries-test.true)) in
    let to : size b.operators ≡ 3 + 3 * length (map entry_of (take i es)) = omega (arith, c.entries.invariant.wide, length-map (take i es) entry_of, many) in
    let took : map entry_of (take (i + 1) es) ≡ map entry_of (take i es) ++ entry_of e ∷ [] =
    ap (λ (l : List Declared). map entry_of l) (take_more es i e c.entries-test.true ∙ ap (λ (x : Declared). take i es ++ x ∷ []) (sym c.entry-item.is)) ∙ map-append entry_of (take i es) (e ∷ []) in
    let next = drop_more es i e c.entries-test.true ∙ ap (λ (x : Declared). x ∷ drop (i + 1) es) (sym c.entry-item.is) in
    let L : List Declared → Type 0 = λ l. AllByRecursion IsLeveled (map entry_of l) in
    let left = subst L next c.entries.invariant.left in
    let D : List DeclaredLabel → Type 0 = λ l. HeadAt d.operators c.args.level l in
    record {
      head = subst D (sym took)
          (head_more b.operators d.operators c.args.level (size b.operators) (size d.operators) (map entry_of (take i es)) (entry_of e) (subst K same code.kept) to c.entries.invariant.head here wide);
      wide = omega (arith, wide, c.entries.invariant.wide);
      left = left.1;
    }
