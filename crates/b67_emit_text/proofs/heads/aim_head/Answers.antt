use Rattle.std.proofs.Common.{◌≡◌, ◌∙◌, ℕ, suc, ◌+◌, ◌∷◌, drop, map, refl, sym, ap, subst, arith}
use Rattle.std.proofs.lemmas.List.{drop_more, length-map}
use Rattle.b67_segment.specs.Building.{Built}
use Rattle.b67_list.proofs.Answered.{no_limit}
use Rattle.b67_emit_text.specs.declared.entries.Declared.{Declared}
use Rattle.b67_emit_text.specs.Entries.{entry_of}
use Rattle.b67_emit_text.proofs.Tables.{Midway, branch_there, midway_aimed, midway_first, midway_last, midway_same, next_entry}
use Rattle.b67_emit_text.proofs.heads.aim_head.Goals.{in-Some, in_default}
use Rattle.b67_emit_text.proofs.heads.aim_head.Goals as goal

pub entries-init : goal.entries-init
entries-init c = record {
  branch = refl;
  midway = midway_first (map entry_of c.args.entries.now) c.requires.head.0 c.args.begin c.args.labels.now c.args.out.now c.patch.new.self c.requires.head.1 c.patch.ensures;
}

pub patch-requires-in-Some : goal.patch-requires-in-Some
patch-requires-in-Some c =
    let es = c.args.entries.now in
    let i = c.entries.entry-index in
    let e = c.entry-item.result in
    let next = drop_more es i e c.entries-test.true ∙ ap (λ (x : Declared). x ∷ drop (i + 1) es) (sym c.entry-item.is) in
    branch_there (map entry_of es) i c.args.begin c.args.labels.now (entry_of e) (map entry_of (drop (i + 1) es)) (next_entry i es e (drop (i + 1) es) next) c.args.out.now c.entries.out
    c.entries.invariant.midway c.entries.branch c.entries.invariant.branch

pub entries-preserved : goal.entries-preserved
entries-preserved c =
    let es = c.args.entries.now in
    let i = c.entries.entry-index in
    let e = c.entry-item.result in
    let a = c.args.out.now in
    let next = drop_more es i e c.entries-test.true ∙ ap (λ (x : Declared). x ∷ drop (i + 1) es) (sym c.entry-item.is) in
    let there = next_entry i es e (drop (i + 1) es) next in
    let M : ℕ → Built → Type 0 = λ n o. Midway (map entry_of es) n c.args.begin c.args.labels.now a o in
    let more : suc i ≡ i + 1 = omega arith in
    record {
      branch = omega (arith, c.entries.invariant.branch);
      midway = elim c.match-leads.branch [
        | in-Some w ↦
            subst (λ n. M n c.match-leads.out) more
            (midway_aimed (map entry_of es) i c.args.begin c.args.labels.now (entry_of e) (map entry_of (drop (i + 1) es)) there a c.entries.out c.entries.invariant.midway c.match-leads.out c.entries.branch
            w.in-Some.place c.entries.invariant.branch (sym c.leads.ensures ∙ w.in-Some.is) (w.out-is ∙ w.patch-in-Some.ensures))
        | in_default w ↦
            subst (λ n. M n c.match-leads.out) more
            (subst (M (suc i)) (sym w.out-is)
            (midway_same (map entry_of es) i c.args.begin c.args.labels.now (entry_of e) (map entry_of (drop (i + 1) es)) there a c.entries.out c.entries.invariant.midway
            (sym c.leads.ensures ∙ no_limit c.leads.result w.in_default.not-Some)))
      ];
    }

pub returns : goal.returns
returns c =
    midway_last (map entry_of c.args.entries.now) c.entries.entry-index c.args.begin c.args.labels.now c.args.out.now c.entries.out
    (omega (arith, length-map c.args.entries.now entry_of, c.entries-test.false)) c.entries.invariant.midway
