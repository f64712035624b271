use Rattle.std.proofs.Common.{◌≡◌, ◌∙◌, sym, ap, subst, ℕ, ◌+◌, ◌≤◌, Bool, pos, Ok, length, arith, rules}
use Rattle.b67_word.specs.Word.{Word, operand}
use Rattle.b67_control.specs.declared.Registers.{Registers}
use Rattle.b67_store.specs.Store.{Stacks, with_cut, with_push, stack_limit}
use Rattle.b67_table.specs.Linkage.{entered, selected}
use Rattle.b67_table.specs.Program.{answer}
use Rattle.b67_reach.specs.Images.{own_of_image}
use Rattle.b67_reach.specs.Answers.{ProgramPerforms}
use Rattle.b67_operators.specs.Entries.{accident}
use Rattle.b67_operators.proofs.Changing.{Reaches, when_ok, cut_reaches, push_reaches, push_goes, framed, is_framed, accident_plain, accident_named}
use Rattle.b67_operators.proofs.entering.open_frame.Goals as goal
use Rattle.b67_operators.proofs.entering.open_frame.Goals.{then-pcw, else-pcw}

pub unwrap-requires : goal.unwrap-requires
unwrap-requires g c = c.cut.ensures.found ∙ c.requires.linked.opened

pub unwrap-requires-2 : goal.unwrap-requires-2
unwrap-requires-2 g c =
    let n = c.args.regs.now.stack in
    let k = c.from.result in
    let cut : Reaches (g.C.Core.stacks c.cut.new.self) n k =
    cut_reaches (g.C.Core.stacks c.args.core.now) (g.C.Core.stacks c.cut.new.self) n k c.cut.result c.unwrap.result c.requires.linked.opened c.unwrap.ensures c.cut.ensures.stacks in
    push_goes (g.C.Core.stacks c.cut.new.self) n k c.push.result cut (omega (arith, c.requires.room, c.from.ensures)) c.push.ensures.fault

pub unwrap-requires-3 : goal.unwrap-requires-3
unwrap-requires-3 g c =
    let n = c.args.regs.now.stack in
    let k = c.from.result in
    let once = g.C.Core.stacks c.cut.new.self in
    let twice = g.C.Core.stacks c.push.new.self in
    let cut : Reaches once n k = cut_reaches (g.C.Core.stacks c.args.core.now) once n k c.cut.result c.unwrap.result c.requires.linked.opened c.unwrap.ensures c.cut.ensures.stacks in
    let mark : Reaches twice n (k + 1) = push_reaches once twice n k c.pack.result c.push.result c.unwrap-2.result cut c.unwrap-2.ensures c.push.ensures.stacks in
    push_goes twice n (k + 1) c.push-2.result mark (omega (arith, c.requires.room, c.from.ensures)) c.push-2.ensures.fault

pub unwrap-requires-then-pcw : goal.unwrap-requires-then-pcw
unwrap-requires-then-pcw g c =
    let n = c.args.regs.now.stack in
    let k = c.from.result in
    let once = g.C.Core.stacks c.cut.new.self in
    let twice = g.C.Core.stacks c.push.new.self in
    let framed = g.C.Core.stacks c.push-2.new.self in
    let room : c.args.mark + 2 + 1 ≤ stack_limit = subst (λ (b : Bool). c.args.mark + 2 + length (selected b c.args.selector) ≤ stack_limit) c.if-pcw.true c.requires.room in
    let cut : Reaches once n k = cut_reaches (g.C.Core.stacks c.args.core.now) once n k c.cut.result c.unwrap.result c.requires.linked.opened c.unwrap.ensures c.cut.ensures.stacks in
    let mark : Reaches twice n (k + 1) = push_reaches once twice n k c.pack.result c.push.result c.unwrap-2.result cut c.unwrap-2.ensures c.push.ensures.stacks in
    let frame : Reaches framed n (k + 1 + 1) =
    push_reaches twice framed n (k + 1) c.control_word-control.result c.push-2.result c.unwrap-3.result mark c.unwrap-3.ensures c.push-2.ensures.stacks in
    push_goes framed n (k + 1 + 1) c.push-then-pcw.result frame (omega (arith, room, c.from.ensures)) c.push-then-pcw.ensures.fault

pub returns : goal.returns
returns g c =
    let st = g.C.Core.stacks c.args.core.now in
    let rows = g.C.Core.rows c.args.core.now in
    let r = c.args.regs.now in
    let next = c.args.next in
    let mark = c.args.mark in
    let pcw = c.args.pcw.now in
    let e = c.args.entry.now in
    let selector = c.args.selector in
    let once = g.C.Core.stacks c.cut.new.self in
    let twice = g.C.Core.stacks c.push.new.self in
    let there = g.C.Core.stacks c.push-2.new.self in
    let there_is : there ≡ framed r next mark pcw e selector st =
    is_framed r next mark pcw e selector st once twice there c.from.result c.pack.result c.control_word-control.result c.from.ensures c.pack.ensures c.control_word-control.ensures
    (when_ok c.cut.result c.unwrap.result once (with_cut st r.stack c.from.result) st c.unwrap.ensures c.cut.ensures.stacks)
    (when_ok c.push.result c.unwrap-2.result twice (with_push once r.stack c.pack.result) once c.unwrap-2.ensures c.push.ensures.stacks)
    (when_ok c.push-2.result c.unwrap-3.result there (with_push twice r.stack c.control_word-control.result) twice c.unwrap-3.ensures c.push-2.ensures.stacks) in
    let same : g.C.Core.rows c.push-2.new.self ≡ rows = c.push-2.ensures.rows ∙ c.push.ensures.rows ∙ c.cut.ensures.rows in
    elim c.if-pcw.branch [
      | then-pcw w ↦
          let last = w.push-then-pcw.new.self in
          let room : mark + 2 + 1 ≤ stack_limit = subst (λ (b : Bool). mark + 2 + length (selected b selector) ≤ stack_limit) w.if-pcw.true c.requires.room in
          let word : w.operand.result ≡ operand (pos selector) = search rules in
          let stacks : g.C.Core.stacks last ≡ with_push (framed r next mark pcw e selector st) r.stack (operand (pos selector)) =
          when_ok w.push-then-pcw.result w.unwrap-then-pcw.result (g.C.Core.stacks last) (with_push there r.stack w.operand.result) there w.unwrap-then-pcw.ensures w.push-then-pcw.ensures.stacks
          ∙ ap (λ (z : Word). with_push there r.stack z) word
          ∙ ap (λ (z : Stacks). with_push z r.stack (operand (pos selector))) there_is in
          let q : entered r (mark + 2 + 1) mark pcw e 0 ≡ c.go_in.new.regs =
          ap (λ (s : ℕ). entered r s mark pcw e 0) (ap (λ (k : ℕ). k + 2 + 1) (sym c.from-s.ensures) ∙ sym w.s-is) ∙ sym c.go_in.ensures in
          subst (λ (z : Registers). ProgramPerforms (answer (accident r next mark pcw e selector)) (own_of_image st rows r) (own_of_image (g.C.Core.stacks c.if-pcw.core) (g.C.Core.rows c.if-pcw.core) z) (Ok tt)) q
          (accident_named r next mark pcw e selector st (g.C.Core.stacks c.if-pcw.core) rows (g.C.Core.rows c.if-pcw.core) w.if-pcw.true room
          (ap g.C.Core.stacks w.core-is ∙ stacks) (ap g.C.Core.rows w.core-is ∙ w.push-then-pcw.ensures.rows ∙ same))
      | else-pcw w ↦
          let room : mark + 2 + 0 ≤ stack_limit = subst (λ (b : Bool). mark + 2 + length (selected b selector) ≤ stack_limit) w.if-pcw.false c.requires.room in
          let size : c.if-pcw.s ≡ mark + 2 + 0 = omega (arith, w.s-is, c.from-s.ensures) in
          let q : entered r (mark + 2 + 0) mark pcw e 0 ≡ c.go_in.new.regs = ap (λ (s : ℕ). entered r s mark pcw e 0) (sym size) ∙ sym c.go_in.ensures in
          subst (λ (z : Registers). ProgramPerforms (answer (accident r next mark pcw e selector)) (own_of_image st rows r) (own_of_image (g.C.Core.stacks c.if-pcw.core) (g.C.Core.rows c.if-pcw.core) z) (Ok tt)) q
          (accident_plain r next mark pcw e selector st (g.C.Core.stacks c.if-pcw.core) rows (g.C.Core.rows c.if-pcw.core) w.if-pcw.false room
          (ap g.C.Core.stacks w.core-is ∙ there_is) (ap g.C.Core.rows w.core-is ∙ same))
    ]
