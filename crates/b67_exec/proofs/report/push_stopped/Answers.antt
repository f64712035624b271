use Rattle.std.proofs.Common.{codes, ap, ◌∙◌, List, ℕ, ◌++◌, append_assoc}
use Rattle.std.specs.Fmt.{decimal}
use Rattle.b67_report.proofs.Counts.{two_steps}
use Rattle.b67_exec.specs.Texts.{interrupt_words}
use Rattle.b67_exec.proofs.report.push_stopped.Goals as goal

pub returns-in_ok-extend_from_slice-in-Interrupt-2 : goal.returns-in_ok-extend_from_slice-in-Interrupt-2
returns-in_ok-extend_from_slice-in-Interrupt-2 c =
    let words = interrupt_words c.in-Interrupt.kind in
    rw c.in-Interrupt.is
    (two_steps _ _ c.extend_from_slice-in-Interrupt.new.self.items _ (codes "END INTERRUPT ") words (codes " IN ") (decimal c.in-Interrupt.process)
    c.push_number.ensures
    (c.in_ok-extend_from_slice-in-Interrupt-2.ensures.items
    ∙ ap (λ (ws : List ℕ). c.extend_from_slice.new.self.items ++ ws) (c.as_bytes.ensures.value ∙ c.interrupt_words.ensures)
    ∙ ap (λ (ts : List ℕ). ts ++ words) c.in_ok-extend_from_slice-in-Interrupt.ensures.items
    ∙ append_assoc c.args.text.now.items (codes "END INTERRUPT ") words))
