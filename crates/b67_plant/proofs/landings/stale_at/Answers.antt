use Rattle.std.proofs.Common.{◌≡◌, ◌≤◌, ◌+◌, ℕ, subst, sym, length, Some}
use Rattle.b67_list.specs.Numbered.{numbered}
use Rattle.b67_control.specs.declared.Registers.{Registers}
use Rattle.b67_table.specs.declared.Private.{Private}
use Rattle.b67_table.specs.Image.{Image}
use Rattle.b67_machine.specs.Parts.{Compared, kept_from}
use Rattle.b67_parcel.specs.Parcels.{Stretch}
use Rattle.b67_plant.proofs.Landing.{words_within, compared}
use Rattle.b67_plant.proofs.landings.stale_at.Goals as goal

pub differs-requires-clause-within : goal.differs-requires-clause-within
differs-requires-clause-within g c =
    let s : Stretch = c.args.parcel.now in
    subst (λ (x : Private). length x.words ≤ x.regs.s) (sym c.start.ensures.value) (words_within s.room s.start c.start.ensures.kept.complete)

pub returns : goal.returns
returns g c =
    let s : Stretch = c.args.parcel.now in
    let img : Image = c.args.machine.now.image in
    compared s.room img s.process s.start c.differs.result c.start.ensures.kept.complete
    (subst (λ (q : ℕ). (from : Registers → ℕ) → from s.start.regs + length s.start.words ≡ s.start.regs.s → (kept : Private) × (kept_from from img (numbered img.regs q) ≡ Some kept) × Compared kept s.start c.differs.result)
    c.process.ensures
    (subst (λ (x : Private). (from : Registers → ℕ) → from x.regs + length x.words ≡ x.regs.s → (kept : Private) × (kept_from from img (numbered img.regs c.process.result) ≡ Some kept) × Compared kept x c.differs.result)
    c.start.ensures.value c.differs.ensures))
