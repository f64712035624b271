-- A process of a pictured image performs at most as many operators for an entry as the longest segment has syllables.
use Rattle.std.proofs.Common.{◌≡◌, refl, ap, ℕ, ◌≤◌, Bool, false, List, [], ◌∷◌, Option, Some, None, cond, arith}
use Rattle.b67_pictures.proofs.Prelude.{numbered, PProgram, Process, Part, World, Code, Image, is_live, Plains, stay, go, ProcessActs, Texts, AreFew, numbered_beyond, runs_low, Layout, Living, Pictured, living, dead, PicturesBy}
use Rattle.b67_ops.specs.declared.TheConstants.{MOST_LEVEL}
use Rattle.b67_table.specs.declared.InterruptKind.TheVariants.{BadCode as bad_code}
use Rattle.b67_table.specs.Effect.{interrupts}
use Rattle.b67_table.specs.Outcome.{limited}
use Rattle.b67_table.specs.Outcome as outcomes
use Rattle.b67_table.specs.Table.{table, raw, by_registers, stack_length}
use Rattle.b67_table.specs.Runs.{acts, fails}
use Rattle.b67_cores.proofs.Counting.{plains_few}
use Rattle.b67_cores.proofs.Performing.{steps_keep}
use Rattle.b67_faithful.specs.Faithful.{longest}
use Rattle.b67_faithful.proofs.Counting.{longest_is}
use Rattle.b67_frames.specs.Frames.{Frames}
use Rattle.b67_scenes.proofs.Plainly.{no_operator}
use Rattle.b67_pictures.proofs.Simulating.{gives_interrupts, faults_interrupts}

-- ---- a process that does not live performs nothing

module _ (code : Code) (img : Image) (p : ℕ) (gone : is_live (numbered img.states p) ≡ false) where
  has_none : table code img p ≡ outcomes.interrupts bad_code
  unfolding table raw
  has_none = ap (λ (b : Bool). limited (stack_length p) (cond b (by_registers code img p (numbered img.regs p)) (interrupts bad_code))) gone

  no_action : {B : Type 0} {after : Image} → ProcessActs code p img after → B
  no_action (acts np t) = gives_interrupts t has_none
  no_action (fails kind t) = faults_interrupts t has_none

none_few : (code : Code) (p : ℕ) {img new : Image} {n : ℕ} → is_live (numbered img.states p) ≡ false → Plains code p img n new → AreFew code p n new
none_few code p {img} gone stay = record { plain = omega arith; acting = λ after x. no_action code img p gone x }
none_few code p {img} gone (go {b = b} e t more) = no_operator code img b p gone t

-- ---- a process that lives

module _ (tree : PProgram) (code : Code) (texts : Texts) (w : World) (lay : Layout) (img : Image) (by : PicturesBy tree code texts w lay img) where
  -- it is at a level that the machine has
  settled_level : (p : ℕ) (q : Process) (l : Living tree code texts w lay img p q) → l.settled.registers.ll ≤ MOST_LEVEL
  settled_level p q l = by_parts q.todo l.frames
    where
      by_parts : (parts : List Part) → Frames tree code texts w lay p parts l.settled → l.settled.registers.ll ≤ MOST_LEVEL
      by_parts [] f = absurd f
      by_parts (part ∷ outer) f = omega (arith, f.0.there.level_is, runs_low tree code texts w lay p part outer l.settled.below f.0.frame)

  living_few : (p n : ℕ) (q : Process) (new : Image) → Living tree code texts w lay img p q → Plains code p img n new → AreFew code p n new
  living_few p n q new l plains =
      let level : l.core.registers.ll ≤ MOST_LEVEL = omega (arith, settled_level p q l, (steps_keep l.steps).1) in
      let few = plains_few code (longest code.segments) (longest_is code.segments) p n img new l.core l.has l.small level plains in
      record { plain = few.0; acting = few.1 }

  pub operators_are_few : (new : Image) (p n : ℕ) → Plains code p img n new → AreFew code p n new
  operators_are_few new p n plains = found (numbered w.processes p) refl
    where
      by_picture : (q : Process) → Pictured tree code texts w lay img p q → AreFew code p n new
      by_picture q (living able_is s l) = living_few p n q new l plains
      by_picture q (dead e s) = none_few code p (ap is_live s) plains

      found : (o : Option Process) → numbered w.processes p ≡ o → AreFew code p n new
      found (Some q) at = by_picture q (by.each p q at)
      found None gone = none_few code p (ap is_live (numbered_beyond w.processes img.states p by.states gone)) plains
