-- Before its action a process has plain operators only; where its core is settled, its operator is its action. On the way there, or
-- there, it may come to the stack limit.
use Rattle.std.proofs.Common.{◌≡◌, ◌⊎◌, inl, inr, refl, sym, ◌∙◌, subst, ℕ, ◌<◌, ◌≤◌, Some, true, false, arith}
use Rattle.b67_pictures.proofs.Prelude.{numbered, PProgram, scopes_of, Process, lives, World, Code, stack_limit, Image, Plains, stay, go, plain, Texts, Core, HasCore, with_core, size, CoreStep, CoreSteps, onward, StepsArePerformed, StepsComeToLimit, Layout, Living, PicturesBy, StateIs, Does, gave, failed_by, stopped}
use Rattle.b67_table.specs.Outcome.{gives}
use Rattle.b67_table.specs.Table.{table}
use Rattle.b67_cores.specs.Cores.{here}
use Rattle.b67_scenes.proofs.Plainly.{steps_fit, stepped, within_or_beyond, Nearer, step_made, pictured_nearer, plain_pictured}
use Rattle.b67_pictures.proofs.Releasing.{IsReleased}

-- Its operator is its action, and releases whom that releases.
pub record Settled (tree : PProgram) (code : Code) (texts : Texts) (w : World) (img : Image) (p : ℕ) : Type 0 where
  pub does : Does tree code texts w img p
  pub released : IsReleased tree code w img p

-- each process of a picture of this world whose core is settled does its action
abbrev pub SettledAct : PProgram → Code → Texts → World → Type 0
SettledAct tree code texts w =
    (lay : Layout) (img : Image) (p : ℕ) (q : Process) → PicturesBy tree code texts w lay img → numbered w.processes p ≡ Some q → lives q.state ≡ true → StateIs (scopes_of tree) w lay q.state (numbered img.states p) →
    (l : Living tree code texts w lay img p q) → HasCore img p l.settled → Settled tree code texts w img p

module _ (tree : PProgram) (code : Code) (texts : Texts) where
  -- the operator of a process that lives
  pub data Operates (w : World) (lay : Layout) (img : Image) (p : ℕ) : Type 0 where
    plainly : (after : Image) → plain code img p ≡ true → table code img p ≡ gives after → Operates w lay img p
    acting : Does tree code texts w img p → IsReleased tree code w img p → Operates w lay img p

  -- by plain operators it comes to an image in which it does its action, or comes to the limit
  pub record Settles (w : World) (lay : Layout) (img : Image) (p : ℕ) : Type 0 where
    pub count : ℕ
    pub quiet : Image
    pub plains : Plains code p img count quiet
    pub does : Does tree code texts w quiet p

module _ (tree : PProgram) (code : Code) (texts : Texts) (performed : StepsArePerformed) (limits : StepsComeToLimit) (w : World) (settled_does : SettledAct tree code texts w) where
  abbrev Operator : Layout → Image → ℕ → Type 0
  Operator lay img p = Operates tree code texts w lay img p

  abbrev Settling : Layout → Image → ℕ → Type 0
  Settling lay img p = Settles tree code texts w lay img p

  -- what the operator of an action does is not plain
  pub not_plain : {img : Image} {p : ℕ} → Does tree code texts w img p → plain code img p ≡ false
  not_plain (gave after np t act by) = np
  not_plain (failed_by kind np t act by) = np
  not_plain (stopped np t heavy) = np

  -- a settled process's operator is not plain
  pub is_quiet : (lay : Layout) (img : Image) (p : ℕ) → PicturesBy tree code texts w lay img → (q : Process) → numbered w.processes p ≡ Some q → lives q.state ≡ true → StateIs (scopes_of tree) w lay q.state (numbered img.states p) →
      (l : Living tree code texts w lay img p q) → HasCore img p l.settled → plain code img p ≡ false
  is_quiet lay img p by q at able_is able_p l has = not_plain (settled_does lay img p q by at able_is able_p l has).does

  -- a plain operator leaves an image of the same world, and so do many
  pub through_plain : (lay : Layout) (a b : Image) (p : ℕ) → PicturesBy tree code texts w lay a → plain code a p ≡ true → table code a p ≡ gives b → PicturesBy tree code texts w lay b
  through_plain lay a b p by e t = plain_pictured performed limits tree code texts w lay a b p e t by (is_quiet lay a p by)

  module _ (lay : Layout) (p : ℕ) (q : Process) (at : numbered w.processes p ≡ Some q) (able_is : lives q.state ≡ true) where
    -- a step that is too long comes to the limit
    too_long : (img : Image) (l : Living tree code texts w lay img p q) (c b : Core) (n : ℕ) → HasCore img p c → CoreStep code c b → CoreSteps code l.bound n b l.settled → stack_limit < size b → Does tree code texts w img p
    too_long img l c b n has step more long =
        let stop = limits code p img c b has step long in
        stopped stop.1 stop.0 (omega (arith, long, steps_fit more, l.light))

    pub operates : (img : Image) → PicturesBy tree code texts w lay img → StateIs (scopes_of tree) w lay q.state (numbered img.states p) → Living tree code texts w lay img p q → Operator lay img p
    operates img by able_p l = by_steps l.steps refl refl
      where
        by_steps : {n : ℕ} {c d : Core} → CoreSteps code l.bound n c d → c ≡ l.core → d ≡ l.settled → Operator lay img p
        by_steps (here fits) e f =
            let s : Settled tree code texts w img p = settled_does lay img p q by at able_is able_p l (subst (λ (x : Core). HasCore img p x) (sym e ∙ f) l.has) in acting s.does s.released
        by_steps (onward {n} {a} {b} fits step more) e f = by_size (within_or_beyond (size b))
          where
            has : HasCore img p a
            has = subst (λ (x : Core). HasCore img p x) (sym e) l.has

            by_size : (size b ≤ stack_limit) ⊎ (stack_limit < size b) → Operator lay img p
            by_size (inl short) =
                let one = stepped performed code p img a b has (subst (λ (x : Core). size x ≤ stack_limit) (sym e) l.small) short step in
                plainly (with_core img p b) one.1 one.2
            by_size (inr long) = acting (too_long img l a b n has step (subst (λ (x : Core). CoreSteps code l.bound n b x) f more) long) (λ no_limit. absurd (no_limit (limits code p img a b has step long).0))

    -- after a step it goes on, where its stack has room
    after_step : (img : Image) → PicturesBy tree code texts w lay img → StateIs (scopes_of tree) w lay q.state (numbered img.states p) → (l : Living tree code texts w lay img p q) → (b : Core) (n : ℕ) → CoreStep code l.core b → CoreSteps code l.bound n b l.settled →
        ((fits : size b ≤ stack_limit) → Nearer tree code texts w lay img b p q l → Settling lay (with_core img p b) p) → (size b ≤ stack_limit) ⊎ (stack_limit < size b) → Settling lay img p
    after_step img by able_p l b n first rest later (inl short) =
        let one = stepped performed code p img l.core b l.has l.small short first in
        let more = later short (step_made performed limits tree code texts w lay img p q at l b n first rest short) in
        record { count = _; quiet = more.quiet; plains = go one.1 one.2 more.plains; does = more.does }
    after_step img by able_p l b n first rest later (inr long) = record { count = 0; quiet = img; plains = stay; does = too_long img l l.core b n l.has first rest long }

    settled_by : {bound n : ℕ} {c d : Core} → CoreSteps code bound n c d → (img : Image) → PicturesBy tree code texts w lay img → StateIs (scopes_of tree) w lay q.state (numbered img.states p) → (l : Living tree code texts w lay img p q) → bound ≡ l.bound →
        c ≡ l.core → d ≡ l.settled → Settling lay img p
    settled_by (here fits) img by able_p l same e f =
        record { count = 0; quiet = img; plains = stay; does = (settled_does lay img p q by at able_is able_p l (subst (λ (x : Core). HasCore img p x) (sym e ∙ f) l.has)).does }
    settled_by {bound} {d = d} (onward {n} {a} {b} fits step more) img by able_p l same e f =
        let first : CoreStep code l.core b = subst (λ (x : Core). CoreStep code x b) e step in
        let rest : CoreSteps code l.bound n b l.settled = subst (λ (x : Core). CoreSteps code l.bound n b x) f (subst (λ (k : ℕ). CoreSteps code k n b d) same more) in
        after_step img by able_p l b n first rest
        (λ short near. settled_by more (with_core img p b) (pictured_nearer performed limits tree code texts w lay img p b q at by able_is able_p l near) able_p near.lives_so (same ∙ sym near.bound_is) (sym near.core_is) (f ∙ sym near.settled_is))
        (within_or_beyond (size b))

    pub settles : (img : Image) → PicturesBy tree code texts w lay img → StateIs (scopes_of tree) w lay q.state (numbered img.states p) → (l : Living tree code texts w lay img p q) → Settling lay img p
    settles img by able_p l = settled_by l.steps img by able_p l refl refl refl
