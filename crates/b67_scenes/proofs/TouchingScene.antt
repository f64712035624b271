-- A process that stands at its action: near are the frames to which marks and its display lead.
use Rattle.std.proofs.Common.{◌≡◌, ◌⊎◌, inl, inr, refl, ◌∷◌, sym, ap, ◌∙◌, ℕ, ◌+◌, ◌-◌, ◌<◌, ◌≤◌, List, Some, Ok, arith}
use Rattle.b67_list.proofs.Numbers.{none_some}
use Rattle.b67_scenes.proofs.Prelude.{slice_get, PProgram, Scopes, scopes_of, is_evaluation, ancestor, newest_own, IsOnPath, IsStanding, Word, Place, as_mscw, Mscw, Operator, OUTER_LEVEL, Placed, Code, words_or, words_of, word_at, system_stack, critical_in, critical_of, display_at, floor, operator_at, Has, AreNested, Texts, some_same, most_or_more, words_are, Near, below_floor, NearFrame, FrameAt, system_frame, own_stack, StandsNear, facts_of, AllLead, lead_at}
use Rattle.b67_table.specs.declared.Class.TheVariants as classes
use Rattle.b67_table.specs.Chains.{link_of}
use Rattle.b67_table.specs.Table.{class_at}
use Rattle.b67_cores.specs.Cores.{stack_of}
use Rattle.b67_rows.proofs.Touching.{system, own_frame, IsNear, NamesNear}
use Rattle.b67_rows.proofs.TouchingOperators.{privately, acting}
use Rattle.b67_frames.proofs.Lying.{runs_near}
use Rattle.b67_scenes.proofs.Depended.{Has as HasNear, own_has, path_has, up_path as parents_path, frames_near}
use Rattle.b67_scenes.proofs.Finding.{find, standing_near}
use Rattle.b67_scenes.proofs.Sights.{in_reach_near}
use Rattle.b67_scenes.proofs.Led.{part_there}
use Rattle.b67_scenes.proofs.Paths.{path_stands, path_further, part_in_reach, up_path}
use Rattle.b67_scenes.proofs.Worlds.{placed_of}
use Rattle.b67_frames.proofs.TouchingWords.{system_leads, core_leads}
use Rattle.b67_scenes.proofs.CriticalNear.{critical_near}
use Rattle.b67_scenes.proofs.Homes.{operator_there}
use Rattle.b67_scenes.proofs.Scene.{shown_frame, Actor}
use Rattle.b67_scenes.proofs.Staying.{text_in, level_in, names_in}
use Rattle.b67_scenes.proofs.TouchingOthers.{LivesThere, lives_there, lower_links}

module _ (tree : PProgram) (code : Code) (texts : Texts) (nested : AreNested (scopes_of tree)) (actor : Actor tree code texts) where
  open actor use {w, lay, img, p, part, outer, core, s}

  abbrev sc : Scopes
  sc = scopes_of tree

  abbrev level : ℕ
  level = level_in tree w part

  abbrev named_level : ℕ
  named_level = names_in tree w part

  abbrev text : List Placed
  text = text_in tree texts w part

  -- the frames that the display names are those of the instance and of its static parents
  module _ (f : Place) (l : ℕ) (low : 2 ≤ l) (high : l ≤ core.registers.ll) (e : display_at core.registers l ≡ Some f) where
    far : l ≤ named_level → named_level - l + OUTER_LEVEL ≤ named_level
    far within = omega (arith, low, within)

    back : l ≤ named_level → named_level - (named_level - l) ≡ l
    back within = omega (arith, within)

    names_near : l ≤ named_level → NearFrame p img f
    names_near within =
        let up : ℕ = named_level - l in
        let st : IsStanding w part.instance = part_there tree code texts actor in
        let path : IsOnPath w part.instance (ancestor w up part.instance) = up_path sc w s.ok part.instance up st (far within) in
        let up_stands : IsStanding w (ancestor w up part.instance) = path_stands sc w s.ok part.instance (ancestor w up part.instance) st path in
        standing_near tree code texts w lay img s.by s.ok p (ancestor w up part.instance) up_stands
        (in_reach_near tree code texts actor (ancestor w up part.instance)
        (path_further sc w s.ok (newest_own (part ∷ outer)) part.instance (ancestor w up part.instance) (part_in_reach tree code texts w lay p part outer core.below s.stands.frame) path)
        (find tree code texts w lay img s.by s.ok (ancestor w up part.instance) up_stands)) f
        (sym (s.stands.chained up (far within)) ∙ ap (λ (n : ℕ). display_at core.registers n) (back within) ∙ e)

    -- one level further in it is the part's own
    shown_near : NearFrame p img f
    shown_near = by_level (most_or_more l named_level)
      where
        own_near : l ≡ core.registers.ll → NearFrame p img f
        own_near top =
            own_frame p img f (ap (λ (y : Place). y.stack) (some_same (sym e ∙ ap (λ (n : ℕ). display_at core.registers n) top ∙ shown_frame tree code texts actor)))

        by_level : (l ≤ named_level) ⊎ (named_level < l) → NearFrame p img f
        by_level (inl within) = names_near within
        by_level (inr beyond) = own_near (omega (arith, high, beyond, s.stands.there.level_is, runs_near (is_evaluation part.purpose) named_level))

  -- the marks of near stacks lead to near frames
  own_leads : AllLead (FrameAt p img) (system_frame p img) (stack_of core)
  own_leads =
      core_leads tree code texts nested w lay p (facts_of sc w s.ok) (placed_of tree code texts w lay img s.by s.ok) (FrameAt p img) (system_frame p img)
      (HasNear tree code texts w lay img s.by s.ok p p (inl refl)) (own_has tree code texts w lay img s.by s.ok p p (inl refl)) (path_has tree code texts w lay img s.by s.ok p p (inl refl))
      (parents_path tree code texts w lay img s.by s.ok p p (inl refl)) (frames_near tree code texts w lay img s.by s.ok p p (inl refl)) part outer core s.stands s.around s.small

  links_near : (x : Place) (v : Word) (m : Mscw) → Near p img x → word_at img.stacks x ≡ Some v → as_mscw v ≡ Some m → NearFrame p img (link_of m)
  links_near x v m (own_stack own) e is =
      let words : words_of img.stacks x.stack ≡ stack_of core = ap (words_of img.stacks) (own ∙ sym s.has.own) ∙ words_are img p core s.has in
      (lead_at (FrameAt p img) (system_frame p img) (stack_of core) x.at v own_leads (sym (ap (λ (ws : List Word). slice_get ws x.at) words) ∙ e)).link m is
  links_near x v m (system none) e is =
      let words : words_of img.stacks x.stack ≡ system_stack = ap (words_of img.stacks) none ∙ ap words_or s.by.system in
      (lead_at (FrameAt p img) (system_frame p img) system_stack x.at v (system_leads (FrameAt p img) (system_frame p img)) (sym (ap (λ (ws : List Word). slice_get ws x.at) words) ∙ e)).link m is
  links_near x v m (below_floor r lives low depended) e is =
      let t : LivesThere tree code texts w lay img s.by x.stack r = lives_there tree code texts w lay img s.by x.stack r lives in
      (lower_links tree code texts w lay img s.by nested s.ok p x.stack (inr depended) t.process t.living_is x.at v (omega (arith, low, ap floor t.has)) e).link m is

  -- the critical place of a process of a near stack is near
  depends_near : (f c : Place) → Near p img f → critical_of img.regs f.stack ≡ Some c → NearFrame p img c
  depends_near f c (own_stack own) e =
      critical_near tree code texts nested w lay img s.by s.ok p p core.registers (record { live = s.has.live; is = s.has.registers }) c
      (sym (ap (critical_of img.regs) own ∙ ap critical_in s.has.registers) ∙ e)
  depends_near f c (system none) e = none_some (sym (ap (critical_of img.regs) none) ∙ e)
  depends_near f c (below_floor r lives low depended) e = critical_near tree code texts nested w lay img s.by s.ok p f.stack r lives c (sym (ap critical_in lives.is) ∙ e)

  pub is_near : IsNear p img core.registers
  is_near =
      record {
        own = s.has.own;
        links = links_near;
        shows = shown_near;
        depends = depends_near;
      }

  pub stands_at : (op : Operator) (next : ℕ) → Has text level s.stands.pc op next → operator_at code core.registers ≡ Ok (op, next)
  stands_at op next has_it = operator_there sc s.stands.held code text level s.stands.pc s.stands.slots core op next s.stands.there has_it

  -- the operator names near cells
  pub by_names : (op : Operator) (next : ℕ) → Has text level s.stands.pc op next → NamesNear p img op core.registers → StandsNear code p img core.registers
  by_names op next has_it names = acting op next (stands_at op next has_it) is_near names

  -- or is private
  pub by_class : (op : Operator) (next : ℕ) → Has text level s.stands.pc op next → class_at op core.registers.place ≡ classes.Private → StandsNear code p img core.registers
  by_class op next has_it private = privately op next (stands_at op next has_it) private
