-- Whether a live process depends on an instance: in a world, and by the critical places of its image.
use Rattle.std.proofs.Common.{◌≡◌, ◌≢◌, ◌⊎◌, inl, inr, refl, sym, ap, ◌∙◌, ℕ, zero, suc, List, [], ◌∷◌, length, Option, Some, None, Bool, true, false, arith}
use Rattle.b67_list.proofs.Lists.{get_within as get_below}
use Rattle.b67_list.proofs.Numbers.{none_some, number_different, number_told}
use Rattle.b67_list.proofs.Truths.{and_false}
use Rattle.b67_scenes.proofs.Prelude.{list_any, ◌&&◌, ◌||◌, ◌==◌, slice_get, numbered, PProgram, scopes_of, is_this, some_depends, is_evaluation, Instance, Process, Part, State, lives, World, stack_forth, IsOk, IsWholeInstance, IsStanding, stack_of, IsOwn, Word, Place, Registers, Code, same_place_self, same_place, place, Image, is_live, live_criticals, ProcessState, Able, WaitsFor, WaitsAny, Procures, Ended, Texts, some_same, same_or_not, numbered_beyond, Layout, Frame, Around, CriticalIs, Pictured, living, dead, PicturesBy}
use Rattle.b67_table.specs.Image.{is_ended}
use Rattle.b67_table.specs.Questions.{with_critical, unless}
use Rattle.b67_scenes.proofs.Heights.{alone_there, none_there}
use Rattle.b67_rows.proofs.Numbers.{get_within}

-- a critical place is this one
abbrev has_place : Place → Option Place → Bool
has_place f None = false
has_place f (Some g) = same_place f g

-- ---- lists of processes, of their states and of their registers

-- a process has ended in both; or it lives in both, and depends on the instance where its critical place is that one
data Told (i : ℕ) (f : Place) (q : Process) (state : Option ProcessState) (regs : Option Registers) : Type 0 where
  gone : lives q.state ≡ false → (s : ProcessState) → state ≡ Some s → is_ended s ≡ true → Told i f q state regs
  there : lives q.state ≡ true → (s : ProcessState) → state ≡ Some s → is_ended s ≡ false → (r : Registers) → regs ≡ Some r → is_this q.critical i ≡ has_place f r.critical → Told i f q state regs

some_critical : (f : Place) (c : Option Place) (places : List Place) → (has_place f c || list_any (same_place f) places) ≡ list_any (same_place f) (with_critical c places)
some_critical f None places = refl
some_critical f (Some g) places = refl

first_told : (i : ℕ) (f : Place) (q : Process) (s : ProcessState) (r : Registers) (b : Bool) (places : List Place) → Told i f q (Some s) (Some r) → b ≡ list_any (same_place f) places →
    ((lives q.state && is_this q.critical i) || b) ≡ list_any (same_place f) (unless (is_ended s) (with_critical r.critical places) places)
first_told i f q s r b places (gone left t is ended) e =
    ap (λ (x : Bool). (x && is_this q.critical i) || b) left
    ∙ e
    ∙ ap (λ (x : Bool). list_any (same_place f) (unless x (with_critical r.critical places) places)) (sym (ap is_ended (some_same is) ∙ ended))
first_told i f q s r b places (there alive t is stays o has same) e =
    ap (λ (x : Bool). (x && is_this q.critical i) || b) alive
    ∙ ap (λ (x : Bool). x || b) (same ∙ ap (λ (y : Registers). has_place f y.critical) (sym (some_same has)))
    ∙ ap (λ (x : Bool). has_place f r.critical || x) e
    ∙ some_critical f r.critical places
    ∙ ap (λ (x : Bool). list_any (same_place f) (unless x (with_critical r.critical places) places)) (sym (ap is_ended (some_same is) ∙ stays))

-- who has no registers has ended
without : (i : ℕ) (f : Place) (q : Process) (state : Option ProcessState) → Told i f q state None → (lives q.state && is_this q.critical i) ≡ false
without i f q state (gone left t is ended) = ap (λ (x : Bool). x && is_this q.critical i) left
without i f q state (there alive t is stays o has same) = none_some has

none_listed : (f : Place) (states : List ProcessState) → list_any (same_place f) (live_criticals states []) ≡ false
none_listed f [] = refl
none_listed f (s ∷ states) = refl

told_all : (qs : List Process) (states : List ProcessState) (regs : List Registers) (i : ℕ) (f : Place) → length states ≡ length qs →
    ((k : ℕ) (q : Process) → slice_get qs k ≡ Some q → Told i f q (slice_get states k) (slice_get regs k)) → some_depends qs i ≡ list_any (same_place f) (live_criticals states regs)
told_all [] [] regs i f many each = refl
told_all [] (s ∷ states) regs i f many each = absurd (omega (arith, many))
told_all (q ∷ qs) [] regs i f many each = absurd (omega (arith, many))
told_all (q ∷ qs) (s ∷ states) [] i f many each =
    let fewer : length states ≡ length qs = omega (arith, many) in
    ap (λ (b : Bool). b || some_depends qs i) (without i f q (Some s) (each zero q refl))
    ∙ told_all qs states [] i f fewer (λ k o e. each (suc k) o e)
    ∙ none_listed f states
told_all (q ∷ qs) (s ∷ states) (r ∷ regs) i f many each =
    let fewer : length states ≡ length qs = omega (arith, many) in
    first_told i f q s r (some_depends qs i) (live_criticals states regs) (each zero q refl) (told_all qs states regs i f fewer (λ k o e. each (suc k) o e))

-- where no critical place of a process that lives is that one, none of all is
either_none : (b : Bool) (f : Place) (c : Option Place) (places : List Place) → (b ≡ true) ⊎ (has_place f c ≡ false) → list_any (same_place f) places ≡ false → list_any (same_place f) (unless b (with_critical c places) places) ≡ false
either_none true f c places h none = none
either_none false f c places (inl clash) none = cc
either_none false f c places (inr other) none = sym (some_critical f c places) ∙ ap (λ (x : Bool). x || list_any (same_place f) places) other ∙ none

none_of_all : (states : List ProcessState) (regs : List Registers) (f : Place) →
    ((k : ℕ) (s : ProcessState) (r : Registers) → slice_get states k ≡ Some s → slice_get regs k ≡ Some r → (is_ended s ≡ true) ⊎ (has_place f r.critical ≡ false)) → list_any (same_place f) (live_criticals states regs) ≡ false
none_of_all [] regs f each = refl
none_of_all (s ∷ states) [] f each = refl
none_of_all (s ∷ states) (r ∷ regs) f each =
    either_none (is_ended s) f r.critical (live_criticals states regs) (each zero s r refl refl) (none_of_all states regs f (λ k. each (suc k)))

-- ---- places

other_there : (f g : Place) → f ≢ g → same_place f g ≡ false
other_there f g n = by_stack (same_or_not f.stack g.stack) (same_or_not f.at g.at)
  where
    by_stack : (f.stack ≡ g.stack) ⊎ (f.stack ≢ g.stack) → (f.at ≡ g.at) ⊎ (f.at ≢ g.at) → same_place f g ≡ false
    by_stack (inr other) h = ap (λ (b : Bool). b && (f.at == g.at)) (number_different f.stack g.stack other)
    by_stack (inl same) (inr other) = ap (λ (b : Bool). (f.stack == g.stack) && b) (number_different f.at g.at other) ∙ and_false (f.stack == g.stack)
    by_stack (inl same) (inl also) = absurd (n (ap (λ (s : ℕ). place s f.at) same ∙ ap (λ (t : ℕ). place g.stack t) also))

-- who lives has not ended
not_ended : (s : ProcessState) → is_live (Some s) ≡ true → is_ended s ≡ false
not_ended Ended live = cc
not_ended Able live = refl
not_ended (WaitsFor at) live = refl
not_ended WaitsAny live = refl
not_ended (Procures at) live = refl

-- ---- of a picture

module _ (tree : PProgram) (code : Code) (texts : Texts) (w : World) (lay : Layout) (img : Image) (by : PicturesBy tree code texts w lay img) (ok : IsOk (scopes_of tree) IsWholeInstance w) where
  -- the critical instance of a process that lives stands
  pub record StandsThere (c : ℕ) : Type 0 where
    pub instance : Instance
    pub is : numbered w.instances c ≡ Some instance
    pub stands : instance.left ≡ false

  there_below : (c : ℕ) (f : Place) → numbered lay.places c ≡ Some f → (x : Instance) × (numbered w.instances c ≡ Some x)
  there_below zero f laid = none_some laid
  there_below (suc c) f laid = get_within w.instances c (omega (arith, get_below lay.places c f laid, by.laid))

  critical_stands : (k : ℕ) (o : Process) → numbered w.processes k ≡ Some o → lives o.state ≡ true → (c : ℕ) → o.critical ≡ Some c → (f : Place) → numbered lay.places c ≡ Some f → StandsThere c
  critical_stands k o is alive c depends f laid =
      let x : (y : Instance) × (numbered w.instances c ≡ Some y) = there_below c f laid in
      let st : IsStanding w c = ok.sound.skeleton_ok.holds k (stack_of o) c (stack_forth w k o is) alive depends in
      record { instance = x.0; is = x.1; stands = (ok.sound.instances c x.0 x.1).left.1 st }

  -- who lives has not ended
  live_state : (o : Option ProcessState) → is_live o ≡ true → (s : ProcessState) × (o ≡ Some s) × (is_ended s ≡ false)
  live_state None live = cc
  live_state (Some s) live = (s, refl, not_ended s live)

  -- no critical place is one where no instance that stands has its frame
  module _ (g : Place) (nobody : (c : ℕ) (x : Instance) → numbered w.instances c ≡ Some x → x.left ≡ false → (f : Place) → numbered lay.places c ≡ Some f → f ≡ g → ⊥) where
    not_here : (k : ℕ) (o : Process) → numbered w.processes k ≡ Some o → lives o.state ≡ true → (c : Option ℕ) (at : Option Place) → o.critical ≡ c → CriticalIs lay c at → has_place g at ≡ false
    not_here k o there_is alive None at e none = ap (has_place g) none
    not_here k o there_is alive (Some c) at e told =
        let stands : StandsThere c = critical_stands k o there_is alive c e told.0 told.2 in
        ap (has_place g) told.1
        ∙ other_there g told.0 (λ (same : g ≡ told.0). nobody c stands.instance stands.is stands.stands told.0 told.2 (sym same))

    pub nobody_there : list_any (same_place g) (live_criticals img.states img.regs) ≡ false
    nobody_there = none_of_all img.states img.regs g (λ k s r is_s is_r. by_process k s r is_s is_r (numbered w.processes (suc k)) refl)
      where
        by_picture : (k : ℕ) (s : ProcessState) (r : Registers) → slice_get img.states k ≡ Some s → slice_get img.regs k ≡ Some r → (o : Process) → numbered w.processes (suc k) ≡ Some o → Pictured tree code texts w lay img (suc k) o →
            (is_ended s ≡ true) ⊎ (has_place g r.critical ≡ false)
        by_picture k s r is_s is_r o e (dead ended_is t) = inl (ap is_ended (some_same (sym is_s ∙ t)))
        by_picture k s r is_s is_r o e (living alive t l) =
            inr (ap (λ (x : Registers). has_place g x.critical) (some_same (sym is_r ∙ l.has.registers)) ∙ not_here (suc k) o e alive o.critical l.core.registers.critical refl l.critical)

        by_process : (k : ℕ) (s : ProcessState) (r : Registers) → slice_get img.states k ≡ Some s → slice_get img.regs k ≡ Some r → (o : Option Process) → numbered w.processes (suc k) ≡ o → (is_ended s ≡ true) ⊎ (has_place g r.critical ≡ false)
        by_process k s r is_s is_r (Some o) e = by_picture k s r is_s is_r o e (by.each (suc k) o e)
        by_process k s r is_s is_r None e = none_some (sym (numbered_beyond w.processes img.states (suc k) by.states e) ∙ is_s)

  module _ (p : ℕ) (q : Process) (is : numbered w.processes p ≡ Some q) (part : Part) (outer : List Part) (todo : q.todo ≡ part ∷ outer) (words : List Word) (f : Frame tree code texts w lay p part outer words)
      (a : Around tree code texts w lay p outer f.lower f.mark f.control f.gives) where
    module _ (i : ℕ) (own : IsOwn (part ∷ outer) i) (g : Place) (laid : numbered lay.places i ≡ Some g) where
      -- a critical instance is this one where its place is
      critical_is : (k : ℕ) (o : Process) → numbered w.processes k ≡ Some o → lives o.state ≡ true → (c : Option ℕ) (at : Option Place) → o.critical ≡ c → CriticalIs lay c at → is_this c i ≡ has_place g at
      critical_is k o has_o alive None at e none = ap (has_place g) (sym none)
      critical_is k o has_o alive (Some c) at e told = by_number (same_or_not c i) ∙ ap (has_place g) (sym told.1)
        where
          stands : StandsThere c
          stands = critical_stands k o has_o alive c e told.0 told.2

          by_number : (c ≡ i) ⊎ (c ≢ i) → (c == i) ≡ same_place g told.0
          by_number (inl same) =
              number_told c i same ∙ sym (same_place_self g told.0 (some_same (sym laid ∙ ap (λ (n : ℕ). numbered lay.places n) (sym same) ∙ told.2)))
          by_number (inr other) =
              number_different c i other
              ∙ sym (other_there g told.0 (λ (same : g ≡ told.0). other
              (alone_there tree code texts w lay p part outer words f a img by ok q is todo i own g laid c stands.instance stands.is stands.stands (told.2 ∙ ap (λ (y : Place). Some y) (sym same)))))

      told_by : (k : ℕ) (o : Process) → numbered w.processes (suc k) ≡ Some o → Pictured tree code texts w lay img (suc k) o → Told i g o (slice_get img.states k) (slice_get img.regs k)
      told_by k o there_is (dead ended_is s) = gone (ap (λ (t : State). lives t) ended_is) Ended s refl
      told_by k o there_is (living alive s l) =
          let state : (t : ProcessState) × (numbered img.states (suc k) ≡ Some t) × (is_ended t ≡ false) = live_state (numbered img.states (suc k)) l.has.live in
          there alive state.0 state.1 state.2 l.core.registers l.has.registers (critical_is (suc k) o there_is alive o.critical l.core.registers.critical refl l.critical)

      -- a process depends on an own instance where its frame is critical
      pub dependents_agree : some_depends w.processes i ≡ list_any (same_place g) (live_criticals img.states img.regs)
      dependents_agree = told_all w.processes img.states img.regs i g by.states (λ k o e. told_by k o e (by.each (suc k) o e))

    -- no critical place is the frame of an evaluation
    pub evaluations_are_free : is_evaluation part.purpose ≡ true → list_any (same_place (place p (length f.lower))) (live_criticals img.states img.regs) ≡ false
    evaluations_are_free evaluates =
        nobody_there (place p (length f.lower)) (λ c x there stands g laid same. none_there tree code texts w lay p part outer words f a img by ok q is todo evaluates c x there stands g laid same)
