-- What the start of a process reaches: the cells that its words name are near, and lead no further.
use Rattle.std.proofs.Common.{◌≡◌, ◌⊎◌, inl, inr, refl, sym, ap, ◌∙◌, subst, ℕ, ◌+◌, ◌<◌, ◌≤◌, ◌^◌, List, [], ◌∷◌, ◌++◌, length, Option, Some, None, true, false, arith, lit<, append_assoc}
use Rattle.b67_list.proofs.Numbers.{none_some}
use Rattle.b67_pictures.proofs.Prelude.{reverse-reverse, slice_get, reverse, pos, PProgram, Scopes, scopes_of, use_of, is_variable, is_formal, Named, Ask, starts, ask, is_evaluation, Given, Reference, Cell, number, Bounds, Part, instance_at, DeclaredArray, Shape, BlockIsSeen, IsSeenAround, InGivens, InName, InRest, CellLow, IsLow, IsStanding, IsAmongParts, IsNoBlock, Word, Place, as_sirw_other, irw_laws, sirw_laws, as_irw, as_sirw, event_word, Descriptor, Irw, Sirw, Couple, Start, Code, words_or, word_at, place, display_at, frame, cell_place, cell_word, irw_or_sirw, cell_of, Wanted, IsDeclaredArray, parameter_wants, Context, AreNested, Texts, ActionAt, StartsAt, IsTask, start_begun, Slot, reference, intrinsic, mark, passed as passed_held, slots_length, newest, SlotIs, some_same, AreFit, none_wanted, are_fit, Taken, ActualsAre, words_are, Top, top_slot, NearCell, StandsNear, no_sirw, value_tag, event_refers_nothing, reference_read, known_is, runs_low, runs_deep, named_leads, event_leads, HasCells, under_top, procedure_fits, variable_leads, Allotted, ReferenceLeadsTo, LeadsToEvent, Denotes, named_from, IsComplete, IsInReach, ArePlaced, array_index, cell_there, scene_placed, part_there, LeadsOn, Actor, Seen, text_in, level_in, names_in, context_in, most_in, IsEntry, Names, procedure_there, by_names}
use Rattle.algol_meaning.specs.Value as cells
use Rattle.algol_standing.specs.Worlds.{held_in_rest, held_in_givens}
use Rattle.algol_standing.specs.Lows.{AllLow}
use Rattle.algol_standing.proofs.Asking.{AskHolds, rest_asks}
use Rattle.algol_standing.proofs.Holding.{AreAll}
use Rattle.b67_control.specs.Control.{descriptor_word}
use Rattle.b67_control.proofs.ControlLaws.{tag_zero}
use Rattle.b67_ops.specs.declared.Operator.TheVariants as ops
use Rattle.b67_ops.specs.declared.PlainKind.TheVariants as kinds
use Rattle.b67_ops.specs.Intrinsics.{intrinsic_number_of, couple_of_intrinsic}
use Rattle.b67_table.specs.declared.Cell.{Cell as MachineCell}
use Rattle.b67_table.specs.Beginning.{intrinsic_pcw}
use Rattle.b67_table.specs.References.{sirw_cell}
use Rattle.b67_templates.specs.Cells as wants
use Rattle.b67_standing.specs.Stepping.{cell_named, actual as actual_held}
use Rattle.b67_footprints.proofs.Lists.{Each, each_turned, each_both}
use Rattle.b67_rows.proofs.GivenWords.{a_value, a_name, a_cell, an_event_name, an_event_cell, a_variable, an_actual, a_name_cell}
use Rattle.b67_rows.proofs.Touching.{system_cell}
use Rattle.b67_rows.proofs.TouchingNames.{one_word, one_cell, entry_names_above}
use Rattle.b67_frames.specs.Arrays.{DescriptorIs}
use Rattle.b67_frames.proofs.NamedEvents.{far_event}
use Rattle.b67_frames.proofs.TouchingCalls.{above_others, lies_there, pcw_no_sirw}
use Rattle.b67_frames.proofs.TouchingWords.{numbers_small, descriptor_tag, tag_descriptor}
use Rattle.b67_scenes.proofs.ArrayPlaces.{ArrayPlace, array_place, place_read}
use Rattle.b67_scenes.proofs.EventHomes.{DirectEvent, direct_event, found_formal, there_now, refers_there, word_there, near_there}
use Rattle.b67_scenes.proofs.Led.{IsLed, declared_led}
use Rattle.b67_scenes.proofs.NameHomes.{variable_on, actual_on}
use Rattle.b67_scenes.proofs.Sights.{seen}
use Rattle.b67_scenes.proofs.StartCalling as calling
use Rattle.b67_scenes.proofs.StartSeen.{AreNamedThere, start_seen, start_around, start_made}
use Rattle.b67_pictures.proofs.ParentPlaces.{standing_cells}

-- ---- words

-- a descriptor refers to nothing
descriptor_refers_nothing : (d : Descriptor) → as_sirw (descriptor_word d) ≡ None
descriptor_refers_nothing d = as_sirw_other (descriptor_word d) (λ k. let is = sym (tag_descriptor (descriptor_word d) (descriptor_tag d)) ∙ k in cc)

array_refers_nothing : (bs : List Bounds) (a : Allotted) (w : Word) → DescriptorIs bs a w → as_sirw w ≡ None
array_refers_nothing [] a w is = absurd is
array_refers_nothing (b ∷ []) a w is = ap as_sirw is.3 ∙ descriptor_refers_nothing _
array_refers_nothing (b ∷ c ∷ []) a w is = ap as_sirw is.4 ∙ descriptor_refers_nothing _
array_refers_nothing (b ∷ c ∷ d ∷ bs) a w is = absurd is

-- an array that a block declares is no variable and no parameter, so its name in a bound is one of a block around
far_array : (sc : Scopes) (level : ℕ) (n : Named) (d : DeclaredArray) (c : Couple) → IsDeclaredArray sc level n d c →
    (1 ≤ (use_of sc n).up) ⊎ (is_variable ((use_of sc n).sort) ≡ true) ⊎ (is_formal ((use_of sc n).sort) ≡ true) → 1 ≤ (use_of sc n).up
far_array sc level n d c v (inl far) = far
far_array sc level n d c v (inr (inl is)) = absurd (let clash : false ≡ true = sym (ap is_variable v.sort_is) ∙ is in cc)
far_array sc level n d c v (inr (inr is)) = absurd (let clash : false ≡ true = sym (ap is_formal v.sort_is) ∙ is in cc)

-- all that is held is low
all_hold : (sc : Scopes) (b i : ℕ) (cs : List Cell) → AllLow sc b i cs → AreAll (CellLow sc b i) cs
all_hold sc b i [] low = tt
all_hold sc b i (c ∷ cs) low = (low.0, all_hold sc b i cs low.1)

module _ (tree : PProgram) (code : Code) (texts : Texts) (nested : AreNested (scopes_of tree)) (actor : Actor tree code texts) where
  open actor use {w, lay, img, p, q, part, outer, core, s}

  abbrev sc : Scopes
  sc = scopes_of tree

  abbrev level : ℕ
  level = level_in tree w part

  abbrev names : ℕ
  names = names_in tree w part

  abbrev context : Context
  context = context_in tree code texts w part s.stands.frame.gives

  abbrev block : ℕ
  block = (instance_at w part.instance).block

  abbrev own : ℕ
  own = frame core.registers

  abbrev base : ℕ
  base = length core.below

  abbrev Reached : ℕ → Type 0
  Reached = IsInReach w (part ∷ outer)

  abbrev Led : Reference → Type 0
  Led r = IsLed tree code texts actor r

  abbrev Leads : Word → Type 0
  Leads x = LeadsOn tree code texts nested actor x

  -- ---- references to arrays and to events

  array_on : (shape : Shape) (r : Reference) (x : Word) → ReferenceLeadsTo sc w lay Reached shape r x → Led r → Leads x
  array_on shape r x leads led =
      let h : ArrayPlace tree code texts actor r.instance r.name leads.declared leads.cell leads.allotted leads.array =
      array_place tree code texts actor nested r.instance r.name led leads.declared leads.cell leads.allotted leads.array in
      let index : ℕ = array_index tree code texts actor r.instance leads.array.number in
      record {
        at = h.at;
        index = index;
        refers =
            ap as_sirw (leads.word_is ∙ ap (λ (f : Place). cell_word (record { frame = f; index = index })) (some_same (sym leads.laid ∙ h.laid)))
            ∙ place_read tree code texts actor nested r.instance r.name leads.declared leads.cell leads.allotted leads.array h;
        near = h.near;
        reached = h.word;
        lies = h.lies;
        no_further = array_refers_nothing leads.cell.bounds leads.allotted h.word h.descriptor;
      }

  event_on : (r : Reference) (x : Word) → LeadsToEvent sc w lay Reached r x → Led r → Leads x
  event_on r x leads led =
      let l : Seen tree code texts actor r.instance = seen tree code texts actor r.instance leads.own in
      let found = found_formal tree code texts nested actor r x leads l in
      let there = there_now tree code texts nested actor r x leads l in
      record {
        at = place l.found.number (length l.found.lies.frame.lower);
        index = (cell_there tree code texts nested actor l leads.made.number).index;
        refers = refers_there tree code texts nested actor r x leads l led;
        near = near_there tree code texts nested actor r led l leads.made.number found there;
        reached = event_word (record {});
        lies = word_there tree code texts nested actor r led l leads.made.number found there;
        no_further = event_refers_nothing;
      }

  -- ---- the words of the actuals

  -- a near cell, from which no reference leads further
  record Ends (d : MachineCell) : Type 0 where
    near : NearCell p img d
    word : Word
    lies : word_at img.stacks (cell_place d) ≡ Some word
    none : as_sirw word ≡ None

  abbrev NamesEnds : Word → Type 0
  NamesEnds x = (d : MachineCell) → cell_of core.registers x ≡ Some d → Ends d

  referred_cell : (x : Word) (t : Sirw) → as_sirw x ≡ Some t → (d : MachineCell) → cell_of core.registers x ≡ Some d → d ≡ sirw_cell t
  referred_cell x t reads d e =
      some_same
      (sym e
      ∙ ap (λ (i : Option Irw). irw_or_sirw core.registers i (as_sirw x)) (irw_laws.other x (λ k. let is = sym (sirw_laws.kind x t reads) ∙ k in cc))
      ∙ ap (λ (o : Option Sirw). irw_or_sirw core.registers None o) reads)

  led_ends : (x : Word) → Leads x → NamesEnds x
  led_ends x o d e =
      subst Ends (sym (referred_cell x (record { stack = (o.at).stack; displacement = (o.at).at; index = o.index }) o.refers d e))
      (record { near = o.near; word = o.reached; lies = o.lies; none = o.no_further })

  -- an operand names none
  operand_ends : (x : Word) → x.tag ≡ 0 → NamesEnds x
  operand_ends x tag d e =
      none_some
      (sym
      (ap (λ (o : Option Irw). irw_or_sirw core.registers o (as_sirw x)) (irw_laws.other x (λ k. let is = sym (tag_zero x tag) ∙ k in cc))
      ∙ ap (λ (o : Option Sirw). irw_or_sirw core.registers None o) (no_sirw x tag))
      ∙ e)

  named_ends : (x : Word) (i : Irw) (f : Place) → as_irw x ≡ Some i → display_at core.registers i.level ≡ Some f → Ends (record { frame = f; index = i.index }) → NamesEnds x
  named_ends x i f reads shown ends d e = subst Ends (sym (one_cell p img core.registers x i f reads shown d e)) ends

  placed : ArePlaced sc w lay
  placed = scene_placed tree code texts actor

  each : (j : ℕ) → IsStanding w j → HasCells sc w lay j
  each j st = standing_cells tree code texts w lay img s.by s.ok j st

  here_stands : IsStanding w part.instance
  here_stands = part_there tree code texts actor

  abbrev Narrow : Type 0
  Narrow = InRest (IsSeenAround sc block) IsNoBlock (IsSeenAround sc block) part.rest

  abbrev Around : List Given → Type 0
  Around gs = InGivens (IsSeenAround sc block) gs

  -- what it holds leads low
  abbrev Low : Cell → Type 0
  Low c = (i : ℕ) → IsLow sc w i → CellLow sc ((instance_at w i).block) i c

  abbrev AllHeld : List Cell → Type 0
  AllHeld cs = (i : ℕ) → IsLow sc w i → AreAll (CellLow sc ((instance_at w i).block) i) cs

  held_led : (r : Reference) → Reached r.instance → Low (cells.reference r) → Led r
  held_led r path low = record { reached = path; within = λ other is_low. low r.instance is_low refl }

  first_made : {A B : Type 0} → IsComplete sc w lay part.instance ⊎ A × B → IsComplete sc w lay part.instance ⊎ A
  first_made (inl whole) = inl whole
  first_made (inr x) = inr x.0

  then_made : {A B : Type 0} → IsComplete sc w lay part.instance ⊎ A × B → IsComplete sc w lay part.instance ⊎ B
  then_made (inl whole) = inl whole
  then_made (inr x) = inr x.1

  given_ends : {wanted : List Wanted} {gs : List Given} → AreFit sc context wanted gs → InGivens (BlockIsSeen sc block) gs → IsComplete sc w lay part.instance ⊎ Around gs → (Narrow → Around gs) → AllHeld (held_in_givens gs) →
      (ws : List Word) → ActualsAre sc s.stands.held level own base wanted gs ws → Each NamesEnds ws
  given_ends none_wanted is made keeps lows [] are = tt
  given_ends none_wanted is made keeps lows (x ∷ ws) are = absurd are
  given_ends (a_value kind v fits rest) is made keeps lows [] are = absurd are
  given_ends (a_value kind v fits rest) is made keeps lows (x ∷ ws) are = (operand_ends x (value_tag v x are.0), given_ends rest is made keeps lows ws are.1)
  given_ends (a_name shape n d c v agrees rest) is made keeps lows [] are = absurd are
  given_ends (a_name shape n d c v agrees rest) is made keeps lows (x ∷ ws) are = (
    led_ends x
        (array_on shape (named_from sc w lay part.instance n) x
        (named_leads tree w lay placed each part here_stands Reached (record {
          level = names;
          name = n;
          seen = (is.0, first_made made);
          shape = shape;
          declared = d;
          couple = c;
          is_declared = v;
          agrees = agrees;
          word = x;
          named = known_is sc w lay Reached part.instance s.stands.held s.stands.held_are (cell_named n) x are.0;
        }))
        (declared_led tree code texts actor n is.0 (λ text. far_array sc names n d c v (keeps text).0.1))),
    given_ends rest is.1 (then_made made) (λ text. (keeps text).1) lows ws are.1,
  )
  given_ends (a_cell shape r rest) is made keeps lows [] are = absurd are
  given_ends (a_cell shape r rest) is made keeps lows (x ∷ ws) are =
      let leads : ReferenceLeadsTo sc w lay Reached shape r x = known_is sc w lay Reached part.instance s.stands.held s.stands.held_are (passed_held (wants.array shape) (cells.reference r)) x are.0 in
      (led_ends x (array_on shape r x leads (held_led r leads.own (λ i low. (lows i low).0))), given_ends rest is made keeps (λ i low. (lows i low).1) ws are.1)
  given_ends (an_event_name n c v rest) is made keeps lows [] are = absurd are
  given_ends (an_event_name n c v rest) is made keeps lows (x ∷ ws) are = (
    led_ends x
        (event_on (named_from sc w lay part.instance n) x
        (event_leads tree w lay placed each part here_stands Reached (record {
          level = names;
          name = n;
          seen = (is.0, first_made made);
          couple = c;
          is_declared = v;
          word = x;
          named = known_is sc w lay Reached part.instance s.stands.held s.stands.held_are (cell_named n) x are.0;
        }))
        (declared_led tree code texts actor n is.0 (λ text. far_event sc names n c v (keeps text).0.1))),
    given_ends rest is.1 (then_made made) (λ text. (keeps text).1) lows ws are.1,
  )
  given_ends (an_event_cell r rest) is made keeps lows [] are = absurd are
  given_ends (an_event_cell r rest) is made keeps lows (x ∷ ws) are =
      let leads : LeadsToEvent sc w lay Reached r x = known_is sc w lay Reached part.instance s.stands.held s.stands.held_are (passed_held wants.event (cells.reference r)) x are.0 in
      (led_ends x (event_on r x leads (held_led r leads.own (λ i low. (lows i low).0))), given_ends rest is made keeps (λ i low. (lows i low).1) ws are.1)
  given_ends (a_variable kind n c v rest) is made keeps lows [] are = absurd are
  given_ends (a_variable kind n c v rest) is made keeps lows (x ∷ ws) are = (
    led_ends x
        (variable_on tree code texts nested actor (named_from sc w lay part.instance n) kind x
        (variable_leads tree w lay placed part here_stands Reached (record {
          level = names;
          name = n;
          seen = is.0;
          kind = kind;
          couple = c;
          is_variable = v;
          word = x;
          named = known_is sc w lay Reached part.instance s.stands.held s.stands.held_are (cell_named n) x are.0;
        }))),
    given_ends rest is.1 (then_made made) (λ text. (keeps text).1) lows ws are.1,
  )
  given_ends (an_actual kind e c v rest) is made keeps lows [] are = absurd are
  given_ends (an_actual kind e c v rest) is made keeps lows (x ∷ ws) are = (
    led_ends x
        (actual_on tree code texts nested actor part.instance e kind x
        (known_is sc w lay Reached part.instance s.stands.held s.stands.held_are (actual_held e kind) x are.0)),
    given_ends rest is.1 (then_made made) (λ text. (keeps text).1) lows ws are.1,
  )
  given_ends (a_name_cell kind c fits rest) is made keeps lows [] are = absurd are
  given_ends (a_name_cell kind c fits rest) is made keeps lows (x ∷ ws) are =
      (by_cell c (known_is sc w lay Reached part.instance s.stands.held s.stands.held_are (passed_held (wants.by_name kind) c) x are.0), given_ends rest is made keeps (λ i low. (lows i low).1) ws are.1)
    where
      by_cell : (d : Cell) → Denotes sc w lay Reached (wants.by_name kind) d x → NamesEnds x
      by_cell (cells.reference r) leads = led_ends x (variable_on tree code texts nested actor r kind x leads)
      by_cell (cells.named a) leads = led_ends x (actual_on tree code texts nested actor a.instance a.actual kind x leads)
      by_cell (cells.simple v) leads = absurd leads
      by_cell (cells.event d) leads = absurd leads
      by_cell (cells.array d) leads = absurd leads

  -- ---- the start

  module _ (n : Named) (gs : List Given) (task : Option Named) (asks : ask part.rest ≡ starts n gs task)
      (a : ActionAt (scopes_of tree) (context_in tree code texts w part s.stands.frame.gives) (text_in tree texts w part) (level_in tree w part) (most_in tree w part) (starts n gs task) s.stands.pc s.stands.slots) where
    abbrev callee : ℕ
    callee = a.0

    abbrev at : StartsAt sc context (text_in tree texts w part) level (most_in tree w part) n gs task callee s.stands.pc a.1 s.stands.slots a.2
    at = a.3

    abbrev given : Taken sc s.stands.held level own base (parameter_wants sc callee) gs (start_begun at.couple at.tasked a.2) core.words
    given = calling.given tree code texts actor n gs task callee a.1 a.2 at

    abbrev task_top : Top sc s.stands.held level own base at.tasked (reference at.couple ∷ intrinsic Start ∷ mark ∷ a.2) given.others
    task_top = calling.task_there tree code texts actor n gs task callee a.1 a.2 at

    abbrev procedure_top : Top sc s.stands.held level own base (reference at.couple) (intrinsic Start ∷ mark ∷ a.2) task_top.words_below
    procedure_top = calling.procedure_there tree code texts actor n gs task callee a.1 a.2 at

    start_top : Top sc s.stands.held level own base (intrinsic Start) (mark ∷ a.2) procedure_top.words_below
    start_top = top_slot sc s.stands.held level own base (intrinsic Start ∷ mark ∷ a.2) (intrinsic Start) (mark ∷ a.2) procedure_top.words_below procedure_top.are refl

    all_seen : AreNamedThere (BlockIsSeen sc block) n gs task
    all_seen = start_seen tree code texts actor n gs task asks

    made : IsComplete sc w lay part.instance ⊎ AreNamedThere (IsSeenAround sc block) n gs task
    made = start_made tree code texts actor n gs task asks

    around : Narrow → AreNamedThere (IsSeenAround sc block) n gs task
    around text = start_around tree code texts actor n gs task asks text

    lows : AllHeld (held_in_givens gs)
    lows i is_low =
        subst (λ (k : Ask). AskHolds (CellLow sc ((instance_at w i).block) i) k) asks
        (rest_asks (CellLow sc ((instance_at w i).block) i) part.rest
        (all_hold sc ((instance_at w i).block) i (held_in_rest part.rest) (is_low.parts p q part s.at (subst (λ (ps : List Part). IsAmongParts ps part) (sym s.todo) (inl refl))).holds))

    actuals_made : IsComplete sc w lay part.instance ⊎ Around gs
    actuals_made = by_text made
      where
        by_text : IsComplete sc w lay part.instance ⊎ AreNamedThere (IsSeenAround sc block) n gs task → IsComplete sc w lay part.instance ⊎ Around gs
        by_text (inl complete) = inl complete
        by_text (inr x) = inr x.1

    actuals_end : Each NamesEnds given.arguments
    actuals_end =
        subst (Each NamesEnds) (reverse-reverse given.arguments)
        (each_turned NamesEnds (reverse given.arguments)
        (given_ends (are_fit sc context (parameter_wants sc callee) gs at.fit) all_seen.1 actuals_made (λ text. (around text).1) lows (reverse given.arguments) given.actuals))

    known : names < 32
    known = omega (arith, runs_low tree code texts w lay p part outer core.below s.stands.frame, runs_deep (is_evaluation part.purpose) names)

    procedure_ends : NamesEnds procedure_top.word
    procedure_ends =
        let fits : (at.couple.level < 32) × (at.couple.index < 2 ^ 14) = procedure_fits sc nested names n callee at.couple at.procedure known in
        let c : Names tree code texts nested actor at.couple IsEntry =
        procedure_there tree code texts nested actor n callee at.couple all_seen.0 at.procedure in
        named_ends procedure_top.word (record { level = at.couple.level; index = at.couple.index }) c.home (ap as_irw procedure_top.slot_is ∙ reference_read at.couple fits.0 fits.1) c.shown
        (record { near = c.near; word = c.word; lies = c.lies; none = c.is.no_sirw })

    abbrev SlotThere : Slot → Word → Type 0
    SlotThere slot x = SlotIs sc s.stands.held level own base (reference at.couple ∷ intrinsic Start ∷ mark ∷ a.2) slot x

    task_made : IsComplete sc w lay part.instance ⊎ InName (IsSeenAround sc block) task
    task_made = by_text made
      where
        by_text : IsComplete sc w lay part.instance ⊎ AreNamedThere (IsSeenAround sc block) n gs task → IsComplete sc w lay part.instance ⊎ InName (IsSeenAround sc block) task
        by_text (inl complete) = inl complete
        by_text (inr x) = inr x.2

    task_ends : NamesEnds task_top.word
    task_ends = by_task task at.tasked at.task_is all_seen.2 task_made (λ text. (around text).2) task_top.word task_top.slot_is
      where
        by_task : (t : Option Named) (slot : Slot) → IsTask sc context t slot → InName (BlockIsSeen sc block) t → IsComplete sc w lay part.instance ⊎ InName (IsSeenAround sc block) t → (Narrow → InName (IsSeenAround sc block) t) →
            (x : Word) → SlotThere slot x → NamesEnds x
        by_task None slot is there in_bound keeps x slot_is = operand_ends x (value_tag (number (pos 0)) x (subst (λ (t : Slot). SlotThere t x) is slot_is))
        by_task (Some m) slot is there in_bound keeps x slot_is =
            let e : DirectEvent tree code texts nested actor is.0 = direct_event tree code texts nested actor m is.0 there in_bound keeps is.1 in
            named_ends x (record { level = is.0.level; index = is.0.index }) e.cell.frame
            (ap as_irw (subst (λ (t : Slot). SlotThere t x) is.2 slot_is) ∙ reference_read is.0 e.fits.0 e.fits.1) e.shown
            (subst (λ (k : ℕ). Ends (record { frame = e.cell.frame; index = k })) (sym e.index_is) (record { near = e.near; word = event_word (record {}); lies = e.lies; none = event_refers_nothing }))

    abbrev arguments : List Word
    arguments = given.arguments ++ task_top.word ∷ procedure_top.word ∷ []

    all_end : Each NamesEnds arguments
    all_end = each_both NamesEnds given.arguments (task_top.word ∷ procedure_top.word ∷ []) actuals_end (task_ends, (procedure_ends, tt))

    whole : core.words ≡ arguments ++ start_top.word ∷ start_top.words_below
    whole =
        given.is
        ∙ ap (λ (ws : List Word). given.arguments ++ ws) (task_top.is ∙ ap (λ (ws : List Word). task_top.word ∷ ws) (procedure_top.is ∙ ap (λ (ws : List Word). procedure_top.word ∷ ws) start_top.is))
        ∙ sym (append_assoc given.arguments (task_top.word ∷ procedure_top.word ∷ []) (start_top.word ∷ start_top.words_below))

    no_more : (b : MachineCell) (v : Word) (t : Sirw) → Ends b → word_at img.stacks (cell_place b) ≡ Some v → as_sirw v ≡ Some t → Ends (sirw_cell t)
    no_more b v t ends lies is = none_some (sym ends.none ∙ ap as_sirw (one_word p img core.registers (cell_place b) ends.word v ends.lies lies) ∙ is)

    pub starts_near : StandsNear code p img core.registers
    starts_near =
        let f : core.registers.f ≡ base + length a.2 =
        s.stands.there.mark_is ∙ ap (newest own base) at.lies ∙ given.mark_is ∙ calling.task_plain sc context task at.tasked at.task_is own base (reference at.couple ∷ intrinsic Start ∷ mark ∷ a.2) in
        let many : length start_top.words_below ≡ length (mark ∷ a.2) = slots_length sc s.stands.held level own base (mark ∷ a.2) start_top.words_below start_top.are in
        by_names tree code texts nested actor (ops.Plain kinds.Entr) a.1 at.stands
        (entry_names_above p img core.registers start_top.word
        (under_top img p core s.has arguments start_top.word start_top.words_below whole (core.registers.f + 1) (omega (arith, f, many)))
        (record { level = 0; index = intrinsic_number_of Start }) (ap as_irw start_top.slot_is ∙ reference_read (couple_of_intrinsic Start) (lit< tt) (numbers_small Start)) (place 0 0) s.sees
        (system_cell p img (record { frame = place 0 0; index = intrinsic_number_of Start }) refl) (intrinsic_pcw (intrinsic_number_of Start))
        (ap (λ (o : Option (List Word)). slice_get (words_or o) (0 + intrinsic_number_of Start)) s.by.system ∙ lies_there Start) (pcw_no_sirw Start) Ends
        (λ k u d after lies e.
        above_others NamesEnds core.below arguments (start_top.word ∷ start_top.words_below) all_end k u (omega (arith, f, many, after))
        (ap (λ (ws : List Word). slice_get ws k) (sym (words_are img p core s.has ∙ ap (λ (ws : List Word). core.below ++ reverse ws) whole)) ∙ lies) d e)
        no_more (λ d ends. ends.near))
