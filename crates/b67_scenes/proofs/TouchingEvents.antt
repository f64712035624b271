-- What the operators reach that do something with events, or make one.
use Rattle.std.proofs.Common.{◌≡◌, ◌⊎◌, inl, inr, refl, sym, ap, ◌∙◌, subst, ℕ, ◌+◌, List, [], ◌∷◌, ◌++◌, length, Option, Some, arith, lit<}
use Rattle.b67_list.proofs.Numbers.{none_some}
use Rattle.b67_scenes.proofs.Prelude.{slice_get, reverse, map, PProgram, Scopes, scopes_of, Named, Ask, ask, Word, as_irw, as_sirw, event_word, Registers, Sirw, intrinsic_number_of, couple_of_intrinsic, Couple, Intrinsic, Code, words_or, word_at, intrinsic_pcw, place, Image, frame, cell_place, sirw_cell, cell_of, AreNested, Texts, Slot, intrinsic, mark, slots_length, newest, SlotsAre, some_same, IsAsked, words_are, Top, top_slot, NearCell, StandsNear, reference_read, FindsEvent, directly, by_reference, AreFound, pcw_no_sirw}
use Rattle.algol_meaning.specs.Asks.{event_deed, makes_event}
use Rattle.b67_deeds.specs.Deeds.{EventDeed}
use Rattle.b67_ops.specs.declared.Operator.TheVariants as ops
use Rattle.b67_ops.specs.declared.PlainKind.TheVariants as kinds
use Rattle.b67_ops.specs.declared.intrinsic.Intrinsic.TheVariants.{Event}
use Rattle.b67_table.specs.declared.Cell.{Cell}
use Rattle.b67_table.specs.PrivateRows as rows
use Rattle.b67_ops.specs.Intrinsics.{intrinsic_of}
use Rattle.b67_standing.specs.Standing.{ActionAt}
use Rattle.b67_rows.proofs.Touching.{system_cell}
use Rattle.b67_rows.proofs.TouchingNames.{one_word, one_cell, entry_names_above}
use Rattle.b67_rows.proofs.Words.{event_refers_nothing}
use Rattle.b67_frames.proofs.TouchingCalls.{above_others, call_names, lies_there, under_top}
use Rattle.b67_frames.proofs.TouchingWords.{numbers_small}
use Rattle.b67_scenes.proofs.EventHomes.{IsNearWay}
use Rattle.b67_scenes.proofs.Scene.{Actor}
use Rattle.b67_scenes.proofs.Staying.{text_in, level_in, context_in, most_in}
use Rattle.b67_scenes.proofs.TouchingScene.{by_names}
use Rattle.b67_scenes.proofs.SeveralHomes.{AreNearWays, Referred, referred, OnSeveral, on_several}
use Rattle.b67_footprints.proofs.Lists.{Each, each_map, each_turned}

-- ---- the cells to which the references of events lead

-- it is one of these words
abbrev IsOneWord : List Word → Word → Type 0
IsOneWord [] u = ⊥
IsOneWord (w ∷ ws) u = (w ≡ u) ⊎ IsOneWord ws u

each_one : (ws : List Word) → Each (IsOneWord ws) ws
each_one [] = tt
each_one (w ∷ ws) = (inl refl, each_map (IsOneWord ws) (IsOneWord (w ∷ ws)) (λ u one. inr one) ws (each_one ws))

module _ (p : ℕ) (img : Image) (r : Registers) where
  -- the cell of a parameter, or that of the event
  abbrev IsOnWay : {word : Word} {c : Cell} → FindsEvent img p r word c → Cell → Type 0
  IsOnWay {word} {c} (directly level names shows event_lies) d = d ≡ c
  IsOnWay {word} {c} (by_reference level index at first names shows lies_first refers event_lies) d = (d ≡ record { frame = at; index = index }) ⊎ (d ≡ c)

  -- the word of the event leads no further
  ends : (c : Cell) (v : Word) (s : Sirw) → word_at img.stacks (cell_place c) ≡ Some (event_word (record {})) → word_at img.stacks (cell_place c) ≡ Some v → as_sirw v ≡ Some s → ⊥
  ends c v s e f is = none_some (sym event_refers_nothing ∙ ap as_sirw (one_word p img r (cell_place c) (event_word (record {})) v e f) ∙ is)

  first_way : (word : Word) (c : Cell) (way : FindsEvent img p r word c) (d : Cell) → cell_of r word ≡ Some d → IsOnWay way d
  first_way word c (directly level names shows event_lies) d e = one_cell p img r word (record { level = level; index = c.index }) c.frame names shows d e
  first_way word c (by_reference level index at first names shows lies_first refers event_lies) d e = inl (one_cell p img r word (record { level = level; index = index }) at names shows d e)

  further_way : (word : Word) (c : Cell) (way : FindsEvent img p r word c) (b : Cell) (v : Word) (s : Sirw) → IsOnWay way b → word_at img.stacks (cell_place b) ≡ Some v → as_sirw v ≡ Some s → IsOnWay way (sirw_cell s)
  further_way word c (directly level names shows event_lies) b v s same at is =
      absurd (ends c v s event_lies (subst (λ (d : Cell). word_at img.stacks (cell_place d) ≡ Some v) same at) is)
  further_way word c (by_reference level index at first names shows lies_first refers event_lies) b v s (inl same) lies_there is =
      let first_is : first ≡ v = one_word p img r (place at.stack (at.at + index)) first v lies_first (subst (λ (d : Cell). word_at img.stacks (cell_place d) ≡ Some v) same lies_there) in
      inr (ap sirw_cell (some_same (sym is ∙ ap as_sirw (sym first_is) ∙ refers)))
  further_way word c (by_reference level index at first names shows lies_first refers event_lies) b v s (inr same) lies_there is =
      absurd (ends c v s event_lies (subst (λ (d : Cell). word_at img.stacks (cell_place d) ≡ Some v) same lies_there) is)

  near_way : (word : Word) (c : Cell) (way : FindsEvent img p r word c) → IsNearWay p img r way → (d : Cell) → IsOnWay way d → NearCell p img d
  near_way word c (directly level names shows event_lies) near d same = subst (NearCell p img) (sym same) near
  near_way word c (by_reference level index at first names shows lies_first refers event_lies) near d (inl same) = subst (NearCell p img) (sym same) near.0
  near_way word c (by_reference level index at first names shows lies_first refers event_lies) near d (inr same) = subst (NearCell p img) (sym same) near.1

  -- .. of one of these events
  abbrev IsOnWays : (ws : List Word) (cs : List Cell) → AreFound img p r ws cs → Cell → Type 0
  IsOnWays [] [] found d = ⊥
  IsOnWays [] (c ∷ cs) found d = ⊥
  IsOnWays (w ∷ ws) [] found d = ⊥
  IsOnWays (w ∷ ws) (c ∷ cs) found d = IsOnWay found.0 d ⊎ IsOnWays ws cs found.2 d

  first_ways : (ws : List Word) (cs : List Cell) (found : AreFound img p r ws cs) (u : Word) (d : Cell) → IsOneWord ws u → cell_of r u ≡ Some d → IsOnWays ws cs found d
  first_ways [] [] found u d one e = one
  first_ways [] (c ∷ cs) found u d one e = one
  first_ways (w ∷ ws) [] found u d one e = found
  first_ways (w ∷ ws) (c ∷ cs) found u d (inl same) e = inl (first_way w c found.0 d (ap (cell_of r) same ∙ e))
  first_ways (w ∷ ws) (c ∷ cs) found u d (inr one) e = inr (first_ways ws cs found.2 u d one e)

  further_ways : (ws : List Word) (cs : List Cell) (found : AreFound img p r ws cs) (b : Cell) (v : Word) (s : Sirw) → IsOnWays ws cs found b → word_at img.stacks (cell_place b) ≡ Some v → as_sirw v ≡ Some s → IsOnWays ws cs found (sirw_cell s)
  further_ways [] [] found b v s on at is = on
  further_ways [] (c ∷ cs) found b v s on at is = on
  further_ways (w ∷ ws) [] found b v s on at is = on
  further_ways (w ∷ ws) (c ∷ cs) found b v s (inl on) at is = inl (further_way w c found.0 b v s on at is)
  further_ways (w ∷ ws) (c ∷ cs) found b v s (inr on) at is = inr (further_ways ws cs found.2 b v s on at is)

  near_ways : (ws : List Word) (cs : List Cell) (found : AreFound img p r ws cs) → AreNearWays p img r ws cs found → (d : Cell) → IsOnWays ws cs found d → NearCell p img d
  near_ways [] [] found near d on = absurd on
  near_ways [] (c ∷ cs) found near d on = absurd on
  near_ways (w ∷ ws) [] found near d on = absurd on
  near_ways (w ∷ ws) (c ∷ cs) found near d (inl on) = near_way w c found.0 near.0 d on
  near_ways (w ∷ ws) (c ∷ cs) found near d (inr on) = near_ways ws cs found.2 near.1 d on

-- ---- where a process stands at it

module _ (tree : PProgram) (code : Code) (texts : Texts) (nested : AreNested (scopes_of tree))
    (actor : Actor tree code texts) where
  open actor use {w, img, p, part, core, s}

  abbrev sc : Scopes
  sc = scopes_of tree

  abbrev level : ℕ
  level = level_in tree w part

  abbrev home : ℕ
  home = frame core.registers

  abbrev base : ℕ
  base = length core.below

  abbrev At : Ask → Type 0
  At k = ActionAt sc (context_in tree code texts w part s.stands.frame.gives) (text_in tree texts w part) level (most_in tree w part) k s.stands.pc s.stands.slots

  -- an intrinsic with the references of events
  pub deed_near : (x : EventDeed) (ns : List Named) → ask part.rest ≡ event_deed x ns → At (event_deed x ns) → StandsNear code p img core.registers
  deed_near x ns asks a =
      let name : Intrinsic = intrinsic_of x in
      let cs : List Couple = a.2.couples in
      let words : List Word = map rows.reference cs in
      let on : OnSeveral tree code texts nested actor ns cs =
      on_several tree code texts nested actor ns cs (λ n is. subst (λ (k : Ask). IsAsked k n) (sym asks) is) a.2.are_events in
      let g : Referred sc s.stands.held level home base cs (intrinsic name ∷ mark ∷ a.1) core.words =
      referred sc s.stands.held level home base cs (intrinsic name ∷ mark ∷ a.1) core.words (subst (λ (l : List Slot). SlotsAre sc s.stands.held level home base l core.words) a.2.lies s.stands.there.words_are) in
      let i : Top sc s.stands.held level home base (intrinsic name) (mark ∷ a.1) g.lying.others =
      top_slot sc s.stands.held level home base (intrinsic name ∷ mark ∷ a.1) (intrinsic name) (mark ∷ a.1) g.lying.others g.lying.are refl in
      let f : core.registers.f ≡ base + length a.1 = s.stands.there.mark_is ∙ ap (newest home base) a.2.lies ∙ g.lying.mark_is in
      let many : length i.words_below ≡ length (mark ∷ a.1) = slots_length sc s.stands.held level home base (mark ∷ a.1) i.words_below i.are in
      let whole : core.words ≡ g.lying.arguments ++ i.word ∷ i.words_below = g.lying.is ∙ ap (λ (ws : List Word). g.lying.arguments ++ ws) i.is in
      by_names tree code texts nested actor (ops.Plain kinds.Entr) a.0 a.2.stands
      (entry_names_above p img core.registers i.word (under_top img p core s.has g.lying.arguments i.word i.words_below whole (core.registers.f + 1) (omega (arith, f, many)))
      (record { level = 0; index = intrinsic_number_of name }) (ap as_irw i.slot_is ∙ reference_read (couple_of_intrinsic name) (lit< tt) (numbers_small name)) (place 0 0) s.sees
      (system_cell p img (record { frame = place 0 0; index = intrinsic_number_of name }) refl) (intrinsic_pcw (intrinsic_number_of name))
      (ap (λ (o : Option (List Word)). slice_get (words_or o) (0 + intrinsic_number_of name)) s.by.system ∙ lies_there name) (pcw_no_sirw name) (IsOnWays p img core.registers words on.cells on.reach)
      (λ k u d after lies e.
      first_ways p img core.registers words on.cells on.reach u d
      (above_others (IsOneWord words) core.below g.lying.arguments (i.word ∷ i.words_below)
      (subst (λ (ws : List Word). Each (IsOneWord words) ws) (sym g.words_are) (each_turned (IsOneWord words) words (each_one words))) k u (omega (arith, f, many, after))
      (ap (λ (ws : List Word). slice_get ws k) (sym (words_are img p core s.has ∙ ap (λ (ws : List Word). core.below ++ reverse ws) whole)) ∙ lies)) e)
      (further_ways p img core.registers words on.cells on.reach) (near_ways p img core.registers words on.cells on.reach on.near))

  pub event_made_near : (n : Named) → At (makes_event n) → StandsNear code p img core.registers
  event_made_near n a =
      by_names tree code texts nested actor (ops.Plain kinds.Entr) a.1.made a.1.stands
      (call_names img p core s.has s.by.system s.sees sc s.stands.held level home s.stands.slots s.stands.there.mark_is s.stands.there.words_are Event [] [] a.1.lies)
