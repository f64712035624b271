-- No operator of a pictured image reads or writes a word in the private part of another process.
use Rattle.std.proofs.Common.{◌≡◌, ◌⊎◌, inl, inr, refl, sym, ap, ◌∙◌, subst, ℕ, ◌+◌, ◌-◌, ◌<◌, ◌≤◌, List, [], ◌∷◌, length, Some, None, Bool, true, false, arith, ◌^◌, ◌++◌}
use Rattle.b67_list.proofs.Numbers.{none_some}
use Rattle.b67_pictures.proofs.Prelude.{if◌then◌else◌, pos, numbered, PProgram, PStmts, PDecls, Scopes, scopes_of, Spot, Kind, Named, PhraseText, Ask, nothing, reads, reads_element, indexes, enters, passes, resolves, reads_result, leaves, stores, selects, turns, goes_to, enters_block, starts, writes, makes_arrays, makes_event, ask, event_deed, is_evaluation, own, there, element_of, Given, done, value, cell, Value, Reference, number, Process, World, instance_at, BlockIsSeen, IsSeenAround, IsInner, IsOk, IsWholeInstance, Word, Place, as_pcw_pcw_word, as_sirw_other, irw_laws, as_irw, as_sirw, as_pcw, pcw_word, Pcw, Registers, Brun, Couple, Operator, Intrinsic, Placed, Code, word_at, place, Image, display_at, frame, level_below, Lives, OperatorTouches, IsPrivate, Wanted, parameter_wants, IsRead, of_variable, of_formal, stmts_count, Context, Has, operator_for, code_at, AreNested, Texts, RestsGoOn, ActionAt, CodeGoesOn, given_slots, operands, Slot, control, intrinsic, mark, operand, reference, slots_length, Core, HasCore, CoreStep, CoreSteps, onward, newest, SlotIs, SlotsAre, some_same, reads_seen, stores_seen, enters_seen, AreFit, none_wanted, are_fit, Taken, Top, top_slot, cell_named, StandsNear, no_sirw, reference_read, result_given, asks_as_own, frame_gives, runs_low, runs_deep, under_top, over_top, call_names, procedure_fits, Layout, Found, NameCellHome, NameStands, LeadsOn, leads_on, name_stands, scene_of, shown_frame, Actor, actor_of, text_in, level_in, context_in, most_in, names_in, IsEntry, Names, procedure_there, by_names, narrow_of, Living, PicturesBy, NobodyDepends}
use Rattle.std.specs.Prelude.{nat_le}
use Rattle.algol_tree.specs.Plain as tree_forms
use Rattle.algol_meaning.specs.Rest.{Place as FoundPlace, place as at_place, entered}
use Rattle.algol_meaning.specs.Asks.{fails}
use Rattle.b67_ops.specs.declared.Operator.TheVariants as ops
use Rattle.b67_ops.specs.declared.PlainKind.TheVariants as kinds
use Rattle.b67_ops.specs.declared.intrinsic.Intrinsic.TheVariants as names
use Rattle.b67_cores.specs.Cores.{here}
use Rattle.b67_footprints.specs.Laws.{LeadsBelow}
use Rattle.b67_footprints.proofs.Apart.{others_stay_private}
use Rattle.b67_rows.proofs.GivenWords.{taken_words}
use Rattle.b67_rows.proofs.Words.{pcw_kind}
use Rattle.b67_rows.proofs.Touching.{NearFrame, own_frame, NamesNear}
use Rattle.b67_rows.proofs.TouchingOperators.{privately, near_reaches, operator_private}
use Rattle.b67_rows.proofs.TouchingNames.{value_names, value_names_through, through_named, none_named, branch_names, refers_named, no_kind, block_names, entry_names}
use Rattle.b67_frames.proofs.TouchingWords.{couple_fits}
use Rattle.b67_rows.proofs.Touching.{IsNearStack}
use Rattle.b67_rows.proofs.TouchingOperators.{stands_touches}
use Rattle.b67_scenes.proofs.Finding.{frame_near, place_near}
use Rattle.b67_scenes.proofs.NameHomes.{home_of_name}
use Rattle.b67_scenes.proofs.TouchingOthers.{LivesThere, lives_there, own_stacks}
use Rattle.b67_scenes.proofs.TouchingCells.{IsOperand, variable_there, result_there}
use Rattle.b67_scenes.proofs.TouchingEvents.{event_made_near, deed_near}
use Rattle.b67_scenes.proofs.TouchingScene.{by_class}
use Rattle.b67_pictures.proofs.Resolving.{FindsName, finds_name, resolved_name}
use Rattle.b67_pictures.proofs.StoringThere.{FindsVariable, finds_variable}
use Rattle.b67_pictures.proofs.TouchingStarts.{starts_near}
use Rattle.b67_pictures.proofs.TouchingElements.{element_read_near, indexed_near, element_stored_near, passed_near, made_near}

-- ---- a process at its action

module _ (tree : PProgram) (code : Code) (texts : Texts) (nested : AreNested (scopes_of tree)) (rests : RestsGoOn) where
  abbrev sc : Scopes
  sc = scopes_of tree

  module _ (actor : Actor tree code texts) where
    open actor use {w, lay, img, p, part, outer, core, s}

    abbrev r : Registers
    r = core.registers

    abbrev Comes : Type 0
    Comes = StandsNear code p img core.registers

    abbrev level : ℕ
    level = level_in tree w part

    abbrev named_level : ℕ
    named_level = names_in tree w part

    abbrev context : Context
    context = context_in tree code texts w part s.stands.frame.gives

    abbrev text : List Placed
    text = text_in tree texts w part

    abbrev block : ℕ
    block = (instance_at w part.instance).block

    abbrev At : Ask → Type 0
    At k = ActionAt sc context text level (most_in tree w part) k s.stands.pc s.stands.slots

    -- an operand, or the control word of a procedure, in a cell that a couple names
    abbrev InCell : Couple → (Word → Type 0) → Type 0
    InCell couple Is = Names tree code texts nested actor couple Is

    known : named_level < 32
    known = omega (arith, runs_low tree code texts w lay p part outer core.below s.stands.frame, runs_deep (is_evaluation part.purpose) named_level)

    by_op : (op : Operator) (next : ℕ) → Has text level s.stands.pc op next → NamesNear p img op r → Comes
    by_op = by_names tree code texts nested actor

    -- ---- cells

    -- what the display names in its own stack
    shown_near : (at l : ℕ) → display_at r l ≡ Some (place p at) → (f : Place) → display_at r l ≡ Some f → NearFrame p img f
    shown_near at l shown f e = own_frame p img f (ap (λ (y : Place). y.stack) (some_same (sym e ∙ shown)))

    operand_near : (couple : Couple) (next : ℕ) → Has text level s.stands.pc (ops.Valc couple) next → InCell couple IsOperand → Comes
    operand_near couple next has_it c = by_op (ops.Valc couple) next has_it (value_names p img r couple c.home c.shown c.near c.word c.lies (no_sirw c.word c.is))

    -- ---- actions

    abbrev IsNamedThere : Named → Kind → Couple → Type 0
    IsNamedThere n kind couple = NameStands tree code texts nested actor n kind couple

    -- the cell of a parameter by name, and the cell to which its word refers
    abbrev CellOf : (n : Named) (kind : Kind) (couple : Couple) → IsNamedThere n kind couple → NameCellHome tree code texts nested actor n kind couple
    CellOf n kind couple x = home_of_name tree code texts nested actor n kind couple x

    way : (n : Named) (kind : Kind) (couple : Couple) (x : IsNamedThere n kind couple) → LeadsOn tree code texts nested actor (CellOf n kind couple x).word
    way n kind couple x = leads_on tree code texts nested actor n kind couple x

    -- it leads to one that is near
    name_near : (n : Named) (kind : Kind) (couple : Couple) (next : ℕ) → Has text level s.stands.pc (ops.Valc couple) next → IsNamedThere n kind couple → Comes
    name_near n kind couple next has_it x =
        let h : NameCellHome tree code texts nested actor n kind couple = CellOf n kind couple x in
        let t : LeadsOn tree code texts nested actor (CellOf n kind couple x).word = way n kind couple x in
        by_op (ops.Valc couple) next has_it
        (value_names_through p img r couple h.at h.shown h.near h.word h.lies
        (record { stack = (t.at).stack; displacement = (t.at).at; index = t.index }) t.refers t.near t.reached t.lies t.no_further)

    read_near : (n : Named) → ask part.rest ≡ reads n → At (reads n) → Comes
    read_near n e a =
        let seen : BlockIsSeen sc block n = reads_seen (BlockIsSeen sc block) n (IsInner sc block) (IsSeenAround sc block) (λ (seen : IsSeenAround sc block n). seen.0) part.rest e s.stands.frame.text in
        by_read seen a.2.1
      where
        by_read : BlockIsSeen sc block n → IsRead sc named_level n a.0 a.2.0 → Comes
        by_read seen (of_variable v) = operand_near a.2.0 a.1 a.2.2 (variable_there tree code texts nested actor n a.0 a.2.0 seen v)
        by_read seen (of_formal v) = name_near n a.0 a.2.0 a.1 a.2.2 (name_stands tree code texts nested actor n a.0 a.2.0 seen v)

    result_near : (name : List ℕ) → ask part.rest ≡ reads_result name → At (reads_result name) → Comes
    result_near name e a =
        let owns : is_evaluation part.purpose ≡ false = asks_as_own tree code texts w lay p part outer core.below s.stands.frame (reads_result name) e (λ k. k) in
        operand_near a.0.couple a.0.valued a.0.read
        (result_there tree code texts nested actor owns a.0.kind (result_given _ a.0.kind (sym (frame_gives tree code texts w lay p part outer core.below s.stands.frame owns) ∙ a.0.is))
        a.0.couple a.0.level_is a.0.index_is)

    stored_near : (n : Named) (v : Value) → ask part.rest ≡ stores (own n) v → At (stores (own n) v) → Comes
    stored_near n v e a =
        let seen : BlockIsSeen sc block n = stores_seen (BlockIsSeen sc block) n (IsInner sc block) (IsSeenAround sc block) (λ (seen : IsSeenAround sc block n). seen.0) part.rest v e s.stands.frame.text in
        let couple : Couple = a.2.couple in
        let first : Top sc s.stands.held level (frame r) (length core.below) (operand v) (reference couple ∷ a.1) core.words =
        top_slot sc s.stands.held level (frame r) (length core.below) s.stands.slots (operand v) (reference couple ∷ a.1) core.words s.stands.there.words_are a.2.lies in
        let second : Top sc s.stands.held level (frame r) (length core.below) (reference couple) a.1 first.words_below =
        top_slot sc s.stands.held level (frame r) (length core.below) (reference couple ∷ a.1) (reference couple) a.1 first.words_below first.are refl in
        let fits : (couple.level < 32) × (couple.index < 2 ^ 14) = couple_fits sc nested named_level n a.2.kind couple a.2.variable known in
        let top : core.words ≡ (first.word ∷ []) ++ second.word ∷ second.words_below = first.is ∙ ap (λ (ws : List Word). first.word ∷ ws) second.is in
        let c : InCell couple IsOperand = variable_there tree code texts nested actor n a.2.kind couple seen a.2.variable in
        by_op (ops.Plain kinds.Stod) a.0 a.2.stands
        (cell_named p img r kinds.Stod (λ f. cc) (r.s - 2) (λ m f. f) second.word
        (under_top img p core s.has (first.word ∷ []) second.word second.words_below top (r.s - 2) (omega (arith, s.has.is.top, ap length top))) (λ follows. follows)
        (record { level = couple.level; index = couple.index }) c.home (ap as_irw second.slot_is ∙ reference_read couple fits.0 fits.1) c.shown c.near)

    resolved_near : (n : Named) → ask part.rest ≡ resolves n → At (resolves n) → Comes
    resolved_near n e a =
        let x : IsNamedThere n a.0 a.3.couple = resolved_name tree code texts nested actor n e a.0 a.1 a.2 a.3 in
        let h : NameCellHome tree code texts nested actor n a.0 a.3.couple = CellOf n a.0 a.3.couple x in
        let t : LeadsOn tree code texts nested actor (CellOf n a.0 a.3.couple x).word = way n a.0 a.3.couple x in
        let f : FindsName tree code texts nested actor n e a.0 a.1 a.2 a.3 = finds_name tree code texts nested actor n e a.0 a.1 a.2 a.3 h in
        by_op (ops.Plain kinds.Eval) a.1 a.3.stands
        (through_named p img r kinds.Eval (λ g. cc) (r.s - 1) (λ m g. g) f.top.word (over_top img p core s.has f.top.word f.top.words_below f.top.is)
        (record { level = a.3.couple.level; index = a.3.couple.index }) h.at h.word (record { stack = (t.at).stack; displacement = (t.at).at; index = t.index }) t.reached f.names h.shown
        h.near h.lies t.refers t.near t.lies t.no_further)

    there_near : (x : Reference) (v : Value) → At (stores (there x) v) → Comes
    there_near x v a =
        let f : FindsVariable tree code texts nested actor x a.2.kind v a.1 =
        finds_variable tree code texts nested actor x a.2.kind v a.1 a.2.lies in
        let top : core.words ≡ (f.first.word ∷ []) ++ f.second.word ∷ f.second.words_below = f.first.is ∙ ap (λ (ws : List Word). f.first.word ∷ ws) f.second.is in
        let found : Found tree code texts w lay img x.instance = f.named.home.seen_there.found in
        let high : ℕ = length found.lies.frame.lower in
        by_op (ops.Plain kinds.Stod) a.0 a.2.stands
        (refers_named p img r kinds.Stod (λ g. cc) (r.s - 2) (λ m g. g) f.second.word
        (under_top img p core s.has (f.first.word ∷ []) f.second.word f.second.words_below top (r.s - 2) (omega (arith, s.has.is.top, ap length top))) (λ follows. follows)
        (record { stack = found.number; displacement = high; index = 2 + f.named.home.number }) f.named.reads (
          frame_near tree code texts w lay img x.instance found p f.named.home.seen_there.near,
          place_near tree code texts w lay img x.instance found p (high + (2 + f.named.home.number)) f.named.home.seen_there.near f.named.home.below,
        ))

    left_near : At (leaves done) → Comes
    left_near a = by_op (ops.Plain kinds.Exit) a.0 a.2 (none_named p img r kinds.Exit (λ e. cc) (λ n takes. takes))

    given_near : (v : Value) → At (leaves (value v)) → Comes
    given_near v a = by_op (ops.Plain kinds.Retn) a.1 a.4 (none_named p img r kinds.Retn (λ e. cc) (λ n takes. takes))

    giving_near : (x : FoundPlace) → At (leaves (at_place x)) → Comes
    giving_near x a = by_op (ops.Plain kinds.Retn) a.1 a.4 (none_named p img r kinds.Retn (λ e. cc) (λ n takes. takes))

    called : (name : Intrinsic) (vs : List Value) (below : List Slot) → s.stands.slots ≡ operands vs (intrinsic name ∷ mark ∷ below) → NamesNear p img (ops.Plain kinds.Entr) r
    called name vs below lies =
        call_names img p core s.has s.by.system s.sees sc s.stands.held level (frame r) s.stands.slots s.stands.there.mark_is s.stands.there.words_are name vs below lies

    written_near : (phrases : List PhraseText) (vs : List Value) → At (writes phrases vs) → Comes
    written_near phrases vs a = by_op (ops.Plain kinds.Entr) a.0 a.2.stands (called names.Write (number (pos a.2.format) ∷ vs) a.1 a.2.lies)

    selected_near : (v : Value) (ss : PStmts) → At (selects v ss) → Comes
    selected_near v ss a =
        by_op (ops.Plain kinds.Entr) a.0 a.2.stands (called names.Select (v ∷ number (pos (stmts_count ss)) ∷ number (pos a.0) ∷ []) a.1 a.2.lies)

    gone_near : (n : Named) → At (goes_to n) → Comes
    gone_near n a =
        by_op (ops.Plain kinds.Entr) a.0 a.2.stands (called names.GoTo (number (pos a.2.target) ∷ number (pos a.2.segment) ∷ number (pos a.2.entry) ∷ []) a.1 a.2.lies)

    -- the word above the mark, under the words of actuals
    above_mark : (wanted : List Wanted) (gs : List Given) → AreFit sc context wanted gs → (slot : Slot) (below : List Slot) → s.stands.slots ≡ given_slots wanted gs (slot ∷ mark ∷ below) →
        newest (frame r) (length core.below) (slot ∷ mark ∷ below) ≡ length core.below + length below →
        (y : Word) × SlotIs sc s.stands.held level (frame r) (length core.below) (mark ∷ below) slot y × (word_at img.stacks (place r.stack (r.f + 1)) ≡ Some y)
    above_mark wanted gs fit slot below lies marks =
        let base : ℕ = length core.below in
        let g : Taken sc s.stands.held level (frame r) base wanted gs (slot ∷ mark ∷ below) core.words =
        taken_words sc s.stands.held level (frame r) base context fit (slot ∷ mark ∷ below) core.words (subst (λ (l : List Slot). SlotsAre sc s.stands.held level (frame r) base l core.words) lies s.stands.there.words_are) in
        let first : Top sc s.stands.held level (frame r) base slot (mark ∷ below) g.others = top_slot sc s.stands.held level (frame r) base (slot ∷ mark ∷ below) slot (mark ∷ below) g.others g.are refl in
        let many : length first.words_below ≡ length (mark ∷ below) = slots_length sc s.stands.held level (frame r) base (mark ∷ below) first.words_below first.are in
        let f : r.f ≡ base + length below = s.stands.there.mark_is ∙ ap (newest (frame r) base) lies ∙ g.mark_is ∙ marks in
        (first.word, first.slot_is, under_top img p core s.has g.arguments first.word first.words_below (g.is ∙ ap (λ (ws : List Word). g.arguments ++ ws) first.is) (r.f + 1) (omega (arith, f, many)))

    -- the level around a block is that of the part's own frame
    home_near : (h : Place) → level_below r (level + 1) ≡ Some h → NearFrame p img h
    home_near h e = by_test (nat_le 1 (level + 1)) e
      where
        same : level + 1 - 1 ≡ r.ll
        same = omega (arith, s.stands.there.level_is)

        by_test : (b : Bool) → (if b then display_at r (level + 1 - 1) else None) ≡ Some h → NearFrame p img h
        by_test true f =
            shown_near (length s.stands.frame.lower) (level + 1 - 1) (ap (λ (l : ℕ). display_at r l) same ∙ shown_frame tree code texts actor) h f
        by_test false f = none_some f

    block_near : (spot : Spot) (ds : PDecls) (ss : PStmts) → At (enters_block (tree_forms.body spot ds ss)) → Comes
    block_near spot ds ss a =
        let c : Pcw = code_at context.segment a.2.begin (level + 1) in
        let above = above_mark [] [] none_wanted (control c) a.1 a.2.lies refl in
        by_op (ops.Plain kinds.Entr) a.0 a.2.stands
        (block_names p img r above.0 above.2
        (ap as_irw above.1 ∙ irw_laws.other (pcw_word c) (λ k. let is = sym (pcw_kind c) ∙ k in cc))
        (ap as_sirw above.1 ∙ as_sirw_other (pcw_word c) (λ k. let is = sym (pcw_kind c) ∙ k in cc)) c
        (ap as_pcw above.1 ∙ as_pcw_pcw_word c a.2.fits) refl home_near)

    called_near : (n : Named) (gs : List Given) → ask part.rest ≡ enters n gs → At (enters n gs) → Comes
    called_near n gs e a =
        let seen : BlockIsSeen sc block n = (enters_seen (BlockIsSeen sc block) n gs (IsInner sc block) (IsSeenAround sc block) (λ m (seen : IsSeenAround sc block m). seen.0) part.rest e s.stands.frame.text).0 in
        let couple : Couple = a.3.couple in
        let fits : (couple.level < 32) × (couple.index < 2 ^ 14) = procedure_fits sc nested named_level n a.0 couple a.3.procedure known in
        let above = above_mark (parameter_wants sc a.0) gs (are_fit sc context (parameter_wants sc a.0) gs a.3.fit) (reference couple) a.2 a.3.lies refl in
        let c : InCell couple IsEntry = procedure_there tree code texts nested actor n a.0 couple seen a.3.procedure in
        by_op (ops.Plain kinds.Entr) a.1 a.3.stands
        (entry_names p img r above.0 above.2 (record { level = couple.level; index = couple.index }) (ap as_irw above.1 ∙ reference_read couple fits.0 fits.1) c.home c.shown c.near
        c.word c.lies c.is.no_sirw (λ kind n u d after there names. no_kind p img r above.0 above.2 c.word c.is.control c.is.reads c.is.no_intrinsic kind))

    by_ask : (k : Ask) → ask part.rest ≡ k → At k → Comes
    by_ask (reads n) e a = read_near n e a
    by_ask (fails fault) e a =
        by_class tree code texts nested actor (ops.Plain (operator_for a.0)) a.3 a.5.stands (operator_private a.0 r.place)
    by_ask (stores (own n) v) e a = stored_near n v e a
    by_ask turns e a =
        by_op (ops.Branch Brun a.0) a.1 a.2.stands (branch_names p img r Brun a.0)
    by_ask (writes phrases vs) e a = written_near phrases vs a
    by_ask (selects v ss) e a = selected_near v ss a
    by_ask (leaves done) e a = left_near a
    by_ask (leaves (value v)) e a = given_near v a
    by_ask (enters_block (tree_forms.body spot ds ss)) e a = block_near spot ds ss a
    by_ask (enters n gs) e a = called_near n gs e a
    by_ask (reads_result name) e a = result_near name e a
    by_ask (leaves (cell c)) e a = absurd a
    by_ask (leaves (at_place y)) e a = giving_near y a
    by_ask (leaves entered) e a = absurd a
    by_ask (stores (there y) v) e a = there_near y v a
    by_ask (stores (element_of y ks) v) e a = element_stored_near tree code texts nested actor y ks v a
    by_ask nothing e a = absurd a
    by_ask (reads_element n ks v) e a = element_read_near tree code texts nested actor n ks v e a
    by_ask (indexes n ks v) e a = indexed_near tree code texts nested actor n ks v e a
    by_ask (passes n) e a = passed_near tree code texts nested actor n e a
    by_ask (resolves n) e a = resolved_near n e a
    by_ask (goes_to n) e a = gone_near n a
    by_ask (starts n gs task) e a = starts_near tree code texts nested actor n gs task e a
    by_ask (event_deed y ns) e a = deed_near tree code texts nested actor y ns e a
    by_ask (makes_arrays kind ns pairs vs) e a = made_near tree code texts nested actor kind ns pairs vs a
    by_ask (makes_event n) e a = event_made_near tree code texts nested actor n a

    pub standing_near : Comes
    standing_near =
        let on : CodeGoesOn sc context text level (most_in tree w part) part.rest s.stands.pc s.stands.slots =
        rests sc context text level (most_in tree w part) part.rest s.stands.pc s.stands.slots s.stands.stands s.stands.asks in
        by_ask (ask part.rest) refl on.action

  -- ---- a process that lives

  module _ (w : World) (lay : Layout) (img : Image) (by : PicturesBy tree code texts w lay img) (ok : IsOk (scopes_of tree) IsWholeInstance w) where
    operator_near : (p : ℕ) (q : Process) → numbered w.processes p ≡ Some q → (l : Living tree code texts w lay img p q) → StandsNear code p img l.core.registers
    operator_near p q at l = by_steps l.steps refl refl
      where
        settled_near : l.core ≡ l.settled → StandsNear code p img l.core.registers
        settled_near same =
            let found = scene_of tree code texts w lay img p q (narrow_of tree code texts w lay img by ok p q at) ok by at l (subst (λ (c : Core). HasCore img p c) same l.has) in
            subst (λ (c : Core). StandsNear code p img c.registers) (sym same) (standing_near (actor_of found.2))

        step_near : (c b : Core) → c ≡ l.core → CoreStep code c b → StandsNear code p img l.core.registers
        step_near c b same step = subst (λ (d : Core). StandsNear code p img d.registers) same (privately step.op step.next step.stands step.private)

        by_steps : {n : ℕ} {c d : Core} → CoreSteps code l.bound n c d → c ≡ l.core → d ≡ l.settled → StandsNear code p img l.core.registers
        by_steps (here fits) f g = settled_near (sym f ∙ g)
        by_steps (onward {a = c} {b = b} fits step more) f g = step_near c b f step

    -- where a process is led, it is led below floors
    pub leads_below : (p : ℕ) → LeadsBelow code img p
    leads_below p o op next lives stands is_action =
        let t : LivesThere tree code texts w lay img by p o = lives_there tree code texts w lay img by p o lives in
        near_reaches code p img o (own_stacks tree code texts w lay img by)
        (subst (λ (k : Registers). StandsNear code p img k) (sym t.has) (operator_near p t.process t.is t.living_is)) op next stands is_action

    -- an operator of a process touches no other's stack on which nobody depends
    touches_own : (p q : ℕ) (r : Registers) (x : Place) → Lives img p r → NobodyDepends img r.stack → OperatorTouches code img q x → x.stack ≡ r.stack → q ≡ p
    touches_own p q r x lives nobody t same =
        let other : LivesThere tree code texts w lay img by q t.registers = lives_there tree code texts w lay img by q t.registers t.lives in
        by_stack (stands_touches code q img other.living_is.core.registers (own_stacks tree code texts w lay img by) (operator_near q other.process other.is other.living_is) x t other.has)
      where
        own : (r.stack ≡ p) × (p ≤ img.started)
        own = own_stacks tree code texts w lay img by p r lives

        by_stack : (IsNearStack q img x.stack ⊎ (x.stack ≡ 0)) ⊎ (x.stack ≡ img.started + 1) → q ≡ p
        by_stack (inl (inl (inl mine))) = sym mine ∙ same ∙ own.0
        by_stack (inl (inl (inr d))) = absurd (nobody d.by d.registers d.frame d.has d.critical (d.lies ∙ same))
        by_stack (inl (inr none)) =
            let zero_is : p ≡ 0 = sym own.0 ∙ sym same ∙ none in none_some (ap (λ (n : ℕ). numbered img.regs n) (sym zero_is) ∙ lives.is)
        by_stack (inr new) = absurd (omega (arith, own.1, sym own.0 ∙ sym same ∙ new))

-- no operator of a pictured image touches the stack of another process on which nobody depends
pub stacks_apart : (tree : PProgram) (code : Code) (texts : Texts) → AreNested (scopes_of tree) → RestsGoOn →
    (w : World) (lay : Layout) (a : Image) → PicturesBy tree code texts w lay a → IsOk (scopes_of tree) IsWholeInstance w → (p q : ℕ) (r : Registers) (x : Place) → Lives a p r → NobodyDepends a r.stack
    → OperatorTouches code a q x → x.stack ≡ r.stack → q ≡ p
stacks_apart tree code texts nested rests w lay a by ok p q r x lives nobody touches same = touches_own tree code texts nested rests w lay a by ok p q r x lives nobody touches same

-- no operator of a pictured image reads or writes a word in the private part of another process
pub processes_apart : (tree : PProgram) (code : Code) (texts : Texts) → AreNested (scopes_of tree) → RestsGoOn →
    (w : World) (lay : Layout) (a : Image) → PicturesBy tree code texts w lay a → IsOk (scopes_of tree) IsWholeInstance w → (p q : ℕ) (x : Place) (r : Registers) → OperatorTouches code a p x → Lives a q r → IsPrivate r x → p ≡ q
processes_apart tree code texts nested rests w lay a by ok p q x r touches lives private =
    others_stay_private code a p x (own_stacks tree code texts w lay a by) (leads_below tree code texts nested rests w lay a by ok p) touches q r lives private
