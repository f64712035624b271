-- The marks in a process's stack lead to the frames below them that lie there, and to the system's stack.
use Rattle.std.proofs.Common.{◌≡◌, ◌≢◌, ◌⊎◌, inl, inr, refl, sym, ap, ◌∙◌, subst, ℕ, zero, suc, ◌+◌, ◌<◌, ◌≤◌, ◌^◌, List, [], ◌∷◌, ◌++◌, length, Some, Bool, true, false, arith, lit<, length-append}
use Rattle.b67_list.proofs.Lists.{get_within}
use Rattle.b67_frames.proofs.Prelude.{length-reverse, if◌then◌else◌, ◌==◌, slice_get, reverse, numbered, Block, block_numbered, PProgram, Scopes, use_of, same_name, MOST_BLOCK_CELLS, Kind, Named, Value, Bounds, Cell, simple, event, array, named, reference as refers, NamedCell, Instance, Part, World, or_no_instance, Made, an_array, an_event, IsStanding, IsOnPath, Word, Place, as_mscw, as_rcw, event_word, pcw_word, Descriptor, Irw, Pcw, Sirw, intrinsic_number_of, couple_of_intrinsic, Couple, Intrinsic, Code, system_stack, place, cell_word, Simple, Found, simple_cells, found_from, procedures, IsVariable, Wanted, made_of, Yields, AreNested, Texts, HeldWord, element, variable, cell_named, actual, passed, Slot, intrinsic, mark, slots_length, Core, stack_of, ValueIs, Known, IsKnown, SlotsAre, control_words, some_same, value_tag, pcw_kind, Allotted, Layout, DescriptorIs, AreMade, Denotes, HeldIs, AreKnown, CellIs, Refers, CellsAre, block_controls, IsInReach, FrameIsPlaced, outermost, inside, ArePlaced, home_of, Frame, FrameStands, Waits, Around, level_of_part, Owned, of_own, of_lent}
use Rattle.algol_tree.specs.Scopes.{scopes_of}
use Rattle.b67_word.specs.Word.{field}
use Rattle.b67_control.specs.Kind as kind
use Rattle.b67_control.specs.Kind.{kind_of}
use Rattle.b67_control.specs.declared.Mscw.{Mscw}
use Rattle.b67_control.specs.declared.Rcw.{Rcw}
use Rattle.b67_control.specs.Control.{descriptor_word, irw_word, sirw_word}
use Rattle.b67_control.proofs.ControlLaws.{as_rcw_rcw_word, mscw_laws, rcw_laws, as_mscw_mscw_word, tag_zero}
use Rattle.b67_ops.specs.declared.intrinsic.Intrinsic.TheVariants as names
use Rattle.b67_ops.specs.Intrinsics.{intrinsics}
use Rattle.b67_store.specs.Store.{stack_limit}
use Rattle.b67_table.specs.Beginning.{intrinsic_words}
use Rattle.b67_table.specs.PrivateRows.{open_mark}
use Rattle.b67_table.specs.PrivateRows as rows
use Rattle.b67_table.specs.declared.Cell as frame_cells
use Rattle.b67_templates.specs.Cells as wants
use Rattle.b67_templates.specs.Cells.{IsProcedure}
use Rattle.b67_standing.specs.Stepping.{row, operand, reference, control, descriptor}
use Rattle.b67_cores.specs.Cores.{size}
use Rattle.b67_rows.proofs.Words.{event_kind, mark_read}
use Rattle.b67_frames.specs.Frames.{Shape}
use Rattle.b67_frames.proofs.Facts.{HasFacts}
use Rattle.b67_frames.proofs.Lying.{owned_stands, part_in}
use Rattle.b67_faithful.proofs.Sources.{reverse_cons}

-- the number of an intrinsic fits a reference
pub numbers_small : (name : Intrinsic) → intrinsic_number_of name < 2 ^ 14
numbers_small names.GoTo = lit< tt
numbers_small names.Select = lit< tt
numbers_small names.Arrays = lit< tt
numbers_small names.Event = lit< tt
numbers_small names.Start = lit< tt
numbers_small names.Write = lit< tt
numbers_small names.Wait = lit< tt
numbers_small names.Cause = lit< tt
numbers_small names.Reset = lit< tt
numbers_small names.Happened = lit< tt
numbers_small names.Procure = lit< tt
numbers_small names.Liberate = lit< tt
numbers_small names.WaitAny = lit< tt
numbers_small names.CauseAndReset = lit< tt
numbers_small names.Available = lit< tt
numbers_small names.Fix = lit< tt

-- ---- kinds of words

tag_reference : (w : Word) → w.tag ≡ 1 → kind_of w ≡ (if field 47 1 w.bits == 0 then kind.irw else kind.sirw)
unfolding kind_of
tag_reference w e = rw e refl

no_mark : (w : Word) → w.tag ≡ 1 → kind_of w ≢ kind.mscw
no_mark w e k = by_top (field 47 1 w.bits == 0) (sym (tag_reference w e) ∙ k)
  where
    by_top : (b : Bool) → (if b then kind.irw else kind.sirw) ≢ kind.mscw
    by_top true same = cc
    by_top false same = cc

pub tag_descriptor : (w : Word) → w.tag ≡ 5 → kind_of w ≡ kind.descriptor
unfolding kind_of
tag_descriptor w e = rw e refl

pub descriptor_tag : (d : Descriptor) → (descriptor_word d).tag ≡ 5
unfolding descriptor_word
descriptor_tag d = refl

reference_tag : (i : Irw) → (irw_word i).tag ≡ 1
unfolding irw_word
reference_tag i = refl

alike_tag : (s : Sirw) → (sirw_word s).tag ≡ 1
unfolding sirw_word
alike_tag s = refl

-- a word that, where it is a mark, has a link to such a place: its stack, and so high there
pub record LinksTo (Home : ℕ → ℕ → Type 0) (w : Word) : Type 0 where
  pub link : (m : Mscw) → as_mscw w ≡ Some m → Home m.stack m.displacement

-- the places of the system's stack are such
module _ (Home : ℕ → ℕ → Type 0) (root : (n : ℕ) → Home 0 n) where
  -- a word that is no mark
  leads_else : (w : Word) → kind_of w ≢ kind.mscw → LinksTo Home w
  leads_else w no_mark = record { link = λ m e. absurd (no_mark (mscw_laws.kind w m e)) }

  leads_kind : (w : Word) (k : kind.Kind) → kind_of w ≡ k → k ≢ kind.mscw → LinksTo Home w
  leads_kind w k is other = leads_else w (λ e. other (sym is ∙ e))

  value_leads : (v : Value) (w : Word) → ValueIs v w → LinksTo Home w
  value_leads v w is = leads_kind w kind.operand (tag_zero w (value_tag v w is)) (λ e. cc)

  control_leads : (c : Pcw) → LinksTo Home (pcw_word c)
  control_leads c = leads_kind (pcw_word c) kind.pcw (pcw_kind c) (λ e. cc)

  -- the word of an event
  event_leads : LinksTo Home (event_word (record {}))
  event_leads = leads_kind (event_word (record {})) kind.event event_kind (λ e. cc)

  pub descriptor_leads : (d : Descriptor) → LinksTo Home (descriptor_word d)
  descriptor_leads d = leads_kind (descriptor_word d) kind.descriptor (tag_descriptor (descriptor_word d) (descriptor_tag d)) (λ e. cc)

  back_leads : (w : Word) (back : Rcw) → as_rcw w ≡ Some back → LinksTo Home w
  back_leads w back e = leads_kind w kind.rcw (rcw_laws.kind w back e) (λ e. cc)

  reference_leads : (c : Couple) → LinksTo Home (rows.reference c)
  reference_leads c = leads_else (rows.reference c) (no_mark (rows.reference c) (reference_tag (record { level = c.level; index = c.index })))

  -- the reference that is read alike everywhere
  pub cell_word_leads : (c : frame_cells.Cell) → LinksTo Home (cell_word c)
  cell_word_leads c = leads_else (cell_word c) (no_mark (cell_word c) (alike_tag (record { stack = c.frame.stack; displacement = c.frame.at; index = c.index })))

  mark_leads : (w : Word) (m : Mscw) → as_mscw w ≡ Some m → Home m.stack m.displacement → LinksTo Home w
  mark_leads w m e near = record { link = λ n f. subst (λ (x : Mscw). Home x.stack x.displacement) (some_same (sym e ∙ f)) near }

  open_leads : (df : ℕ) → df < 2 ^ 16 → LinksTo Home (open_mark df)
  open_leads df low = mark_leads (open_mark df) (record { entered = false; stack = 0; displacement = 0; df = df }) (mark_read df low) (root 0)

  -- ---- lists of words

  abbrev pub AllLead : List Word → Type 0
  AllLead [] = Unit {0}
  AllLead (w ∷ ws) = LinksTo Home w × AllLead ws

  lead_both : (xs ys : List Word) → AllLead xs → AllLead ys → AllLead (xs ++ ys)
  lead_both [] ys a b = b
  lead_both (x ∷ xs) ys a b = (a.0, lead_both xs ys a.1 b)

  lead_turned : (xs : List Word) → AllLead xs → AllLead (reverse xs)
  lead_turned [] a = tt
  lead_turned (x ∷ xs) a = subst AllLead (sym (reverse_cons x xs)) (lead_both (reverse xs) (x ∷ []) (lead_turned xs a.1) (a.0, tt))

  pub lead_at : (xs : List Word) (n : ℕ) (w : Word) → AllLead xs → slice_get xs n ≡ Some w → LinksTo Home w
  lead_at [] n w a e = cc
  lead_at (x ∷ xs) zero w a e = subst (LinksTo Home) (some_same e) a.0
  lead_at (x ∷ xs) (suc n) w a e = lead_at xs n w a.1 e

  -- ---- the system's stack

  intrinsics_lead : (n : ℕ) (more : List Intrinsic) → AllLead (intrinsic_words n more)
  intrinsics_lead n [] = tt
  intrinsics_lead n (name ∷ more) =
      (control_leads (record { intrinsic = true; names = false; segment = 0; psr = 0; pir = 0; level = 0; number = n }), intrinsics_lead (n + 1) more)

  pub system_leads : AllLead system_stack
  system_leads =
      let m : Mscw = record { entered = true; stack = 0; displacement = 0; df = 0 } in
      let c : Rcw = record { segment = 0; psr = 0; pir = 0; caller_level = 0; caller_cells = 0; own_level = 0 } in (
        mark_leads _ m (as_mscw_mscw_word m (lit< tt, (lit< tt, (lit< tt, tt)))) (root 0),
        (back_leads _ c (as_rcw_rcw_word c (lit< tt, (lit< tt, (lit< tt, (lit< tt, (lit< tt, (lit< tt, tt))))))), intrinsics_lead 2 intrinsics),
      )

  -- ---- cells

  -- a value; of a reference it is known otherwise
  cell_leads : (o : Wanted) (c : Cell) (w : Word) → CellIs o c w → (Refers o → LinksTo Home w) → LinksTo Home w
  cell_leads (wants.array shape) c w is referred = referred tt
  cell_leads (wants.by_name kind) c w is referred = referred tt
  cell_leads wants.event c w is referred = referred tt
  cell_leads (wants.value k) (simple v) w is referred = value_leads v w is.1
  cell_leads (wants.value k) (event e) w is referred = absurd is
  cell_leads (wants.value k) (array a) w is referred = absurd is
  cell_leads (wants.value k) (named n) w is referred = absurd is
  cell_leads (wants.value k) (refers r) w is referred = absurd is
  cell_leads _ c w is referred = absurd is

  cells_lead : (ss : List Simple) (cells : List NamedCell) (words : List Word) → CellsAre ss cells words →
      ((k : ℕ) (s : Simple) (w : Word) → slice_get ss k ≡ Some s → Refers s.wanted → slice_get words k ≡ Some w → LinksTo Home w) → AllLead words
  cells_lead [] [] [] are referred = tt
  cells_lead [] [] (w ∷ words) are referred = absurd are
  cells_lead [] (c ∷ cells) words are referred = absurd are
  cells_lead (s ∷ ss) [] words are referred = absurd are
  cells_lead (s ∷ ss) (c ∷ cells) [] are referred = absurd are
  cells_lead (s ∷ ss) (c ∷ cells) (w ∷ words) are referred =
      (cell_leads s.wanted c.cell w are.1 (λ asked. referred 0 s w refl asked refl), cells_lead ss cells words are.2 (λ k t x there asked lies. referred (suc k) t x there asked lies))

  controls_lead : (pcws : List Pcw) → AllLead (control_words pcws)
  controls_lead [] = tt
  controls_lead (c ∷ pcws) = (control_leads c, controls_lead pcws)

  -- the descriptors of arrays, and the words of events
  array_leads : (bs : List Bounds) (a : Allotted) (w : Word) → DescriptorIs bs a w → LinksTo Home w
  array_leads [] a w is = absurd is
  array_leads (b ∷ []) a w is = subst (LinksTo Home) (sym is.3) (descriptor_leads _)
  array_leads (b ∷ c ∷ []) a w is = subst (LinksTo Home) (sym is.4) (descriptor_leads _)
  array_leads (b ∷ c ∷ d ∷ bs) a w is = absurd is

  arrays_lead : (ds : List Made) (cells : List NamedCell) (as' : List Allotted) (words : List Word) → AreMade ds cells as' words → AllLead words
  arrays_lead ds cells as' [] are = tt
  arrays_lead [] [] [] (w ∷ words) are = absurd are
  arrays_lead [] [] (a ∷ as') (w ∷ words) are = absurd are
  arrays_lead [] (c ∷ cells) as' (w ∷ words) are = absurd are
  arrays_lead (d ∷ ds) [] as' (w ∷ words) are = absurd are
  arrays_lead (d ∷ ds) (c ∷ cells) [] (w ∷ words) are = absurd are
  arrays_lead (an_event name ∷ ds) (c ∷ cells) (a ∷ as') (w ∷ words) are = (subst (LinksTo Home) (sym are.0.word_is) event_leads, arrays_lead ds cells as' words are.1)
  arrays_lead (an_array d ∷ ds) (c ∷ cells) (a ∷ as') (w ∷ words) are = (array_leads are.0.cell.bounds a w are.0.descriptor, arrays_lead ds cells as' words are.1)

-- what is known of descriptors and references is of no marks
abbrev pub KnownLead : (ℕ → ℕ → Type 0) → List Known → Type 0
KnownLead Home known = (h : HeldWord) (x : Word) → IsKnown known h x → LinksTo Home x

module _ (sc : Scopes) (w : World) (lay : Layout) (Home : ℕ → ℕ → Type 0) (root : (n : ℕ) → Home 0 n) (Stand : ℕ → Type 0) (i : ℕ) where
  pub denoted_leads : (wanted : Wanted) (c : Cell) (x : Word) → Denotes sc w lay Stand wanted c x → LinksTo Home x
  denoted_leads (wants.array shape) (refers r) x is = subst (LinksTo Home) (sym is.word_is) (cell_word_leads Home root _)
  denoted_leads wants.event (refers r) x is = subst (LinksTo Home) (sym is.word_is) (cell_word_leads Home root _)
  denoted_leads (wants.by_name kind) (refers r) x is = subst (LinksTo Home) (sym is.word_is) (cell_word_leads Home root _)
  denoted_leads (wants.by_name kind) (named a) x is = subst (LinksTo Home) (sym is.word_is) (cell_word_leads Home root _)
  denoted_leads _ c x is = absurd is

  held_leads : (h : HeldWord) (x : Word) → HeldIs sc w lay Stand i h x → LinksTo Home x
  held_leads (row n ks) x is = subst (LinksTo Home) (sym is.word_is) (descriptor_leads Home root _)
  held_leads (element r ks kind) x is = subst (LinksTo Home) (sym is.word_is) (descriptor_leads Home root _)
  held_leads (cell_named n) x is = subst (LinksTo Home) (sym is.word_is) (cell_word_leads Home root _)
  held_leads (actual e kind) x is = subst (LinksTo Home) (sym is.word_is) (cell_word_leads Home root _)
  held_leads (variable r kind) x is = subst (LinksTo Home) (sym is.word_is) (cell_word_leads Home root _)
  held_leads (passed wanted c) x is = denoted_leads wanted c x is

  pub known_lead : (known : List Known) → AreKnown sc w lay Stand i known → KnownLead Home known
  known_lead [] are h x is = absurd is
  known_lead (k ∷ known) are h x is = by_place is (known_lead known are.1 h x)
    where
      by_place : ((k.held ≡ h) × (k.word ≡ x)) ⊎ IsKnown known h x → (IsKnown known h x → LinksTo Home x) → LinksTo Home x
      by_place (inl same) rest = subst (LinksTo Home) same.1 (held_leads k.held k.word are.0)
      by_place (inr later) rest = rest later

-- ---- references to variables

pub found_low : (k : ℕ) (cells : List Simple) (name : List ℕ) (f : Found) → found_from k cells name ≡ Some f → f.number < k + length cells
found_low k [] name f e = cc
found_low k (c ∷ cells) name f e = by_name (same_name c.name name) e (λ h. found_low (k + 1) cells name f h)
  where
    by_name : (b : Bool) → (if b then Some (record { number = k; cell = c }) else found_from (k + 1) cells name) ≡ Some f → (found_from (k + 1) cells name ≡ Some f → f.number < k + 1 + length cells) → f.number < k + length (c ∷ cells)
    by_name true h later = omega (arith, ap (λ (x : Found). x.number) (some_same h))
    by_name false h later = omega (arith, later h)

-- a number has a block, or the block that it stands for has no cells
abbrev cells_of : Scopes → Block → ℕ
cells_of sc b = length (simple_cells sc b) + length (procedures b.decls) + length (made_of b.decls)

block_or_none : (sc : Scopes) (bs : List Block) (b : ℕ) → (b < length bs) ⊎ (cells_of sc (block_numbered bs b) ≡ 0)
block_or_none sc [] b = inr refl
block_or_none sc (x ∷ bs) zero = inl (omega arith)
block_or_none sc (x ∷ bs) (suc b) = later (block_or_none sc bs b)
  where
    later : (b < length bs) ⊎ (cells_of sc (block_numbered bs b) ≡ 0) → (suc b < length (x ∷ bs)) ⊎ (cells_of sc (block_numbered (x ∷ bs) (suc b)) ≡ 0)
    later (inl low) = inl (omega (arith, low))
    later (inr e) = inr e

module _ (sc : Scopes) (nested : AreNested sc) where
  few_cells : (b : ℕ) → cells_of sc (block_numbered sc.blocks b) ≤ MOST_BLOCK_CELLS
  few_cells b = by_number (block_or_none sc sc.blocks b)
    where
      by_number : (b < length sc.blocks) ⊎ (cells_of sc (block_numbered sc.blocks b) ≡ 0) → cells_of sc (block_numbered sc.blocks b) ≤ MOST_BLOCK_CELLS
      by_number (inl low) = omega (arith, (nested.each b low).few)
      by_number (inr e) = omega (arith, e)

  -- the couples of a variable and of a procedure fit a reference
  pub couple_fits : (level : ℕ) (n : Named) (k : Kind) (c : Couple) → IsVariable sc level n k c → level < 32 → (c.level < 32) × (c.index < 2 ^ 14)
  couple_fits level n k c v known =
      let b : Block = block_numbered sc.blocks ((use_of sc n).block) in
      let low : v.found.number < 0 + length (simple_cells sc b) = found_low 0 (simple_cells sc b) n.name v.found v.there in
      let few : length (simple_cells sc b) + length (procedures b.decls) + length (made_of b.decls) ≤ 400 = few_cells ((use_of sc n).block) in
      (omega (arith, v.level_is, known), omega (arith, v.index_is, low, few))

  pub procedure_fits : (level : ℕ) (n : Named) (callee : ℕ) (c : Couple) → IsProcedure sc level n callee c → level < 32 → (c.level < 32) × (c.index < 2 ^ 14)
  procedure_fits level n callee c is known =
      let b : Block = block_numbered sc.blocks ((use_of sc n).block) in
      let low : is.number < length (procedures b.decls) = get_within (procedures b.decls) is.number is.declared is.there in
      let few : length (simple_cells sc b) + length (procedures b.decls) + length (made_of b.decls) ≤ 400 = few_cells ((use_of sc n).block) in
      (omega (arith, is.level_is, known), omega (arith, is.index_is, low, few))

-- ---- slots

module _ (sc : Scopes) (known : List Known) (Home : ℕ → ℕ → Type 0) (root : (n : ℕ) → Home 0 n) (level home base : ℕ) (described : KnownLead Home known) where
  slots_lead : (slots : List Slot) (words : List Word) → SlotsAre sc known level home base slots words → base + length slots ≤ 2 ^ 16 → AllLead Home root words
  slots_lead [] [] are room = tt
  slots_lead [] (w ∷ ws) are room = absurd are
  slots_lead (slot ∷ slots) [] are room = absurd are
  slots_lead (operand v ∷ slots) (w ∷ ws) are room = (value_leads Home root v w are.0, slots_lead slots ws are.1 (omega (arith, room)))
  slots_lead (reference c ∷ slots) (w ∷ ws) are room = (subst (LinksTo Home) (sym are.0) (reference_leads Home root c), slots_lead slots ws are.1 (omega (arith, room)))
  slots_lead (intrinsic i ∷ slots) (w ∷ ws) are room = (subst (LinksTo Home) (sym are.0) (reference_leads Home root (couple_of_intrinsic i)), slots_lead slots ws are.1 (omega (arith, room)))
  slots_lead (control c ∷ slots) (w ∷ ws) are room = (subst (LinksTo Home) (sym are.0) (control_leads Home root c), slots_lead slots ws are.1 (omega (arith, room)))
  slots_lead (descriptor h ∷ slots) (w ∷ ws) are room = (described h w are.0, slots_lead slots ws are.1 (omega (arith, room)))
  slots_lead (mark ∷ slots) (w ∷ ws) are room = (subst (LinksTo Home) (sym are.0) (open_leads Home root _ (omega (arith, room))), slots_lead slots ws are.1 (omega (arith, room)))

-- ---- the frames of a process

module _ (tree : PProgram) (code : Code) (texts : Texts) (nested : AreNested (scopes_of tree)) (w : World) (lay : Layout) (p : ℕ) where
  abbrev sc : Scopes
  sc = scopes_of tree

  abbrev Outer : List Part → List Word → Word → Word → Yields → Type 0
  Outer parts lower m c wanted = Around tree code texts w lay p parts lower m c wanted

  -- Where the frames of the instances that a process has, and of those on the paths from them, are such places, and those of the system's stack.
  module _ (facts : HasFacts w) (placed : ArePlaced (scopes_of tree) w lay) (Home : ℕ → ℕ → Type 0) (root : (n : ℕ) → Home 0 n) (Has : ℕ → Type 0)
      (own_has : (j : ℕ) (x : Instance) → numbered w.instances j ≡ Some x → x.process ≡ p → x.left ≡ false → Has j) (path_has : (a b : ℕ) → Has a → IsOnPath w a b → Has b)
      (up_path : (j : ℕ) (x : Instance) → numbered w.instances j ≡ Some x → x.left ≡ false → 1 ≤ x.parent → IsOnPath w j x.parent)
      (frames : (i : ℕ) (f : Place) → Has i → numbered lay.places i ≡ Some f → Home f.stack f.at) where
    abbrev IsHome : Place → Type 0
    IsHome f = Home f.stack f.at

    root_near : (home : Place) → Some (place 0 0) ≡ Some home → IsHome home
    root_near home e = subst (λ (f : Place). Home f.stack f.at) (some_same e) (root 0)

    home_near : (j : ℕ) (x : Instance) → numbered w.instances j ≡ Some x → x.process ≡ p → x.left ≡ false → FrameIsPlaced sc w lay x → (home : Place) → home_of sc w lay x.parent ≡ Some home → IsHome home
    home_near j x is own stands (outermost none_up alone) home e = root_near home (sym (ap (home_of sc w lay) none_up) ∙ e)
    home_near j x is own stands (inside up next made) home e = by_parent x.parent e (λ some. up_path j x is stands some)
      where
        by_parent : (i : ℕ) → home_of sc w lay i ≡ Some home → (1 ≤ i → IsOnPath w j i) → IsHome home
        by_parent zero f path = root_near home f
        by_parent (suc i) f path = frames (suc i) home (path_has j (suc i) (own_has j x is own stands) (path (omega arith))) f

    -- the cells of parameters that stand for something else
    formals_lead : (part : Part) (outer : List Part) (at : ℕ) (m c : Word) (cells : List Word) (o : Owned tree code texts w lay p part outer at m c cells) (k : ℕ) (s : Simple) (x : Word) →
        slice_get (simple_cells sc (block_numbered sc.blocks o.framed.instance.block)) k ≡ Some s → Refers s.wanted → slice_get o.framed.values k ≡ Some x → LinksTo Home x
    formals_lead part outer at m c cells o k s x there asked lies =
        let g = o.framed.formals k s there asked in
        subst (LinksTo Home) (some_same (sym g.3 ∙ lies)) (denoted_leads sc w lay Home root (IsStanding w) part.instance s.wanted g.0.cell g.1 g.4)

    owned_leads : (part : Part) (outer : List Part) (at : ℕ) (m c : Word) (cells : List Word) (o : Owned tree code texts w lay p part outer at m c cells) → AllLead Home root (m ∷ c ∷ cells)
    owned_leads part outer at m c cells o = (
      mark_leads Home root m _ o.framed.mark_is (home_near part.instance o.framed.instance o.framed.is o.framed.own o.framed.stands own_placed o.framed.home o.framed.linked),
      (
        back_leads Home root c o.framed.back o.framed.control_is,
        subst (AllLead Home root) (sym o.framed.cells_is)
            (lead_both Home root o.framed.values _ (cells_lead Home root (simple_cells sc (block_numbered sc.blocks o.framed.instance.block)) o.framed.simple o.framed.values o.framed.simple_are
            (formals_lead part outer at m c cells o))
            (lead_both Home root (control_words (block_controls sc o.framed.instance.block o.framed.ats)) o.framed.descriptors
            (controls_lead Home root (block_controls sc o.framed.instance.block o.framed.ats))
            (arrays_lead Home root o.framed.declared o.framed.arrays (lay.rows part.instance) o.framed.descriptors o.framed.made))),
      ),
    )
      where
        own_placed : FrameIsPlaced sc w lay o.framed.instance
        own_placed = subst (λ (x : Instance). FrameIsPlaced sc w lay x) (ap or_no_instance o.framed.is) (placed part.instance (owned_stands tree code texts w lay p facts part outer at m c cells o))

    -- the instance of a frame's part
    part_has : (part : Part) (outer : List Part) (words : List Word) (f : Frame tree code texts w lay p part outer words) → Outer outer f.lower f.mark f.control f.gives → Has part.instance
    part_has part outer words f a =
        part_in tree code texts w lay p Has (suc (length f.lower)) facts.nobody (λ x more at m c cells o low. own_has x.instance o.framed.instance o.framed.is o.framed.own o.framed.stands)
        path_has part outer words f a (omega arith)

    frame_leads : (part : Part) (outer : List Part) (words : List Word) (f : Frame tree code texts w lay p part outer words) → Outer outer f.lower f.mark f.control f.gives → AllLead Home root f.lower → AllLead Home root words
    frame_leads part outer words f a low =
        subst (AllLead Home root) (sym f.words_are) (lead_both Home root f.lower (f.mark ∷ f.control ∷ f.cells) low (by_shape f.shape))
      where
        -- the mark of one that is lent leads to the frame of its instance
        by_shape : Shape tree code texts w lay p part outer (length f.lower) f.mark f.control f.cells f.home f.gives → AllLead Home root (f.mark ∷ f.control ∷ f.cells)
        by_shape (of_own o is) = owned_leads part outer (length f.lower) f.mark f.control f.cells o
        by_shape (of_lent l) = (
          mark_leads Home root f.mark _ f.mark_is (frames part.instance f.home (part_has part outer words f a) l.linked),
          (back_leads Home root f.control f.back f.control_is, subst (AllLead Home root) (sym l.none) tt),
        )

    around_leads : (parts : List Part) (lower : List Word) (m c : Word) (wanted : Yields) → Outer parts lower m c wanted → length lower ≤ 2 ^ 16 → AllLead Home root lower
    around_leads [] lower m c wanted a room = subst (AllLead Home root) (sym a.0) tt
    around_leads (part ∷ outer) lower m c wanted a room =
        let s : Waits tree code texts w lay p part outer lower m c wanted = a.0 in
        let long : length lower ≡ length s.below + length s.words = ap length s.lower_is ∙ length-append s.below (reverse s.words) ∙ ap (λ (n : ℕ). length s.below + n) (length-reverse s.words) in
        let lowest : length s.below ≡ length s.frame.lower + (2 + length s.frame.cells) = ap length s.frame.words_are ∙ length-append s.frame.lower (s.frame.mark ∷ s.frame.control ∷ s.frame.cells) ∙ omega arith in
        let many : length s.words ≡ length s.slots = slots_length sc s.held (level_of_part tree code texts w lay p part) (length s.frame.lower) (length s.below) s.slots s.words s.words_are in
        subst (AllLead Home root) (sym s.lower_is)
        (lead_both Home root s.below (reverse s.words)
        (frame_leads part outer s.below s.frame a.1
        (around_leads outer s.frame.lower s.frame.mark s.frame.control s.frame.gives a.1 (omega (arith, room, long, lowest))))
        (lead_turned Home root s.words (slots_lead sc s.held Home root (level_of_part tree code texts w lay p part) (length s.frame.lower) (length s.below)
        (known_lead sc w lay Home root (IsInReach w (part ∷ outer)) part.instance s.held s.held_are) s.slots s.words s.words_are (omega (arith, room, long, many)))))

    module _ (part : Part) (outer : List Part) (core : Core) (s : FrameStands tree code texts w lay p part outer core) (a : Outer outer s.frame.lower s.frame.mark s.frame.control s.frame.gives) where
      -- so do the words below the floor
      pub below_leads : length s.frame.lower ≤ 2 ^ 16 → AllLead Home root core.below
      below_leads room = frame_leads part outer core.below s.frame a (around_leads outer s.frame.lower s.frame.mark s.frame.control s.frame.gives a room)

      -- and those above it
      pub core_leads : size core ≤ stack_limit → AllLead Home root (stack_of core)
      core_leads room =
          let lowest : length core.below ≡ length s.frame.lower + (2 + length s.frame.cells) = ap length s.frame.words_are ∙ length-append s.frame.lower (s.frame.mark ∷ s.frame.control ∷ s.frame.cells) ∙ omega arith in
          let many : length core.words ≡ length s.slots =
          slots_length sc s.held (level_of_part tree code texts w lay p part) _ (length core.below) s.slots core.words s.there.words_are in
          lead_both Home root core.below (reverse core.words) (below_leads (omega (arith, room, lowest)))
          (lead_turned Home root core.words (slots_lead sc s.held Home root (level_of_part tree code texts w lay p part) _ (length core.below)
          (known_lead sc w lay Home root (IsInReach w (part ∷ outer)) part.instance s.held s.held_are) s.slots core.words s.there.words_are (omega (arith, room, many))))
