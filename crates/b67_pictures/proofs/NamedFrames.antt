-- The frames that the words of parameters name are those of the instances to which their cells refer.
use Rattle.std.proofs.Common.{◌≡◌, inl, inr, refl, sym, ap, ◌∙◌, subst, ℕ, ◌+◌, ◌^◌, ◌<◌, ◌≤◌, List, [], ◌∷◌, ◌++◌, length, Option, Some, arith}
use Rattle.b67_list.proofs.Lists.{get_within}
use Rattle.b67_pictures.proofs.Prelude.{numbered, block_numbered, PProgram, Scopes, scopes_of, Parameter, MOST_BLOCK_CELLS, referred_in, referred_by, Cell, simple, event, array, named, Instance, World, instance_at, or_no_instance, an_array, an_event, numbered_small, IsOk, IsInSkeleton, IsStanding, IsWholeInstance, Word, Place, as_sirw, Sirw, Code, place, Image, cell_word, named_frames, Simple, Wanted, simple_cells, actuals_of, made_of, AreNested, Texts, some_same, IsAmongPlaces, value_tag, no_sirw, block_few, LeadAll, found_low, Layout, Denotes, CellsAre, Found as FoundFrame, find, found_laid, two_below, PicturesBy}
use Rattle.algol_meaning.specs.Instances as instances
use Rattle.algol_meaning.specs.Value.{reference}
use Rattle.b67_table.specs.Starting.{sirw_frame}
use Rattle.b67_templates.specs.Cells as wants
use Rattle.b67_frames.specs.Frames.{CellIs, Refers}
use Rattle.b67_frames.proofs.MadeArrays.{low_made}
use Rattle.b67_scenes.proofs.ArrayPlaces.{cell_read}

module _ (tree : PProgram) (code : Code) (texts : Texts) (nested : AreNested (scopes_of tree)) (w : World) (lay : Layout) (img : Image) (by : PicturesBy tree code texts w lay img) (ok : IsOk (scopes_of tree) IsWholeInstance w)
    (Stand : ℕ → Type 0) (stands : (i : ℕ) → Stand i → IsStanding w i) where
  abbrev sc : Scopes
  sc = scopes_of tree

  abbrev FoundThere : ℕ → Type 0
  FoundThere i = FoundFrame tree code texts w lay img i

  -- ---- one word

  -- the frame of an instance that stands is one that a reference can name
  pub frame_small : (i : ℕ) → IsStanding w i → (g : Place) → numbered lay.places i ≡ Some g → (g.stack < 2 ^ 10) × (g.at < 2 ^ 16)
  frame_small i st g laid = small (find tree code texts w lay img by ok i st)
    where
      small : FoundThere i → (g.stack < 2 ^ 10) × (g.at < 2 ^ 16)
      small f =
          let same : g ≡ place f.number (length f.lies.frame.lower) = some_same (sym laid ∙ found_laid tree code texts w lay img i f) in (
            omega (arith, ap (λ (x : Place). x.stack) same, numbered_small w.processes f.number f.process f.is, by.few),
            omega (arith, ap (λ (x : Place). x.at) same, two_below tree code texts w lay img i f, f.small),
          )

  block_known : (i : ℕ) → IsStanding w i → (instance_at w i).block < length sc.blocks
  block_known i st = known (find tree code texts w lay img by ok i st)
    where
      known : FoundThere i → (instance_at w i).block < length sc.blocks
      known f = subst (λ (x : Instance). x.block < length sc.blocks) (sym (ap (instance_at w) (sym f.lies.instance_is) ∙ ap or_no_instance f.lies.owned.framed.is)) f.lies.owned.framed.known

  -- the cell refers to one instance, which stands, and the word names its frame
  pub record IsDenoted (c : Cell) (x : Word) : Type 0 where
    pub instance : ℕ
    pub frame : Place
    pub index : ℕ
    pub refers : referred_in c ≡ instance ∷ []
    pub there : IsStanding w instance
    pub laid : numbered lay.places instance ≡ Some frame
    pub reads : as_sirw x ≡ Some (record { stack = frame.stack; displacement = frame.at; index = index })

  denoted_by : (c : Cell) (x : Word) (i : ℕ) (g : Place) (index : ℕ) → referred_in c ≡ i ∷ [] → Stand i → numbered lay.places i ≡ Some g → index < 2 ^ 14 → x ≡ cell_word (record { frame = g; index = index }) → IsDenoted c x
  denoted_by c x i g index refers st laid low is =
      let small = frame_small i (stands i st) g laid in
      record { instance = i; frame = g; index = index; refers = refers; there = stands i st; laid = laid; reads = ap as_sirw is ∙ cell_read (record { frame = g; index = index }) small.0 small.1 low }

  abbrev block : ℕ → ℕ
  block i = (instance_at w i).block

  few : (i : ℕ) → IsStanding w i → length (simple_cells sc (block_numbered sc.blocks (block i))) + (length (wants.procedures (block_numbered sc.blocks (block i)).decls) + length (actuals_of sc (block_numbered sc.blocks (block i)))) + length (made_of (block_numbered sc.blocks (block i)).decls) ≤ MOST_BLOCK_CELLS
  few i st = block_few sc nested (block i) (block_known i st)

  denoted : (o : Wanted) (c : Cell) (x : Word) → Refers o → Denotes sc w lay Stand o c x → IsDenoted c x
  denoted (wants.value k) c x asked d = absurd asked
  denoted (wants.array shape) (reference r) x asked d =
      denoted_by (reference r) x r.instance d.frame (wants.made_base sc (block_numbered sc.blocks (block r.instance)) + d.array.number) refl d.own d.laid
      (omega (arith, few r.instance (stands r.instance d.own), low_made 0 (made_of (block_numbered sc.blocks (block r.instance)).decls) r.name d.array.number (an_array d.declared) d.array.found)) d.word_is
  denoted wants.event (reference r) x asked d =
      denoted_by (reference r) x r.instance d.frame (wants.made_base sc (block_numbered sc.blocks (block r.instance)) + d.made.number) refl d.own d.laid
      (omega (arith, few r.instance (stands r.instance d.own), low_made 0 (made_of (block_numbered sc.blocks (block r.instance)).decls) r.name d.made.number (an_event r.name) d.made.found)) d.word_is
  denoted (wants.by_name kind) (reference r) x asked d =
      denoted_by (reference r) x r.instance d.frame (2 + d.found.number) refl d.own d.laid
      (omega (arith, few r.instance (stands r.instance d.own), found_low 0 (simple_cells sc (block_numbered sc.blocks (block r.instance))) r.name d.found d.there)) d.word_is
  denoted (wants.by_name kind) (named a) x asked d =
      denoted_by (named a) x a.instance d.frame d.couple.index refl d.own d.laid
      (omega (arith, few a.instance (stands a.instance d.own), d.stands.index_is, get_within (actuals_of sc (block_numbered sc.blocks (block a.instance))) d.stands.number (record { expr = a.actual; kind = kind }) d.stands.there)) d.word_is
  denoted (wants.array shape) (simple v) x asked d = absurd d
  denoted (wants.array shape) (event v) x asked d = absurd d
  denoted (wants.array shape) (array v) x asked d = absurd d
  denoted (wants.array shape) (named v) x asked d = absurd d
  denoted wants.event (simple v) x asked d = absurd d
  denoted wants.event (event v) x asked d = absurd d
  denoted wants.event (array v) x asked d = absurd d
  denoted wants.event (named v) x asked d = absurd d
  denoted wants.other c x asked d = elim d [ ]
  denoted (wants.by_name kind) (simple v) x asked d = absurd d
  denoted (wants.by_name kind) (event v) x asked d = absurd d
  denoted (wants.by_name kind) (array v) x asked d = absurd d

  -- ---- all of them

  -- these instances stand, and have these frames
  abbrev pub AreListed : List ℕ → List Place → Type 0
  AreListed [] [] = Unit {0}
  AreListed (i ∷ is) (g ∷ gs) = IsStanding w i × (numbered lay.places i ≡ Some g) × AreListed is gs
  AreListed _ _ = ⊥

  by_frame : (o : Wanted) (c : Cell) (x : Word) → Refers o → (Refers o → Denotes sc w lay Stand o c x) → (is : List ℕ) (gs : List Place) → AreListed is gs → AreListed (referred_in c ++ is) (sirw_frame (as_sirw x) gs)
  by_frame o c x asked leads is gs more =
      let d : IsDenoted c x = denoted o c x asked (leads asked) in
      subst (λ (rs : List ℕ). AreListed (rs ++ is) (sirw_frame (as_sirw x) gs)) (sym d.refers)
      (subst (λ (s : Option Sirw). AreListed (d.instance ∷ is) (sirw_frame s gs)) (sym d.reads) (d.there, d.laid, more))

  one_listed : (o : Wanted) (c : Cell) (x : Word) → CellIs o c x → (Refers o → Denotes sc w lay Stand o c x) → (is : List ℕ) (gs : List Place) → AreListed is gs → AreListed (referred_in c ++ is) (sirw_frame (as_sirw x) gs)
  one_listed (wants.value k) (simple v) x cell leads is gs more = subst (λ (s : Option Sirw). AreListed is (sirw_frame s gs)) (sym (no_sirw x (value_tag v x cell.1))) more
  one_listed (wants.value k) (event v) x cell leads is gs more = absurd cell
  one_listed (wants.value k) (array v) x cell leads is gs more = absurd cell
  one_listed (wants.value k) (reference v) x cell leads is gs more = absurd cell
  one_listed (wants.value k) (named v) x cell leads is gs more = absurd cell
  one_listed wants.other c x cell leads is gs more = elim cell [ ]
  one_listed (wants.array shape) c x cell leads is gs more = by_frame (wants.array shape) c x tt leads is gs more
  one_listed wants.event c x cell leads is gs more = by_frame wants.event c x tt leads is gs more
  one_listed (wants.by_name kind) c x cell leads is gs more = by_frame (wants.by_name kind) c x tt leads is gs more

  -- the cells of parameters and their words
  pub all_listed : (ss : List Simple) (ps : List Parameter) (cells : List Cell) (words : List Word) → length ps ≡ length cells → CellsAre ss (instances.parameter_cells ps cells) words →
      LeadAll sc w lay Stand ss (instances.parameter_cells ps cells) words → AreListed (referred_by cells) (named_frames words)
  all_listed [] [] [] [] many are lead = tt
  all_listed [] [] [] (x ∷ words) many are lead = absurd are
  all_listed (s ∷ ss) [] [] words many are lead = absurd are
  all_listed ss [] (c ∷ cells) words many are lead = absurd (omega (arith, many))
  all_listed ss (q ∷ ps) [] words many are lead = absurd (omega (arith, many))
  all_listed [] (q ∷ ps) (c ∷ cells) words many are lead = absurd are
  all_listed (s ∷ ss) (q ∷ ps) (c ∷ cells) [] many are lead = absurd are
  all_listed (s ∷ ss) (q ∷ ps) (c ∷ cells) (x ∷ words) many are lead =
      one_listed s.wanted c x are.1 lead.0 (referred_by cells) (named_frames words) (all_listed ss ps cells words (omega (arith, many)) are.2 lead.1)

  pub listed_to : (is : List ℕ) (gs : List Place) → AreListed is gs → (i : ℕ) (g : Place) → IsInSkeleton is i → numbered lay.places i ≡ Some g → IsAmongPlaces gs g
  listed_to [] [] are i g m laid = absurd m
  listed_to [] (h ∷ gs) are i g m laid = absurd are
  listed_to (j ∷ is) [] are i g m laid = absurd are
  listed_to (j ∷ is) (h ∷ gs) are i g (inl e) laid = inl (some_same (sym are.1 ∙ ap (λ (k : ℕ). numbered lay.places k) e ∙ laid))
  listed_to (j ∷ is) (h ∷ gs) are i g (inr m) laid = inr (listed_to is gs are.2 i g m laid)

  pub listed_back : (is : List ℕ) (gs : List Place) → AreListed is gs → (g : Place) → IsAmongPlaces gs g → (i : ℕ) × IsInSkeleton is i × IsStanding w i × (numbered lay.places i ≡ Some g)
  listed_back [] [] are g m = absurd m
  listed_back [] (h ∷ gs) are g m = absurd are
  listed_back (j ∷ is) [] are g m = absurd are
  listed_back (j ∷ is) (h ∷ gs) are g (inl e) = (j, inl refl, are.0, are.1 ∙ ap (λ (x : Place). Some x) e)
  listed_back (j ∷ is) (h ∷ gs) are g (inr m) = let there = listed_back is gs are.2 g m in (there.0, inr there.1, there.2, there.3)
