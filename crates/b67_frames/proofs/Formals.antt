-- The cells of the parameters of a procedure that is entered: values, and references that stand for something else.
use Rattle.std.proofs.Common.{◌≡◌, refl, sym, ap, ◌∙◌, subst, ℕ, zero, suc, List, [], ◌∷◌, ◌++◌, Some}
use Rattle.b67_list.proofs.Numbers.{none_some}
use Rattle.b67_frames.proofs.Prelude.{slice_get, map, Scopes, Parameter, Kind, Named, Given, valued, refers, names, Reference, NameCell, Cell, reference, simple, NamedCell, Part, Process, World, DeclaredArray, Shape, shape_of, Word, as_descriptor, Couple, Simple, Wanted, ShapeAgrees, IsVariable, IsDeclaredArray, IsDeclaredEvent, Context, AreTold, cell_named, actual as actual_held, passed as passed_held, Known, some_same, InReferred, Layout, named_from, ReferenceLeadsTo, LeadsToEvent, LeadsToVariable, Denotes, IsNamed, IsActual, AreKnown, CellIs, Refers, CellsAre}
use Rattle.algol_meaning.specs.Value as cells
use Rattle.algol_meaning.specs.Choice.{given_cell, given_cells}
use Rattle.algol_meaning.specs.Instances.{parameter_cells}
use Rattle.algol_meaning.specs.Rest.{passed}
use Rattle.b67_templates.specs.Cells as wants
use Rattle.b67_rows.proofs.GivenWords.{AreFit, none_wanted, a_value, a_name, a_cell, an_event_name, an_event_cell, a_variable, an_actual, a_name_cell, ActualsAre}
use Rattle.b67_rows.proofs.Words.{cell_describes_nothing}
use Rattle.b67_frames.proofs.Knowing.{known_is}
use Rattle.b67_frames.proofs.Zeros.{HaveKinds}

-- ---- cells that stand for something else

module _ (sc : Scopes) (w : World) (lay : Layout) (Stand : ℕ → Type 0) where
  -- of a parameter that does
  abbrev pub LeadsSo : Simple → NamedCell → Word → Type 0
  LeadsSo s c x = Refers s.wanted → Denotes sc w lay Stand s.wanted c.cell x

  abbrev pub LeadAll : List Simple → List NamedCell → List Word → Type 0
  LeadAll [] [] [] = Unit {0}
  LeadAll (s ∷ ss) (c ∷ cells) (x ∷ words) = LeadsSo s c x × LeadAll ss cells words
  LeadAll _ _ _ = ⊥

  -- one of them
  pub lead_there : (ss : List Simple) (cells : List NamedCell) (words : List Word) → LeadAll ss cells words → (k : ℕ) (s : Simple) → slice_get ss k ≡ Some s → Refers s.wanted →
      (c : NamedCell) × (word : Word) × (slice_get cells k ≡ Some c) × (slice_get words k ≡ Some word) × Denotes sc w lay Stand s.wanted c.cell word
  lead_there [] cells words all k s there asked = none_some there
  lead_there (t ∷ ss) [] words all k s there asked = absurd all
  lead_there (t ∷ ss) (c ∷ cells) [] all k s there asked = absurd all
  lead_there (t ∷ ss) (c ∷ cells) (x ∷ words) all zero s there asked =
      let same : t ≡ s = some_same there in
      let one : Denotes sc w lay Stand t.wanted c.cell x = all.0 (subst (λ (u : Simple). Refers u.wanted) (sym same) asked) in
      (c, x, refl, refl, subst (λ (u : Simple). Denotes sc w lay Stand u.wanted c.cell x) same one)
  lead_there (t ∷ ss) (c ∷ cells) (x ∷ words) all (suc k) s there asked = lead_there ss cells words all.1 k s there asked

  pub lead_both : (ss : List Simple) (cells : List NamedCell) (words : List Word) (ss' : List Simple) (cells' : List NamedCell) (words' : List Word) → LeadAll ss cells words → LeadAll ss' cells' words' →
      LeadAll (ss ++ ss') (cells ++ cells') (words ++ words')
  lead_both [] [] [] ss' cells' words' all more = more
  lead_both [] [] (x ∷ words) ss' cells' words' all more = absurd all
  lead_both [] (c ∷ cells) words ss' cells' words' all more = absurd all
  lead_both (s ∷ ss) [] words ss' cells' words' all more = absurd all
  lead_both (s ∷ ss) (c ∷ cells) [] ss' cells' words' all more = absurd all
  lead_both (s ∷ ss) (c ∷ cells) (x ∷ words) ss' cells' words' all more = (all.0, lead_both ss cells words ss' cells' words' all.1 more)

  -- no cell of a kind is such a parameter
  pub kinds_lead : (ss : List Simple) (cells : List NamedCell) (words : List Word) → HaveKinds ss → CellsAre ss cells words → LeadAll ss cells words
  kinds_lead [] [] [] have are = tt
  kinds_lead [] [] (x ∷ words) have are = absurd are
  kinds_lead [] (c ∷ cells) words have are = absurd are
  kinds_lead (s ∷ ss) [] words have are = absurd are
  kinds_lead (s ∷ ss) (c ∷ cells) [] have are = absurd are
  kinds_lead (s ∷ ss) (c ∷ cells) (x ∷ words) have are = ((λ asked. absurd (subst (λ (o : Wanted). Refers o) have.0.1 asked)), kinds_lead ss cells words have.1 are.2)

-- ---- what is given

-- What is known, and where the words of names lead.
pub record ActualsLead (sc : Scopes) (context : Context) (w : World) (lay : Layout) (part : Part) (Stand : ℕ → Type 0) (P : Named → Type 0) : Type 0 where
  pub known : List Known
  pub are : AreKnown sc w lay Stand part.instance known
  pub leads : (n : Named) → P n → (shape : Shape) (d : DeclaredArray) (c : Couple) → IsDeclaredArray sc context.level n d c → ShapeAgrees shape (shape_of d) → (x : Word) → IsNamed sc w lay Stand part.instance n x → ReferenceLeadsTo sc w lay Stand shape (named_from sc w lay part.instance n) x
  pub leads_event : (n : Named) → P n → (c : Couple) → IsDeclaredEvent sc context.level n c → (x : Word) → IsNamed sc w lay Stand part.instance n x → LeadsToEvent sc w lay Stand (named_from sc w lay part.instance n) x
  pub leads_variable : (n : Named) → P n → (kind : Kind) (c : Couple) → IsVariable sc context.level n kind c → (x : Word) → IsNamed sc w lay Stand part.instance n x → LeadsToVariable sc w lay Stand kind (named_from sc w lay part.instance n) x

module _ (sc : Scopes) (context : Context) (w : World) (lay : Layout) (p : ℕ) (q : Process) (part : Part) (outer : List Part) (level home base : ℕ) (Stand : ℕ → Type 0) (P : Named → Type 0) (leading : ActualsLead sc context w lay part Stand P) where
  open leading use {known, are, leads, leads_event, leads_variable}

  -- the cells of the parameters, which have these words
  pub record AreGivenCells (ss : List Simple) (ps : List Parameter) (gs : List Given) (words : List Word) : Type 0 where
    pub cells : CellsAre ss (parameter_cells ps (given_cells sc w p q part outer gs)) words
    pub lead : LeadAll sc w lay Stand ss (parameter_cells ps (given_cells sc w p q part outer gs)) words

  abbrev Words : List Wanted → List Given → List Word → Type 0
  Words wanted gs words = ActualsAre sc known level home base wanted gs words

  -- one more
  one_given : (s : Simple) (ss : List Simple) (q' : Parameter) (ps : List Parameter) (g : Given) (gs : List Given) (x : Word) (words : List Word) → q'.name ≡ s.name →
      CellIs s.wanted (given_cell sc w p q part outer g) x → LeadsSo sc w lay Stand s (record { name = q'.name; cell = given_cell sc w p q part outer g }) x → AreGivenCells ss ps gs words →
      AreGivenCells (s ∷ ss) (q' ∷ ps) (g ∷ gs) (x ∷ words)
  one_given s ss q' ps g gs x words name is lead more = record { cells = (name, is, more.cells); lead = (lead, more.lead) }

  -- one that stands for what is wanted
  referred_given : (s : Simple) (ss : List Simple) (q' : Parameter) (ps : List Parameter) (g : Given) (gs : List Given) (x : Word) (words : List Word) (o : Wanted) (c : Cell) → q'.name ≡ s.name →
      o ≡ s.wanted → given_cell sc w p q part outer g ≡ c → CellIs o c x → Denotes sc w lay Stand o c x → AreGivenCells ss ps gs words → AreGivenCells (s ∷ ss) (q' ∷ ps) (g ∷ gs) (x ∷ words)
  referred_given s ss q' ps g gs x words o c name wanted is plain denotes more =
      one_given s ss q' ps g gs x words name
      (subst (λ (t : Wanted). CellIs t (given_cell sc w p q part outer g) x) wanted (subst (λ (d : Cell). CellIs o d x) (sym is) plain))
      (λ asked. subst (λ (t : Wanted). Denotes sc w lay Stand t (given_cell sc w p q part outer g) x) wanted (subst (λ (d : Cell). Denotes sc w lay Stand o d x) (sym is) denotes)) more

  -- of an array
  array_given : (s : Simple) (ss : List Simple) (q' : Parameter) (ps : List Parameter) (g : Given) (gs : List Given) (x : Word) (words : List Word) (shape : Shape) (r : Reference) → q'.name ≡ s.name →
      wants.array shape ≡ s.wanted → given_cell sc w p q part outer g ≡ reference r → ReferenceLeadsTo sc w lay Stand shape r x → AreGivenCells ss ps gs words →
      AreGivenCells (s ∷ ss) (q' ∷ ps) (g ∷ gs) (x ∷ words)
  array_given s ss q' ps g gs x words shape r name wanted is lead more =
      referred_given s ss q' ps g gs x words (wants.array shape) (reference r) name wanted is (ap as_descriptor lead.word_is ∙ cell_describes_nothing _) lead more

  -- of an event
  event_given : (s : Simple) (ss : List Simple) (q' : Parameter) (ps : List Parameter) (g : Given) (gs : List Given) (x : Word) (words : List Word) (r : Reference) → q'.name ≡ s.name →
      wants.event ≡ s.wanted → given_cell sc w p q part outer g ≡ reference r → LeadsToEvent sc w lay Stand r x → AreGivenCells ss ps gs words →
      AreGivenCells (s ∷ ss) (q' ∷ ps) (g ∷ gs) (x ∷ words)
  event_given s ss q' ps g gs x words r name wanted is lead more =
      referred_given s ss q' ps g gs x words wants.event (reference r) name wanted is (ap as_descriptor lead.word_is ∙ cell_describes_nothing _) lead more

  -- of a variable
  variable_given : (s : Simple) (ss : List Simple) (q' : Parameter) (ps : List Parameter) (g : Given) (gs : List Given) (x : Word) (words : List Word) (kind : Kind) (r : Reference) → q'.name ≡ s.name →
      wants.by_name kind ≡ s.wanted → given_cell sc w p q part outer g ≡ reference r → LeadsToVariable sc w lay Stand kind r x → AreGivenCells ss ps gs words →
      AreGivenCells (s ∷ ss) (q' ∷ ps) (g ∷ gs) (x ∷ words)
  variable_given s ss q' ps g gs x words kind r name wanted is lead more =
      referred_given s ss q' ps g gs x words (wants.by_name kind) (reference r) name wanted is (ap as_descriptor lead.word_is ∙ cell_describes_nothing _) lead more

  -- of an actual
  actual_given : (s : Simple) (ss : List Simple) (q' : Parameter) (ps : List Parameter) (g : Given) (gs : List Given) (x : Word) (words : List Word) (kind : Kind) (a : NameCell) → q'.name ≡ s.name →
      wants.by_name kind ≡ s.wanted → given_cell sc w p q part outer g ≡ cells.named a → IsActual sc w lay Stand a.instance a.actual kind x → AreGivenCells ss ps gs words →
      AreGivenCells (s ∷ ss) (q' ∷ ps) (g ∷ gs) (x ∷ words)
  actual_given s ss q' ps g gs x words kind a name wanted is lead more =
      referred_given s ss q' ps g gs x words (wants.by_name kind) (cells.named a) name wanted is (ap as_descriptor lead.word_is ∙ cell_describes_nothing _) lead more

  pub given_are : {wanted : List Wanted} {gs : List Given} → AreFit sc context wanted gs → (ss : List Simple) (ps : List Parameter) → AreTold ps ss → wanted ≡ map (λ (c : Simple). c.wanted) ss →
      InReferred P gs → (words : List Word) → Words wanted gs words → AreGivenCells ss ps gs words
  given_are none_wanted [] [] told wanted seen [] is = record { cells = tt; lead = tt }
  given_are none_wanted [] [] told wanted seen (x ∷ words) is = absurd is
  given_are none_wanted [] (q' ∷ ps) told wanted seen words is = absurd told
  given_are none_wanted (s ∷ ss) ps told wanted seen words is = cc
  given_are fit [] (q' ∷ ps) told wanted seen words is = absurd told
  given_are fit (s ∷ ss) [] told wanted seen words is = absurd told
  given_are (a_value kind v fits rest) [] [] told wanted seen words is = cc
  given_are (a_value kind v fits rest) (s ∷ ss) (q' ∷ ps) told wanted seen [] is = absurd is
  given_are (a_value {wanted = others} {gs = gs} kind v fits rest) (s ∷ ss) (q' ∷ ps) told wanted seen (x ∷ words) is =
      let here : wants.value kind ≡ s.wanted = cc in
      let behind : others ≡ map (λ (c : Simple). c.wanted) ss = cc in
      one_given s ss q' ps (valued v) gs x words told.0 (subst (λ (o : Wanted). CellIs o (simple v) x) here (fits, is.0))
      (λ asked. absurd (subst (λ (o : Wanted). Refers o) (sym here) asked)) (given_are rest ss ps told.2 behind seen words is.1)
  given_are (a_name shape n d c array agrees rest) [] [] told wanted seen words is = cc
  given_are (a_name shape n d c array agrees rest) (s ∷ ss) (q' ∷ ps) told wanted seen [] is = absurd is
  given_are (a_name {wanted = others} {gs = gs} shape n d c array agrees rest) (s ∷ ss) (q' ∷ ps) told wanted seen (x ∷ words) is =
      let here : wants.array shape ≡ s.wanted = cc in
      let behind : others ≡ map (λ (c : Simple). c.wanted) ss = cc in
      array_given s ss q' ps (refers n) gs x words shape (named_from sc w lay part.instance n) told.0 here refl
      (leads n seen.0 shape d c array agrees x (known_is sc w lay Stand part.instance known are (cell_named n) x is.0)) (given_are rest ss ps told.2 behind seen.1 words is.1)
  given_are (a_cell shape r rest) [] [] told wanted seen words is = cc
  given_are (a_cell shape r rest) (s ∷ ss) (q' ∷ ps) told wanted seen [] is = absurd is
  given_are (a_cell {wanted = others} {gs = gs} shape r rest) (s ∷ ss) (q' ∷ ps) told wanted seen (x ∷ words) is =
      let here : wants.array shape ≡ s.wanted = cc in
      let behind : others ≡ map (λ (c : Simple). c.wanted) ss = cc in
      array_given s ss q' ps (passed (reference r)) gs x words shape r told.0 here refl (known_is sc w lay Stand part.instance known are (passed_held (wants.array shape) (reference r)) x is.0)
      (given_are rest ss ps told.2 behind seen words is.1)
  given_are (an_event_name n c v rest) [] [] told wanted seen words is = cc
  given_are (an_event_name n c v rest) (s ∷ ss) (q' ∷ ps) told wanted seen [] is = absurd is
  given_are (an_event_name {wanted = others} {gs = gs} n c v rest) (s ∷ ss) (q' ∷ ps) told wanted seen (x ∷ words) is =
      let here : wants.event ≡ s.wanted = cc in
      let behind : others ≡ map (λ (c : Simple). c.wanted) ss = cc in
      event_given s ss q' ps (refers n) gs x words (named_from sc w lay part.instance n) told.0 here refl
      (leads_event n seen.0 c v x (known_is sc w lay Stand part.instance known are (cell_named n) x is.0)) (given_are rest ss ps told.2 behind seen.1 words is.1)
  given_are (an_event_cell r rest) [] [] told wanted seen words is = cc
  given_are (an_event_cell r rest) (s ∷ ss) (q' ∷ ps) told wanted seen [] is = absurd is
  given_are (an_event_cell {wanted = others} {gs = gs} r rest) (s ∷ ss) (q' ∷ ps) told wanted seen (x ∷ words) is =
      let here : wants.event ≡ s.wanted = cc in
      let behind : others ≡ map (λ (c : Simple). c.wanted) ss = cc in
      event_given s ss q' ps (passed (reference r)) gs x words r told.0 here refl (known_is sc w lay Stand part.instance known are (passed_held wants.event (reference r)) x is.0)
      (given_are rest ss ps told.2 behind seen words is.1)
  given_are (a_variable kind n c v rest) [] [] told wanted seen words is = cc
  given_are (a_variable kind n c v rest) (s ∷ ss) (q' ∷ ps) told wanted seen [] is = absurd is
  given_are (a_variable {wanted = others} {gs = gs} kind n c v rest) (s ∷ ss) (q' ∷ ps) told wanted seen (x ∷ words) is =
      let here : wants.by_name kind ≡ s.wanted = cc in
      let behind : others ≡ map (λ (c : Simple). c.wanted) ss = cc in
      variable_given s ss q' ps (refers n) gs x words kind (named_from sc w lay part.instance n) told.0 here refl
      (leads_variable n seen.0 kind c v x (known_is sc w lay Stand part.instance known are (cell_named n) x is.0)) (given_are rest ss ps told.2 behind seen.1 words is.1)
  given_are (an_actual kind e c own rest) [] [] told wanted seen words is = cc
  given_are (an_actual kind e c own rest) (s ∷ ss) (q' ∷ ps) told wanted seen [] is = absurd is
  given_are (an_actual {wanted = others} {gs = gs} kind e c own rest) (s ∷ ss) (q' ∷ ps) told wanted seen (x ∷ words) is =
      let here : wants.by_name kind ≡ s.wanted = cc in
      let behind : others ≡ map (λ (c : Simple). c.wanted) ss = cc in
      actual_given s ss q' ps (names e) gs x words kind (record { actual = e; instance = part.instance }) told.0 here refl
      (known_is sc w lay Stand part.instance known are (actual_held e kind) x is.0) (given_are rest ss ps told.2 behind seen words is.1)
  given_are (a_name_cell kind c fits rest) [] [] told wanted seen words is = cc
  given_are (a_name_cell kind c fits rest) (s ∷ ss) (q' ∷ ps) told wanted seen [] is = absurd is
  given_are (a_name_cell {wanted = others} {gs = gs} kind (reference r) fits rest) (s ∷ ss) (q' ∷ ps) told wanted seen (x ∷ words) is =
      let here : wants.by_name kind ≡ s.wanted = cc in
      let behind : others ≡ map (λ (c : Simple). c.wanted) ss = cc in
      variable_given s ss q' ps (passed (reference r)) gs x words kind r told.0 here refl
      (known_is sc w lay Stand part.instance known are (passed_held (wants.by_name kind) (reference r)) x is.0) (given_are rest ss ps told.2 behind seen words is.1)
  given_are (a_name_cell {wanted = others} {gs = gs} kind (cells.named a) fits rest) (s ∷ ss) (q' ∷ ps) told wanted seen (x ∷ words) is =
      let here : wants.by_name kind ≡ s.wanted = cc in
      let behind : others ≡ map (λ (c : Simple). c.wanted) ss = cc in
      actual_given s ss q' ps (passed (cells.named a)) gs x words kind a told.0 here refl
      (known_is sc w lay Stand part.instance known are (passed_held (wants.by_name kind) (cells.named a)) x is.0) (given_are rest ss ps told.2 behind seen words is.1)
  given_are (a_name_cell kind (simple v) fits rest) (s ∷ ss) (q' ∷ ps) told wanted seen (x ∷ words) is = absurd fits
  given_are (a_name_cell kind (cells.event e) fits rest) (s ∷ ss) (q' ∷ ps) told wanted seen (x ∷ words) is = absurd fits
  given_are (a_name_cell kind (cells.array a) fits rest) (s ∷ ss) (q' ∷ ps) told wanted seen (x ∷ words) is = absurd fits
