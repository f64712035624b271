-- What is known of descriptors and references on a stack holds of a later world as well, in which each instance that it is of keeps its arrays.
use Rattle.std.proofs.Common.{◌≡◌, ◌⊎◌, inl, inr, refl, sym, ap, ◌∙◌, subst, ℕ, zero, suc, ◌+◌, List, [], ◌∷◌, Some, Bool, true, false}
use Rattle.b67_frames.proofs.Prelude.{if◌then◌else◌, slice_get, numbered, EventState, block_numbered, PExpr, Scopes, use_of, same_name, Kind, Named, referred_in, Value, Reference, Bounds, ArrayCell, NameCell, Cell, simple, event, array, named, reference, NamedCell, Instance, World, instance_at, or_no_instance, ancestor, cell_in, cells_with, by_cell, followed, DeclaredArray, Shape, IsInSkeleton, Word, Place, Couple, cell_word, Wanted, simple_cells, found_from, made_base, made_of, made_from, HeldWord, element, variable, cell_named, actual, passed, Known, IsKnown, Allotted, Layout, IsArrayOf, ReferenceLeadsTo, LeadsToEvent, LeadsToVariable, Denotes, named_from, Names, an_array_named, an_event_named, a_variable_named, IsNamed, IsActual, HeldIs, AreKnown, ElementIsIn}
use Rattle.b67_templates.specs.Cells as wants
use Rattle.b67_templates.specs.Cells.{IsOwnActual}
use Rattle.b67_standing.specs.Stepping.{row}
use Rattle.b67_frames.specs.Arrays.{IsRow, IsElement}

-- what is known of a word is so
pub known_is : (sc : Scopes) (w : World) (lay : Layout) (Stand : ℕ → Type 0) (i : ℕ) (known : List Known) → AreKnown sc w lay Stand i known → (held : HeldWord) (word : Word) → IsKnown known held word →
    HeldIs sc w lay Stand i held word
known_is sc w lay Stand i [] are held word is = absurd is
known_is sc w lay Stand i (x ∷ known) are held word (inl same) =
    subst (λ (u : Word). HeldIs sc w lay Stand i held u) same.1 (subst (λ (h : HeldWord). HeldIs sc w lay Stand i h x.word) same.0 are.0)
known_is sc w lay Stand i (x ∷ known) are held word (inr later) = known_is sc w lay Stand i known are.1 held word later

-- ---- what a parameter's cell stands for

-- it has a reference, or names an actual
pub data HasReferred (wanted : Wanted) (c : Cell) : Type 0 where
  has_reference : (r : Reference) → c ≡ reference r → HasReferred wanted c
  has_actual : (kind : Kind) (a : NameCell) → wanted ≡ wants.by_name kind → c ≡ named a → HasReferred wanted c

pub referred_denoted : (sc : Scopes) (w : World) (lay : Layout) (Stand : ℕ → Type 0) (wanted : Wanted) (c : Cell) (word : Word) → Denotes sc w lay Stand wanted c word → HasReferred wanted c
referred_denoted sc w lay Stand (wants.array shape) (reference r) word is = has_reference r refl
referred_denoted sc w lay Stand wants.event (reference r) word is = has_reference r refl
referred_denoted sc w lay Stand (wants.by_name kind) (reference r) word is = has_reference r refl
referred_denoted sc w lay Stand (wants.by_name kind) (named a) word is = has_actual kind a refl refl
referred_denoted sc w lay Stand _ c word is = absurd is

-- so it does where the instances to which it leads stand in another way
pub denotes_so : (sc : Scopes) (w : World) (lay : Layout) (Stand Stand' : ℕ → Type 0) (wanted : Wanted) (c : Cell) (word : Word) → ((j : ℕ) → IsInSkeleton (referred_in c) j → Stand j → Stand' j) →
    Denotes sc w lay Stand wanted c word → Denotes sc w lay Stand' wanted c word
denotes_so sc w lay Stand Stand' (wants.array shape) (reference r) word so h =
    record {
      own = so r.instance (inl refl) h.own;
      declared = h.declared;
      agrees = h.agrees;
      cell = h.cell;
      allotted = h.allotted;
      array = h.array;
      frame = h.frame;
      laid = h.laid;
      word_is = h.word_is;
    }
denotes_so sc w lay Stand Stand' wants.event (reference r) word so h = record { own = so r.instance (inl refl) h.own; made = h.made; frame = h.frame; laid = h.laid; word_is = h.word_is }
denotes_so sc w lay Stand Stand' (wants.by_name kind) (reference r) word so h =
    record { own = so r.instance (inl refl) h.own; found = h.found; there = h.there; wanted_is = h.wanted_is; frame = h.frame; laid = h.laid; word_is = h.word_is }
denotes_so sc w lay Stand Stand' (wants.by_name kind) (named a) word so h =
    record { own = so a.instance (inl refl) h.own; level = h.level; couple = h.couple; stands = h.stands; frame = h.frame; laid = h.laid; word_is = h.word_is }
denotes_so sc w lay Stand Stand' _ c word so h = absurd h

-- an instance that stands so, or none
abbrev pub IsInOrNone : (ℕ → Type 0) → ℕ → Type 0
IsInOrNone Stand j = (j ≡ 0) ⊎ Stand j

module _ (sc : Scopes) (w w' : World) (lay lay' : Layout) where
  -- an array that an instance has by its name stays, with its bounds
  pub record KeepsArray (j : ℕ) (name : List ℕ) (cell : ArrayCell) : Type 0 where
    pub later : ArrayCell
    pub is : cell_in ((instance_at w' j).cells) name ≡ array later
    pub bounds : later.bounds ≡ cell.bounds

  -- an instance keeps its block, its parent, its arrays and their rows, and its events, and its names lead where they led
  pub record KeepsArrays (j : ℕ) : Type 0 where
    pub block : (instance_at w' j).block ≡ (instance_at w j).block
    pub parent : (instance_at w' j).parent ≡ (instance_at w j).parent
    pub arrays : (name : List ℕ) (cell : ArrayCell) → cell_in ((instance_at w j).cells) name ≡ array cell → KeepsArray j name cell
    pub events : (name : List ℕ) (e : EventState) → cell_in ((instance_at w j).cells) name ≡ event e → (later : EventState) × (cell_in ((instance_at w' j).cells) name ≡ event later)
    pub leads : (name : List ℕ) (r : Reference) → by_cell (cell_in ((instance_at w' j).cells) name) r ≡ by_cell (cell_in ((instance_at w j).cells) name) r
    pub rows : (number : ℕ) (a : Allotted) → slice_get (lay.rows j) number ≡ Some a → slice_get (lay'.rows j) number ≡ Some a

  abbrev pub array_lasts : (j : ℕ) (name : List ℕ) (declared : DeclaredArray) (cell : ArrayCell) (a : Allotted) (keeps : KeepsArrays j) (h : IsArrayOf sc w lay j name declared cell a) →
      IsArrayOf sc w' lay' j name declared ((keeps.arrays name cell h.is).later) a
  array_lasts j name declared cell a keeps h =
      record {
        number = h.number;
        found = ap (λ (b : ℕ). made_from 0 (made_of (block_numbered sc.blocks b).decls) name) keeps.block ∙ h.found;
        is = (keeps.arrays name cell h.is).is;
        allotted = keeps.rows h.number a h.allotted;
      }

  -- The instances that stand so keep their arrays and the places of their frames, and stand so later.
  pub record Remain (Stand Stand' : ℕ → Type 0) : Type 0 where
    pub stays : (j : ℕ) → Stand j → Stand' j
    pub keeps : (j : ℕ) → Stand j → KeepsArrays j
    pub places : (j : ℕ) (f : Place) → Stand j → numbered lay.places j ≡ Some f → numbered lay'.places j ≡ Some f

  -- the static parents of an instance stay, and what their names lead to
  pub record Climbs (i : ℕ) : Type 0 where
    pub same : (up : ℕ) → ancestor w' up i ≡ ancestor w up i
    pub leads : (up : ℕ) (name : List ℕ) → followed w' (record { instance = ancestor w up i; name = name }) ≡ followed w (record { instance = ancestor w up i; name = name })

  module _ (Stand Stand' : ℕ → Type 0) (remain : Remain Stand Stand') where
    -- a reference leads where it led
    pub leads_lasts : (shape : Shape) (r : Reference) (word : Word) → ReferenceLeadsTo sc w lay Stand shape r word → ReferenceLeadsTo sc w' lay' Stand' shape r word
    leads_lasts shape r word h =
        let k : KeepsArrays r.instance = remain.keeps r.instance h.own in
        record {
          own = remain.stays r.instance h.own;
          declared = h.declared;
          agrees = h.agrees;
          cell = (k.arrays r.name h.cell h.array.is).later;
          allotted = h.allotted;
          array = array_lasts r.instance r.name h.declared h.cell h.allotted k h.array;
          frame = h.frame;
          laid = remain.places r.instance h.frame h.own h.laid;
          word_is = h.word_is
              ∙ ap (λ (b : ℕ). cell_word (record {
                frame = h.frame;
                index = made_base sc (block_numbered sc.blocks b) + h.array.number;
              })) (sym k.block);
        }

    pub variable_lasts : (kind : Kind) (r : Reference) (word : Word) → LeadsToVariable sc w lay Stand kind r word → LeadsToVariable sc w' lay' Stand' kind r word
    variable_lasts kind r word h =
        record {
          own = remain.stays r.instance h.own;
          found = h.found;
          there = ap (λ (b : ℕ). found_from 0 (simple_cells sc (block_numbered sc.blocks b)) r.name) (remain.keeps r.instance h.own).block ∙ h.there;
          wanted_is = h.wanted_is;
          frame = h.frame;
          laid = remain.places r.instance h.frame h.own h.laid;
          word_is = h.word_is;
        }

    pub event_lasts : (r : Reference) (word : Word) → LeadsToEvent sc w lay Stand r word → LeadsToEvent sc w' lay' Stand' r word
    event_lasts r word h =
        let k : KeepsArrays r.instance = remain.keeps r.instance h.own in
        let still : (later : EventState) × (cell_in ((instance_at w' r.instance).cells) r.name ≡ event later) = k.events r.name h.made.cell h.made.is in
        record {
          own = remain.stays r.instance h.own;
          made = record {
            number = h.made.number;
            found = ap (λ (b : ℕ). made_from 0 (made_of (block_numbered sc.blocks b).decls) r.name) k.block ∙ h.made.found;
            cell = still.0;
            is = still.1;
          };
          frame = h.frame;
          laid = remain.places r.instance h.frame h.own h.laid;
          word_is = h.word_is
              ∙ ap (λ (b : ℕ). cell_word (record {
                frame = h.frame;
                index = made_base sc (block_numbered sc.blocks b) + h.made.number;
              })) (sym k.block);
        }

    actual_lasts : (i : ℕ) (e : PExpr) (kind : Kind) (word : Word) → IsActual sc w lay Stand i e kind word → IsActual sc w' lay' Stand' i e kind word
    actual_lasts i e kind word h =
        record {
          own = remain.stays i h.own;
          level = h.level;
          couple = h.couple;
          stands = subst (λ (b : ℕ). IsOwnActual sc b h.level e kind h.couple) (sym (remain.keeps i h.own).block) h.stands;
          frame = h.frame;
          laid = remain.places i h.frame h.own h.laid;
          word_is = h.word_is;
        }

    pub denotes_lasts : (wanted : Wanted) (c : Cell) (word : Word) → Denotes sc w lay Stand wanted c word → Denotes sc w' lay' Stand' wanted c word
    denotes_lasts (wants.array shape) (reference r) word h = leads_lasts shape r word h
    denotes_lasts wants.event (reference r) word h = event_lasts r word h
    denotes_lasts (wants.by_name kind) (reference r) word h = variable_lasts kind r word h
    denotes_lasts (wants.by_name kind) (named a) word h = actual_lasts a.instance a.actual kind word h
    denotes_lasts _ c word h = absurd h

    module _ (i : ℕ) (climbs : Climbs i) where
      home_lasts : (n : Named) → followed w' (named_from sc w' lay' i n) ≡ followed w (named_from sc w lay i n)
      home_lasts n =
          ap (λ (j : ℕ). followed w' (record { instance = j; name = n.name })) (climbs.same ((use_of sc n).up))
          ∙ climbs.leads ((use_of sc n).up) n.name

      row_lasts : (n : Named) (ks : List ℕ) (word : Word) → IsRow sc w lay Stand i n ks word → IsRow sc w' lay' Stand' i n ks word
      row_lasts n ks word h =
          let k : KeepsArrays h.home.instance = remain.keeps h.home.instance h.own in
          record {
            home = h.home;
            home_is = h.home_is ∙ sym (home_lasts n);
            own = remain.stays h.home.instance h.own;
            declared = h.declared;
            cell = (k.arrays h.home.name h.cell h.array.is).later;
            allotted = h.allotted;
            array = array_lasts h.home.instance h.home.name h.declared h.cell h.allotted k h.array;
            first = h.first;
            second = h.second;
            bounds = (k.arrays h.home.name h.cell h.array.is).bounds ∙ h.bounds;
            index = h.index;
            subscripts = h.subscripts;
            within = h.within;
            number = h.number;
            part = h.part;
            few = h.few;
            word_is = h.word_is;
          }

      element_lasts : (r : Reference) (ks : List ℕ) (kind : Kind) (word : Word) → IsElement sc w lay Stand r ks kind word → IsElement sc w' lay' Stand' r ks kind word
      element_lasts r ks kind word h =
          let k : KeepsArrays r.instance = remain.keeps r.instance h.own in
          record {
            own = remain.stays r.instance h.own;
            declared = h.declared;
            kind_is = h.kind_is;
            cell = (k.arrays r.name h.cell h.array.is).later;
            allotted = h.allotted;
            array = array_lasts r.instance r.name h.declared h.cell h.allotted k h.array;
            index = h.index;
            at = h.at;
            within = subst (λ (bs : List Bounds). ElementIsIn sc w lay bs ks h.index h.at) (sym (k.arrays r.name h.cell h.array.is).bounds) h.within;
            number = h.number;
            part = h.part;
            few = h.few;
            word_is = h.word_is;
          }

      still_names : (level : ℕ) (n : Named) (couple : Couple) → Names sc w lay level n couple → Names sc w' lay' level n couple
      still_names level n couple (an_array_named d is) = an_array_named d is
      still_names level n couple (an_event_named is) = an_event_named is
      still_names level n couple (a_variable_named kind is) = a_variable_named kind is

      named_lasts : (n : Named) (word : Word) → IsNamed sc w lay Stand i n word → IsNamed sc w' lay' Stand' i n word
      named_lasts n word h =
          let up : ℕ = (use_of sc n).up in
          record {
            own = subst (λ (j : ℕ). Stand' j) (sym (climbs.same up)) (remain.stays (ancestor w up i) h.own);
            level = h.level;
            couple = h.couple;
            names = still_names h.level n h.couple h.names;
            frame = h.frame;
            laid = ap (λ (j : ℕ). numbered lay'.places j) (climbs.same up) ∙ remain.places (ancestor w up i) h.frame h.own h.laid;
            word_is = h.word_is;
          }

      held_lasts : (held : HeldWord) (word : Word) → HeldIs sc w lay Stand i held word → HeldIs sc w' lay' Stand' i held word
      held_lasts (row n ks) word h = row_lasts n ks word h
      held_lasts (element r ks kind) word h = element_lasts r ks kind word h
      held_lasts (cell_named n) word h = named_lasts n word h
      held_lasts (actual e kind) word h = actual_lasts i e kind word h
      held_lasts (variable r kind) word h = variable_lasts kind r word h
      held_lasts (passed wanted c) word h = denotes_lasts wanted c word h

      -- so all of it holds later
      pub known_lasts : (known : List Known) → AreKnown sc w lay Stand i known → AreKnown sc w' lay' Stand' i known
      known_lasts [] are = tt
      known_lasts (x ∷ known) are = (held_lasts x.held x.word are.0, known_lasts known are.1)

  -- ---- static parents

  module _ (Stand : ℕ → Type 0) (keeps : (j : ℕ) → Stand j → KeepsArrays j) (next : (j : ℕ) → Stand j → IsInOrNone Stand ((instance_at w j).parent)) where
    parent_same : (j : ℕ) → IsInOrNone Stand j → (instance_at w' j).parent ≡ (instance_at w j).parent
    parent_same j (inl none) = ap (λ (k : ℕ). (instance_at w' k).parent) none ∙ sym (ap (λ (k : ℕ). (instance_at w k).parent) none)
    parent_same j (inr own) = (keeps j own).parent

    next_of : (j : ℕ) → IsInOrNone Stand j → IsInOrNone Stand ((instance_at w j).parent)
    next_of j (inl none) = inl (ap (λ (k : ℕ). (instance_at w k).parent) none)
    next_of j (inr own) = next j own

    names_lead : (j : ℕ) → IsInOrNone Stand j → (name : List ℕ) → followed w' (record { instance = j; name = name }) ≡ followed w (record { instance = j; name = name })
    names_lead j (inl none) name =
        ap (λ (k : ℕ). followed w' (record { instance = k; name = name })) none
        ∙ sym (ap (λ (k : ℕ). followed w (record { instance = k; name = name })) none)
    names_lead j (inr own) name = (keeps j own).leads name (record { instance = j; name = name })

    same_up : (up j : ℕ) → IsInOrNone Stand j → ancestor w' up j ≡ ancestor w up j
    same_up zero j own = refl
    same_up (suc up) j own = ap (λ (k : ℕ). ancestor w' up k) (parent_same j own) ∙ same_up up ((instance_at w j).parent) (next_of j own)

    leads_up : (up j : ℕ) → IsInOrNone Stand j → (name : List ℕ) →
        followed w' (record { instance = ancestor w up j; name = name }) ≡ followed w (record { instance = ancestor w up j; name = name })
    leads_up zero j own name = names_lead j own name
    leads_up (suc up) j own name = leads_up up ((instance_at w j).parent) (next_of j own) name

    pub climbs_in : (i : ℕ) → Stand i → Climbs i
    climbs_in i own = record { same = λ up. same_up up i (inr own); leads = λ up name. leads_up up i (inr own) name }

  -- where all instances keep their arrays
  module _ (keeps : (j : ℕ) → KeepsArrays j) where
    same_parents : (up j : ℕ) → ancestor w' up j ≡ ancestor w up j
    same_parents zero j = refl
    same_parents (suc up) j = ap (λ (k : ℕ). ancestor w' up k) (keeps j).parent ∙ same_parents up ((instance_at w j).parent)

    pub climbs_all : (i : ℕ) → Climbs i
    climbs_all i =
        record {
          same = λ up. same_parents up i;
          leads = λ up name. (keeps (ancestor w up i)).leads name (record { instance = ancestor w up i; name = name });
        }

-- ---- instances that keep their arrays

-- one that stays as it was, with its rows
pub keeps_same : (sc : Scopes) (w w' : World) (lay lay' : Layout) (j : ℕ) → instance_at w' j ≡ instance_at w j → lay'.rows j ≡ lay.rows j → KeepsArrays sc w w' lay lay' j
keeps_same sc w w' lay lay' j same rows =
    record {
      block = ap (λ (x : Instance). x.block) same;
      parent = ap (λ (x : Instance). x.parent) same;
      arrays = λ name cell is. record { later = cell; is = ap (λ (x : Instance). cell_in x.cells name) same ∙ is; bounds = refl };
      events = λ name e is. (e, ap (λ (x : Instance). cell_in x.cells name) same ∙ is);
      leads = λ name r. ap (λ (x : Instance). by_cell (cell_in x.cells name) r) same;
      rows = λ number a there. ap (λ (as' : List Allotted). slice_get as' number) rows ∙ there;
    }

-- what is known is known in a world with the same instances, where those that it is of stand
pub known_of : (sc : Scopes) (w w' : World) (lay : Layout) (Stand Stand' : ℕ → Type 0) → w'.instances ≡ w.instances → ((j : ℕ) → Stand j → Stand' j) → (i : ℕ) (known : List Known) →
    AreKnown sc w lay Stand i known → AreKnown sc w' lay Stand' i known
known_of sc w w' lay Stand Stand' same stays i =
    let keeps : (j : ℕ) → KeepsArrays sc w w' lay lay j = λ j. keeps_same sc w w' lay lay j (ap (λ (xs : List Instance). or_no_instance (numbered xs j)) same) refl in
    known_lasts sc w w' lay lay Stand Stand' (record { stays = stays; keeps = λ j own. keeps j; places = λ j f own laid. laid }) i (climbs_all sc w w' lay lay keeps i)

-- the cells with another one in the first of a name, by whether the first cell has it
abbrev with_cell : Bool → NamedCell → List NamedCell → List ℕ → Cell → List NamedCell
with_cell b c cells name new = if b then record c { cell = new } ∷ cells else c ∷ cells_with cells name new

-- the one is the other cell, where this was the cell that is changed, or it is what it was
abbrev IsEither : Cell → Cell → Cell → Cell → Type 0
IsEither new now was it = ((now ≡ new) × (was ≡ it)) ⊎ (now ≡ was)

abbrev first_of : NamedCell → Bool → Cell → Cell
first_of c b other = if b then c.cell else other

-- what a name means is the other cell, where it meant the one that is changed, or what it was
pub changed_or_not : (cells : List NamedCell) (changed name : List ℕ) (new : Cell) →
    ((cell_in (cells_with cells changed new) name ≡ new) × (cell_in cells name ≡ cell_in cells changed)) ⊎ (cell_in (cells_with cells changed new) name ≡ cell_in cells name)
changed_or_not [] changed name new = inr refl
changed_or_not (c ∷ cells) changed name new = by_names (changed_or_not cells changed name new) (same_name c.name changed) (same_name c.name name) refl refl
  where
    by_names : IsEither new (cell_in (cells_with cells changed new) name) (cell_in cells name) (cell_in cells changed) → (b d : Bool) → same_name c.name changed ≡ b → same_name c.name name ≡ d →
        IsEither new (cell_in (with_cell (same_name c.name changed) c cells changed new) name) (first_of c (same_name c.name name) (cell_in cells name)) (first_of c (same_name c.name changed) (cell_in cells changed))
    by_names rest true true e f =
        inl (
          ap (λ (b : Bool). cell_in (with_cell b c cells changed new) name) e ∙ ap (λ (b : Bool). if b then new else cell_in cells name) f,
          ap (λ (b : Bool). first_of c b (cell_in cells name)) f ∙ ap (λ (b : Bool). first_of c b (cell_in cells changed)) (sym e),
        )
    by_names rest true false e f =
        inr
        (ap (λ (b : Bool). cell_in (with_cell b c cells changed new) name) e
        ∙ ap (λ (b : Bool). if b then new else cell_in cells name) f
        ∙ ap (λ (b : Bool). first_of c b (cell_in cells name)) (sym f))
    by_names rest false true e f =
        inr
        (ap (λ (b : Bool). cell_in (with_cell b c cells changed new) name) e
        ∙ ap (λ (b : Bool). first_of c b (cell_in (cells_with cells changed new) name)) f
        ∙ ap (λ (b : Bool). first_of c b (cell_in cells name)) (sym f))
    by_names rest false false e f =
        subst (λ (b : Bool). IsEither new (cell_in (with_cell b c cells changed new) name) (first_of c (same_name c.name name) (cell_in cells name)) (first_of c b (cell_in cells changed))) (sym e)
        (subst (λ (b : Bool). IsEither new (first_of c b (cell_in (cells_with cells changed new) name)) (first_of c b (cell_in cells name)) (cell_in cells changed)) (sym f) rest)

-- it stays where it is no such cell as the one that is changed
pub other_stays : (cells : List NamedCell) (changed name : List ℕ) (old new it : Cell) → cell_in cells changed ≡ old → (old ≡ it → ⊥) → cell_in cells name ≡ it → cell_in (cells_with cells changed new) name ≡ it
other_stays cells changed name old new it before apart is = by_either (changed_or_not cells changed name new)
  where
    by_either : ((cell_in (cells_with cells changed new) name ≡ new) × (cell_in cells name ≡ cell_in cells changed)) ⊎ (cell_in (cells_with cells changed new) name ≡ cell_in cells name) → cell_in (cells_with cells changed new) name ≡ it
    by_either (inl h) = absurd (apart (sym before ∙ sym h.1 ∙ is))
    by_either (inr h) = h ∙ is

-- a cell that is no reference
abbrev pub IsNoReference : Cell → Type 0
IsNoReference (reference r) = ⊥
IsNoReference c = Unit {0}

-- it leads to itself
pub leads_home : (c : Cell) (r : Reference) → IsNoReference c → by_cell c r ≡ r
leads_home (simple v) r is = refl
leads_home (event e) r is = refl
leads_home (array a) r is = refl
leads_home (named n) r is = refl
leads_home (reference s) r is = absurd is

-- names lead where they led, where a cell that is no reference becomes another one that is none
pub names_stay : (cells : List NamedCell) (changed name : List ℕ) (new : Cell) (r : Reference) → IsNoReference (cell_in cells changed) → IsNoReference new →
    by_cell (cell_in (cells_with cells changed new) name) r ≡ by_cell (cell_in cells name) r
names_stay [] changed name new r before after = refl
names_stay (c ∷ cells) changed name new r before after =
    by_names (names_stay cells changed name new r) (same_name c.name changed) (same_name c.name name) refl refl before
  where
    by_names : (IsNoReference (cell_in cells changed) → IsNoReference new → by_cell (cell_in (cells_with cells changed new) name) r ≡ by_cell (cell_in cells name) r) →
        (b d : Bool) → same_name c.name changed ≡ b → same_name c.name name ≡ d → IsNoReference (if same_name c.name changed then c.cell else cell_in cells changed) →
        by_cell (cell_in (with_cell (same_name c.name changed) c cells changed new) name) r ≡ by_cell (if same_name c.name name then c.cell else cell_in cells name) r
    by_names rest true true e f before =
        ap (λ (b : Bool). by_cell (cell_in (with_cell b c cells changed new) name) r) e
        ∙ ap (λ (b : Bool). by_cell (if b then new else cell_in cells name) r) f
        ∙ leads_home new r after
        ∙ sym (leads_home c.cell r (subst (λ (b : Bool). IsNoReference (if b then c.cell else cell_in cells changed)) e before))
        ∙ ap (λ (b : Bool). by_cell (if b then c.cell else cell_in cells name) r) (sym f)
    by_names rest true false e f before =
        ap (λ (b : Bool). by_cell (cell_in (with_cell b c cells changed new) name) r) e
        ∙ ap (λ (b : Bool). by_cell (if b then new else cell_in cells name) r) f
        ∙ ap (λ (b : Bool). by_cell (if b then c.cell else cell_in cells name) r) (sym f)
    by_names rest false true e f before =
        ap (λ (b : Bool). by_cell (cell_in (with_cell b c cells changed new) name) r) e
        ∙ ap (λ (b : Bool). by_cell (if b then c.cell else cell_in (cells_with cells changed new) name) r) f
        ∙ ap (λ (b : Bool). by_cell (if b then c.cell else cell_in cells name) r) (sym f)
    by_names rest false false e f before =
        ap (λ (b : Bool). by_cell (cell_in (with_cell b c cells changed new) name) r) e
        ∙ ap (λ (b : Bool). by_cell (if b then c.cell else cell_in (cells_with cells changed new) name) r) f
        ∙ rest (subst (λ (b : Bool). IsNoReference (if b then c.cell else cell_in cells changed)) e before) after
        ∙ ap (λ (b : Bool). by_cell (if b then c.cell else cell_in cells name) r) (sym f)

-- one in which a simple cell changes
pub keeps_stored : (sc : Scopes) (w w' : World) (lay : Layout) (j : ℕ) (name : List ℕ) (u v : Value) → cell_in ((instance_at w j).cells) name ≡ simple u →
    instance_at w' j ≡ record (instance_at w j) { cells = cells_with ((instance_at w j).cells) name (simple v) } → KeepsArrays sc w w' lay lay j
keeps_stored sc w w' lay j name u v before same =
    record {
      block = ap (λ (x : Instance). x.block) same;
      parent = ap (λ (x : Instance). x.parent) same;
      arrays = λ other cell is. record {
        later = cell;
        is = ap (λ (x : Instance). cell_in x.cells other) same ∙ other_stays ((instance_at w j).cells) name other (simple u) (simple v) (array cell) before (λ (clash : simple u ≡ array cell). cc) is;
        bounds = refl;
      };
      events = λ other e is. (e, ap (λ (x : Instance). cell_in x.cells other) same ∙ other_stays ((instance_at w j).cells) name other (simple u) (simple v) (event e) before (λ (clash : simple u ≡ event e). cc) is);
      leads = λ other r.
          ap (λ (x : Instance). by_cell (cell_in x.cells other) r) same
          ∙ names_stay ((instance_at w j).cells) name other (simple v) r (subst (λ (c : Cell). IsNoReference c) (sym before) tt) tt;
      rows = λ number a there. there;
    }
