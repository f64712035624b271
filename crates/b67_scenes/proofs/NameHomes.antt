-- Where a process finds the cell of a parameter by name, and the variable to whose cell that has a reference, or the code of the actual that it
-- names.
use Rattle.std.proofs.Common.{◌≡◌, ℕ, ◌+◌, ◌∷◌, length, Some, None}
use Rattle.b67_scenes.proofs.Prelude.{PProgram, PExpr, Scopes, scopes_of, Kind, Named, Reference, Cell, reference, instance_at, cell_at, BlockIsSeen, Word, Place, as_sirw, pcw_word, Couple, Code, word_at, place, AreNested, Texts, NearCell, value_tag, pcw_refers_nothing, LeadsToVariable, IsActual, Denotes, named_from, IsInReach}
use Rattle.algol_meaning.specs.Value as meant
use Rattle.algol_meaning.specs.Value.{NameCell}
use Rattle.b67_templates.specs.Cells as wants
use Rattle.b67_templates.specs.Cells.{IsFormalName}
use Rattle.b67_rows.proofs.Words.{no_sirw}
use Rattle.b67_scenes.proofs.Finding.{Found, frame_near, place_near}
use Rattle.b67_scenes.proofs.ActualHomes.{routine_of, ActualHome, actual_home}
use Rattle.b67_scenes.proofs.CellHomes.{CellHome, cell_home}
use Rattle.b67_scenes.proofs.NamedVariables.{NamesVariable, names_variable}
use Rattle.b67_scenes.proofs.Scene.{Actor}
use Rattle.b67_scenes.proofs.Staying.{names_in}

module _ (tree : PProgram) (code : Code) (texts : Texts) (nested : AreNested (scopes_of tree)) (actor : Actor tree code texts) where
  open actor use {w, lay, img, p, part, outer}

  abbrev sc : Scopes
  sc = scopes_of tree

  -- what a name means there, where it is no reference
  abbrev here : Named → Reference
  here n = named_from sc w lay part.instance n

  -- the cell of a parameter by name
  abbrev pub NameCellHome : Named → Kind → Couple → Type 0
  NameCellHome n kind couple = CellHome tree code texts nested actor n (wants.by_name kind) couple

  -- it has a reference to a variable
  pub record NameHome (n : Named) (kind : Kind) (couple : Couple) : Type 0 where
    pub home : NameCellHome n kind couple
    pub r : Reference
    pub cell_is : cell_at w (here n) ≡ reference r
    pub denotes : LeadsToVariable sc w lay (IsInReach w (part ∷ outer)) kind r home.word
    pub named : NamesVariable tree code texts nested actor r kind home.word denotes

  -- it names an actual
  pub record ActualNamed (n : Named) (kind : Kind) (couple : Couple) : Type 0 where
    pub home : NameCellHome n kind couple
    pub a : NameCell
    pub cell_is : cell_at w (here n) ≡ meant.named a
    pub denotes : IsActual sc w lay (IsInReach w (part ∷ outer)) a.instance a.actual kind home.word
    pub actual : ActualHome tree code texts nested actor a.instance a.actual kind home.word denotes

  pub data NameStands (n : Named) (kind : Kind) (couple : Couple) : Type 0 where
    for_variable : NameHome n kind couple → NameStands n kind couple
    for_actual : ActualNamed n kind couple → NameStands n kind couple

  -- the word of the cell refers to another cell, which is near, and the word there to none
  pub record LeadsOn (word : Word) : Type 0 where
    pub at : Place
    pub index : ℕ
    pub refers : as_sirw word ≡ Some (record { stack = at.stack; displacement = at.at; index = index })
    pub near : NearCell p img (record { frame = at; index = index })
    pub reached : Word
    pub lies : word_at img.stacks (place at.stack (at.at + index)) ≡ Some reached
    pub no_further : as_sirw reached ≡ None

  variable_at : (r : Reference) (kind : Kind) (word : Word) (leads : LeadsToVariable sc w lay (IsInReach w (part ∷ outer)) kind r word) → NamesVariable tree code texts nested actor r kind word leads → LeadsOn word
  variable_at r kind word leads named =
      let f : Found tree code texts w lay img r.instance = named.home.seen_there.found in
      record {
        at = place f.number (length f.lies.frame.lower);
        index = 2 + named.home.number;
        refers = named.reads;
        near = (
          frame_near tree code texts w lay img r.instance f p named.home.seen_there.near,
          place_near tree code texts w lay img r.instance f p (length f.lies.frame.lower + (2 + named.home.number)) named.home.seen_there.near named.home.below,
        );
        reached = named.home.word;
        lies = named.home.word_lies;
        no_further = no_sirw named.home.word (value_tag named.home.value named.home.word named.home.word_is);
      }

  -- the reference to a variable
  pub variable_on : (r : Reference) (kind : Kind) (word : Word) → LeadsToVariable (scopes_of tree) w lay (IsInReach w (part ∷ outer)) kind r word → LeadsOn word
  variable_on r kind word leads = variable_at r kind word leads (names_variable tree code texts nested actor r kind word leads)

  actual_at : (i : ℕ) (e : PExpr) (kind : Kind) (word : Word) (denotes : IsActual sc w lay (IsInReach w (part ∷ outer)) i e kind word) → ActualHome tree code texts nested actor i e kind word denotes → LeadsOn word
  actual_at i e kind word denotes actual =
      let f : Found tree code texts w lay img i = actual.seen_there.found in
      record {
        at = place f.number (length f.lies.frame.lower);
        index = denotes.couple.index;
        refers = actual.reads;
        near = (
          frame_near tree code texts w lay img i f p actual.seen_there.near,
          place_near tree code texts w lay img i f p (length f.lies.frame.lower + denotes.couple.index) actual.seen_there.near actual.below,
        );
        reached = pcw_word (routine_of sc ((instance_at w i).block) e actual.at);
        lies = actual.control_lies;
        no_further = pcw_refers_nothing (routine_of sc ((instance_at w i).block) e actual.at);
      }

  -- .. to the code of an actual
  pub actual_on : (i : ℕ) (e : PExpr) (kind : Kind) (word : Word) → IsActual (scopes_of tree) w lay (IsInReach w (part ∷ outer)) i e kind word → LeadsOn word
  actual_on i e kind word denotes = actual_at i e kind word denotes (actual_home tree code texts nested actor i e kind word denotes)

  to_variable : (n : Named) (kind : Kind) (couple : Couple) (h : NameHome n kind couple) → LeadsOn h.home.word
  to_variable n kind couple h = variable_at h.r kind h.home.word h.denotes h.named

  to_actual : (n : Named) (kind : Kind) (couple : Couple) (h : ActualNamed n kind couple) → LeadsOn h.home.word
  to_actual n kind couple h = actual_at h.a.instance h.a.actual kind h.home.word h.denotes h.actual

  module _ (n : Named) (kind : Kind) (couple : Couple) where
    abbrev pub home_of_name : NameStands n kind couple → NameCellHome n kind couple
    home_of_name (for_variable h) = h.home
    home_of_name (for_actual h) = h.home

    -- so does each parameter by name
    pub leads_on : (x : NameStands n kind couple) → LeadsOn (home_of_name x).word
    leads_on (for_variable h) = to_variable n kind couple h
    leads_on (for_actual h) = to_actual n kind couple h

    of_cell : (h : NameCellHome n kind couple) (c : Cell) → cell_at w (here n) ≡ c → Denotes sc w lay (IsInReach w (part ∷ outer)) (wants.by_name kind) c h.word → NameStands n kind couple
    of_cell h (reference r) is denotes =
        for_variable (record {
          home = h;
          r = r;
          cell_is = is;
          denotes = denotes;
          named = names_variable tree code texts nested actor r kind h.word denotes;
        })
    of_cell h (meant.named a) is denotes =
        for_actual (record {
          home = h;
          a = a;
          cell_is = is;
          denotes = denotes;
          actual = actual_home tree code texts nested actor a.instance a.actual kind h.word denotes;
        })
    of_cell h _ is denotes = absurd denotes

    pub name_stands : BlockIsSeen sc ((instance_at w part.instance).block) n → IsFormalName sc (names_in tree w part) n kind couple → NameStands n kind couple
    name_stands seen v =
        let h : NameCellHome n kind couple =
        cell_home tree code texts nested actor (record {
          name = n;
          wanted = wants.by_name kind;
          couple = couple;
          found = v.found;
          refers = tt;
          is_seen = seen;
          named_there = v.there;
          wanted_is = v.wanted_is;
          level_is = v.level_is;
          index_is = v.index_is;
        }) in
        of_cell h h.cell h.cell_is h.denotes
