-- The word that leads to the cell of a variable is read as the place of that cell.
use Rattle.std.proofs.Common.{◌≡◌, sym, ap, ◌∙◌, ℕ, ◌+◌, ◌<◌, ◌∷◌, length, Some, arith}
use Rattle.b67_list.proofs.Lists.{get_within}
use Rattle.b67_scenes.proofs.Prelude.{block_numbered, PProgram, Scopes, scopes_of, Kind, Reference, numbered_small, Word, Place, as_sirw, Code, place, cell_word, simple_cells, AreNested, Texts, some_same, as_many_values, LeadsToVariable, IsInReach}
use Rattle.b67_scenes.proofs.Finding.{Found, found_laid}
use Rattle.b67_scenes.proofs.ArrayPlaces.{cell_read}
use Rattle.b67_scenes.proofs.Scene.{Actor}
use Rattle.b67_scenes.proofs.VariableHomes.{VariableHome, variable_home}

module _ (tree : PProgram) (code : Code) (texts : Texts) (nested : AreNested (scopes_of tree)) (actor : Actor tree code texts) where
  open actor use {w, lay, img, part, outer, s}

  abbrev sc : Scopes
  sc = scopes_of tree

  module _ (r : Reference) (kind : Kind) (word : Word) (leads : LeadsToVariable sc w lay (IsInReach w (part ∷ outer)) kind r word) where
    -- the variable, and that the word names its cell
    pub record NamesVariable : Type 0 where
      pub home : VariableHome tree code texts actor r kind leads.found
      pub word_is : word ≡ cell_word (record { frame = place home.seen_there.found.number (length home.seen_there.found.lies.frame.lower); index = 2 + home.number })
      pub reads : as_sirw word ≡ Some (record { stack = home.seen_there.found.number; displacement = length home.seen_there.found.lies.frame.lower; index = 2 + home.number })

    names_it : VariableHome tree code texts actor r kind leads.found → NamesVariable
    names_it h =
        let f : Found tree code texts w lay img r.instance = h.seen_there.found in
        let high : ℕ = length f.lies.frame.lower in
        let frame_is : leads.frame ≡ place f.number high = some_same (sym leads.laid ∙ found_laid tree code texts w lay img r.instance f) in
        let few_words : h.number < length (simple_cells sc (block_numbered sc.blocks f.lies.owned.framed.instance.block)) =
        omega (
          arith,
          get_within f.lies.owned.framed.values h.number h.word h.value_lies,
          as_many_values (simple_cells sc (block_numbered sc.blocks f.lies.owned.framed.instance.block)) f.lies.owned.framed.simple f.lies.owned.framed.values f.lies.owned.framed.simple_are,
        ) in
        let word_is : word ≡ cell_word (record { frame = place f.number high; index = 2 + h.number }) =
        leads.word_is
        ∙ ap (λ (g : Place). cell_word (record { frame = g; index = 2 + leads.found.number })) frame_is
        ∙ ap (λ (k : ℕ). cell_word (record { frame = place f.number high; index = 2 + k })) h.number_is in
        record {
          home = h;
          word_is = word_is;
          reads =
              ap as_sirw word_is
              ∙ cell_read (record { frame = place f.number high; index = 2 + h.number }) (omega (arith, numbered_small w.processes f.number f.process f.is, s.by.few)) (omega (arith, h.below, f.small))
              (omega (arith, few_words, (nested.each f.lies.owned.framed.instance.block f.lies.owned.framed.known).few));
        }

    pub names_variable : NamesVariable
    names_variable = names_it (variable_home tree code texts actor r kind leads.found leads.there leads.wanted_is leads.own)
