use Rattle.std.proofs.Common.{arith, ◌≡◌, ◌≤◌, ◌<◌, length, get_or, ap, ◌∙◌}
use Rattle.algol_meaning.specs.World.{cells_with}
use Rattle.algol_cells.specs.SeenCell as seen
use Rattle.algol_instances.specs.SeenInstance.{instance, named_cells}
use Rattle.algol_instances.proofs.Cells.{with_cell, with_no_cell, displaced_in, displaced_none, place_within}
use Rattle.algol_instances.proofs.instance.Instance.set.Goals as goal

pub returns-in-None : goal.returns-in-None
returns-in-None c =
    let cells = c.args.self.now.cells in
    let cell = seen.cell c.args.cell in
    record {
      displaced = displaced_none cells c.args.name.now cell c.in-None.ensures;
      after = ap (λ (cs : _). record (instance c.args.self.now) { cells = cs }) (with_no_cell cells c.args.name.now cell c.in-None.ensures);
    }

pub returns-in-None-get_mut : goal.returns-in-None-get_mut
returns-in-None-get_mut c =
    let past : length c.args.self.now.cells ≤ c.in-Some.at = rw (← c.items_mut.ensures.shows) c.in-None-get_mut.ensures.item.3 in
    let within : c.in-Some.at < length c.args.self.now.cells = place_within c.args.self.now.cells c.args.name.now c.in-Some.at c.in-Some.ensures in
    absurd (omega (arith, past, within))

pub returns-in-Some-get_mut : goal.returns-in-Some-get_mut
returns-in-Some-get_mut c =
    let cells = c.args.self.now.cells in
    let name = c.args.name.now in
    let x = c.in-Some-get_mut.named.now in
    let item = c.in-Some-get_mut.ensures.item in
    let is : x ≡ get_or cells c.in-Some.at x = rw (← c.items_mut.ensures.shows) (item.3.1 x) in
    record {
      displaced = ap seen.cell c.replace.ensures.value ∙ displaced_in cells name c.in-Some.at x (seen.cell c.args.cell) c.in-Some.ensures is;
      after =
          rw c.items_mut.ensures.shows
          (ap (λ (cs : _). record (instance c.args.self.now) { cells = cs })
          (with_cell cells name c.in-Some.at x c.replace.new.dest c.in-Some.ensures is
          ∙ ap (λ (cell : _). cells_with (named_cells cells) name (seen.cell cell)) c.replace.ensures.after));
    }
