use Rattle.std.proofs.Common.{◌≡◌, [], map, reverse, take, drop}
use Rattle.algol_meaning.specs.Events.{joined_all}
use Rattle.algol_cells.specs.SeenCell.{reference}
use Rattle.algol_world.specs.SeenWorld.{world_of}
use Rattle.algol_world.proofs.world.World.join_all.Given as goal

abbrev pub invariant-joining : goal.invariant-joining
invariant-joining l = record {
  joined : joined_all (world_of l.self) l.number (reverse (map reference (take l.r-index l.rs))) (map reference (drop l.r-index l.rs))
      ≡ joined_all (world_of l.initial.self) l.number [] (map reference l.rs);
  before : l.before ≡ l.r-index;
  same : l.self.scopes ≡ l.initial.self.scopes;
}
