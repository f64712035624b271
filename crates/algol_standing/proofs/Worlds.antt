-- The laws of worlds: the first is as worlds are, and each action keeps what they are.
use Rattle.algol_tree.specs.Blocks.{block_numbered}
use Rattle.algol_meaning.specs.Statements.{items_of}
use Rattle.algol_standing.specs.Laws.{FirstWorldStands, ChoicesKeepWorlds}
use Rattle.algol_standing.proofs.First.{first_world_low, first_world}
use Rattle.algol_standing.proofs.Choosing.{action_keeps}
use Rattle.algol_standing.proofs.Acting.{first_acts}
use Rattle.algol_standing.proofs.FitLaws.{head_fits, action_fits, start_fits}
use Rattle.algol_standing.proofs.LowLaws.{each_making_low}

pub first_world_stands : FirstWorldStands
first_world_stands sc o =
    record {
      sound = first_world sc o (first_acts sc (items_of (block_numbered sc.blocks 0)));
      fits = start_fits sc o.fit o.parameterless;
      low = first_world_low sc o (first_acts sc (items_of (block_numbered sc.blocks 0)));
    }

pub choices_keep_worlds : ChoicesKeepWorlds
choices_keep_worlds sc w p texts ok goes =
    let sound = action_keeps sc texts.keep w p ok.sound goes (head_fits sc w p ok.sound ok.fits goes) in
    record { sound = sound; fits = action_fits sc w p ok.sound ok.fits goes texts.fit; low = each_making_low sc texts.keep w ok.sound ok.fits p goes sound ok.low }
